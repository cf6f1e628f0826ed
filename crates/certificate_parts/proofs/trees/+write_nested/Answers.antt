use Rattle.std.proofs.Common.{◌≡◌, ◌-◌, ℕ, Ok, sym, subst}
use Rattle.certificate_fit.specs.Limits.{IsNestedTree}
use Rattle.dep_quast.specs.declared.quast.Quast.{Quast}
use Rattle.dep_quast.specs.Tree.{tree_of}
use Rattle.certificate_parts.specs.Nested.{reads_nested}
use Rattle.certificate_parts.specs.Trees.{trees_branch, tree_data}
use Rattle.certificate_parts.proofs.NestedTrees.{test_read}
use Rattle.certificate_parts.proofs.ReadTrees.{test_some, source_read, input_read, empty_read, blank_read}
use Rattle.certificate_parts.proofs.trees.+write_nested.Goals as goal

abbrev IsRead : ℕ → Quast → Type 0
IsRead n quast = reads_nested trees_branch n (tree_data (tree_of quast)) ≡ Ok (tree_of quast)

pub returns-in_ok-value-in-Test-clause-read : goal.returns-in_ok-value-in-Test-clause-read
returns-in_ok-value-in-Test-clause-read t c =
    let n = c.args.left in
    let small = subst (λ (quast : Quast). IsNestedTree n (tree_of quast)) c.in-Test.is c.requires in
    subst (IsRead n) (sym c.in-Test.is)
    (test_read trees_branch n c.in-Test.form (tree_of c.in-Test.yes.value) (tree_of c.in-Test.no.value) (tree_data (tree_of c.in-Test.no.value)) (tree_data (tree_of c.in-Test.yes.value))
    (test_some n c.in-Test.form (tree_of c.in-Test.yes.value) (tree_of c.in-Test.no.value) small) c.in_ok-value-in-Test.ensures.read
    (subst (IsRead (n - 1)) c.deref.ensures c.in_ok-below-in-Test.ensures.read) (subst (IsRead (n - 1)) c.deref-in-Test.ensures c.in_ok-above-in-Test.ensures.read))

pub returns-in_ok-value-in-Source-clause-read : goal.returns-in_ok-value-in-Source-clause-read
returns-in_ok-value-in-Source-clause-read t c = subst (IsRead c.args.left) (sym c.in-Source.is) (source_read c.args.left _ c.in_ok-value-in-Source.ensures.read)

pub returns-in_ok-value-in-Input-clause-read : goal.returns-in_ok-value-in-Input-clause-read
returns-in_ok-value-in-Input-clause-read t c = subst (IsRead c.args.left) (sym c.in-Input.is)
    (input_read c.args.left c.in-Input.earlier.items (rw (← c.put_part-all.ensures.value) c.in_ok-value-in-Input.ensures.read))

pub returns-in_ok-value-in-Empty-clause-read : goal.returns-in_ok-value-in-Empty-clause-read
returns-in_ok-value-in-Empty-clause-read t c = subst (IsRead c.args.left) (sym c.in-Empty.is)
    (empty_read c.args.left c.in-Empty.shown (rw (← c.put_part-all-in-Empty.ensures.value) c.in_ok-value-in-Empty.ensures.read))

pub returns-in_ok-value-in-Blank-clause-read : goal.returns-in_ok-value-in-Blank-clause-read
returns-in_ok-value-in-Blank-clause-read t c = subst (IsRead c.args.left) (sym c.in-Blank.is) (blank_read c.args.left c.in_ok-value-in-Blank.ensures.read)
