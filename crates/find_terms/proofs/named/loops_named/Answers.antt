use Rattle.std.proofs.Common.{◌≡◌, sym, ◌∙◌, ap, subst, ℕ, List, length, get_or, nat_eq, arith}
use Rattle.std.specs.List.{list_any}
use Rattle.iolb_model.specs.Form.{AffineForm}
use Rattle.iolb_model.specs.Program.{Access}
use Rattle.affine_program.specs.Parts.{meaning}
use Rattle.dep_quast.specs.Context.{ReadOf, reference_of}
use Rattle.dep_quast.specs.Views.{read_of}
use Rattle.find_terms.specs.Found.{FindsLoop}
use Rattle.find_terms.proofs.NameLaws.{named-all, named-more, named-none, named-not, named-twice}
use Rattle.find_terms.proofs.named.loops_named.Goals as goal

pub loop-subscript-init : goal.loop-subscript-init
loop-subscript-init c = named-none (meaning c.args.program.now) (read_of c.args.reader) c.new-loops.result.items c.new-loops.ensures.items

pub returns-in_default : goal.returns-in_default
returns-in_default c =
    let program = meaning c.args.program.now in
    let reader : ReadOf = read_of c.args.reader in
    let count : ℕ = c.loop-subscript.subscript-index in
    let form : AffineForm = c.subscript-item.result in
    let subs : c.as_slice-subscripts.result.now ≡ (reference_of program reader).subscripts = c.as_slice-subscripts.ensures.value ∙ ap (λ (a : Access). a.subscripts) c.reference.ensures in
    named-not program reader count form c.loop-subscript.loops.items (omega (arith, c.loop-subscript-test.true, ap length subs))
    (c.subscript-item.is ∙ ap (λ (fs : List AffineForm). get_or fs count form) subs) c.loop-subscript.invariant
    (subst (FindsLoop program reader form) c.in_default.is c.in_ok-level.ensures)

pub returns-then-contains : goal.returns-then-contains
returns-then-contains c =
    let program = meaning c.args.program.now in
    let reader : ReadOf = read_of c.args.reader in
    let count : ℕ = c.loop-subscript.subscript-index in
    let form : AffineForm = c.subscript-item.result in
    let level : ℕ = c.in-Some.level in
    let subs : c.as_slice-subscripts.result.now ≡ (reference_of program reader).subscripts = c.as_slice-subscripts.ensures.value ∙ ap (λ (a : Access). a.subscripts) c.reference.ensures in
    let found = subst (FindsLoop program reader form) c.in-Some.is c.in_ok-level.ensures in
    named-twice program reader count form c.loop-subscript.loops.items (omega (arith, c.loop-subscript-test.true, ap length subs))
    (c.subscript-item.is ∙ ap (λ (fs : List AffineForm). get_or fs count form) subs) c.loop-subscript.invariant level found.0 found.1
    (sym (c.contains.ensures.value ∙ ap (list_any (λ (y : ℕ). nat_eq y level)) c.as_slice.ensures.value) ∙ c.if-contains.true)

pub loop-subscript-preserved : goal.loop-subscript-preserved
loop-subscript-preserved c =
    let program = meaning c.args.program.now in
    let reader : ReadOf = read_of c.args.reader in
    let count : ℕ = c.loop-subscript.subscript-index in
    let form : AffineForm = c.subscript-item.result in
    let level : ℕ = c.in-Some.level in
    let subs : c.as_slice-subscripts.result.now ≡ (reference_of program reader).subscripts = c.as_slice-subscripts.ensures.value ∙ ap (λ (a : Access). a.subscripts) c.reference.ensures in
    let found = subst (FindsLoop program reader form) c.in-Some.is c.in_ok-level.ensures in
    named-more program reader count form c.loop-subscript.loops.items (omega (arith, c.loop-subscript-test.true, ap length subs))
    (c.subscript-item.is ∙ ap (λ (fs : List AffineForm). get_or fs count form) subs) c.loop-subscript.invariant level c.push.new.self.items found.0 found.1
    (sym (c.contains.ensures.value ∙ ap (list_any (λ (y : ℕ). nat_eq y level)) c.as_slice.ensures.value) ∙ c.if-contains.false) c.in_ok-push.ensures.items

pub returns : goal.returns
returns c =
    let program = meaning c.args.program.now in
    let reader : ReadOf = read_of c.args.reader in
    let subs : c.as_slice-subscripts.result.now ≡ (reference_of program reader).subscripts = c.as_slice-subscripts.ensures.value ∙ ap (λ (a : Access). a.subscripts) c.reference.ensures in
    named-all program reader c.loop-subscript.subscript-index c.loop-subscript.loops.items (omega (arith, c.loop-subscript-test.false, ap length subs)) c.loop-subscript.invariant
