use Rattle.std.proofs.Common.{subst, ℕ, List, map}
use Rattle.std.proofs.lemmas.List.{take_all}
use Rattle.flow_deps.specs.declared.wanted.Wanted.TheVariants.{Short}
use Rattle.iolb_model.specs.Form.{AffineForm}
use Rattle.reuse_paths.specs.LeafClaims.{claim_of}
use Rattle.dep_quast.specs.OpenLeaves.{OpenLeaf, is_input}
use Rattle.cold_terms.specs.Entries.{AreClosed, FindsEntry, system_at}
use Rattle.cold_terms.proofs.EntryLaws.{closed-at, closed-more}
use Rattle.cold_terms.proofs.entries.entries_at.Goals as goal

pub returns-in_default : goal.returns-in_default
returns-in_default c =
    let vars : ℕ = c.args.vars in
    let rows : List AffineForm = c.args.rows.now in
    let l : OpenLeaf = c.leaf-item.result in
    let none = subst (FindsEntry c.args.wanted (system_at vars rows l) (is_input l.origin)) c.in_default.is c.in_ok-entry.ensures in
    λ entries h. let e = closed-at Short vars rows c.args.leaves.now entries c.loop-leaf.leaf-index l h c.loop-leaf-test.true c.leaf-item.is in none e.0 e.1

pub loop-leaf-preserved : goal.loop-leaf-preserved
loop-leaf-preserved c =
    let vars : ℕ = c.args.vars in
    let rows : List AffineForm = c.args.rows.now in
    let l : OpenLeaf = c.leaf-item.result in
    let some = subst (FindsEntry c.args.wanted (system_at vars rows l) (is_input l.origin)) c.in-Some.is c.in_ok-entry.ensures in
    closed-more c.args.wanted vars rows c.args.leaves.now c.loop-leaf.all.items c.push.new.self.items c.loop-leaf.leaf-index l c.in-Some.entry c.loop-leaf-test.true c.leaf-item.is c.loop-leaf.invariant some
    c.in_ok-push.ensures.items

pub returns : goal.returns
returns c =
    subst (λ (ls : List OpenLeaf). AreClosed c.args.wanted c.args.vars c.args.rows.now ls (map claim_of c.loop-leaf.all.items))
    (take_all c.loop-leaf.leaf-index c.args.leaves.now c.loop-leaf-test.false) c.loop-leaf.invariant
