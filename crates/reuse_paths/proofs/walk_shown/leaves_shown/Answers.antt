use Rattle.std.proofs.Common.{rules, arith, map}
use Rattle.std.specs.Prelude.{Ok, Err}
use Rattle.std.proofs.lemmas.List.{length-map}
use Rattle.claims.specs.Claims.{IsRefusal}
use Rattle.dep_quast.specs.Views.{read_of}
use Rattle.reuse_paths.specs.WalkClaims.{leaves_claims}
use Rattle.reuse_paths.specs.LeafClaims.{claim_of}
use Rattle.reuse_paths.specs.WalkViews.{walk_of}
use Rattle.reuse_paths.proofs.FoundLeaves.{entries-many, entry-fits-at, leaves-ended, leaves-stop, leaves-next}
use Rattle.reuse_paths.proofs.walk_shown.leaves_shown.Goals as goal

pub bounds-entries-i : goal.bounds-entries-i
bounds-entries-i c =
    let walk = walk_of c.args.walking.now in
    omega (arith, c.loop-i-test.true, entries-many walk (read_of c.args.reader) c.args.leaves.now (map claim_of c.args.entries.now) c.requires.entries_fit, length-map c.args.entries.now claim_of)

pub leaf_shown-requires-clause-entry_fits : goal.leaf_shown-requires-clause-entry_fits
leaf_shown-requires-clause-entry_fits c =
    let walk = walk_of c.args.walking.now in
    entry-fits-at walk (read_of c.args.reader) c.args.leaves.now c.args.entries.now c.loop-i.i c.index-leaves-i.result c.index-entries-i.result c.requires.entries_fit c.loop-i-test.true c.index-leaves-i.is c.index-entries-i.is

pub returns-in_err-leaf_shown : goal.returns-in_err-leaf_shown
returns-in_err-leaf_shown c =
    let walk = walk_of c.args.walking.now in
    let reader = read_of c.args.reader in
    let r = c.in_err-leaf_shown.field-0.0 in
    let refused : IsRefusal (leaves_claims c.args.walking.now.condition walk reader c.args.list.now c.args.rows.now 0 c.args.leaves.now (map claim_of c.args.entries.now)) r =
    c.loop-i.invariant (Err r)
    (leaves-stop c.args.walking.now.condition walk reader c.args.list.now c.args.rows.now c.args.leaves.now c.args.entries.now c.loop-i.i c.index-leaves-i.result c.index-entries-i.result c.loop-i-test.true
    (omega (arith, c.loop-i-test.true, entries-many walk reader c.args.leaves.now (map claim_of c.args.entries.now) c.requires.entries_fit, length-map c.args.entries.now claim_of))
    c.index-leaves-i.is c.index-entries-i.is c.in_ok-place.place c.in_ok-place.ensures r c.in_err-leaf_shown.ensures) in
    search rules

pub loop-i-preserved : goal.loop-i-preserved
loop-i-preserved c = λ found h.
    let walk = walk_of c.args.walking.now in
    let reader = read_of c.args.reader in
    c.loop-i.invariant found
    (leaves-next c.args.walking.now.condition walk reader c.args.list.now c.args.rows.now c.args.leaves.now c.args.entries.now c.loop-i.i c.index-leaves-i.result c.index-entries-i.result c.loop-i-test.true
    (omega (arith, c.loop-i-test.true, entries-many walk reader c.args.leaves.now (map claim_of c.args.entries.now) c.requires.entries_fit, length-map c.args.entries.now claim_of))
    c.index-leaves-i.is c.index-entries-i.is c.in_ok-place.place c.in_ok-place.ensures found c.in_ok-leaf_shown.ensures h)

pub returns : goal.returns
returns c =
    c.loop-i.invariant (Ok tt)
    (leaves-ended c.args.walking.now.condition (walk_of c.args.walking.now) (read_of c.args.reader) c.args.list.now c.args.rows.now c.args.leaves.now c.args.entries.now c.loop-i.i c.loop-i-test.false)
