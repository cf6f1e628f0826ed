use Rattle.std.proofs.Common.{rules, ◌≡◌, ◌∙◌, ap, sym, subst, arith, ℕ, ◌<◌, List, length, map, get_or, zero-add, Global}
use Rattle.std.specs.Prelude.{Box, Option, Ok, Err, option_map}
use Rattle.std.proofs.lemmas.List.{length-map, get_or-map, drop_all}
use Rattle.claims.specs.Claims.{Claim, IsRefusal, numbered}
use Rattle.claims.proofs.Members.{numbered-ended, numbered-next, numbered-stop}
use Rattle.reuse_paths.specs.declared.walk.Region.{Region}
use Rattle.reuse_paths.specs.ReachClaims.{region_claims}
use Rattle.reuse_paths.specs.WalkSettings.{WalkSetting}
use Rattle.reuse_paths.specs.WalkFits.{RegionFits}
use Rattle.reuse_paths.specs.Walks.{WalkRegion, boxed_region}
use Rattle.reuse_paths.specs.WalkViews.{walk_of}
use Rattle.reuse_paths.proofs.FoundLeaves.{regions-fit-at}
use Rattle.reuse_paths.proofs.walk_shown.regions_shown.Goals as goal

-- a member of the list of regions, as the code holds it
member : (nodes : List (Option (Box Region Global))) (i : ℕ) (d : Option (Box Region Global)) → i < length nodes → d ≡ get_or nodes i d
    → (i < length (map (option_map boxed_region) nodes)) × (option_map boxed_region d ≡ get_or (map (option_map boxed_region) nodes) i (option_map boxed_region d))
member nodes i d below is =
    (omega (arith, below, length-map nodes (option_map boxed_region)), ap (option_map boxed_region) is ∙ sym (get_or-map (option_map boxed_region) nodes i d (option_map boxed_region d) below))

pub region_shown-requires-clause-fits : goal.region_shown-requires-clause-fits
region_shown-requires-clause-fits c = record { setting = c.requires.fits; there = omega (arith, c.loop-i-test.true, c.requires.each); reader = c.requires.readers c.loop-i.i }

pub region_shown-requires-clause-region_fits : goal.region_shown-requires-clause-region_fits
region_shown-requires-clause-region_fits c =
    let walk : WalkSetting = walk_of c.args.walking.now in
    let node : Option WalkRegion = option_map boxed_region c.index-nodes-i.result in
    let there = member c.args.nodes.now c.loop-i.i c.index-nodes-i.result c.loop-i-test.true c.index-nodes-i.is in
    subst (λ (n : ℕ). RegionFits walk n node) (zero-add c.loop-i.i) (regions-fit-at walk 0 c.loop-i.i (map (option_map boxed_region) c.args.nodes.now) node c.requires.regions_fit there.0 there.1)

pub returns-in_err-region_shown : goal.returns-in_err-region_shown
returns-in_err-region_shown c =
    let walk : WalkSetting = walk_of c.args.walking.now in
    let each : ℕ → Option WalkRegion → List Claim = region_claims c.args.walking.now.condition walk c.args.list.now in
    let node : Option WalkRegion = option_map boxed_region c.index-nodes-i.result in
    let there = member c.args.nodes.now c.loop-i.i c.index-nodes-i.result c.loop-i-test.true c.index-nodes-i.is in
    let r = c.in_err-region_shown.field-0.0 in
    let refused : IsRefusal (numbered each 0 (map (option_map boxed_region) c.args.nodes.now)) r = c.loop-i.invariant (Err r) (numbered-stop each (map (option_map boxed_region) c.args.nodes.now) c.loop-i.i node there.0 there.1 r c.in_err-region_shown.ensures) in
    search rules

pub loop-i-preserved : goal.loop-i-preserved
loop-i-preserved c = λ found h.
    let walk : WalkSetting = walk_of c.args.walking.now in
    let each : ℕ → Option WalkRegion → List Claim = region_claims c.args.walking.now.condition walk c.args.list.now in
    let node : Option WalkRegion = option_map boxed_region c.index-nodes-i.result in
    let there = member c.args.nodes.now c.loop-i.i c.index-nodes-i.result c.loop-i-test.true c.index-nodes-i.is in
    c.loop-i.invariant found
    (numbered-next each (map (option_map boxed_region) c.args.nodes.now) c.loop-i.i node there.0 there.1 found c.in_ok-region_shown.ensures h)

pub returns : goal.returns
returns c =
    let walk : WalkSetting = walk_of c.args.walking.now in
    c.loop-i.invariant (Ok tt)
    (numbered-ended (region_claims c.args.walking.now.condition walk c.args.list.now) (map (option_map boxed_region) c.args.nodes.now) c.loop-i.i
    (drop_all c.loop-i.i (map (option_map boxed_region) c.args.nodes.now) (omega (arith, c.loop-i-test.false, length-map c.args.nodes.now (option_map boxed_region)))))
