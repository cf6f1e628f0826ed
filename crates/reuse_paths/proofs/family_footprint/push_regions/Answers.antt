use Rattle.std.proofs.Common.{rules, ◌≡◌, ◌≤◌, sym, ap, subst, arith, refl, ℕ, ◌+◌, ◌++◌, List, map, drop, length, zero-add}
use Rattle.std.specs.Global.{Global}
use Rattle.std.specs.Prelude.{Box, Ok, Err, Option, option_map}
use Rattle.std.proofs.lemmas.List.{drop_all, length-map}
use Rattle.claims.specs.Claims.{Claim, IsRefusal, numbered}
use Rattle.claims.proofs.Found.{refused-first}
use Rattle.claims.proofs.Members.{numbered-ended, numbered-from, numbered-next}
use Rattle.reuse_paths.specs.declared.family.FamilyNode.{FamilyNode}
use Rattle.reuse_paths.specs.Families.{boxed_node, node_region}
use Rattle.reuse_paths.specs.FamilyPieces.{regions_pieces}
use Rattle.reuse_paths.specs.FewContexts.{few_region, RegionTakesFit}
use Rattle.footprint_pieces.specs.Pieces.{FootprintPiece, pieces_of}
use Rattle.reuse_paths.specs.Walks.{WalkRegion}
use Rattle.reuse_paths.specs.WalkViews.{walk_of}
use Rattle.reuse_paths.proofs.ToldRegions.{fit-ended, fit-next, region_in, region-at, takes-at, told-ended, told-next}
use Rattle.reuse_paths.proofs.family_footprint.push_regions.Goals as goal

pub loop-i-init : goal.loop-i-init
loop-i-init c = record { so_far = refl; fit = λ h. h; decided = λ found h. h }

pub push_region-requires-clause-takes : goal.push_region-requires-clause-takes
push_region-requires-clause-takes c =
    let walk = walk_of c.args.walking.now in
    let i : ℕ = c.loop-i.i in
    let there = region-at c.args.nodes.now walk.nodes i c.index-nodes-i.result c.requires.nodes c.loop-i-test.true c.index-nodes-i.is in
    subst (λ (n : ℕ). RegionTakesFit walk n (region_in c.index-nodes-i.result)) (zero-add i) (takes-at walk 0 i walk.nodes (region_in c.index-nodes-i.result) c.requires.take there.0 there.1)

pub returns-in_err-push_region-clause-refused : goal.returns-in_err-push_region-clause-refused
returns-in_err-push_region-clause-refused c =
    let walk = walk_of c.args.walking.now in
    let i : ℕ = c.loop-i.i in
    let region : Option WalkRegion = region_in c.index-nodes-i.result in
    let there = region-at c.args.nodes.now walk.nodes i c.index-nodes-i.result c.requires.nodes c.loop-i-test.true c.index-nodes-i.is in
    let each = few_region walk c.args.list.now in
    let r = c.in_err-push_region.field-0.0 in
    let refused : IsRefusal (numbered each 0 walk.nodes) r =
    c.loop-i.invariant.decided (Err r)
    (subst (λ (cs : List Claim). IsRefusal cs r) (sym (numbered-from each walk.nodes i region there.0 there.1))
    (refused-first (each i region) (numbered each (i + 1) (drop (i + 1) walk.nodes)) r c.in_err-push_region.ensures.refused)) in
    search rules

pub loop-i-preserved : goal.loop-i-preserved
loop-i-preserved c =
    let walk = walk_of c.args.walking.now in
    let i : ℕ = c.loop-i.i in
    let region : Option WalkRegion = region_in c.index-nodes-i.result in
    let there = region-at c.args.nodes.now walk.nodes i c.index-nodes-i.result c.requires.nodes c.loop-i-test.true c.index-nodes-i.is in
    let all : List FootprintPiece = pieces_of c.args.pieces.now ++ regions_pieces walk 0 walk.nodes in record {
      so_far = told-next walk walk.nodes i region there.0 there.1 (pieces_of c.loop-i.pieces) (pieces_of c.push_region.new.pieces) all c.in_ok-push_region.ensures.pieces c.loop-i.invariant.so_far;
      fit = λ later. c.loop-i.invariant.fit (fit-next walk walk.nodes i region there.0 there.1 c.in_ok-push_region.ensures.fit later);
      decided = λ found h. c.loop-i.invariant.decided found (numbered-next (few_region walk c.args.list.now) walk.nodes i region there.0 there.1 found c.in_ok-push_region.ensures.few h);
    }

past : (nodes : List (Option WalkRegion)) (held : List (Option (Box FamilyNode Global))) (i : ℕ) → nodes ≡ map node_region (map (option_map boxed_node) held) → length held ≤ i → length nodes ≤ i
past nodes held i e h = omega (arith, h, ap (λ (rs : List (Option WalkRegion)). length rs) e, length-map held (option_map boxed_node), length-map (map (option_map boxed_node) held) node_region)

pub returns-clause-pieces : goal.returns-clause-pieces
returns-clause-pieces c =
    let walk = walk_of c.args.walking.now in
    told-ended walk walk.nodes c.loop-i.i (past walk.nodes c.args.nodes.now c.loop-i.i c.requires.nodes c.loop-i-test.false) (pieces_of c.loop-i.pieces)
    (pieces_of c.args.pieces.now ++ regions_pieces walk 0 walk.nodes) c.loop-i.invariant.so_far

pub returns-clause-fit : goal.returns-clause-fit
returns-clause-fit c =
    let walk = walk_of c.args.walking.now in
    c.loop-i.invariant.fit (fit-ended walk walk.nodes c.loop-i.i (past walk.nodes c.args.nodes.now c.loop-i.i c.requires.nodes c.loop-i-test.false))

pub returns-clause-few : goal.returns-clause-few
returns-clause-few c =
    let walk = walk_of c.args.walking.now in
    c.loop-i.invariant.decided (Ok tt)
    (numbered-ended (few_region walk c.args.list.now) walk.nodes c.loop-i.i (drop_all c.loop-i.i walk.nodes (past walk.nodes c.args.nodes.now c.loop-i.i c.requires.nodes c.loop-i-test.false)))
