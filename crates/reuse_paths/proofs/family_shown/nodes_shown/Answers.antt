use Rattle.std.proofs.Common.{rules, ◌≡◌, ◌∙◌, sym, subst, arith, ap, ℕ, ◌<◌, List, length, map, get_or, zero-add}
use Rattle.std.specs.Global.{Global}
use Rattle.std.specs.Prelude.{Box, Option, Ok, Err, option_map}
use Rattle.std.proofs.lemmas.List.{length-map, get_or-map, drop_all}
use Rattle.claims.specs.Claims.{Claim, IsRefusal, numbered}
use Rattle.claims.proofs.Members.{numbered-ended, numbered-next, numbered-stop}
use Rattle.affine_program.specs.Parts.{meaning}
use Rattle.reuse_paths.specs.declared.family.FamilyNode.{FamilyNode}
use Rattle.reuse_paths.specs.Families.{CreditedNest, FamilyForms, NodeForms, credit_of, family_of, boxed_node}
use Rattle.reuse_paths.specs.FamilyClaims.{node_walk}
use Rattle.reuse_paths.specs.FamilyFits.{NodeFits}
use Rattle.dep_quast.specs.Quasts.{trees_of}
use Rattle.reuse_paths.proofs.FamilyParts.{node-fits, node-reading}
use Rattle.reuse_paths.proofs.family_shown.nodes_shown.Goals as goal

-- a member of the list of nodes, as the code holds it
member : (held nodes : List (Option (Box FamilyNode Global))) (i : ℕ) (d : Option (Box FamilyNode Global)) → held ≡ nodes → i < length held → d ≡ get_or held i d
    → (i < length (map (option_map boxed_node) nodes)) × (option_map boxed_node d ≡ get_or (map (option_map boxed_node) nodes) i (option_map boxed_node d))
member held nodes i d same below is =
    subst (λ (xs : List (Option (Box FamilyNode Global))). (i < length (map (option_map boxed_node) xs)) × (option_map boxed_node d ≡ get_or (map (option_map boxed_node) xs) i (option_map boxed_node d))) same
    (omega (arith, below, length-map held (option_map boxed_node)), ap (option_map boxed_node) is ∙ sym (get_or-map (option_map boxed_node) held i d (option_map boxed_node d) below))

pub node_shown-requires-clause-fits : goal.node_shown-requires-clause-fits
node_shown-requires-clause-fits c = λ here e.
    let program = meaning c.args.program.now in
    let trees = trees_of c.args.quasts.now in
    let credits : List CreditedNest = map credit_of c.args.credits.now in
    let family : FamilyForms = family_of c.args.family.now in
    let node : Option NodeForms = option_map boxed_node c.index-nodes-i.result in
    let there = member c.as_slice-nodes.result.now c.args.family.now.nodes.items c.loop-i.i c.index-nodes-i.result c.as_slice-nodes.ensures.value c.loop-i-test.true c.index-nodes-i.is in
    node-reading program trees credits family c.loop-i.i here node c.requires.fits there.0 there.1 e

pub node_shown-requires-clause-region_fits : goal.node_shown-requires-clause-region_fits
node_shown-requires-clause-region_fits c =
    let program = meaning c.args.program.now in
    let trees = trees_of c.args.quasts.now in
    let credits : List CreditedNest = map credit_of c.args.credits.now in
    let family : FamilyForms = family_of c.args.family.now in
    let node : Option NodeForms = option_map boxed_node c.index-nodes-i.result in
    let there = member c.as_slice-nodes.result.now c.args.family.now.nodes.items c.loop-i.i c.index-nodes-i.result c.as_slice-nodes.ensures.value c.loop-i-test.true c.index-nodes-i.is in
    subst (λ (n : ℕ). NodeFits program trees credits family n node) (zero-add c.loop-i.i) (node-fits program trees credits family 0 c.loop-i.i family.nodes node c.requires.regions_fit there.0 there.1)

pub returns-in_err-node_shown : goal.returns-in_err-node_shown
returns-in_err-node_shown c =
    let program = meaning c.args.program.now in
    let trees = trees_of c.args.quasts.now in
    let credits : List CreditedNest = map credit_of c.args.credits.now in
    let family : FamilyForms = family_of c.args.family.now in
    let each : ℕ → Option NodeForms → List Claim = node_walk program trees credits family c.args.list.now in
    let node : Option NodeForms = option_map boxed_node c.index-nodes-i.result in
    let there = member c.as_slice-nodes.result.now c.args.family.now.nodes.items c.loop-i.i c.index-nodes-i.result c.as_slice-nodes.ensures.value c.loop-i-test.true c.index-nodes-i.is in
    let r = c.in_err-node_shown.field-0.0 in
    let refused : IsRefusal (numbered each 0 family.nodes) r = c.loop-i.invariant (Err r) (numbered-stop each family.nodes c.loop-i.i node there.0 there.1 r c.in_err-node_shown.ensures) in
    search rules

pub loop-i-preserved : goal.loop-i-preserved
loop-i-preserved c = λ found h.
    let program = meaning c.args.program.now in
    let trees = trees_of c.args.quasts.now in
    let credits : List CreditedNest = map credit_of c.args.credits.now in
    let family : FamilyForms = family_of c.args.family.now in
    let each : ℕ → Option NodeForms → List Claim = node_walk program trees credits family c.args.list.now in
    let node : Option NodeForms = option_map boxed_node c.index-nodes-i.result in
    let there = member c.as_slice-nodes.result.now c.args.family.now.nodes.items c.loop-i.i c.index-nodes-i.result c.as_slice-nodes.ensures.value c.loop-i-test.true c.index-nodes-i.is in
    c.loop-i.invariant found
    (numbered-next each family.nodes c.loop-i.i node there.0 there.1 found c.in_ok-node_shown.ensures h)

pub returns : goal.returns
returns c =
    let program = meaning c.args.program.now in
    let trees = trees_of c.args.quasts.now in
    let credits : List CreditedNest = map credit_of c.args.credits.now in
    let family : FamilyForms = family_of c.args.family.now in
    c.loop-i.invariant (Ok tt)
    (numbered-ended (node_walk program trees credits family c.args.list.now) family.nodes c.loop-i.i
    (drop_all c.loop-i.i family.nodes
    (omega (arith, c.loop-i-test.false, length-map c.args.family.now.nodes.items (option_map boxed_node), ap (λ (l : List (Option (Box FamilyNode Global))). length l) c.as_slice-nodes.ensures.value))))
