use Rattle.std.proofs.Common.{rules, ◌≡◌, ◌∙◌, ap, List, length, map, arith}
use Rattle.std.specs.Prelude.{Err, Ok}
use Rattle.affine_form.specs.Multipliers.{FarkasMultipliers}
use Rattle.affine_form.specs.System.{AffineSystem}
use Rattle.affine_program.specs.Parts.{meaning}
use Rattle.claims.specs.Claims.{IsRefusal}
use Rattle.dep_quast.specs.Quasts.{trees_of}
use Rattle.footprint_pieces.specs.Pieces.{pieces_of}
use Rattle.joint_partition.specs.Claims.{apart_claims_of, group_systems}
use Rattle.joint_partition.specs.GroupSystems.{listed_systems}
use Rattle.joint_partition.specs.View.{family_of, joint_of}
use Rattle.joint_partition.proofs.GroupLists.{groups-found, listed-same}
use Rattle.joint_partition.proofs.groups_apart.groups_apart.Goals as goal

pub families_apart-requires-clause-enough : goal.families_apart-requires-clause-enough
families_apart-requires-clause-enough c =
    let program = meaning c.args.program.now in
    let trees = trees_of c.args.quasts.now in
    let term = joint_of c.args.term.now in
    let systems : listed_systems program (map family_of c.as_slice-families.result.now) (map pieces_of c.as_slice-lists.result.now) ≡ group_systems program trees term term.families =
    (λ i. listed_systems program (map family_of (c.as_slice-families.ensures.value i)) (map pieces_of (c.as_slice-lists.ensures.value i)))
    ∙ ap (listed_systems program term.families) c.in_ok-lists.ensures.pieces ∙ listed-same program trees term term.families in
    omega (arith, ap (λ (all : List AffineSystem). length all) systems, c.requires.fits.enough, ap (λ (shown : List FarkasMultipliers). length shown) c.as_slice-shown.ensures.value)

pub returns-in_err-families_apart-clause-found : goal.returns-in_err-families_apart-clause-found
returns-in_err-families_apart-clause-found c =
    let program = meaning c.args.program.now in
    let trees = trees_of c.args.quasts.now in
    let term = joint_of c.args.term.now in
    let systems : listed_systems program (map family_of c.as_slice-families.result.now) (map pieces_of c.as_slice-lists.result.now) ≡ group_systems program trees term term.families =
    (λ i. listed_systems program (map family_of (c.as_slice-families.ensures.value i)) (map pieces_of (c.as_slice-lists.ensures.value i)))
    ∙ ap (listed_systems program term.families) c.in_ok-lists.ensures.pieces ∙ listed-same program trees term term.families in
    let r = c.in_err-families_apart.field-0.0 in
    let refused : IsRefusal (apart_claims_of program trees c.args.place.now term) r =
    groups-found program trees term c.args.place.now c.in_ok-list.list _ c.as_slice-shown.result.now (Err r) systems c.in_ok-list.ensures c.as_slice-shown.ensures.value c.in_err-families_apart.ensures in
    search rules

pub returns-clause-found : goal.returns-clause-found
returns-clause-found c =
    let program = meaning c.args.program.now in
    let trees = trees_of c.args.quasts.now in
    let term = joint_of c.args.term.now in
    let systems : listed_systems program (map family_of c.as_slice-families.result.now) (map pieces_of c.as_slice-lists.result.now) ≡ group_systems program trees term term.families =
    (λ i. listed_systems program (map family_of (c.as_slice-families.ensures.value i)) (map pieces_of (c.as_slice-lists.ensures.value i)))
    ∙ ap (listed_systems program term.families) c.in_ok-lists.ensures.pieces ∙ listed-same program trees term term.families in
    groups-found program trees term c.args.place.now c.in_ok-list.list _ c.as_slice-shown.result.now (Ok tt) systems c.in_ok-list.ensures c.as_slice-shown.ensures.value c.in_ok-families_apart.ensures
