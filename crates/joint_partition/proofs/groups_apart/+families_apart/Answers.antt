use Rattle.std.proofs.Common.{rules, ◌≡◌, ◌∙◌, sym, ap, List, ◌++◌, map}
use Rattle.affine_form.specs.System.{AffineSystem}
use Rattle.affine_program.specs.Parts.{meaning}
use Rattle.claims.specs.Claims.{IsRefusal}
use Rattle.claims.proofs.Pointless.{claims_from}
use Rattle.footprint_pieces.specs.declared.piece.Piece.{Piece}
use Rattle.footprint_pieces.specs.DisjointClaims.{systems_with_lists}
use Rattle.footprint_pieces.specs.Pieces.{FootprintPiece, piece_of, pieces_of}
use Rattle.footprint_pieces.proofs.PairsFound.{first-go, first-stop}
use Rattle.joint_partition.specs.GroupSystems.{listed_systems, lists_of_others}
use Rattle.joint_partition.specs.Term.{JointFamily}
use Rattle.joint_partition.specs.View.{family_of}
use Rattle.joint_partition.proofs.groups_apart.+families_apart.Goals as goal

pub returns-in_err-others_shown : goal.returns-in_err-others_shown
returns-in_err-others_shown t c =
    let program = meaning c.args.program.now in
    let family : JointFamily = family_of c.in-Some.family.now in
    let families : List JointFamily = map family_of c.in-Some.families.now in
    let lists : List (List FootprintPiece) = map pieces_of c.in-Some-split_first.lists.now in
    let others : List (List FootprintPiece) = lists_of_others family.group families lists in
    let whole : List AffineSystem = listed_systems program (map family_of c.args.families.now) (map pieces_of c.args.lists.now) in
    let here : List AffineSystem = systems_with_lists program (map piece_of c.as_slice-pieces.result.now) others in
    let rest : List AffineSystem = listed_systems program families lists in
    let split : whole ≡ here ++ rest =
    (λ i. listed_systems program (map family_of (c.in-Some.ensures.cases.0 i)) (map pieces_of (c.in-Some-split_first.ensures.cases.0 i)))
    ∙ ap (λ (own : List Piece). systems_with_lists program (map piece_of own) others ++ rest) (sym c.as_slice-pieces.ensures.value) in
    let r = c.in_err-others_shown.field-0.0 in
    let refused : IsRefusal (claims_from 18 c.args.list.now c.args.at.now whole c.args.shown.now) r =
    first-stop 18 c.args.list.now c.args.at.now c.args.at.now whole here rest c.args.shown.now split c.requires.enough r c.in_err-others_shown.ensures.found in
    search rules

pub returns : goal.returns
returns t c =
    let program = meaning c.args.program.now in
    let family : JointFamily = family_of c.in-Some.family.now in
    let families : List JointFamily = map family_of c.in-Some.families.now in
    let lists : List (List FootprintPiece) = map pieces_of c.in-Some-split_first.lists.now in
    let others : List (List FootprintPiece) = lists_of_others family.group families lists in
    let whole : List AffineSystem = listed_systems program (map family_of c.args.families.now) (map pieces_of c.args.lists.now) in
    let here : List AffineSystem = systems_with_lists program (map piece_of c.as_slice-pieces.result.now) others in
    let rest : List AffineSystem = listed_systems program families lists in
    let split : whole ≡ here ++ rest =
    (λ i. listed_systems program (map family_of (c.in-Some.ensures.cases.0 i)) (map pieces_of (c.in-Some-split_first.ensures.cases.0 i)))
    ∙ ap (λ (own : List Piece). systems_with_lists program (map piece_of own) others ++ rest) (sym c.as_slice-pieces.ensures.value) in
    first-go 18 c.args.list.now c.args.at.now c.others_shown.new.at whole here rest c.args.shown.now split c.requires.enough c.in_ok-others_shown.ensures.next c.families_apart.result c.in_ok-others_shown.ensures.found
    c.families_apart.ensures
