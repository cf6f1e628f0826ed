use Rattle.std.proofs.Common.{◌≡◌, ◌∙◌, sym, subst, ◌+◌, List, [], ◌∷◌, drop, length, map}
use Rattle.std.specs.Prelude.{OnOk}
use Rattle.std.proofs.lemmas.List.{length-map}
use Rattle.affine_program.specs.Parts.{meaning}
use Rattle.claims.specs.Claims.{Decides}
use Rattle.claims.specs.Shown.{pointless_claims}
use Rattle.footprint_pieces.specs.DisjointClaims.{systems_with_lists}
use Rattle.footprint_pieces.specs.Pieces.{FootprintPiece, piece_of, pieces_of}
use Rattle.joint_partition.specs.GroupSystems.{lists_of_others}
use Rattle.joint_partition.specs.View.{family_of}
use Rattle.joint_partition.proofs.GroupLists.{of-another}
use Rattle.joint_partition.proofs.groups_apart.other_shown.Goals as goal

pub returns-clause-found : goal.returns-clause-found
returns-clause-found c =
    let program = meaning c.args.program.now in
    let pieces : List FootprintPiece = map piece_of c.args.pieces.now in
    let one : List (List FootprintPiece) = map pieces_of c.args.one.now in
    let all : lists_of_others c.args.group (family_of c.args.other.now ∷ []) one ≡ one =
    of-another program pieces c.args.group (family_of c.args.other.now) one (length-map c.args.one.now pieces_of ∙ c.requires.one) c.if-other-group.false in
    subst (λ (lists : List (List FootprintPiece)). Decides (pointless_claims 18 c.args.list.now c.args.at.now (systems_with_lists program pieces lists) (drop c.args.at.now c.args.shown.now)) c.later_shown.result) (sym all)
    c.later_shown.ensures.found

pub returns-clause-next : goal.returns-clause-next
returns-clause-next c =
    let program = meaning c.args.program.now in
    let pieces : List FootprintPiece = map piece_of c.args.pieces.now in
    let one : List (List FootprintPiece) = map pieces_of c.args.one.now in
    let all : lists_of_others c.args.group (family_of c.args.other.now ∷ []) one ≡ one =
    of-another program pieces c.args.group (family_of c.args.other.now) one (length-map c.args.one.now pieces_of ∙ c.requires.one) c.if-other-group.false in
    subst (λ (lists : List (List FootprintPiece)). OnOk c.later_shown.result (c.later_shown.new.at ≡ c.args.at.now + length (systems_with_lists program pieces lists))) (sym all) c.later_shown.ensures.next
