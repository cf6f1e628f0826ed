use Rattle.std.proofs.Common.{rules, ◌≡◌, ◌∙◌, sym, ap, ℕ, ◌+◌, ◌≤◌, List, [], ◌∷◌, ◌++◌, length, map, drop, take, arith}
use Rattle.std.proofs.lemmas.List.{drop-map, length-map, take-map}
use Rattle.affine_form.specs.System.{AffineSystem}
use Rattle.affine_program.specs.Parts.{meaning}
use Rattle.claims.specs.Claims.{IsRefusal}
use Rattle.claims.proofs.Pointless.{claims_from}
use Rattle.footprint_pieces.specs.DisjointClaims.{systems_with_lists}
use Rattle.footprint_pieces.specs.Pieces.{FootprintPiece, piece_of, pieces_of}
use Rattle.footprint_pieces.proofs.PairsFound.{first-go, first-stop}
use Rattle.joint_partition.specs.declared.term.JointFamily.{JointFamily as Family}
use Rattle.joint_partition.specs.GroupSystems.{lists_of_others}
use Rattle.joint_partition.specs.Term.{JointFamily}
use Rattle.joint_partition.specs.View.{family_of}
use Rattle.joint_partition.proofs.GroupLists.{split-others}
use Rattle.joint_partition.proofs.groups_apart.+others_shown.Goals as goal

pub returns-in_err-other_shown-clause-found : goal.returns-in_err-other_shown-clause-found
returns-in_err-other_shown-clause-found t c =
    let program = meaning c.args.program.now in
    let pieces : List FootprintPiece = map piece_of c.args.pieces.now in
    let group : ℕ = c.args.group in
    let other : JointFamily = family_of c.in-Some.other.now in
    let others : List JointFamily = map family_of c.in-Some.others.now in
    let lists : List (List FootprintPiece) = map pieces_of c.args.lists.now in
    let whole : List AffineSystem = systems_with_lists program pieces (lists_of_others group (map family_of c.args.others.now) lists) in
    let here : List AffineSystem = systems_with_lists program pieces (lists_of_others group (other ∷ []) (map pieces_of c.split_at.result.0.now)) in
    let rest : List AffineSystem = systems_with_lists program pieces (lists_of_others group others (map pieces_of c.split_at.result.1.now)) in
    let many : length c.args.others.now ≡ length others + 1 = omega (arith, ap (λ (held : List Family). length held) c.in-Some.ensures.cases.0, length-map c.in-Some.others.now family_of) in
    let room : 1 ≤ length lists = omega (arith, many, c.requires.one_each, length-map c.args.lists.now pieces_of) in
    let front : take 1 lists ≡ map pieces_of c.split_at.result.0.now = take-map pieces_of 1 c.args.lists.now ∙ ap (map pieces_of) (sym c.split_at.ensures.front) in
    let back : drop 1 lists ≡ map pieces_of c.split_at.result.1.now = drop-map pieces_of 1 c.args.lists.now ∙ ap (map pieces_of) (sym c.split_at.ensures.back) in
    let split : whole ≡ here ++ rest =
    ap (λ (held : List Family). systems_with_lists program pieces (lists_of_others group (map family_of held) lists)) c.in-Some.ensures.cases.0
    ∙ split-others program pieces group other others lists room
    ∙ (λ i. systems_with_lists program pieces (lists_of_others group (other ∷ []) (front i)) ++ systems_with_lists program pieces (lists_of_others group others (back i))) in
    let r = c.in_err-other_shown.field-0.0 in
    let refused : IsRefusal (claims_from 18 c.args.list.now c.args.at.now whole c.args.shown.now) r =
    first-stop 18 c.args.list.now c.args.at.now c.args.at.now whole here rest c.args.shown.now split c.requires.enough r c.in_err-other_shown.ensures.found in
    search rules

pub returns-clause-found : goal.returns-clause-found
returns-clause-found t c =
    let program = meaning c.args.program.now in
    let pieces : List FootprintPiece = map piece_of c.args.pieces.now in
    let group : ℕ = c.args.group in
    let other : JointFamily = family_of c.in-Some.other.now in
    let others : List JointFamily = map family_of c.in-Some.others.now in
    let lists : List (List FootprintPiece) = map pieces_of c.args.lists.now in
    let whole : List AffineSystem = systems_with_lists program pieces (lists_of_others group (map family_of c.args.others.now) lists) in
    let here : List AffineSystem = systems_with_lists program pieces (lists_of_others group (other ∷ []) (map pieces_of c.split_at.result.0.now)) in
    let rest : List AffineSystem = systems_with_lists program pieces (lists_of_others group others (map pieces_of c.split_at.result.1.now)) in
    let many : length c.args.others.now ≡ length others + 1 = omega (arith, ap (λ (held : List Family). length held) c.in-Some.ensures.cases.0, length-map c.in-Some.others.now family_of) in
    let room : 1 ≤ length lists = omega (arith, many, c.requires.one_each, length-map c.args.lists.now pieces_of) in
    let front : take 1 lists ≡ map pieces_of c.split_at.result.0.now = take-map pieces_of 1 c.args.lists.now ∙ ap (map pieces_of) (sym c.split_at.ensures.front) in
    let back : drop 1 lists ≡ map pieces_of c.split_at.result.1.now = drop-map pieces_of 1 c.args.lists.now ∙ ap (map pieces_of) (sym c.split_at.ensures.back) in
    let split : whole ≡ here ++ rest =
    ap (λ (held : List Family). systems_with_lists program pieces (lists_of_others group (map family_of held) lists)) c.in-Some.ensures.cases.0
    ∙ split-others program pieces group other others lists room
    ∙ (λ i. systems_with_lists program pieces (lists_of_others group (other ∷ []) (front i)) ++ systems_with_lists program pieces (lists_of_others group others (back i))) in
    first-go 18 c.args.list.now c.args.at.now c.other_shown.new.at whole here rest c.args.shown.now split c.requires.enough c.in_ok-other_shown.ensures.next c.others_shown.result c.in_ok-other_shown.ensures.found
    c.others_shown.ensures.found
