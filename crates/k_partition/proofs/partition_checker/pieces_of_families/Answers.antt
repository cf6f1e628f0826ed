use Rattle.std.proofs.Common.{◌≡◌, sym, ◌∙◌, ap, subst, List, [], ◌∷◌, ◌++◌, map, Vec, Global}
use Rattle.std.specs.List.{AllByRecursion}
use Rattle.std.proofs.lemmas.List.{map-append}
use Rattle.base_laws.proofs.Lists.{All-append}
use Rattle.affine_program.specs.Parts.{meaning}
use Rattle.footprint_pieces.specs.declared.piece.Piece.{Piece}
use Rattle.reuse_paths.specs.Families.{family_of}
use Rattle.footprint_pieces.specs.Pieces.{pieces_of, PieceFits}
use Rattle.dep_quast.specs.Quasts.{trees_of}
use Rattle.k_partition.specs.PartitionClaims.{pieces_of_families}
use Rattle.k_partition.specs.View.{partition_of}
use Rattle.k_partition.proofs.ToldFamilies.{fits-at, few-at, lists-next}
use Rattle.k_partition.proofs.partition_checker.pieces_of_families.Goals as goal

pub pieces_of_one-requires-clause-fits : goal.pieces_of_one-requires-clause-fits
pieces_of_one-requires-clause-fits c =
    fits-at (meaning c.args.program.now) (trees_of c.args.quasts.now) (partition_of c.args.term.now) c.as_slice-families.result.now c.loop-i.i c.index-families-i.result
    (ap (map family_of) c.as_slice-families.ensures.value) c.loop-i-test.true c.index-families-i.is c.requires.fits.fits

pub pieces_of_one-requires-clause-few : goal.pieces_of_one-requires-clause-few
pieces_of_one-requires-clause-few c =
    few-at (meaning c.args.program.now) (trees_of c.args.quasts.now) (partition_of c.args.term.now) c.as_slice-families.result.now c.loop-i.i c.index-families-i.result
    (ap (map family_of) c.as_slice-families.ensures.value) c.loop-i-test.true c.index-families-i.is c.requires.few

pub loop-i-preserved : goal.loop-i-preserved
loop-i-preserved c =
    let program = meaning c.args.program.now in
    let trees = trees_of c.args.quasts.now in
    let term = partition_of c.args.term.now in
    let before : List (Vec Piece Global) = c.loop-i.lists.items in
    let pieces : Vec Piece Global = c.in_ok-pieces.pieces in
    let now : map pieces_of c.push.new.self.items ≡ map pieces_of before ++ pieces_of pieces ∷ [] = ap (map pieces_of) c.in_ok-push.ensures.items ∙ map-append pieces_of before (pieces ∷ []) in
    record {
      so_far = lists-next program trees term c.as_slice-families.result.now c.loop-i.i c.index-families-i.result (ap (map family_of) c.as_slice-families.ensures.value) c.loop-i-test.true c.index-families-i.is
          (map pieces_of before) (map pieces_of c.push.new.self.items) (pieces_of_families program trees term) (pieces_of pieces) c.in_ok-pieces.ensures.pieces now c.loop-i.invariant.so_far;
      fit = subst (AllByRecursion (AllByRecursion (PieceFits program))) (sym now)
          (All-append (AllByRecursion (PieceFits program)) (map pieces_of before) (pieces_of pieces ∷ []) c.loop-i.invariant.fit (c.in_ok-pieces.ensures.fit, tt));
    }
