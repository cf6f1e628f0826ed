use Rattle.std.proofs.Common.{rules, ◌≡◌, sym, ap, subst, List, ◌++◌, map}
use Rattle.std.specs.List.{AllByRecursion}
use Rattle.std.proofs.lemmas.List.{map-append}
use Rattle.base_laws.proofs.Lists.{All-append}
use Rattle.affine_program.specs.Parts.{meaning}
use Rattle.footprint_pieces.specs.declared.piece.Piece.{Piece}
use Rattle.reuse_paths.specs.Families.{family_of}
use Rattle.footprint_pieces.specs.Pieces.{piece_of, pieces_of, PieceFits}
use Rattle.dep_quast.specs.Quasts.{trees_of}
use Rattle.k_partition.specs.PartitionPieces.{partition_pieces}
use Rattle.k_partition.specs.View.{partition_of}
use Rattle.k_partition.proofs.ToldFamilies.{fits-at, few-at, flat-next}
use Rattle.k_partition.proofs.partition_checker.partition_pieces.Goals as goal

pub pieces_of_one-requires-clause-fits : goal.pieces_of_one-requires-clause-fits
pieces_of_one-requires-clause-fits c =
    fits-at (meaning c.args.program.now) (trees_of c.args.quasts.now) (partition_of c.args.term.now) c.as_slice-families.result.now c.loop-i.i c.index-families-i.result
    (ap (map family_of) c.as_slice-families.ensures.value) c.loop-i-test.true c.index-families-i.is c.requires.fits.fits

pub pieces_of_one-requires-clause-few : goal.pieces_of_one-requires-clause-few
pieces_of_one-requires-clause-few c =
    few-at (meaning c.args.program.now) (trees_of c.args.quasts.now) (partition_of c.args.term.now) c.as_slice-families.result.now c.loop-i.i c.index-families-i.result
    (ap (map family_of) c.as_slice-families.ensures.value) c.loop-i-test.true c.index-families-i.is c.requires.few

pub loop-i-preserved : goal.loop-i-preserved
loop-i-preserved c =
    let program = meaning c.args.program.now in
    let trees = trees_of c.args.quasts.now in
    let term = partition_of c.args.term.now in
    let before : List Piece = c.loop-i.all.items in
    let pieces : List Piece = c.in_ok-pieces.pieces.items in
    let now : pieces_of c.append.new.self ≡ map piece_of before ++ map piece_of pieces = search (rules, c.in_ok-append.ensures, map-append piece_of before pieces) in
    record {
      so_far = flat-next program trees term c.as_slice-families.result.now c.loop-i.i c.index-families-i.result (ap (map family_of) c.as_slice-families.ensures.value) c.loop-i-test.true c.index-families-i.is
          (map piece_of before) (pieces_of c.append.new.self) (partition_pieces program trees term) (map piece_of pieces) c.in_ok-pieces.ensures.pieces now c.loop-i.invariant.so_far;
      fit = subst (AllByRecursion (PieceFits program)) (sym now)
          (All-append (PieceFits program) (map piece_of before) (map piece_of pieces) c.loop-i.invariant.fit c.in_ok-pieces.ensures.fit);
    }
