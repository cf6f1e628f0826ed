use Rattle.std.proofs.Common.{rules, arith, refl, ◌++◌, List, map}
use Rattle.std.specs.Prelude.{Ok, Err}
use Rattle.claims.specs.Claims.{Claim, IsRefusal}
use Rattle.dep_quast.specs.Views.{read_of}
use Rattle.reuse_paths.specs.FewContexts.{few_leaves}
use Rattle.reuse_paths.specs.LeafClaims.{claim_of}
use Rattle.footprint_pieces.specs.Pieces.{FootprintPiece, pieces_of}
use Rattle.reuse_paths.specs.WalkPieces.{leaves_pieces}
use Rattle.reuse_paths.specs.WalkViews.{walk_of}
use Rattle.reuse_paths.proofs.ToldLeaves.{few-ended, few-next, few-stops, told-ended, told-next}
use Rattle.reuse_paths.proofs.leaf_pieces.push_leaves.Goals as goal

pub loop-i-init : goal.loop-i-init
loop-i-init c = record { so_far = refl; decided = λ found h. h }

pub returns-in_err-push_leaf-clause-refused : goal.returns-in_err-push_leaf-clause-refused
returns-in_err-push_leaf-clause-refused c =
    let walk = walk_of c.args.walking.now in
    let reader = read_of c.args.reader in
    let i = c.loop-i.i in
    let all : List Claim = few_leaves c.args.list.now c.args.rows.now 0 c.args.leaves.now (map claim_of c.args.entries.now) in
    let r = c.in_err-push_leaf.field-0.0 in
    let refused : IsRefusal all r =
    c.loop-i.invariant.decided (Err r)
    (few-stops walk reader c.args.list.now c.args.rows.now c.args.leaves.now c.args.entries.now i c.index-leaves-i.result c.index-entries-i.result c.loop-i-test.true
    (omega (arith, c.loop-i-test.true, c.requires.one_each)) c.index-leaves-i.is c.index-entries-i.is c.in_ok-place.place c.in_ok-place.ensures r c.in_err-push_leaf.ensures.refused) in
    search rules

pub loop-i-preserved : goal.loop-i-preserved
loop-i-preserved c =
    let walk = walk_of c.args.walking.now in
    let reader = read_of c.args.reader in
    let i = c.loop-i.i in
    let all : List FootprintPiece = pieces_of c.args.pieces.now ++ leaves_pieces walk reader c.args.rows.now c.args.leaves.now (map claim_of c.args.entries.now) in record {
      so_far = told-next walk reader c.args.list.now c.args.rows.now c.args.leaves.now c.args.entries.now i c.index-leaves-i.result c.index-entries-i.result c.loop-i-test.true
          (omega (arith, c.loop-i-test.true, c.requires.one_each)) c.index-leaves-i.is c.index-entries-i.is (pieces_of c.loop-i.pieces) (pieces_of c.push_leaf.new.pieces) all
          c.in_ok-push_leaf.ensures.pieces c.loop-i.invariant.so_far;
      decided = λ found h. c.loop-i.invariant.decided found
          (few-next walk reader c.args.list.now c.args.rows.now c.args.leaves.now c.args.entries.now i c.index-leaves-i.result c.index-entries-i.result c.loop-i-test.true
          (omega (arith, c.loop-i-test.true, c.requires.one_each)) c.index-leaves-i.is c.index-entries-i.is c.in_ok-place.place c.in_ok-place.ensures found c.in_ok-push_leaf.ensures.few h);
    }

pub returns-clause-pieces : goal.returns-clause-pieces
returns-clause-pieces c =
    let walk = walk_of c.args.walking.now in
    let reader = read_of c.args.reader in
    told-ended walk reader c.args.list.now c.args.rows.now c.args.leaves.now c.args.entries.now c.loop-i.i c.loop-i-test.false (pieces_of c.loop-i.pieces)
    (pieces_of c.args.pieces.now ++ leaves_pieces walk reader c.args.rows.now c.args.leaves.now (map claim_of c.args.entries.now)) c.loop-i.invariant.so_far

pub returns-clause-few : goal.returns-clause-few
returns-clause-few c =
    c.loop-i.invariant.decided (Ok tt) (few-ended (walk_of c.args.walking.now) (read_of c.args.reader) c.args.list.now c.args.rows.now c.args.leaves.now c.args.entries.now c.loop-i.i c.loop-i-test.false)
