-- What the parts of the code are.
use Rattle.std.specs.Prelude.{◌≡◌, List, map, length, Some, option_map}
use Rattle.affine_program.specs.Parts.{ProgramParts, meaning}
use Rattle.dep_quast.specs.Tree.{SelectionTree}
use Rattle.dep_quast.specs.Truth.{IsTrueTree}
use Rattle.domain_count.specs.Claims.{FitsCount}
use Rattle.reuse_paths.specs.LeafClaims.{claim_of}
use Rattle.dep_quast.specs.Quasts.{tree_at, tree_for}
use Rattle.dep_quast.specs.Trees.{RowsFit, RowsAreTrue}
use Rattle.reuse_paths.specs.Walks.{spot_of, reach_of}
use Rattle.wavefront.specs.declared.cold.Cold.{Cold}
use Rattle.wavefront.specs.declared.front.Wavefront.{Wavefront}
use Rattle.wavefront.specs.FrontFits.{FrontFits}
use Rattle.wavefront.specs.FrontTerm.{WavefrontTerm}
use Rattle.wavefront.specs.Term.{ColdTerm}
use Rattle.wavefront.specs.Loads.{ColdFits}

-- the cold term that the code holds
abbrev pub term_of : Cold → ColdTerm
term_of cold = record {
  reader = record { statement = cold.statement; read = cold.read };
  nest = cold.nest;
  count = cold.sums;
  point = cold.point.items;
  inside = cold.inside.items;
  matrix = cold.inverse.matrix;
  scale = cold.inverse.scale;
  leaves = map claim_of cold.leaves.items;
}

-- A cold term and the source trees fit the program, the tree of its read is there, and it is true.
pub record FitsCold (program : ProgramParts) (trees : List (List SelectionTree)) (cold : Cold) : Type 0 where
  pub there : tree_at trees cold.statement cold.read ≡ Some (tree_for trees (term_of cold).reader)
  pub fits : ColdFits (meaning program) (tree_for trees (term_of cold).reader) (term_of cold)
  pub true_tree : IsTrueTree (meaning program) (term_of cold).reader (tree_for trees (term_of cold).reader)
  pub count : FitsCount program cold.nest cold.sums

-- the wavefront term that the code holds
abbrev pub front_of : Wavefront → WavefrontTerm
front_of wave = record {
  nest = wave.nest;
  outer = wave.outer;
  count = wave.sums;
  outer_sums = wave.outer_sums.items;
  vertex = spot_of wave.vertex;
  user = spot_of wave.user;
  read = wave.read;
  source = option_map spot_of wave.source;
  inside = wave.inside.items;
  matrix = wave.inverse.matrix;
  scale = wave.inverse.scale;
  edge = map claim_of wave.edge.items;
  reach = option_map reach_of wave.reach;
  back = reach_of wave.back;
}

-- A wavefront term and the source trees fit the program, and the trees are true.
pub record FitsFront (program : ProgramParts) (trees : List (List SelectionTree)) (wave : Wavefront) : Type 0 where
  pub fits : FrontFits (meaning program) trees (front_of wave)
  pub trees_fit : RowsFit (meaning program) 0 trees
  pub trees_true : RowsAreTrue (meaning program) 0 trees
  pub count : FitsCount program wave.nest wave.sums
  pub outer_sums : length wave.outer_sums.items ≡ wave.outer
