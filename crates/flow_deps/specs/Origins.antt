-- Where the last write may come from.
use Rattle.iolb_model.specs.Program.{AffineProgram}
use Rattle.dep_quast.specs.Context.{ReadOf, reference_of}
use Rattle.dep_quast.specs.Levels.{IsWriter}
use Rattle.dep_quast.specs.Truth.{IsLevel}
use Rattle.flow_deps.specs.declared.origins.Origin.{Origin}

-- what an origin names is there: its statement writes the array that is read, and may come before the reader at the level
pub record OriginFits (program : AffineProgram) (reader : ReadOf) (origin : Origin) : Type 0 where
  pub writes : IsWriter program (reference_of program reader).array origin.writer
  pub level : IsLevel program origin.writer reader.statement origin.level
