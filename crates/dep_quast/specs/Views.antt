-- What the parts of a check are.
use Rattle.dep_quast.specs.declared.reader.Reader.{Reader}
use Rattle.dep_quast.specs.declared.claimed.Claimed.{Claimed}
use Rattle.dep_quast.specs.Tree.{SourceClaim}
use Rattle.dep_quast.specs.Context.{ReadOf}

-- a read
abbrev pub read_of : Reader → ReadOf
read_of reader = record { statement = reader.statement; read = reader.read }

-- what a leaf claims of a source
abbrev pub claim_of : Claimed → SourceClaim
claim_of claimed = record {
  statement = claimed.statement;
  level = claimed.level;
  point = claimed.point.now;
  inside = claimed.domain.now;
  cell = claimed.cell.now;
  before = claimed.before.now;
  between = claimed.between.now;
}
