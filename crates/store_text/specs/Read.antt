-- What the text of stores says, and which stores it has.
use Rattle.std.specs.Prelude.{◌≡◌, List, map}
use Rattle.json_parts.specs.Related.{AreAll}
use Rattle.poly_tree.specs.Poly.{Quotient}
use Rattle.certificate_parts.specs.Polynomials.{ArePolynomials, written_polynomial}
use Rattle.store_terms.specs.Claims.{OutputClaim, StoresClaim}
use Rattle.store_terms.specs.declared.output.Output.{Output}
use Rattle.store_text.specs.Outputs.{WrittenOutput}
use Rattle.store_text.specs.Stores.{WrittenStores}

-- the output that is written, with these polynomials
abbrev pub output_with : WrittenOutput → List Quotient → OutputClaim
output_with written sums = record {
  statement = written.statement;
  nest = written.nest;
  count = record { shown = written.shown; sums = sums };
  point = written.point;
  inside = written.inside;
  matrix = written.matrix;
  scale = written.scale;
  later = written.later;
}

-- an output is the one that is written: it claims the same, by polynomials with the values of those that are written
pub record IsOutput (written : WrittenOutput) (output : OutputClaim) : Type 0 where
  pub claims : output ≡ output_with written output.count.sums
  pub sums : ArePolynomials written.sums output.count.sums

-- these stores are those that are written
pub record IsStores (written : WrittenStores) (stores : StoresClaim) : Type 0 where
  pub outputs : AreAll IsOutput written.outputs stores.outputs
  pub branch : stores.branch ≡ written.branch
  pub apart : stores.apart ≡ written.apart

-- an output as it is written, its polynomials by their terms in the order in which they are printed
abbrev pub written_output : Output → WrittenOutput
written_output output = record {
  statement = output.statement;
  nest = output.nest;
  shown = output.sums.shown;
  sums = map written_polynomial output.sums.sums;
  point = output.point.items;
  inside = output.inside.items;
  matrix = output.inverse.matrix;
  scale = output.inverse.scale;
  later = output.later.items;
}
