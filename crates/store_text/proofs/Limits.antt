-- What is read is within the limits of stores.
use Rattle.std.proofs.Common.{map, sym, subst, List, arith}
use Rattle.std.proofs.lemmas.List.{length-map}
use Rattle.iolb_model.specs.Polynomial.{Polynomial}
use Rattle.certificate_fit.specs.Limits.{NameRows}
use Rattle.certificate_parts.specs.Polynomials.{all_read_small}
use Rattle.store_terms.specs.Claims.{OutputClaim, claim_of_output, claim_of_stores}
use Rattle.store_terms.specs.Limits.{IsSmallOutput, IsWithinLimits, StoresParts}
use Rattle.store_terms.specs.declared.output.Output.{Output}
use Rattle.certificate_parts.specs.Inverses.{inverse_shape}
use Rattle.store_text.specs.Outputs.{OutputMembers, WrittenOutput, output_fields, output_shape}
use Rattle.store_text.specs.Read.{IsOutput, IsStores}
use Rattle.store_text.specs.Stores.{WrittenStores, stores_shape}
use Rattle.json_parts.proofs.Related.{all_related, as_many}

-- the members of an output with these polynomials
abbrev members_with : OutputClaim → List Polynomial → OutputMembers
members_with output sums = (output.inside, ((output.matrix, output.scale), (output.later, (output.nest, (output.point, (output.count.shown, (output.statement, (sums, tt))))))))

read_output_small : (said : WrittenOutput) (output : Output) → IsOutput said (claim_of_output output) → output_shape.IsWithin said → IsSmallOutput output
unfolding output_shape inverse_shape
read_output_small said output is small =
    let all = subst (λ (claim : OutputClaim). output_fields.IsWithin (members_with claim said.sums)) (sym is.claims) small in
    record {
      variables = all.1.1.1.0.1;
      bounds = all.1.1.1.0.0;
      shown = all.1.1.1.1.1.0;
      sums = all_read_small said.sums output.sums.sums is.sums all.1.1.1.1.1.1.1.0;
      point = all.1.1.1.1.0;
      inside = all.0;
      some_scale = all.1.0.1.0.0;
      scale = all.1.0.1.0.1;
      later = all.1.1.0;
    }

pub read_stores_small : (said : WrittenStores) (parts : StoresParts) → IsStores said (claim_of_stores parts) → stores_shape.IsWithin said → IsWithinLimits parts
unfolding stores_shape
read_stores_small said parts is small = record {
  few = omega (arith, small.1.1.0.1, as_many IsOutput said.outputs (map claim_of_output parts.outputs) is.outputs, length-map parts.outputs claim_of_output);
  outputs = all_related IsOutput claim_of_output output_shape.IsWithin IsSmallOutput read_output_small said.outputs parts.outputs is.outputs small.1.1.0.0;
  apart = subst NameRows (sym is.apart) small.0;
}
