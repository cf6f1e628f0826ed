use Rattle.std.proofs.Common.{◌≡◌, ◌∙◌, ℕ, Vec, Global, refl, sym, subst}
use Rattle.std.specs.Prelude.{Option, None, Some, option_map}
use Rattle.std.proofs.lemmas.Result.{IfOk-at_ok}
use Rattle.affine_form.specs.Multipliers.{FarkasMultipliers}
use Rattle.json_values.specs.View.{json_data}
use Rattle.json_parts.specs.Fields.{reads_object, object-kept}
use Rattle.json_parts.specs.Related.{AreAll}
use Rattle.json_parts.proofs.Failing.{made_fails}
use Rattle.store_terms.specs.Claims.{claim_of_output, claim_of_stores}
use Rattle.store_terms.specs.Limits.{StoresParts}
use Rattle.store_terms.specs.declared.output.Output.{Output}
use Rattle.store_text.specs.Read.{IsOutput, IsStores}
use Rattle.store_text.specs.Stores.{StoresMembers, stores_fields, stores_made, stores_shape}
use Rattle.store_text.proofs.Limits.{read_stores_small}
use Rattle.json_parts.proofs.Related.{all-mapped}
use Rattle.store_text.proofs.reading.stores_in.Goals as goal

abbrev parts_of : Vec Output Global → Option ℕ → Vec FarkasMultipliers Global → StoresParts
parts_of outputs branch apart = record { outputs = outputs.items; branch = branch; apart = apart.items }

same-branch : (branch : Option ℕ) → branch ≡ option_map (λ n. n) branch
same-branch None = refl
same-branch (Some n) = refl

is-read : (b : StoresMembers) (outputs : Vec Output Global) (branch : Option ℕ) (apart : Vec FarkasMultipliers Global) → b.0 ≡ apart.items → b.1.0 ≡ option_map (λ n. n) branch
    → AreAll (λ said output. IsOutput said (claim_of_output output)) b.1.1.0 outputs.items → IsStores (stores_made b) (claim_of_stores (parts_of outputs branch apart))
is-read b outputs branch apart shown named are = record {
  outputs = all-mapped IsOutput claim_of_output b.1.1.0 outputs.items are;
  branch = same-branch branch ∙ sym named;
  apart = sym shown;
}

pub returns-in_err-apart : goal.returns-in_err-apart
unfolding stores_shape
returns-in_err-apart c = made_fails _ c.from_residual.result c.in_err-apart.field-0.0 (reads_object stores_fields (json_data c.args.value.now)) stores_made c.from_residual.ensures c.in_err-apart.ensures

pub within-requires : goal.within-requires
unfolding stores_shape
within-requires c =
    let said = c.in_ok-apart.ensures in
    let are = said.2 in
    read_stores_small (stores_made said.0) (parts_of c.in_ok-apart.outputs c.in_ok-apart.branch c.in_ok-apart.apart)
    (is-read said.0 c.in_ok-apart.outputs c.in_ok-apart.branch c.in_ok-apart.apart are.0 are.1.0 are.1.1.0)
    (IfOk-at_ok stores_fields.IsWithin said.1 (object-kept stores_fields (json_data c.args.value.now)))

pub returns : goal.returns
unfolding stores_shape
returns c =
    let said = c.in_ok-apart.ensures in
    let are = said.2 in (
      stores_made said.0,
      rw said.1 refl,
      subst (λ (parts : StoresParts). IsStores (stores_made said.0) (claim_of_stores parts)) (sym c.within.ensures)
          (is-read said.0 c.in_ok-apart.outputs c.in_ok-apart.branch c.in_ok-apart.apart are.0 are.1.0 are.1.1.0),
    )
