use Rattle.std.proofs.Common.{◌∙◌, ap, List, ℕ, ◌+◌, length, arith}
use Rattle.iolb_model.specs.Form.{AffineForm}
use Rattle.dep_quast.proofs.Fits.{params-few}
use Rattle.reuse_paths.proofs.walking.spot_variables.Goals as goal

pub overflow_add-result : goal.overflow_add-result
overflow_add-result c =
    omega (
      arith,
      ap (λ (l : List (List ℕ)). length l) c.params.ensures.params,
      params-few c.args.walking.now.program.now c.params.ensures.kept,
      ap (λ (l : List (AffineForm × AffineForm)). length l) c.bounds.ensures,
      c.requires.few,
    )

pub returns-clause-variables : goal.returns-clause-variables
returns-clause-variables c =
    ap (λ (l : List (List ℕ)). length l + length c.bounds.result.now) c.params.ensures.params
    ∙ ap (λ (l : List (AffineForm × AffineForm)). length c.args.walking.now.program.now.params + length l) c.bounds.ensures

pub returns-clause-few : goal.returns-clause-few
returns-clause-few c =
    omega (
      arith,
      ap (λ (l : List (List ℕ)). length l) c.params.ensures.params,
      params-few c.args.walking.now.program.now c.params.ensures.kept,
      ap (λ (l : List (AffineForm × AffineForm)). length l) c.bounds.ensures,
      c.requires.few,
    )
