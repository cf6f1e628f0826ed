use Rattle.std.proofs.Common.{◌≡◌, sym, ap, subst, ℕ, ◌<◌, ◌≤◌, List, length, arith}
use Rattle.std.specs.List.{AllByRecursion}
use Rattle.iolb_model.specs.Form.{AffineForm}
use Rattle.affine_form.specs.Multipliers.{FarkasMultipliers}
use Rattle.poly_tree.specs.Poly.{Quotient}
use Rattle.affine_program.specs.Parts.{ProgramParts, meaning}
use Rattle.domain_count.specs.Claims.{SumClaims}
use Rattle.projective.specs.Products.{AreAssumed, AreRepeated, AreTaken, IsProductCount, RunBelow}
use Rattle.projective.proofs.Ranges.{ranges-shown}
use Rattle.projective.proofs.Runs.{run-assumed, run-many}
use Rattle.projective.proofs.Summed.{parameters-below, product-is, summed, whole}
use Rattle.projective.proofs.Times.{product_tree}
use Rattle.projective.proofs.counts.product_sums.Goals as goal

pub all_taken-requires : goal.all_taken-requires
all_taken-requires c =
    subst (AreAssumed (meaning c.args.program.now)) (sym c.as_slice.ensures.value)
    (run-assumed (meaning c.args.program.now) (length c.params-params.result.now) c.args.bounds.now c.in_ok-parameters.parameters.items c.in_ok-parameters.ensures)

pub all_repeated-requires-clause-few : goal.all_repeated-requires-clause-few
all_repeated-requires-clause-few c =
    omega (
      arith,
      ap length c.as_slice-2.ensures.value,
      run-many (meaning c.args.program.now) (length c.params-params.result.now) c.args.bounds.now c.in_ok-parameters.parameters.items c.in_ok-parameters.ensures,
      c.requires.few,
    )

pub all_repeated-requires-clause-below : goal.all_repeated-requires-clause-below
all_repeated-requires-clause-below c =
    subst (AllByRecursion (λ (parameter : ℕ). parameter < length c.params-params.result.now)) (sym c.as_slice-2.ensures.value)
    (parameters-below (meaning c.args.program.now) (length c.params-params.result.now) (length c.params-params.result.now) c.args.bounds.now c.in_ok-parameters.parameters.items c.in_ok-parameters.ensures
    (omega (arith, ap length c.params-params.ensures.params)))

pub all_repeated-requires-clause-room : goal.all_repeated-requires-clause-room
all_repeated-requires-clause-room c =
    omega (
      arith,
      ap length c.as_slice-2.ensures.value,
      run-many (meaning c.args.program.now) (length c.params-params.result.now) c.args.bounds.now c.in_ok-parameters.parameters.items c.in_ok-parameters.ensures,
      c.requires.few,
      ap length c.params-params.ensures.params,
      c.params-params.ensures.kept.limits.parameters,
    )

-- all that is claimed
all-claimed : (parts : ProgramParts) (nest : List (AffineForm × AffineForm)) (ps held more : List ℕ) (shown : List FarkasMultipliers) (sums : List Quotient) (claims : SumClaims) → length parts.params ≤ 6
    → length nest ≤ 6 → RunBelow (meaning parts) (length parts.params) nest ps → AreTaken parts.assumed.rows (length parts.params) held shown → AreRepeated (length parts.params) more sums
    → held ≡ ps → more ≡ ps → claims ≡ record { shown = shown; sums = sums } → IsProductCount (meaning parts) nest claims
all-claimed parts nest ps held more shown sums claims few short run taken are e f is =
    let many = run-many (meaning parts) (length parts.params) nest ps run in
    let taken_of : AreTaken parts.assumed.rows (length parts.params) ps shown = subst (λ (qs : List ℕ). AreTaken parts.assumed.rows (length parts.params) qs shown) e taken in
    let sums_of : AreRepeated (length parts.params) ps sums = subst (λ (qs : List ℕ). AreRepeated (length parts.params) qs sums) f are in
    subst (IsProductCount (meaning parts) nest) (sym is) (record {
      parameters = ps;
      run = run;
      total = whole (product_tree ps);
      right = record {
        shown = ranges-shown (meaning parts) nest ps shown run taken_of;
        sums = summed (meaning parts) (length parts.params) nest ps sums run sums_of (omega arith) (omega (arith, many)) (omega (arith, many));
      };
      product = product-is (meaning parts) (length parts.params) nest ps run (omega arith) (omega (arith, many));
      shown = taken_of;
      sums = sums_of;
    })

pub returns : goal.returns
returns c =
    let names = ap length c.params-params.ensures.params in
    all-claimed c.args.program.now c.args.bounds.now c.in_ok-parameters.parameters.items c.as_slice.result.now c.as_slice-2.result.now c.in_ok-shown.shown.items c.in_ok-sums.sums.items c.new.result
    c.params-params.ensures.kept.limits.parameters c.requires.few
    (subst (λ (n : ℕ). RunBelow (meaning c.args.program.now) n c.args.bounds.now c.in_ok-parameters.parameters.items) names c.in_ok-parameters.ensures)
    c.in_ok-shown.ensures (subst (λ (n : ℕ). AreRepeated n c.as_slice-2.result.now c.in_ok-sums.sums.items) names c.in_ok-sums.ensures)
    c.as_slice.ensures.value c.as_slice-2.ensures.value c.new.ensures
