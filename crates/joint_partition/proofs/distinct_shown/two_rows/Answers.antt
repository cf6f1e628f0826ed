use Rattle.std.proofs.Common.{◌≡◌, sym, ◌∙◌, ap, subst, ℕ, ◌+◌, ◌≤◌, ◌++◌, length, map, arith}
use Rattle.std.proofs.lemmas.List.{length-append, length-map}
use Rattle.affine_form.specs.Rows.{widened}
use Rattle.affine_form.specs.System.{AffineSystem, AllOver}
use Rattle.affine_program.specs.Parts.{meaning}
use Rattle.claims.proofs.Found.{IfOk-then}
use Rattle.dep_quast.proofs.Fits.{over-append, wide-over}
use Rattle.iolb_model.specs.declared.limits.TheConstants.{ROWS, TREE_TESTS}
use Rattle.joint_partition.specs.Claims.{two_variables}
use Rattle.joint_partition.specs.View.{part_of}
use Rattle.joint_partition.proofs.distinct_shown.two_rows.Goals as goal

pub returns-clause-over : goal.returns-clause-over
returns-clause-over c =
    let vars : ℕ = two_variables (meaning c.args.program.now) (part_of c.args.first.now) (part_of c.args.second.now) in
    let is : c.two_variables-vars.result ≡ vars = c.two_variables-vars.ensures.variables in
    let assumed : AllOver vars c.in_ok-assumed.assumed.items =
    wide-over (length c.args.program.now.params) vars c.two_variables-vars.result c.args.program.now.assumed.rows c.in_ok-assumed.assumed.items is (omega arith)
    (c.in_ok-assumed.ensures ∙ ap (map (widened c.two_variables-vars.result)) (c.rows.ensures.rows ∙ ap (λ (s : AffineSystem). s.rows) c.assumed.ensures.assumed)) c.assumed.ensures.kept.well_formed.assumptions in
    let own : AllOver vars c.as_slice.result.now = subst (AllOver vars) (sym c.as_slice.ensures.value) (subst (λ (n : ℕ). AllOver n c.in_ok-own.own.items) is c.in_ok-own.ensures.over) in
    let other : AllOver vars c.as_slice-2.result.now = subst (AllOver vars) (sym c.as_slice-2.ensures.value) (subst (λ (n : ℕ). AllOver n c.in_ok-other.other.items) is c.in_ok-other.ensures.over) in
    let equal : AllOver vars c.as_slice-3.result.now = subst (AllOver vars) (sym c.as_slice-3.ensures.value) c.in_ok-equal.ensures.over in
    IfOk-then c.followed_by-3.result (λ rows. rows.items ≡ c.in_ok-rows-2.rows.items ++ c.as_slice-3.result.now) (λ rows. AllOver vars rows.items) c.followed_by-3.ensures
    (λ rows e. over-append vars c.in_ok-rows-2.rows.items c.as_slice-3.result.now rows.items e
    (over-append vars c.in_ok-rows.rows.items c.as_slice-2.result.now c.in_ok-rows-2.rows.items c.in_ok-rows-2.ensures
    (over-append vars c.in_ok-assumed.assumed.items c.as_slice.result.now c.in_ok-rows.rows.items c.in_ok-rows.ensures assumed own) other) equal)

pub returns-clause-few : goal.returns-clause-few
returns-clause-few c =
    let assumed : length c.in_ok-assumed.assumed.items ≤ 32 = omega (
      arith,
      ap length c.in_ok-assumed.ensures,
      length-map c.rows.result.now (widened c.two_variables-vars.result),
      ap length (c.rows.ensures.rows ∙ ap (λ (s : AffineSystem). s.rows) c.assumed.ensures.assumed),
      c.assumed.ensures.kept.limits.assumptions,
    ) in
    let first : length c.in_ok-rows.rows.items ≤ 44 = omega (
      arith,
      ap length c.in_ok-rows.ensures,
      length-append c.in_ok-assumed.assumed.items c.as_slice.result.now,
      assumed,
      ap length c.as_slice.ensures.value,
      c.in_ok-own.ensures.many,
      c.requires.first.count.few,
    ) in
    let second : length c.in_ok-rows-2.rows.items ≤ 56 = omega (
      arith,
      ap length c.in_ok-rows-2.ensures,
      length-append c.in_ok-rows.rows.items c.as_slice-2.result.now,
      first,
      ap length c.as_slice-2.ensures.value,
      c.in_ok-other.ensures.many,
      c.requires.second.count.few,
    ) in
    IfOk-then c.followed_by-3.result (λ rows. rows.items ≡ c.in_ok-rows-2.rows.items ++ c.as_slice-3.result.now) (λ rows. length rows.items + TREE_TESTS ≤ ROWS) c.followed_by-3.ensures
    (λ rows e. omega (
      arith,
      ap length e,
      length-append c.in_ok-rows-2.rows.items c.as_slice-3.result.now,
      second,
      ap length c.as_slice-3.ensures.value,
      c.in_ok-equal.ensures.many,
      c.requires.first.few,
    ))
