use Rattle.std.proofs.Common.{◌≡◌, refl, sym, ◌∙◌, ap, subst, ℕ, ◌*◌, ◌<◌, List, [], length, map, get_or, sum, arith}
use Rattle.std.specs.List.{range_with_len}
use Rattle.std.proofs.lemmas.List.{length-map}
use Rattle.std.proofs.lemmas.List.FromFn.{length-range_with_len}
use Rattle.iolb_model.specs.Form.{AffineForm}
use Rattle.iolb_model.specs.Program.{AffineProgram, statement_at}
use Rattle.affine_form.specs.System.{AffineSystem}
use Rattle.affine_program.specs.Domain.{bounds_at, depth_of}
use Rattle.affine_program.specs.Parts.{array_of, meaning, statement_of}
use Rattle.affine_program.specs.declared.statement.Statement.{Statement}
use Rattle.affine_program.proofs.Bounds.{bounds-are}
use Rattle.dep_quast.specs.Tree.{SelectionTree}
use Rattle.k_partition.specs.Term.{PartitionTerm}
use Rattle.k_partition.specs.declared.term.Shape.TheVariants.{Sum}
use Rattle.k_partition.specs.View.{credit_term_of}
use Rattle.projective.specs.Projective.{coordinates, projection_sets, reference_to}
use Rattle.projective.specs.Products.{IsProductCount}
use Rattle.dep_quast.specs.Quasts.{trees_of}
use Rattle.projective_bounds.specs.Families.{array_families}
use Rattle.projective_bounds.specs.Multipliers.{rows_taken}
use Rattle.projective_bounds.specs.Whole.{IsWholeTerm, identity_matrix, stretch_for}
use Rattle.projective_bounds.proofs.Readings.{weight-most}
use Rattle.projective_bounds.proofs.whole.term_of.Goals as goal

-- the term of these parts
made : (program : AffineProgram) (trees : List (List SelectionTree)) (q : ℕ) (weights : List ℕ) (bounds : List (AffineForm × AffineForm)) (rows : ℕ) (term : PartitionTerm) → term.statement ≡ 0 → term.nest ≡ bounds
    → bounds ≡ bounds_at program 0 → IsProductCount program bounds term.count → rows ≡ length program.assumptions → term.inside ≡ rows_taken rows (2 * length bounds) → term.matrix ≡ identity_matrix (length bounds)
    → term.inverse ≡ identity_matrix (length bounds) → term.q ≡ q → term.shape ≡ Sum → term.a ≡ stretch_for q (sum weights) → term.b ≡ 0 → term.credits ≡ []
    → term.families ≡ array_families program trees 0 (projection_sets program) weights → term.apart ≡ [] → IsWholeTerm program trees q weights term
made program trees q weights bounds rows term statement nest around count assumed inside matrix inverse is_q shape a b credits families apart = record {
  statement = statement;
  nest = nest ∙ around;
  count = subst (λ (n : List (AffineForm × AffineForm)). IsProductCount program n term.count) (sym nest) count;
  inside = inside ∙ ap (λ (n : ℕ). rows_taken n (2 * length bounds)) assumed ∙ ap (λ (n : List (AffineForm × AffineForm)). rows_taken (length program.assumptions) (2 * length n)) (sym nest);
  matrix = matrix ∙ ap (λ (n : List (AffineForm × AffineForm)). identity_matrix (length n)) (sym nest);
  inverse = inverse ∙ ap (λ (n : List (AffineForm × AffineForm)). identity_matrix (length n)) (sym nest);
  cover = is_q;
  shape = shape;
  a = a;
  b = b;
  credits = credits;
  families = families;
  apart = apart;
}

pub families-requires-clause-few : goal.families-requires-clause-few
families-requires-clause-few c =
    omega (
      arith,
      ap length c.sets.ensures,
      ap length c.requires.shape.sets,
      length-map (range_with_len 0 (length (meaning c.args.program.now).arrays))
          (λ array. coordinates (length c.args.program.now.params) (depth_of (meaning c.args.program.now) 0) (reference_to (statement_at (meaning c.args.program.now) 0).reads array)),
      length-range_with_len 0 (length (meaning c.args.program.now).arrays),
      length-map c.args.program.now.arrays array_of,
      c.statements.ensures.kept.limits.arrays,
    )

pub stretch_for-requires : goal.stretch_for-requires
stretch_for-requires c =
    omega (
      arith,
      c.total.ensures,
      c.requires.shown.pair.cover.covered 0 (omega (arith, c.requires.shown.projective.loops.some)),
      weight-most (projection_sets (meaning c.args.program.now)) c.args.weights.now 0,
    )

pub returns : goal.returns
returns c =
    let here : c.index-statements-0.result ≡ get_or c.args.program.now.statements 0 c.index-statements-0.result =
    c.index-statements-0.is ∙ ap (λ (ss : List Statement). get_or ss 0 c.index-statements-0.result) c.statements.ensures.statements in
    let below : 0 < length c.args.program.now.statements = omega (arith, length-map c.args.program.now.statements statement_of, c.requires.shown.projective.one) in
    let around : c.as_slice-bounds.result.now ≡ bounds_at (meaning c.args.program.now) 0 =
    c.as_slice-bounds.ensures.value ∙ ap (λ (at : Statement). at.bounds.items) (sym c.index-statements-0.is) ∙ sym (bounds-are c.args.program.now 0 c.index-statements-0.result c.statements.ensures.kept below here) in
    let rows : length c.rows-assumed.result.now ≡ length (meaning c.args.program.now).assumptions =
    ap length (c.rows-assumed.ensures.rows ∙ ap (λ (s : AffineSystem). s.rows) c.assumed.ensures.assumed) in
    let credits : map credit_term_of c.new-2.result.items ≡ [] = ap (map credit_term_of) c.new-2.ensures.items in
    let sets : c.sets.result.now ≡ projection_sets (meaning c.args.program.now) = c.sets.ensures ∙ c.requires.shape.sets in
    made (meaning c.args.program.now) (trees_of c.args.quasts.now) c.args.q c.args.weights.now c.as_slice-bounds.result.now (length c.rows-assumed.result.now) _ refl (c.new.ensures ∙ c.in_ok-copies.ensures)
    around c.in_ok-product_sums.ensures rows c.in_ok-inside.ensures c.in_ok-identity.ensures c.in_ok-identity-2.ensures refl refl (c.stretch_for.ensures ∙ ap (stretch_for c.args.q) c.total.ensures) refl credits
    (c.in_ok-families.ensures ∙ ap (λ (ss : List (List ℕ)). array_families (meaning c.args.program.now) (trees_of c.args.quasts.now) 0 ss c.args.weights.now) sets) c.new-3.ensures.items
