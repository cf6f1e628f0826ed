use Rattle.std.proofs.Common.{rules, ◌≡◌, refl, sym, ap, ◌∙◌, subst, ℕ, ◌<◌, Bool, true, List, [], ◌∷◌, length, map, get_or, nat_eq, arith}
use Rattle.std.proofs.lemmas.Bool.{eqb-true}
use Rattle.std.proofs.lemmas.List.{length-map}
use Rattle.iolb_model.specs.Form.{AffineForm}
use Rattle.iolb_model.specs.Program.{Statement as ModelStatement, no_statement, statement_at}
use Rattle.affine_program.specs.Domain.{bounds_at, depth_of, guards_at}
use Rattle.affine_program.specs.Parts.{array_of, meaning, statement_of}
use Rattle.affine_program.specs.declared.statement.Statement.{Statement}
use Rattle.affine_program.proofs.Bounds.{bounds-are, guards-are}
use Rattle.projective.specs.Projective.{AreProjections, AreProjectiveLoops, IsProjective, sets_of}
use Rattle.projective.specs.Shape.{IsShapeOf}
use Rattle.projective.proofs.recognising.shape_of.Goals as goal

no-rows : (rows : List AffineForm) → nat_eq (length rows) 0 ≡ true → rows ≡ []
no-rows [] e = refl
no-rows (row ∷ rows) e = absurd (let none : length (row ∷ rows) ≡ 0 = eqb-true (length (row ∷ rows)) 0 e in omega (arith, none))

pub returns : goal.returns
returns c =
    let parts = c.args.program.now in
    let at : Statement = c.args.statement.now in
    let is = c.params.ensures.kept in
    let below : 0 < length parts.statements = omega (arith, ap length c.requires.one) in
    let read : at ≡ get_or parts.statements 0 at = sym (ap (λ (xs : List Statement). get_or xs 0 at) c.requires.one) in
    let bounds : bounds_at (meaning parts) 0 ≡ at.bounds.items = bounds-are parts 0 at is below read in
    let guards : guards_at (meaning parts) 0 ≡ at.guards.items = guards-are parts 0 at is below read in
    let none : at.guards.items ≡ [] = sym c.as_slice.ensures.value ∙ no-rows c.as_slice.result.now (sym c.is_empty.ensures ∙ c.if-not-is_empty.false) in
    let loops : AreProjectiveLoops (meaning parts) at.bounds.items = search rules in
    let projects : AreProjections (length parts.params) (length parts.arrays) (length at.bounds.items) (statement_of at) = search rules in
    let sets : c.in_ok-sets.sets.items ≡ sets_of (length parts.params) (length parts.arrays) (length at.bounds.items) (statement_of at).reads = search rules in
    let stands : statement_at (meaning parts) 0 ≡ statement_of at = ap (λ (xs : List Statement). get_or (map statement_of xs) 0 no_statement) c.requires.one in
    let arrays : length (meaning parts).arrays ≡ length parts.arrays = length-map parts.arrays array_of in (
      record {
        one = length-map parts.statements statement_of ∙ ap length c.requires.one;
        unguarded = guards ∙ none;
        loops = subst (AreProjectiveLoops (meaning parts)) (sym bounds) loops;
        projects = subst (λ (s : ModelStatement). AreProjections (length parts.params) (length (meaning parts).arrays) (depth_of (meaning parts) 0) s) (sym stands)
            (subst (λ (n : ℕ). AreProjections (length parts.params) (length (meaning parts).arrays) n (statement_of at)) (sym (ap length bounds))
            (subst (λ (n : ℕ). AreProjections (length parts.params) n (length at.bounds.items) (statement_of at)) (sym arrays) projects));
      },
      record {
        sets = sets ∙ ap (λ (n : ℕ). sets_of (length parts.params) n (length at.bounds.items) (statement_of at).reads) (sym arrays)
            ∙ ap (λ (n : ℕ). sets_of (length parts.params) (length (meaning parts).arrays) n (statement_of at).reads) (sym (ap length bounds))
            ∙ ap (λ (s : ModelStatement). sets_of (length parts.params) (length (meaning parts).arrays) (depth_of (meaning parts) 0) s.reads) (sym stands);
        depth = ap length c.as_slice-bounds.ensures.value ∙ sym (ap length bounds);
      },
    )
