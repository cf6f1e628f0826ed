-- What is made of a read's outline is a cold term that holds.
use Rattle.std.proofs.Common.{◌≡◌, refl, sym, ◌∙◌, ap, subst, inl, inr, ℕ, suc, ◌+◌, ◌<◌, ◌≤◌, List, [], ◌∷◌, length, map, get_or, arith}
use Rattle.std.proofs.Math.IntN.{pos, negsuc}
use Rattle.iolb_model.specs.Form.{AffineForm}
use Rattle.iolb_model.specs.Program.{AffineProgram}
use Rattle.affine_program.specs.Parts.{ProgramParts, IsProgram, meaning}
use Rattle.flow_deps.specs.declared.wanted.Wanted.TheVariants.{Short}
use Rattle.flow_deps.specs.Answers.{Answers, HasNoShort, Question, following}
use Rattle.projective_bounds.specs.HeldColds.{ArePolynomials, IsHeldCold}
use Rattle.cold_terms.specs.Outline.{ColdOutline, OutlineFits, bare, outline_in}
use Rattle.projective_bounds.proofs.ColdParts.{IsClosedBy, IsUndone, cold-held}
use Rattle.dep_quast.specs.Context.{variables_at}
use Rattle.dep_quast.specs.Tree.{SelectionTree}
use Rattle.dep_quast.specs.Truth.{ReadFits}
use Rattle.domain_count.specs.Claims.{SumClaims}
use Rattle.certificate_fit.specs.Limits.{NameRows}
use Rattle.projective.specs.Products.{IsProduct, IsProductCount, RunBelow}
use Rattle.projective.proofs.Units.{unit-at, unit-other, unit-same}
use Rattle.projective.proofs.Runs.{run-many}
use Rattle.projective.specs.Projective.{AllRun, IsProjective, shifted_variable}
use Rattle.projective.specs.SourceTrees.{IsSourceTree, read_number}
use Rattle.projective.proofs.ProjectiveFacts.{same-place}
use Rattle.reuse_paths.specs.LeafClaims.{LeafClaim, claim_of}
use Rattle.dep_quast.specs.OpenLeaves.{TestsFit}
use Rattle.dep_quast.proofs.OpenLeaves.{tests-fit}
use Rattle.wavefront.specs.declared.cold.Cold.{Cold}
use Rattle.wavefront.specs.Term.{inside_goals, nest_system}
use Rattle.wavefront.specs.View.{term_of}
use Rattle.projective_bounds.proofs.Small.{repeated-small, taken-names}
use Rattle.projective_bounds.proofs.Sums.{polynomials-hold, shown-many}
use Rattle.projective_bounds.specs.Colds.{IsReadCold}
use Rattle.projective_bounds.specs.Outline.{IsReadOutline, read_values}
use Rattle.projective_bounds.specs.Whole.{identity_matrix}
use Rattle.projective_bounds.proofs.Cells.{cells-undone}
use Rattle.projective_bounds.proofs.Closed.{leaves-closed}
use Rattle.projective_bounds.proofs.Inside.{inside-short}
use Rattle.projective_bounds.proofs.Nests.{run-all}
use Rattle.projective_bounds.proofs.Outlines.{ColdRead, nest, outline, outline-fits, outline-is, p, ps, runs}

-- ---- counts that are products

-- a form is one variable less 1
shifted-one : (vars p q : ℕ) → p < vars → q < vars → shifted_variable vars p (negsuc 0) ≡ shifted_variable vars q (negsuc 0) → p ≡ q
shifted-one vars p q there other e = elim (same-place p q) [
  | inl same ↦ same
  | inr apart ↦
      let zero : get_or (shifted_variable vars q (negsuc 0)).coefficients p (pos 0) ≡ pos 0 = unit-at vars q p other ∙ unit-other q p (λ f. apart (sym f)) in
      let one : get_or (shifted_variable vars p (negsuc 0)).coefficients p (pos 0) ≡ pos 1 = unit-at vars p p there ∙ unit-same p in
      absurd (clash (sym one ∙ ap (λ (f : AffineForm). get_or f.coefficients p (pos 0)) e ∙ zero))
] where
  clash : pos 1 ≡ pos 0 → ⊥
  clash f = cc

-- so a nest's variables run below one list of parameters
run-one : (program : AffineProgram) (vars : ℕ) (nest : List (AffineForm × AffineForm)) (ps qs : List ℕ) → length program.parameters ≤ vars → RunBelow program vars nest ps → RunBelow program vars nest qs → ps ≡ qs
run-one program vars [] [] [] more h g = refl
run-one program vars [] [] (q ∷ qs) more h g = absurd g
run-one program vars [] (p ∷ ps) qs more h g = absurd h
run-one program vars (b ∷ nest) [] qs more h g = absurd h
run-one program vars (b ∷ nest) (p ∷ ps) [] more h g = absurd g
run-one program vars (b ∷ nest) (p ∷ ps) (q ∷ qs) more h g =
    ap (λ (n : ℕ). n ∷ ps) (shifted-one vars p q (omega (arith, more, h.0.there)) (omega (arith, more, g.0.there)) (sym h.0.upper ∙ g.0.upper))
    ∙ ap (λ (ns : List ℕ). q ∷ ns) (run-one program (suc vars) nest ps qs (omega (arith, more)) h.1 g.1)

module _ (program : AffineProgram) (nest : List (AffineForm × AffineForm)) (claims : SumClaims) (count : IsProductCount program nest claims) (few : length program.assumptions ≤ 32) (room : length program.parameters + length nest ≤ 24) where
  many : length count.parameters ≡ length nest
  many = run-many program (length program.parameters) nest count.parameters count.run

  shown-names : NameRows claims.shown
  shown-names = taken-names program.assumptions (length program.parameters) count.parameters claims.shown few count.shown

  polynomials-fit : ArePolynomials (length program.parameters) nest claims.sums
  polynomials-fit = record {
    small = repeated-small (length program.parameters) count.parameters claims.sums (omega (arith, many, room)) count.sums;
    uses = polynomials-hold program nest claims count;
  }

-- ---- cold terms

module _ (parts : ProgramParts) (is : IsProgram parts) (projective : IsProjective (meaning parts)) (read : ℕ) (fits : ReadFits (meaning parts) (read_number read)) (made : ColdOutline)
    (h : IsReadOutline (meaning parts) read made) where
  abbrev r : ColdRead
  r = record { parts = parts; is = is; projective = projective; read = read; fits = fits; loops = h.loops; are = h.are; below = h.below; run = h.run }

  same : outline r ≡ made
  same = sym (outline-is (meaning parts) read made h)

  pub made-fits : OutlineFits (meaning parts) made
  made-fits = subst (OutlineFits (meaning parts)) same (outline-fits r)

  pub made-runs : AllRun (meaning parts) (length parts.params) made.nest
  made-runs = subst (λ (o : ColdOutline). AllRun (meaning parts) (length parts.params) o.nest) same (run-all (meaning parts) (p r) (nest r) (ps r) (runs r))

  pub made-tests : (tree : SelectionTree) → IsSourceTree (meaning parts) read tree → TestsFit (variables_at (meaning parts) made.reader) tree
  made-tests tree source = subst (λ (o : ColdOutline). TestsFit (variables_at (meaning parts) o.reader) tree) same (tests-fit (meaning parts) (read_number read) [] tree source.stands.fits)

  -- its searches find what is looked for
  pub inside-found : HasNoShort (following (nest_system (meaning parts) (bare made)) (inside_goals (meaning parts) (bare made))) → ⊥
  inside-found = subst (λ (o : ColdOutline). HasNoShort (following (nest_system (meaning parts) (bare o)) (inside_goals (meaning parts) (bare o))) → ⊥) same (λ no. no (inside-short r))

  abbrev EntriesOf : SelectionTree → ColdOutline → List LeafClaim → Type 0
  EntriesOf tree o entries = IsClosedBy Short (meaning parts) tree o entries

  pub leaves-found : (tree : SelectionTree) → IsSourceTree (meaning parts) read tree → ((entries : List LeafClaim) → ¬ EntriesOf tree made entries) → ⊥
  leaves-found tree source =
      subst (λ (o : ColdOutline). ((entries : List LeafClaim) → ¬ EntriesOf tree o entries) → ⊥) same (λ none. let closed = leaves-closed r tree source in none closed.0 closed.1)

  abbrev System : ColdOutline → List Question
  System o = following (nest_system (meaning parts) (bare o)) (inside_goals (meaning parts) (bare o))

  module _ (tree : SelectionTree) (source : IsSourceTree (meaning parts) read tree) (cold : Cold) (of : outline_in (term_of cold) ≡ made) (inside : Answers Short (System made) cold.inside.items)
      (closed : EntriesOf tree made (map claim_of cold.leaves.items)) (count : IsProductCount (meaning parts) cold.nest cold.sums) where
    abbrev own : ColdOutline
    own = outline_in (term_of cold)

    own-fits : OutlineFits (meaning parts) own
    own-fits = subst (OutlineFits (meaning parts)) (sym of) made-fits

    room : length parts.params + length cold.nest ≤ 24
    room = omega (arith, is.limits.parameters, own-fits.few)

    pub cold-holds : IsHeldCold (meaning parts) tree cold
    cold-holds =
        cold-held Short (meaning parts) tree cold own-fits
        (subst (λ (o : ColdOutline). TestsFit (variables_at (meaning parts) o.reader) tree) (sym of) (made-tests tree source))
        (subst (IsUndone (meaning parts)) (sym of) (subst (IsUndone (meaning parts)) same (cells-undone r)))
        (subst (λ (o : ColdOutline). Answers Short (System o) cold.inside.items) (sym of) inside)
        (subst (λ (o : ColdOutline). EntriesOf tree o (map claim_of cold.leaves.items)) (sym of) closed) count.total count.right
        (shown-many (meaning parts) cold.nest cold.sums count) (polynomials-fit (meaning parts) cold.nest cold.sums count is.limits.assumptions room)
        (shown-names (meaning parts) cold.nest cold.sums count is.limits.assumptions room)

    nest-is : cold.nest ≡ nest r
    nest-is = ap (λ (o : ColdOutline). o.nest) (of ∙ sym same)

    pub cold-is : IsReadCold (meaning parts) read cold
    cold-is = record {
      outline = record {
        reader = ap (λ (o : ColdOutline). o.reader) of ∙ h.reader;
        loops = h.loops;
        are = h.are;
        below = h.below;
        run = h.run;
        nest = ap (λ (o : ColdOutline). o.nest) of ∙ h.nest;
        point = ap (λ (o : ColdOutline). o.point) of ∙ h.point ∙ ap (λ (o : ColdOutline). read_values (meaning parts) (length parts.params + length o.nest) h.loops) (sym of);
        matrix = ap (λ (o : ColdOutline). o.matrix) of ∙ h.matrix ∙ ap (λ (o : ColdOutline). identity_matrix (length o.nest)) (sym of);
        scale = ap (λ (o : ColdOutline). o.scale) of ∙ h.scale;
      };
      total = count.total;
      right = count.right;
      product = subst (λ (qs : List ℕ). IsProduct qs count.total) chosen count.product;
    } where
      chosen : count.parameters ≡ ps r
      chosen = run-one (meaning parts) (p r) cold.nest count.parameters (ps r) (omega arith) count.run (subst (λ (n : List (AffineForm × AffineForm)). RunBelow (meaning parts) (p r) n (ps r)) (sym nest-is) (runs r))
