-- Counts of nests, as they are found.
use Rattle.std.proofs.Common.{◌≡◌, refl, sym, ◌∙◌, ap, subst, ℕ, suc, ◌+◌, ◌<◌, List, [], ◌∷◌, ◌++◌, length, take, get_or, arith}
use Rattle.std.specs.Prelude.{None}
use Rattle.std.specs.List.{AllByRecursion}
use Rattle.std.proofs.lemmas.List.{length-append, get_or_default}
use Rattle.base_laws.proofs.Lists.{All-append, All-at}
use Rattle.iolb_model.specs.Form.{AffineForm}
use Rattle.iolb_model.specs.Program.{AffineProgram}
use Rattle.affine_form.specs.Multipliers.{FarkasMultipliers}
use Rattle.flow_deps.specs.declared.wanted.Wanted.{Wanted}
use Rattle.flow_deps.specs.declared.wanted.Wanted.TheVariants.{Short}
use Rattle.flow_deps.specs.Answers.{AreAnswered, Answers, HasNoShort, IsAnswered, IsAsShort, Question, following}
use Rattle.flow_deps.proofs.AnswerLaws.{answers-name}
use Rattle.claims.specs.Claims.{AllHold, numbered}
use Rattle.claims.specs.declared.place.Step.{Step}
use Rattle.claims.specs.Shown.{IsFew}
use Rattle.domain_count.specs.Count.{AreShownBelow, ShowsRange, bounds_at, multipliers_at, range_goal, rows_before}
use Rattle.int_sets.specs.ShortList.{HasShortList, IsShort}
use Rattle.domain_count.specs.Claims.{SumClaims}
use Rattle.domain_count.proofs.RangeLemmas.{shown-more}
use Rattle.domain_count.proofs.WithinLimits.{count-stays, made-one}
use Rattle.poly_tree.specs.Poly.{Quotient}
use Rattle.certificate_fit.specs.Limits.{NamesRows}
use Rattle.certificate_fit.specs.PartFit.{polynomials_fit, sum_at}
use Rattle.domain_count.specs.Made.{AreMade, CheckPasses}
use Rattle.domain_count.specs.Ranges.{AreRight, IsFirstNotShown}
use Rattle.find_terms.specs.Counted.{AreCounted, AreRanges, FindsRanges, HasShortRange}
use Rattle.projective_bounds.specs.HeldColds.{ArePolynomials}

-- ---- ranges

-- one question is answered by one list
one-answer : (question : Question) (ms : List FarkasMultipliers) → AreAnswered (question ∷ []) ms → (m : FarkasMultipliers) × (ms ≡ m ∷ []) × IsAnswered question m
one-answer question [] h = absurd h
one-answer question (m ∷ []) h = (m, refl, h.0)
one-answer question (m ∷ n ∷ ms) h = absurd h.1

module _ (wanted : Wanted) (program : AffineProgram) (nest : List (AffineForm × AffineForm)) (k : ℕ) (before : List (AffineForm × AffineForm)) (pair : AffineForm × AffineForm)
    (below : k < length nest) (first : before ≡ take k nest) (here : pair ≡ get_or nest k pair) where
  there : pair ≡ bounds_at nest k
  there = here ∙ get_or_default nest k pair (bounds_at [] 0) below

  -- one range more
  pub ranges-more : (all shown more : List FarkasMultipliers) → AreRanges wanted program nest k all
      → Answers wanted (following (rows_before program before) (range_goal (length program.parameters + length before) pair ∷ [])) shown → more ≡ all ++ shown → AreRanges wanted program nest (k + 1) more
  ranges-more all shown more h answers pushed =
      let question : Question = record { system = rows_before program before; goal = range_goal (length program.parameters + length before) pair } in
      let one = one-answer question shown answers.each in
      let m : FarkasMultipliers = one.0 in
      let shows : ShowsRange program (take k nest) (bounds_at nest k) m =
      subst (λ (b : List (AffineForm × AffineForm)). ShowsRange program b (bounds_at nest k) m) first (subst (λ (p : AffineForm × AffineForm). ShowsRange program before p m) there one.2.1) in
      let same : more ≡ all ++ m ∷ [] = pushed ∙ ap (λ (ms : List FarkasMultipliers). all ++ ms) one.1 in
      record {
        each = ap length same ∙ length-append all (m ∷ []) ∙ ap (λ (n : ℕ). n + 1) h.each;
        shown_below = subst (λ (ms : List FarkasMultipliers). AreShownBelow program nest ms (k + 1)) (sym same) (shown-more program nest all m k h.each h.shown_below shows);
        names = subst (AllByRecursion NamesRows) (sym pushed) (All-append NamesRows all shown h.names (answers-name (question ∷ []) shown answers.each));
        as_short = subst (AllByRecursion (IsAsShort wanted)) (sym pushed) (All-append (IsAsShort wanted) all shown h.as_short answers.as_short);
      }

  -- a range that has no short list
  pub range-not : IsFew (length (rows_before program before).rows) → HasNoShort (following (rows_before program before) (range_goal (length program.parameters + length before) pair ∷ []))
      → ¬ HasShortRange program nest k
  range-not few none short = none ((few, back), tt) where
    back : HasShortList (rows_before program before) (range_goal (length program.parameters + length before) pair)
    back = subst (λ (b : List (AffineForm × AffineForm)). HasShortList (rows_before program b) (range_goal (length program.parameters + length b) pair)) (sym first)
        (subst (λ (p : AffineForm × AffineForm). HasShortList (rows_before program (take k nest)) (range_goal (length program.parameters + length (take k nest)) p)) (sym there) short)

-- claims with short lists have a short list for each range
pub short-range : (program : AffineProgram) (nest : List (AffineForm × AffineForm)) (claims : SumClaims) (k : ℕ) → AreCounted Short program nest claims → k < length nest → HasShortRange program nest k
short-range program nest claims k h below = (
  multipliers_at claims.shown k,
  All-at IsShort claims.shown k (record { scale = 1; rest = 0; weights = [] }) h.as_short (omega (arith, h.each, below)),
  (h.right.shown k below).1,
)

-- ---- polynomials

fit-anywhere : (variables : ℕ) (place other : List Step) (index : ℕ) (sums : List Quotient) → AllHold (numbered (sum_at variables place) index sums) → AllHold (numbered (sum_at variables other) index sums)
fit-anywhere variables place other index [] h = tt
fit-anywhere variables place other index (sum ∷ sums) h = (h.0, fit-anywhere variables place other (suc index) sums h.1)

-- what is asked of polynomials is asked at any place
pub polynomials-anywhere : (params called : ℕ) (place other : List Step) (sums : List Quotient) → AllHold (polynomials_fit params place sums called) → AllHold (polynomials_fit params other sums called)
polynomials-anywhere params called place other sums h = (h.0, fit-anywhere (suc params) place other 0 sums h.1)

-- ---- what is found

module _ (program : AffineProgram) (nest : List (AffineForm × AffineForm)) where
  -- some range has no short list
  pub ranges-none : FindsRanges Short program nest None → (claims : SumClaims) → ¬ AreCounted Short program nest claims
  ranges-none (k, below, none) claims h = none (short-range program nest claims k h below)

  pub first-none : (k : ℕ) → IsFirstNotShown program nest k → (claims : SumClaims) → ¬ AreCounted Short program nest claims
  first-none k none claims h = none.no_list (short-range program nest claims k h none.there)

  -- an operation on the polynomials of the summation passes its limit
  pub wide-none : CheckPasses program nest → (claims : SumClaims) → ¬ AreCounted Short program nest claims
  wide-none passes claims h = count-stays program nest claims h.total h.right h.made passes

  -- or they aren't within the limits of certificates
  pub misfit-none : (sums : List Quotient) → AreMade (length program.parameters) nest sums → ¬ ArePolynomials (length program.parameters) nest sums → (claims : SumClaims)
      → ¬ AreCounted Short program nest claims
  misfit-none sums made misfit claims h =
      misfit (subst (ArePolynomials (length program.parameters) nest) (made-one program nest claims.sums sums h.made made) h.polynomials)

  -- all that is claimed is found
  pub counted-some : (wanted : Wanted) (shown : List FarkasMultipliers) (made claims : SumClaims) → AreRanges wanted program nest (length nest) shown → AreRight program nest made
      → AreMade (length program.parameters) nest made.sums → ArePolynomials (length program.parameters) nest made.sums → claims ≡ record { shown = shown; sums = made.sums }
      → AreCounted wanted program nest claims
  counted-some wanted shown made claims ranges right are fit same = subst (AreCounted wanted program nest) (sym same) (record {
    total = right.0;
    right = record { shown = ranges.shown_below; sums = right.1.sums };
    each = ranges.each;
    polynomials = fit;
    made = are;
    names = ranges.names;
    as_short = ranges.as_short;
  })
