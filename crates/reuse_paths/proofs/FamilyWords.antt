-- The words in a family's footprint.
use Rattle.std.proofs.Common.{◌≡◌, refl, sym, ◌∙◌, ap, subst, inl, inr, ℕ, suc, ◌+◌, Bool, true, false, not, if◌then◌else◌, List, [], ◌∷◌, ◌++◌, arith}
use Rattle.std.specs.Prelude.{◌⊎◌, Option, Some, None, slice_get, flat_map, ◌&&◌}
use Rattle.std.specs.Option.{option_map_or}
use Rattle.std.specs.List.{enumerate_from}
use Rattle.std.proofs.Math.IntN.{ℤ, pos, negsuc}
use lib.Signed.{◌≤ℤ◌}
use Rattle.std.proofs.lemmas.Int.{ints}
use Rattle.iolb_model.specs.Form.{AffineForm, form_value}
use Rattle.iolb_model.specs.Program.{AffineProgram}
use Rattle.iolb_model.specs.Printed.{is_below_zero}
use Rattle.iolb_model.specs.Domain.{IsAt}
use Rattle.iolb_model.specs.Execution.{Instance, execution}
use Rattle.iolb_model.specs.Graph.{placed}
use Rattle.execution_laws.proofs.Members.{Member, Member-append_left, Member-append_right, Member-map, Member-flat_map, Member-enumerate}
use Rattle.execution_laws.proofs.Ordered.{Member-append, Member-map_from, Member-flat_map_from}
use Rattle.affine_form.specs.System.{IsMet}
use Rattle.reuse_paths.specs.Families.{FamilyForms}
use Rattle.reuse_paths.specs.FamilyFootprint.{meets, instances_in, word_of, start_words, region_word, region_words_at, family_footprint}
use Rattle.reuse_paths.specs.Places.{place_of}
use Rattle.reuse_paths.specs.SoundFamilies.{family_region, IsInside}
use Rattle.reuse_paths.specs.Walks.{WalkRegion}

-- a row of a region that is met, and one that isn't
meets-met : (rows : List AffineForm) (point : List ℤ) → meets rows point ≡ true → IsMet rows point
meets-met [] point h = tt
meets-met (row ∷ rows) point h = by (form_value row point) refl h (meets-met rows point) where
  by : (v : ℤ) → form_value row point ≡ v → (not (is_below_zero (form_value row point)) && meets rows point) ≡ true → (meets rows point ≡ true → IsMet rows point) → IsMet (row ∷ rows) point
  by (pos n) e t later =
      (subst (λ (z : ℤ). pos 0 ≤ℤ z) (sym e) (omega (arith, ints)), later (subst (λ (z : ℤ). (not (is_below_zero z) && meets rows point) ≡ true) e t))
  by (negsuc n) e t later = absurd (no (subst (λ (z : ℤ). (not (is_below_zero z) && meets rows point) ≡ true) e t)) where
    no : false ≡ true → ⊥
    no p = cc

met-meets : (rows : List AffineForm) (point : List ℤ) → IsMet rows point → meets rows point ≡ true
met-meets [] point h = refl
met-meets (row ∷ rows) point h = by (form_value row point) refl h.0 (met-meets rows point h.1) where
  by : (v : ℤ) → form_value row point ≡ v → pos 0 ≤ℤ form_value row point → meets rows point ≡ true → (not (is_below_zero (form_value row point)) && meets rows point) ≡ true
  by (pos n) e above later = subst (λ (z : ℤ). (not (is_below_zero z) && meets rows point) ≡ true) (sym e) later
  by (negsuc n) e above later = absurd (below (subst (λ (z : ℤ). pos 0 ≤ℤ z) e above)) where
    below : pos 0 ≤ℤ negsuc n → ⊥
    below less = omega (arith, ints)

placed-at : (first : ℕ) (these : List Instance) (run : ℕ × Instance) → Member run (enumerate_from first these) → (k : ℕ) × ((run.0 ≡ first + k) × (slice_get these k ≡ Some run.1))
placed-at first [] run member = absurd member
placed-at first (i ∷ these) run (inl e) = (0, (ap (λ (r : ℕ × Instance). r.0) e ∙ none first, ap Some (sym (ap (λ (r : ℕ × Instance). r.1) e)))) where
  none : (k : ℕ) → k ≡ k + 0
  none k = omega arith
placed-at first (i ∷ these) run (inr member) = let later = placed-at (first + 1) these run member in (suc later.0, (later.1.0 ∙ shift first later.0, later.1.1)) where
  shift : (m k : ℕ) → (m + 1) + k ≡ m + suc k
  shift m k = omega arith

-- a word that the start walk takes from a counted instance
abbrev pub StartWord : AffineProgram → ℕ → List (AffineForm × AffineForm) → FamilyForms → List ℤ → ℕ → Type 0
StartWord program statement nest family parameters vertex =
    (instance : Instance) × (Member instance (instances_in statement nest parameters) × (vertex ≡ word_of program parameters family.start (place_of program parameters instance) instance))

-- one that the walk of a region takes from an instance in it
pub record RegionWord (program : AffineProgram) (family : FamilyForms) (parameters : List ℤ) (vertex : ℕ) : Type 0 where
  pub place : ℕ
  pub instance : Instance
  pub at : IsAt program parameters place instance
  pub inside : IsInside family parameters instance
  pub is : vertex ≡ word_of program parameters inside.region.tree place instance

module _ (program : AffineProgram) (statement : ℕ) (nest : List (AffineForm × AffineForm)) (family : FamilyForms) (parameters : List ℤ) where
  abbrev runs : List Instance
  runs = execution program parameters

  abbrev first : List ℕ
  first = start_words program statement nest family parameters

  abbrev second : List ℕ
  second = flat_map (region_words_at program parameters family) (placed runs)

  none : (k : ℕ) → 0 + k ≡ k
  none k = omega arith

  region-case : (run : ℕ × Instance) (vertex : ℕ) → IsAt program parameters run.0 run.1 → (o : Option WalkRegion) → family_region family run.1.statement ≡ o
      → Member vertex (option_map_or (region_word program parameters run) o []) → RegionWord program family parameters vertex
  region-case run vertex at None e m = absurd m
  region-case run vertex at (Some region) e m = by (meets region.rows (parameters ++ run.1.values)) refl m where
    by : (b : Bool) → meets region.rows (parameters ++ run.1.values) ≡ b → Member vertex (if b then word_of program parameters region.tree run.0 run.1 ∷ [] else []) → RegionWord program family parameters vertex
    by true t (inl same) =
        record { place = run.0; instance = run.1; at = at; inside = record { region = region; is = e; met = meets-met region.rows (parameters ++ run.1.values) t }; is = same }
    by true t (inr later) = absurd later
    by false t later = absurd later

  -- each word of the footprint is one or the other
  pub word-cases : (vertex : ℕ) → Member vertex (family_footprint program statement nest family parameters) → StartWord program statement nest family parameters vertex ⊎ RegionWord program family parameters vertex
  word-cases vertex member = by (Member-append vertex first second member) where
    by : Member vertex first ⊎ Member vertex second → StartWord program statement nest family parameters vertex ⊎ RegionWord program family parameters vertex
    by (inl m) = inl (Member-map_from (λ (i : Instance). word_of program parameters family.start (place_of program parameters i) i) vertex (instances_in statement nest parameters) m)
    by (inr m) =
        let from = Member-flat_map_from (region_words_at program parameters family) vertex (placed runs) m in
        let there = placed-at 0 runs from.0 from.1.0 in
        inr (region-case from.0 vertex (subst (λ (k : ℕ). IsAt program parameters k from.0.1) (sym (there.1.0 ∙ none there.0)) there.1.1) (family_region family from.0.1.statement) refl from.1.1)

  -- and these are words of it
  pub start-member : (instance : Instance) → Member instance (instances_in statement nest parameters)
      → Member (word_of program parameters family.start (place_of program parameters instance) instance) (family_footprint program statement nest family parameters)
  start-member instance member =
      Member-append_left (word_of program parameters family.start (place_of program parameters instance) instance) first second
      (Member-map (λ (i : Instance). word_of program parameters family.start (place_of program parameters i) i) instance (instances_in statement nest parameters) member)

  pub region-member : (n : ℕ) (instance : Instance) → IsAt program parameters n instance → (inside : IsInside family parameters instance)
      → Member (word_of program parameters inside.region.tree n instance) (family_footprint program statement nest family parameters)
  region-member n instance at inside =
      let vertex : ℕ = word_of program parameters inside.region.tree n instance in
      let is : region_words_at program parameters family (n, instance) ≡ vertex ∷ [] =
      ap (λ (o : Option WalkRegion). option_map_or (region_word program parameters (n, instance)) o []) inside.is
      ∙ ap (λ (b : Bool). if b then vertex ∷ [] else []) (met-meets inside.region.rows (parameters ++ instance.values) inside.met) in
      Member-append_right vertex first second
      (Member-flat_map (region_words_at program parameters family) (n, instance) (placed runs) vertex
      (subst (λ (m : ℕ). Member (m, instance) (placed runs)) (none n) (Member-enumerate 0 runs n instance at)) (subst (Member vertex) (sym is) (inl refl)))
