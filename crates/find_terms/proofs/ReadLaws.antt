-- Reads in their order, and their arrays.
use Rattle.std.proofs.Common.{◌≡◌, refl, sym, ◌∙◌, ap, subst, ℕ, zero, suc, ◌+◌, ◌<◌, ◌≤◌, List, [], ◌∷◌, ◌++◌, length, map, arith, inl, inr}
use Rattle.std.specs.Prelude.{◌⊎◌, Contains, Option, None, IsSomeAnd, slice_get}
use Rattle.std.specs.List.{AllByRecursion}
use Rattle.std.proofs.lemmas.List.{length-append, length-map, map-append}
use Rattle.base_laws.proofs.Lists.{All-at, All-push, All-weaken}
use Rattle.iolb_model.specs.Program.{AccessFits, AffineProgram, Array, IsWellFormed, statement_at, no_statement}
use Rattle.dep_quast.specs.Context.{ReadOf, reference_of}
use Rattle.dep_quast.specs.Truth.{ReadFits}
use Rattle.dep_quast.proofs.Fits.{fits-at}
use Rattle.affine_program.specs.Domain.{depth_of}
use Rattle.wavefront.specs.declared.cold.Cold.{Cold}
use Rattle.find_terms.specs.Found.{FindsFirst, HasNoEarlier}
use Rattle.find_terms.specs.Openings.{AreRising, AreOpenings, HasPlainRead, IsEarlierRead, IsFirstOpening, IsPlainRead}
use Rattle.projective_bounds.specs.HeldColds.{array_read}
use Rattle.iolb_model.specs.declared.limits.TheConstants.{OPENING_TERMS}

-- ---- the order of reads

cases : (m n : ℕ) → m < n + 1 → (m < n) ⊎ (m ≡ n)
cases m n h = grind arith

-- what comes before the next read
before-next : (other : ReadOf) (s r : ℕ) → IsEarlierRead other (record { statement = s; read = r + 1 }) → IsEarlierRead other (record { statement = s; read = r }) ⊎ (other ≡ record { statement = s; read = r })
before-next other s r (inl less) = inl (inl less)
before-next other s r (inr (same, less)) = elim (cases other.read r less) [
  | inl below ↦ inl (inr (same, below))
  | inr here ↦ inr (λ i. record { statement = same i; read = here i })
]

module _ (program : AffineProgram) (array : ℕ) where
  -- none comes before the next read
  pub earlier-next : (s r : ℕ) → HasNoEarlier program array (record { statement = s; read = r })
      → ((reference_of program (record { statement = s; read = r })).array ≡ array → ¬ IsPlainRead program (record { statement = s; read = r }))
      → HasNoEarlier program array (record { statement = s; read = r + 1 })
  earlier-next s r none here other before same = elim (before-next other s r before) [
    | inl less ↦ none other less same
    | inr is ↦ λ plain. here (ap (λ (o : ReadOf). (reference_of program o).array) (sym is) ∙ same) (subst (IsPlainRead program) is plain)
  ]

  -- nor before the next statement
  pub earlier-statement : (s count : ℕ) → length (statement_at program s).reads ≤ count → HasNoEarlier program array (record { statement = s; read = count })
      → HasNoEarlier program array (record { statement = s + 1; read = 0 })
  earlier-statement s count all none other (inr (same, less)) is plain = absurd (omega arith)
  earlier-statement s count all none other (inl less) is plain = elim (cases other.statement s less) [
    | inl below ↦ none other (inl below) is plain
    | inr here ↦
        let there : other.read < length (statement_at program other.statement).reads = plain.1.read.read in
        let same : length (statement_at program other.statement).reads ≡ length (statement_at program s).reads = ap (λ (n : ℕ). length (statement_at program n).reads) here in
        none other (inr (here, omega (arith, there, same, all))) is plain
  ]

  pub earlier-first : HasNoEarlier program array (record { statement = 0; read = 0 })
  earlier-first other (inl less) is plain = absurd (omega arith)
  earlier-first other (inr (same, less)) is plain = absurd (omega arith)

  -- none behind all statements
  pub earlier-all : (end : ℕ) → length program.statements ≤ end → HasNoEarlier program array (record { statement = end; read = 0 }) → ¬ HasPlainRead program array
  earlier-all end all none (reader, is, plain) = none reader (inl (omega (arith, all, plain.1.read.statement))) is plain

-- ---- arrays

has-below : (arrays : List Array) (k : ℕ) (P : Array → Type 0) → IsSomeAnd (slice_get arrays k) P → k < length arrays
has-below [] k P h = absurd h
has-below (a ∷ arrays) zero P h = omega arith
has-below (a ∷ arrays) (suc k) P h = omega (arith, has-below arrays k P h)

-- a read's array is there
pub array-there : (program : AffineProgram) (reader : ReadOf) → IsWellFormed program → ReadFits program reader → (reference_of program reader).array < length program.arrays
array-there program reader well fits =
    let here = All-at (AccessFits program (length program.parameters + depth_of program reader.statement)) (statement_at program reader.statement).reads reader.read no_statement.writes
    (fits-at program reader.statement well fits.statement).reads fits.read in
    has-below program.arrays (reference_of program reader).array (λ array. length (reference_of program reader).subscripts ≡ array.rank) here.rank

-- ---- opening terms of the arrays before one

rising-push : (ns : List ℕ) (n : ℕ) → AreRising ns → AllByRecursion (λ (m : ℕ). m < n) ns → AreRising (ns ++ n ∷ [])
rising-push [] n h below = (tt, tt)
rising-push (m ∷ ns) n h below = (All-push (λ (later : ℕ). m < later) ns n h.0 below.0, rising-push ns n h.1 below.1)

contains-left : (xs ys : List ℕ) (n : ℕ) → Contains xs n → Contains (xs ++ ys) n
contains-left [] ys n (k, below, is) = absurd (omega arith)
contains-left (x ∷ xs) ys n (zero, below, is) = (0, omega arith, is)
contains-left (x ∷ xs) ys n (suc k, below, is) = let h = contains-left xs ys n (k, omega arith, is) in (suc h.0, omega (arith, h.1), h.2)

contains-last : (xs : List ℕ) (n : ℕ) → Contains (xs ++ n ∷ []) n
contains-last [] n = (0, omega arith, refl)
contains-last (x ∷ xs) n = let h = contains-last xs n in (suc h.0, omega (arith, h.1), h.2)

module _ (program : AffineProgram) where
  -- what stands of the arrays before one
  pub record AreOpeningsTo (end : ℕ) (colds : List Cold) : Type 0 where
    pub each : AllByRecursion (IsFirstOpening program) colds
    pub order : AreRising (map (array_read program) colds)
    pub below : AllByRecursion (λ (cold : Cold). array_read program cold < end) colds
    pub few : length colds ≤ OPENING_TERMS
    pub all : (array : ℕ) → array < end → HasPlainRead program array → Contains (map (array_read program) colds) array
        ⊎ ((length colds ≡ OPENING_TERMS) × AllByRecursion (λ (cold : Cold). array_read program cold < array) colds)

  pub openings-none : AreOpeningsTo 0 []
  openings-none = record { each = tt; order = tt; below = tt; few = omega arith; all = λ array less. absurd (omega arith) }

  module _ (end : ℕ) (colds : List Cold) (h : AreOpeningsTo end colds) where
    wider : AllByRecursion (λ (cold : Cold). array_read program cold < end + 1) colds
    wider = All-weaken (λ (cold : Cold). array_read program cold < end) (λ (cold : Cold). array_read program cold < end + 1) colds (λ cold less. omega (arith, less)) h.below

    -- an array more that has no plain read
    pub openings-skip : (¬ HasPlainRead program end) → AreOpeningsTo (end + 1) colds
    openings-skip none = record {
      each = h.each;
      order = h.order;
      below = wider;
      few = h.few;
      all = λ array less has. elim (cases array end less) [
        | inl before ↦ h.all array before has
        | inr here ↦ absurd (none (subst (HasPlainRead program) here has))
      ];
    }

    -- or that comes after those of 16 terms
    pub openings-full : length colds ≡ OPENING_TERMS → AreOpeningsTo (end + 1) colds
    openings-full full = record {
      each = h.each;
      order = h.order;
      below = wider;
      few = h.few;
      all = λ array less has. elim (cases array end less) [
        | inl before ↦ h.all array before has
        | inr here ↦ inr (full, subst (λ (n : ℕ). AllByRecursion (λ (cold : Cold). array_read program cold < n) colds) (sym here) h.below)
      ];
    }

    -- or that has a term
    pub openings-more : (cold : Cold) (more : List Cold) → length colds < OPENING_TERMS → array_read program cold ≡ end → IsFirstOpening program cold → more ≡ colds ++ cold ∷ [] → AreOpeningsTo (end + 1) more
    openings-more cold more room reads first pushed = subst (AreOpeningsTo (end + 1)) (sym pushed) (
        let arrays : List ℕ = map (array_read program) colds in
        let pushed_arrays : map (array_read program) (colds ++ cold ∷ []) ≡ arrays ++ array_read program cold ∷ [] = map-append (array_read program) colds (cold ∷ []) in
        record {
          each = All-push (IsFirstOpening program) colds cold h.each first;
          order = subst AreRising (sym pushed_arrays)
              (rising-push arrays (array_read program cold) h.order (remap colds (subst (λ (n : ℕ). AllByRecursion (λ (c : Cold). array_read program c < n) colds) (sym reads) h.below)));
          below = All-push (λ (c : Cold). array_read program c < end + 1) colds cold wider (omega (arith, reads));
          few = omega (arith, length-append colds (cold ∷ []), room);
          all = λ array less has. inl (subst (λ (ns : List ℕ). Contains ns array) (sym pushed_arrays) (elim (cases array end less) [
            | inl before ↦ contains-left arrays (array_read program cold ∷ []) array (contained array before has)
            | inr here ↦ subst (Contains (arrays ++ array_read program cold ∷ [])) (reads ∙ sym here) (contains-last arrays (array_read program cold))
          ]));
        }) where
          remap : (cs : List Cold) → AllByRecursion (λ (c : Cold). array_read program c < array_read program cold) cs → AllByRecursion (λ (m : ℕ). m < array_read program cold) (map (array_read program) cs)
          remap [] g = tt
          remap (c ∷ cs) g = (g.0, remap cs g.1)

          contained : (array : ℕ) → array < end → HasPlainRead program array → Contains (map (array_read program) colds) array
          contained array before has = elim (h.all array before has) [
            | inl there ↦ there
            | inr full ↦ absurd (omega (arith, room, full.0))
          ]

-- all arrays
pub openings-all : (program : AffineProgram) (end : ℕ) (colds : List Cold) → IsWellFormed program → length program.arrays ≤ end → AreOpeningsTo program end colds → AreOpenings program colds
openings-all program end colds well past h = record {
  each = h.each;
  order = h.order;
  few = h.few;
  all = λ array has. h.all array (omega (arith, past, below array has)) has;
} where
  below : (array : ℕ) → HasPlainRead program array → array < length program.arrays
  below array (reader, is, plain) = omega (arith, array-there program reader well plain.1.read, is)

-- where there are none, no read is plain
pub openings-empty : (program : AffineProgram) (colds : List Cold) → length colds ≡ 0 → AreOpenings program colds → (reader : ReadOf) → ¬ IsPlainRead program reader
openings-empty program colds none h reader plain = elim (h.all (reference_of program reader).array (reader, refl, plain)) [
  | inl there ↦ absurd (omega (arith, there.1, length-map colds (array_read program), none))
  | inr full ↦ absurd (omega (arith, full.0, none))
]

-- ---- what a search for the first plain read finds

pub first-none : (program : AffineProgram) (array : ℕ) (end : ReadOf) (found : Option Cold) → found ≡ None → FindsFirst program array end found → HasNoEarlier program array end
first-none program array end found is h = subst (FindsFirst program array end) is h
