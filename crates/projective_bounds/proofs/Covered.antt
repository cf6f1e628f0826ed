-- Each loop of a projective program is in the set of an array.
use Rattle.std.proofs.Common.{◌≡◌, refl, sym, ◌∙◌, ap, subst, ℕ, zero, suc, ◌+◌, ◌<◌, ◌≤◌, List, [], ◌∷◌, length, map, filter, cond, get_or, arith, inl, inr, Bool, true, false}
use Rattle.std.specs.Prelude.{Option, Some, None, IsSomeAnd, ◌||◌, nat_eq, slice_get}
use Rattle.std.specs.List.{AllByRecursion, range_with_len}
use Rattle.std.proofs.Math.Nat.{eq-or-lt_of_le}
use Rattle.std.proofs.lemmas.Bool.{eq-eqb, or_right}
use Rattle.std.proofs.lemmas.Option.{slice_get_within}
use Rattle.base_laws.proofs.Lists.{All-at}
use Rattle.iolb_model.specs.Program.{Access, AffineProgram, IsWellFormed, no_statement, statement_at}
use Rattle.affine_program.specs.Domain.{depth_of}
use Rattle.cover_lp.specs.Cover.{IsUncovered, holds}
use Rattle.dep_quast.specs.Truth.{ReadFits}
use Rattle.dep_quast.specs.Trees.{read_of}
use Rattle.reuse_paths.proofs.FamilyLabels.{read-rank}
use Rattle.projective.specs.Projective.{HoldsOfOne, IsProjective, coordinates, projection_sets, reference_to, stands_in}

-- the place of a member of which something holds
place-of : (P : Access → Type 0) (none : Access) (xs : List Access) → HoldsOfOne P xs → (k : ℕ) × (k < length xs) × P (get_or xs k none)
place-of P none [] h = absurd h
place-of P none (x ∷ xs) (inl here) = (0, omega arith, here)
place-of P none (x ∷ xs) (inr later) = let found = place-of P none xs later in (suc found.0, omega (arith, found.1), found.2)

-- a number of a range that passes a test is among those that pass
passed-held : (passes : ℕ → Bool) (number first count : ℕ) → first ≤ number → number < first + count → passes number ≡ true → holds (filter passes (range_with_len first count)) number ≡ true
passed-held passes number first zero from below pass = absurd (omega arith)
passed-held passes number first (suc count) from below pass = elim (eq-or-lt_of_le from) [
  | inl e ↦ here (passes first) (ap passes e ∙ pass) e
  | inr less ↦ later (passes first) (passed-held passes number (first + 1) count (omega arith) (omega arith) pass)
] where
  here : (b : Bool) → b ≡ true → first ≡ number → holds (cond b (first ∷ filter passes (range_with_len (first + 1) count)) (filter passes (range_with_len (first + 1) count))) number ≡ true
  here true is e = ap (λ (b : Bool). b || holds (filter passes (range_with_len (first + 1) count)) number) (eq-eqb number first (sym e))
  here false is e = absurd cc

  later : (b : Bool) → holds (filter passes (range_with_len (first + 1) count)) number ≡ true
      → holds (cond b (first ∷ filter passes (range_with_len (first + 1) count)) (filter passes (range_with_len (first + 1) count))) number ≡ true
  later true h = or_right (nat_eq number first) (holds (filter passes (range_with_len (first + 1) count)) number) h
  later false h = h

-- what holds of the sets of a range holds of that of each of its numbers
at-number : (Q : List ℕ → Type 0) (set : ℕ → List ℕ) (number first count : ℕ) → first ≤ number → number < first + count → AllByRecursion Q (map set (range_with_len first count)) → Q (set number)
at-number Q set number first zero from below h = absurd (omega arith)
at-number Q set number first (suc count) from below h = elim (eq-or-lt_of_le from) [
  | inl e ↦ subst (λ (n : ℕ). Q (set n)) e h.0
  | inr less ↦ at-number Q set number (first + 1) count (omega arith) (omega arith) h.1
]

there-is : {X : Type 0} (found : Option X) (P : X → Type 0) → IsSomeAnd found P → (x : X) × (found ≡ Some x)
there-is None P some = absurd some
there-is (Some x) P some = (x, refl)

module _ (program : AffineProgram) (well : IsWellFormed program) (projective : IsProjective program) where
  abbrev p : ℕ
  p = length program.parameters

  abbrev d : ℕ
  d = depth_of program 0

  abbrev reads : List Access
  reads = (statement_at program 0).reads

  pub none-uncovered : (loop : ℕ) → IsUncovered (projection_sets program) d loop → ⊥
  none-uncovered loop bare =
      let standing = place-of (λ (access : Access). stands_in (p + loop) access ≡ true) no_statement.writes reads (projective.projects.standing loop bare.there) in
      let access : Access = get_or reads standing.0 no_statement.writes in
      let fits : ReadFits program (read_of 0 standing.0) = record { statement = omega (arith, projective.one); read = standing.1 } in
      let rank = read-rank program (read_of 0 standing.0) well fits in
      let array = there-is (slice_get program.arrays access.array) (λ array. length access.subscripts ≡ array.rank) rank in
      let known : access.array < length program.arrays = slice_get_within program.arrays access.array array.0 array.1 in
      let first : reference_to reads access.array ≡ Some access = All-at (λ (a : Access). reference_to reads a.array ≡ Some a) reads standing.0 no_statement.writes projective.projects.same standing.1 in
      let empty : holds (coordinates p d (reference_to reads access.array)) loop ≡ false =
      at-number (λ (set : List ℕ). holds set loop ≡ false) (λ array. coordinates p d (reference_to reads array)) access.array 0 (length program.arrays) (omega arith) (omega (arith, known)) bare.bare in
      let full : holds (coordinates p d (Some access)) loop ≡ true =
      passed-held (λ place. stands_in (p + place) access) loop 0 d (omega arith) (omega (arith, bare.there)) standing.2 in
      let clash : true ≡ false = sym full ∙ ap (λ (found : Option Access). holds (coordinates p d found) loop) (sym first) ∙ empty in absurd cc
