-- An output whose claims hold is sound, and a sound output is stored.
use Rattle.std.proofs.Common.{◌≡◌, refl, sym, ◌∙◌, ap, subst, ℕ, zero, suc, ◌+◌, ◌<◌, ◌≤◌, Bool, true, false, List, [], ◌∷◌, ◌++◌, length, map, get_or, drop, arith}
use Rattle.std.specs.Prelude.{not, Some, codes, slice_get, ◌||◌}
use Rattle.std.specs.List.{AllByRecursion, list_any}
use Rattle.std.proofs.Math.IntN.{ℤ}
use Rattle.std.proofs.lemmas.List.{get_or-map, length-map}
use Rattle.std.proofs.lemmas.List.FromFn.{get_or-enumerate_from, length-enumerate_from}
use Rattle.base_laws.proofs.Lists.{All-map, All-weaken}
use Rattle.iolb_model.specs.Path.{PathStep, row_path}
use Rattle.iolb_model.specs.Program.{AffineProgram, IsWellFormed}
use Rattle.iolb_model.specs.Bound.{IsAdmitted}
use Rattle.iolb_model.specs.Domain.{IsAt, IsWithin, LeadAlong}
use Rattle.iolb_model.specs.Execution.{Instance, execution}
use Rattle.iolb_model.specs.Game.{marked}
use Rattle.iolb_model.specs.Graph.{computation_graph, is_last_writer, placed}
use Rattle.iolb_model.specs.Source.{same_cell, written_cell}
use Rattle.execution_laws.proofs.Cells.{same_cell-equal}
use Rattle.execution_laws.proofs.Domains.{domains_executed, way-there}
use Rattle.execution_laws.proofs.Members.{Member}
use Rattle.execution_laws.proofs.Ordered.{All-from, All-member}
use Rattle.execution_laws.proofs.Ways.{holds-there}
use Rattle.affine_form.specs.Shown.{HasNoPoint}
use Rattle.affine_form.specs.System.{AffineSystem, IsMet}
use Rattle.affine_form.proofs.RowLemmas.{length-variables}
use Rattle.affine_form.proofs.Meaning.{values-front}
use Rattle.affine_program.specs.Domain.{path_of}
use Rattle.claims.specs.Claims.{AllHold, Claim}
use Rattle.claims.specs.declared.place.Step.{Step}
use Rattle.claims.specs.declared.place.Step.TheVariants.{Key}
use Rattle.claims.proofs.Laws.{AllHold-left, AllHold-right}
use Rattle.claims.proofs.Systems.{goals-met, none-met}
use Rattle.dep_quast.specs.Context.{parameter_point}
use Rattle.domain_count.specs.Points.{points}
use Rattle.pebble_game.proofs.InputVertices.{slice_get-below}
use Rattle.reuse_paths.specs.Places.{IsExecuted, place_of}
use Rattle.reuse_paths.proofs.NestPoints.{distinct-images, nest-met, points-differ, points-long, points-within}
use Rattle.reuse_paths.proofs.Places.{executed-there}
use Rattle.wavefront.specs.Inverse.{AreUndone}
use Rattle.wavefront.proofs.InverseClaims.{hold-undone}
use Rattle.wavefront.proofs.Undone.{undone-same}
use Rattle.store_laws.specs.Stored.{IsLastWriter, stores_of}
use Rattle.store_laws.proofs.StoredVertices.{last_stores}
use Rattle.store_terms.specs.Claims.{OutputClaim}
use Rattle.last_writers.specs.OutputClaims.{instance_claims, later_writes, output_goals, output_inside, output_inverse, output_later, output_system, output_variables}
use Rattle.last_writers.specs.Fitting.{OutputFits}
use Rattle.last_writers.specs.Outputs.{IsSoundOutput, SoundOutputsAreStored, ValidOutputsAreSound, WritesLast, output_footprint, output_instance}
use Rattle.last_writers.proofs.LaterWrites.{none-later}
use Rattle.affine_program.proofs.Domains.{length-domain_rows, domain_rows-says}

-- ---- marks of last writers

-- a test that no member passes
none-pass : {X : Type 0} (test : X → Bool) (xs : List X) → ((k : ℕ) (x : X) → slice_get xs k ≡ Some x → test x ≡ true → ⊥) → list_any test xs ≡ false
none-pass test [] none = refl
none-pass test (x ∷ xs) none = by (test x) refl (none-pass test xs (λ k y e. none (suc k) y e)) where
  by : (b : Bool) → test x ≡ b → list_any test xs ≡ false → (b || list_any test xs) ≡ false
  by true e rest = absurd (none zero x refl e)
  by false e rest = rest

-- what stands past a place stands further on
stands-past : {X : Type 0} (xs : List X) (n k : ℕ) (x : X) → slice_get (drop n xs) k ≡ Some x → slice_get xs (n + k) ≡ Some x
stands-past xs zero k x e = subst (λ (m : ℕ). slice_get xs m ≡ Some x) (turned k) e where
  turned : (m : ℕ) → m ≡ 0 + m
  turned m = omega arith
stands-past [] (suc n) k x e = absurd cc
stands-past (y ∷ xs) (suc n) k x e = subst (λ (m : ℕ). slice_get (y ∷ xs) m ≡ Some x) (turned n k) (stands-past xs n k x e) where
  turned : (a b : ℕ) → suc (a + b) ≡ suc a + b
  turned a b = omega arith

module _ (program : AffineProgram) (parameters : List ℤ) (place : ℕ) (instance : Instance) (here : IsAt program parameters place instance) where
  abbrev runs : List Instance
  runs = execution program parameters

  -- the mark of the instance at a place
  mark-at : marked (computation_graph program parameters).last_writers place ≡ is_last_writer program parameters runs (place, instance)
  mark-at =
      get_or-map (is_last_writer program parameters runs) (placed runs) place (0, instance) false (subst (λ (n : ℕ). place < n) (sym (length-enumerate_from 0 runs)) below)
      ∙ ap (is_last_writer program parameters runs) (get_or-enumerate_from 0 runs place (0, instance) below ∙ pair (0 + place) place (get_or runs place instance) instance (omega arith) (found runs place here)) where
        below : place < length runs
        below = slice_get-below runs place instance here

        pair : (a b : ℕ) (x y : Instance) → a ≡ b → x ≡ y → ◌≡◌ {A = ℕ × Instance} (a, x) (b, y)
        pair a b x y e f = cc

        found : (xs : List Instance) (n : ℕ) → slice_get xs n ≡ Some instance → get_or xs n instance ≡ instance
        found [] n e = refl
        found (x ∷ xs) zero e = cc
        found (x ∷ xs) (suc n) e = found xs n e

  -- where no later instance writes its cell, it is a last writer
  last-marked : ((k : ℕ) (other : Instance) → IsAt program parameters k other → place < k → written_cell program parameters other ≡ written_cell program parameters instance → ⊥)
      → marked (computation_graph program parameters).last_writers place ≡ true
  last-marked none =
      mark-at ∙ ap not (none-pass (λ (later : Instance). same_cell (written_cell program parameters later) (written_cell program parameters instance)) (drop (suc place) runs)
      (λ k other e same. none (suc place + k) other (stands-past runs (suc place) k other e) (omega arith)
      (same_cell-equal (written_cell program parameters other) (written_cell program parameters instance) same)))

-- ---- outputs

module _ (program : AffineProgram) (at : List Step) (output : OutputClaim) (formed : IsWellFormed program) (fits : OutputFits program output) (holds : AllHold (instance_claims program at output))
    (parameters : List ℤ) (admitted : IsAdmitted program parameters) where
  abbrev inside : List Claim
  inside = output_inside program at output

  abbrev inverse : List Claim
  inverse = output_inverse program at output

  abbrev later : List Claim
  later = output_later program at output

  holds-two : AllHold (inside ++ inverse)
  holds-two = AllHold-left (inside ++ inverse) later holds

  undone : AreUndone output.matrix output.scale (length program.parameters) (length output.nest) output.point
  undone = hold-undone output.matrix output.scale (length program.parameters) (length output.nest) output.point at (AllHold-right inside inverse holds-two)

  -- the later writes have no point
  none : (system : AffineSystem) → Member system (later_writes program output) → (p : List ℤ) → IsMet system.rows p → ⊥
  none system m =
      All-member HasNoPoint (later_writes program output) system
      (none-met 24 (at ++ Key (codes "later") ∷ []) 0 (later_writes program output) output.later (omega (arith, fits.later)) (AllHold-right (inside ++ inverse) later holds)) m

  module _ (u : List ℤ) (within : IsWithin output.nest parameters u) where
    abbrev instance : Instance
    instance = output_instance output parameters u

    abbrev vars : ℕ
    vars = output_variables program output

    goals : IsMet (output_goals program output) (parameters ++ u)
    goals =
        goals-met 10 (at ++ Key (codes "inside") ∷ []) (output_system program output) 0 (output_goals program output) output.inside (parameters ++ u)
        (omega (arith, fits.inside, length-domain_rows program output.statement vars (parameter_point program vars) output.point fits.point))
        (AllHold-left inside inverse holds-two) (nest-met program output.nest parameters u formed admitted within)

    executed : IsExecuted program parameters instance
    executed =
        let path : List PathStep = path_of program output.statement in
        let inner : LeadAlong path parameters instance.values =
        subst (λ (q : List ℤ). LeadAlong path q instance.values) (values-front vars (length program.parameters) parameters u (sym admitted.each) (omega arith))
        (domain_rows-says program output.statement vars (parameter_point program vars) output.point (parameters ++ u) formed (length-variables vars 0 (length program.parameters)) fits.point goals) in
        let there : (n : ℕ) × IsAt program parameters n instance =
        (domains_executed program parameters instance formed).1
        (holds-there (row_path program.tree output.statement) (λ p. LeadAlong p parameters instance.values) (way-there program output.statement formed fits.there) inner) in
        executed-there program parameters there.0 instance there.1

    writes-last : WritesLast program parameters instance
    writes-last = (
      executed,
      last-marked program parameters (place_of program parameters instance) instance executed
          (λ k other stands less same. none-later program output formed fits parameters u admitted within none (place_of program parameters instance) k other executed stands less same),
    )

  each : AllByRecursion (λ u. WritesLast program parameters (output_instance output parameters u)) (points output.nest parameters)
  each = All-from (λ u. WritesLast program parameters (output_instance output parameters u)) (points output.nest parameters)
      (λ u m. writes-last u (All-member (λ (w : List ℤ). IsWithin output.nest parameters w) (points output.nest parameters) u (points-within output.nest parameters) m))

  one-instance : (u w : List ℤ) → Member u (points output.nest parameters) → Member w (points output.nest parameters)
      → place_of program parameters (output_instance output parameters u) ≡ place_of program parameters (output_instance output parameters w) → u ≡ w
  one-instance u w m n e =
      let last : List ℤ → Type 0 = λ x. WritesLast program parameters (output_instance output parameters x) in
      let all : List (List ℤ) = points output.nest parameters in
      let at_u : last u = All-member last all u each m in
      let at_w : last w = All-member last all w each n in
      undone-same output.matrix output.scale (length program.parameters) (length output.nest) output.point parameters u w admitted.each fits.scale undone
      (All-member (λ (x : List ℤ). length x ≡ length output.nest) all u (points-long output.nest parameters) m)
      (All-member (λ (x : List ℤ). length x ≡ length output.nest) all w (points-long output.nest parameters) n)
      (same_values (output_instance output parameters u) (output_instance output parameters w) (place_of program parameters (output_instance output parameters u)) at_u.0
      (subst (λ (k : ℕ). IsAt program parameters k (output_instance output parameters w)) (sym e) at_w.0)) where
        same_values : (a b : Instance) (n : ℕ) → IsAt program parameters n a → IsAt program parameters n b → a.values ≡ b.values
        same_values a b n p q = ap (λ (i : Instance). i.values) (one a b (sym p ∙ q)) where
          one : (x y : Instance) → Some x ≡ Some y → x ≡ y
          one x y f = cc

pub valid-sound : ValidOutputsAreSound
valid-sound program at output formed fits holds parameters admitted = (
  each program at output formed fits holds parameters admitted,
  distinct-images (λ u. place_of program parameters (output_instance output parameters u)) (points output.nest parameters) (one-instance program at output formed fits holds parameters admitted)
      (points-differ output.nest parameters),
)

-- its instances are last writers
pub last-writers : (program : AffineProgram) (output : OutputClaim) (parameters : List ℤ) → IsSoundOutput program output → IsAdmitted program parameters
    → AllByRecursion (IsLastWriter (computation_graph program parameters)) (output_footprint program output parameters)
last-writers program output parameters sound admitted =
    All-map (IsLastWriter (computation_graph program parameters)) (λ u. place_of program parameters (output_instance output parameters u)) (points output.nest parameters)
    (All-weaken (λ u. WritesLast program parameters (output_instance output parameters u)) (λ u. IsLastWriter (computation_graph program parameters) (place_of program parameters (output_instance output parameters u)))
    (points output.nest parameters)
    (λ u h. (slice_get-below (execution program parameters) (place_of program parameters (output_instance output parameters u)) (output_instance output parameters u) h.0, h.1))
    (sound parameters admitted).0)

pub outputs-stored : SoundOutputsAreStored
outputs-stored program output parameters s moves sound admitted game =
    subst (λ (n : ℕ). n ≤ stores_of (output_footprint program output parameters) moves) (length-map (points output.nest parameters) (λ u. place_of program parameters (output_instance output parameters u)))
    (last_stores (computation_graph program parameters) s moves (output_footprint program output parameters) game (sound parameters admitted).1 (last-writers program output parameters sound admitted))
