-- What candidates name is there.
use Rattle.std.proofs.Common.{◌≡◌, refl, sym, ℕ, zero, suc, ◌+◌, Bool, true, false, List, [], ◌∷◌, ◌++◌, length}
use Rattle.std.specs.Prelude.{nat_lt, if◌then◌else◌, flat_map}
use Rattle.std.specs.List.{AllByRecursion, range_with_len}
use Rattle.std.proofs.lemmas.Bool.{ltb-true}
use Rattle.base_laws.proofs.Lists.{All-append}
use Rattle.iolb_model.specs.Order.{common_loops}
use Rattle.iolb_model.specs.Program.{AffineProgram}
use Rattle.dep_quast.specs.Context.{ReadOf, reference_of}
use Rattle.dep_quast.specs.Levels.{IsWriter}
use Rattle.flow_deps.specs.declared.candidate.Candidate.{Candidate}
use Rattle.flow_deps.specs.declared.candidate.Candidate.TheVariants.{NoWrite, SameTurn, TurnBefore}
use Rattle.flow_deps.specs.Candidates.{same_turn, turn_of, CandidateFits}

module _ (program : AffineProgram) (reader : ReadOf) where
  abbrev Fits : Candidate → Type 0
  Fits candidate = CandidateFits program reader candidate

  abbrev Writes : ℕ → Type 0
  Writes writer = IsWriter program (reference_of program reader).array writer

  same-fits : (ws : List ℕ) → AllByRecursion Writes ws → AllByRecursion Fits (flat_map (same_turn reader) ws)
  same-fits [] h = tt
  same-fits (w ∷ ws) h = All-append Fits (same_turn reader w) (flat_map (same_turn reader) ws) (by (nat_lt w reader.statement) refl) (same-fits ws h.1) where
    by : (b : Bool) → b ≡ nat_lt w reader.statement → AllByRecursion Fits (if b then SameTurn w ∷ [] else [])
    by true e = ((h.0, ltb-true w reader.statement (sym e)), tt)
    by false e = tt

  turns-fit : (loop : ℕ) (ws : List ℕ) → AllByRecursion Writes ws → AllByRecursion Fits (flat_map (turn_of program reader loop) ws)
  turns-fit loop [] h = tt
  turns-fit loop (w ∷ ws) h =
      All-append Fits (turn_of program reader loop w) (flat_map (turn_of program reader loop) ws) (by (nat_lt loop (length (common_loops program w reader.statement))) refl) (turns-fit loop ws h.1) where
        by : (b : Bool) → b ≡ nat_lt loop (length (common_loops program w reader.statement)) → AllByRecursion Fits (if b then TurnBefore loop w ∷ [] else [])
        by true e = ((h.0, ltb-true loop (length (common_loops program w reader.statement)) (sym e)), tt)
        by false e = tt

  loops-fit : (first n : ℕ) (ws : List ℕ) → AllByRecursion Writes ws → AllByRecursion Fits (flat_map (λ loop. flat_map (turn_of program reader loop) ws) (range_with_len first n))
  loops-fit first zero ws h = tt
  loops-fit first (suc n) ws h =
      All-append Fits (flat_map (turn_of program reader first) ws) (flat_map (λ loop. flat_map (turn_of program reader loop) ws) (range_with_len (first + 1) n)) (turns-fit first ws h) (loops-fit (first + 1) n ws h)

  pub candidates-fit : (n : ℕ) (ws : List ℕ) → AllByRecursion Writes ws
      → AllByRecursion Fits (NoWrite ∷ flat_map (same_turn reader) ws ++ flat_map (λ loop. flat_map (turn_of program reader loop) ws) (range_with_len 0 n))
  candidates-fit n ws h =
      All-append Fits (NoWrite ∷ flat_map (same_turn reader) ws) (flat_map (λ loop. flat_map (turn_of program reader loop) ws) (range_with_len 0 n)) (tt, same-fits ws h) (loops-fit 0 n ws h)
