use Rattle.std.proofs.Common.{◌∙◌, ◌++◌, ◌∷◌, ap, sym, subst, ℕ, List}
use Rattle.std.specs.Prelude.{flat_map}
use Rattle.std.specs.List.{AllByRecursion, range_with_len}
use Rattle.std.proofs.lemmas.List.{append_assoc}
use Rattle.base_laws.proofs.Ranges.{flat-range-more}
use Rattle.iolb_model.specs.Program.{Access}
use Rattle.affine_program.specs.Parts.{meaning}
use Rattle.dep_quast.specs.Levels.{IsWriter}
use Rattle.dep_quast.specs.Views.{read_of}
use Rattle.flow_deps.specs.declared.candidate.Candidate.{Candidate}
use Rattle.flow_deps.specs.declared.candidate.Candidate.TheVariants.{NoWrite}
use Rattle.flow_deps.specs.Candidates.{same_turn, turn_of, CandidateFits}
use Rattle.flow_deps.proofs.CandidateLaws.{candidates-fit}
use Rattle.flow_deps.proofs.candidates.candidates.Goals as goal

pub loop-level-preserved : goal.loop-level-preserved
loop-level-preserved c =
    let program = meaning c.args.program.now in
    let reader = read_of c.args.reader in
    let ws : List ℕ = c.in_ok-found.found.items in
    let level : ℕ = c.loop-level.level in
    let g : ℕ → List Candidate = λ loop. flat_map (turn_of program reader loop) ws in
    let first : List Candidate = NoWrite ∷ flat_map (same_turn reader) ws in
    c.in_ok-all-2.ensures ∙ ap (λ (xs : List ℕ). c.loop-level.all.items ++ flat_map (turn_of program reader level) xs) c.as_slice-in-loop-level.ensures.value
    ∙ ap (λ (xs : List Candidate). xs ++ g level) c.loop-level.invariant ∙ append_assoc first (flat_map g (range_with_len 0 level)) (g level)
    ∙ ap (λ (xs : List Candidate). first ++ xs) (sym (flat-range-more g level))

pub returns-clause-each : goal.returns-clause-each
returns-clause-each c =
    let program = meaning c.args.program.now in
    let reader = read_of c.args.reader in
    let ws : List ℕ = c.in_ok-found.found.items in
    let array = ap (λ (a : Access). a.array) c.reference.ensures in
    subst (AllByRecursion (CandidateFits program reader)) (sym c.loop-level.invariant)
    (candidates-fit program reader c.loop-level.level ws (subst (λ (a : ℕ). AllByRecursion (IsWriter program a) ws) array c.in_ok-found.ensures.each))
