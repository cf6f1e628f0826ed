-- Leaves of a projective program's source trees are shown by short lists, so a search for them finds them.
use Rattle.std.proofs.Common.{◌≡◌, sym, subst, ℕ, suc, ◌+◌, ◌<◌, ◌≤◌, false, List, [], ◌∷◌, ◌++◌, length, map, arith, lit≤}
use Rattle.std.proofs.lemmas.List.{length-append, length-map}
use Rattle.std.specs.List.{AllByRecursion}
use Rattle.iolb_model.specs.Form.{AffineForm}
use Rattle.iolb_model.specs.Program.{AffineProgram, statement_at}
use Rattle.affine_form.specs.Multipliers.{FarkasMultipliers}
use Rattle.affine_program.specs.Domain.{depth_of}
use Rattle.affine_program.specs.Parts.{ProgramParts, IsProgram, meaning, statement_of}
use Rattle.flow_deps.specs.declared.wanted.Wanted.TheVariants.{Short}
use Rattle.flow_deps.specs.Answers.{Question, HasShortAnswer, Answers, following, pointless}
use Rattle.dep_quast.proofs.Fits.{depth-few}
use Rattle.dep_quast.specs.Claims.{context_system, inside_goals, cell_goals, before_goals}
use Rattle.dep_quast.specs.Context.{ReadOf, reference_of, context, earlier_writes, writes_between}
use Rattle.dep_quast.specs.Tree.{SourceClaim, leaf, source, input}
use Rattle.dep_quast.specs.Truth.{ReadFits}
use Rattle.projective.specs.Projective.{IsProjective}
use Rattle.flow_deps.specs.Shapes.{no_write, last_write}
use Rattle.flow_deps.specs.Shown.{IsNotShown}
use Rattle.flow_deps.proofs.ShownLeaves.{input-shown, source-shown}
use Rattle.projective.specs.FirstTurns.{AreFirstTurns}
use Rattle.projective.specs.SourceTrees.{read_number}
use Rattle.projective.specs.Turns.{is_kept, turn_before, later_turn}
use Rattle.projective.proofs.Fits.{context-many}
use Rattle.projective.proofs.LeafLaws.{earlier-answered, unwritten-answered, inside-short, cell-short, before-short, between-short, there-is}

-- a program with a read has a statement
pub some-statement : (parts : ProgramParts) (reader : ReadOf) → ReadFits (meaning parts) reader → 0 < length parts.statements
some-statement parts reader fits = omega (arith, length-map parts.statements statement_of, fits.statement)

-- questions that have short answers have them in a list
abbrev HasAnswers : List Question → Type 0
HasAnswers questions = (ms : List FarkasMultipliers) × Answers Short questions ms

answers-of : (questions : List Question) → AllByRecursion HasShortAnswer questions → HasAnswers questions
answers-of [] h = ([], record { each = tt; as_short = tt })
answers-of (question ∷ questions) h =
    let rest = answers-of questions h.1 in
    let list = h.0.1.0 in (
      list ∷ rest.0,
      record {
        each = ((h.0.0, (subst (λ (n : ℕ). 1 ≤ n) (sym h.0.1.1.scale) (lit≤ tt), h.0.1.2)), rest.1.each);
        as_short = (h.0.1.1, rest.1.as_short);
      },
    )

module _ (parts : ProgramParts) (is : IsProgram parts) (projective : IsProjective (meaning parts)) (some : 0 < length parts.statements) (read : ℕ) (fits : ReadFits (meaning parts) (read_number read)) where
  abbrev program : AffineProgram
  program = meaning parts

  abbrev reader : ReadOf
  reader = read_number read

  input-there : (tests : List AffineForm) (nested : ℕ) → length tests ≤ 6 → AllByRecursion HasShortAnswer (map pointless (earlier_writes program reader (context program reader tests))) → ¬ IsNotShown program reader tests nested no_write
  input-there tests nested many h none =
      let all = answers-of (map pointless (earlier_writes program reader (context program reader tests))) h in
      none (leaf (input all.0)) (input-shown Short program reader tests nested all.0 (omega (arith, context-many parts is some projective.unguarded read tests many)) all.1)

  pub unwritten-there : ((reference_of program reader).array ≡ (statement_at program 0).writes.array → ⊥) → (nested : ℕ) → ¬ IsNotShown program reader [] nested no_write
  unwritten-there other nested = input-there [] nested (omega arith) (unwritten-answered parts is projective some read fits other [])

  module _ (written : (reference_of program reader).array ≡ (statement_at program 0).writes.array) where
    pub first-there : (tests : List AffineForm) (nested : ℕ) → AreFirstTurns program 0 tests → ¬ IsNotShown program reader tests nested no_write
    first-there tests nested first = input-there tests nested (omega (arith, first.few, depth-few parts is 0 some)) (earlier-answered parts is projective some read fits written tests first)

    pub turn-there : (loop : ℕ) (tests : List AffineForm) (nested : ℕ) → loop < depth_of program 0 → is_kept program loop ≡ false → AreFirstTurns program (suc loop) tests
        → ¬ IsNotShown program reader (tests ++ later_turn program loop ∷ []) nested (last_write 0 loop (turn_before program loop))
    turn-there loop tests nested there free first none =
        let all : List AffineForm = tests ++ later_turn program loop ∷ [] in
        let bare : SourceClaim = record { statement = 0; level = loop; point = turn_before program loop; inside = []; cell = []; before = []; between = [] } in
        let inside = answers-of (following (context_system program reader all) (inside_goals program reader bare)) (inside-short parts is projective some read fits written loop there free tests first) in
        let cell = answers-of (following (context_system program reader all) (cell_goals program reader bare)) (cell-short parts is projective some read fits written loop there free tests first) in
        let before = answers-of (following (context_system program reader all) (before_goals program reader bare)) (before-short parts is projective some read fits written loop there free tests first) in
        let between = answers-of (map pointless (writes_between program reader (context program reader all) bare)) (between-short parts is projective some read fits written loop there free tests first) in
        let claim : SourceClaim = record { statement = 0; level = loop; point = turn_before program loop; inside = inside.0; cell = cell.0; before = before.0; between = between.0 } in
        let bare_there = there-is parts is projective some read fits written loop there free tests first in
        none (leaf (source claim))
        (source-shown program reader all is.well_formed fits Short nested claim (omega (arith, context-many parts is some projective.unguarded read all (omega (arith, length-tests, first.few, depth-few parts is 0 some))))
        (record { statement = bare_there.statement; level = bare_there.level; point = bare_there.point; forms = bare_there.forms }) (sym written) inside.1 cell.1 before.1 between.1) where
          length-tests : length (tests ++ later_turn program loop ∷ []) ≡ length tests + 1
          length-tests = length-append tests (later_turn program loop ∷ [])
