-- Trees that stand: leaves, and tests over trees.
use Rattle.std.specs.Prelude.{codes}
use Rattle.std.proofs.Common.{refl, ap, ℕ, suc, ◌+◌, ◌<◌, ◌≤◌, List, [], ◌∷◌, ◌++◌, length, map, arith}
use Rattle.std.proofs.lemmas.List.{length-append, length-map}
use Rattle.base_laws.proofs.Lists.{there}
use Rattle.iolb_model.specs.Form.{AffineForm}
use Rattle.iolb_model.specs.Program.{AffineProgram}
use Rattle.iolb_model.specs.declared.limits.TheConstants.{GUARDS, TREE_TESTS}
use Rattle.affine_form.specs.Multipliers.{FarkasMultipliers}
use Rattle.affine_form.specs.Rows.{IsSmallOver, widened, variables_from}
use Rattle.affine_form.proofs.RowLemmas.{length-variables}
use Rattle.affine_program.specs.Domain.{depth_of, domain_of, guards_at}
use Rattle.affine_program.specs.Parts.{ProgramParts, IsProgram, meaning}
use Rattle.claims.proofs.Laws.{AllHold-append}
use Rattle.claims.specs.declared.place.Step.TheVariants.{Key}
use Rattle.dep_quast.specs.Context.{ReadOf, variables_at, no_row, context}
use Rattle.claims.specs.Shown.{IsFew}
use Rattle.dep_quast.specs.Claims.{context_system, claims}
use Rattle.dep_quast.specs.Tree.{SelectionTree, leaf, test, empty, blank}
use Rattle.dep_quast.proofs.Fits.{depth-few}
use Rattle.flow_deps.specs.Answers.{IsAnswered, pointless}
use Rattle.flow_deps.specs.Shown.{IsLeafUnder, Stands}
use Rattle.flow_deps.proofs.AnswerLaws.{answer-names}
use Rattle.affine_program.proofs.Bounds.{guards-are, limits-at}
use Rattle.affine_program.proofs.Domains.{length-domain_rows}

guards-few : (parts : ProgramParts) → IsProgram parts → (statement : ℕ) → statement < length parts.statements → length (guards_at (meaning parts) statement) ≤ GUARDS
guards-few parts is statement below =
    let at = there parts.statements statement below in
    omega (arith, ap (λ (rows : List AffineForm). length rows) (guards-are parts statement at.0 is below at.1), (limits-at parts statement at.0 is below at.1).guards)

-- the rows of a leaf are few, where not too many tests are nested
pub context-few : (parts : ProgramParts) (is : IsProgram parts) (reader : ReadOf) (tests : List AffineForm) → reader.statement < length parts.statements → length tests ≤ TREE_TESTS
    → IsFew (length (context (meaning parts) reader tests))
context-few parts is reader tests below few =
    let program = meaning parts in
    let assumed : List AffineForm = map (widened (variables_at program reader)) program.assumptions in
    let domain : List AffineForm = (domain_of program reader.statement).rows in
    let vars : ℕ = length program.parameters + depth_of program reader.statement in
    omega (
      arith,
      few,
      length-append (assumed ++ domain) tests,
      length-append assumed domain,
      length-map program.assumptions (widened (variables_at program reader)),
      is.limits.assumptions,
      length-domain_rows program reader.statement vars (variables_from vars 0 (length program.parameters)) (variables_from vars (length program.parameters) (depth_of program reader.statement))
          (length-variables vars (length program.parameters) (depth_of program reader.statement)),
      depth-few parts is reader.statement below,
      guards-few parts is reader.statement below,
    )

-- a leaf that claims nothing stands
pub blank-stands : (program : AffineProgram) (reader : ReadOf) (tests : List AffineForm) (nested : ℕ) → IsFew (length (context program reader tests)) → Stands program reader tests nested (leaf blank)
blank-stands program reader tests nested few = record { fits = tt; valid = λ place. (few, tt); small = tt }

-- a leaf to which no point comes stands
pub empty-stands : (program : AffineProgram) (reader : ReadOf) (tests : List AffineForm) (m : FarkasMultipliers) → IsAnswered (pointless (context_system program reader tests)) m
    → IsLeafUnder program reader tests (leaf (empty m))
empty-stands program reader tests m h = record {
  stands = λ nested. record { fits = tt; valid = λ place. (h.0, (h.1, tt)); small = answer-names (pointless (context_system program reader tests)) m h };
  one = refl;
}

-- a tree whose sides stand does
pub test-stands : (program : AffineProgram) (reader : ReadOf) (tests : List AffineForm) (nested : ℕ) (form : AffineForm) (above below : SelectionTree) → IsSmallOver (variables_at program reader) form
    → Stands program reader (tests ++ form ∷ []) nested above → Stands program reader (tests ++ no_row (variables_at program reader) form ∷ []) nested below
    → Stands program reader tests (suc nested) (test form above below)
test-stands program reader tests nested form above below small p q = record {
  fits = (small, p.fits, q.fits);
  valid = λ place. AllHold-append (claims program reader (tests ++ form ∷ []) (place ++ Key (codes "yes") ∷ []) above)
      (claims program reader (tests ++ no_row (variables_at program reader) form ∷ []) (place ++ Key (codes "no") ∷ []) below) (p.valid (place ++ Key (codes "yes") ∷ [])) (q.valid (place ++ Key (codes "no") ∷ []));
  small = (small.small, p.small, q.small);
}
