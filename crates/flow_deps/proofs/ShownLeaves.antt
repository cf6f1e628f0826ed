-- Leaves that are shown, and why none is.
use Rattle.std.specs.Prelude.{codes}
use Rattle.std.proofs.Common.{◌≡◌, refl, sym, ◌∙◌, ap, subst, ℕ, ◌*◌, List, [], ◌∷◌, ◌++◌, length, map}
use Rattle.std.specs.List.{AllByRecursion}
use Rattle.std.proofs.lemmas.List.{length-map}
use Rattle.base_laws.proofs.Lists.{All-weaken}
use Rattle.iolb_model.specs.Form.{AffineForm}
use Rattle.iolb_model.specs.Program.{AffineProgram, IsWellFormed, statement_at}
use Rattle.iolb_model.specs.declared.limits.TheConstants.{NUMBER_SIZE}
use Rattle.affine_form.specs.Form.{IsSmallForm}
use Rattle.affine_form.specs.Multipliers.{FarkasMultipliers}
use Rattle.affine_form.specs.Rows.{IsSmallOver}
use Rattle.affine_form.specs.System.{AffineSystem}
use Rattle.affine_program.specs.Domain.{domain_size}
use Rattle.claims.specs.Claims.{Claim}
use Rattle.claims.proofs.Laws.{AllHold-append, AllHold-left, AllHold-right}
use Rattle.claims.specs.declared.place.Step.{Step}
use Rattle.claims.specs.declared.place.Step.TheVariants.{Key}
use Rattle.dep_quast.specs.Context.{ReadOf, reference_of, variables_at, context, parameter_point, reader_point, earlier_writes, writes_between}
use Rattle.claims.specs.Shown.{IsFew, follow_claims, pointless_claims}
use Rattle.dep_quast.specs.Claims.{context_system, inside_goals, cell_goals, before_goals, point_claims}
use Rattle.dep_quast.specs.Tree.{SourceClaim, source, input, empty, blank, leaf, test}
use Rattle.dep_quast.specs.Truth.{IsThere, ReadFits}
use Rattle.dep_quast.proofs.Fits.{cells-many, ranks-same}
use Rattle.flow_deps.specs.declared.wanted.Wanted.{Wanted}
use Rattle.flow_deps.specs.declared.wanted.Wanted.TheVariants.{Short}
use Rattle.flow_deps.specs.Answers.{Question, Answers, HasNoShort, HasShortAnswer, following, pointless}
use Rattle.flow_deps.specs.Shapes.{Shape, shape_of, no_write, last_write, other, split}
use Rattle.flow_deps.specs.Shown.{IsShown, IsNotShown}
use Rattle.flow_deps.proofs.AnswerLaws.{AreAnswered-length, answers-name, follow-hold, follow-short, pointless-hold, pointless-short}
use Rattle.affine_program.proofs.Domains.{length-domain_rows}

-- ---- no write is earlier

pub input-shown : (wanted : Wanted) (program : AffineProgram) (reader : ReadOf) (tests : List AffineForm) (nested : ℕ) (ms : List FarkasMultipliers)
    → IsFew (length (context program reader tests)) → Answers wanted (map pointless (earlier_writes program reader (context program reader tests))) ms
    → IsShown wanted program reader tests nested no_write (leaf (input ms))
input-shown wanted program reader tests nested ms few h =
    let systems : List AffineSystem = earlier_writes program reader (context program reader tests) in
    record {
      has_shape = refl;
      stands = record {
        fits = AreAnswered-length (map pointless systems) ms h.each ∙ length-map systems pointless;
        valid = λ place. (few, pointless-hold 6 (place ++ Key (codes "input") ∷ []) 0 systems ms h.each);
        small = answers-name (map pointless systems) ms h.each;
      };
      as_short = h.as_short;
    }

-- too many rows
pub many-rows-input : (program : AffineProgram) (reader : ReadOf) (tests : List AffineForm) (nested : ℕ) → ¬ IsFew (length (context program reader tests)) → IsNotShown program reader tests nested no_write
many-rows-input program reader tests nested many (leaf (source claim)) h = let e : last_write claim.statement claim.level claim.point ≡ no_write = h.has_shape in absurd cc
many-rows-input program reader tests nested many (leaf (input ms)) h = many (h.stands.valid []).0
many-rows-input program reader tests nested many (leaf (empty m)) h = let e : other ≡ no_write = h.has_shape in absurd cc
many-rows-input program reader tests nested many (leaf blank) h = let e : other ≡ no_write = h.has_shape in absurd cc
many-rows-input program reader tests nested many (test form above below) h = let e : split form (shape_of above) (shape_of below) ≡ no_write = h.has_shape in absurd cc

-- some earlier write isn't shown not to be
pub earlier-not : (program : AffineProgram) (reader : ReadOf) (tests : List AffineForm) (nested : ℕ) → HasNoShort (map pointless (earlier_writes program reader (context program reader tests)))
    → IsNotShown program reader tests nested no_write
earlier-not program reader tests nested none (leaf (source claim)) h = let e : last_write claim.statement claim.level claim.point ≡ no_write = h.has_shape in absurd cc
earlier-not program reader tests nested none (leaf (input ms)) h =
    none (pointless-short 6 (Key (codes "input") ∷ []) 0 (earlier_writes program reader (context program reader tests)) ms h.stands.fits (h.stands.valid []).1 h.as_short)
earlier-not program reader tests nested none (leaf (empty m)) h = let e : other ≡ no_write = h.has_shape in absurd cc
earlier-not program reader tests nested none (leaf blank) h = let e : other ≡ no_write = h.has_shape in absurd cc
earlier-not program reader tests nested none (test form above below) h = let e : split form (shape_of above) (shape_of below) ≡ no_write = h.has_shape in absurd cc

-- ---- the last write is by a statement

-- what a source claims, yet without multipliers
abbrev pub bare : ℕ → ℕ → List AffineForm → SourceClaim
bare statement level point = record { statement = statement; level = level; point = point; inside = []; cell = []; before = []; between = [] }

-- what a shape says of a source
abbrev aim_of : Shape → SourceClaim
aim_of (last_write statement level point) = bare statement level point
aim_of no_write = bare 0 0 []
aim_of other = bare 0 0 []
aim_of (split form above below) = bare 0 0 []

abbrev aim : SourceClaim → SourceClaim
aim claim = bare claim.statement claim.level claim.point

module _ (program : AffineProgram) (reader : ReadOf) (tests : List AffineForm) (well : IsWellFormed program) (read : ReadFits program reader) where
  inside-length : (claim : SourceClaim) → IsThere program reader claim → length (inside_goals program reader claim) ≡ domain_size program claim.statement
  inside-length claim h =
      length-domain_rows program claim.statement (variables_at program reader) (parameter_point program (variables_at program reader)) claim.point h.point

  cell-length : (claim : SourceClaim) → IsThere program reader claim → (statement_at program claim.statement).writes.array ≡ (reference_of program reader).array
      → length (cell_goals program reader claim) ≡ 2 * length (reference_of program reader).subscripts
  cell-length claim h arrays =
      cells-many (variables_at program reader) (parameter_point program (variables_at program reader) ++ claim.point) (reader_point program reader (variables_at program reader))
      (statement_at program claim.statement).writes.subscripts (reference_of program reader).subscripts (ranks-same program reader claim.statement well read h.statement arrays)

  -- What short lists show of a source, where they show it: its system has few rows, what it names is there, and each
  -- question has a short answer.
  pub record IsAimed (claim : SourceClaim) : Type 0 where
    pub few : IsFew (length (context program reader tests))
    pub there : IsThere program reader claim
    pub inside : AllByRecursion HasShortAnswer (following (context_system program reader tests) (inside_goals program reader claim))
    pub cell : AllByRecursion HasShortAnswer (following (context_system program reader tests) (cell_goals program reader claim))
    pub before : AllByRecursion HasShortAnswer (following (context_system program reader tests) (before_goals program reader claim))
    pub between : AllByRecursion HasShortAnswer (map pointless (writes_between program reader (context program reader tests) claim))

  aimed : (nested : ℕ) (shape : Shape) (claim : SourceClaim) → IsShown Short program reader tests nested shape (leaf (source claim)) → IsAimed (aim claim)
  aimed nested shape claim h =
      let place : List Step = [] in
      let holds = h.stands.valid place in
      let system : AffineSystem = context_system program reader tests in
      let last : List Claim = pointless_claims 6 (place ++ Key (codes "between") ∷ []) 0 (writes_between program reader (context program reader tests) claim) claim.between in
      let point = AllHold-left (point_claims program reader system place claim) last holds.1 in
      let inside_claims : List Claim = follow_claims 3 (place ++ Key (codes "domain") ∷ []) system 0 (inside_goals program reader claim) claim.inside in
      let cell_claims : List Claim = follow_claims 4 (place ++ Key (codes "cell") ∷ []) system 0 (cell_goals program reader claim) claim.cell in
      let before_claims : List Claim = follow_claims 5 (place ++ Key (codes "before") ∷ []) system 0 (before_goals program reader claim) claim.before in
      let array : Claim = record { condition = 4; place = place ++ Key (codes "statement") ∷ []; statement = (statement_at program claim.statement).writes.array ≡ (reference_of program reader).array } in
      let most = AllHold-left (inside_claims ++ array ∷ cell_claims) before_claims point in
      let later = AllHold-right inside_claims (array ∷ cell_claims) most in
      let there = h.stands.fits.there in
      record {
        few = holds.0;
        there = record { statement = there.statement; level = there.level; point = there.point; forms = there.forms };
        inside = follow-short 3 (place ++ Key (codes "domain") ∷ []) system 0 (inside_goals program reader claim) claim.inside holds.0 (h.stands.fits.lists.inside ∙ sym (inside-length claim there))
            (AllHold-left inside_claims (array ∷ cell_claims) most) h.as_short.0;
        cell = follow-short 4 (place ++ Key (codes "cell") ∷ []) system 0 (cell_goals program reader claim) claim.cell holds.0 (h.stands.fits.lists.cell ∙ sym (cell-length claim there later.0))
            later.1 h.as_short.1;
        before = follow-short 5 (place ++ Key (codes "before") ∷ []) system 0 (before_goals program reader claim) claim.before holds.0 h.stands.fits.lists.before
            (AllHold-right (inside_claims ++ array ∷ cell_claims) before_claims point) h.as_short.2;
        between = pointless-short 6 (place ++ Key (codes "between") ∷ []) 0 (writes_between program reader (context program reader tests) claim) claim.between h.stands.fits.lists.between
            (AllHold-right (point_claims program reader system place claim) last holds.1) h.as_short.3;
      }

  -- where short lists don't show it, no tree of its shape is shown by them
  pub source-not : (nested statement level : ℕ) (point : List AffineForm) → ¬ IsAimed (bare statement level point) → IsNotShown program reader tests nested (last_write statement level point)
  source-not nested statement level point none (leaf (source claim)) h =
      none (subst IsAimed (ap aim_of h.has_shape) (aimed nested (last_write statement level point) claim h))
  source-not nested statement level point none (leaf (input ms)) h = let e : no_write ≡ last_write statement level point = h.has_shape in absurd cc
  source-not nested statement level point none (leaf (empty m)) h = let e : other ≡ last_write statement level point = h.has_shape in absurd cc
  source-not nested statement level point none (leaf blank) h = let e : other ≡ last_write statement level point = h.has_shape in absurd cc
  source-not nested statement level point none (test form above below) h =
      let e : split form (shape_of above) (shape_of below) ≡ last_write statement level point = h.has_shape in absurd cc

  -- what answers show of a source
  pub source-shown : (wanted : Wanted) (nested : ℕ) (claim : SourceClaim) → IsFew (length (context program reader tests)) → IsThere program reader claim
      → (statement_at program claim.statement).writes.array ≡ (reference_of program reader).array
      → Answers wanted (following (context_system program reader tests) (inside_goals program reader claim)) claim.inside
      → Answers wanted (following (context_system program reader tests) (cell_goals program reader claim)) claim.cell
      → Answers wanted (following (context_system program reader tests) (before_goals program reader claim)) claim.before
      → Answers wanted (map pointless (writes_between program reader (context program reader tests) claim)) claim.between
      → IsShown wanted program reader tests nested (last_write claim.statement claim.level claim.point) (leaf (source claim))
  source-shown wanted nested claim few there arrays inside cell before between =
      let system : AffineSystem = context_system program reader tests in
      let rows : List AffineForm = context program reader tests in
      let asks : AffineForm → Question = λ goal. record { system = system; goal = goal } in
      record {
        has_shape = refl;
        stands = record {
          fits = record {
            there = there;
            lists = record {
              inside = AreAnswered-length (following system (inside_goals program reader claim)) claim.inside inside.each ∙ length-map (inside_goals program reader claim) asks ∙ inside-length claim there;
              cell = AreAnswered-length (following system (cell_goals program reader claim)) claim.cell cell.each ∙ length-map (cell_goals program reader claim) asks ∙ cell-length claim there arrays;
              before = AreAnswered-length (following system (before_goals program reader claim)) claim.before before.each ∙ length-map (before_goals program reader claim) asks;
              between = AreAnswered-length (map pointless (writes_between program reader rows claim)) claim.between between.each ∙ length-map (writes_between program reader rows claim) pointless;
            };
          };
          valid = λ place.
              let inside_claims : List Claim = follow_claims 3 (place ++ Key (codes "domain") ∷ []) system 0 (inside_goals program reader claim) claim.inside in
              let cell_claims : List Claim = follow_claims 4 (place ++ Key (codes "cell") ∷ []) system 0 (cell_goals program reader claim) claim.cell in
              let before_claims : List Claim = follow_claims 5 (place ++ Key (codes "before") ∷ []) system 0 (before_goals program reader claim) claim.before in
              let array : Claim = record { condition = 4; place = place ++ Key (codes "statement") ∷ []; statement = (statement_at program claim.statement).writes.array ≡ (reference_of program reader).array } in
              let last : List Claim = pointless_claims 6 (place ++ Key (codes "between") ∷ []) 0 (writes_between program reader rows claim) claim.between in
              let most = AllHold-append inside_claims (array ∷ cell_claims) (follow-hold 3 (place ++ Key (codes "domain") ∷ []) system 0 (inside_goals program reader claim) claim.inside inside.each)
              (arrays, follow-hold 4 (place ++ Key (codes "cell") ∷ []) system 0 (cell_goals program reader claim) claim.cell cell.each) in
              let point = AllHold-append (inside_claims ++ array ∷ cell_claims) before_claims most (follow-hold 5 (place ++ Key (codes "before") ∷ []) system 0 (before_goals program reader claim) claim.before before.each) in
              (few, AllHold-append (point_claims program reader system place claim) last point (pointless-hold 6 (place ++ Key (codes "between") ∷ []) 0 (writes_between program reader rows claim) claim.between between.each));
          small = record {
            point = All-weaken (IsSmallOver (variables_at program reader)) (IsSmallForm NUMBER_SIZE) claim.point (λ form h. h.small) there.forms;
            inside = answers-name (following system (inside_goals program reader claim)) claim.inside inside.each;
            cell = answers-name (following system (cell_goals program reader claim)) claim.cell cell.each;
            before = answers-name (following system (before_goals program reader claim)) claim.before before.each;
            between = answers-name (map pointless (writes_between program reader rows claim)) claim.between between.each;
          };
        };
        as_short = (inside.as_short, cell.as_short, before.as_short, between.as_short);
      }
