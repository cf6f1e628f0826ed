-- What a source one turn before claims of its point has short answers.
use Rattle.std.proofs.Common.{◌≡◌, sym, ◌∙◌, ap, subst, inl, inr, ℕ, ◌+◌, ◌<◌, ◌≤◌, false, List, [], ◌∷◌, ◌++◌, length, map, arith, lit≤}
use Rattle.std.specs.List.{AllByRecursion}
use Rattle.std.proofs.Math.IntN.{ℤ, pos, negsuc, ◌+ℤ◌}
use Rattle.std.proofs.Math.Nat.{eq-or-lt_of_le}
use Rattle.std.proofs.lemmas.Bool.{cases_lt}
use Rattle.std.proofs.lemmas.Int.{ints}
use Rattle.base_laws.proofs.Lists.{All-map, All-weaken}
use Rattle.iolb_model.specs.Form.{AffineForm, form_value}
use Rattle.iolb_model.specs.Order.{common_loops}
use Rattle.iolb_model.specs.Program.{AffineProgram, statement_at}
use Rattle.affine_form.specs.Form.{variables}
use Rattle.affine_form.specs.Substitution.{substitution}
use Rattle.affine_form.specs.System.{AffineSystem, AllOver}
use Rattle.affine_form.specs.Rows.{variable, equality_rows, put_in, order_rows}
use Rattle.affine_form.proofs.RowLemmas.{length-variables}
use Rattle.affine_program.specs.Domain.{bounds_at, depth_of, domain_rows}
use Rattle.flow_deps.specs.Answers.{Question, HasShortAnswer}
use Rattle.claims.specs.Shown.{IsFew}
use Rattle.dep_quast.specs.Context.{ReadOf, reference_of, parameter_point, reader_point, reader_values}
use Rattle.projective.specs.Turns.{width, is_kept, turn_before}
use Rattle.projective.proofs.Picked.{Worth, IsWorth, IsPicked, picked-none, worth_sum, picked-shows}
use Rattle.projective.proofs.NestRows.{put-worth, same-worth, parameters-kept, at, less, variables-worth, within-each, equality-each, order-each}
use Rattle.projective.proofs.TurnWorths.{ends_of, turn_at, turn-worth, turn-many, turn-here, turn-before, turn-kept, turn-end}
use Rattle.projective.proofs.Facts.{NestFacts, IsKeptLoop, rows-bare}
use Rattle.projective.proofs.WriteRows.{either, picked-one, picked-other}

module _ (program : AffineProgram) (read : ℕ) (facts : NestFacts program) (same : (reference_of program (record { statement = 0; read = read })).subscripts ≡ (statement_at program 0).writes.subscripts)
    (loop : ℕ) (loop_there : loop < depth_of program 0) (other : is_kept program loop ≡ false) (rows : List AffineForm) (over : AllOver (width program) rows) (few : IsFew (length rows))
    (domain : (j : ℕ) → j < depth_of program 0 → IsPicked rows (at (length program.parameters + j) ∷ less (ends_of (bounds_at program 0) j) (at (length program.parameters + j)) ∷ []))
    (test : IsPicked rows ((λ point. at (length program.parameters + loop) point +ℤ negsuc 0) ∷ [])) where
  abbrev reader : ReadOf
  reader = record { statement = 0; read = read }

  abbrev n : ℕ
  n = length program.parameters

  abbrev vars : ℕ
  vars = width program

  abbrev system : AffineSystem
  system = record { vars = vars; rows = rows }

  abbrev asks : AffineForm → Question
  asks goal = record { system = system; goal = goal }

  abbrev x : ℕ → Worth
  x j = at (n + j)

  abbrev t : ℕ → Worth
  t = turn_at program loop

  abbrev ends : ℕ → Worth
  ends = ends_of (bounds_at program 0)

  follows : (goal : AffineForm) (worth : Worth) (picked : List Worth) (rest : ℕ) → variables goal ≡ vars → IsWorth goal worth → IsPicked rows picked → length picked ≤ 4 → rest ≤ 1
      → ((point : List ℤ) → worth point ≡ worth_sum picked point +ℤ pos rest) → HasShortAnswer (asks goal)
  follows goal worth picked rest wide is short many small sum = (few, picked-shows system goal picked rest over wide short many (omega arith) (λ point long. is point ∙ sum point))

  nothing : (goal : AffineForm) → variables goal ≡ vars → IsWorth goal (λ point. pos 0) → HasShortAnswer (asks goal)
  nothing goal wide is = follows goal (λ point. pos 0) [] 0 wide is (picked-none rows) (lit≤ tt) (lit≤ tt) (λ point. omega (arith, ints))

  -- which loop a place is
  data Turn (j : ℕ) : Type 0 where
    here : j ≡ loop → Turn j
    reader_s : ((point : List ℤ) → t j point ≡ x j point) → Turn j
    last : ((point : List ℤ) → t j point ≡ ends j point) → Turn j

  turn-of : (j : ℕ) → Turn j
  turn-of j = elim (cases_lt j loop) [
    | inl before ↦ reader_s (λ point. turn-before program loop j point before)
    | inr from ↦ elim (eq-or-lt_of_le {n = loop} {m = j} from) [
      | inl e ↦ here (sym e)
      | inr behind ↦ elim (either (is_kept program j)) [
        | inl kept ↦ reader_s (λ point. turn-kept program loop j point other kept)
        | inr free ↦ last (λ point. turn-end program loop j point behind free)
      ]
    ]
  ]

  low : (j : ℕ) → j < depth_of program 0 → (goal : AffineForm) → variables goal ≡ vars → IsWorth goal (t j) → HasShortAnswer (asks goal)
  low j there goal wide is = by (turn-of j) where
    by : Turn j → HasShortAnswer (asks goal)
    by (here e) = follows goal (t j) ((λ point. x loop point +ℤ negsuc 0) ∷ []) 0 wide is test (lit≤ tt) (lit≤ tt)
        (λ point. let h : t j point ≡ x loop point +ℤ negsuc 0 = ap (λ (k : ℕ). t k point) e ∙ turn-here program loop point in omega (arith, ints))
    by (reader_s e) = follows goal (t j) (x j ∷ []) 0 wide is (picked-one rows (x j) (less (ends j) (x j)) (domain j there)) (lit≤ tt) (lit≤ tt) (λ point. let h = e point in omega (arith, ints))
    by (last e) = follows goal (t j) (x j ∷ less (ends j) (x j) ∷ []) 0 wide is (domain j there) (lit≤ tt) (lit≤ tt) (λ point. let h = e point in omega (arith, ints))

  high : (j : ℕ) → j < depth_of program 0 → (goal : AffineForm) → variables goal ≡ vars → IsWorth goal (less (ends j) (t j)) → HasShortAnswer (asks goal)
  high j there goal wide is = by (turn-of j) where
    by : Turn j → HasShortAnswer (asks goal)
    by (here e) = follows goal (less (ends j) (t j)) (less (ends j) (x j) ∷ []) 1 wide is (picked-other rows (x j) (less (ends j) (x j)) (domain j there)) (lit≤ tt) (lit≤ tt)
        (λ point. let h : t j point ≡ x j point +ℤ negsuc 0 = subst (λ (k : ℕ). t k point ≡ x k point +ℤ negsuc 0) (sym e) (turn-here program loop point) in omega (arith, ints))
    by (reader_s e) = follows goal (less (ends j) (t j)) (less (ends j) (x j) ∷ []) 0 wide is (picked-other rows (x j) (less (ends j) (x j)) (domain j there)) (lit≤ tt) (lit≤ tt)
        (λ point. let h = e point in omega (arith, ints))
    by (last e) = follows goal (less (ends j) (t j)) [] 0 wide is (picked-none rows) (lit≤ tt) (lit≤ tt) (λ point. let h = e point in omega (arith, ints))

  abbrev parameters : List AffineForm
  parameters = parameter_point program vars

  pub inside-answered : AllOver vars (domain_rows program 0 vars parameters (turn_before program loop))
      → AllByRecursion HasShortAnswer (map asks (domain_rows program 0 vars parameters (turn_before program loop)))
  inside-answered wide =
      let bounds = rows-bare program 0 vars parameters (turn_before program loop) facts.bare in
      All-map HasShortAnswer asks (domain_rows program 0 vars parameters (turn_before program loop))
      (subst (AllByRecursion (λ goal. HasShortAnswer (asks goal))) (sym bounds)
      (within-each (λ goal. HasShortAnswer (asks goal)) vars n (bounds_at program 0) parameters (turn_before program loop) ends t facts.runs (parameters-kept vars n (omega arith)) (turn-worth program loop)
      (subst (AllOver vars) bounds wide) low high))

  abbrev here_cells : List AffineForm
  here_cells = equality_rows vars (put_in (parameters ++ turn_before program loop) (statement_at program 0).writes.subscripts) (put_in (reader_point program reader vars) (statement_at program 0).writes.subscripts)

  kept-same : (form : AffineForm) → IsKeptLoop program form → (point : List ℤ) → form_value (substitution form (parameters ++ turn_before program loop)) point ≡ form_value (substitution form (reader_point program reader vars)) point
  kept-same form kept point =
      let place = kept.0 in
      let a : form_value (substitution (variable vars (n + place)) (parameters ++ turn_before program loop)) point ≡ t place point =
      put-worth vars n place parameters (turn_before program loop) t (length-variables vars 0 n) (turn-worth program loop) (omega (arith, turn-many program loop, kept.1)) (omega (arith, kept.1)) point in
      let b : form_value (substitution (variable vars (n + place)) (reader_point program reader vars)) point ≡ x place point = same-worth vars vars (n + place) (omega (arith, kept.1)) (omega arith) point in
      subst (λ (f : AffineForm). form_value (substitution f (parameters ++ turn_before program loop)) point ≡ form_value (substitution f (reader_point program reader vars)) point) (sym kept.3)
      (a ∙ turn-kept program loop place point other kept.2 ∙ sym b)

  pub cell-answered : AllOver vars here_cells → AllByRecursion HasShortAnswer (map asks here_cells)
  cell-answered wide =
      All-map HasShortAnswer asks here_cells
      (equality-each (λ goal. HasShortAnswer (asks goal)) vars (parameters ++ turn_before program loop) (reader_point program reader vars) (statement_at program 0).writes.subscripts wide
      (All-weaken (IsKeptLoop program) (λ (form : AffineForm). (point : List ℤ) → form_value (substitution form (parameters ++ turn_before program loop)) point ≡ form_value (substitution form (reader_point program reader vars)) point)
      (statement_at program 0).writes.subscripts kept-same facts.subscripts) nothing)

  abbrev precedence : List AffineForm
  precedence = order_rows vars (common_loops program 0 0) loop (turn_before program loop) (reader_values program reader vars)

  pub before-answered : AllOver vars precedence → AllByRecursion HasShortAnswer (map asks precedence)
  before-answered wide =
      All-map HasShortAnswer asks precedence
      (order-each (λ goal. HasShortAnswer (asks goal)) vars (common_loops program 0 0) loop (turn_before program loop) (reader_values program reader vars) t x facts.rise (turn-worth program loop)
      (variables-worth vars n (depth_of program 0) (omega arith)) wide (λ j point before. sym (turn-before program loop j point before))
      (λ point. let h = turn-here program loop point in omega (arith, ints)) nothing)
