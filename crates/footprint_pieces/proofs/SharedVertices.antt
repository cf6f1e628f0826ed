-- A vertex of two pieces is a point of their system.
use Rattle.std.proofs.Common.{◌≡◌, refl, sym, ◌∙◌, ap, subst, inl, inr, ℕ, zero, suc, ◌+◌, ◌≤◌, true, List, [], ◌∷◌, ◌++◌, length, map, replicate, take, drop, eq-eqb, arith}
use Rattle.std.specs.Prelude.{Some, slice_get}
use Rattle.std.specs.List.{AllByRecursion}
use Rattle.std.proofs.Math.IntN.{ℤ, pos, ◌+ℤ◌, ◌*ℤ◌}
use lib.Signed.{◌≤ℤ◌}
use Rattle.std.proofs.lemmas.Int.{ints}
use Rattle.std.proofs.lemmas.List.{length-append}
use Rattle.std.proofs.lemmas.Option.{slice_get_within}
use Rattle.base_laws.proofs.Lists.{All-append, All-drop}
use Rattle.base_laws.proofs.Ring.{zero-mul}
use Rattle.iolb_model.specs.Form.{AffineForm, dot, form_value}
use Rattle.iolb_model.specs.Program.{AffineProgram}
use Rattle.iolb_model.specs.Bound.{IsAdmitted}
use Rattle.iolb_model.specs.Execution.{Instance, execution}
use Rattle.iolb_model.specs.Source.{Cell as InputCell}
use Rattle.iolb_model.specs.Graph.{input_cells}
use Rattle.execution_laws.proofs.Members.{Member, Member-append_left, Member-append_right, Member-map, Member-filter, Member-flat_map}
use Rattle.execution_laws.proofs.Ordered.{All-member}
use Rattle.claims.specs.declared.place.Step.TheVariants.{Key}
use Rattle.affine_form.specs.Form.{variables}
use Rattle.affine_form.specs.Rows.{widened, equality_rows}
use Rattle.affine_form.specs.Shown.{HasNoPoint}
use Rattle.affine_form.specs.Substitution.{values_at}
use Rattle.affine_form.specs.System.{AffineSystem, AllOver, IsMet}
use Rattle.iolb_model.proofs.Forms.{form_value-front}
use Rattle.affine_form.proofs.Meaning.{widened-stay, equality_rows-met}
use Rattle.claims.proofs.Systems.{none-met}
use Rattle.footprint_pieces.specs.declared.piece.Target.{Target}
use Rattle.footprint_pieces.specs.declared.piece.Target.TheVariants.{Cell, Instance as InstanceOf}
use Rattle.footprint_pieces.specs.Pieces.{FootprintPiece, IsVertexOf, IsInPiece, IsInPieces, AreApartPieces, ArePairwiseApart, PieceFits}
use Rattle.footprint_pieces.specs.DisjointClaims.{same_target, moved, shared_rows, shared_system, with_target, systems_with, shared_systems, systems_with_lists, pairwise_systems, pair_key, DisjointPiecesAreApart, PairwisePiecesAreApart}

-- ---- forms at the points of both pieces

-- coefficients of 0 in front add nothing
zeros-first : (more : ℕ) (cs mid rest : List ℤ) → length mid ≡ more → dot (replicate more (pos 0) ++ cs) (mid ++ rest) ≡ dot cs rest
zeros-first zero cs [] rest e = refl
zeros-first zero cs (x ∷ mid) rest e = absurd (omega arith)
zeros-first (suc more) cs [] rest e = absurd (omega arith)
zeros-first (suc more) cs (x ∷ mid) rest e = omega (arith, ints, zero-mul x, zeros-first more cs mid rest (omega arith))

moved-dot : (place more : ℕ) (cs front mid rest : List ℤ) → length front ≡ place → length mid ≡ more → place ≤ length cs
    → dot (take place cs ++ replicate more (pos 0) ++ drop place cs) (front ++ mid ++ rest) ≡ dot cs (front ++ rest)
moved-dot zero more cs [] mid rest e d h = zeros-first more cs mid rest d
moved-dot zero more cs (x ∷ front) mid rest e d h = absurd (omega arith)
moved-dot (suc place) more [] front mid rest e d h = absurd (omega arith)
moved-dot (suc place) more (c ∷ cs) [] mid rest e d h = absurd (omega arith)
moved-dot (suc place) more (c ∷ cs) (x ∷ front) mid rest e d h =
    ap (λ (z : ℤ). (c *ℤ x) +ℤ z) (moved-dot place more cs front mid rest (omega arith) d (omega arith))

-- a form that was moved has at both pieces' points the form's value
form_value-moved : (place more : ℕ) (form : AffineForm) (front mid rest : List ℤ) → length front ≡ place → length mid ≡ more → place ≤ variables form
    → form_value (moved place more form) (front ++ mid ++ rest) ≡ form_value form (front ++ rest)
form_value-moved place more form front mid rest e d h = ap (λ (z : ℤ). z +ℤ form.constant) (moved-dot place more form.coefficients front mid rest e d h)

module _ (place more vars : ℕ) (front mid rest : List ℤ) (e : length front ≡ place) (d : length mid ≡ more) (h : place ≤ vars) where
  moved-met : (rows : List AffineForm) → AllOver vars rows → IsMet rows (front ++ rest) → IsMet (map (moved place more) rows) (front ++ mid ++ rest)
  moved-met [] over met = tt
  moved-met (row ∷ rows) over met = (
    subst (λ (z : ℤ). pos 0 ≤ℤ z) (sym (form_value-moved place more row front mid rest e d (omega (arith, over.0)))) met.0,
    moved-met rows over.1 met.1,
  )

  moved-values : (forms : List AffineForm) → AllOver vars forms → values_at (map (moved place more) forms) (front ++ mid ++ rest) ≡ values_at forms (front ++ rest)
  moved-values [] over = refl
  moved-values (form ∷ forms) over =
      let first = form_value-moved place more form front mid rest e d (omega (arith, over.0)) in
      let others = moved-values forms over.1 in cc

-- forms over the first values
module _ (vars : ℕ) (front rest : List ℤ) (e : vars ≡ length front) where
  front-met : (rows : List AffineForm) → AllOver vars rows → IsMet rows front → IsMet rows (front ++ rest)
  front-met [] over met = tt
  front-met (row ∷ rows) over met =
      (subst (λ (z : ℤ). pos 0 ≤ℤ z) (sym (form_value-front row front rest (omega (arith, over.0)))) met.0, front-met rows over.1 met.1)

  front-values : (forms : List AffineForm) → AllOver vars forms → values_at forms (front ++ rest) ≡ values_at forms front
  front-values [] over = refl
  front-values (form ∷ forms) over =
      let first = form_value-front form front rest (omega (arith, over.0)) in
      let others = front-values forms over.1 in cc

-- ---- a vertex is that of one target at one list of numbers

vertex-one : (program : AffineProgram) (parameters : List ℤ) (one other : Target) (xs ys : List ℤ) (vertex : ℕ)
    → IsVertexOf program parameters one xs vertex → IsVertexOf program parameters other ys vertex → (same_target one other ≡ true) × (xs ≡ ys)
vertex-one program parameters (Cell a) (Cell b) xs ys vertex h k =
    let same : h.0 ≡ k.0 = omega (arith, h.1, k.1) in
    let cells : List InputCell = input_cells program parameters in
    let there : slice_get cells k.0 ≡ Some (record { array = a; subscripts = xs }) = subst (λ (n : ℕ). slice_get cells n ≡ Some (record { array = a; subscripts = xs })) same h.2 in
    let cell : (let c : InputCell = record { array = a; subscripts = xs } in let d : InputCell = record { array = b; subscripts = ys } in c ≡ d) = cc in
    (eq-eqb a b (ap (λ (c : InputCell). c.array) cell), ap (λ (c : InputCell). c.subscripts) cell)
vertex-one program parameters (Cell a) (InstanceOf t) xs ys vertex h k = absurd (omega (arith, h.1, slice_get_within (execution program parameters) vertex (record { statement = t; values = ys }) k))
vertex-one program parameters (InstanceOf s) (Cell b) xs ys vertex h k = absurd (omega (arith, k.1, slice_get_within (execution program parameters) vertex (record { statement = s; values = xs }) h))
vertex-one program parameters (InstanceOf s) (InstanceOf t) xs ys vertex h k =
    let instance : (let i : Instance = record { statement = s; values = xs } in let j : Instance = record { statement = t; values = ys } in i ≡ j) = cc in
    (eq-eqb s t (ap (λ (i : Instance). i.statement) instance), ap (λ (i : Instance). i.values) instance)

-- ---- two pieces

module _ (program : AffineProgram) (parameters : List ℤ) (admitted : IsAdmitted program parameters) (vertex : ℕ) where
  -- the point at which both have the vertex meets the rows of their system
  shared-met : (first second : FootprintPiece) → PieceFits program first → PieceFits program second → (a : IsInPiece program parameters first vertex) → (b : IsInPiece program parameters second vertex)
      → IsMet (shared_rows program first second) (parameters ++ a.values ++ b.values)
  shared-met first second fits other a b =
      let params : ℕ = length program.parameters in
      let vars : ℕ = params + first.vars + second.vars in
      let point : List ℤ = parameters ++ a.values ++ b.values in
      let P : AffineForm → Type 0 = λ (row : AffineForm). pos 0 ≤ℤ form_value row point in
      let wide : params + first.vars ≡ length (parameters ++ a.values) = omega (arith, length-append parameters a.values, admitted.each, a.each) in
      let behind : AffineForm → AffineForm = moved params first.vars in
      let assumed : ℕ = length program.assumptions in
      let one : IsMet (map (widened vars) first.rows) point = widened-stay vars first.rows point (front-met (params + first.vars) (parameters ++ a.values) b.values wide first.rows fits.rows a.met) in
      let two : IsMet (map behind (drop assumed second.rows)) point =
      moved-met params first.vars (params + second.vars) parameters a.values b.values admitted.each a.each (omega arith) (drop assumed second.rows)
      (All-drop (λ (row : AffineForm). variables row ≡ params + second.vars) assumed second.rows other.rows)
      (All-drop (λ (row : AffineForm). pos 0 ≤ℤ form_value row (parameters ++ b.values)) assumed second.rows b.met) in
      let same : values_at first.point (parameters ++ a.values) ≡ values_at second.point (parameters ++ b.values) =
      (vertex-one program parameters first.target second.target (values_at first.point (parameters ++ a.values)) (values_at second.point (parameters ++ b.values)) vertex a.there b.there).1 in
      let equal : IsMet (equality_rows vars first.point (map behind second.point)) point = equality_rows-met vars first.point (map behind second.point) point
      (front-values (params + first.vars) (parameters ++ a.values) b.values wide first.point fits.point ∙ same
      ∙ sym (moved-values params first.vars (params + second.vars) parameters a.values b.values admitted.each a.each (omega arith) second.point other.point)) in
      All-append P (map (widened vars) first.rows ++ map behind (drop assumed second.rows)) (equality_rows vars first.point (map behind second.point))
      (All-append P (map (widened vars) first.rows) (map behind (drop assumed second.rows)) one two) equal

  -- a vertex of pieces is one of a member's
  in-member : (pieces : List FootprintPiece) → AllByRecursion (PieceFits program) pieces → IsInPieces program parameters pieces vertex
      → (piece : FootprintPiece) × (Member piece pieces × PieceFits program piece × IsInPiece program parameters piece vertex)
  in-member [] fits h = absurd h
  in-member (piece ∷ pieces) fits (inl h) = (piece, (inl refl, fits.0, h))
  in-member (piece ∷ pieces) fits (inr h) =
      let later = in-member pieces fits.1 h in (later.0, (inr later.1.0, later.1.1, later.1.2))

  -- the system of two of the pieces that have a vertex in common is among those of both lists
  shared-member : (first second : List FootprintPiece) (one other : FootprintPiece) → Member one first → Member other second → same_target one.target other.target ≡ true
      → Member (shared_system program one other) (shared_systems program first second)
  shared-member first second one other m n same =
      Member-flat_map (systems_with program second) one first (shared_system program one other) m
      (Member-map (shared_system program one) other (with_target one second) (Member-filter (λ (o : FootprintPiece). same_target one.target o.target) other second n same))

-- where no system of two lists has a point, no vertex is in pieces of both
apart-from : (program : AffineProgram) (first second : List FootprintPiece) → AllByRecursion (PieceFits program) first → AllByRecursion (PieceFits program) second
    → ((system : AffineSystem) → Member system (shared_systems program first second) → HasNoPoint system) → AreApartPieces program first second
apart-from program first second fits others none parameters vertex admitted h k =
    let a = in-member program parameters admitted vertex first fits h in
    let b = in-member program parameters admitted vertex second others k in
    let p : FootprintPiece = a.0 in
    let q : FootprintPiece = b.0 in
    let same = (vertex-one program parameters p.target q.target (values_at p.point (parameters ++ a.1.2.values)) (values_at q.point (parameters ++ b.1.2.values)) vertex a.1.2.there b.1.2.there).0 in
    none (shared_system program p q) (shared-member program parameters admitted vertex first second p q a.1.0 b.1.0 same)
    (parameters ++ a.1.2.values ++ b.1.2.values) (shared-met program parameters admitted vertex p q a.1.1 b.1.1 a.1.2 b.1.2)

pub pieces-apart : DisjointPiecesAreApart
pieces-apart program condition place first second shown fits others enough hold =
    apart-from program first second fits others
    (λ system m. All-member HasNoPoint (shared_systems program first second) system (none-met condition (place ++ Key (pair_key condition) ∷ []) 0 (shared_systems program first second) shown enough hold) m)

-- so it is with later lists
later-apart : (program : AffineProgram) (pieces : List FootprintPiece) (lists : List (List FootprintPiece)) → AllByRecursion (PieceFits program) pieces → AllByRecursion (AllByRecursion (PieceFits program)) lists
    → ((system : AffineSystem) → Member system (systems_with_lists program pieces lists) → HasNoPoint system) → AllByRecursion (AreApartPieces program pieces) lists
later-apart program pieces [] fits others none = tt
later-apart program pieces (list ∷ lists) fits others none = (
  apart-from program pieces list fits others.0 (λ system m. none system (Member-append_left system (shared_systems program pieces list) (systems_with_lists program pieces lists) m)),
  later-apart program pieces lists fits others.1 (λ system m. none system (Member-append_right system (shared_systems program pieces list) (systems_with_lists program pieces lists) m)),
)

pairwise-from : (program : AffineProgram) (lists : List (List FootprintPiece)) → AllByRecursion (AllByRecursion (PieceFits program)) lists
    → ((system : AffineSystem) → Member system (pairwise_systems program lists) → HasNoPoint system) → ArePairwiseApart program lists
pairwise-from program [] fits none = tt
pairwise-from program (pieces ∷ lists) fits none = (
  later-apart program pieces lists fits.0 fits.1 (λ system m. none system (Member-append_left system (systems_with_lists program pieces lists) (pairwise_systems program lists) m)),
  pairwise-from program lists fits.1 (λ system m. none system (Member-append_right system (systems_with_lists program pieces lists) (pairwise_systems program lists) m)),
)

pub pairwise-apart : PairwisePiecesAreApart
pairwise-apart program condition place lists shown fits enough hold =
    pairwise-from program lists fits (λ system m. All-member HasNoPoint (pairwise_systems program lists) system (none-met condition place 0 (pairwise_systems program lists) shown enough hold) m)
