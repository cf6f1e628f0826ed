-- What is known of cells, where reads are gone through.
use Rattle.std.proofs.Common.{◌≡◌, refl, sym, ◌∙◌, ap, subst, ℕ, ◌+◌, ◌<◌, Bool, true, false, cond, List, [], ◌∷◌, ◌++◌, length, map, take, get_or, Some, None, nat_eq, arith}
use Rattle.std.specs.Prelude.{ℤ, Option, ◌||◌, filter_map}
use Rattle.std.specs.List.{list_any, position_or_len}
use Rattle.arrayvec.specs.ArrayVec.{ArrayVec}
use Rattle.std.proofs.lemmas.Bool.{cond-true, cond-false, or_left}
use Rattle.std.proofs.lemmas.List.{append-nil, append_assoc, length-append, map-append, map_push, take_more}
use Rattle.std.proofs.lemmas.List.Elements.{filter_map-append}
use Rattle.std.proofs.lemmas.List.Folds.{list_any-append}
use Rattle.iolb_model.specs.Source.{Cell, same_cell, Source, input, source_or}
use Rattle.iolb_model.specs.Graph.{distinct, input_cell, vertex_of}
use Rattle.execution_laws.proofs.Cells.{same_cell-equal, same_cell_refl}
use Rattle.loop_graph.specs.Cells.{cell_view}
use Rattle.loop_graph.specs.Known.{known_vertex, vertex_among, vertex_in, AreKnown, AreRead, ArePreceded, Puts, source_by}
use Rattle.loop_graph.specs.declared.known.Known.{Known}
use Rattle.loop_graph.proofs.Distinct.{flips, distinct-push, distinct-append, distinct-more, position-kept, position-new}

found-parts : (b : Bool) (n v : ℕ) → cond b (Some n) None ≡ Some v → (b ≡ true) × (n ≡ v)
found-parts true n v e = (refl, cc)
found-parts false n v e = absurd cc

none-part : (b : Bool) (n : ℕ) → cond b (Some n) None ≡ None → b ≡ false
none-part true n e = absurd cc
none-part false n e = refl

or-none : (b : Bool) → (b || (false || false)) ≡ b
or-none true = refl
or-none false = refl

module _ (instances : ℕ) where
  -- ---- one cell more

  more-cells : (cells : List Cell) (cell : Cell) → list_any (same_cell cell) (distinct same_cell cells) ≡ false → distinct same_cell (cells ++ cell ∷ []) ≡ distinct same_cell cells ++ cell ∷ []
  more-cells cells cell e =
      distinct-push same_cell same_cell-equal same_cell_refl cell cells
      ∙ cond-false (list_any (same_cell cell) (distinct same_cell cells)) (distinct same_cell cells) (distinct same_cell cells ++ cell ∷ []) e

  same-cells : (cells : List Cell) (cell : Cell) → list_any (same_cell cell) (distinct same_cell cells) ≡ true → distinct same_cell (cells ++ cell ∷ []) ≡ distinct same_cell cells
  same-cells cells cell e =
      distinct-push same_cell same_cell-equal same_cell_refl cell cells
      ∙ cond-true (list_any (same_cell cell) (distinct same_cell cells)) (distinct same_cell cells) (distinct same_cell cells ++ cell ∷ []) e

  -- other cells keep their vertices
  among-more : (cells : List Cell) (cell other : Cell) → same_cell other cell ≡ false → vertex_among instances (cells ++ cell ∷ []) other ≡ vertex_among instances cells other
  among-more cells cell other apart = by (list_any (same_cell other) cells) refl where
    any : list_any (same_cell other) (cells ++ cell ∷ []) ≡ list_any (same_cell other) cells
    any =
        list_any-append (same_cell other) cells (cell ∷ []) ∙ ap (λ (b : Bool). list_any (same_cell other) cells || (b || false)) apart
        ∙ or-none (list_any (same_cell other) cells)

    by : (b : Bool) → list_any (same_cell other) cells ≡ b → vertex_among instances (cells ++ cell ∷ []) other ≡ vertex_among instances cells other
    by true e =
        cond-true (list_any (same_cell other) (cells ++ cell ∷ [])) (Some (instances + position_or_len (same_cell other) (cells ++ cell ∷ []))) None (any ∙ e)
        ∙ ap (λ (n : ℕ). Some (instances + n)) (position-kept (same_cell other) cells (cell ∷ []) e)
        ∙ sym (cond-true (list_any (same_cell other) cells) (Some (instances + position_or_len (same_cell other) cells)) None e)
    by false e =
        cond-false (list_any (same_cell other) (cells ++ cell ∷ [])) (Some (instances + position_or_len (same_cell other) (cells ++ cell ∷ []))) None (any ∙ e)
        ∙ sym (cond-false (list_any (same_cell other) cells) (Some (instances + position_or_len (same_cell other) cells)) None e)

  -- and a new one has the next
  among-new : (cells : List Cell) (cell : Cell) → list_any (same_cell cell) cells ≡ false → vertex_among instances (cells ++ cell ∷ []) cell ≡ Some (instances + length cells)
  among-new cells cell e =
      let any : list_any (same_cell cell) (cells ++ cell ∷ []) ≡ true =
      list_any-append (same_cell cell) cells (cell ∷ []) ∙ ap (λ (b : Bool). b || (same_cell cell cell || false)) e ∙ or_left (same_cell cell cell) false (same_cell_refl cell) in
      cond-true (list_any (same_cell cell) (cells ++ cell ∷ [])) (Some (instances + position_or_len (same_cell cell) (cells ++ cell ∷ []))) None any
      ∙ ap (λ (n : ℕ). Some (instances + n)) (position-new (same_cell cell) cells cell e (same_cell_refl cell))

  -- the vertex of a cell that was met stays
  stays : (cells later : List Cell) (cell : Cell) (v : ℕ) → vertex_among instances (distinct same_cell cells) cell ≡ Some v
      → v ≡ vertex_of instances (distinct same_cell (cells ++ later)) (input cell)
  stays cells later cell v is =
      let parts : (list_any (same_cell cell) (distinct same_cell cells) ≡ true) × (instances + position_or_len (same_cell cell) (distinct same_cell cells) ≡ v) =
      found-parts (list_any (same_cell cell) (distinct same_cell cells)) (instances + position_or_len (same_cell cell) (distinct same_cell cells)) v is in
      let more = distinct-append same_cell same_cell-equal same_cell_refl cells later in
      sym (ap (λ (ds : List Cell). instances + position_or_len (same_cell cell) ds) more.1
      ∙ ap (λ (n : ℕ). instances + n) (position-kept (same_cell cell) (distinct same_cell cells) more.0 parts.0) ∙ parts.1)

  -- ---- one read

  read-input : (writer : Cell → Option ℕ) (before : List Cell) (cell : Cell) (known : Known) (v : ℕ) → AreKnown instances writer (before ++ cell ∷ []) known
      → vertex_among instances (distinct same_cell (before ++ cell ∷ [])) cell ≡ Some v → AreRead instances writer before (input cell ∷ []) known (v ∷ [])
  read-input writer before cell known v met is = record {
    met = met;
    each = λ later. ap (λ (n : ℕ). n ∷ []) (stays (before ++ cell ∷ []) later cell v is);
  }

  -- a cell that was met before
  met-input : (writer : Cell → Option ℕ) (before : List Cell) (cell : Cell) (known : Known) (v : ℕ) → AreKnown instances writer before known
      → vertex_among instances (distinct same_cell before) cell ≡ Some v → AreRead instances writer before (input cell ∷ []) known (v ∷ [])
  met-input writer before cell known v met among =
      let there : list_any (same_cell cell) (distinct same_cell before) ≡ true =
      (found-parts (list_any (same_cell cell) (distinct same_cell before)) (instances + position_or_len (same_cell cell) (distinct same_cell before)) v among).0 in
      let same : distinct same_cell (before ++ cell ∷ []) ≡ distinct same_cell before = same-cells before cell there in
      read-input writer before cell known v (record {
        many = met.many ∙ sym (ap length same);
        each = λ other. met.each other ∙ sym (ap (λ (ds : List Cell). vertex_in instances ds (writer (cell_view other)) (cell_view other)) same);
      }) (ap (λ (ds : List Cell). vertex_among instances ds cell) same ∙ among)

  -- a cell of which something is known
  pub known-read : (writer : Cell → Option ℕ) (before : List Cell) (cell : ℕ × ArrayVec ℤ) (known : Known) (v : ℕ) → AreKnown instances writer before known → known_vertex known cell ≡ Some v
      → AreRead instances writer before (source_by writer (cell_view cell) ∷ []) known (v ∷ [])
  known-read writer before cell known v met is = by (writer (cell_view cell)) (sym (met.each cell) ∙ is) where
    by : (o : Option ℕ) → vertex_in instances (distinct same_cell before) o (cell_view cell) ≡ Some v → AreRead instances writer before (source_or o (cell_view cell) ∷ []) known (v ∷ [])
    by None among = met-input writer before (cell_view cell) known v met among
    by (Some w) among = record {
      met = subst (λ (cells : List Cell). AreKnown instances writer cells known) (sym (append-nil before)) met;
      each = λ later. ap (λ (n : ℕ). n ∷ []) same;
    } where
      same : v ≡ w
      same = cc

  -- a cell of which nothing is known
  pub new-read : (writer : Cell → Option ℕ) (before : List Cell) (cell : ℕ × ArrayVec ℤ) (known new : Known) (v : ℕ) → AreKnown instances writer before known → known_vertex known cell ≡ None
      → v ≡ instances + known.inputs → Puts known new cell v → new.inputs ≡ known.inputs + 1
      → AreRead instances writer before (source_by writer (cell_view cell) ∷ []) new (v ∷ [])
  new-read writer before cell known new v met none vertex puts longer =
      subst (λ (o : Option ℕ). AreRead instances writer before (source_or o (cell_view cell) ∷ []) new (v ∷ [])) (sym unwritten)
      (read-input writer before (cell_view cell) new v (record { many = many; each = each }) (ap (λ (ds : List Cell). vertex_among instances ds (cell_view cell)) more ∙ own)) where
        nothing : (o : Option ℕ) → vertex_in instances (distinct same_cell before) o (cell_view cell) ≡ None → (o ≡ None) × (vertex_among instances (distinct same_cell before) (cell_view cell) ≡ None)
        nothing None e = (refl, e)
        nothing (Some w) e = absurd cc

        parts : (writer (cell_view cell) ≡ None) × (vertex_among instances (distinct same_cell before) (cell_view cell) ≡ None)
        parts = nothing (writer (cell_view cell)) (sym (met.each cell) ∙ none)

        unwritten : writer (cell_view cell) ≡ None
        unwritten = parts.0

        absent : list_any (same_cell (cell_view cell)) (distinct same_cell before) ≡ false
        absent = none-part (list_any (same_cell (cell_view cell)) (distinct same_cell before)) (instances + position_or_len (same_cell (cell_view cell)) (distinct same_cell before)) parts.1

        more : distinct same_cell (before ++ cell_view cell ∷ []) ≡ distinct same_cell before ++ cell_view cell ∷ []
        more = more-cells before (cell_view cell) absent

        own : vertex_among instances (distinct same_cell before ++ cell_view cell ∷ []) (cell_view cell) ≡ Some v
        own = among-new (distinct same_cell before) (cell_view cell) absent ∙ ap Some (ap (λ (n : ℕ). instances + n) (sym met.many) ∙ sym vertex)

        many : new.inputs ≡ length (distinct same_cell (before ++ cell_view cell ∷ []))
        many = omega (arith, longer, met.many, ap length more, length-append (distinct same_cell before) (cell_view cell ∷ []))

        stays_in : (o : Option ℕ) (other : Cell) → same_cell other (cell_view cell) ≡ false
            → vertex_in instances (distinct same_cell before) o other ≡ vertex_in instances (distinct same_cell before ++ cell_view cell ∷ []) o other
        stays_in None other e = sym (among-more (distinct same_cell before) (cell_view cell) other e)
        stays_in (Some w) other e = refl

        by : (other : Cell) (b : Bool) → same_cell (cell_view cell) other ≡ b
            → cond b (Some v) (vertex_in instances (distinct same_cell before) (writer other) other) ≡ vertex_in instances (distinct same_cell before ++ cell_view cell ∷ []) (writer other) other
        by other true e =
            let same : cell_view cell ≡ other = same_cell-equal (cell_view cell) other e in
            sym own ∙ ap (λ (o : Option ℕ). vertex_in instances (distinct same_cell before ++ cell_view cell ∷ []) o (cell_view cell)) (sym unwritten)
            ∙ ap (λ (c : Cell). vertex_in instances (distinct same_cell before ++ cell_view cell ∷ []) (writer c) c) same
        by other false e = stays_in (writer other) other (flips same_cell same_cell-equal same_cell_refl other (cell_view cell) ∙ e)

        each : (other : ℕ × ArrayVec ℤ) → known_vertex new other ≡ vertex_in instances (distinct same_cell (before ++ cell_view cell ∷ [])) (writer (cell_view other)) (cell_view other)
        each other =
            puts other
            ∙ ap (λ (o : Option ℕ). cond (same_cell (cell_view cell) (cell_view other)) (Some v) o) (met.each other)
            ∙ by (cell_view other) (same_cell (cell_view cell) (cell_view other)) refl
            ∙ sym (ap (λ (ds : List Cell). vertex_in instances ds (writer (cell_view other)) (cell_view other)) more)

  -- ---- reads one after the other

  pub no-reads : (writer : Cell → Option ℕ) (before : List Cell) (known : Known) → AreKnown instances writer before known → AreRead instances writer before [] known []
  no-reads writer before known met = record {
    met = subst (λ (cells : List Cell). AreKnown instances writer cells known) (sym (append-nil before)) met;
    each = λ later. refl;
  }

  pub one-read-more : (writer : Cell → Option ℕ) (before : List Cell) (sources : List Source) (source : Source) (known new : Known) (vertices : List ℕ) (v : ℕ) → AreRead instances writer before sources known vertices
      → ((cells : List Cell) → AreKnown instances writer cells known → AreRead instances writer cells (source ∷ []) new (v ∷ []))
      → AreRead instances writer before (sources ++ source ∷ []) new (vertices ++ v ∷ [])
  one-read-more writer before sources source known new vertices v read one = record {
    met = subst (λ (cells : List Cell). AreKnown instances writer cells new) (sym all) last.met;
    each = λ later. each later;
  } where
    last : AreRead instances writer (before ++ filter_map input_cell sources) (source ∷ []) new (v ∷ [])
    last = one (before ++ filter_map input_cell sources) read.met

    all : before ++ filter_map input_cell (sources ++ source ∷ []) ≡ (before ++ filter_map input_cell sources) ++ filter_map input_cell (source ∷ [])
    all =
        ap (λ (l : List Cell). before ++ l) (filter_map-append input_cell sources (source ∷ []))
        ∙ sym (append_assoc before (filter_map input_cell sources) (filter_map input_cell (source ∷ [])))

    each : (later : List Cell) → vertices ++ v ∷ [] ≡ map (vertex_of instances (distinct same_cell ((before ++ filter_map input_cell (sources ++ source ∷ [])) ++ later))) (sources ++ source ∷ [])
    each later =
        ap (λ (l : List ℕ). l ++ v ∷ []) (read.each (filter_map input_cell (source ∷ []) ++ later)
        ∙ ap (λ (l : List Cell). map (vertex_of instances (distinct same_cell l)) sources) (sym (append_assoc (before ++ filter_map input_cell sources) (filter_map input_cell (source ∷ [])) later)))
        ∙ ap (λ (l : List ℕ). map (vertex_of instances (distinct same_cell (((before ++ filter_map input_cell sources) ++ filter_map input_cell (source ∷ [])) ++ later))) sources ++ l) (last.each later)
        ∙ sym (map-append (vertex_of instances (distinct same_cell (((before ++ filter_map input_cell sources) ++ filter_map input_cell (source ∷ [])) ++ later))) sources (source ∷ []))
        ∙ ap (λ (l : List Cell). map (vertex_of instances (distinct same_cell (l ++ later))) (sources ++ source ∷ [])) (sym all)

-- The next of some cells is read: its vertex is taken, if it wasn't there.
pub read-next : {A : Type 0} (f : A → Cell) (instances : ℕ) (writer : Cell → Option ℕ) (before : List Cell) (xs : List A) (k : ℕ) (x : A) (known new : Known) (preds more : List ℕ) (v : ℕ)
    → k < length xs → x ≡ get_or xs k x → ArePreceded instances writer before (map (source_by writer) (map f (take k xs))) known preds
    → ((met : List Cell) → AreKnown instances writer met known → AreRead instances writer met (source_by writer (f x) ∷ []) new (v ∷ []))
    → more ≡ cond (list_any (λ y. nat_eq y v) preds) preds (preds ++ v ∷ [])
    → ArePreceded instances writer before (map (source_by writer) (map f (take (k + 1) xs))) new more
read-next {A} f instances writer before xs k x known new preds more v below is so_far one pushed =
    let longer : map (source_by writer) (map f (take (k + 1) xs)) ≡ map (source_by writer) (map f (take k xs)) ++ source_by writer (f x) ∷ [] =
    ap (λ (l : List A). map (source_by writer) (map f l)) (take_more xs k x below ∙ ap (λ (z : A). take k xs ++ z ∷ []) (sym is))
    ∙ ap (map (source_by writer)) (map_push f (take k xs) x) ∙ map_push (source_by writer) (map f (take k xs)) (f x) in
    record {
      vertices = so_far.vertices ++ v ∷ [];
      read = subst (λ (l : List Source). AreRead instances writer before l new (so_far.vertices ++ v ∷ [])) (sym longer)
          (one-read-more instances writer before (map (source_by writer) (map f (take k xs))) (source_by writer (f x)) known new so_far.vertices v so_far.read one);
      once = distinct-more so_far.vertices preds more v so_far.once pushed;
    }
