use Rattle.std.proofs.Common.{◌≡◌, sym, ◌∙◌, ap, subst, ℕ, ◌+◌, ◌*◌, List, ◌++◌, length, map, filter, arith}
use Rattle.std.specs.Prelude.{flat_map, ℤ}
use Rattle.std.specs.List.{AllByRecursion, range_with_len}
use Rattle.std.proofs.lemmas.List.FromFn.{length-range_with_len}
use Rattle.base_laws.proofs.Ranges.{filter-few, filter-failed}
use Rattle.affine_form.specs.Form.{IsSmall}
use Rattle.affine_program.specs.Parts.{meaning}
use Rattle.affine_program.specs.Domain.{depth_of}
use Rattle.dep_quast.specs.Views.{read_of}
use Rattle.iolb_model.specs.declared.limits.TheConstants.{NUMBER_SIZE}
use Rattle.find_terms.specs.Openings.{is_named, named_loops, same_loop}
use Rattle.find_terms.proofs.NameLaws.{loops-few, none-named, rows-in}
use Rattle.find_terms.proofs.NestLaws.{rows-many, rows-small}
use Rattle.find_terms.proofs.outlines.undoing.Goals as goal
use Rattle.find_terms.proofs.outlines.undoing.Goals.{then-contains+in_ok-cells, else-contains}

pub overflow_add-rows : goal.overflow_add-rows
overflow_add-rows c =
    let level : ℕ = c.loop-level.level in
    omega (
      arith,
      c.loop-level.invariant.many,
      filter-few (is_named c.args.loops.now) (range_with_len 0 level),
      length-range_with_len 0 level,
      c.loop-level-test.true,
      c.depth-level-end.ensures.few,
    )

pub loop-level-preserved : goal.loop-level-preserved
loop-level-preserved c =
    let loops : List ℕ = c.args.loops.now in
    let level : ℕ = c.loop-level.level in
    let row : ℕ → List ℤ = λ loop. map (same_loop loop) loops in
    elim c.if-contains.branch [
      | then-contains+in_ok-cells w ↦
          let more = rows-in (is_named loops) row level (sym c.contains.ensures.value ∙ w.if-contains.true) in
          record {
            many = w.rows-is ∙ ap (λ (n : ℕ). n + 1) c.loop-level.invariant.many ∙ sym more.0;
            is = ap (λ v. v.items) w.cells-is ∙ w.in_ok-cells.ensures ∙ ap (λ (xs : List ℤ). xs ++ row level) c.loop-level.invariant.is ∙ sym more.1;
          }
      | else-contains w ↦
          let same = filter-failed (is_named loops) level (sym c.contains.ensures.value ∙ w.if-contains.false) in
          record {
            many = w.rows-is ∙ c.loop-level.invariant.many ∙ ap length (sym same);
            is = ap (λ v. v.items) w.cells-is ∙ c.loop-level.invariant.is ∙ ap (flat_map row) (sym same);
          }
    ]

pub new-requires-clause-shape : goal.new-requires-clause-shape
new-requires-clause-shape c =
    let program = meaning c.args.program.now in
    let loops : List ℕ = c.args.loops.now in
    let level : ℕ = c.loop-level.level in
    let all : level ≡ depth_of program c.args.reader.statement = omega (arith, c.loop-level-test.false, c.loop-level.auto.level-end, c.depth-level-end.ensures.depth) in
    let named : List ℕ = filter (is_named loops) (range_with_len 0 level) in
    record {
      few_rows = omega (arith, c.loop-level.invariant.many, filter-few (is_named loops) (range_with_len 0 level), length-range_with_len 0 level, all, c.depth-level-end.ensures.depth, c.depth-level-end.ensures.few);
      few_columns = omega (arith, loops-few program (read_of c.args.reader) loops c.requires.named, c.depth-level-end.ensures.depth, c.depth-level-end.ensures.few);
      rows_first = λ none.
          none-named program (read_of c.args.reader) loops c.requires.named.there
          (ap (λ (n : ℕ). length (filter (is_named loops) (range_with_len 0 n))) (sym all) ∙ sym c.loop-level.invariant.many ∙ none);
      full = ap length c.loop-level.invariant.is ∙ rows-many loops named ∙ ap (λ (n : ℕ). n * length loops) (sym c.loop-level.invariant.many);
    }

pub new-requires-clause-small : goal.new-requires-clause-small
new-requires-clause-small c =
    subst (AllByRecursion (IsSmall NUMBER_SIZE)) (sym c.loop-level.invariant.is) (rows-small c.args.loops.now (filter (is_named c.args.loops.now) (range_with_len 0 c.loop-level.level)))

pub returns : goal.returns
returns c =
    let program = meaning c.args.program.now in
    let loops : List ℕ = c.args.loops.now in
    let level : ℕ = c.loop-level.level in
    let all : level ≡ depth_of program c.args.reader.statement = omega (arith, c.loop-level-test.false, c.loop-level.auto.level-end, c.depth-level-end.ensures.depth) in
    let row : ℕ → List ℤ = λ loop. map (same_loop loop) loops in
    let many : c.loop-level.rows ≡ length (named_loops program (read_of c.args.reader) loops) =
    c.loop-level.invariant.many ∙ ap (λ (n : ℕ). length (filter (is_named loops) (range_with_len 0 n))) all in
    let is : c.loop-level.cells.items ≡ flat_map row (named_loops program (read_of c.args.reader) loops) =
    c.loop-level.invariant.is ∙ ap (λ (n : ℕ). flat_map row (filter (is_named loops) (range_with_len 0 n))) all in
    c.new.ensures ∙ (λ i. record { rows = many i; columns = length loops; cells = is i })
