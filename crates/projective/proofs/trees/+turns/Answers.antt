use Rattle.std.proofs.Common.{◌≡◌, ◌∙◌, ◌+◌, ◌-◌, ◌≤◌, ap, sym, subst, ℕ, suc, true, false, [], ◌∷◌, ◌++◌, length, arith}
use Rattle.iolb_model.specs.Form.{AffineForm}
use Rattle.affine_form.specs.Rows.{IsSmallOver}
use Rattle.affine_program.specs.Parts.{meaning}
use Rattle.flow_deps.specs.declared.wanted.Wanted.TheVariants.{Short}
use Rattle.claims.proofs.Found.{IfOk-then}
use Rattle.dep_quast.specs.Tree.{tree_of}
use Rattle.dep_quast.specs.declared.quast.Quast.{Quast}
use Rattle.dep_quast.specs.Context.{no_row}
use Rattle.projective.specs.FirstTurns.{AreFirstTurns}
use Rattle.projective.specs.SourceTrees.{read_number, turns_shape}
use Rattle.projective.specs.Turns.{width, is_kept, later_turn, turn_before}
use Rattle.projective.proofs.CodeLaws.{first-passed, shape-kept, turn-split}
use Rattle.projective.proofs.Fits.{shifted-fits}
use Rattle.flow_deps.specs.Shapes.{Shape, no_write, last_write}
use Rattle.flow_deps.specs.Shown.{IsShown}
use Rattle.projective.proofs.trees.+turns.Goals as goal

pub returns-then-loops-eq0 : goal.returns-then-loops-eq0
returns-then-loops-eq0 t c =
    let program = meaning c.args.program.now in
    IfOk-then c.first_leaf.result (λ quast. (nested : ℕ) → IsShown Short program (read_number c.args.read) c.args.tests.now nested no_write (tree_of quast))
    (λ quast. (nested : ℕ) → c.args.loops ≤ nested → IsShown Short program (read_number c.args.read) c.args.tests.now nested (turns_shape program c.args.loops) (tree_of quast))
    c.first_leaf.ensures
    (λ quast h nested more. subst (λ (shape : Shape). IsShown Short program (read_number c.args.read) c.args.tests.now nested shape (tree_of quast)) (sym (ap (turns_shape program) c.if-loops-eq0.true)) (h nested))

pub returns-then-is_kept : goal.returns-then-is_kept
returns-then-is_kept t c =
    let program = meaning c.args.program.now in
    let kept : is_kept program (c.args.loops - 1) ≡ true = ap (is_kept program) (sym c.from.ensures) ∙ sym c.if-is_kept.ensures in
    let shape = shape-kept program c.args.loops (c.args.loops - 1) (omega (arith, c.if-loops-eq0.false)) kept in
    IfOk-then c.turns.result (λ quast. (nested : ℕ) → c.args.loops - 1 ≤ nested → IsShown Short program (read_number c.args.read) c.args.tests.now nested (turns_shape program (c.args.loops - 1)) (tree_of quast))
    (λ quast. (nested : ℕ) → c.args.loops ≤ nested → IsShown Short program (read_number c.args.read) c.args.tests.now nested (turns_shape program c.args.loops) (tree_of quast))
    c.turns.ensures
    (λ quast h nested more. subst (λ (s : Shape). IsShown Short program (read_number c.args.read) c.args.tests.now nested s (tree_of quast)) (sym shape) (h nested (omega (arith, more))))

pub tests_of_no-requires-clause-over : goal.tests_of_no-requires-clause-over
tests_of_no-requires-clause-over t c =
    let program = meaning c.args.program.now in
    subst (IsSmallOver (width program)) (sym c.in_ok-form.ensures) (shifted-fits (width program) (length program.parameters + c.from-2.result))

pub turns-requires-2 : goal.turns-requires-2
turns-requires-2 t c =
    let program = meaning c.args.program.now in
    let level : ℕ = c.args.loops - 1 in
    let some : c.args.loops ≡ suc level = omega (arith, c.if-loops-eq0.false) in
    let below = c.as_slice-2.ensures.value ∙ c.in_ok-below.ensures.tests ∙ ap (λ (f : AffineForm). c.args.tests.now ++ no_row (width program) f ∷ []) (c.in_ok-form.ensures ∙ ap (later_turn program) c.from-2.ensures) in (
      omega (arith, c.decreases, c.if-loops-eq0.false),
      (
        c.requires.projective,
        (
          c.requires.read,
          (
            c.requires.written,
            (
              omega (arith, c.requires.there),
              subst (AreFirstTurns program level) (sym below)
                  (first-passed program level c.args.tests.now (subst (λ (k : ℕ). AreFirstTurns program k c.args.tests.now) some c.requires.first) (omega (arith, c.requires.there, some))),
            ),
          ),
        ),
      ),
    )

pub returns : goal.returns
returns t c =
    let program = meaning c.args.program.now in
    let level : ℕ = c.args.loops - 1 in
    let free : is_kept program level ≡ false = ap (is_kept program) (sym c.from.ensures) ∙ sym c.if-is_kept.ensures in
    let form_is = c.in_ok-form.ensures ∙ ap (later_turn program) c.from-2.ensures in
    let above = c.as_slice.ensures.value ∙ c.in_ok-above.ensures in
    let below = c.as_slice-2.ensures.value ∙ c.in_ok-below.ensures.tests in
    turn-split program c.args.read c.args.loops level c.args.tests.now c.as_slice.result.now c.as_slice-2.result.now c.in_ok-form.form (tree_of c.in_ok-yes-2.yes.value) (tree_of c.in_ok-no-2.no.value)
    (omega (arith, c.if-loops-eq0.false)) free form_is above below
    (λ nested. subst (λ (q : Quast). IsShown Short program (read_number c.args.read) c.as_slice.result.now nested (last_write 0 level (turn_before program level)) (tree_of q)) (sym c.in_ok-yes-2.ensures.ok) (c.in_ok-yes.ensures nested))
    (λ nested more. subst (λ (q : Quast). IsShown Short program (read_number c.args.read) c.as_slice-2.result.now nested (turns_shape program level) (tree_of q)) (sym c.in_ok-no-2.ensures.ok) (c.in_ok-no.ensures nested more))
