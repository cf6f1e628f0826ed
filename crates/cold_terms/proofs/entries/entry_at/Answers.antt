use Rattle.std.proofs.Common.{◌≡◌, sym, ◌∙◌, ap, subst, ◌≤◌, List, ◌++◌, length, arith}
use Rattle.iolb_model.specs.Form.{AffineForm}
use Rattle.iolb_model.specs.declared.limits.TheConstants.{ROWS}
use Rattle.affine_form.specs.System.{AffineSystem}
use Rattle.flow_deps.specs.Answers.{HasShortAnswer, IsAnswered, IsAsShort, pointless}
use Rattle.flow_deps.proofs.AnswerLaws.{found-none, found-some}
use Rattle.claims.specs.Shown.{IsFew}
use Rattle.dep_quast.specs.OpenLeaves.{OpenLeaf, is_input}
use Rattle.affine_form.specs.Multipliers.{FarkasMultipliers}
use Rattle.reuse_paths.specs.LeafClaims.{stops}
use Rattle.cold_terms.specs.Entries.{Closes, system_at}
use Rattle.cold_terms.proofs.EntryLaws.{closed-answer, empty-closes, stop-closes}
use Rattle.cold_terms.proofs.entries.entry_at.Goals as goal

pub returns-then-len-gt-ROWS : goal.returns-then-len-gt-ROWS
returns-then-len-gt-ROWS c =
    let is : c.in_ok-all.all.items ≡ c.args.rows.now ++ c.args.leaf.now.tests =
    c.in_ok-all.ensures ∙ ap (λ (front : List AffineForm). front ++ c.as_slice.result.now) (c.in_ok-front.ensures ∙ ap (λ (none : List AffineForm). none ++ c.args.rows.now) c.new.ensures.items)
    ∙ ap (λ (tests : List AffineForm). c.args.rows.now ++ tests) (c.as_slice.ensures.value ∙ ap (λ (l : OpenLeaf). l.tests) c.leaf.view_is) in
    λ entry h. let few : length (c.args.rows.now ++ c.args.leaf.now.tests) ≤ ROWS = h.few in omega (arith, few, ap length is, c.if-len-gt-ROWS.true, c.len.ensures)

pub returns-then-is_input : goal.returns-then-is_input
returns-then-is_input c =
    let is : c.in_ok-all.all.items ≡ c.args.rows.now ++ c.args.leaf.now.tests =
    c.in_ok-all.ensures ∙ ap (λ (front : List AffineForm). front ++ c.as_slice.result.now) (c.in_ok-front.ensures ∙ ap (λ (none : List AffineForm). none ++ c.args.rows.now) c.new.ensures.items)
    ∙ ap (λ (tests : List AffineForm). c.args.rows.now ++ tests) (c.as_slice.ensures.value ∙ ap (λ (l : OpenLeaf). l.tests) c.leaf.view_is) in
    let few : IsFew (length (c.args.rows.now ++ c.args.leaf.now.tests)) = omega (arith, ap length is, c.if-len-gt-ROWS.false, c.len.ensures) in
    subst (λ (es : List FarkasMultipliers). Closes c.args.wanted (system_at c.args.vars c.args.rows.now c.args.leaf.now) (is_input c.args.leaf.now.origin) (stops es)) (sym c.new-label.ensures.items)
    (stop-closes c.args.wanted (system_at c.args.vars c.args.rows.now c.args.leaf.now) (is_input c.args.leaf.now.origin) few (sym c.is_input.ensures ∙ c.if-is_input.true))

pub returns-in_default : goal.returns-in_default
returns-in_default c =
    let system : AffineSystem = record { vars = c.args.vars; rows = c.as_slice-2.result.now } in
    let is : c.in_ok-all.all.items ≡ c.args.rows.now ++ c.args.leaf.now.tests =
    c.in_ok-all.ensures ∙ ap (λ (front : List AffineForm). front ++ c.as_slice.result.now) (c.in_ok-front.ensures ∙ ap (λ (none : List AffineForm). none ++ c.args.rows.now) c.new.ensures.items)
    ∙ ap (λ (tests : List AffineForm). c.args.rows.now ++ tests) (c.as_slice.ensures.value ∙ ap (λ (l : OpenLeaf). l.tests) c.leaf.view_is) in
    let none = found-none c.in_ok-shown.field-0 (¬ HasShortAnswer (pointless system)) (λ shown. IsAnswered (pointless system) shown × IsAsShort c.args.wanted shown) c.in_default.is c.in_ok-shown.ensures in
    let same : system ≡ system_at c.args.vars c.args.rows.now c.args.leaf.now = ap (λ (rows : List AffineForm). record { vars = c.args.vars; rows = rows }) (c.as_slice-2.ensures.value ∙ is) in
    λ entry h. none (subst (λ (s : AffineSystem). HasShortAnswer (pointless s)) (sym same)
    (closed-answer (system_at c.args.vars c.args.rows.now c.args.leaf.now) (is_input c.args.leaf.now.origin) entry (sym c.is_input.ensures ∙ c.if-is_input.false) h))

pub returns : goal.returns
returns c =
    let system : AffineSystem = record { vars = c.args.vars; rows = c.as_slice-2.result.now } in
    let is : c.in_ok-all.all.items ≡ c.args.rows.now ++ c.args.leaf.now.tests =
    c.in_ok-all.ensures ∙ ap (λ (front : List AffineForm). front ++ c.as_slice.result.now) (c.in_ok-front.ensures ∙ ap (λ (none : List AffineForm). none ++ c.args.rows.now) c.new.ensures.items)
    ∙ ap (λ (tests : List AffineForm). c.args.rows.now ++ tests) (c.as_slice.ensures.value ∙ ap (λ (l : OpenLeaf). l.tests) c.leaf.view_is) in
    let some = found-some c.in_ok-shown.field-0 c.in-Some.shown (¬ HasShortAnswer (pointless system)) (λ shown. IsAnswered (pointless system) shown × IsAsShort c.args.wanted shown) c.in-Some.is c.in_ok-shown.ensures in
    let same : system ≡ system_at c.args.vars c.args.rows.now c.args.leaf.now = ap (λ (rows : List AffineForm). record { vars = c.args.vars; rows = rows }) (c.as_slice-2.ensures.value ∙ is) in
    empty-closes c.args.wanted (system_at c.args.vars c.args.rows.now c.args.leaf.now) (is_input c.args.leaf.now.origin) c.in-Some.shown (sym c.is_input.ensures ∙ c.if-is_input.false)
    (subst (λ (s : AffineSystem). IsAnswered (pointless s) c.in-Some.shown) same some.0) some.1
