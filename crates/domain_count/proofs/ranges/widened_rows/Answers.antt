use Rattle.std.proofs.Common.{◌≡◌, ◌∙◌, ◌++◌, ◌∷◌, [], ap, sym, subst, arith, ℕ, ◌+◌, ◌<◌, List, length, take, get_or, map}
use Rattle.std.proofs.lemmas.List.{map-append, take_more, take_all}
use Rattle.iolb_model.specs.Form.{AffineForm}
use Rattle.base_laws.proofs.Lists.{All-push, All-at}
use Rattle.affine_form.specs.Form.{variables}
use Rattle.affine_form.specs.System.{AllOver}
use Rattle.affine_form.specs.Rows.{widened}
use Rattle.affine_form.proofs.RowLemmas.{length-widened}
use Rattle.domain_count.proofs.ranges.widened_rows.Goals as goal

-- one row more
wide-more : (vars k : ℕ) (rows wide : List AffineForm) (row longer : AffineForm) → k < length rows → row ≡ get_or rows k row → longer ≡ widened vars row
    → wide ≡ map (widened vars) (take k rows) → wide ++ longer ∷ [] ≡ map (widened vars) (take (k + 1) rows)
wide-more vars k rows wide row longer below is long e =
    ap (λ (ws : List AffineForm). ws ++ longer ∷ []) e ∙ ap (λ (w : AffineForm). map (widened vars) (take k rows) ++ w ∷ []) long
    ∙ sym (map-append (widened vars) (take k rows) (row ∷ []))
    ∙ ap (map (widened vars)) (ap (λ (w : AffineForm). take k rows ++ w ∷ []) is ∙ sym (take_more rows k row below))

-- a row of a system has as many variables
row-over : (vars k : ℕ) (rows others : List AffineForm) (row : AffineForm) → others ≡ rows → k < length others → row ≡ get_or others k row → AllOver vars rows → variables row ≡ vars
row-over vars k rows others row same below is h =
    ap variables is ∙ All-at (λ (r : AffineForm). variables r ≡ vars) others k row (subst (AllOver vars) (sym same) h) below

pub widened-requires-clause-room : goal.widened-requires-clause-room
widened-requires-clause-room c =
    omega (arith, c.requires.more, row-over c.args.system.now.vars c.loop-row.row-index c.args.system.now.rows c.rows-row-items.result.now c.row-item.result c.rows-row-items.ensures.rows c.loop-row-test.true c.row-item.is c.rows-row-items.ensures.over)

pub loop-row-preserved : goal.loop-row-preserved
loop-row-preserved c =
    let few = row-over c.args.system.now.vars c.loop-row.row-index c.args.system.now.rows c.rows-row-items.result.now c.row-item.result c.rows-row-items.ensures.rows c.loop-row-test.true c.row-item.is c.rows-row-items.ensures.over in (
      c.in_ok-push.ensures.items
          ∙ wide-more c.args.vars c.loop-row.row-index c.rows-row-items.result.now c.loop-row.wide.items c.row-item.result c.in_ok-longer.longer c.loop-row-test.true c.row-item.is c.in_ok-longer.ensures c.loop-row.invariant.0,
      subst (AllOver c.args.vars) (sym c.in_ok-push.ensures.items)
          (All-push (λ (r : AffineForm). variables r ≡ c.args.vars) c.loop-row.wide.items c.in_ok-longer.longer c.loop-row.invariant.1
          (ap variables c.in_ok-longer.ensures ∙ length-widened c.args.vars c.row-item.result (omega (arith, c.requires.more, few)))),
    )

pub returns-clause-rows : goal.returns-clause-rows
returns-clause-rows c =
    c.loop-row.invariant.0
    ∙ ap (map (widened c.args.vars)) (take_all c.loop-row.row-index c.rows-row-items.result.now c.loop-row-test.false ∙ c.rows-row-items.ensures.rows)

pub returns-clause-over : goal.returns-clause-over
returns-clause-over c = c.loop-row.invariant.1
