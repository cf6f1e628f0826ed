use Rattle.std.proofs.Common.{◌≡◌, sym, ◌∙◌, ap, ℕ, ◌+◌, Bool, true, false, List, [], ◌++◌, drop, append-nil, arith}
use Rattle.std.specs.Prelude.{zip}
use Rattle.poly_tree.specs.Powers.{powers_after}
use Rattle.poly_tree.proofs.Powers.{zip_past, zip_step}
use Rattle.poly_tree.proofs.product_text.product_text.Goals as goal

pub loop-i-preserved : goal.loop-i-preserved
loop-i-preserved c =
    c.in_ok-started.ensures (zip (drop (c.loop-i.i + 1) c.args.names.now) (drop (c.loop-i.i + 1) c.args.exponents.now))
    ∙ ap (λ (ps : List (List ℕ × ℕ)). c.loop-i.text.items ++ powers_after c.loop-i.started ps)
    (sym (zip_step c.args.names.now c.args.exponents.now c.loop-i.i c.index-names-i.result (omega (arith, c.loop-i-test.true, c.min-i-end.ensures)) c.index-names-i.is))
    ∙ c.loop-i.invariant

ended : (started : Bool) (text : List ℕ) (ps : List (List ℕ × ℕ)) → ps ≡ [] → text ++ powers_after started ps ≡ text
ended false text ps e = rw e (append-nil text)
ended true text ps e = rw e (append-nil text)

pub returns : goal.returns
returns c =
    sym (ended c.loop-i.started c.loop-i.text.items _ (zip_past c.args.names.now c.args.exponents.now c.loop-i.i (omega (arith, c.loop-i-test.false, c.min-i-end.ensures))))
    ∙ c.loop-i.invariant
