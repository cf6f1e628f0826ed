use Rattle.std.proofs.Common.{rules, ◌≡◌, ◌∙◌, ap, subst, ℕ, List, [], ◌∷◌, ◌++◌}
use Rattle.std.specs.Prelude.{Err, slice_index_or}
use Rattle.claims.specs.Claims.{Claim, AllHold, IsRefusal}
use Rattle.claims.specs.declared.place.Step.TheVariants.{Key, Index}
use Rattle.certificate_fit.specs.EntryFit.{aimed_at, aimed_fit}
use Rattle.certificate_fit.specs.EntryViews.{aim_of}
use Rattle.certificate_fit.proofs.FitFound.{mapped-stop, mapped-next}
use Rattle.certificate_fit.proofs.entries.all_aimed_entries_fit.Goals as goal
use Rattle.reuse_paths.specs.LeafClaims.{claim_of}

pub returns-in_err-entry_fits : goal.returns-in_err-entry_fits
returns-in_err-entry_fits c =
    let list = c.args.place.now ++ Key c.args.key ∷ [] in
    let aim = aim_of c.args.aimed in
    let i : ℕ = c.loop-index.index in
    let claim = claim_of c.index-entries-index.result in
    let r = c.in_err-entry_fits.field-0.0 in
    let at = c.in_ok-at.ensures ∙ ap (λ (key : List ℕ). (c.args.place.now ++ Key key ∷ []) ++ Index i ∷ []) c.same.ensures in
    let same : aimed_fit aim c.called_at.result claim c.in_ok-at.at ≡ aimed_fit aim (slice_index_or c.args.called.now i 0) claim (list ++ Index i ∷ []) =
    ap (λ (n : ℕ). aimed_fit aim n claim c.in_ok-at.at) c.called_at.ensures ∙ ap (aimed_fit aim (slice_index_or c.args.called.now i 0) claim) at in
    let refused = c.loop-index.invariant (Err r)
    (mapped-stop claim_of (aimed_at aim c.args.called.now list) c.args.entries.now i c.index-entries-index.result c.loop-index-test.true c.index-entries-index.is r
    (subst (λ (claims : List Claim). IsRefusal claims r) same c.in_err-entry_fits.ensures)) in
    search rules

pub loop-index-preserved : goal.loop-index-preserved
loop-index-preserved c = λ answer h.
    let list = c.args.place.now ++ Key c.args.key ∷ [] in
    let aim = aim_of c.args.aimed in
    let i : ℕ = c.loop-index.index in
    let claim = claim_of c.index-entries-index.result in
    let at = c.in_ok-at.ensures ∙ ap (λ (key : List ℕ). (c.args.place.now ++ Key key ∷ []) ++ Index i ∷ []) c.same.ensures in
    let same : aimed_fit aim c.called_at.result claim c.in_ok-at.at ≡ aimed_fit aim (slice_index_or c.args.called.now i 0) claim (list ++ Index i ∷ []) =
    ap (λ (n : ℕ). aimed_fit aim n claim c.in_ok-at.at) c.called_at.ensures ∙ ap (aimed_fit aim (slice_index_or c.args.called.now i 0) claim) at in
    c.loop-index.invariant answer
    (mapped-next claim_of (aimed_at aim c.args.called.now list) c.args.entries.now i c.index-entries-index.result c.loop-index-test.true c.index-entries-index.is answer (subst AllHold same c.in_ok-entry_fits.ensures) h)
