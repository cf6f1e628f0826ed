use Rattle.std.specs.Prelude.{codes}
use Rattle.std.proofs.Common.{rules, ◌∙◌, ap, subst, ℕ, List, [], ◌∷◌, ◌++◌, length, map}
use Rattle.std.proofs.lemmas.List.{length-map}
use Rattle.iolb_model.specs.Program.{statement_at}
use Rattle.claims.specs.Claims.{Claim, AllHold, Decides, IsRefusal}
use Rattle.claims.specs.declared.place.Step.{Step}
use Rattle.claims.specs.declared.place.Step.TheVariants.{Key}
use Rattle.claims.proofs.Found.{decides-later, refused-behind, refused-first}
use Rattle.dep_quast.specs.Views.{read_of}
use Rattle.reuse_paths.specs.LeafClaims.{LeafClaim, claim_of}
use Rattle.certificate_fit.specs.EntryFit.{EntryAim, aimed_entries_fit, leaf_names}
use Rattle.certificate_fit.specs.FitClaims.{so_many, names}
use Rattle.reuse_paths.specs.WalkViews.{walk_of}
use Rattle.certificate_fit.specs.WalkFit.{entry_aim, rows_called}
use Rattle.certificate_fit.proofs.walks.take_fits.Goals as goal

pub returns-in_err-all_aimed_entries_fit : goal.returns-in_err-all_aimed_entries_fit
returns-in_err-all_aimed_entries_fit c =
    let walk = walk_of c.args.walking.now in
    let reader = read_of c.args.reader in
    let place = c.args.place.now in
    let called = leaf_names walk.program walk.trees reader in
    let entries : List LeafClaim = map claim_of c.args.entries.now in
    let list : List Step = place ++ Key (codes "leaves") ∷ [] in
    let aim : EntryAim = entry_aim walk in
    let asked : List ℕ = map (rows_called walk.nodes) called in
    let first : Claim = so_many list (length entries) (length called) in
    let fits : first.statement =
    length-map c.args.entries.now claim_of ∙ c.if-entries-rows.false ∙ ap length (c.as_slice-rows.ensures.value ∙ c.in_ok-called.ensures) ∙ length-map called (rows_called walk.nodes) in
    let same = ap (λ (a : EntryAim). aimed_entries_fit a c.as_slice-rows.result.now list entries) c.aimed-aimed.ensures
    ∙ ap (λ (ns : List ℕ). aimed_entries_fit aim ns list entries) (c.as_slice-rows.ensures.value ∙ c.in_ok-called.ensures) in
    let named : ℕ → ℕ → List Claim = λ number count. names (place ++ Key (codes "read") ∷ []) number count ∷ [] in
    let last = named reader.read (length (statement_at walk.program reader.statement).reads) in
    let r = c.in_err-all_aimed_entries_fit.field-0.0 in
    let refused : IsRefusal (first ∷ (aimed_entries_fit aim asked list entries ++ last)) r =
    refused-behind first (aimed_entries_fit aim asked list entries ++ last) r fits
    (refused-first (aimed_entries_fit aim asked list entries) last r (subst (λ (claims : List Claim). IsRefusal claims r) same c.in_err-all_aimed_entries_fit.ensures)) in
    search rules

pub returns : goal.returns
returns c =
    let walk = walk_of c.args.walking.now in
    let reader = read_of c.args.reader in
    let place = c.args.place.now in
    let called = leaf_names walk.program walk.trees reader in
    let entries : List LeafClaim = map claim_of c.args.entries.now in
    let list : List Step = place ++ Key (codes "leaves") ∷ [] in
    let aim : EntryAim = entry_aim walk in
    let asked : List ℕ = map (rows_called walk.nodes) called in
    let first : Claim = so_many list (length entries) (length called) in
    let fits : first.statement =
    length-map c.args.entries.now claim_of ∙ c.if-entries-rows.false ∙ ap length (c.as_slice-rows.ensures.value ∙ c.in_ok-called.ensures) ∙ length-map called (rows_called walk.nodes) in
    let same = ap (λ (a : EntryAim). aimed_entries_fit a c.as_slice-rows.result.now list entries) c.aimed-aimed.ensures
    ∙ ap (λ (ns : List ℕ). aimed_entries_fit aim ns list entries) (c.as_slice-rows.ensures.value ∙ c.in_ok-called.ensures) in
    let named : ℕ → ℕ → List Claim = λ number count. names (place ++ Key (codes "read") ∷ []) number count ∷ [] in
    let last = named reader.read (length (statement_at walk.program reader.statement).reads) in
    decides-later (first ∷ aimed_entries_fit aim asked list entries) last c.name_fits.result (fits, subst AllHold same c.in_ok-all_aimed_entries_fit.ensures)
    (subst (λ (claims : List Claim). Decides claims c.name_fits.result) (ap (λ (n : ℕ). named n c.read_count-count.result) c.from.ensures ∙ ap (named reader.read) c.read_count-count.ensures) c.name_fits.ensures)
