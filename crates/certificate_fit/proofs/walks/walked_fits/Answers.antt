use Rattle.std.proofs.Common.{rules, sym, ◌∙◌, ap, subst, ℕ, List, [], ◌∷◌, ◌++◌, length, map}
use Rattle.std.specs.Prelude.{Option, option_map, codes}
use Rattle.std.proofs.lemmas.List.{length-map}
use Rattle.claims.specs.Claims.{Claim, AllHold, Decides, IsRefusal, numbered}
use Rattle.claims.specs.declared.place.Step.{Step}
use Rattle.claims.specs.declared.place.Step.TheVariants.{Key}
use Rattle.claims.proofs.Found.{decides-later, refused-behind, refused-first}
use Rattle.affine_program.specs.Parts.{statement_of}
use Rattle.reuse_paths.specs.WalkSettings.{region_at}
use Rattle.reuse_paths.specs.Walks.{WalkRegion, boxed_region}
use Rattle.certificate_fit.specs.FitClaims.{so_many}
use Rattle.reuse_paths.specs.WalkViews.{walk_of}
use Rattle.certificate_fit.specs.WalkFit.{region_fit, row_count}
use Rattle.certificate_fit.proofs.walks.walked_fits.Goals as goal

pub returns-in_err-all_regions_fit : goal.returns-in_err-all_regions_fit
returns-in_err-all_regions_fit c =
    let walk = walk_of c.args.walking.now in
    let place = c.args.place.now in
    let nodes : List (Option WalkRegion) = map (option_map boxed_region) c.args.nodes.now in
    let first : Claim = so_many (place ++ Key (codes "nodes") ∷ []) (length nodes) (length walk.program.statements) in
    let fits : first.statement =
    length-map c.args.nodes.now (option_map boxed_region) ∙ c.if-nodes-statements.false ∙ ap length c.statements.ensures.statements ∙ sym (length-map c.args.walking.now.program.now.statements statement_of) in
    let regions = numbered (region_fit walk (place ++ Key (codes "nodes") ∷ [])) 0 nodes in
    let same = ap (λ (p : List Step). numbered (region_fit walk p) 0 nodes) c.in_ok-list.ensures in
    let called : ℕ → List Claim = λ n. so_many (place ++ Key (codes "start") ∷ []) (length c.args.start.now) n ∷ [] in
    let last = called (row_count (region_at nodes c.args.from.now.statement)) in
    let r = c.in_err-all_regions_fit.field-0.0 in
    let refused : IsRefusal (first ∷ (regions ++ last)) r =
    refused-behind first (regions ++ last) r fits (refused-first regions last r (subst (λ (claims : List Claim). IsRefusal claims r) same c.in_err-all_regions_fit.ensures)) in
    search rules

pub returns : goal.returns
returns c =
    let walk = walk_of c.args.walking.now in
    let place = c.args.place.now in
    let nodes : List (Option WalkRegion) = map (option_map boxed_region) c.args.nodes.now in
    let first : Claim = so_many (place ++ Key (codes "nodes") ∷ []) (length nodes) (length walk.program.statements) in
    let fits : first.statement =
    length-map c.args.nodes.now (option_map boxed_region) ∙ c.if-nodes-statements.false ∙ ap length c.statements.ensures.statements ∙ sym (length-map c.args.walking.now.program.now.statements statement_of) in
    let regions = numbered (region_fit walk (place ++ Key (codes "nodes") ∷ [])) 0 nodes in
    let same = ap (λ (p : List Step). numbered (region_fit walk p) 0 nodes) c.in_ok-list.ensures in
    let called : ℕ → List Claim = λ n. so_many (place ++ Key (codes "start") ∷ []) (length c.args.start.now) n ∷ [] in
    let last = called (row_count (region_at nodes c.args.from.now.statement)) in
    decides-later (first ∷ regions) last c.list_fits.result (fits, subst AllHold same c.in_ok-all_regions_fit.ensures)
    (subst (λ (claims : List Claim). Decides claims c.list_fits.result)
    (ap called (c.region_rows-called.ensures ∙ ap (λ (ns : List (Option WalkRegion)). row_count (region_at ns c.args.from.now.statement)) c.requires)) c.list_fits.ensures)
