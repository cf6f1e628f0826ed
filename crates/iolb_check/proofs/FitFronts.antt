-- Where what is asked of a wavefront term holds, it fits a program.
use Rattle.std.proofs.Common.{◌≡◌, refl, sym, ◌∙◌, ap, subst, ℕ, suc, ◌*◌, List, [], ◌∷◌, ◌++◌, length, arith}
use Rattle.std.specs.Prelude.{Option, Some, None, codes}
use Rattle.std.specs.List.{AllByRecursion}
use Rattle.std.specs.Option.{is_some}
use Rattle.std.proofs.lemmas.List.{length-append, length-map}
use Rattle.std.proofs.Math.Nat.{add-zero}
use Rattle.iolb_model.specs.Program.{AffineProgram}
use Rattle.claims.specs.Claims.{Claim, AllHold, numbered}
use Rattle.claims.specs.declared.place.Step.{Step}
use Rattle.claims.specs.declared.place.Step.TheVariants.{Key}
use Rattle.claims.proofs.Laws.{AllHold-left, AllHold-right}
use Rattle.affine_form.specs.Rows.{BoundsFit}
use Rattle.affine_form.specs.Substitution.{substitution}
use Rattle.affine_program.specs.Domain.{domain_size}
use Rattle.affine_program.specs.Parts.{ProgramParts, meaning}
use Rattle.dep_quast.specs.Context.{ReadOf, reference_of, parameter_point}
use Rattle.dep_quast.specs.Tree.{SelectionTree}
use Rattle.dep_quast.specs.Truth.{ReadFits}
use Rattle.reuse_paths.specs.LeafClaims.{LeafClaim, no_point, stops, is_credited, goes_on, arrives}
use Rattle.dep_quast.specs.Quasts.{tree_or_blank, tree_for}
use Rattle.reuse_paths.specs.ReachClaims.{setting_of}
use Rattle.reuse_paths.specs.ReachFits.{ReachFits}
use Rattle.reuse_paths.specs.WalkFits.{NestFits, SpotFits}
use Rattle.dep_quast.specs.Trees.{RowsFit}
use Rattle.reuse_paths.specs.Walks.{SpotForms, ReachClaim}
use Rattle.wavefront.specs.declared.front.Wavefront.{Wavefront}
use Rattle.wavefront.specs.FrontClaims.{front_variables, spot_goals, source_goals, front_goals, user_point, telling_forms}
use Rattle.wavefront.specs.FrontFits.{source_depth, EdgeFits, EdgesFit, SourceFits, PartsFit, ReachesFit}
use Rattle.wavefront.specs.FrontTerm.{WavefrontTerm, user_read}
use Rattle.wavefront.specs.View.{front_of}
use Rattle.certificate_fit.specs.EntryFit.{entry_at}
use Rattle.certificate_fit.specs.Limits.{IsSmallReach, IsSmallSpot, IsSmallWay}
use Rattle.certificate_fit.specs.PartFit.{bounds_fit, polynomials_fit}
use Rattle.certificate_fit.specs.TreeFit.{trees_fit}
use Rattle.certificate_fit.specs.WalkFit.{spot_fit}
use Rattle.certificate_fit.proofs.ReadTrees.{open-many, bounds-fit, columns-many, tree-of, leaves-many}
use Rattle.certificate_fit.proofs.WalkParts.{spot-fits, reach-fits}
use Rattle.iolb_check.specs.Fit.{FrontTermFits}
use Rattle.iolb_check.specs.FrontFit.{way_fit, back_fit, edge_fit, words_fit, outer_fit, reach_fit, source_way, read_fit, source_fit, source_size, inside_count, word_count, front_fit}
use Rattle.iolb_check.specs.Limits.{IsSmallFront}
use Rattle.affine_program.proofs.Domains.{length-domain_rows}

module _ (P : AffineProgram) (term : WavefrontTerm) where
  source-fits : (place : List Step) (source : Option SpotForms) → IsSmallSpot source → AllHold (source_fit P place term source) → SourceFits P (front_variables P term) source
  source-fits place None small h = tt
  source-fits place (Some spot) small h = spot-fits P (front_variables P term) (place ++ Key (codes "source") ∷ []) spot small h

  spot-many : (spot : SpotForms) → SpotFits P (front_variables P term) spot → length (spot_goals P term spot) ≡ domain_size P spot.statement
  spot-many spot fits = length-domain_rows P spot.statement (front_variables P term) (parameter_point P (front_variables P term)) spot.point fits.point

  source-many : (source : Option SpotForms) → SourceFits P (front_variables P term) source → length (source_goals P term source) ≡ source_size P source
  source-many None fits = refl
  source-many (Some spot) fits = spot-many spot fits

  -- as many numbers tell the words apart as are called for
  words-many : (source : Option SpotForms) → SourceFits P (front_variables P term) source → word_count P term source ≡ length (telling_forms P term source)
  words-many None fits = sym (length-map (reference_of P (user_read term)).subscripts (λ form. substitution form (user_point P term)))
  words-many (Some spot) fits = sym fits.point

  goals-many : SpotFits P (front_variables P term) term.user → SpotFits P (front_variables P term) term.vertex → SourceFits P (front_variables P term) term.source
      → inside_count P term ≡ length (front_goals P term)
  goals-many user vertex source =
      omega (
        arith,
        length-append (spot_goals P term term.user ++ spot_goals P term term.vertex) (source_goals P term term.source),
        length-append (spot_goals P term term.user) (spot_goals P term term.vertex),
        spot-many term.user user,
        spot-many term.vertex vertex,
        source-many term.source source,
      )

  edges-in : (place : List Step) (i : ℕ) (entries : List LeafClaim) → AllHold (numbered (entry_at (source_depth P term.source) [] place) i entries) → AllByRecursion (EdgeFits P term.source) entries
  edges-in place i [] h = tt
  edges-in place i (no_point shown ∷ entries) h = (tt, edges-in place (suc i) entries h)
  edges-in place i (stops label ∷ entries) h = (h.0, edges-in place (suc i) entries h.1)
  edges-in place i (is_credited credit rows label ∷ entries) h = absurd (omega (arith, h.0))
  edges-in place i (goes_on rows label ∷ entries) h = (tt, edges-in place (suc i) entries h.1.1)
  edges-in place i (arrives equal ∷ entries) h = (h.0, edges-in place (suc i) entries h.1)

module _ (program : ProgramParts) (trees : List (List SelectionTree)) (fit : AllHold (trees_fit (meaning program) trees)) (rows : RowsFit (meaning program) 0 trees) where
  -- ways between spots that fit
  way-fits : (term : WavefrontTerm) (from to : SpotForms) (place : List Step) (reach : ReachClaim) → NestFits (meaning program) term.nest
      → SpotFits (meaning program) (front_variables (meaning program) term) from → SpotFits (meaning program) (front_variables (meaning program) term) to
      → IsSmallReach reach → AllHold (way_fit (meaning program) trees term from to place reach) → ReachFits (meaning program) trees term.nest from to reach
  way-fits term from to place reach nest from_fits to_fits small h =
      reach-fits (setting_of (meaning program) trees term.nest to reach) to refl fit rows place from reach nest from_fits to_fits small h

  ways-fit : (term : WavefrontTerm) (place : List Step) (source : Option SpotForms) (reach : Option ReachClaim) → is_some reach ≡ is_some source → NestFits (meaning program) term.nest
      → SpotFits (meaning program) (front_variables (meaning program) term) term.vertex → SourceFits (meaning program) (front_variables (meaning program) term) source
      → IsSmallWay reach → AllHold (source_way (meaning program) trees term place source reach) → ReachesFit (meaning program) trees term source reach
  ways-fit term place None None e nest vertex source small h = tt
  ways-fit term place None (Some reach) e nest vertex source small h = absurd cc
  ways-fit term place (Some spot) None e nest vertex source small h = absurd cc
  ways-fit term place (Some spot) (Some reach) e nest vertex source small h = way-fits term term.vertex spot place reach nest vertex source small h

  pub front-fits : (place : List Step) (front : Wavefront) → IsSmallFront front → AllHold (front_fit (meaning program) trees place (front_of front)) → FrontTermFits program trees front
  front-fits place front small h =
      let P : AffineProgram = meaning program in
      let term : WavefrontTerm = front_of front in
      let reader : ReadOf = user_read term in
      let params : ℕ = length program.params in
      let vars : ℕ = front_variables P term in
      let back : List Claim = back_fit P trees place term in
      let edge : List Claim = edge_fit P trees place term in
      let words : List Claim = words_fit P place term in
      let bounds : List Claim = bounds_fit params (place ++ Key (codes "nest") ∷ []) term.nest in
      let outer : List Claim = outer_fit P place term in
      let way : List Claim = reach_fit P trees place term in
      let read : List Claim = read_fit P place term in
      let source : List Claim = source_fit P place term term.source in
      let sums : List Claim = polynomials_fit (length P.parameters) (place ++ Key (codes "sums") ∷ []) term.count.sums (length term.nest) in
      let user : List Claim = spot_fit P vars (place ++ Key (codes "user") ∷ []) term.user in
      let vertex : List Claim = spot_fit P vars (place ++ Key (codes "vertex") ∷ []) term.vertex in
      let first : List Claim = back ++ (edge ++ words) in
      let nest : List Claim = bounds ++ (outer ++ way) in
      let count : List Claim = read ++ (source ++ sums) in
      let spots : List Claim = user ++ vertex in
      let in_first : AllHold first = AllHold-left first (nest ++ (count ++ spots)) h in
      let past_first : AllHold (nest ++ (count ++ spots)) = AllHold-right first (nest ++ (count ++ spots)) h in
      let in_nest : AllHold nest = AllHold-left nest (count ++ spots) past_first in
      let past_nest : AllHold (count ++ spots) = AllHold-right nest (count ++ spots) past_first in
      let in_count : AllHold count = AllHold-left count spots past_nest in
      let in_spots : AllHold spots = AllHold-right count spots past_nest in
      let in_edge : AllHold edge = AllHold-left edge words (AllHold-right back (edge ++ words) in_first) in
      let in_words : AllHold words = AllHold-right edge words (AllHold-right back (edge ++ words) in_first) in
      let in_outer : AllHold outer = AllHold-left outer way (AllHold-right bounds (outer ++ way) in_nest) in
      let in_way : AllHold way = AllHold-right outer way (AllHold-right bounds (outer ++ way) in_nest) in
      let in_read : AllHold read = AllHold-left read (source ++ sums) in_count in
      let in_source : AllHold source = AllHold-left source sums (AllHold-right read (source ++ sums) in_count) in
      let in_sums : AllHold sums = AllHold-right source sums (AllHold-right read (source ++ sums) in_count) in
      let user_fits : SpotFits P vars term.user = spot-fits P vars (place ++ Key (codes "user") ∷ []) term.user small.user (AllHold-left user vertex in_spots) in
      let vertex_fits : SpotFits P vars term.vertex = spot-fits P vars (place ++ Key (codes "vertex") ∷ []) term.vertex small.vertex (AllHold-right user vertex in_spots) in
      let source_is : SourceFits P vars term.source = source-fits P term place term.source small.source in_source in
      let read_fits : ReadFits P reader = record { statement = user_fits.there; read = in_read.0 } in
      let chosen = tree-of P trees reader read_fits fit rows in
      let same : tree_for trees reader ≡ chosen.0 = ap tree_or_blank chosen.1.there in
      let over : BoundsFit params term.nest = subst (λ (n : ℕ). BoundsFit n term.nest) (add-zero params) (bounds-fit params 0 (place ++ Key (codes "nest") ∷ []) term.nest small.bounds (AllHold-left bounds (outer ++ way) in_nest)) in
      let nest_fits : NestFits P term.nest = record { few = small.variables; bounds = over } in
      let edges : EdgesFit P chosen.0 term = record {
        tree_fits = chosen.1.fits;
        each = in_edge.0 ∙ leaves-many P trees reader chosen.0 in_read.0 chosen.1.there ∙ sym (open-many vars (user_point P term) [] chosen.0);
        entries = edges-in P term (place ++ Key (codes "edge") ∷ []) 0 term.edge in_edge.1;
      } in
      let parts : PartsFit P term = record {
        nest = nest_fits;
        outer = omega (arith, in_outer.0);
        vertex = vertex_fits;
        user = user_fits;
        source = source_is;
        read = read_fits;
        inside = in_words.0 ∙ goals-many P term user_fits vertex_fits source_is;
        rows = in_words.1.0;
        columns = λ some. columns-many term.matrix.rows term.matrix.columns (word_count P term term.source) in_words.1.1.0 some ∙ words-many P term term.source source_is;
        scale = small.some_scale;
      } in record {
        fits = record {
          parts = parts;
          there = chosen.1.there ∙ ap (λ (t : SelectionTree). Some t) (sym same);
          edges = subst (λ (t : SelectionTree). EdgesFit P t term) (sym same) edges;
          reach = ways-fit term (place ++ Key (codes "reach") ∷ []) term.source term.reach in_way.0 nest_fits vertex_fits source_is small.reach in_way.1;
          back = way-fits term term.user term.vertex (place ++ Key (codes "back") ∷ []) term.back nest_fits user_fits vertex_fits small.back (AllHold-left back (edge ++ words) in_first);
        };
        count = record { few = small.variables; bounds = over; shown = in_read.1.0; sums = in_sums.0 };
        outer_sums = in_outer.1.0;
      }
