-- A wavefront term whose claims hold, over true source trees, is sound.
use Rattle.std.proofs.Common.{◌≡◌, sym, ◌∙◌, ap, subst, ℕ, ◌+◌, List, [], ◌∷◌, ◌++◌, length, map, arith, zero-add}
use Rattle.std.specs.Prelude.{Option, Some, None, codes}
use Rattle.std.specs.List.{AllByRecursion}
use Rattle.std.proofs.Math.IntN.{ℤ, pos}
use lib.Signed.{◌≤ℤ◌}
use Rattle.std.proofs.lemmas.List.{length-append, length-take-le}
use Rattle.base_laws.proofs.Lists.{All-left, All-right}
use Rattle.iolb_model.specs.Form.{AffineForm, form_value}
use Rattle.iolb_model.specs.Path.{PathStep, row_path}
use Rattle.iolb_model.specs.Program.{AffineProgram, IsWellFormed}
use Rattle.iolb_model.specs.Bound.{IsAdmitted}
use Rattle.iolb_model.specs.Domain.{IsAt, IsWithin, LeadAlong}
use Rattle.iolb_model.specs.Execution.{Instance}
use Rattle.iolb_model.specs.Graph.{computation_graph}
use Rattle.iolb_model.specs.Source.{written_at}
use Rattle.execution_laws.proofs.Domains.{domains_executed, way-there}
use Rattle.execution_laws.proofs.Members.{Member}
use Rattle.execution_laws.proofs.Ordered.{All-from, All-member}
use Rattle.claims.specs.Claims.{Claim, AllHold}
use Rattle.claims.specs.declared.place.Step.{Step}
use Rattle.claims.specs.declared.place.Step.TheVariants.{Key}
use Rattle.claims.proofs.Laws.{AllHold-left, AllHold-right}
use Rattle.affine_form.specs.System.{IsMet}
use Rattle.affine_form.proofs.RowLemmas.{length-variables}
use Rattle.affine_form.proofs.Meaning.{values-front}
use Rattle.affine_program.proofs.Domains.{domain_rows-says}
use Rattle.affine_program.specs.Domain.{path_of}
use Rattle.dep_quast.specs.Context.{parameter_point}
use Rattle.dep_quast.specs.Tree.{SelectionTree, leaf_at}
use Rattle.dep_quast.specs.Truth.{IsTrueTree}
use Rattle.execution_laws.proofs.Ways.{holds-there}
use Rattle.claims.proofs.Systems.{goals-met}
use Rattle.domain_count.specs.Points.{points}
use Rattle.reuse_paths.specs.Arrival.{instance_of}
use Rattle.dep_quast.specs.Quasts.{tree_for}
use Rattle.reuse_paths.specs.Reached.{IsReached}
use Rattle.reuse_paths.specs.WalkFits.{SpotFits}
use Rattle.dep_quast.specs.Trees.{RowsFit, RowsAreTrue}
use Rattle.reuse_paths.specs.Walks.{SpotForms, ReachClaim}
use Rattle.reuse_paths.proofs.Arrivals.{reaches-arrive}
use Rattle.dep_quast.proofs.ChosenLeaves.{chosen-stands}
use Rattle.reuse_paths.proofs.NestPoints.{distinct-images, points-within, points-long, points-differ, nest-met}
use Rattle.dep_quast.proofs.TreeLemmas.{rows-at}
use Rattle.wavefront.specs.FrontClaims.{front_variables, front_system, spot_goals, source_goals, front_goals, front_inside, outer_claims, user_point, word_forms, word_claims, edge_leaves, front_edges, source_reach, front_reach, front_back, wave_claims}
use Rattle.wavefront.specs.FrontFits.{FrontFits, ReachesFit, ValidFrontsAreSound}
use Rattle.wavefront.specs.FrontTerm.{WavefrontTerm, user_read}
use Rattle.wavefront.specs.Fronts.{spot_values, word_vertex, IsThereAt, IsSoundAt, IsSoundUnder}
use Rattle.reuse_paths.specs.Places.{place_of, IsExecuted}
use Rattle.wavefront.specs.Inverse.{AreUndone}
use Rattle.wavefront.proofs.FrontApart.{one-instance, user-at, told}
use Rattle.wavefront.proofs.FrontEdges.{IsSaid, IsLong, said}
use Rattle.wavefront.proofs.InverseClaims.{hold-undone}
use Rattle.reuse_paths.proofs.Places.{executed-there, stands-alone}
use Rattle.wavefront.proofs.Undone.{undone-same}

module _ (program : AffineProgram) (place : List Step) (trees : List (List SelectionTree)) (term : WavefrontTerm) (formed : IsWellFormed program)
    (trees-fit : RowsFit program 0 trees) (trees-true : RowsAreTrue program 0 trees) (fits : FrontFits program trees term) where
  abbrev inside : List Claim
  inside = front_inside program place term

  abbrev outer : List Claim
  outer = outer_claims program place term

  abbrev words : List Claim
  words = word_claims program place term

  abbrev edges : List Claim
  edges = front_edges program place (tree_for trees (user_read term)) term

  abbrev reach : List Claim
  reach = front_reach program place trees term

  abbrev back : List Claim
  back = front_back program place trees term

  module _ (holds : AllHold (wave_claims program place trees term)) where
    -- what holds, part by part
    holds-back : AllHold back
    holds-back = AllHold-right (inside ++ outer ++ words ++ edges ++ reach) back holds

    holds-five : AllHold (inside ++ outer ++ words ++ edges ++ reach)
    holds-five = AllHold-left (inside ++ outer ++ words ++ edges ++ reach) back holds

    holds-reach : AllHold reach
    holds-reach = AllHold-right (inside ++ outer ++ words ++ edges) reach holds-five

    holds-four : AllHold (inside ++ outer ++ words ++ edges)
    holds-four = AllHold-left (inside ++ outer ++ words ++ edges) reach holds-five

    holds-edges : AllHold edges
    holds-edges = AllHold-right (inside ++ outer ++ words) edges holds-four

    holds-three : AllHold (inside ++ outer ++ words)
    holds-three = AllHold-left (inside ++ outer ++ words) edges holds-four

    holds-words : AllHold words
    holds-words = AllHold-right (inside ++ outer) words holds-three

    holds-outer : AllHold outer
    holds-outer = AllHold-right inside outer (AllHold-left (inside ++ outer) words holds-three)

    holds-inside : AllHold inside
    holds-inside = AllHold-left inside outer (AllHold-left (inside ++ outer) words holds-three)

    undone : AreUndone term.matrix term.scale (length program.parameters) (length term.nest) (word_forms program term)
    undone = hold-undone term.matrix term.scale (length program.parameters) (length term.nest) (word_forms program term) place holds-words

    module _ (parameters : List ℤ) (admitted : IsAdmitted program parameters) where
      -- a spot that is shown to be in its domain is executed
      spot-executed : (spot : SpotForms) (u : List ℤ) → SpotFits program (front_variables program term) spot → IsMet (spot_goals program term spot) (parameters ++ u)
          → IsExecuted program parameters (instance_of spot parameters u)
      spot-executed spot u fit met =
          let vars : ℕ = front_variables program term in
          let path : List PathStep = path_of program spot.statement in
          let values : List ℤ = spot_values spot parameters u in
          let within : LeadAlong path parameters values =
          subst (λ (q : List ℤ). LeadAlong path q values) (values-front vars (length program.parameters) parameters u (sym admitted.each) (omega arith))
          (domain_rows-says program spot.statement vars (parameter_point program vars) spot.point (parameters ++ u) formed (length-variables vars 0 (length program.parameters)) fit.point met) in
          let there : (n : ℕ) × IsAt program parameters n (instance_of spot parameters u) =
          (domains_executed program parameters (instance_of spot parameters u) formed).1
          (holds-there (row_path program.tree spot.statement) (λ p. LeadAlong p parameters values) (way-there program spot.statement formed fit.there) within) in
          executed-there program parameters there.0 (instance_of spot parameters u) there.1

      module _ (u : List ℤ) (within : IsWithin term.nest parameters u) where
        abbrev at : List ℤ
        at = parameters ++ u

        abbrev vertex : Instance
        vertex = instance_of term.vertex parameters u

        abbrev user : Instance
        user = instance_of term.user parameters u

        met : IsMet (front_system program term).rows at
        met = nest-met program term.nest parameters u formed admitted within

        goals : IsMet (front_goals program term) at
        goals = goals-met 10 (place ++ Key (codes "inside") ∷ []) (front_system program term) 0 (front_goals program term) term.inside at (omega (arith, fits.parts.inside)) holds-inside met

        abbrev is-met : AffineForm → Type 0
        is-met row = pos 0 ≤ℤ form_value row at

        vertex-there : IsExecuted program parameters vertex
        vertex-there = spot-executed term.vertex u fits.parts.vertex
            (All-right is-met (spot_goals program term term.user) (spot_goals program term term.vertex)
            (All-left is-met (spot_goals program term term.user ++ spot_goals program term term.vertex) (source_goals program term term.source) goals))

        user-there : IsExecuted program parameters user
        user-there = spot-executed term.user u fits.parts.user
            (All-left is-met (spot_goals program term term.user) (spot_goals program term term.vertex)
            (All-left is-met (spot_goals program term term.user ++ spot_goals program term term.vertex) (source_goals program term term.source) goals))

        -- where a walk from an instance arrives at a spot's, this is reached from it
        arrived : (spot : SpotForms) (n : ℕ) → (end : ℕ) × (IsAt program parameters end (instance_of spot parameters u) × IsReached (computation_graph program parameters) n end)
            → IsReached (computation_graph program parameters) n (place_of program parameters (instance_of spot parameters u))
        arrived spot n h = subst (λ (m : ℕ). IsReached (computation_graph program parameters) n m) (stands-alone program parameters h.0 (instance_of spot parameters u) formed h.1.0) h.1.1

        behind : IsReached (computation_graph program parameters) (place_of program parameters user) (place_of program parameters vertex)
        behind =
            arrived term.vertex (place_of program parameters user)
            (reaches-arrive program trees term.nest term.user term.vertex term.back 21 (place ++ Key (codes "back") ∷ []) formed trees-fit trees-true fits.back holds-back
            parameters u (place_of program parameters user) admitted within user-there)

        true-tree : IsTrueTree program (user_read term) (tree_for trees (user_read term))
        true-tree = subst (λ (n : ℕ). IsTrueTree program (record { statement = n; read = term.read }) (tree_for trees (user_read term))) (zero-add term.user.statement)
            (rows-at program 0 term.user.statement term.read trees (tree_for trees (user_read term)) trees-true fits.there)

        there : (source : Option SpotForms) (arrives : Option ReachClaim) → ReachesFit program trees term source arrives → AllHold (source_reach program place trees term source arrives)
            → IsSaid program parameters u formed (user_read term) (place_of program parameters user) (spot_values term.user parameters u) (front_variables program term)
            (front_system program term).rows (user_point program term) met (user-at program term parameters u admitted.each) source
            → IsThereAt program term parameters u (place_of program parameters vertex) source
        there None None fit h is = is
        there None (Some arrives) fit h is = is
        there (Some spot) None fit h is = absurd fit
        there (Some spot) (Some arrives) fit h is = (
          executed-there program parameters is.0 (instance_of spot parameters u) is.1.0,
          is.1.1 ∙ ap written_at (stands-alone program parameters is.0 (instance_of spot parameters u) formed is.1.0),
          arrived spot (place_of program parameters vertex)
              (reaches-arrive program trees term.nest term.vertex spot arrives 20 (place ++ Key (codes "reach") ∷ []) formed trees-fit trees-true fit h
              parameters u (place_of program parameters vertex) admitted within vertex-there),
        )

        long : (source : Option SpotForms) (arrives : Option ReachClaim) → ReachesFit program trees term source arrives
            → IsLong program parameters u formed (user_read term) (place_of program parameters user) (spot_values term.user parameters u) (front_variables program term)
            (front_system program term).rows (user_point program term) met (user-at program term parameters u admitted.each) source
        long None arrives fit = tt
        long (Some spot) None fit = absurd fit
        long (Some spot) (Some arrives) fit = fit.to_fits.point

        sound-at : IsSoundAt program term parameters u
        sound-at = record {
          vertex = vertex-there;
          user = user-there;
          read = fits.parts.read;
          word = there term.source term.reach fits.reach holds-reach
              (said program parameters u formed (user_read term) (place_of program parameters user) (spot_values term.user parameters u) (front_variables program term)
              (front_system program term).rows (user_point program term) met (user-at program term parameters u admitted.each)
              term.source (long term.source term.reach fits.reach) (place ++ Key (codes "edge") ∷ []) (edge_leaves program (tree_for trees (user_read term)) term) term.edge
              (leaf_at (tree_for trees (user_read term)) (parameters ++ spot_values term.user parameters u)) fits.edges.each holds-edges
              (chosen-stands (front_variables program term) (user_point program term) at (parameters ++ spot_values term.user parameters u) (user-at program term parameters u admitted.each) []
              (tree_for trees (user_read term)) tt)
              (true-tree parameters (place_of program parameters user) (spot_values term.user parameters u) admitted user-there));
          behind = behind;
        }

      each : AllByRecursion (IsSoundAt program term parameters) (points term.nest parameters)
      each = All-from (IsSoundAt program term parameters) (points term.nest parameters)
          (λ u m. sound-at u (All-member (λ (w : List ℤ). IsWithin term.nest parameters w) (points term.nest parameters) u (points-within term.nest parameters) m))

      one-word : (u w : List ℤ) → Member u (points term.nest parameters) → Member w (points term.nest parameters) → word_vertex program term parameters u ≡ word_vertex program term parameters w → u ≡ w
      one-word u w m n e =
          let at_u : IsSoundAt program term parameters u = All-member (IsSoundAt program term parameters) (points term.nest parameters) u each m in
          let at_w : IsSoundAt program term parameters w = All-member (IsSoundAt program term parameters) (points term.nest parameters) w each n in
          undone-same term.matrix term.scale (length program.parameters) (length term.nest) (word_forms program term) parameters u w admitted.each fits.parts.scale undone
          (All-member (λ (x : List ℤ). length x ≡ length term.nest) (points term.nest parameters) u (points-long term.nest parameters) m)
          (All-member (λ (x : List ℤ). length x ≡ length term.nest) (points term.nest parameters) w (points-long term.nest parameters) n)
          (told program term parameters admitted.each term.source u w (place_of program parameters (instance_of term.vertex parameters u)) (place_of program parameters (instance_of term.vertex parameters w))
          at_u at_w at_u.word at_w.word e)

      sound-under : IsSoundUnder program term parameters
      sound-under = record {
        outer = λ front one other long.
            one-instance term.vertex (length program.parameters + term.outer) place parameters front one other holds-outer
            (omega (arith, length-append parameters front, admitted.each, long, length-take-le term.outer term.nest fits.parts.outer));
        each = each;
        apart = distinct-images (word_vertex program term parameters) (points term.nest parameters) one-word (points-differ term.nest parameters);
      }

pub fronts-sound : ValidFrontsAreSound
fronts-sound program place trees term formed trees-fit trees-true fits holds parameters admitted =
    sound-under program place trees term formed trees-fit trees-true fits holds parameters admitted
