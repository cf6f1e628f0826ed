-- Cold terms cost their count.
use Rattle.std.specs.Prelude.{codes}
use Rattle.std.proofs.Common.{sym, subst, ℕ, ◌≤◌, List, [], ◌∷◌, ◌++◌, length, map, arith}
use Rattle.std.specs.List.{AllByRecursion, IsDistinct}
use Rattle.std.proofs.Math.IntN.{ℤ}
use Rattle.std.proofs.lemmas.List.{length-map}
use Rattle.std.proofs.lemmas.Simd.{map-map}
use Rattle.base_laws.proofs.Lists.{All-weaken, All-map}
use Rattle.iolb_model.specs.Form.{AffineForm}
use Rattle.iolb_model.specs.Path.{PathStep, row_path}
use Rattle.iolb_model.specs.Program.{AffineProgram, IsWellFormed}
use Rattle.iolb_model.specs.Bound.{IsAdmitted}
use Rattle.iolb_model.specs.Source.{same_cell, read_cell}
use Rattle.iolb_model.specs.Game.{loads_of}
use Rattle.pebble_game.specs.Cold.{ReadsInput}
use Rattle.iolb_model.specs.Domain.{IsWithin, IsAt, LeadAlong}
use Rattle.execution_laws.proofs.Domains.{domains_executed, way-there}
use Rattle.pebble_game.proofs.InputVertices.{each_read_loaded, input_reads_loaded, input_reads_vertices}
use Rattle.claims.specs.declared.place.Step.{Step}
use Rattle.claims.specs.declared.place.Step.TheVariants.{Key}
use Rattle.affine_form.specs.System.{IsMet}
use Rattle.affine_form.specs.Rows.{variables_from}
use Rattle.affine_form.proofs.RowLemmas.{length-variables}
use Rattle.affine_form.proofs.Meaning.{values-front}
use Rattle.affine_program.specs.Domain.{path_of}
use Rattle.dep_quast.specs.Tree.{SelectionTree}
use Rattle.dep_quast.specs.Truth.{IsTrueTree}
use Rattle.execution_laws.proofs.Ways.{holds-there}
use Rattle.claims.proofs.Systems.{goals-met}
use Rattle.affine_program.proofs.Domains.{domain_rows-few, domain_rows-says}
use Rattle.domain_count.specs.Points.{points}
use Rattle.wavefront.specs.Term.{ColdTerm, nest_variables, nest_system, instance_point, inside_goals, cell_forms}
use Rattle.wavefront.specs.Loads.{ColdFits, ColdTermsAreLoaded, ColdWordsAreLoaded, IsSoundCold, SoundColdsAreLoaded, instance_values, all_instances, footprint_of}
use Rattle.claims.specs.Claims.{Claim, AllHold}
use Rattle.claims.proofs.Laws.{AllHold-left, AllHold-right}
use Rattle.wavefront.specs.Leaves.{inside_claims, term_leaves}
use Rattle.wavefront.specs.ColdClaims.{matrix_claims, instance_claims}
use Rattle.wavefront.proofs.InverseClaims.{hold-undone}
use Rattle.reuse_paths.proofs.NestPoints.{points-within, points-long, points-differ, nest-met}
use Rattle.wavefront.proofs.ColdLeaves.{tree-input}
use Rattle.wavefront.proofs.ColdCells.{CellsAreUndone, instance-at, cells-differ}

module _ (program : AffineProgram) (place : List Step) (tree : SelectionTree) (term : ColdTerm) (formed : IsWellFormed program) (fits : ColdFits program tree term)
    (true_tree : IsTrueTree program term.reader tree) (holds : AllHold (instance_claims program place tree term)) (values : List ℤ) (admitted : IsAdmitted program values) where
  abbrev matrix : List Claim
  matrix = matrix_claims program place term

  -- what holds, part by part
  holds-inside : AllHold (inside_claims program place term)
  holds-inside = AllHold-left (inside_claims program place term) (term_leaves program place tree term)
      (AllHold-left (inside_claims program place term ++ term_leaves program place tree term) matrix holds)

  holds-leaves : AllHold (term_leaves program place tree term)
  holds-leaves = AllHold-right (inside_claims program place term) (term_leaves program place tree term)
      (AllHold-left (inside_claims program place term ++ term_leaves program place tree term) matrix holds)

  holds-undone : CellsAreUndone program term
  holds-undone = hold-undone term.matrix term.scale (length program.parameters) (length term.nest) (cell_forms program term) place (AllHold-right (inside_claims program place term ++ term_leaves program place tree term) matrix holds)

  -- a point's instance reads an input
  reads : (u : List ℤ) → IsWithin term.nest values u → ReadsInput program values term.reader.statement term.reader.read (instance_values term values u)
  reads u within =
      let vars : ℕ = nest_variables program term in
      let at : List ℤ = values ++ u in
      let met : IsMet (nest_system program term).rows at = nest-met program term.nest values u formed admitted within in
      let params : List AffineForm = variables_from vars 0 (length program.parameters) in
      let path : List PathStep = path_of program term.reader.statement in
      let goals : IsMet (inside_goals program term) at =
      goals-met 10 (place ++ Key (codes "inside") ∷ []) (nest_system program term) 0 (inside_goals program term) term.inside at
      (omega (arith, fits.parts.inside, domain_rows-few program term.reader.statement vars params term.point)) holds-inside met in
      let inside : LeadAlong path values (instance_values term values u) =
      subst (λ (q : List ℤ). LeadAlong path q (instance_values term values u)) (values-front vars (length program.parameters) values u (sym admitted.each) (omega arith))
      (domain_rows-says program term.reader.statement vars params term.point at formed (length-variables vars 0 (length program.parameters)) fits.parts.point goals) in
      let there : (n : ℕ) × IsAt program values n (record { statement = term.reader.statement; values = instance_values term values u }) =
      (domains_executed program values (record { statement = term.reader.statement; values = instance_values term values u }) formed).1
      (holds-there (row_path program.tree term.reader.statement) (λ p. LeadAlong p values (instance_values term values u)) (way-there program term.reader.statement formed fits.parts.read.statement) inside) in
      record {
        there = fits.parts.read.read;
        place = there.0;
        executed = there.1;
        source = tree-input program term.reader values there.0 (instance_values term values u) vars (nest_system program term).rows (instance_point program term) (place ++ Key (codes "leaves") ∷ []) at met
            (instance-at program term values u admitted.each) 0 [] tree term.leaves (omega (arith, fits.leaves)) holds-leaves tt (true_tree values there.0 (instance_values term values u) admitted there.1);
      }

  pub all-read : AllByRecursion (ReadsInput program values term.reader.statement term.reader.read) (all_instances term values)
  all-read = All-map (ReadsInput program values term.reader.statement term.reader.read) (instance_values term values) (points term.nest values)
      (All-weaken (λ (u : List ℤ). IsWithin term.nest values u) (λ (u : List ℤ). ReadsInput program values term.reader.statement term.reader.read (instance_values term values u)) (points term.nest values) reads (points-within term.nest values))

  pub all-differ : IsDistinct same_cell (map (read_cell program values term.reader.statement term.reader.read) (all_instances term values))
  all-differ = subst (IsDistinct same_cell) (sym (map-map (read_cell program values term.reader.statement term.reader.read) (instance_values term values) (points term.nest values)))
      (cells-differ program term values admitted.each fits.parts.scale holds-undone (points term.nest values) (points-differ term.nest values)
      (points-long term.nest values))

pub sound-colds-loaded : SoundColdsAreLoaded
sound-colds-loaded program term sound = (
  λ values admitted. input_reads_vertices program values term.reader.statement term.reader.read (all_instances term values) (sound values admitted).0,
  λ values s moves admitted game.
      subst (λ (n : ℕ). n ≤ loads_of (footprint_of program term values) moves) (length-map (points term.nest values) (instance_values term values))
      (input_reads_loaded program values term.reader.statement term.reader.read (all_instances term values) s moves game (sound values admitted).0 (sound values admitted).1),
)

pub cold-words-loaded : ColdWordsAreLoaded
cold-words-loaded program term values s moves sound admitted game =
    each_read_loaded program values term.reader.statement term.reader.read (all_instances term values) s moves game (sound values admitted).0

pub cold-terms-loaded : ColdTermsAreLoaded
cold-terms-loaded program place tree term formed fits true_tree holds =
    let sound : IsSoundCold program term = λ values admitted.
    (all-read program place tree term formed fits true_tree holds values admitted, all-differ program place tree term formed fits true_tree holds values admitted) in
    let costs = sound-colds-loaded program term sound in
    (sound, costs.0, costs.1)
