-- Valid source trees are true.
use Rattle.std.proofs.Common.{◌≡◌, refl, sym, subst, ℕ, ◌<◌, List, [], ◌∷◌, ◌++◌, length, arith}
use Rattle.std.specs.Prelude.{◌<ℤ◌, if◌then◌else◌, codes}
use Rattle.std.proofs.Math.IntN.{ℤ, pos, negsuc, ◌-ℤ◌, ◌+ℤ◌}
use lib.Signed.{◌≤ℤ◌}
use Rattle.std.proofs.lemmas.Int.{ints}
use Rattle.std.proofs.lemmas.List.{append-nil, length-map}
use Rattle.base_laws.proofs.Lists.{All-append}
use Rattle.iolb_model.specs.Form.{AffineForm, form_value}
use Rattle.iolb_model.specs.Program.{AffineProgram, IsWellFormed, statement_at}
use Rattle.iolb_model.specs.Printed.{is_below_zero}
use Rattle.iolb_model.specs.Bound.{IsAdmitted}
use Rattle.iolb_model.specs.Domain.{IsAt}
use Rattle.execution_laws.proofs.Ordered.{All-member}
use Rattle.claims.specs.declared.place.Step.{Step}
use Rattle.claims.specs.declared.place.Step.TheVariants.{Key}
use Rattle.affine_form.specs.Substitution.{substitution}
use Rattle.affine_form.specs.Shown.{HasNoPoint}
use Rattle.affine_form.specs.System.{AffineSystem, IsMet}
use Rattle.affine_form.proofs.ShownLemmas.{Shows-none}
use Rattle.affine_form.specs.Rows.{put_in, IsSmallOver}
use Rattle.iolb_model.proofs.Forms.{form_value-front}
use Rattle.affine_form.proofs.Meaning.{form_value-difference}
use Rattle.dep_quast.specs.Tree.{SourceClaim, Leaf, source, input, empty, blank, SelectionTree, leaf, test, leaf_at}
use Rattle.dep_quast.specs.Context.{ReadOf, reference_of, variables_at, no_row, context, reader_point, parameter_point, earlier_writes, writes_between}
use Rattle.dep_quast.specs.Claims.{claims, leaf_claims, source_claims, first_shown, context_system, inside_goals, cell_goals, before_goals}
use Rattle.claims.specs.Shown.{follow_claims, pointless_claims, IsFew}
use Rattle.claims.specs.Claims.{AllHold, Claim}
use Rattle.dep_quast.specs.Truth.{IsTrueLeaf, SourceFits, LeafFits, FitsUnder, ReadFits, ValidTreesAreTrue}
use Rattle.dep_quast.proofs.Fits.{ranks-same, equality_rows-few}
use Rattle.claims.proofs.Systems.{goals-met, none-met}
use Rattle.claims.proofs.Laws.{AllHold-left, AllHold-right}
use Rattle.dep_quast.proofs.LastSources.{point-count, context-met, no_earlier, source-place, source-cell, source-before, source-last}
use Rattle.affine_program.proofs.Domains.{domain_rows-few}

module _ (program : AffineProgram) (reader : ReadOf) (parameters : List ℤ) (place : ℕ) (values : List ℤ) (well : IsWellFormed program)
    (admitted : IsAdmitted program parameters) (there : ReadFits program reader) (here : IsAt program parameters place (record { statement = reader.statement; values = values })) where
  -- a source whose claims hold is the last write
  source-true : (tests : List AffineForm) (at : List Step) (claim : SourceClaim) → ((rest : List ℤ) → IsMet tests ((parameters ++ values) ++ rest))
      → SourceFits program reader tests claim → AllHold (source_claims program reader tests at claim) → IsTrueLeaf program parameters reader place values (source claim)
  source-true tests at claim met fits h =
      let system : AffineSystem = context_system program reader tests in
      let point : List ℤ = parameters ++ values in
      let here_met : IsMet system.rows point = subst (IsMet system.rows) (append-nil point) (context-met program reader parameters place values well admitted there.statement here tests met []) in
      let inside : List Claim = record { condition = 2; place = first_shown at claim.inside claim.cell claim.before; statement = IsFew (length system.rows) }
      ∷ follow_claims 3 (at ++ Key (codes "domain") ∷ []) system 0 (inside_goals program reader claim) claim.inside in
      let cells : List Claim = record { condition = 4; place = at ++ Key (codes "statement") ∷ []; statement = (statement_at program claim.statement).writes.array ≡ (reference_of program reader).array }
      ∷ follow_claims 4 (at ++ Key (codes "cell") ∷ []) system 0 (cell_goals program reader claim) claim.cell in
      let before : List Claim = follow_claims 5 (at ++ Key (codes "before") ∷ []) system 0 (before_goals program reader claim) claim.before in
      let between : List Claim = pointless_claims 6 (at ++ Key (codes "between") ∷ []) 0 (writes_between program reader (context program reader tests) claim) claim.between in
      let first_three = AllHold-left (inside ++ cells ++ before) between h in
      let last = AllHold-right (inside ++ cells ++ before) between h in
      let first_two = AllHold-left (inside ++ cells) before first_three in
      let third = AllHold-right (inside ++ cells) before first_three in
      let first = AllHold-left inside cells first_two in
      let second = AllHold-right inside cells first_two in
      let arrays : (statement_at program claim.statement).writes.array ≡ (reference_of program reader).array = second.0 in
      let found = source-place program reader parameters place values well admitted there.statement here claim fits.there.statement fits.there.point
      (goals-met 3 (at ++ Key (codes "domain") ∷ []) system 0 (inside_goals program reader claim) claim.inside point
      (omega (arith, fits.lists.inside, domain_rows-few program claim.statement (variables_at program reader) (parameter_point program (variables_at program reader)) claim.point)) first.1 here_met) in
      let same_cells = source-cell program reader parameters place values well admitted there.statement here claim (ranks-same program reader claim.statement well there fits.there.statement arrays) arrays
      (goals-met 4 (at ++ Key (codes "cell") ∷ []) system 0 (cell_goals program reader claim) claim.cell point
      (omega (
        arith,
        fits.lists.cell,
        length-map (reference_of program reader).subscripts (λ form. substitution form (reader_point program reader (variables_at program reader))),
        equality_rows-few (variables_at program reader) (put_in (parameter_point program (variables_at program reader) ++ claim.point) (statement_at program claim.statement).writes.subscripts)
            (put_in (reader_point program reader (variables_at program reader)) (reference_of program reader).subscripts),
      )) second.1 here_met) in
      let less : found.0 < place = source-before program reader parameters place values well admitted there.statement here claim found.0 fits.there.statement fits.there.level fits.there.point
      (goals-met 5 (at ++ Key (codes "before") ∷ []) system 0 (before_goals program reader claim) claim.before point (omega (arith, fits.lists.before)) third here_met) found.1 in (
        found.0,
        (
          found.1,
          source-last program reader parameters place values well admitted there.statement here tests claim found.0 met fits.there.forms
              (λ written m. All-member HasNoPoint (writes_between program reader (context program reader tests) claim) written (none-met 6 (at ++ Key (codes "between") ∷ []) 0 (writes_between program reader (context program reader tests) claim) claim.between (omega (arith, fits.lists.between)) last) m)
              found.1 less same_cells,
        ),
      )

  leaf-true : (tests : List AffineForm) (at : List Step) (chosen : Leaf) → ((rest : List ℤ) → IsMet tests ((parameters ++ values) ++ rest))
      → LeafFits program reader tests chosen → AllHold (leaf_claims program reader tests at chosen) → IsTrueLeaf program parameters reader place values chosen
  leaf-true tests at (source claim) met fits h = source-true tests at claim met fits h
  leaf-true tests at (input shown) met fits h =
      no_earlier program reader parameters place values well admitted there.statement here tests met
      (λ written m. All-member HasNoPoint (earlier_writes program reader (context program reader tests)) written (none-met 6 (at ++ Key (codes "input") ∷ []) 0 (earlier_writes program reader (context program reader tests)) shown (omega (arith, fits)) h.1) m)
  leaf-true tests at (empty shown) met fits h =
      Shows-none (context_system program reader tests) shown h.1.0.0 h.1.0.1 (parameters ++ values)
      (subst (IsMet (context program reader tests)) (append-nil (parameters ++ values)) (context-met program reader parameters place values well admitted there.statement here tests met []))
  leaf-true tests at blank met fits h = tt

  above-row : (tests : List AffineForm) (form : AffineForm) → ((rest : List ℤ) → IsMet tests ((parameters ++ values) ++ rest)) → IsSmallOver (variables_at program reader) form
      → pos 0 ≤ℤ form_value form (parameters ++ values) → (rest : List ℤ) → IsMet (tests ++ form ∷ []) ((parameters ++ values) ++ rest)
  above-row tests form met over h rest =
      All-append (λ row. pos 0 ≤ℤ form_value row ((parameters ++ values) ++ rest)) tests (form ∷ []) (met rest)
      (subst (λ (z : ℤ). pos 0 ≤ℤ z) (sym (form_value-front form (parameters ++ values) rest (omega (arith, over.over, point-count program reader parameters place values well admitted there.statement here)))) h, tt)

  below-row : (tests : List AffineForm) (form : AffineForm) → ((rest : List ℤ) → IsMet tests ((parameters ++ values) ++ rest)) → IsSmallOver (variables_at program reader) form
      → form_value form (parameters ++ values) <ℤ pos 0 → (rest : List ℤ) → IsMet (tests ++ no_row (variables_at program reader) form ∷ []) ((parameters ++ values) ++ rest)
  below-row tests form met over h rest =
      All-append (λ row. pos 0 ≤ℤ form_value row ((parameters ++ values) ++ rest)) tests (no_row (variables_at program reader) form ∷ []) (met rest) (
        opposite (form_value form (parameters ++ values)) (form_value form ((parameters ++ values) ++ rest)) (form_value (no_row (variables_at program reader) form) ((parameters ++ values) ++ rest))
            (form_value-front form (parameters ++ values) rest (omega (arith, over.over, point-count program reader parameters place values well admitted there.statement here)))
            (form_value-difference (variables_at program reader) (record { coefficients = []; constant = pos 0 }) form (negsuc 0) ((parameters ++ values) ++ rest)) h,
        tt,
      ) where
        opposite : (v w r : ℤ) → w ≡ v → r ≡ (pos 0 -ℤ w) +ℤ negsuc 0 → v <ℤ pos 0 → pos 0 ≤ℤ r
        opposite v w r p q less = omega (arith, ints)

  tree-true : (tests : List AffineForm) (at : List Step) (tree : SelectionTree) → ((rest : List ℤ) → IsMet tests ((parameters ++ values) ++ rest))
      → FitsUnder program reader tests tree → AllHold (claims program reader tests at tree) → IsTrueLeaf program parameters reader place values (leaf_at tree (parameters ++ values))
  tree-true tests at (leaf chosen) met fits h = leaf-true tests at chosen met fits h
  tree-true tests at (test form above below) met fits h =
      choose (form_value form (parameters ++ values)) refl
      (λ more. tree-true (tests ++ form ∷ []) (at ++ Key (codes "yes") ∷ []) above more fits.1
      (AllHold-left (claims program reader (tests ++ form ∷ []) (at ++ Key (codes "yes") ∷ []) above) (claims program reader (tests ++ no_row (variables_at program reader) form ∷ []) (at ++ Key (codes "no") ∷ []) below) h))
      (λ more. tree-true (tests ++ no_row (variables_at program reader) form ∷ []) (at ++ Key (codes "no") ∷ []) below more fits.2
      (AllHold-right (claims program reader (tests ++ form ∷ []) (at ++ Key (codes "yes") ∷ []) above) (claims program reader (tests ++ no_row (variables_at program reader) form ∷ []) (at ++ Key (codes "no") ∷ []) below) h)) where
        choose : (v : ℤ) → v ≡ form_value form (parameters ++ values)
            → (((rest : List ℤ) → IsMet (tests ++ form ∷ []) ((parameters ++ values) ++ rest)) → IsTrueLeaf program parameters reader place values (leaf_at above (parameters ++ values)))
            → (((rest : List ℤ) → IsMet (tests ++ no_row (variables_at program reader) form ∷ []) ((parameters ++ values) ++ rest)) → IsTrueLeaf program parameters reader place values (leaf_at below (parameters ++ values)))
            → IsTrueLeaf program parameters reader place values (if is_below_zero v then leaf_at below (parameters ++ values) else leaf_at above (parameters ++ values))
        choose (pos n) e up down = up (above-row tests form met fits.0 (omega (arith, ints)))
        choose (negsuc n) e up down = down (below-row tests form met fits.0 (omega (arith, ints)))

pub trees-true : ValidTreesAreTrue
trees-true program reader at tree well there fits valid parameters place values admitted here =
    tree-true program reader parameters place values well admitted there here [] at tree (λ rest. tt) fits valid
