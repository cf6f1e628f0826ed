-- From the checks of terms to what holds of their branch, and from those of branches to the bound.
use Rattle.std.proofs.Common.{◌≡◌, ◌∙◌, ℕ, ◌≤◌, max, List, [], ◌∷◌, length, map, arith}
use Rattle.std.specs.Prelude.{fold, pos, ◌*ℤ◌, ℤ}
use Rattle.std.specs.List.{AllByRecursion, AllZip}
use Rattle.iolb_model.specs.declared.game.Move.{Move}
use Rattle.iolb_model.specs.Bound.{AreMet, IsAdmitted, BoundTerm, branch_value}
use Rattle.iolb_model.specs.Game.{IsCompletePebbling, loads}
use Rattle.iolb_model.specs.Graph.{computation_graph}
use Rattle.iolb_model.specs.Headline.{BoundHolds}
use Rattle.iolb_model.specs.Footprint.{Footprint, AreDisjoint, ArePairwiseDisjoint, CostTheirValues, ValuesAddUp}
use Rattle.pebble_game.proofs.BranchLoads.{branches_loaded}
use Rattle.affine_program.specs.Parts.{ProgramParts, meaning}
use Rattle.dep_quast.specs.Tree.{SelectionTree}
use Rattle.poly_tree.specs.Poly.{Quotient, numerator_at}
use Rattle.footprint_pieces.specs.Pieces.{FootprintPiece, AreApartPieces, AreCovered, ArePairwiseApart}
use Rattle.iolb_check.specs.declared.bound.Value.{Value}
use Rattle.iolb_check.specs.declared.term.Branch.{Branch}
use Rattle.iolb_check.specs.declared.term.Term.{Term}
use Rattle.iolb_check.specs.Bounds.{BoundParts, IsBound, IsTermValue, bound_of, terms_of}
use Rattle.iolb_check.specs.Claims.{claim_of_term}
use Rattle.iolb_check.specs.Conditions.{branch_pieces, term_pieces}
use Rattle.iolb_check.specs.Holds.{BranchHolds, BranchesHold, TermHolds, TermsHold}
use Rattle.iolb_check.specs.Sound.{IsCounted, IsPaid, term_vertices}
use Rattle.iolb_check.proofs.Lists.{zip-weaken}

-- the values of a polynomial that counts something at all admitted parameter values are whole
pub whole : (program : ProgramParts) (number : List ℤ → ℕ) (q : Quotient) → program.assumed.vars ≡ length program.params
    → ((values : List ℤ) → IsAdmitted (meaning program) values → numerator_at q values ≡ pos (number values) *ℤ pos q.denominator)
    → (values : List ℤ) → length values ≡ program.assumed.vars → AreMet program.assumed.rows values → (n : ℕ) × (numerator_at q values ≡ pos n *ℤ pos q.denominator)
whole program number q kept counts values many met = (number values, counts values (record { each = many ∙ kept; met = met }))

pub is-bound : (program : ProgramParts) (branches : List Branch) (values : List (List Value)) → BranchesHold program branches values
    → IsBound (record { assumed = program.assumed; branches = values })
is-bound program [] [] h = tt
is-bound program [] (v ∷ values) h = absurd h
is-bound program (b ∷ branches) [] h = absurd h
is-bound program (b ∷ branches) (v ∷ values) h = (h.0.counting, is-bound program branches values h.1)

-- ---- a branch whose terms hold, and whose pieces are apart

module _ (program : ProgramParts) (trees : List (List SelectionTree)) where
  all-count : (terms : List Term) (values : List Value) → TermsHold program trees terms values → AllByRecursion (IsTermValue program.assumed) values
  all-count [] [] h = tt
  all-count [] (value ∷ values) h = absurd h
  all-count (term ∷ terms) [] h = absurd h
  all-count (term ∷ terms) (value ∷ values) h = (h.0.counting, all-count terms values h.1)

  abbrev pieces_of : List Term → List (List FootprintPiece)
  pieces_of terms = branch_pieces (meaning program) trees (map claim_of_term terms)

  abbrev vertices_at : List ℤ → List Term → List (List ℕ)
  vertices_at at terms = map (λ (f : Footprint). f at) (map (term_vertices program) terms)

  module _ (at : List ℤ) (admitted : IsAdmitted (meaning program) at) where
    later-apart : (pieces : List FootprintPiece) (footprint : Footprint) → AreCovered (meaning program) footprint pieces → (terms : List Term) (values : List Value)
        → TermsHold program trees terms values → AllByRecursion (AreApartPieces (meaning program) pieces) (pieces_of terms) → AllByRecursion (AreDisjoint (footprint at)) (vertices_at at terms)
    later-apart pieces footprint covered [] values h apart = tt
    later-apart pieces footprint covered (term ∷ terms) [] h apart = absurd h
    later-apart pieces footprint covered (term ∷ terms) (value ∷ values) h apart = (
      λ vertex here there. apart.0 at vertex admitted (covered at vertex admitted here) (h.0.covered at vertex admitted there),
      later-apart pieces footprint covered terms values h.1 apart.1,
    )

    pairwise : (terms : List Term) (values : List Value) → TermsHold program trees terms values → ArePairwiseApart (meaning program) (pieces_of terms) → ArePairwiseDisjoint (vertices_at at terms)
    pairwise [] values h apart = tt
    pairwise (term ∷ terms) [] h apart = absurd h
    pairwise (term ∷ terms) (value ∷ values) h apart =
        (later-apart (term_pieces (meaning program) trees (claim_of_term term)) (term_vertices program term) h.0.covered terms values h.1 apart.0, pairwise terms values h.1 apart.1)

  pub branch-holds : (branch : Branch) (values : List Value) → TermsHold program trees branch.terms.items values → ArePairwiseApart (meaning program) (pieces_of branch.terms.items)
      → BranchHolds program branch values
  branch-holds branch values h apart = record {
    paid = zip-weaken (TermHolds program trees) (IsPaid program) (λ term value is. is.paid) branch.terms.items values h;
    counted = zip-weaken (TermHolds program trees) (IsCounted program) (λ term value is. is.counted) branch.terms.items values h;
    counting = all-count branch.terms.items values h;
    apart = λ at admitted. pairwise at admitted branch.terms.items values h apart;
  }

-- ---- the bound

-- what terms cost are the values of the bound's terms
costs : (program : ProgramParts) (terms : List Term) (values : List Value) → AllZip (IsPaid program) terms values
    → CostTheirValues (meaning program) (terms_of values) (map (term_vertices program) terms)
costs program [] [] h = tt
costs program [] (value ∷ values) h = absurd h
costs program (term ∷ terms) [] h = absurd h
costs program (term ∷ terms) (value ∷ values) h = (h.0, costs program terms values h.1)

adds-up : (program : ProgramParts) (branch : Branch) (values : List Value) → BranchHolds program branch values → ValuesAddUp (meaning program) (terms_of values)
adds-up program branch values h = record {
  footprints = map (term_vertices program) branch.terms.items;
  each = costs program branch.terms.items values h.paid;
  apart = h.apart;
}

greatest : (program : ProgramParts) (values : List ℤ) (s : ℕ) (moves : List Move) → IsAdmitted (meaning program) values → 1 ≤ s
    → IsCompletePebbling (computation_graph (meaning program) values) s moves → (n : ℕ) (branches : List Branch) (given : List (List Value)) → n ≤ loads moves → BranchesHold program branches given
    → fold max n (map (λ (terms : List BoundTerm). branch_value terms values s) (map terms_of given)) ≤ loads moves
greatest program values s moves admitted some game n [] [] le h = le
greatest program values s moves admitted some game n [] (g ∷ given) le h = absurd h
greatest program values s moves admitted some game n (b ∷ branches) [] le h = absurd h
greatest program values s moves admitted some game n (b ∷ branches) (g ∷ given) le h =
    greatest program values s moves admitted some game (max n (branch_value (terms_of g) values s)) branches given
    (both n (branch_value (terms_of g) values s) le (branches_loaded (meaning program) (terms_of g) values s moves (adds-up program b g h.0) admitted some game)) h.1 where
      both : (x y : ℕ) → x ≤ loads moves → y ≤ loads moves → max x y ≤ loads moves
      both x y p q = omega (arith, p, q)

-- branches that hold make a bound that holds
pub bound-holds : (program : ProgramParts) (parts : BoundParts) (branches : List Branch) → BranchesHold program branches parts.branches → BoundHolds (meaning program) (bound_of parts)
bound-holds program parts branches h values s moves admitted some game = greatest program values s moves admitted some game 0 branches parts.branches (omega arith) h
