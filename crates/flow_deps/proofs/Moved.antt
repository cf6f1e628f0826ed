-- Claims that hold at one place hold at every other.
use Rattle.std.specs.Prelude.{codes}
use Rattle.std.proofs.Common.{◌≡◌, ℕ, suc, List, [], ◌∷◌, ◌++◌}
use Rattle.iolb_model.specs.Form.{AffineForm}
use Rattle.iolb_model.specs.Program.{AffineProgram, statement_at}
use Rattle.affine_form.specs.Multipliers.{FarkasMultipliers}
use Rattle.affine_form.specs.System.{AffineSystem}
use Rattle.claims.specs.Claims.{Claim, AllHold}
use Rattle.claims.proofs.Laws.{AllHold-append, AllHold-left, AllHold-right}
use Rattle.claims.specs.declared.place.Step.{Step}
use Rattle.claims.specs.declared.place.Step.TheVariants.{Key}
use Rattle.dep_quast.specs.Context.{ReadOf, reference_of, variables_at, no_row, context, earlier_writes, writes_between}
use Rattle.claims.specs.Shown.{follow_claims, pointless_claims}
use Rattle.dep_quast.specs.Claims.{context_system, inside_goals, cell_goals, before_goals, point_claims, leaf_claims, claims}
use Rattle.dep_quast.specs.Tree.{SourceClaim, Leaf, source, input, empty, blank, SelectionTree, leaf, test}

follow-moved : (condition : ℕ) (place other : List Step) (system : AffineSystem) (index : ℕ) (goals : List AffineForm) (ms : List FarkasMultipliers)
    → AllHold (follow_claims condition place system index goals ms) → AllHold (follow_claims condition other system index goals ms)
follow-moved condition place other system index [] ms h = tt
follow-moved condition place other system index (g ∷ gs) [] h = tt
follow-moved condition place other system index (g ∷ gs) (m ∷ ms) h = (h.0, follow-moved condition place other system (suc index) gs ms h.1)

pointless-moved : (condition : ℕ) (place other : List Step) (index : ℕ) (systems : List AffineSystem) (ms : List FarkasMultipliers)
    → AllHold (pointless_claims condition place index systems ms) → AllHold (pointless_claims condition other index systems ms)
pointless-moved condition place other index [] ms h = tt
pointless-moved condition place other index (s ∷ ss) [] h = tt
pointless-moved condition place other index (s ∷ ss) (m ∷ ms) h = (h.0, (h.1.0, pointless-moved condition place other (suc index) ss ms h.1.1))

module _ (program : AffineProgram) (reader : ReadOf) where
  abbrev array_claim : List Step → SourceClaim → Claim
  array_claim place claim = record { condition = 4; place = place ++ Key (codes "statement") ∷ []; statement = (statement_at program claim.statement).writes.array ≡ (reference_of program reader).array }

  abbrev inside_claims : List AffineForm → List Step → SourceClaim → List Claim
  inside_claims tests place claim = follow_claims 3 (place ++ Key (codes "domain") ∷ []) (context_system program reader tests) 0 (inside_goals program reader claim) claim.inside

  abbrev cell_claims : List AffineForm → List Step → SourceClaim → List Claim
  cell_claims tests place claim = follow_claims 4 (place ++ Key (codes "cell") ∷ []) (context_system program reader tests) 0 (cell_goals program reader claim) claim.cell

  abbrev before_claims : List AffineForm → List Step → SourceClaim → List Claim
  before_claims tests place claim = follow_claims 5 (place ++ Key (codes "before") ∷ []) (context_system program reader tests) 0 (before_goals program reader claim) claim.before

  abbrev between_claims : List AffineForm → List Step → SourceClaim → List Claim
  between_claims tests place claim = pointless_claims 6 (place ++ Key (codes "between") ∷ []) 0 (writes_between program reader (context program reader tests) claim) claim.between

  point-moved : (tests : List AffineForm) (place other : List Step) (claim : SourceClaim) → AllHold (point_claims program reader (context_system program reader tests) place claim)
      → AllHold (point_claims program reader (context_system program reader tests) other claim)
  point-moved tests place other claim h =
      let most = AllHold-left (inside_claims tests place claim ++ array_claim place claim ∷ cell_claims tests place claim) (before_claims tests place claim) h in
      let later = AllHold-right (inside_claims tests place claim) (array_claim place claim ∷ cell_claims tests place claim) most in
      AllHold-append (inside_claims tests other claim ++ array_claim other claim ∷ cell_claims tests other claim) (before_claims tests other claim)
      (AllHold-append (inside_claims tests other claim) (array_claim other claim ∷ cell_claims tests other claim)
      (follow-moved 3 (place ++ Key (codes "domain") ∷ []) (other ++ Key (codes "domain") ∷ []) (context_system program reader tests) 0 (inside_goals program reader claim) claim.inside
      (AllHold-left (inside_claims tests place claim) (array_claim place claim ∷ cell_claims tests place claim) most))
      (later.0, follow-moved 4 (place ++ Key (codes "cell") ∷ []) (other ++ Key (codes "cell") ∷ []) (context_system program reader tests) 0 (cell_goals program reader claim) claim.cell later.1))
      (follow-moved 5 (place ++ Key (codes "before") ∷ []) (other ++ Key (codes "before") ∷ []) (context_system program reader tests) 0 (before_goals program reader claim) claim.before
      (AllHold-right (inside_claims tests place claim ++ array_claim place claim ∷ cell_claims tests place claim) (before_claims tests place claim) h))

  leaf-moved : (tests : List AffineForm) (place other : List Step) (chosen : Leaf) → AllHold (leaf_claims program reader tests place chosen) → AllHold (leaf_claims program reader tests other chosen)
  leaf-moved tests place other (source claim) h = (
    h.0,
    AllHold-append (point_claims program reader (context_system program reader tests) other claim) (between_claims tests other claim)
        (point-moved tests place other claim (AllHold-left (point_claims program reader (context_system program reader tests) place claim) (between_claims tests place claim) h.1))
        (pointless-moved 6 (place ++ Key (codes "between") ∷ []) (other ++ Key (codes "between") ∷ []) 0 (writes_between program reader (context program reader tests) claim) claim.between
        (AllHold-right (point_claims program reader (context_system program reader tests) place claim) (between_claims tests place claim) h.1)),
  )
  leaf-moved tests place other (input ms) h =
      (h.0, pointless-moved 6 (place ++ Key (codes "input") ∷ []) (other ++ Key (codes "input") ∷ []) 0 (earlier_writes program reader (context program reader tests)) ms h.1)
  leaf-moved tests place other (empty m) h = h
  leaf-moved tests place other blank h = h

  pub tree-moved : (tests : List AffineForm) (place other : List Step) (tree : SelectionTree) → AllHold (claims program reader tests place tree) → AllHold (claims program reader tests other tree)
  tree-moved tests place other (leaf chosen) h = leaf-moved tests place other chosen h
  tree-moved tests place other (test form above below) h =
      let yes : List AffineForm = tests ++ form ∷ [] in
      let not : List AffineForm = tests ++ no_row (variables_at program reader) form ∷ [] in
      AllHold-append (claims program reader yes (other ++ Key (codes "yes") ∷ []) above) (claims program reader not (other ++ Key (codes "no") ∷ []) below)
      (tree-moved yes (place ++ Key (codes "yes") ∷ []) (other ++ Key (codes "yes") ∷ []) above
      (AllHold-left (claims program reader yes (place ++ Key (codes "yes") ∷ []) above) (claims program reader not (place ++ Key (codes "no") ∷ []) below) h))
      (tree-moved not (place ++ Key (codes "no") ∷ []) (other ++ Key (codes "no") ∷ []) below
      (AllHold-right (claims program reader yes (place ++ Key (codes "yes") ∷ []) above) (claims program reader not (place ++ Key (codes "no") ∷ []) below) h))
