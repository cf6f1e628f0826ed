-- What a cold term claims at the leaves of a source tree.
use Rattle.std.specs.Prelude.{◌≡◌, ℕ, suc, Bool, true, List, [], ◌∷◌, ◌++◌, length, codes}
use Rattle.iolb_model.specs.Form.{AffineForm}
use Rattle.iolb_model.specs.Program.{AffineProgram}
use Rattle.claims.specs.declared.place.Step.{Step}
use Rattle.claims.specs.declared.place.Step.TheVariants.{Key, Index}
use Rattle.affine_form.specs.System.{AffineSystem}
use Rattle.claims.specs.Shown.{IsFew, IsPointless, follow_claims}
use Rattle.claims.specs.Claims.{Claim}
use Rattle.dep_quast.specs.Tree.{SelectionTree}
use Rattle.reuse_paths.specs.LeafClaims.{LeafClaim, no_point, stops, is_credited, goes_on, arrives}
use Rattle.dep_quast.specs.OpenLeaves.{OpenLeaf, is_input, open_leaves}
use Rattle.wavefront.specs.Term.{ColdTerm, nest_variables, nest_system, instance_point, inside_goals}

-- A leaf costs nothing or is an input: multipliers show that no point comes there, or it is an input at which a walk stops.
abbrev pub IsClosed : AffineSystem → Bool → LeafClaim → Type 0
IsClosed system is_input (no_point shown) = IsPointless system shown
IsClosed system is_input (stops label) = is_input ≡ true
IsClosed system is_input (is_credited credit rows label) = ⊥
IsClosed system is_input (goes_on rows label) = ⊥
IsClosed system is_input (arrives equal) = ⊥

-- the claim at a leaf (condition 11)
abbrev pub leaf_claim : List Step → AffineSystem → Bool → LeafClaim → Claim
leaf_claim place system is_input entry = record { condition = 11; place = place; statement = IsClosed system is_input entry }

-- what is claimed at leaves, one after another, each by an entry of a list at this place; and that the systems have few
-- rows (condition 2)
abbrev pub leaves_claims : ℕ → List AffineForm → List Step → ℕ → List OpenLeaf → List LeafClaim → List Claim
leaves_claims vars rows place index [] entries = []
leaves_claims vars rows place index (l ∷ leaves) [] = []
leaves_claims vars rows place index (l ∷ leaves) (entry ∷ entries) =
    record { condition = 2; place = place ++ Index index ∷ []; statement = IsFew (length (rows ++ l.tests)) }
    ∷ leaf_claim (place ++ Index index ∷ []) (record { vars = vars; rows = rows ++ l.tests }) (is_input l.origin) entry
    ∷ leaves_claims vars rows place (suc index) leaves entries

-- that the reading instance is in its statement's domain (condition 10)
abbrev pub inside_claims : AffineProgram → List Step → ColdTerm → List Claim
inside_claims program place term = follow_claims 10 (place ++ Key (codes "inside") ∷ []) (nest_system program term) 0 (inside_goals program term) term.inside

-- what a cold term claims at the leaves of its read's source tree
abbrev pub term_leaves : AffineProgram → List Step → SelectionTree → ColdTerm → List Claim
term_leaves program place tree term =
    let vars = nest_variables program term in
    leaves_claims vars (nest_system program term).rows (place ++ Key (codes "leaves") ∷ []) 0 (open_leaves vars (instance_point program term) [] tree) term.leaves
