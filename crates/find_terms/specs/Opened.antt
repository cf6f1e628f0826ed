-- Certificates that begin with the opening branch.
use Rattle.std.specs.Prelude.{◌≡◌, ◌≤◌, ◌⊎◌, ⊤, true, List, ◌∷◌, length, Option, None, Some}
use Rattle.std.specs.List.{AllByRecursion}
use Rattle.iolb_model.specs.Program.{AffineProgram}
use Rattle.dep_quast.specs.Context.{ReadOf}
use Rattle.dep_quast.specs.Tree.{SelectionTree}
use Rattle.iolb_check.specs.declared.term.Term.{Term}
use Rattle.iolb_check.specs.declared.term.Term.TheVariants as terms
use Rattle.iolb_check.specs.declared.term.Branch.{Branch}
use Rattle.find_terms.specs.Openings.{IsOpeningBranch, IsPlainRead}
use Rattle.projective_bounds.specs.HeldColds.{reader_of}
use Rattle.find_terms.specs.Trees.{HasTrees, is_named}
use Rattle.find_terms.specs.declared.trees.Scope.{Scope}

-- The first of the branches is the opening branch, and has a term; or no read of the program is plain.
abbrev pub BeginsWithOpening : AffineProgram → List Branch → Type 0
BeginsWithOpening program branches = ((reader : ReadOf) → ¬ IsPlainRead program reader)
    ⊎ ((first : Branch) × (later : List Branch) × (branches ≡ first ∷ later) × IsOpeningBranch program first × (1 ≤ length first.terms.items))

-- the read of a cold term is named
abbrev pub NamesTerm : Scope → Term → Type 0
NamesTerm scope (terms.Cold cold) = is_named scope (reader_of cold) ≡ true
NamesTerm scope (terms.Partition partition) = ⊤
NamesTerm scope (terms.Wavefront front) = ⊤
NamesTerm scope (terms.Joint joint) = ⊤

-- each read of a branch is named
abbrev pub NamesBranch : Scope → Option Branch → Type 0
NamesBranch scope None = ⊤
NamesBranch scope (Some branch) = AllByRecursion (NamesTerm scope) branch.terms.items

-- source trees of all reads, plain ones of those that a branch names, where they have such
abbrev pub HasTreesFor : AffineProgram → Option Branch → List (List SelectionTree) → Type 0
HasTreesFor program opening trees = (scope : Scope) × HasTrees program scope trees × NamesBranch scope opening
