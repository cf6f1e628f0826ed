-- Certificates whose text is kept short.
use Rattle.std.specs.Prelude.{◌≡◌, ◌⊎◌, ◌≤◌, ℕ, true, false, List, [], ◌∷◌, length, Option, None, Some}
use Rattle.std.specs.List.{list_any}
use Rattle.iolb_model.specs.Program.{AffineProgram}
use Rattle.dep_quast.specs.Context.{ReadOf, reference_of}
use Rattle.dep_quast.specs.Tree.{SelectionTree, leaf, blank}
use Rattle.dep_quast.specs.Truth.{ReadFits}
use Rattle.dep_quast.specs.Quasts.{tree_for, trees_of}
use Rattle.dep_quast.specs.declared.quasts.Quasts.{Quasts}
use Rattle.iolb_check.specs.declared.term.Term.{Term}
use Rattle.iolb_check.specs.declared.term.Branch.{Branch}
use Rattle.iolb_check.specs.Limits.{CertificateParts}
use Rattle.find_terms.specs.Trees.{is_of_read, is_written}
use Rattle.find_terms.specs.declared.accepted.Accepted.{Accepted}

-- the source trees of reads of arrays that a statement writes are blank, but for those of reads that cold terms name
abbrev pub AreShortTrees : AffineProgram → List Term → List (List SelectionTree) → Type 0
AreShortTrees program terms trees = (reader : ReadOf) → ReadFits program reader → is_written program (reference_of program reader).array ≡ true
    → list_any (is_of_read reader) terms ≡ false → tree_for trees reader ≡ leaf blank

-- one branch at most, and such source trees for it
abbrev pub AreShortParts : AffineProgram → List Branch → List (List SelectionTree) → Type 0
AreShortParts program [] trees = AreShortTrees program [] trees
AreShortParts program (branch ∷ []) trees = AreShortTrees program branch.terms.items trees
AreShortParts program (branch ∷ (other ∷ branches)) trees = ⊥

-- A text has at most so many bytes, or nothing more of the certificate can be left out.
abbrev pub IsShort : AffineProgram → ℕ → Accepted → Type 0
IsShort program most accepted = (length accepted.text.items ≤ most) ⊎ AreShortParts program accepted.certificate.branches (trees_of accepted.certificate.quasts)

-- the certificate of source trees and the opening branch, where there is one
abbrev pub opened_parts : Quasts → Option Branch → CertificateParts
opened_parts quasts None = record { quasts = quasts; branches = [] }
opened_parts quasts (Some branch) = record { quasts = quasts; branches = branch ∷ [] }

-- its terms
abbrev pub opening_terms : Option Branch → List Term
opening_terms None = []
opening_terms (Some branch) = branch.terms.items
