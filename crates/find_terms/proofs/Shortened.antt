-- Certificates whose text is kept short.
use Rattle.std.proofs.Common.{◌≡◌, sym, ◌∙◌, ap, subst, Bool, true, false, List, Bor, not}
use Rattle.std.specs.Prelude.{◌||◌, Option, None, Some}
use Rattle.std.specs.List.{list_any}
use Rattle.iolb_model.specs.Program.{AffineProgram}
use Rattle.dep_quast.specs.Context.{reference_of}
use Rattle.dep_quast.specs.Tree.{SelectionTree}
use Rattle.dep_quast.specs.Quasts.{trees_of}
use Rattle.dep_quast.specs.declared.quasts.Quasts.{Quasts}
use Rattle.iolb_check.specs.declared.term.Term.{Term}
use Rattle.iolb_check.specs.declared.term.Branch.{Branch}
use Rattle.iolb_check.specs.Limits.{CertificateParts}
use Rattle.find_terms.specs.Shortened.{AreShortParts, AreShortTrees, opened_parts, opening_terms}
use Rattle.find_terms.specs.Trees.{HasTrees, is_of_read, is_written}
use Rattle.find_terms.specs.declared.trees.Scope.TheVariants.{Few}
use Rattle.find_terms.proofs.Opened.{tree-stands}

-- trees that are looked for only of unwritten arrays and of named reads
pub few-short : (program : AffineProgram) (slice : Bor (List Term)) (terms : List Term) (trees : List (List SelectionTree)) → slice.now ≡ terms → HasTrees program (Few slice) trees → AreShortTrees program terms trees
few-short program slice terms trees same has reader fits written unnamed =
    (tree-stands program (Few slice) reader trees fits has).unsought
    (ap (λ (b : Bool). b || not (is_written program (reference_of program reader).array)) (ap (list_any (is_of_read reader)) same ∙ unnamed) ∙ ap not written)

-- the same where they are those of an opening branch, if there is one
pub opening-short : (program : AffineProgram) (opening other : Option Branch) (trees : List (List SelectionTree)) → opening ≡ other → AreShortTrees program (opening_terms other) trees
    → AreShortTrees program (opening_terms opening) trees
opening-short program opening other trees is short = subst (λ (o : Option Branch). AreShortTrees program (opening_terms o) trees) (sym is) short

pub parts-short : (program : AffineProgram) (quasts : Quasts) (opening : Option Branch) (certificate : CertificateParts) → certificate ≡ opened_parts quasts opening
    → AreShortTrees program (opening_terms opening) (trees_of quasts) → AreShortParts program certificate.branches (trees_of certificate.quasts)
parts-short program quasts None certificate is short = subst (λ (c : CertificateParts). AreShortParts program c.branches (trees_of c.quasts)) (sym is) short
parts-short program quasts (Some branch) certificate is short = subst (λ (c : CertificateParts). AreShortParts program c.branches (trees_of c.quasts)) (sym is) short
