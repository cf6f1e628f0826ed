-- Cold terms that are shown, by their parts.
use Rattle.std.specs.Prelude.{codes}
use Rattle.std.proofs.Common.{◌≡◌, sym, ◌∙◌, ◌*◌, [], ◌∷◌, length, map}
use Rattle.iolb_model.specs.Program.{AffineProgram}
use Rattle.flow_deps.specs.declared.wanted.Wanted.{Wanted}
use Rattle.flow_deps.specs.declared.wanted.Wanted.TheVariants.{Short}
use Rattle.flow_deps.specs.Answers.{Answers, following}
use Rattle.flow_deps.proofs.AnswerLaws.{follow-short}
use Rattle.claims.specs.declared.place.Step.TheVariants.{Key}
use Rattle.claims.specs.Shown.{IsFew}
use Rattle.dep_quast.specs.Context.{variables_at}
use Rattle.dep_quast.specs.Tree.{SelectionTree}
use Rattle.domain_count.proofs.Claimed.{claims-count}
use Rattle.affine_program.specs.Domain.{domain_size}
use Rattle.affine_form.specs.Rows.{variables_from}
use Rattle.reuse_paths.specs.LeafClaims.{claim_of}
use Rattle.dep_quast.specs.OpenLeaves.{TestsFit}
use Rattle.wavefront.specs.declared.cold.Cold.{Cold}
use Rattle.wavefront.specs.ColdPieces.{leaves_of}
use Rattle.wavefront.specs.Term.{ColdTerm, cell_forms, inside_goals, nest_system, nest_variables}
use Rattle.wavefront.specs.View.{term_of}
use Rattle.wavefront.proofs.InverseClaims.{hold-undone}
use Rattle.find_terms.specs.Counted.{AreCounted}
use Rattle.cold_terms.specs.Outline.{OutlineFits, bare, outline_in}
use Rattle.find_terms.specs.Shown.{IsShownCold}
use Rattle.cold_terms.proofs.EntryLaws.{closed-short, hold-closed}
use Rattle.projective_bounds.proofs.ColdParts.{cold-held, ClaimParts, parts-of, IsUndone, IsInside, IsClosedBy}
use Rattle.affine_program.proofs.Domains.{length-domain_rows}

-- ---- what is found makes a term that is shown

module _ (wanted : Wanted) (program : AffineProgram) (tree : SelectionTree) (cold : Cold) where
  abbrev term : ColdTerm
  term = term_of cold

  pub cold-shown : OutlineFits program (outline_in term) → TestsFit (variables_at program term.reader) tree → IsUndone program (outline_in term)
      → Answers wanted (following (nest_system program term) (inside_goals program term)) cold.inside.items
      → IsClosedBy wanted program tree (outline_in term) (map claim_of cold.leaves.items) → AreCounted wanted program cold.nest cold.sums → IsShownCold wanted program tree cold
  cold-shown fits tests undone inside closed counted =
      let held = cold-held wanted program tree cold fits tests undone inside closed counted.total counted.right counted.each counted.polynomials counted.names in
      record {
        fits = held.fits;
        one_each = held.one_each;
        polynomials = held.polynomials;
        holds = held.holds;
        small = held.small;
        made = counted.made;
        entries = held.entries;
        as_short = record {
          ranges = counted.as_short;
          inside = inside.as_short;
          leaves = closed-short wanted (nest_variables program term) (nest_system program term).rows (leaves_of program tree term) (map claim_of cold.leaves.items) closed;
        };
      }

-- ---- what a term that is shown by short lists says of its outline

module _ (program : AffineProgram) (tree : SelectionTree) (cold : Cold) (h : IsShownCold Short program tree cold) where
  abbrev shown_term : ColdTerm
  shown_term = term_of cold

  parts : ClaimParts program tree shown_term []
  parts = parts-of program tree shown_term [] (h.holds [])

  pub shown-undone : IsUndone program (outline_in shown_term)
  shown-undone = hold-undone shown_term.matrix shown_term.scale (length program.parameters) (length shown_term.nest) (cell_forms program shown_term) [] parts.matrix

  pub shown-inside : IsFew (length (nest_system program (bare (outline_in shown_term))).rows) → IsInside program (outline_in shown_term)
  shown-inside few =
      follow-short 10 (Key (codes "inside") ∷ []) (nest_system program shown_term) 0 (inside_goals program shown_term) cold.inside.items few
      (h.fits.parts.inside ∙ sym many) parts.inside h.as_short.inside where
        many : length (inside_goals program shown_term) ≡ domain_size program shown_term.reader.statement
        many = length-domain_rows program shown_term.reader.statement (nest_variables program shown_term)
            (variables_from (nest_variables program shown_term) 0 (length program.parameters)) shown_term.point h.fits.parts.point

  pub shown-closed : IsClosedBy Short program tree (outline_in shown_term) (map claim_of cold.leaves.items)
  shown-closed =
      hold-closed Short (nest_variables program shown_term) (nest_system program shown_term).rows (leaves_of program tree shown_term) (map claim_of cold.leaves.items) (Key (codes "leaves") ∷ []) 0
      h.entries h.as_short.leaves parts.leaves

  pub shown-counted : AreCounted Short program cold.nest cold.sums
  shown-counted =
      let counted = claims-count program cold.nest cold.sums [] parts.count in
      record {
        total = counted.0;
        right = counted.1;
        each = h.one_each;
        polynomials = h.polynomials;
        made = h.made;
        names = h.small.shown;
        as_short = h.as_short.ranges;
      }
