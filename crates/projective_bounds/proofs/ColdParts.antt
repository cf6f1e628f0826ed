-- What cold terms claim, by their parts.
use Rattle.std.specs.Prelude.{codes}
use Rattle.std.proofs.Common.{◌≡◌, ◌∙◌, ℕ, ◌*◌, List, [], ◌∷◌, ◌++◌, length, map}
use Rattle.std.specs.List.{AllByRecursion}
use Rattle.std.proofs.lemmas.List.{length-map}
use Rattle.base_laws.proofs.Lists.{All-weaken}
use Rattle.iolb_model.specs.Form.{AffineForm}
use Rattle.iolb_model.specs.Program.{AffineProgram}
use Rattle.iolb_model.specs.declared.limits.TheConstants.{NUMBER_SIZE}
use Rattle.affine_form.specs.Form.{IsSmallForm}
use Rattle.affine_form.specs.Rows.{IsSmallOver, variables_from}
use Rattle.flow_deps.specs.declared.wanted.Wanted.{Wanted}
use Rattle.flow_deps.specs.Answers.{Answers, HasShortAnswer, following}
use Rattle.flow_deps.proofs.AnswerLaws.{AreAnswered-length, answers-name, follow-hold}
use Rattle.claims.specs.Claims.{AllHold, Claim}
use Rattle.claims.specs.declared.place.Step.{Step}
use Rattle.claims.specs.declared.place.Step.TheVariants.{Key}
use Rattle.claims.proofs.Laws.{AllHold-append, AllHold-left, AllHold-right}
use Rattle.dep_quast.specs.Context.{variables_at}
use Rattle.dep_quast.specs.Tree.{SelectionTree}
use Rattle.domain_count.specs.CountClaims.{count_claims}
use Rattle.domain_count.proofs.Claimed.{count-claims}
use Rattle.affine_program.specs.Domain.{domain_size}
use Rattle.reuse_paths.specs.LeafClaims.{LeafClaim, claim_of}
use Rattle.dep_quast.specs.OpenLeaves.{OpenLeaf, TestsFit}
use Rattle.wavefront.specs.declared.cold.Cold.{Cold}
use Rattle.wavefront.specs.ColdClaims.{cold_claims, matrix_claims}
use Rattle.wavefront.specs.ColdPieces.{leaves_of}
use Rattle.wavefront.specs.Inverse.{AreUndone}
use Rattle.wavefront.specs.Leaves.{inside_claims, term_leaves}
use Rattle.wavefront.specs.Term.{ColdTerm, cell_forms, inside_goals, nest_system, nest_variables}
use Rattle.wavefront.specs.View.{term_of}
use Rattle.wavefront.proofs.InverseClaims.{undone-hold}
use Rattle.cold_terms.specs.Entries.{AreClosed}
use Rattle.cold_terms.specs.Outline.{ColdOutline, OutlineFits, bare, outline_in}
use Rattle.cold_terms.proofs.EntryLaws.{closed-entries, closed-hold, closed-many, closed-small}
use Rattle.domain_count.specs.Count.{IsCount}
use Rattle.poly_tree.specs.Poly.{Quotient}
use Rattle.certificate_fit.specs.Limits.{NameRows}
use Rattle.certificate_fit.proofs.FormsFit.{bounds-small}
use Rattle.projective_bounds.specs.HeldColds.{ArePolynomials, IsHeldCold}
use Rattle.affine_program.proofs.Domains.{length-domain_rows}

-- ---- a term's claims, part by part

module _ (program : AffineProgram) (tree : SelectionTree) (term : ColdTerm) (place : List Step) where
  abbrev counts : List Claim
  counts = count_claims program term.nest term.count place

  abbrev insides : List Claim
  insides = inside_claims program place term

  abbrev at_leaves : List Claim
  at_leaves = term_leaves program place tree term

  abbrev entries : List Claim
  entries = matrix_claims program place term

  pub record ClaimParts : Type 0 where
    pub count : AllHold counts
    pub inside : AllHold insides
    pub leaves : AllHold at_leaves
    pub matrix : AllHold entries

  pub parts-of : AllHold (cold_claims program place tree term) → ClaimParts
  parts-of h =
      let behind = AllHold-right counts ((insides ++ at_leaves) ++ entries) h in
      let first = AllHold-left (insides ++ at_leaves) entries behind in
      record {
        count = AllHold-left counts ((insides ++ at_leaves) ++ entries) h;
        inside = AllHold-left insides at_leaves first;
        leaves = AllHold-right insides at_leaves first;
        matrix = AllHold-right (insides ++ at_leaves) entries behind;
      }

  pub from-parts : ClaimParts → AllHold (cold_claims program place tree term)
  from-parts h =
      AllHold-append counts ((insides ++ at_leaves) ++ entries) h.count
      (AllHold-append (insides ++ at_leaves) entries (AllHold-append insides at_leaves h.inside h.leaves) h.matrix)

-- the rows of an outline's domain
pub inside-many : (program : AffineProgram) (outline : ColdOutline) → OutlineFits program outline → length (inside_goals program (bare outline)) ≡ domain_size program outline.reader.statement
inside-many program outline fits =
    length-domain_rows program outline.reader.statement (nest_variables program (bare outline))
    (variables_from (nest_variables program (bare outline)) 0 (length program.parameters)) outline.point fits.point

-- ---- outlines

-- the matrix undoes the subscripts
abbrev pub IsUndone : AffineProgram → ColdOutline → Type 0
IsUndone program outline = AreUndone outline.matrix outline.scale (length program.parameters) (length outline.nest) (cell_forms program (bare outline))

-- short lists show that the instances are in their domain
abbrev pub IsInside : AffineProgram → ColdOutline → Type 0
IsInside program outline = AllByRecursion HasShortAnswer (following (nest_system program (bare outline)) (inside_goals program (bare outline)))

-- entries close the leaves
abbrev pub IsClosedBy : Wanted → AffineProgram → SelectionTree → ColdOutline → List LeafClaim → Type 0
IsClosedBy wanted program tree outline entries =
    AreClosed wanted (nest_variables program (bare outline)) (nest_system program (bare outline)).rows (leaves_of program tree (bare outline)) entries

-- ---- what is found makes a term that holds

module _ (wanted : Wanted) (program : AffineProgram) (tree : SelectionTree) (cold : Cold) where
  abbrev held_term : ColdTerm
  held_term = term_of cold

  pub cold-held : OutlineFits program (outline_in held_term) → TestsFit (variables_at program held_term.reader) tree → IsUndone program (outline_in held_term)
      → Answers wanted (following (nest_system program held_term) (inside_goals program held_term)) cold.inside.items
      → IsClosedBy wanted program tree (outline_in held_term) (map claim_of cold.leaves.items) → (total : Quotient) → IsCount program cold.nest cold.sums total
      → length cold.sums.shown ≡ length cold.nest → ArePolynomials (length program.parameters) cold.nest cold.sums.sums → NameRows cold.sums.shown → IsHeldCold program tree cold
  cold-held fits tests undone inside closed total right each polynomials names =
      let vars : ℕ = nest_variables program held_term in
      let rows : List AffineForm = (nest_system program held_term).rows in
      let leaves : List OpenLeaf = leaves_of program tree held_term in
      let entries : List LeafClaim = map claim_of cold.leaves.items in
      let questions = following (nest_system program held_term) (inside_goals program held_term) in
      record {
        fits = record {
          parts = record {
            read = fits.read;
            few = fits.few;
            bounds = fits.bounds;
            point = fits.point;
            forms = fits.forms;
            inside = AreAnswered-length questions cold.inside.items inside.each ∙ length-map (inside_goals program held_term) (λ goal. record { system = nest_system program held_term; goal = goal })
                ∙ inside-many program (outline_in held_term) fits;
            rows = fits.rows;
            columns = fits.columns;
            scale = fits.some_scale;
          };
          tests = tests;
          leaves = closed-many wanted vars rows leaves entries closed;
        };
        one_each = each;
        polynomials = polynomials;
        holds = λ place.
            from-parts program tree held_term place (record {
              count = count-claims program cold.nest cold.sums place total right;
              inside = follow-hold 10 (place ++ Key (codes "inside") ∷ []) (nest_system program held_term) 0 (inside_goals program held_term) cold.inside.items inside.each;
              leaves = closed-hold wanted vars rows leaves entries (place ++ Key (codes "leaves") ∷ []) 0 closed;
              matrix = undone-hold held_term.matrix held_term.scale (length program.parameters) (length held_term.nest) (cell_forms program held_term) place undone;
            });
        small = record {
          variables = fits.few;
          bounds = bounds-small (length program.parameters) cold.nest fits.bounds;
          shown = names;
          sums = polynomials.small;
          point = All-weaken (IsSmallOver vars) (IsSmallForm NUMBER_SIZE) cold.point.items (λ form h. h.small) fits.forms;
          inside = answers-name questions cold.inside.items inside.each;
          some_scale = fits.some_scale;
          scale = fits.scale;
          leaves = closed-small wanted vars rows leaves entries closed;
        };
        entries = closed-entries wanted vars rows leaves entries closed;
      }
