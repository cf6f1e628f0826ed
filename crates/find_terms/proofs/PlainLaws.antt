-- Plain trees of one read have the same leaves.
use Rattle.std.proofs.Common.{◌≡◌, refl, sym, ◌∙◌, ap, subst, inl, inr, ℕ, List, [], ◌∷◌, ◌++◌, length, map}
use Rattle.std.specs.Prelude.{⊤, codes}
use Rattle.iolb_model.specs.Form.{AffineForm}
use Rattle.iolb_model.specs.Program.{AffineProgram}
use Rattle.flow_deps.proofs.FirstShown.{first-stands}
use Rattle.flow_deps.specs.declared.wanted.Wanted.{Wanted}
use Rattle.claims.specs.Claims.{AllHold}
use Rattle.claims.specs.declared.place.Step.TheVariants.{Key}
use Rattle.dep_quast.specs.Context.{ReadOf, variables_at}
use Rattle.dep_quast.specs.Tree.{source, input, empty, blank, SelectionTree, leaf, test}
use Rattle.domain_count.specs.CountClaims.{count_claims}
use Rattle.flow_deps.specs.declared.candidate.Candidate.{Candidate}
use Rattle.flow_deps.specs.declared.candidate.Candidate.TheVariants.{NoWrite, SameTurn, TurnBefore}
use Rattle.flow_deps.specs.Shapes.{Shape, shape_of, no_write, last_write, other, split}
use Rattle.flow_deps.specs.Candidates.{candidate_shape, candidates}
use Rattle.flow_deps.specs.Plain.{IsFirstShown, IsPlain}
use Rattle.dep_quast.specs.OpenLeaves.{OpenLeaf, TestsFit, as_input, form_at, no_at, open_leaves, written}
use Rattle.dep_quast.proofs.OpenLeaves.{tests-fit}
use Rattle.wavefront.specs.declared.cold.Cold.{Cold}
use Rattle.wavefront.specs.ColdClaims.{matrix_claims}
use Rattle.wavefront.specs.Leaves.{inside_claims, leaves_claims}
use Rattle.wavefront.specs.Term.{ColdTerm, instance_point, nest_system, nest_variables}
use Rattle.wavefront.specs.View.{term_of}
use Rattle.cold_terms.specs.Entries.{AreEntries}
use Rattle.find_terms.specs.Shown.{IsShownCold}
use Rattle.reuse_paths.specs.LeafClaims.{claim_of}

-- ---- trees that name a source or an input at each leaf

abbrev IsNamed : Shape → Type 0
IsNamed no_write = ⊤
IsNamed (last_write statement level point) = ⊤
IsNamed other = ⊥
IsNamed (split form above below) = IsNamed above × IsNamed below

-- so do the candidates
candidate-named : (program : AffineProgram) (reader : ReadOf) (candidate : Candidate) → IsNamed (candidate_shape program reader candidate)
candidate-named program reader NoWrite = tt
candidate-named program reader (SameTurn writer) = tt
candidate-named program reader (TurnBefore loop writer) = (tt, tt)

-- the leaves of a shape
abbrev shape_leaves : ℕ → List AffineForm → List AffineForm → Shape → List OpenLeaf
shape_leaves vars point tests no_write = record { tests = tests; origin = as_input } ∷ []
shape_leaves vars point tests (last_write statement level values) = record { tests = tests; origin = written statement values } ∷ []
shape_leaves vars point tests other = []
shape_leaves vars point tests (split form above below) =
    shape_leaves vars point (tests ++ form_at vars point form ∷ []) above ++ shape_leaves vars point (tests ++ no_at vars point form ∷ []) below

leaves-of-shape : (vars : ℕ) (point tests : List AffineForm) (tree : SelectionTree) → IsNamed (shape_of tree) → open_leaves vars point tests tree ≡ shape_leaves vars point tests (shape_of tree)
leaves-of-shape vars point tests (leaf (source claim)) h = refl
leaves-of-shape vars point tests (leaf (input shown)) h = refl
leaves-of-shape vars point tests (leaf (empty shown)) h = absurd h
leaves-of-shape vars point tests (leaf blank) h = absurd h
leaves-of-shape vars point tests (test form above below) h =
    ap (λ (ls : List OpenLeaf). ls ++ open_leaves vars point (tests ++ no_at vars point form ∷ []) below) (leaves-of-shape vars point (tests ++ form_at vars point form ∷ []) above h.0)
    ∙ ap (λ (ls : List OpenLeaf). shape_leaves vars point (tests ++ form_at vars point form ∷ []) (shape_of above) ++ ls) (leaves-of-shape vars point (tests ++ no_at vars point form ∷ []) below h.1)

-- ---- plain trees

first-same : (program : AffineProgram) (reader : ReadOf) (shapes : List Shape) (t u : SelectionTree) → IsFirstShown program reader shapes t → IsFirstShown program reader shapes u → shape_of t ≡ shape_of u
first-same program reader [] t u h g = absurd h
first-same program reader (shape ∷ shapes) t u (inl h) (inl g) = h.has_shape ∙ sym g.has_shape
first-same program reader (shape ∷ shapes) t u (inl h) (inr g) = absurd (g.0 t h)
first-same program reader (shape ∷ shapes) t u (inr h) (inl g) = absurd (h.0 u g)
first-same program reader (shape ∷ shapes) t u (inr h) (inr g) = first-same program reader shapes t u h.1 g.1

first-named : (program : AffineProgram) (reader : ReadOf) (all : List Candidate) (t : SelectionTree) → IsFirstShown program reader (map (candidate_shape program reader) all) t → IsNamed (shape_of t)
first-named program reader [] t h = absurd h
first-named program reader (candidate ∷ all) t (inl h) = subst IsNamed (sym h.has_shape) (candidate-named program reader candidate)
first-named program reader (candidate ∷ all) t (inr h) = first-named program reader all t h.1

pub plain-tests : (program : AffineProgram) (reader : ReadOf) (t : SelectionTree) → IsPlain program reader t → TestsFit (variables_at program reader) t
plain-tests program reader t h = tests-fit program reader [] t (first-stands program reader (map (candidate_shape program reader) (candidates program reader)) t h).fits

-- two plain trees of a read have the same leaves
pub plain-leaves : (program : AffineProgram) (reader : ReadOf) (t u : SelectionTree) → IsPlain program reader t → IsPlain program reader u → (vars : ℕ) (point : List AffineForm)
    → open_leaves vars point [] t ≡ open_leaves vars point [] u
plain-leaves program reader t u h g vars point =
    leaves-of-shape vars point [] t (first-named program reader (candidates program reader) t h)
    ∙ ap (shape_leaves vars point []) (first-same program reader (map (candidate_shape program reader) (candidates program reader)) t u h g)
    ∙ sym (leaves-of-shape vars point [] u (first-named program reader (candidates program reader) u g))

-- so what is shown over one is shown over the other
pub shown-over : (wanted : Wanted) (program : AffineProgram) (t u : SelectionTree) (cold : Cold) → IsPlain program (term_of cold).reader t → IsPlain program (term_of cold).reader u
    → IsShownCold wanted program t cold → IsShownCold wanted program u cold
shown-over wanted program t u cold pt pu h =
    let term : ColdTerm = term_of cold in
    let vars : ℕ = nest_variables program term in
    let same : open_leaves vars (instance_point program term) [] t ≡ open_leaves vars (instance_point program term) [] u = plain-leaves program term.reader t u pt pu vars (instance_point program term) in
    record {
      fits = record {
        parts = h.fits.parts;
        tests = plain-tests program term.reader u pu;
        leaves = h.fits.leaves ∙ ap length same;
      };
      one_each = h.one_each;
      polynomials = h.polynomials;
      holds = λ place.
          subst (λ (ls : List OpenLeaf). AllHold (count_claims program term.nest term.count place
          ++ ((inside_claims program place term ++ leaves_claims vars (nest_system program term).rows (place ++ Key (codes "leaves") ∷ []) 0 ls term.leaves) ++ matrix_claims program place term))) same (h.holds place);
      small = h.small;
      made = h.made;
      entries = subst (λ (ls : List OpenLeaf). AreEntries ls (map claim_of cold.leaves.items)) same h.entries;
      as_short = h.as_short;
    }

-- a blank leaf is no plain tree
pub blank-not : (program : AffineProgram) (reader : ReadOf) → ¬ IsPlain program reader (leaf blank)
blank-not program reader h = first-named program reader (candidates program reader) (leaf blank) h
