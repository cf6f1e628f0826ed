-- The counts of outputs count something, and the terms whose words were computed have the values of wavefront terms.
use Rattle.std.proofs.Common.{◌≡◌, sym, subst, ℕ, List, [], ◌∷◌, length}
use Rattle.std.specs.List.{AllByRecursion, AllZip}
use Rattle.affine_program.specs.Parts.{ProgramParts, meaning}
use Rattle.domain_count.specs.Count.{CountsPoints}
use Rattle.domain_count.specs.Points.{count}
use Rattle.iolb_check.specs.Bounds.{IsCounting}
use Rattle.iolb_check.specs.Claims.{TermClaim, cold, front, joint, partition}
use Rattle.iolb_check.specs.Conditions.{AreValuesOf, IsValueOf}
use Rattle.iolb_check.specs.declared.bound.Value.{Value}
use Rattle.iolb_check.specs.declared.bound.Value.TheVariants as values
use Rattle.iolb_check.proofs.Terms.{whole}
use Rattle.iolb_model.specs.Program.{AffineProgram}
use Rattle.poly_tree.specs.Expansion.{IsCanonical}
use Rattle.poly_tree.specs.Poly.{IsLegal, Quotient}
use Rattle.store_bound.specs.Sound.{IsOutputCount}
use Rattle.store_bound.specs.Values.{HasWordValue, HaveWordValues}
use Rattle.store_terms.specs.declared.output.Output.{Output}

pub output-count : (program : ProgramParts) (output : Output) (q : Quotient) → program.assumed.vars ≡ length program.params → CountsPoints (meaning program) output.nest q → IsCanonical (length program.params) q.tree → IsLegal q
    → IsOutputCount program output q
output-count program output q kept counts canonical legal = record {
  counts = counts;
  legal = legal;
  counting = record {
    parameters = subst (λ (n : ℕ). IsCanonical n q.tree) (sym kept) canonical;
    whole = whole program (count output.nest) q kept counts;
  };
}

pub all-counting : (program : ProgramParts) (outputs : List Output) (counts : List Quotient) → AllZip (IsOutputCount program) outputs counts → AllByRecursion (IsCounting program.assumed) counts
all-counting program [] [] h = tt
all-counting program [] (q ∷ counts) h = absurd h
all-counting program (o ∷ outputs) [] h = absurd h
all-counting program (o ∷ outputs) (q ∷ counts) h = (h.0.counting, all-counting program outputs counts h.1)

word-value : (program : AffineProgram) (term : TermClaim) (v : Value) → IsValueOf program term v → HasWordValue term v
word-value program (cold claim sums) v h = λ e. absurd cc
word-value program (partition term) v h = λ e. absurd cc
word-value program (joint term) v h = λ e. absurd cc
word-value program (front claim sums outer_sums) (values.Cold q) h = absurd h
word-value program (front claim sums outer_sums) (values.Partition q) h = absurd h
word-value program (front claim sums outer_sums) (values.Joint q) h = absurd h
word-value program (front claim sums outer_sums) (values.Wavefront pairs outer) h = λ e. tt

pub word-values : (program : AffineProgram) (terms : List TermClaim) (vs : List Value) → AreValuesOf program terms vs → HaveWordValues terms vs
word-values program [] [] h = tt
word-values program [] (v ∷ vs) h = absurd cc
word-values program (t ∷ terms) [] h = absurd h
word-values program (t ∷ terms) (v ∷ vs) h = (word-value program t v h.0, word-values program terms vs h.1)
