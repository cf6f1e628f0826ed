-- Values at sizes that meet the assumptions, and their lines.
use Rattle.std.proofs.Common.{◌≡◌, sym, ◌∙◌, ap, subst, inl, inr, ℕ, zero, suc, ◌+◌, List, [], ◌∷◌, ◌++◌, drop, map, append_assoc, arith}
use Rattle.std.specs.Prelude.{ℤ, Some, slice_get, codes, decimal, Err}
use Rattle.iolb_model.specs.Bound.{AreMet, BoundTerm, branch_value}
use Rattle.iolb_check.specs.declared.bound.Value.{Value}
use Rattle.iolb_check.specs.declared.value_fault.ValueFault.{ValueFault}
use Rattle.iolb_check.specs.declared.value_fault.ValueFault.TheVariants.{OutsideAssumption, Wide}
use Rattle.iolb_check.specs.Bounds.{BoundParts, EvaluatesBranch, HasWideBranch, IsWideBranch, terms_of}
use Rattle.tile_sched.proofs.Refusals.{met_first}
use Rattle.iolb_commands.specs.Values.{branch_value_lines}
use Rattle.iolb_cert.proofs.Branches.{drop_get, terms-at}

-- a branch that is there isn't wide where none is
pub wide-at : (branches : List (List Value)) (i : ℕ) (terms : List Value) (sizes : List ℤ) (s : ℕ) → slice_get branches i ≡ Some terms → IsWideBranch sizes s terms → HasWideBranch sizes s branches
wide-at [] i terms sizes s e wide = absurd cc
wide-at (b ∷ branches) zero terms sizes s e wide = inl (subst (λ (t : List Value). IsWideBranch sizes s t) (sym (same b terms e)) wide) where
  same : (a b : List Value) → Some a ≡ Some b → a ≡ b
  same a b p = cc
wide-at (b ∷ branches) (suc i) terms sizes s e wide = inr (wide-at branches i terms sizes s e wide)

-- so it has a value
pub has-value : (bound : BoundParts) (sizes : List ℤ) (s branch : ℕ) (fault : ValueFault) → AreMet bound.assumed.rows sizes → (¬ HasWideBranch sizes s bound.branches)
    → EvaluatesBranch bound sizes s branch (Err fault) → ⊥
has-value bound sizes s branch (OutsideAssumption n) met narrow e = met_first bound.assumed.rows sizes n met e.2
has-value bound sizes s branch Wide met narrow e = narrow (wide-at bound.branches branch e.0 sizes s e.1 e.2.1)

-- one line more
pub lines-step : (branches : List (List Value)) (i : ℕ) (terms : List Value) (sizes : List ℤ) (s value : ℕ) (old new all : List ℕ) → slice_get branches i ≡ Some terms
    → value ≡ branch_value (terms_of terms) sizes s → new ≡ old ++ codes "branch " ++ decimal i ++ codes " " ++ decimal value ++ codes "\n"
    → old ++ branch_value_lines i (drop i (map terms_of branches)) sizes s ≡ all → new ++ branch_value_lines (i + 1) (drop (i + 1) (map terms_of branches)) sizes s ≡ all
lines-step branches i terms sizes s value old new all e v n whole =
    let rest : List ℕ = branch_value_lines (i + 1) (drop (i + 1) (map terms_of branches)) sizes s in
    let next : suc i ≡ i + 1 = omega arith in
    let split = ap (λ (l : List (List BoundTerm)). branch_value_lines i l sizes s) (drop_get (map terms_of branches) i (terms_of terms) (terms-at branches i terms e))
    ∙ ap (λ (j : ℕ). codes "branch " ++ decimal i ++ codes " " ++ decimal (branch_value (terms_of terms) sizes s) ++ codes "\n" ++ branch_value_lines (i + 1) (drop j (map terms_of branches)) sizes s) next in
    ap (λ l. l ++ rest) n ∙ ap (λ (x : ℕ). (old ++ codes "branch " ++ decimal i ++ codes " " ++ decimal x ++ codes "\n") ++ rest) v
    ∙ simp append_assoc (simp append_assoc at (sym (ap (λ l. old ++ l) split)) ∙ whole)

-- a line more
pub line-more : (old new line rest part all : List ℕ) → new ≡ old ++ line → part ≡ line ++ rest → old ++ part ≡ all → new ++ rest ≡ all
line-more old new line rest part all more parts whole = ap (λ l. l ++ rest) more ∙ append_assoc old line rest ∙ ap (λ l. old ++ l) (sym parts) ∙ whole
