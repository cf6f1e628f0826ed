use Rattle.std.proofs.Common.{◌≡◌, sym, ◌∙◌, ap, ℕ, zero, suc, ◌+◌, ◌-◌, ◌≤◌, List, [], ◌∷◌, ◌++◌, arith}
use Rattle.affine_form.specs.Multipliers.{FarkasMultipliers}
use Rattle.projective_bounds.specs.Multipliers.{one_taken, rows_taken}
use Rattle.projective_bounds.proofs.multipliers.rows_taken.Goals as goal

taken-push : (first count : ℕ) → rows_taken first (suc count) ≡ rows_taken first count ++ one_taken (first + count) ∷ []
taken-push first zero = ap (λ (n : ℕ). one_taken n ∷ []) (none first) where
  none : (n : ℕ) → n ≡ n + 0
  none n = omega arith
taken-push first (suc count) = ap (λ (ms : List FarkasMultipliers). one_taken first ∷ ms) (taken-push (suc first) count ∙ ap (λ (n : ℕ). rows_taken (suc first) count ++ one_taken n ∷ []) (moved first count)) where
  moved : (m n : ℕ) → suc m + n ≡ m + suc n
  moved m n = omega arith

taken-next : (first number : ℕ) (all more : List FarkasMultipliers) → first ≤ number → all ≡ rows_taken first (number - first) → more ≡ all ++ one_taken number ∷ [] → more ≡ rows_taken first ((number + 1) - first)
taken-next first number all more le h pushed =
    pushed ∙ ap (λ (ms : List FarkasMultipliers). ms ++ one_taken number ∷ []) h ∙ ap (λ (n : ℕ). rows_taken first (number - first) ++ one_taken n ∷ []) (whole first number le)
    ∙ sym (taken-push first (number - first)) ∙ ap (rows_taken first) (next first number le) where
      whole : (m n : ℕ) → m ≤ n → n ≡ m + (n - m)
      whole m n p = omega arith

      next : (m n : ℕ) → m ≤ n → suc (n - m) ≡ (n + 1) - m
      next m n p = omega arith

pub loop-number-preserved : goal.loop-number-preserved
loop-number-preserved c =
    let same : c.new.result ≡ one_taken c.loop-number.number =
    c.new.ensures ∙ ap (λ (ws : List (ℕ × ℕ)). record { scale = 1; rest = 0; weights = ws }) c.in_ok-weights.ensures.items in
    taken-next c.args.first c.loop-number.number c.loop-number.all.items c.push.new.self.items c.loop-number.auto.number c.loop-number.invariant
    (c.in_ok-push.ensures.items ∙ ap (λ (m : FarkasMultipliers). c.loop-number.all.items ++ m ∷ []) same)
