use Rattle.std.proofs.Common.{◌≡◌, refl, ◌∙◌, ap, ℕ, Bool, false, length, arith, List, [], ◌∷◌, ◌++◌, append_assoc}
use Rattle.std.specs.Prelude.{flat_map, codes, ◌==◌}
use Rattle.std.proofs.lemmas.Bool.Decides.{nat_tests}
use Rattle.affine_c.specs.Text.{parameters_text}
use Rattle.affine_c.proofs.program.push_parameters.Goals as goal

written : (text middle last whole head : List ℕ) (names : List (List ℕ)) → (names ≡ [] → ⊥) → middle ≡ text ++ head → head ≡ codes "#pragma iolb param" → last ≡ middle ++ flat_map (λ n. codes " " ++ n) names
    → whole ≡ last ++ codes "\n" → whole ≡ text ++ parameters_text names
written text middle last whole head [] some e f g h = absurd (some refl)
written text middle last whole head (name ∷ names) some e f g h =
    h ∙ ap (λ (l : List ℕ). l ++ codes "\n") (g ∙ ap (λ (m : List ℕ). m ++ flat_map (λ n. codes " " ++ n) (name ∷ names)) (e ∙ ap (λ (k : List ℕ). text ++ k) f))
    ∙ append_assoc (text ++ codes "#pragma iolb param") (flat_map (λ n. codes " " ++ n) (name ∷ names)) (codes "\n")
    ∙ append_assoc text (codes "#pragma iolb param") (flat_map (λ n. codes " " ++ n) (name ∷ names) ++ codes "\n")

some : (b : Bool) (n : ℕ) → b ≡ (n == 0) → b ≡ false → n ≡ 0 → ⊥
some b n e f g = grind (arith, nat_tests)

pub returns : goal.returns
returns c = written c.args.text.now.items _ _ _ _ c.args.names.now (λ e. some c.is_empty.result (length c.args.names.now) c.is_empty.ensures c.if-is_empty.false (ap length e)) c.in_ok-extend_from_slice.ensures.items refl c.in_ok-push_names.ensures c.in_ok-push.ensures.items
