use Rattle.std.proofs.Common.{◌≡◌, sym, ◌∙◌, ap, ℕ, ◌+◌, List, [], ◌∷◌, ◌++◌, append_assoc, drop, map, pos}
use Rattle.std.proofs.Math.IntN.{ℤ}
use Rattle.std.proofs.lemmas.List.{drop_more}
use Rattle.iolb_model.specs.Form.{AffineForm}
use Rattle.joint_partition.specs.Term.{no_form}
use Rattle.iolb_check.proofs.family_walks.blank_label.Goals as goal

pub loop-member-preserved : goal.loop-member-preserved
loop-member-preserved c =
    let i : ℕ = c.loop-member._member-index in
    let set : List ℕ = c.coords-set.result.now in
    let blanks : List ℕ → List AffineForm = map (λ (k : ℕ). no_form) in
    let before : List AffineForm = c.loop-member.label.items in
    let form : c.new-in-loop-member.result ≡ no_form = c.new-in-loop-member.ensures ∙ ap (λ (numbers : List ℤ). record { coefficients = numbers; constant = pos 0 }) c.new.ensures.items in
    let split : blanks (drop i set) ≡ no_form ∷ blanks (drop (i + 1) set) = ap blanks (drop_more set i 0 c.loop-member-test.true) in
    ap (λ (all : List AffineForm). all ++ blanks (drop (i + 1) set)) (c.in_ok-push.ensures.items ∙ ap (λ (f : AffineForm). before ++ f ∷ []) form)
    ∙ append_assoc before (no_form ∷ []) (blanks (drop (i + 1) set)) ∙ ap (λ (all : List AffineForm). before ++ all) (sym split) ∙ c.loop-member.invariant
