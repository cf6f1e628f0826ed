use Rattle.std.proofs.Common.{◌≡◌, ◌∙◌, ap, List, [], ◌∷◌, ◌++◌, pos}
use Rattle.std.proofs.lemmas.List.{append_assoc}
use Rattle.iolb_model.specs.Form.{AffineForm}
use Rattle.affine_form.specs.Rows.{difference}
use Rattle.affine_form.proofs.rows.push_equal.Goals as goal

-- two rows pushed
pushed-two : (rows one two : List AffineForm) (f g first second : AffineForm) → one ≡ rows ++ f ∷ [] → two ≡ one ++ g ∷ [] → f ≡ first → g ≡ second
    → two ≡ rows ++ first ∷ second ∷ []
pushed-two rows one two f g first second p q a b =
    q ∙ ap (λ (xs : List AffineForm). xs ++ g ∷ []) p ∙ append_assoc rows (f ∷ []) (g ∷ [])
    ∙ ap (λ (x : AffineForm). rows ++ x ∷ g ∷ []) a ∙ ap (λ (y : AffineForm). rows ++ first ∷ y ∷ []) b

pub difference-requires-clause-few : goal.difference-requires-clause-few
difference-requires-clause-few c = c.requires.few

pub difference-requires-clause-left_in : goal.difference-requires-clause-left_in
difference-requires-clause-left_in c = c.requires.one_within

pub difference-requires-clause-right_in : goal.difference-requires-clause-right_in
difference-requires-clause-right_in c = c.requires.other_within

pub difference-requires-clause-small_left : goal.difference-requires-clause-small_left
difference-requires-clause-small_left c = c.requires.one_small

pub difference-requires-clause-small_right : goal.difference-requires-clause-small_right
difference-requires-clause-small_right c = c.requires.other_small

pub difference-requires-2-clause-few : goal.difference-requires-2-clause-few
difference-requires-2-clause-few c = c.requires.few

pub difference-requires-2-clause-left_in : goal.difference-requires-2-clause-left_in
difference-requires-2-clause-left_in c = c.requires.other_within

pub difference-requires-2-clause-right_in : goal.difference-requires-2-clause-right_in
difference-requires-2-clause-right_in c = c.requires.one_within

pub difference-requires-2-clause-small_left : goal.difference-requires-2-clause-small_left
difference-requires-2-clause-small_left c = c.requires.other_small

pub difference-requires-2-clause-small_right : goal.difference-requires-2-clause-small_right
difference-requires-2-clause-small_right c = c.requires.one_small

pub returns : goal.returns
returns c =
    pushed-two c.args.rows.now.items c.push.new.self.items c.push-2.new.self.items c.in_ok-difference.field-0 c.in_ok-difference-2.field-0
    (difference c.args.vars c.args.one.now c.args.other.now (pos 0)) (difference c.args.vars c.args.other.now c.args.one.now (pos 0))
    c.in_ok-push.ensures.items c.in_ok-push-2.ensures.items c.in_ok-difference.ensures c.in_ok-difference-2.ensures
