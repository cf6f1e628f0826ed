use Rattle.std.proofs.Common.{◌≡◌, ◌∙◌, ◌+◌, ◌∷◌, ◌++◌, [], ap, sym, Bool, ℕ, List}
use Rattle.std.specs.declared.vec.Vec.{Vec}
use Rattle.std.specs.Global.{Global}
use Rattle.base_laws.proofs.Ranges.{filter-failed, filter-passed}
use Rattle.affine_program.specs.Parts.{access_of}
use Rattle.projective.specs.Projective.{stands_in}
use Rattle.projective.proofs.standing.loops_in.Goals as goal
use Rattle.projective.proofs.standing.loops_in.Goals.{then-is_in+in_ok-push, else-is_in}

pub loop-place-preserved : goal.loop-place-preserved
loop-place-preserved c =
    let test : ℕ → Bool = λ place. stands_in (c.args.params + place) (access_of c.args.reference.now) in
    let here : test c.loop-place.place ≡ c.is_in.result = ap test (sym c.from.ensures) ∙ sym c.is_in.ensures in
    elim c.if-is_in.branch [
      | then-is_in+in_ok-push w ↦
          ap (λ (v : Vec ℕ Global). v.items) w.loops-is ∙ w.in_ok-push.ensures.items ∙ ap (λ (xs : List ℕ). xs ++ c.loop-place.place ∷ []) c.loop-place.invariant
          ∙ sym (filter-passed test c.loop-place.place (here ∙ w.if-is_in.true))
      | else-is_in w ↦
          ap (λ (v : Vec ℕ Global). v.items) w.loops-is ∙ c.loop-place.invariant ∙ sym (filter-failed test c.loop-place.place (here ∙ w.if-is_in.false))
    ]
