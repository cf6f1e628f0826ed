use Rattle.std.proofs.Common.{◌∙◌, ◌∷◌, ◌++◌, [], ap, arith, sym, ℕ, List, map}
use Rattle.std.proofs.lemmas.List.FromFn.{map-range_with_len_more}
use Rattle.affine_program.specs.Parts.{access_of}
use Rattle.projective.specs.Projective.{coordinates, reference_to}
use Rattle.projective.proofs.recognising.sets_of.Goals as goal

pub loop-array-preserved : goal.loop-array-preserved
loop-array-preserved c =
    let set : ℕ → List ℕ = λ array. coordinates c.args.params c.args.depth (reference_to (map access_of c.args.reads.now) array) in
    let k = c.loop-array.array in
    c.in_ok-push.ensures.items ∙ ap (λ (s : List ℕ). c.loop-array.sets.items ++ s ∷ []) c.in_ok-set_of.ensures
    ∙ ap (λ (xs : List (List ℕ)). xs ++ set k ∷ []) c.loop-array.invariant ∙ sym (map-range_with_len_more set 0 k k (omega arith))
