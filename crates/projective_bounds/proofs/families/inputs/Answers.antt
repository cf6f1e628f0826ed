use Rattle.std.proofs.Common.{◌≡◌, sym, ◌∙◌, ap, ℕ, ◌+◌, List, [], ◌∷◌, ◌++◌, length, map, arith, Bool, Vec}
use Rattle.std.specs.Prelude.{Box, Option, Some, None, option_map, if◌then◌else◌}
use Rattle.std.specs.Global.{Global}
use Rattle.std.specs.List.{range_with_len}
use Rattle.std.proofs.lemmas.Bool.{eq-eqb}
use Rattle.std.proofs.lemmas.List.{length-map, map-append}
use Rattle.std.proofs.lemmas.List.FromFn.{map-range_with_len_more}
use Rattle.iolb_model.specs.Form.{AffineForm}
use Rattle.affine_program.specs.Parts.{array_of, meaning}
use Rattle.reuse_paths.specs.Families.{boxed_forms}
use Rattle.projective_bounds.specs.Families.{array_subscripts, cell_label, label_if}
use Rattle.projective_bounds.proofs.Unequal.{differs}
use Rattle.projective_bounds.proofs.families.inputs.Goals as goal
use Rattle.projective_bounds.proofs.families.inputs.Goals.{then-other-from+in_ok-label+in_ok-new+in_ok-push, else-other-from+in_ok-push-2}

-- one label more
label-more : (labels : ℕ → Option (List AffineForm)) (all more : List (Option (Box (Vec AffineForm Global) Global))) (other : ℕ) (last : Option (Box (Vec AffineForm Global) Global))
    → map (option_map boxed_forms) all ≡ map labels (range_with_len 0 other) → option_map boxed_forms last ≡ labels other → more ≡ all ++ last ∷ []
    → map (option_map boxed_forms) more ≡ map labels (range_with_len 0 (other + 1))
label-more labels all more other last h is pushed =
    ap (map (option_map boxed_forms)) pushed ∙ map-append (option_map boxed_forms) all (last ∷ []) ∙ ap (λ (os : List (Option (List AffineForm))). os ++ option_map boxed_forms last ∷ []) h
    ∙ ap (λ (o : Option (List AffineForm)). map labels (range_with_len 0 other) ++ o ∷ []) is ∙ sym (map-range_with_len_more labels 0 other other (omega arith))

pub loop-other-preserved : goal.loop-other-preserved
loop-other-preserved c =
    elim c.if-other-from.branch [
      | then-other-from+in_ok-label+in_ok-new+in_ok-push w ↦
          label-more (label_if (meaning c.args.program.now) c.args.array c.args.set.now) c.loop-other.all.items c.if-other-from.all.items c.loop-other.other (Some w.in_ok-new.field-0) c.loop-other.invariant
          (ap Some (ap (λ (v : Vec AffineForm Global). v.items) w.in_ok-new.ensures.ok ∙ w.in_ok-label.ensures)
          ∙ ap (λ (b : Bool). if b then Some (cell_label (meaning c.args.program.now) (array_subscripts (meaning c.args.program.now) c.args.array) c.args.set.now) else None)
          (sym (eq-eqb c.loop-other.other c.args.array (w.if-other-from.true ∙ c.from.ensures))))
          (ap (λ (v : Vec (Option (Box (Vec AffineForm Global) Global)) Global). v.items) w.all-is ∙ w.in_ok-push.ensures.items)
      | else-other-from+in_ok-push-2 w ↦
          label-more (label_if (meaning c.args.program.now) c.args.array c.args.set.now) c.loop-other.all.items c.if-other-from.all.items c.loop-other.other None c.loop-other.invariant
          (ap (λ (b : Bool). if b then Some (cell_label (meaning c.args.program.now) (array_subscripts (meaning c.args.program.now) c.args.array) c.args.set.now) else None)
          (sym (differs c.loop-other.other c.args.array (λ e. w.if-other-from.false (e ∙ sym c.from.ensures)))))
          (ap (λ (v : Vec (Option (Box (Vec AffineForm Global) Global)) Global). v.items) w.all-is ∙ w.in_ok-push-2.ensures.items)
    ]

pub returns : goal.returns
returns c =
    let end : c.loop-other.other ≡ length (meaning c.args.program.now).arrays =
    omega (arith, c.loop-other-test.false, c.loop-other.auto.other-end, ap length c.arrays-other-end.ensures.arrays, length-map c.args.program.now.arrays array_of) in
    c.loop-other.invariant ∙ ap (λ (n : ℕ). map (label_if (meaning c.args.program.now) c.args.array c.args.set.now) (range_with_len 0 n)) end
