use Rattle.std.proofs.Common.{sym, ◌∙◌, ap, subst, ℕ, ◌+◌, List, length, arith}
use Rattle.std.proofs.lemmas.List.{length-map}
use Rattle.affine_program.specs.Parts.{array_of, meaning, statement_of}
use Rattle.dep_quast.specs.Context.{ReadOf}
use Rattle.wavefront.specs.declared.cold.Cold.{Cold}
use Rattle.find_terms.specs.Found.{FindsFirst}
use Rattle.find_terms.proofs.ReadLaws.{AreOpeningsTo, earlier-all, openings-all, openings-full, openings-more, openings-skip}
use Rattle.find_terms.proofs.openings.opening_terms.Goals as goal
use Rattle.find_terms.proofs.openings.opening_terms.Goals.{then-len-most+in_ok-cold+in-Some+in_ok-push, then-len-most+in_ok-cold+in_default, else-len-most}

pub loop-array-preserved : goal.loop-array-preserved
loop-array-preserved c =
    let program = meaning c.args.program.now in
    let array : ℕ = c.loop-array.array in
    let colds : List Cold = c.loop-array.colds.items in
    let end : ReadOf = record { statement = length c.args.program.now.statements; read = 0 } in
    elim c.if-len-most.branch [
      | then-len-most+in_ok-cold+in-Some+in_ok-push w ↦
          let found = subst (FindsFirst program array end) w.in-Some.is w.in_ok-cold.ensures in
          openings-more program array colds c.loop-array.invariant w.in-Some.cold c.if-len-most.colds.items (omega (arith, w.if-len-most.true, c.len.ensures)) found.0 found.1
          (ap (λ v. v.items) w.colds-is ∙ w.in_ok-push.ensures.items)
      | then-len-most+in_ok-cold+in_default w ↦
          let none = subst (FindsFirst program array end) w.in_default.is w.in_ok-cold.ensures in
          subst (AreOpeningsTo program (array + 1)) (sym (ap (λ v. v.items) w.colds-is))
          (openings-skip program array colds c.loop-array.invariant
          (earlier-all program array (length c.args.program.now.statements) (omega (arith, length-map c.args.program.now.statements statement_of)) none))
      | else-len-most w ↦
          subst (AreOpeningsTo program (array + 1)) (sym (ap (λ v. v.items) w.colds-is))
          (openings-full program array colds c.loop-array.invariant (omega (arith, w.if-len-most.false, c.len.ensures, c.loop-array.invariant.few)))
    ]

pub returns : goal.returns
returns c =
    openings-all (meaning c.args.program.now) c.loop-array.array c.loop-array.colds.items c.arrays-array-end.ensures.kept.well_formed
    (omega (arith, length-map c.args.program.now.arrays array_of, ap length c.arrays-array-end.ensures.arrays, c.loop-array-test.false)) c.loop-array.invariant
