use Rattle.std.proofs.Common.{◌≡◌, sym, ◌∙◌, ap, subst, ℕ, ◌+◌, ◌<◌, List, length, map, arith}
use Rattle.std.specs.List.{AllByRecursion}
use Rattle.std.proofs.lemmas.List.{length-map}
use Rattle.iolb_model.specs.Form.{AffineForm}
use Rattle.iolb_model.specs.Program.{Access}
use Rattle.affine_form.specs.Rows.{variable}
use Rattle.affine_program.specs.Parts.{meaning, statement_of}
use Rattle.claims.proofs.Found.{IfOk-then}
use Rattle.dep_quast.specs.Context.{reference_of}
use Rattle.dep_quast.specs.Truth.{ReadFits}
use Rattle.dep_quast.specs.Trees.{read_of}
use Rattle.reuse_paths.proofs.FamilyLabels.{read-few}
use Rattle.projective_bounds.specs.Families.{array_subscripts, cell_label, place_among}
use Rattle.projective_bounds.proofs.families.cells.Goals as goal

pub cell_label-requires-clause-few : goal.cell_label-requires-clause-few
cell_label-requires-clause-few c =
    let fits : ReadFits (meaning c.args.program.now) (read_of 0 c.array_read-read.result) = record {
      statement = omega (arith, c.requires.there, length-map c.args.program.now.statements statement_of);
      read = omega (arith, c.requires.readable.read, c.array_read-read.ensures);
    } in
    omega (
      arith,
      read-few c.args.program.now (read_of 0 c.array_read-read.result) c.params-params.ensures.kept fits,
      c.params-params.ensures.kept.limits.parameters,
      ap length c.params-params.ensures.params,
      ap length c.as_slice-subs.ensures.value,
      ap (λ (a : Access). length a.subscripts) c.reference.ensures,
    )

-- the same of other forms and loops that are the same
stands-moved : (forms others : List AffineForm) (p q : ℕ) (loops set : List ℕ) → forms ≡ others → p ≡ q → loops ≡ set → AllByRecursion (λ (level : ℕ). place_among others (q + level) < length others) set
    → AllByRecursion (λ (level : ℕ). place_among forms (p + level) < length forms) loops
stands-moved forms others p q loops set e f g h =
    subst (λ (ls : List ℕ). AllByRecursion (λ (level : ℕ). place_among forms (p + level) < length forms) ls) (sym g)
    (subst (λ (n : ℕ). AllByRecursion (λ (level : ℕ). place_among forms (n + level) < length forms) set) (sym f)
    (subst (λ (fs : List AffineForm). AllByRecursion (λ (level : ℕ). place_among fs (q + level) < length fs) set) (sym e) h))

label-moved : (forms others : List AffineForm) (p q : ℕ) (loops set : List ℕ) → forms ≡ others → p ≡ q → loops ≡ set
    → map (λ (level : ℕ). variable (p + length forms) (p + place_among forms (p + level))) loops ≡ map (λ (level : ℕ). variable (q + length others) (q + place_among others (q + level))) set
label-moved forms others p q loops set e f g =
    ap (map (λ (level : ℕ). variable (p + length forms) (p + place_among forms (p + level)))) g
    ∙ ap (λ (n : ℕ). map (λ (level : ℕ). variable (n + length forms) (n + place_among forms (n + level))) set) f
    ∙ ap (λ (fs : List AffineForm). map (λ (level : ℕ). variable (q + length fs) (q + place_among fs (q + level))) set) e

pub cell_label-requires-clause-there : goal.cell_label-requires-clause-there
cell_label-requires-clause-there c =
    stands-moved c.as_slice-subs.result.now (array_subscripts (meaning c.args.program.now) c.args.array) (length c.params-params.result.now) (length c.args.program.now.params) c.coords.result.now c.args.set.now
    (c.as_slice-subs.ensures.value ∙ ap (λ (a : Access). a.subscripts) c.reference.ensures ∙ ap (λ (n : ℕ). (reference_of (meaning c.args.program.now) (read_of 0 n)).subscripts) c.array_read-read.ensures)
    (ap length c.params-params.ensures.params) c.coords.ensures c.requires.readable.stands

pub returns : goal.returns
returns c =
    IfOk-then c.cell_label.result _ (λ label. label.items ≡ cell_label (meaning c.args.program.now) (array_subscripts (meaning c.args.program.now) c.args.array) c.args.set.now) c.cell_label.ensures
    (λ label e. e
    ∙ label-moved c.as_slice-subs.result.now (array_subscripts (meaning c.args.program.now) c.args.array) (length c.params-params.result.now) (length c.args.program.now.params) c.coords.result.now c.args.set.now
    (c.as_slice-subs.ensures.value ∙ ap (λ (a : Access). a.subscripts) c.reference.ensures ∙ ap (λ (n : ℕ). (reference_of (meaning c.args.program.now) (read_of 0 n)).subscripts) c.array_read-read.ensures)
    (ap length c.params-params.ensures.params) c.coords.ensures)
