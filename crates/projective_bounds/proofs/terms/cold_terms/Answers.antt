use Rattle.std.proofs.Common.{◌≡◌, sym, ◌∙◌, ap, subst, ℕ, ◌+◌, ◌<◌, List, length, filter, get_or, arith}
use Rattle.std.specs.List.{range_with_len}
use Rattle.std.proofs.lemmas.List.{length-map}
use Rattle.iolb_model.specs.Program.{Statement as ModelStatement, statement_at}
use Rattle.affine_program.specs.declared.statement.Statement.{Statement}
use Rattle.affine_program.specs.declared.reference.Reference.{Reference}
use Rattle.affine_program.specs.Parts.{ProgramParts, access_of, meaning, statement_of}
use Rattle.dep_quast.proofs.Fits.{statement-is}
use Rattle.dep_quast.specs.Quasts.{trees_of}
use Rattle.projective_bounds.specs.Colds.{AreColdsOf, is_first_read}
use Rattle.projective_bounds.proofs.Codes.{ColdsTo, arrays-differ, colds-few, colds-kept, colds-more}
use Rattle.projective_bounds.proofs.terms.cold_terms.Goals as goal
use Rattle.projective_bounds.proofs.terms.cold_terms.Goals.{then-is_first_read+in_ok-placed_cold+in_ok-push, else-is_first_read}

-- the one statement has as many reads as the code's
reads-many : (parts : ProgramParts) (at : Statement) (table : List Statement) (reads : List Reference) → length (meaning parts).statements ≡ 1 → at ≡ get_or table 0 at → table ≡ parts.statements
    → reads ≡ (get_or table 0 at).reads.items → length (statement_at (meaning parts) 0).reads ≡ length reads
reads-many parts at table reads one here same value =
    let some : 0 < length parts.statements = omega (arith, length-map parts.statements statement_of, one) in
    ap (λ (t : ModelStatement). length t.reads) (statement-is parts 0 at some (here ∙ ap (λ (rows : List Statement). get_or rows 0 at) same))
    ∙ length-map at.reads.items access_of ∙ ap length (sym (value ∙ ap (λ (t : Statement). t.reads.items) (sym here)))

pub is_first_read-requires : goal.is_first_read-requires
is_first_read-requires c =
    let many = reads-many c.args.program.now c.index-statements-0.result c.statements.result.now c.as_slice-reads.result.now c.requires.projective.one c.index-statements-0.is c.statements.ensures.statements c.as_slice-reads.ensures.value in
    record { read = record { statement = omega (arith, c.requires.projective.one); read = omega (arith, many, c.loop-read-test.true) } }

pub placed_cold-requires-clause-read : goal.placed_cold-requires-clause-read
placed_cold-requires-clause-read c =
    let many = reads-many c.args.program.now c.index-statements-0.result c.statements.result.now c.as_slice-reads.result.now c.requires.projective.one c.index-statements-0.is c.statements.ensures.statements c.as_slice-reads.ensures.value in
    record { statement = omega (arith, c.requires.projective.one); read = omega (arith, many, c.loop-read-test.true) }

pub loop-read-preserved : goal.loop-read-preserved
loop-read-preserved c =
    let trees = trees_of c.args.quasts.now in
    let read : ℕ = c.loop-read.read in
    elim c.if-is_first_read.branch [
      | then-is_first_read+in_ok-placed_cold+in_ok-push w ↦
          colds-more c.args.program.now trees read c.loop-read.colds.items c.if-is_first_read.colds.items w.in_ok-placed_cold.field-0 c.loop-read.invariant
          (sym c.is_first_read.ensures ∙ w.if-is_first_read.true) w.in_ok-placed_cold.ensures.is w.in_ok-placed_cold.ensures.placed (ap (λ v. v.items) w.colds-is ∙ w.in_ok-push.ensures.items)
      | else-is_first_read w ↦
          subst (ColdsTo c.args.program.now trees (read + 1)) (sym (ap (λ v. v.items) w.colds-is))
          (colds-kept c.args.program.now trees read c.loop-read.colds.items c.loop-read.invariant (sym c.is_first_read.ensures ∙ w.if-is_first_read.false))
    ]

pub returns-clause-terms : goal.returns-clause-terms
returns-clause-terms c =
    let many = reads-many c.args.program.now c.index-statements-0.result c.statements.result.now c.as_slice-reads.result.now c.requires.projective.one c.index-statements-0.is c.statements.ensures.statements c.as_slice-reads.ensures.value in
    subst (λ (n : ℕ). AreColdsOf (meaning c.args.program.now) (filter (is_first_read (meaning c.args.program.now)) (range_with_len 0 n)) c.loop-read.colds.items)
    (omega (arith, many, c.loop-read-test.false, c.loop-read.auto.read-end)) c.loop-read.invariant.are

pub returns-clause-placed : goal.returns-clause-placed
returns-clause-placed c = c.loop-read.invariant.placed

pub returns-clause-different : goal.returns-clause-different
returns-clause-different c = arrays-differ c.args.program.now (trees_of c.args.quasts.now) c.loop-read.read c.loop-read.colds.items c.loop-read.invariant

pub returns-clause-few : goal.returns-clause-few
returns-clause-few c =
    let many = reads-many c.args.program.now c.index-statements-0.result c.statements.result.now c.as_slice-reads.result.now c.requires.projective.one c.index-statements-0.is c.statements.ensures.statements c.as_slice-reads.ensures.value in
    let whole : ColdsTo c.args.program.now (trees_of c.args.quasts.now) (length (statement_at (meaning c.args.program.now) 0).reads) c.loop-read.colds.items =
    subst (λ (n : ℕ). ColdsTo c.args.program.now (trees_of c.args.quasts.now) n c.loop-read.colds.items) (omega (arith, many, c.loop-read-test.false, c.loop-read.auto.read-end)) c.loop-read.invariant in
    omega (
      arith,
      colds-few c.args.program.now (trees_of c.args.quasts.now) c.loop-read.colds.items c.params-params.ensures.kept.well_formed c.requires.projective.one whole,
      c.requires.projective.projects.few,
    )
