use Rattle.std.proofs.Common.{◌≡◌, refl, sym, ◌∙◌, ap, subst, ℕ, ◌<◌, ◌≤◌, List, length, arith}
use Rattle.std.proofs.lemmas.List.{length-map}
use Rattle.iolb_model.specs.Form.{AffineForm}
use Rattle.affine_form.specs.Matrix.{IntegerMatrix}
use Rattle.affine_program.specs.Domain.{depth_of}
use Rattle.affine_program.specs.Parts.{meaning, statement_of}
use Rattle.dep_quast.specs.Context.{ReadOf}
use Rattle.dep_quast.specs.Views.{read_of}
use Rattle.dep_quast.proofs.Fits.{depth-few}
use Rattle.find_terms.specs.Found.{FarFits, FindsLoops, FindsNest, IsSmallNest, so_far}
use Rattle.find_terms.specs.Openings.{AreNamed, NestSoFar, named_nest, opening_outline, undoing}
use Rattle.cold_terms.specs.Outline.{ColdOutline, OutlineFits}
use Rattle.find_terms.proofs.TermLaws.{outline-fits, outline-none}
use Rattle.find_terms.proofs.outlines.opening_outline.Goals as goal

outline-same : (reader : ReadOf) (nest : List (AffineForm × AffineForm)) (values : List AffineForm) (matrix : IntegerMatrix) (outline : ColdOutline) → reader ≡ outline.reader → nest ≡ outline.nest → values ≡ outline.point
    → matrix ≡ outline.matrix → 1 ≡ outline.scale → record { reader = reader; nest = nest; point = values; matrix = matrix; scale = 1 } ≡ outline
outline-same reader nest values matrix outline a b d e f = λ i. record { reader = a i; nest = b i; point = d i; matrix = e i; scale = f i }

pub returns-in_default-2 : goal.returns-in_default-2
returns-in_default-2 c =
    let program = meaning c.args.program.now in
    let reader : ReadOf = read_of c.args.reader in
    let loops : List ℕ = c.in-Some.loops.items in
    let named : AreNamed program reader loops = subst (FindsLoops program reader) c.in-Some.is c.in_ok-loops.ensures in
    let none = subst (FindsNest program (depth_of program c.args.reader.statement) (named_nest program reader c.as_slice.result.now)) c.in_default-2.is c.in_ok-far.ensures in
    outline-none program reader loops named (subst (λ (ls : List ℕ). ¬ IsSmallNest (named_nest program reader ls)) c.as_slice.ensures.value none)

pub returns : goal.returns
returns c =
    let program = meaning c.args.program.now in
    let reader : ReadOf = read_of c.args.reader in
    let loops : List ℕ = c.in-Some.loops.items in
    let named : AreNamed program reader loops = subst (FindsLoops program reader) c.in-Some.is c.in_ok-loops.ensures in
    let some = subst (λ (ls : List ℕ). (so_far c.in-Some-2.far ≡ named_nest program reader ls) × FarFits program (depth_of program c.args.reader.statement) (so_far c.in-Some-2.far)) c.as_slice.ensures.value
    (subst (FindsNest program (depth_of program c.args.reader.statement) (named_nest program reader c.as_slice.result.now)) c.in-Some-2.is c.in_ok-far.ensures) in
    let matrix : c.in_ok-matrix.matrix ≡ undoing program reader loops = c.in_ok-matrix.ensures ∙ ap (undoing program reader) c.as_slice-2.ensures.value in
    let nest : c.new.result ≡ (named_nest program reader loops).nest = c.new.ensures ∙ ap (λ (f : NestSoFar). f.nest) some.0 in
    let values : c.in-Some-2.far.values.items ≡ (named_nest program reader loops).values = ap (λ (f : NestSoFar). f.values) some.0 in
    let same : record { reader = reader; nest = c.new.result; point = c.in-Some-2.far.values.items; matrix = c.in_ok-matrix.matrix; scale = 1 } ≡ opening_outline program reader loops =
    outline-same reader c.new.result c.in-Some-2.far.values.items c.in_ok-matrix.matrix (opening_outline program reader loops) refl nest values matrix refl in
    let below : reader.statement < length c.args.program.now.statements = omega (arith, length-map c.args.program.now.statements statement_of, c.requires.statement) in
    let few : depth_of program reader.statement ≤ 6 = depth-few c.args.program.now c.params-params.ensures.kept reader.statement below in
    let fits = outline-fits program reader loops c.requires few named (subst (FarFits program (depth_of program c.args.reader.statement)) some.0 some.1) in
    (subst (OutlineFits program) (sym same) fits, (loops, named, same))
