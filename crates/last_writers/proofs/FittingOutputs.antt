-- Where what is asked of an output holds, it fits a program; and how many later writes there are.
use Rattle.std.proofs.Common.{◌≡◌, refl, sym, ◌∙◌, ap, subst, ℕ, suc, List, [], ◌∷◌, ◌++◌, length, map, Bool, arith}
use Rattle.std.specs.Prelude.{codes, flat_map, if◌then◌else◌}
use Rattle.std.proofs.Math.Nat.{add-zero}
use Rattle.std.proofs.lemmas.Bool.{lt-ltb}
use Rattle.std.proofs.lemmas.List.{length-append, length-map}
use Rattle.iolb_model.specs.Program.{AffineProgram, statement_at}
use Rattle.affine_form.specs.Rows.{BoundsFit}
use Rattle.affine_program.specs.Domain.{depth_of}
use Rattle.affine_program.specs.Parts.{ProgramParts, meaning}
use Rattle.certificate_fit.specs.PartFit.{bounds_fit, sums_fit}
use Rattle.certificate_fit.proofs.ReadTrees.{bounds-fit, columns-many}
use Rattle.certificate_fit.proofs.TreeParts.{forms-over}
use Rattle.claims.specs.Claims.{AllHold, Claim}
use Rattle.claims.specs.declared.place.Step.{Step}
use Rattle.claims.specs.declared.place.Step.TheVariants.{Key}
use Rattle.claims.proofs.Laws.{AllHold-left, AllHold-right}
use Rattle.dep_quast.specs.Levels.{levels, writers}
use Rattle.store_terms.specs.Claims.{OutputClaim, claim_of_output}
use Rattle.store_terms.specs.Limits.{IsSmallOutput}
use Rattle.store_terms.specs.declared.output.Output.{Output}
use Rattle.last_writers.specs.Fitting.{FitsOutput, OutputFits}
use Rattle.last_writers.specs.OutputClaims.{later_write, later_writes, output_variables}
use Rattle.last_writers.specs.OutputFit.{output_back_fit, output_fit, output_front_fit, point_fit}

pub output-fitting : (program : ProgramParts) (place : List Step) (output : Output) → IsSmallOutput output → AllHold (output_fit (meaning program) place (claim_of_output output)) → FitsOutput program output
output-fitting program place output small h =
    let P : AffineProgram = meaning program in
    let claim : OutputClaim = claim_of_output output in
    let params : ℕ = length program.params in
    let front : List Claim = output_front_fit P place claim in
    let bounds : List Claim = bounds_fit params (place ++ Key (codes "nest") ∷ []) claim.nest in
    let point : List Claim = point_fit P place claim in
    let back : List Claim = output_back_fit P place claim in
    let sums : List Claim = sums_fit (suc params) (place ++ Key (codes "sums") ∷ []) claim.count.sums in
    let most : AllHold (front ++ bounds ++ point ++ back) = AllHold-left (front ++ bounds ++ point ++ back) sums h in
    let some : AllHold (front ++ bounds ++ point) = AllHold-left (front ++ bounds ++ point) back most in
    let few : AllHold (front ++ bounds) = AllHold-left (front ++ bounds) point some in
    let in_front : AllHold front = AllHold-left front bounds few in
    let in_point : AllHold point = AllHold-right (front ++ bounds) point some in
    let in_back : AllHold back = AllHold-right (front ++ bounds ++ point) back most in
    let bounds_over : BoundsFit params claim.nest = subst (λ (n : ℕ). BoundsFit n claim.nest) (add-zero params) (bounds-fit params 0 (place ++ Key (codes "nest") ∷ []) claim.nest small.bounds (AllHold-right front bounds few)) in
    let fits : OutputFits P claim = record {
      there = in_back.1.0;
      few = small.variables;
      bounds = bounds_over;
      point = in_point.0;
      forms = forms-over (output_variables P claim) (place ++ Key (codes "point") ∷ []) 0 output.point.items small.point in_point.1;
      inside = in_front.0;
      rows = in_front.1.0;
      columns = λ some. columns-many output.inverse.matrix.rows output.inverse.matrix.columns (depth_of P claim.statement) in_front.1.1.0 some ∙ sym in_point.0;
      scale = small.some_scale;
      later = in_front.1.1.1.0 ∙ ap (λ (b : Bool). if b then length (later_writes P claim) else 0) (lt-ltb claim.statement (length P.statements) in_back.1.0);
    } in record {
      fits = fits;
      count = record { few = small.variables; bounds = bounds_over; shown = in_back.0; sums = in_back.1.1.0 };
    }

-- the later writes are as many as the levels behind the output's statement
later-same : (program : AffineProgram) (output : OutputClaim) (ws : List ℕ)
    → length (flat_map (λ (w : ℕ). map (later_write program output w) (levels program output.statement w)) ws) ≡ length (flat_map (λ (w : ℕ). levels program output.statement w) ws)
later-same program output [] = refl
later-same program output (w ∷ ws) =
    omega (
      arith,
      length-append (map (later_write program output w) (levels program output.statement w)) (flat_map (λ (v : ℕ). map (later_write program output v) (levels program output.statement v)) ws),
      length-map (levels program output.statement w) (later_write program output w),
      length-append (levels program output.statement w) (flat_map (λ (v : ℕ). levels program output.statement v) ws),
      later-same program output ws,
    )

pub later-many : (program : AffineProgram) (output : OutputClaim)
    → length (later_writes program output) ≡ length (flat_map (λ (w : ℕ). levels program output.statement w) (writers program (statement_at program output.statement).writes.array))
later-many program output = later-same program output (writers program (statement_at program output.statement).writes.array)
