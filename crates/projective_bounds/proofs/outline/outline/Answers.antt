use Rattle.std.proofs.Common.{◌≡◌, refl, sym, ◌∙◌, ap, ◌+◌, ℕ, List, length, map, arith}
use Rattle.std.specs.Prelude.{slice_index_or}
use Rattle.std.specs.List.{range_with_len}
use Rattle.std.proofs.lemmas.List.{length-map}
use Rattle.affine_program.specs.Domain.{depth_of}
use Rattle.affine_program.specs.Parts.{ProgramParts, IsProgram, meaning}
use Rattle.dep_quast.specs.Truth.{ReadFits}
use Rattle.projective.specs.Projective.{IsProjective}
use Rattle.projective.specs.SourceTrees.{read_number}
use Rattle.projective_bounds.specs.Loops.{AreLoopsOf, RunLoops, parameters_of}
use Rattle.projective_bounds.specs.Outline.{nest_below, value_among}
use Rattle.projective_bounds.specs.Whole.{identity_matrix}
use Rattle.projective_bounds.proofs.Codes.{all-below, assumed-below, loops-many}
use Rattle.projective_bounds.proofs.Outlines.{ColdRead, assumed, loops-few, nest, p, ps, size}
use Rattle.projective_bounds.proofs.outline.outline.Goals as goal

abbrev read-of : (parts : ProgramParts) → IsProgram parts → IsProjective (meaning parts) → (read : ℕ) → ReadFits (meaning parts) (read_number read) → (loops : List ℕ) → AreLoopsOf (meaning parts) read loops
    → (below : List ℕ) → RunLoops (meaning parts) below → ColdRead
read-of parts is projective read fits loops are below run =
    record { parts = parts; is = is; projective = projective; read = read; fits = fits; loops = loops; are = are; below = below; run = run }

-- the same values of the same
values-same : (params p count size depth d : ℕ) (loops others : List ℕ) → params ≡ p → count ≡ size → depth ≡ d → loops ≡ others
    → map (value_among (params + count) params loops) (range_with_len 0 depth) ≡ map (value_among (p + size) p others) (range_with_len 0 d)
values-same params p count size depth d loops others e f g h =
    ap (λ (n : ℕ). map (value_among (n + count) n loops) (range_with_len 0 depth)) e ∙ ap (λ (n : ℕ). map (value_among (p + n) p loops) (range_with_len 0 depth)) f
    ∙ ap (λ (n : ℕ). map (value_among (p + size) p loops) (range_with_len 0 n)) g ∙ ap (λ (xs : List ℕ). map (value_among (p + size) p xs) (range_with_len 0 d)) h

pub parameters_of-requires : goal.parameters_of-requires
parameters_of-requires c =
    all-below (length c.as_slice.result.now) (depth_of (meaning c.args.program.now) 0) c.as_slice-2.result.now c.in_ok-loops.loops.items c.as_slice-2.ensures.value
    (ap length c.as_slice.ensures.value ∙ loops-many (meaning c.args.program.now) c.in_ok-below.below.items c.in_ok-below.ensures) c.in_ok-loops.ensures.there

pub nest_below-requires-clause-few : goal.nest_below-requires-clause-few
nest_below-requires-clause-few c =
    let r : ColdRead = read-of c.args.program.now c.params-params.ensures.kept c.requires.projective c.args.read c.requires.read c.in_ok-loops.loops.items c.in_ok-loops.ensures c.in_ok-below.below.items c.in_ok-below.ensures in
    let chosen : length c.as_slice-3.result.now ≡ length c.in_ok-loops.loops.items =
    ap length c.as_slice-3.ensures.value ∙ ap length c.in_ok-parameters.ensures ∙ length-map c.as_slice-2.result.now (λ level. slice_index_or c.as_slice.result.now level 0) ∙ ap length c.as_slice-2.ensures.value in
    omega (arith, chosen, loops-few r, r.is.limits.parameters, ap length c.params-params.ensures.params)

pub nest_below-requires-clause-there : goal.nest_below-requires-clause-there
nest_below-requires-clause-there c =
    let r : ColdRead = read-of c.args.program.now c.params-params.ensures.kept c.requires.projective c.args.read c.requires.read c.in_ok-loops.loops.items c.in_ok-loops.ensures c.in_ok-below.below.items c.in_ok-below.ensures in
    all-below (length c.params-params.result.now) (p r) c.as_slice-3.result.now (ps r)
    (c.as_slice-3.ensures.value ∙ c.in_ok-parameters.ensures ∙ ap (λ (xs : List ℕ). parameters_of xs c.as_slice-2.result.now) c.as_slice.ensures.value
    ∙ ap (parameters_of c.in_ok-below.below.items) c.as_slice-2.ensures.value) (ap length c.params-params.ensures.params) (assumed-below (meaning c.args.program.now) (ps r) (assumed r))

pub values-requires : goal.values-requires
values-requires c =
    let r : ColdRead = read-of c.args.program.now c.params-params.ensures.kept c.requires.projective c.args.read c.requires.read c.in_ok-loops.loops.items c.in_ok-loops.ensures c.in_ok-below.below.items c.in_ok-below.ensures in
    omega (arith, ap length c.as_slice-4.ensures.value, loops-few r, r.is.limits.parameters, ap length c.params-params.ensures.params)

pub identity-requires : goal.identity-requires
identity-requires c =
    let r : ColdRead = read-of c.args.program.now c.params-params.ensures.kept c.requires.projective c.args.read c.requires.read c.in_ok-loops.loops.items c.in_ok-loops.ensures c.in_ok-below.below.items c.in_ok-below.ensures in
    omega (arith, c.len.ensures, loops-few r)

pub returns : goal.returns
returns c =
    let r : ColdRead = read-of c.args.program.now c.params-params.ensures.kept c.requires.projective c.args.read c.requires.read c.in_ok-loops.loops.items c.in_ok-loops.ensures c.in_ok-below.below.items c.in_ok-below.ensures in
    let params : length c.params-params.result.now ≡ p r = ap length c.params-params.ensures.params in
    let chosen : c.as_slice-3.result.now ≡ ps r =
    c.as_slice-3.ensures.value ∙ c.in_ok-parameters.ensures ∙ ap (λ (xs : List ℕ). parameters_of xs c.as_slice-2.result.now) c.as_slice.ensures.value
    ∙ ap (parameters_of c.in_ok-below.below.items) c.as_slice-2.ensures.value in
    let bounds : c.new.result ≡ nest r = c.new.ensures ∙ c.in_ok-nest.ensures ∙ ap (λ (n : ℕ). nest_below n c.as_slice-3.result.now) params ∙ ap (nest_below (p r)) chosen in
    let many : length c.as_slice-4.result.now ≡ length c.new.result = ap length c.as_slice-4.ensures.value ∙ sym (size r) ∙ ap length (sym bounds) in
    let wide : c.len.result ≡ length c.new.result = omega (arith, c.len.ensures, size r, ap length bounds) in
    record {
      reader = refl;
      loops = r.loops;
      are = r.are;
      below = r.below;
      run = r.run;
      nest = bounds;
      point = c.in_ok-point.ensures ∙ values-same (length c.params-params.result.now) (p r) (length c.as_slice-4.result.now) (length c.new.result) c.depth.result (depth_of (meaning c.args.program.now) 0) c.as_slice-4.result.now r.loops
          params many c.depth.ensures.depth c.as_slice-4.ensures.value;
      matrix = c.in_ok-matrix.ensures ∙ ap identity_matrix wide;
      scale = refl;
    }
