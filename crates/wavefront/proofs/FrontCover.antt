-- The piece of a wavefront term fits, and covers its footprint.
use Rattle.std.proofs.Common.{◌≡◌, sym, ◌∙◌, ap, subst, inl, ℕ, List, [], ◌++◌, length, map, take}
use Rattle.std.specs.Prelude.{ℤ, Option, Some, None}
use Rattle.std.specs.List.{AllByRecursion}
use Rattle.std.proofs.lemmas.List.{append-nil}
use Rattle.iolb_model.specs.Program.{AffineProgram}
use Rattle.iolb_model.specs.Domain.{IsWithin, IsAt}
use Rattle.iolb_model.specs.Execution.{execution}
use Rattle.iolb_model.specs.Graph.{input_cells, vertex_of}
use Rattle.iolb_model.specs.Source.{Source}
use Rattle.execution_laws.proofs.Ordered.{All-member, Member-map_from}
use Rattle.pebble_game.proofs.Marks.{standing-member}
use Rattle.affine_form.specs.Form.{IsSmallForm}
use Rattle.affine_form.specs.Rows.{widened}
use Rattle.affine_form.specs.Substitution.{values_at}
use Rattle.affine_form.specs.System.{AllOver}
use Rattle.domain_count.specs.Points.{points}
use Rattle.reuse_paths.specs.Arrival.{instance_of}
use Rattle.footprint_pieces.specs.Pieces.{IsVertexOf, PieceFits}
use Rattle.reuse_paths.specs.Walks.{SpotForms}
use Rattle.reuse_paths.proofs.NestPoints.{points-within, points-long, nest-met}
use Rattle.wavefront.specs.FrontClaims.{front_variables, front_system, telling_forms, word_forms}
use Rattle.wavefront.specs.FrontFits.{PartsFit}
use Rattle.wavefront.specs.FrontPieces.{front_target, front_piece, FrontPiecesCover}
use Rattle.wavefront.specs.Fronts.{word_vertex, IsThereAt, IsSoundAt, front_footprint}
use Rattle.reuse_paths.specs.Places.{place_of}
use Rattle.wavefront.specs.FrontTerm.{WavefrontTerm}
use Rattle.wavefront.proofs.FrontApart.{cell, cell-is, input-there}
use Rattle.footprint_pieces.proofs.PieceVertices.{cell-vertex, wide-values}
use Rattle.wavefront.proofs.PiecesCover.{assumed-first}
use Rattle.iolb_model.specs.declared.limits.TheConstants.{PUT_SIZE}

-- the piece fits where the nest's rows and the word's forms are over the nest's variables, and the last are small
pub front-fits : (program : AffineProgram) (term : WavefrontTerm) → PartsFit program term → AllOver (front_variables program term) (front_system program term).rows
    → AllOver (front_variables program term) (map (widened (front_variables program term)) (word_forms program term))
    → AllByRecursion (IsSmallForm PUT_SIZE) (map (widened (front_variables program term)) (word_forms program term)) → PieceFits program (front_piece program term)
front-fits program term fits nest over small = record {
  few = fits.nest.few;
  assumed = ap (take (length program.assumptions)) (sym (append-nil (front_system program term).rows)) ∙ assumed-first program term.nest [];
  rows = nest;
  point = over;
  small = small;
}

-- the word of a point is the target's vertex at the values of the word's forms
word-there : (program : AffineProgram) (term : WavefrontTerm) (parameters u : List ℤ) (vertex : ℕ) (source : Option SpotForms) → length parameters ≡ length program.parameters
    → IsSoundAt program term parameters u → IsThereAt program term parameters u vertex source
    → IsVertexOf program parameters (front_target program term source)
    (values_at (map (widened (front_variables program term)) (telling_forms program term source)) (parameters ++ u)) (word_vertex program term parameters u)
word-there program term parameters u vertex None wide at h =
    let numbers : List ℤ = values_at (map (widened (front_variables program term)) (telling_forms program term None)) (parameters ++ u) in
    subst (λ (z : Source). IsVertexOf program parameters (front_target program term None) numbers (vertex_of (length (execution program parameters)) (input_cells program parameters) z)) (sym h)
    (cell-vertex program parameters numbers (cell program term parameters wide u) (input-there program term parameters wide u vertex at h)
    (wide-values (front_variables program term) (telling_forms program term None) (parameters ++ u) ∙ cell-is program term parameters wide u))
word-there program term parameters u vertex (Some spot) wide at h =
    let numbers : List ℤ = values_at (map (widened (front_variables program term)) spot.point) (parameters ++ u) in
    let place : ℕ = place_of program parameters (instance_of spot parameters u) in
    subst (λ (z : Source). IsVertexOf program parameters (front_target program term (Some spot)) numbers (vertex_of (length (execution program parameters)) (input_cells program parameters) z)) (sym h.1)
    (subst (λ (values : List ℤ). IsAt program parameters place (record { statement = spot.statement; values = values })) (sym (wide-values (front_variables program term) spot.point (parameters ++ u))) h.0)

pub front-covers : FrontPiecesCover
front-covers program term formed sound parameters vertex admitted stands =
    let all : List (List ℤ) = points term.nest parameters in
    let word : List ℤ → ℕ = word_vertex program term parameters in
    let found = Member-map_from word vertex all (standing-member (front_footprint program term parameters) vertex stands) in
    let u : List ℤ = found.0 in
    let within : IsWithin term.nest parameters u = All-member (λ (x : List ℤ). IsWithin term.nest parameters x) all u (points-within term.nest parameters) found.1.0 in
    let at : IsSoundAt program term parameters u = All-member (IsSoundAt program term parameters) all u (sound parameters admitted).each found.1.0 in
    inl (record {
      values = u;
      each = All-member (λ (x : List ℤ). length x ≡ length term.nest) all u (points-long term.nest parameters) found.1.0;
      met = nest-met program term.nest parameters u formed admitted within;
      there = subst (IsVertexOf program parameters (front_target program term term.source) (values_at (map (widened (front_variables program term)) (word_forms program term)) (parameters ++ u)))
          (sym found.1.1) (word-there program term parameters u (place_of program parameters (instance_of term.vertex parameters u)) term.source admitted.each at at.word);
    })
