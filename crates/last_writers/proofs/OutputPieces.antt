-- The piece of an output covers its instances.
use Rattle.std.proofs.Common.{◌≡◌, sym, subst, inl, ℕ, List, ◌++◌, length, map}
use Rattle.std.specs.Prelude.{ℤ}
use Rattle.iolb_model.specs.Domain.{IsAt, IsWithin}
use Rattle.execution_laws.proofs.Ordered.{All-member, Member-map_from}
use Rattle.pebble_game.proofs.Marks.{standing-member}
use Rattle.domain_count.specs.Points.{points}
use Rattle.footprint_pieces.proofs.PieceVertices.{wide-values}
use Rattle.reuse_paths.specs.Places.{place_of}
use Rattle.reuse_paths.proofs.NestPoints.{nest-met, points-long, points-within}
use Rattle.last_writers.specs.OutputClaims.{output_variables}
use Rattle.last_writers.specs.Outputs.{OutputPiecesCover, WritesLast, output_footprint, output_instance}

pub output-covers : OutputPiecesCover
output-covers program output formed sound parameters vertex admitted stands =
    let all : List (List ℤ) = points output.nest parameters in
    let place : List ℤ → ℕ = λ u. place_of program parameters (output_instance output parameters u) in
    let found = Member-map_from place vertex all (standing-member (output_footprint program output parameters) vertex stands) in
    let u : List ℤ = found.0 in
    let within : IsWithin output.nest parameters u = All-member (λ (x : List ℤ). IsWithin output.nest parameters x) all u (points-within output.nest parameters) found.1.0 in
    let at : WritesLast program parameters (output_instance output parameters u) = All-member (λ (x : List ℤ). WritesLast program parameters (output_instance output parameters x)) all u (sound parameters admitted).0 found.1.0 in
    inl (record {
      values = u;
      each = All-member (λ (x : List ℤ). length x ≡ length output.nest) all u (points-long output.nest parameters) found.1.0;
      met = nest-met program output.nest parameters u formed admitted within;
      there = subst (λ (values : List ℤ). IsAt program parameters vertex (record { statement = output.statement; values = values })) (sym (wide-values (output_variables program output) output.point (parameters ++ u)))
          (subst (λ (n : ℕ). IsAt program parameters n (output_instance output parameters u)) (sym found.1.1) at.0);
    })
