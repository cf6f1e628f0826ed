-- The loops of matrix products run from 0 to below the parameter, and their A's and B's are inputs, whose reads are plain.
use Rattle.std.proofs.Common.{◌≡◌, refl, sym, ◌∙◌, ap, subst, inl, ℕ, ◌+◌, ◌*◌, ◌<◌, List, [], ◌∷◌, length, map, arith, lit<, lit≤}
use Rattle.std.specs.Prelude.{nat_eq}
use Rattle.std.specs.Global.{Global}
use Rattle.std.specs.List.{AllByRecursion, IsDistinct, range_with_len}
use Rattle.std.proofs.lemmas.Int.{ints}
use Rattle.std.proofs.lemmas.List.{length-map}
use Rattle.std.proofs.lemmas.List.FromFn.{length-range_with_len}
use Rattle.iolb_model.specs.Program.{Access, AffineProgram, Statement}
use Rattle.affine_form.specs.Rows.{variable}
use Rattle.affine_program.specs.Domain.{depth_of}
use Rattle.affine_c.specs.Products.{first_value, last_value, matrix_cell, product_program, product_statement}
use Rattle.dep_quast.specs.Context.{ReadOf, reference_of}
use Rattle.dep_quast.specs.Levels.{writers}
use Rattle.dep_quast.specs.Truth.{ReadFits}
use Rattle.find_terms.specs.Openings.{AreNamed, HasPlainRead}
use Rattle.find_terms.specs.InputReads.{LoopsRunBelow}
use Rattle.find_terms.proofs.products.InputReads.{input-plain}
use Rattle.find_terms.proofs.products.NamedLoops.{HasRoom}
use Rattle.find_terms.proofs.products.Programs.{bounds-are, runs-upward, first-read, no-guards, no-writer, second-read, statement-is}
use Rattle.find_terms.proofs.products.Squares.{parameters}

module _ (n : ℕ) where
  abbrev program : AffineProgram
  program = product_program n

  -- ---- loops

  pub depth : (q : ℕ) → q < n → depth_of program q ≡ 3
  depth q below = ap length (bounds-are n q below)

  pub room : (q : ℕ) → q < n → HasRoom program q
  room q below = record {
    parameters = lit≤ tt;
    assumptions = lit≤ tt;
    assumed = (record { over = refl; small = ((lit< tt, tt), lit< tt) }, tt);
    depth = omega (arith, depth q below);
  }

  pub runs : (q : ℕ) → q < n → LoopsRunBelow program q (parameters 3)
  runs q below = record {
    bounds = (first_value 0, last_value 0) ∷ (first_value 1, last_value 1) ∷ (first_value 2, last_value 2) ∷ [];
    around = sym (bounds-are n q below);
    run = (
      record { there = omega arith; lower = refl; upper = refl; assumed = inl (refl, omega (arith, ints)) },
      (
        record { there = omega arith; lower = refl; upper = refl; assumed = inl (refl, omega (arith, ints)) },
        (record { there = omega arith; lower = refl; upper = refl; assumed = inl (refl, omega (arith, ints)) }, tt),
      ),
    );
    upward = runs-upward n q below;
  }

  -- ---- reads of inputs

  reads-there : (q r : ℕ) → q < n → r < 3 → ReadFits program (record { statement = q; read = r })
  reads-there q r below less = record {
    statement = omega (arith, below, length-map (range_with_len 0 n) product_statement, length-range_with_len 0 n);
    read = subst (λ (s : Statement). r < length s.reads) (sym (statement-is n q below)) (omega (arith, less));
  }

  -- a read of an array that no statement writes, by two of the loops
  plain : (alloc : Global) (q r array : ℕ) (access : Access) (loops : List ℕ) → q < n → r < 3 → reference_of program (record { statement = q; read = r }) ≡ access
      → access.subscripts ≡ map (λ (loop : ℕ). variable (1 + 3) (1 + loop)) loops → AllByRecursion (λ (loop : ℕ). loop < 3) loops → IsDistinct nat_eq loops → access.array ≡ array
      → writers program array ≡ [] → HasPlainRead program array
  plain alloc q r array access loops below less is subscripts there different reads unwritten =
      (reader, ap (λ (a : Access). a.array) is ∙ reads, input-plain program reader loops (parameters 3) named (runs q below) (room q below) alloc (reads-there q r below less) (ap (λ (a : Access). writers program a.array) is ∙ ap (writers program) reads ∙ unwritten) (no-guards n q below)) where
        reader : ReadOf
        reader = record { statement = q; read = r }

        named : AreNamed program (record { statement = q; read = r }) loops
        named = record {
          there = subst (λ (d : ℕ). AllByRecursion (λ (loop : ℕ). loop < d) loops) (sym (depth q below)) there;
          different = different;
          subscripts = ap (λ (a : Access). a.subscripts) is ∙ subscripts ∙ sym (ap (λ (d : ℕ). map (λ (loop : ℕ). variable (1 + d) (1 + loop)) loops) (depth q below));
        }

  -- each array of A's and B's has a plain read
  pub first-plain : (alloc : Global) (q : ℕ) → q < n → HasPlainRead program (3 * q + 1)
  unfolding IsDistinct
  first-plain alloc q below =
      plain alloc q 1 (3 * q + 1) (matrix_cell (3 * q + 1) 1 3) (0 ∷ 2 ∷ []) below (omega arith) (first-read n q below) refl (omega arith, (omega arith, tt)) ((refl, tt), (tt, tt)) refl
      (no-writer n (3 * q + 1) (λ p same. omega (arith, same)))

  pub second-plain : (alloc : Global) (q : ℕ) → q < n → HasPlainRead program (3 * q + 2)
  unfolding IsDistinct
  second-plain alloc q below =
      plain alloc q 2 (3 * q + 2) (matrix_cell (3 * q + 2) 3 2) (2 ∷ 1 ∷ []) below (omega arith) (second-read n q below) refl (omega arith, (omega arith, tt)) ((refl, tt), (tt, tt)) refl
      (no-writer n (3 * q + 2) (λ p same. omega (arith, same)))
