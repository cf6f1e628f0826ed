-- Arrays are numbered in the order of their references exactly where as many are seen behind these.
use Rattle.std.proofs.Common.{◌≡◌, refl, sym, ap, ◌∙◌, ℕ, ◌≤◌, true, false, Bool, List, [], ◌∷◌, ◌++◌, append-nil, leb-true, arith}
use Rattle.std.specs.Prelude.{nat_le, if◌then◌else◌, option_and_then, Option, Some, None}
use Rattle.std.proofs.lemmas.Bool.Decides.{nat_tests}
use Rattle.iolb_model.specs.Program.{Statement}
use Rattle.affine_program.specs.Printable.{IsOrdered, next_seen, access_numbers, statement_numbers}
use Rattle.affine_program.specs.Seen.{seen_behind}

-- what is seen behind numbers behind others
pub seen_both : (seen : ℕ) (xs ys : List ℕ) → seen_behind seen (xs ++ ys) ≡ option_and_then (λ more. seen_behind more ys) (seen_behind seen xs)
seen_both seen [] ys = refl
seen_both seen (x ∷ xs) ys = which (nat_le x seen) (seen_both (next_seen seen x) xs ys) where
  which : (b : Bool) → seen_behind (next_seen seen x) (xs ++ ys) ≡ option_and_then (λ more. seen_behind more ys) (seen_behind (next_seen seen x) xs)
      → (if b then seen_behind (next_seen seen x) (xs ++ ys) else None) ≡ option_and_then (λ more. seen_behind more ys) (if b then seen_behind (next_seen seen x) xs else None)
  which true rest = rest
  which false rest = refl

-- what is seen behind a statement and others
pub seen_statement : (seen : ℕ) (s : Statement) (rest : List Statement) (o : Option ℕ) → o ≡ seen_behind seen (statement_numbers (s ∷ [])) → seen_behind seen (statement_numbers (s ∷ rest)) ≡ option_and_then (λ more. seen_behind more (statement_numbers rest)) o
seen_statement seen s rest o e =
    let first : List ℕ = s.writes.array ∷ access_numbers s.reads in
    seen_both seen first (statement_numbers rest) ∙ ap (λ ns. option_and_then (λ more. seen_behind more (statement_numbers rest)) (seen_behind seen ns)) (sym (append-nil first)) ∙ ap (option_and_then (λ more. seen_behind more (statement_numbers rest))) (sym e)

-- what is seen is in order
pub seen_ordered : (seen : ℕ) (numbers : List ℕ) (last : ℕ) → seen_behind seen numbers ≡ Some last → IsOrdered seen numbers last
seen_ordered seen [] last e = cc
seen_ordered seen (n ∷ numbers) last e = which (nat_le n seen) refl e (λ f. seen_ordered (next_seen seen n) numbers last f) where
  which : (b : Bool) → nat_le n seen ≡ b → (if b then seen_behind (next_seen seen n) numbers else None) ≡ Some last → (seen_behind (next_seen seen n) numbers ≡ Some last → IsOrdered (next_seen seen n) numbers last) → (n ≤ seen) × IsOrdered (next_seen seen n) numbers last
  which true h f rec = (leb-true n seen h, rec f)
  which false h f rec = absurd cc

-- what is in order is seen
pub ordered_seen : (seen : ℕ) (numbers : List ℕ) (last : ℕ) → IsOrdered seen numbers last → seen_behind seen numbers ≡ Some last
ordered_seen seen [] last h = (let same : seen ≡ last = h in cc)
ordered_seen seen (n ∷ numbers) last h = (let small : n ≤ seen = h.0 in let yes : nat_le n seen ≡ true = grind (arith, nat_tests) in rw yes (ordered_seen (next_seen seen n) numbers last h.1))
