-- Counted points are told apart by their images.
use Rattle.std.proofs.Common.{◌≡◌, refl, sym, ◌∙◌, ap, inl, inr, ℕ, ◌<◌, Bool, true, false, cond, ◌&&◌, List, [], ◌∷◌, length, map, arith}
use Rattle.std.specs.Prelude.{ℤ, pos, nat_eq, filter, Contains}
use Rattle.std.specs.Bool.{Decides}
use Rattle.std.specs.List.{AllByRecursion, IsDistinct}
use Rattle.std.proofs.lemmas.Bool.{and_parts, false≢true}
use Rattle.std.proofs.lemmas.Bool.Decides.{Decides-eqb}
use Rattle.std.proofs.lemmas.List.{ext_get_or}
use Rattle.execution_laws.proofs.Members.{Member, Member-map}
use Rattle.execution_laws.proofs.Ordered.{All-member}
use Rattle.uniform_cover.specs.Projection.{same_point}
use Rattle.uniform_cover.proofs.Members.{IsIn-from_Contains}
use Rattle.uniform_cover.proofs.ProjectionLemmas.{point_decides}
use Rattle.stretch_laws.specs.Reuse.{CountedPoint, coordinate_of}

pub member-of : {X : Type 0} (x : X) (xs : List X) → Contains xs x → Member x xs
member-of x xs c = IsIn-from_Contains x xs c

-- whether two points are one
abbrev pub same_counted : CountedPoint → CountedPoint → Bool
same_counted one other = nat_eq one.vertex other.vertex && same_point one.image other.image

abbrev point_of : ℕ → List ℤ → CountedPoint
point_of vertex image = record { vertex = vertex; image = image }

of-parts : (m n : ℕ) (x y : List ℤ) → m ≡ n → x ≡ y → point_of m x ≡ point_of n y
of-parts m n x y e f = cc

both-true : (a b : Bool) → a ≡ true → b ≡ true → (a && b) ≡ true
both-true true b e f = f
both-true false b e f = e

pub counted-decides : (one other : CountedPoint) → Decides (same_counted one other) (one ≡ other)
counted-decides one other = (
  λ e. let both = and_parts (nat_eq one.vertex other.vertex) (same_point one.image other.image) e in
      of-parts one.vertex other.vertex one.image other.image ((Decides-eqb one.vertex other.vertex).0 both.0) ((point_decides one.image other.image).0 both.1),
  λ e. both-true (nat_eq one.vertex other.vertex) (same_point one.image other.image)
      ((Decides-eqb one.vertex other.vertex).1 (ap (λ (p : CountedPoint). p.vertex) e)) ((point_decides one.image other.image).1 (ap (λ (p : CountedPoint). p.image) e)),
)

abbrev pub images : List CountedPoint → List (List ℤ)
images points = map (λ (point : CountedPoint). point.image) points

-- points whose images differ, differ
never-both : (a b : Bool) → b ≡ false → (a && b) ≡ false
never-both true b e = e
never-both false b e = refl

apart-from : (point : CountedPoint) (points : List CountedPoint) → AllByRecursion (λ (y : List ℤ). same_point point.image y ≡ false) (images points)
    → AllByRecursion (λ (p : CountedPoint). same_counted point p ≡ false) points
apart-from point [] h = tt
apart-from point (p ∷ points) h = (never-both (nat_eq point.vertex p.vertex) (same_point point.image p.image) h.0, apart-from point points h.1)

pub points-distinct : (points : List CountedPoint) → IsDistinct same_point (images points) → IsDistinct same_counted points
unfolding IsDistinct
points-distinct [] h = tt
points-distinct (p ∷ points) h = (apart-from p points h.0, points-distinct points h.1)

apart-filtered : {K : Type 0} (P : K → Type 0) (test : K → Bool) (xs : List K) → AllByRecursion P xs → AllByRecursion P (filter test xs)
apart-filtered P test [] h = tt
apart-filtered {K} P test (x ∷ xs) h = by (test x) (apart-filtered P test xs h.1) where
  by : (b : Bool) → AllByRecursion P (filter test xs) → AllByRecursion P (cond b (x ∷ filter test xs) (filter test xs))
  by true rest = (h.0, rest)
  by false rest = rest

-- so do those that are left by a test
pub distinct-left : {K : Type 0} (same : K → K → Bool) (test : K → Bool) (xs : List K) → IsDistinct same xs → IsDistinct same (filter test xs)
unfolding IsDistinct
distinct-left same test [] h = tt
distinct-left {K} same test (x ∷ xs) h = by (test x) (distinct-left same test xs h.1) where
  by : (b : Bool) → IsDistinct same (filter test xs) → IsDistinct same (cond b (x ∷ filter test xs) (filter test xs))
  by true rest = (apart-filtered (λ (y : K). same x y ≡ false) test xs h.0, rest)
  by false rest = rest

-- an image that stands behind a point isn't its own
other-image : (point other : CountedPoint) (points : List CountedPoint) → AllByRecursion (λ (y : List ℤ). same_point point.image y ≡ false) (images points)
    → Member other points → point.image ≡ other.image → ⊥
other-image point other points apart member e =
    false≢true (sym (All-member (λ (y : List ℤ). same_point point.image y ≡ false) (images points) other.image apart
    (Member-map (λ (p : CountedPoint). p.image) other points member)) ∙ (point_decides point.image other.image).1 e)

-- points with one image are one
one-image : (points : List CountedPoint) → IsDistinct same_point (images points) → (one other : CountedPoint) → Member one points → Member other points
    → one.image ≡ other.image → one ≡ other
unfolding IsDistinct
one-image [] h one other m n e = absurd m
one-image (p ∷ points) h one other (inl a) (inl b) e = a ∙ sym b
one-image (p ∷ points) h one other (inl a) (inr n) e = absurd (other-image p other points h.0 n (sym (ap (λ (x : CountedPoint). x.image) a) ∙ e))
one-image (p ∷ points) h one other (inr m) (inl b) e = absurd (other-image p one points h.0 m (sym (ap (λ (x : CountedPoint). x.image) b) ∙ sym e))
one-image (p ∷ points) h one other (inr m) (inr n) e = one-image points h.1 one other m n e

-- and so are points whose coordinates agree
pub told-apart : (d : ℕ) (points : List CountedPoint) → AllByRecursion (λ (point : CountedPoint). length point.image ≡ d) points → IsDistinct same_point (images points)
    → (one other : CountedPoint) → Member one points → Member other points → ((i : ℕ) → i < d → coordinate_of one i ≡ coordinate_of other i) → one ≡ other
told-apart d points long distinct one other m n agree =
    let long_one : length one.image ≡ d = All-member (λ (point : CountedPoint). length point.image ≡ d) points one long m in
    let long_other : length other.image ≡ d = All-member (λ (point : CountedPoint). length point.image ≡ d) points other long n in
    one-image points distinct one other m n (ext_get_or (pos 0) one.image other.image (omega arith) (λ i below. agree i (omega arith)))
