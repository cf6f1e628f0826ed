-- Bounds on loads, and their values at parameter values and a number S of red pebbles.
use Rattle.std.specs.Prelude.{◌≡◌, ℕ, zero, suc, ◌+◌, ◌-◌, ◌*◌, ◌/◌, ◌^◌, nat_lt, if◌then◌else◌, max, ℤ, pos, int_div, List, length, sum, map, fold}
use Rattle.iolb_model.specs.Form.{AffineForm}
pub use Rattle.iolb_model.specs.Form.{AreMet}
use Rattle.iolb_model.specs.Program.{AffineProgram}
use Rattle.iolb_model.specs.Execution.{natural}
use Rattle.iolb_model.specs.Polynomial.{Polynomial, numerator}

-- admitted parameter values: one for each parameter, of either sign and any size, where each assumption is met
pub record IsAdmitted (program : AffineProgram) (values : List ℤ) : Type 0 where
  pub each : length values ≡ length program.parameters
  pub met : AreMet program.assumptions values

-- The numbers of a partition or a joint term: a stretch of moves has a * S + b events; over T of them, labels of S + T words at
-- most are there for each family of reused words, and the cover inequality bounds the points among them by these weights.
pub record StretchNumbers : Type 0 where
  pub a : ℕ
  pub b : ℕ
  pub q : ℕ
  pub m : ℕ
  pub num : ℕ
  pub den : ℕ

-- A term of a bound. A cold term is the number of certain input cells, each of which is loaded at least once. A wavefront
-- term has the number of words that are there when certain vertices are computed, and the number of these vertices: S of
-- the words may be red at each, and the others are loaded later (Elango et al. 2014, by loads alone). A partition term has
-- the number of certain instances, that of others whose computations aren't counted, and the numbers of its stretches: so
-- many of the instances at most are computed in a stretch (Hong and Kung 1981). A joint term has the same of images of instances:
-- several statements are counted in one space, or an instance under several images.
pub data BoundTerm : Type 0 where
  cold : Polynomial → BoundTerm
  wavefront : Polynomial → Polynomial → BoundTerm
  partition : Polynomial → Polynomial → StretchNumbers → BoundTerm
  joint : Polynomial → Polynomial → StretchNumbers → BoundTerm

-- the program's assumptions, and branches, each a list of terms
pub record Bound : Type 0 where
  pub assumptions : List AffineForm
  pub branches : List (List BoundTerm)

-- the value of a polynomial that is a whole number of at least 0 at the parameter values
abbrev pub count_value : Polynomial → List ℤ → ℕ
count_value polynomial values = natural (int_div (numerator polynomial values) (pos polynomial.denominator))

-- the greatest number up to n whose q-th power, times den, is at most top, and at least 1
abbrev pub greatest_up_to : ℕ → ℕ → ℕ → ℕ → ℕ
greatest_up_to q den top zero = 1
greatest_up_to q den top (suc n) = if nat_lt top (suc n ^ q * den) then greatest_up_to q den top n else suc n

-- the events of a stretch, and how many of a partition term's instances at most are computed in one: the greatest u with
-- u^q * den at most num * (S + T)^m, and at least 1 (q and den are at least 1, so u is no more than that)
abbrev pub events_of : StretchNumbers → ℕ → ℕ
events_of numbers s = numbers.a * s + numbers.b

abbrev pub labels_of : StretchNumbers → ℕ → ℕ
labels_of numbers s = numbers.num * (s + events_of numbers s) ^ numbers.m

abbrev pub points_of : StretchNumbers → ℕ → ℕ
points_of numbers s = greatest_up_to numbers.q numbers.den (labels_of numbers s) (labels_of numbers s)

-- the events of the stretches that so many points fill, but for those of the credits: the last of the points may be in a stretch
-- that isn't whole
abbrev pub stretch_value : Polynomial → Polynomial → StretchNumbers → List ℤ → ℕ → ℕ
stretch_value count credits numbers values s =
    events_of numbers s * ((count_value count values - 1) / points_of numbers s) - count_value credits values

-- The value of a term with S red pebbles.
abbrev pub term_value : BoundTerm → List ℤ → ℕ → ℕ
term_value (cold count) values s = count_value count values
term_value (wavefront pairs outer) values s = count_value pairs values - s * count_value outer values
term_value (partition count credits numbers) values s = stretch_value count credits numbers values s
term_value (joint count credits numbers) values s = stretch_value count credits numbers values s

-- the value of a branch is the sum of its terms' values
abbrev pub branch_value : List BoundTerm → List ℤ → ℕ → ℕ
branch_value terms values s = sum (map (λ term. term_value term values s) terms)

-- the value of a bound is the greatest value of its branches, and 0 if there is none
abbrev pub bound_value : Bound → List ℤ → ℕ → ℕ
bound_value bound values s = fold max 0 (map (λ terms. branch_value terms values s) bound.branches)
