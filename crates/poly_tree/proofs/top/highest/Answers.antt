use Rattle.std.proofs.Common.{◌≡◌, refl, sym, subst, inl, inr, ℕ, arith}
use Rattle.std.proofs.Math.IntN.{ℤ}
use Rattle.poly_tree.specs.Expansion.{Expansion, Parts, number, over, IsHighest, IsNumber, TopAtMost}
use Rattle.poly_tree.proofs.Sums.{highest-both}
use Rattle.poly_tree.specs.Tree.{expansion, parts_of}
use Rattle.poly_tree.proofs.top.highest.Goals as goal

first-over : (a b : Expansion) (v : ℕ) (ps : Parts) (n : ℤ) → a ≡ over v ps → b ≡ number n → IsHighest v a b
first-over a b v ps n e f = record { one = inl (ps, e); first = subst (TopAtMost v) (sym e) (omega arith); second = subst (TopAtMost v) (sym f) tt }

second-over : (a b : Expansion) (v : ℕ) (ps : Parts) (n : ℤ) → a ≡ number n → b ≡ over v ps → IsHighest v a b
second-over a b v ps n e f = record { one = inr (ps, f); first = subst (TopAtMost v) (sym e) tt; second = subst (TopAtMost v) (sym f) (omega arith) }

a-number : (t : Expansion) (n : ℤ) → t ≡ number n → IsNumber t
a-number t n e = subst IsNumber (sym e) refl

pub returns-in-Over-Over : goal.returns-in-Over-Over
returns-in-Over-Over c =
    let i = c.in-Over-Over in
    highest-both (expansion c.args.a.now) (expansion c.args.b.now) i.v i.w c.max.result (parts_of i.field-1-0.now) (parts_of i.field-1-1.now) i.ensures i.ensures' c.max.ensures

pub returns-in-Over-Number : goal.returns-in-Over-Number
returns-in-Over-Number c =
    let i = c.in-Over-Number in
    first-over (expansion c.args.a.now) (expansion c.args.b.now) i.v (parts_of i.field-1-0.now) i.field-0-1 i.ensures i.ensures'

pub returns-in-Number-Over : goal.returns-in-Number-Over
returns-in-Number-Over c =
    let i = c.in-Number-Over in
    second-over (expansion c.args.a.now) (expansion c.args.b.now) i.w (parts_of i.field-1-1.now) i.field-0-0 i.ensures i.ensures'

pub returns-in-Number-Number : goal.returns-in-Number-Number
returns-in-Number-Number c =
    let i = c.in-Number-Number in
    (a-number (expansion c.args.a.now) i.field-0-0 i.ensures, a-number (expansion c.args.b.now) i.field-0-1 i.ensures')
