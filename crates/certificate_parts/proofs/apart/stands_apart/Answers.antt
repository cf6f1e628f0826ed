use Rattle.std.proofs.Common.{◌≡◌, length, Some, arith}
use Rattle.std.specs.Prelude.{slice_get}
use Rattle.poly_tree.specs.Terms.{terms_of}
use Rattle.iolb_model.specs.Polynomial.{Term}
use Rattle.certificate_parts.specs.Polynomials.{exponent_lists}
use Rattle.certificate_parts.proofs.ApartLists.{first-is, first-none, has-more, stands-apart}
use Rattle.certificate_parts.proofs.apart.stands_apart.Goals.{in-Some+else-len-exponents, in_default}
use Rattle.certificate_parts.proofs.apart.stands_apart.Goals as goal

first : (c : goal.In_ok-insert) → (term : Term) → Some term ≡ slice_get (terms_of c.args.earlier.now) 0 → length term.exponents ≡ length c.args.exponents.now
first c term is = elim c.match-first.branch [
  | in-Some+else-len-exponents w ↦ first-is c.args.earlier.now w.in-Some.field-0.now term (length c.args.exponents.now) w.in-Some.ensures.value is (omega (arith, w.in-Some.field-0.now.1.ok, w.len.ensures, w.if-len-exponents.false))
  | in_default w ↦ absurd (first-none c.args.earlier.now term w.in_default.ensures.value is)
]

pub returns-clause-apart : goal.returns-clause-apart
returns-clause-apart c =
    stands-apart (terms_of c.args.earlier.now) c.args.lists.now c.in_ok-list.list c.args.exponents.now c.in_ok-insert.field-0 c.requires.apart (first c) c.requires.lists c.in_ok-list.ensures.items c.in_ok-insert.ensures.added

pub returns-clause-lists : goal.returns-clause-lists
returns-clause-lists c = λ e.
    has-more c.args.lists.now c.insert.new.self c.in_ok-list.list (exponent_lists (terms_of c.args.earlier.now)) c.args.exponents.now c.requires.lists c.in_ok-list.ensures.items c.in_ok-insert.ensures.updates
