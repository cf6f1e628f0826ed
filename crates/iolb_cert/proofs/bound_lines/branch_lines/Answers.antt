use Rattle.std.proofs.Common.{◌∙◌, ◌+◌, map, drop}
use Rattle.std.specs.Prelude.{flat_map, codes, decimal}
use Rattle.iolb_model.specs.Printed.{branches_text, bound_term_text}
use Rattle.iolb_check.specs.Bounds.{bound_of, term_of}
use Rattle.iolb_cert.proofs.Branches.{branches_step, joined, terms-at}
use Rattle.iolb_cert.proofs.bound_lines.branch_lines.Goals as goal

pub loop-i-preserved : goal.loop-i-preserved
loop-i-preserved c =
    joined c.extend_from_slice.new.self.items c.loop-i.text.items c.push_number_line.new.text.items c.as_slice.result.now
    (flat_map (bound_term_text c.args.names.now) (map term_of c.terms.result.now)) (codes "branch ") (decimal c.loop-i.i) (codes "\n")
    (branches_text c.args.names.now (c.loop-i.i + 1) (drop (c.loop-i.i + 1) (bound_of c.args.bound.now).branches))
    (branches_text c.args.names.now c.loop-i.i (drop c.loop-i.i (bound_of c.args.bound.now).branches))
    (branches_text c.args.names.now 0 (bound_of c.args.bound.now).branches)
    c.in_ok-extend_from_slice.ensures.items (c.as_slice.ensures.value ∙ c.in_ok-term_lines.ensures) c.in_ok-push_number_line.ensures
    (branches_step c.args.names.now c.loop-i.i (bound_of c.args.bound.now).branches (map term_of c.terms.result.now) (terms-at c.args.bound.now.branches c.loop-i.i c.terms.result.now c.terms.ensures.terms))
    c.loop-i.invariant
