use Rattle.std.proofs.Common.{◌∙◌, ap, List, []}
use Rattle.affine_program.specs.Parts.{meaning}
use Rattle.iolb_check.specs.declared.term.Branch.{Branch}
use Rattle.find_terms.proofs.Opened.{bare-accepted, bare-small, parts-of}
use Rattle.find_terms.proofs.accepted.bare.Goals as goal

pub within-certificate-requires : goal.within-certificate-requires
within-certificate-requires c = bare-small (meaning c.args.program.now) c.args.quasts c.new.result.items c.requires c.new.ensures.items

pub returns-clause-parts : goal.returns-clause-parts
returns-clause-parts c =
    parts-of c.args.program.now c.in_ok-accepted.field-0 c.in-Some.accepted c.within-certificate.result (record { quasts = c.args.quasts; branches = [] }) c.in-Some.is
    c.in_ok-accepted.ensures.accepted
    (c.within-certificate.ensures ∙ ap (λ (all : List Branch). record { quasts = c.args.quasts; branches = all }) c.new.ensures.items)

pub unreachable-requires : goal.unreachable-requires
unreachable-requires c =
    bare-accepted c.args.program.now c.within-certificate.result c.args.quasts c.new.result.items c.in_ok-accepted.field-0 c.params-params.ensures.kept c.requires
    c.within-certificate.ensures c.new.ensures.items c.in-None.is c.in_ok-accepted.ensures.none
