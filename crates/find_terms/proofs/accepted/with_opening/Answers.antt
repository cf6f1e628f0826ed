use Rattle.std.proofs.Common.{◌≡◌, ◌∙◌, ap, sym, subst, List, [], ◌∷◌, ◌++◌}
use Rattle.affine_program.specs.Parts.{meaning}
use Rattle.iolb_check.specs.Limits.{IsWithinLimits}
use Rattle.iolb_check.specs.declared.term.Branch.{Branch}
use Rattle.find_terms.proofs.Opened.{opening-accepted, opening-small, parts-of}
use Rattle.find_terms.proofs.accepted.with_opening.Goals as goal

pub within-certificate-requires : goal.within-certificate-requires
within-certificate-requires c =
    let one : c.push.new.self.items ≡ c.args.branch ∷ [] = c.in_ok-push.ensures.items ∙ ap (λ (all : List Branch). all ++ c.args.branch ∷ []) c.new-branches.ensures.items in
    subst (λ (all : List Branch). IsWithinLimits (record { quasts = c.args.quasts; branches = all })) (sym one)
    (opening-small c.openings_are_accepted.ensures.limits (meaning c.args.program.now) c.args.quasts c.args.branch c.requires.trees c.requires.opening)

pub returns-clause-parts : goal.returns-clause-parts
returns-clause-parts c =
    parts-of c.args.program.now c.in_ok-accepted.field-0 c.in-Some.accepted c.within-certificate.result (record { quasts = c.args.quasts; branches = c.args.branch ∷ [] }) c.in-Some.is
    c.in_ok-accepted.ensures.accepted
    (c.within-certificate.ensures ∙ ap (λ (all : List Branch). record { quasts = c.args.quasts; branches = all })
    (c.in_ok-push.ensures.items ∙ ap (λ (all : List Branch). all ++ c.args.branch ∷ []) c.new-branches.ensures.items))

pub unreachable-requires : goal.unreachable-requires
unreachable-requires c =
    opening-accepted c.openings_are_accepted.ensures.conditions c.args.program.now c.within-certificate.result c.args.quasts c.push.new.self.items c.args.branch c.in_ok-accepted.field-0
    c.params-params.ensures.kept c.requires.trees c.requires.opening c.within-certificate.ensures
    (c.in_ok-push.ensures.items ∙ ap (λ (all : List Branch). all ++ c.args.branch ∷ []) c.new-branches.ensures.items) c.in-None.is c.in_ok-accepted.ensures.none
