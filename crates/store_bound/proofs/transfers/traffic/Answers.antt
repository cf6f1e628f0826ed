use Rattle.store_bound.proofs.TrafficAnswers.{answered, answered-wide, counting, made, valued}
use Rattle.store_bound.proofs.transfers.traffic.Goals as goal

pub both_at-requires-clause-counting : goal.both_at-requires-clause-counting
both_at-requires-clause-counting c =
    counting c.args.program.now c.args.certificate.now c.args.stores.now c.args.sizes.now c.args.s c.in-Ok.bound c.in-Ok-check_stores.counts.items c.as_slice-counts.result.now c.named_terms-terms.result.now c.branch-branch.result
    c.in-Ok.ensures.assumed c.in-Ok.ensures.meets c.as_slice-counts.ensures.value c.branch-branch.ensures.branch c.named_terms-terms.ensures c.in-Ok-check_stores.ensures.sound

pub both_at-requires-clause-valued : goal.both_at-requires-clause-valued
both_at-requires-clause-valued c =
    valued c.args.program.now c.args.certificate.now c.args.stores.now c.args.sizes.now c.args.s c.in-Ok.bound c.in-Ok-check_stores.counts.items c.as_slice-counts.result.now c.named_terms-terms.result.now c.branch-branch.result
    c.in-Ok.ensures.assumed c.in-Ok.ensures.meets c.as_slice-counts.ensures.value c.branch-branch.ensures.branch c.named_terms-terms.ensures

pub returns-in-Ok-both_at-clause-answer : goal.returns-in-Ok-both_at-clause-answer
returns-in-Ok-both_at-clause-answer c =
    answered c.args.program.now c.args.certificate.now c.args.stores.now c.args.sizes.now c.args.s c.in-Ok.bound c.in-Ok-check_stores.counts.items c.as_slice-counts.result.now c.named_terms-terms.result.now c.branch-branch.result
    c.in-Ok.ensures.assumed c.in-Ok.ensures.meets c.as_slice-counts.ensures.value c.branch-branch.ensures.branch c.named_terms-terms.ensures
    c.in-Ok-both_at.traffic c.in-Ok-check_stores.ensures.meets c.in-Ok-both_at.ensures

pub returns-in-Ok-both_at-clause-transferred : goal.returns-in-Ok-both_at-clause-transferred
returns-in-Ok-both_at-clause-transferred c =
    made c.args.program.now c.args.certificate.now c.args.stores.now c.args.sizes.now c.args.s c.in-Ok.bound c.in-Ok-check_stores.counts.items c.as_slice-counts.result.now c.named_terms-terms.result.now c.branch-branch.result
    c.in-Ok.ensures.assumed c.in-Ok.ensures.meets c.as_slice-counts.ensures.value c.branch-branch.ensures.branch c.named_terms-terms.ensures
    c.in-Ok-both_at.traffic c.in-Ok-both_at.ensures c.in-Ok.ensures.holds c.sound_stores_are_made.ensures (record { meets = c.in-Ok.ensures.meets; sound = c.in-Ok.ensures.sound; counts = c.in-Ok.ensures.counts }) c.in-Ok-check_stores.ensures.sound c.requires.each c.requires.some

pub returns-clause-answer : goal.returns-clause-answer
returns-clause-answer c =
    answered-wide c.args.program.now c.args.certificate.now c.args.stores.now c.args.sizes.now c.args.s c.in-Ok.bound c.in-Ok-check_stores.counts.items c.as_slice-counts.result.now c.named_terms-terms.result.now c.branch-branch.result
    c.in-Ok.ensures.assumed c.in-Ok.ensures.meets c.as_slice-counts.ensures.value c.branch-branch.ensures.branch c.named_terms-terms.ensures
    c.in-Err-Wide.field-0 c.in-Err-Wide.field-0-is c.in-Ok-check_stores.ensures.meets c.in-Err-Wide.ensures
