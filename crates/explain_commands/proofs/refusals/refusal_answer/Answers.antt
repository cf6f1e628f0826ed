use Rattle.affine_program.specs.Parts.{meaning}
use Rattle.iolb_check.specs.Claims.{claim_of_certificate}
use Rattle.explain_commands.proofs.refusals.refusal_answer.Goals as goal

pub returns-clause-meets : goal.returns-clause-meets
returns-clause-meets c = record {
  program = meaning c.in_ok-program.program;
  means = c.in_ok-program.ensures;
  certificate = claim_of_certificate c.in_ok-certificate.certificate;
  has = c.in_ok-certificate.ensures;
  values = c.in_ok-_bound._bound.branches;
  meets = c.in_ok-_bound.ensures.meets;
}
