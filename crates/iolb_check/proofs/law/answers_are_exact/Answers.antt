use Rattle.iolb_check.proofs.Exactness.{refusals-once, valid-certificates-give-one, valid-certificates-have-values, valid-certificates-stand}
use Rattle.iolb_check.proofs.law.answers_are_exact.Goals as goal

pub returns-clause-stand : goal.returns-clause-stand
returns-clause-stand c = valid-certificates-stand

pub returns-clause-values : goal.returns-clause-values
returns-clause-values c = valid-certificates-have-values

pub returns-clause-one : goal.returns-clause-one
returns-clause-one c = valid-certificates-give-one

pub returns-clause-refused : goal.returns-clause-refused
returns-clause-refused c = refusals-once
