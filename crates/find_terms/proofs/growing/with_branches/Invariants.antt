use Rattle.std.specs.List.{AllByRecursion}
use Rattle.affine_program.specs.Parts.{meaning}
use Rattle.find_terms.specs.AcceptedCertificates.{Gives}
use Rattle.find_terms.specs.Opened.{BeginsWithOpening}
use Rattle.find_terms.specs.Proposed.{IsProposal}
use Rattle.find_terms.proofs.growing.with_branches.Given as goal

abbrev pub invariant-loop-branch : goal.invariant-loop-branch
invariant-loop-branch l = record {
  gives : Gives l.program l.growing.certificate l.growing.bound;
  opening : BeginsWithOpening (meaning l.program) l.growing.certificate.branches;
  proposals : AllByRecursion IsProposal l.branch-iterator.rest.items;
}
