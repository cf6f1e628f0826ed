use Rattle.std.specs.List.{AllByRecursion}
use Rattle.find_terms.specs.Proposed.{IsProposal}
use Rattle.find_terms.proofs.proposed.proposed_branches.Given as goal

abbrev pub invariant-loop-proposal : goal.invariant-loop-proposal
invariant-loop-proposal l = AllByRecursion IsProposal l.branches.items
