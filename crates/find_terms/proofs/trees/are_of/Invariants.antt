use Rattle.std.proofs.Common.{◌≡◌, drop}
use Rattle.std.specs.List.{list_any}
use Rattle.dep_quast.specs.Views.{read_of}
use Rattle.find_terms.specs.Trees.{is_of_read}
use Rattle.find_terms.proofs.trees.are_of.Given as goal

abbrev pub invariant-loop-term : goal.invariant-loop-term
invariant-loop-term l = list_any (is_of_read (read_of l.reader)) (drop l.term-index l.terms) ≡ list_any (is_of_read (read_of l.reader)) l.terms
