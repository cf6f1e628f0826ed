-- What a cold term claims, in the order in which it is tested.
use Rattle.std.specs.Prelude.{List, ◌++◌, length}
use Rattle.iolb_model.specs.Program.{AffineProgram}
use Rattle.claims.specs.Claims.{Claim}
use Rattle.claims.specs.declared.place.Step.{Step}
use Rattle.dep_quast.specs.Tree.{SelectionTree}
use Rattle.domain_count.specs.CountClaims.{count_claims}
use Rattle.wavefront.specs.Term.{ColdTerm, cell_forms}
use Rattle.wavefront.specs.Leaves.{inside_claims, term_leaves}
use Rattle.wavefront.specs.InverseClaims.{inverse_claims}

-- that the matrix turns the subscripts back into the scale times the nest's variables (condition 12)
abbrev pub matrix_claims : AffineProgram → List Step → ColdTerm → List Claim
matrix_claims program place term =
    inverse_claims term.matrix term.scale (length program.parameters) (length term.nest) (cell_forms program term) place

-- What is claimed past the count: that the instances are in their domain, what is claimed at the leaves of the read's
-- source tree, and that different points read different cells.
abbrev pub instance_claims : AffineProgram → List Step → SelectionTree → ColdTerm → List Claim
instance_claims program place tree term = inside_claims program place term ++ term_leaves program place tree term ++ matrix_claims program place term

-- What a cold term claims over the source tree of its read: its count, then its instances.
abbrev pub cold_claims : AffineProgram → List Step → SelectionTree → ColdTerm → List Claim
cold_claims program place tree term = count_claims program term.nest term.count place ++ instance_claims program place tree term
