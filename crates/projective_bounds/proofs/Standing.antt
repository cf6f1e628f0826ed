-- The source trees of a projective program stand.
use Rattle.std.proofs.Common.{◌≡◌, sym, subst, ℕ, suc, List, [], ◌∷◌, length}
use Rattle.iolb_model.specs.Program.{AffineProgram}
use Rattle.dep_quast.specs.Tree.{SelectionTree}
use Rattle.flow_deps.specs.Standing.{AllStand, AreStanding}
use Rattle.projective.specs.SourceTrees.{AreFromRead, AreSourceTrees}

each-standing : (program : AffineProgram) (read : ℕ) (row : List SelectionTree) → AreFromRead program read row → AreStanding program 0 read row
each-standing program read [] h = tt
each-standing program read (tree ∷ row) h = (record { stands = h.0.stands; few = h.0.few }, each-standing program (suc read) row h.1)

pub all-standing : (program : AffineProgram) (rows : List (List SelectionTree)) → length program.statements ≡ 1 → AreSourceTrees program rows → AllStand program rows
all-standing program rows one h =
    subst (AllStand program) (sym h.one) (record { many = sym one; rows = (record { many = h.many; each = each-standing program 0 h.row h.each }, tt) })
