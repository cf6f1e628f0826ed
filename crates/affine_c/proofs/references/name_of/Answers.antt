use Rattle.std.proofs.Common.{sym, ◌∙◌, ap, ℕ, List, [], get_or}
use Rattle.std.proofs.lemmas.List.{get_or-map}
use Rattle.iolb_model.specs.Program.{Array}
use Rattle.affine_program.specs.Parts.{array_of}
use Rattle.affine_c.proofs.references.name_of.Goals as goal

pub returns : goal.returns
returns c =
    ap (λ (a : List ℕ × ℕ). a.0) (c.index-arrays-from.is ∙ ap (λ (l : List (List ℕ × ℕ)). get_or l c.from.result c.index-arrays-from.result) c.arrays.ensures.arrays
    ∙ ap (λ (n : ℕ). get_or c.args.program.now.arrays n c.index-arrays-from.result) c.from.ensures)
    ∙ sym (ap (λ (a : Array). a.name) (get_or-map array_of c.args.program.now.arrays c.args.array c.index-arrays-from.result (record { name = []; rank = 0 }) c.requires))
