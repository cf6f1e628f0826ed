-- Parts of a program that aren't yet known to be one.
use Rattle.affine_program.specs.declared.draft.Draft.{Draft}
use Rattle.affine_program.specs.Parts.{ProgramParts}

-- the parts that a draft holds
abbrev pub parts_of : Draft → ProgramParts
parts_of draft = record {
  params = draft.params.items;
  assumed = draft.assumed;
  arrays = draft.arrays.items;
  statements = draft.statements.items;
  tree = draft.tree.items;
}
