-- What the words of a printed text are.
use Rattle.std.specs.Prelude.{◌≡◌, Some}
use Rattle.affine_program.specs.Parts.{ProgramParts, meaning, IsProgram}
use Rattle.c_grammar.specs.Words.{words_of}
use Rattle.c_grammar.specs.Text.{text_words}
use Rattle.affine_c.specs.Text.{program_text}
use Rattle.affine_c.specs.Tree.{program_tree}

-- The words of the text that prints a program are those of the program's syntax tree.
abbrev pub WordsArePrinted : Type 0
WordsArePrinted = (parts : ProgramParts) → IsProgram parts → words_of (program_text (meaning parts)) ≡ Some (text_words (program_tree (meaning parts)))
