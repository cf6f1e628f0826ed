-- A text means one program at most, and then it has no fault.
use Rattle.std.proofs.Common.{◌≡◌, refl, sym, ◌∙◌, ap, ℕ, List}
use Rattle.std.specs.Prelude.{Result, Ok, Option, Some, None, option_map}
use Rattle.iolb_model.specs.Program.{AffineProgram}
use Rattle.c_tokens.specs.Text.{tokens_of}
use Rattle.c_reading.specs.Text.{Reading, reading_of}
use Rattle.c_grammar.specs.Meaning.{text_means}
use Rattle.c_grammar.specs.Program.{program_of, Means}
use Rattle.c_grammar.proofs.RunText.{spelled}
use Rattle.c_grammar.proofs.Lexical.{text_lexical}
use Rattle.affine_c.specs.declared.fault.ProgramFault.{ProgramFault}
use Rattle.affine_c.specs.Laws.{TextsMeanOneProgram}
use Rattle.affine_c.specs.Meaning.{HasFault}

-- a text that means a program is read so
is_read : (bytes : List ℕ) (p : AffineProgram) → Means bytes p → (r : Reading) × (reading_of bytes ≡ Ok r) × (program_of r ≡ p)
is_read bytes p m = by (text_means m.tree) (λ r e. spelled bytes m.tree r (tokens_of bytes) (text_lexical bytes) m.spelled e) m.meant where
  by : (o : Option Reading) → ((r : Reading) → o ≡ Some r → reading_of bytes ≡ Ok r) → option_map program_of o ≡ Some p → (r : Reading) × (reading_of bytes ≡ Ok r) × (program_of r ≡ p)
  by None f e = absurd cc
  by (Some r) f e = (r, f r refl, cc)

-- it has no fault
pub meant_without_fault : (bytes : List ℕ) (fault : ProgramFault) (p : AffineProgram) → HasFault bytes fault → Means bytes p → ⊥
meant_without_fault bytes fault p has m = let read = (is_read bytes p m).1 in absurd cc

pub one_program : TextsMeanOneProgram
one_program bytes p q a b =
    let first = is_read bytes p a in
    let second = is_read bytes q b in
    let same : first.0 ≡ second.0 = oks (sym first.1 ∙ second.1) in
    sym first.2 ∙ ap program_of same ∙ second.2 where
      oks : {X E : Type 0} {x y : X} → ◌≡◌ {A = Result X E} (Ok x) (Ok y) → x ≡ y
      oks e = cc
