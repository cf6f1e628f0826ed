-- A file that was opened.
use Rattle.std.proofs.Common.{◌≡◌, ◌⊎◌, inl, inr, sym, ◌∙◌, ℕ, Vec, Global}
use Rattle.std.specs.Prelude.{Result, Ok, Err, IsOkAnd, IsErrOf}
use Rattle.iolb_host.specs.declared.files.FileFault.{FileFault}
use Rattle.iolb_host.specs.declared.files.FileFault.TheVariants.{TooLong, Memory}

-- where it was opened and this holds of it, there is such a file
pub some_file : {S E : Type 0} (opened : Result S E) (P : S → Type 0) → IsOkAnd opened P → (file : S) × P file
some_file (Ok file) P holds = (file, holds)
some_file (Err error) P holds = absurd holds

-- a file that is too long was so before its fault was noted
pub was_long : (result outcome : Result (Vec ℕ Global) FileFault) → (result ≡ outcome) ⊎ IsErrOf result Memory → IsErrOf result TooLong → IsErrOf outcome TooLong
was_long result outcome (inl same) long = sym same ∙ long
was_long result outcome (inr memory) long = absurd cc
