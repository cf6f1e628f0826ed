-- What files tell of the file of a name.
use Rattle.std.specs.Prelude.{◌≡◌, ℕ, ◌<◌, ◌≤◌, List, length, Option, Some, None, Err, IfSome, IsSomeAnd}
use Rattle.iolb_host.specs.declared.files.FileFault.{FileFault}
use Rattle.iolb_host.specs.declared.files.FileFault.TheVariants.{Missing, TooLong, Failed, Memory}
use Rattle.iolb_host.specs.Files.{FileMap, Answers, content_of}

-- What a read may give: at most so many bytes, and where the files tell their content, those under the name.
pub record IsContent (files : Option FileMap) (name : List ℕ) (most : ℕ) (bytes : List ℕ) : Type 0 where
  pub few : length bytes ≤ most
  pub told : IfSome files (λ map. content_of map name ≡ Some bytes)

-- The content under a name is missing, or longer than so many bytes. (A failed read and want of memory are no such cause.)
abbrev pub IsAbsent : Option (List ℕ) → ℕ → FileFault → Type 0
IsAbsent content most Missing = content ≡ None
IsAbsent content most TooLong = IsSomeAnd content (λ bytes. most < length bytes)
IsAbsent content most Failed = ⊥
IsAbsent content most Memory = ⊥

-- Why a read of at most so many bytes may give none, as far as the files tell: it is missing where no file has the name,
-- and too long where the file has more bytes. A read may always fail, and memory may always be wanted.
abbrev pub FaultCause : Option FileMap → List ℕ → ℕ → FileFault → Type 0
FaultCause files name most fault = IfSome files (λ map. Answers (content_of map name) most (Err fault))
