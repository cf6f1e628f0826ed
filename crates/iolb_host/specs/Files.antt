-- What a store of files tells of its files, and what a read of one answers.
use Rattle.std.specs.Prelude.{◌≡◌, ℕ, ◌<◌, ◌≤◌, ⊤, List, length, Option, Some, None, IsSomeAnd, Result, Ok, Err, Vec}
use Rattle.std.specs.declared.alloc.Global.{Global}
use Rattle.std.specs.Map.{lookup}
use Rattle.std.specs.Str.{bytes_eq}
use Rattle.iolb_host.specs.declared.files.FileFault.{FileFault}
use Rattle.iolb_host.specs.declared.files.FileFault.TheVariants.{Missing, TooLong, Failed, Memory}

-- the map from names to bytes, as a list of names, each with the bytes of its file
abbrev pub FileMap : Type 0
FileMap = List (List ℕ × List ℕ)

-- the bytes of the file of this name, if there is one
abbrev pub content_of : FileMap → List ℕ → Option (List ℕ)
content_of files name = lookup (λ other. bytes_eq name other) files

-- What a read of at most `most` bytes may answer, by what the map has under the name: exactly the bytes, where there are at
-- most that many; that the name is missing, where it is; that the file is too long, where it is. A read may always
-- fail, or lack memory.
abbrev pub Answers : Option (List ℕ) → ℕ → Result (Vec ℕ Global) FileFault → Type 0
Answers content most (Ok bytes) = (content ≡ Some bytes.items) × (length bytes.items ≤ most)
Answers content most (Err Missing) = content ≡ None
Answers content most (Err TooLong) = IsSomeAnd content (λ bytes. most < length bytes)
Answers content most (Err Failed) = ⊤
Answers content most (Err Memory) = ⊤
