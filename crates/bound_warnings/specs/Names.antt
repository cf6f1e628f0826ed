-- Warnings about parameters whose names mean something else in bounds.
use Rattle.std.specs.Prelude.{ℕ, ◌==◌, if◌then◌else◌, List, [], ◌∷◌, ◌++◌, Option, Some, None, codes}

-- what a name means where bounds are written, if it means something: S, T and U
abbrev pub meaning : List ℕ → Option (List ℕ)
meaning [] = None
meaning (byte ∷ []) =
    if byte == 83 then Some (codes "the words of fast memory")
    else (if byte == 84 then Some (codes "the events of a stretch of moves") else (if byte == 85 then Some (codes "the instances of a stretch of moves") else None))
meaning (byte ∷ next ∷ bytes) = None

-- what stands before a name, and behind one that means this
abbrev pub before_name : List ℕ → List ℕ
before_name file = file ++ codes ": warning: the parameter `"

abbrev pub behind_name : List ℕ → List ℕ
behind_name text = codes "` has the name that bounds give to " ++ text ++ codes "\nhelp: give it another name\n"

-- the lines about a parameter of a file's program, where its name means this: none where it means nothing
abbrev pub lines_of : List ℕ → List ℕ → Option (List ℕ) → List ℕ
lines_of file name None = []
lines_of file name (Some text) = before_name file ++ name ++ behind_name text

abbrev pub name_lines : List ℕ → List ℕ → List ℕ
name_lines file name = lines_of file name (meaning name)
