-- A look-up in a map of the program, in the words of the files that it holds.
use Rattle.std.proofs.Common.{◌≡◌, ℕ, Bool, true, false, cond, List, [], ◌∷◌, Option, Some, String, Vec, refl, sym, ap, ◌∙◌}
use Rattle.std.specs.Option.{option_map}
use Rattle.std.specs.String.{string_bytes}
use Rattle.std.specs.Map.{lookup}
use Rattle.std.specs.BTreeMap.{BTreeMap, is_at, get_by_text}
use Rattle.std.specs.Ordering.{nat_cmp}
use Rattle.std.specs.Cmp.Lexicographic.{slice_cmp}
use Rattle.std.specs.Str.{bytes_eq}
use Rattle.std.specs.declared.alloc.Global.{Global}
use Rattle.std.proofs.lemmas.Map.Text.{is_eq-slice_cmp}
use Rattle.iolb_host.specs.Files.{content_of}
use Rattle.iolb_host.specs.MemFiles.{files_of, files_in}

choice : (test : Bool) (bytes : Vec ℕ Global) (here : Option (List ℕ)) (there : Option (Vec ℕ Global)) →
    here ≡ option_map (λ found. found.items) there →
    cond test (Some bytes.items) here ≡ option_map (λ found. found.items) (cond test (Some bytes) there)
choice true bytes here there same = refl
choice false bytes here there same = same

in_entries : (name : List ℕ) (entries : List (String Global × Vec ℕ Global)) →
    lookup (λ other. bytes_eq name other) (files_in entries)
    ≡ option_map (λ bytes. bytes.items) (lookup (is_at (λ key. slice_cmp nat_cmp name (string_bytes key))) entries)
in_entries name [] = refl
in_entries name (entry ∷ entries) =
    rw is_eq-slice_cmp (choice (bytes_eq name (string_bytes entry.0)) entry.1 _ _ (in_entries name entries))

-- what the map finds under a name is the content of the file of this name
pub content_of-files_of : (files : BTreeMap (String Global) (Vec ℕ Global)) (name : List ℕ) (found : Option (Vec ℕ Global)) →
    found ≡ get_by_text files name → content_of (files_of files) name ≡ option_map (λ bytes. bytes.items) found
content_of-files_of files name found is = in_entries name files.entries ∙ ap (option_map (λ bytes. bytes.items)) (sym is)
