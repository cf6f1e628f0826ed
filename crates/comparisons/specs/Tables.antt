-- Rows of tables as comma-separated values (RFC 4180) and as lines of JSON (RFC 8259).
use Rattle.std.specs.Prelude.{◌≡◌, ⊤, ℕ, Bool, ◌==◌, ◌||◌, ◌+◌, ◌*◌, ◌/◌, ◌%◌, nat_lt, if◌then◌else◌, List, [], ◌∷◌, ◌++◌, codes, decimal}
use Rattle.std.specs.List.{flat_map, list_any}
use Rattle.tile_sched.specs.declared.unplayed.Unplayed.{Unplayed}
use Rattle.tile_sched.specs.declared.unplayed.Unplayed.TheVariants.{Assumption, TooMany, OutOfOrder, TooSmall}
use Rattle.comparisons.specs.declared.plays.Played.{Played}
use Rattle.comparisons.specs.declared.plays.Played.TheVariants.{Totals, Refused}
use Rattle.comparisons.specs.declared.rows.Row.{Row}
use Rattle.comparisons.specs.declared.tables.Shape.{Shape}
use Rattle.comparisons.specs.declared.tables.Shape.TheVariants.{Text, Csv, Json}

-- whether a byte can't stand in a field without quotation marks
abbrev pub needs_quotes : ℕ → Bool
needs_quotes byte = (byte == 44) || (byte == 34) || (byte == 10) || (byte == 13)

-- a byte between quotation marks, where a quotation mark stands twice
abbrev pub quoted : ℕ → List ℕ
quoted byte = if byte == 34 then 34 ∷ 34 ∷ [] else byte ∷ []

-- a name as a field
abbrev pub field : List ℕ → List ℕ
field name = if list_any needs_quotes name then codes "\"" ++ flat_map quoted name ++ codes "\"" else name

-- a digit to the base 16
abbrev pub hex_digit : ℕ → ℕ
hex_digit n = if nat_lt n 10 then n + 48 else n + 87

-- a byte of a string
abbrev pub character : ℕ → List ℕ
character byte =
    if nat_lt byte 32 then codes "\\u00" ++ hex_digit (byte / 16) ∷ hex_digit (byte % 16) ∷ []
    else (if (byte == 34) || (byte == 92) then 92 ∷ byte ∷ [] else byte ∷ [])

-- a name as a string
abbrev pub string : List ℕ → List ℕ
string name = codes "\"" ++ flat_map character name ++ codes "\""

-- hundredths with two decimals
abbrev pub decimals : ℕ → List ℕ
decimals hundredths = decimal (hundredths / 100) ++ codes "." ++ decimal (hundredths % 100 / 10) ++ decimal (hundredths % 10)

-- the loads over a bound with two decimals, rounded down, and another text where the bound is 0
abbrev pub ratio_text : ℕ → ℕ → List ℕ → List ℕ
ratio_text loads bound otherwise = if bound == 0 then otherwise else decimals (loads * 100 / bound)

-- what comes of a schedule, as fields: none where it isn't played
abbrev pub outcome_fields : ℕ → Played → List ℕ
outcome_fields bound (Totals loads stores) = decimal loads ++ codes "," ++ decimal stores ++ codes "," ++ ratio_text loads bound (codes "")
outcome_fields bound (Refused unplayed) = codes ",,"

-- why a schedule isn't played
abbrev pub reason_text : Unplayed → List ℕ
reason_text (Assumption number) = codes "assumption " ++ decimal number ++ codes ", counted from 0, is false"
reason_text TooMany = codes "there are too many vertices"
reason_text (OutOfOrder vertex source) = codes "vertex " ++ decimal vertex ++ codes " comes before vertex " ++ decimal source ++ codes ", whose value it reads"
reason_text (TooSmall vertex need) = codes "vertex " ++ decimal vertex ++ codes " needs " ++ decimal need ++ codes " words at once"

-- and as members of an object: null where it isn't played, with the reason
abbrev pub outcome_members : ℕ → Played → List ℕ
outcome_members bound (Totals loads stores) =
    codes "\"loads\":" ++ decimal loads ++ codes ",\"stores\":" ++ decimal stores ++ codes ",\"over\":" ++ ratio_text loads bound (codes "null")
outcome_members bound (Refused unplayed) = codes "\"loads\":null,\"stores\":null,\"over\":null,\"reason\":\"" ++ reason_text unplayed ++ codes "\""

-- a row as comma-separated values
abbrev pub fields_line : Row → List ℕ
fields_line row =
    (decimal row.s ++ codes "," ++ decimal row.bound ++ codes ",") ++ outcome_fields row.bound row.played ++ codes "," ++ field row.schedule.now ++ codes "\n"

-- a row as an object
abbrev pub object_line : Row → List ℕ
object_line row =
    (codes "{\"S\":" ++ decimal row.s ++ codes ",\"bound\":" ++ decimal row.bound ++ codes ",") ++ outcome_members row.bound row.played ++ codes ",\"schedule\":"
    ++ string row.schedule.now ++ codes "}\n"

-- What a row adds to a page. Of columns for readers nothing is said.
abbrev pub AddsRow : Shape → Row → List ℕ → List ℕ → Type 0
AddsRow Text row before after = ⊤
AddsRow Csv row before after = after ≡ before ++ fields_line row
AddsRow Json row before after = after ≡ before ++ object_line row

-- the line above the rows: names of columns, and none above objects
abbrev pub head_line : Shape → List ℕ
head_line Text = codes "           S           bound           loads          stores  over  schedule\n"
head_line Csv = codes "S,bound,loads,stores,over,schedule\n"
head_line Json = codes ""
