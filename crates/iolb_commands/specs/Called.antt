-- The call that the system makes, and its end.
use Rattle.std.specs.Prelude.{◌≡◌, ℕ, ◌⊎◌, List, [], drop, Result, Ok, Err, String}
use Rattle.std.specs.Global.{Global}
use Rattle.std.specs.Vec.Iter.{into_iter_items}
use Rattle.std.specs.declared.vec.IntoIter.{IntoIter}
use Rattle.std.specs.declared.io.Error.{Error}
use Rattle.iolb_host.specs.Count.{Rose}
use Rattle.iolb_commands.specs.declared.status.Status.{Status}
use Rattle.iolb_commands.specs.declared.status.Status.TheVariants.{Done, WriteFault}
use Rattle.iolb_commands.specs.Use.{CallUse}

-- the words of a call: those behind the program's name, and none where one is no text
abbrev pub words_behind : Result (IntoIter (String Global) Global) Error → List (String Global)
words_behind (Ok words) = drop 1 (into_iter_items words)
words_behind (Err error) = []

-- What becomes of a status where a call hands the last of its output on, and the count of failed writes with it: a call that
-- is done fails where that fails, and every other status stays.
abbrev pub Finishes : Status → ℕ → ℕ → Status → Type 0
Finishes status faults faults_after ended = ((ended ≡ status) × (faults_after ≡ faults)) ⊎ ((status ≡ Done) × (ended ≡ WriteFault) × Rose faults faults_after)

-- the same left, but for another count of writes to the output that failed
abbrev pub with_faults : CallUse → ℕ → CallUse
with_faults left faults = record {
  files = left.files;
  output = record { before = left.output.before; after = left.output.after; faults = left.output.faults; faults_after = faults };
  error = left.error;
}
