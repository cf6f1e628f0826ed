-- What status 0 says.
use Rattle.std.proofs.Common.{◌≡◌, refl, sym, ◌∙◌, ap, subst, ℕ, Bool, true, false, List, [], length, map}
use Rattle.std.specs.Prelude.{ℤ, ◌==◌, ◌&&◌, if◌then◌else◌, bytes_eq, Some, None}
use Rattle.std.specs.List.{list_all, list_any}
use Rattle.std.proofs.lemmas.List.{length-map}
use Rattle.iolb_model.specs.Bound.{IsAdmitted}
use Rattle.iolb_model.specs.Graph.{computation_graph}
use Rattle.iolb_model.specs.Headline.{BoundHolds}
use Rattle.iolb_model.specs.Program.{AffineProgram}
use Rattle.command_words.specs.Requests.{Request, Task, checks, evaluates, shares, levels, Work, judges, replays, climbs, bounds_traffic, bounds, samples, file_at}
use Rattle.command_words.specs.Sizes.{NamedSize, times, value_for, values_for}
use Rattle.pebble_replay.specs.Played.{played}
use Rattle.tile_sched.proofs.Refusals.{none_some, same_some}
use Rattle.tile_sched.specs.ReplayLaws.{PlaysAreComplete}
use Rattle.iolb_check.specs.declared.bound.Value.{Value}
use Rattle.iolb_commands.specs.declared.status.Status.{Status}
use Rattle.iolb_commands.specs.declared.status.Status.TheVariants.{Done}
use Rattle.iolb_commands.specs.Held.{HoldsProgram}
use Rattle.iolb_commands.specs.Phases.{ProgramComes, TaskComes, WorkBegins, WorkComes, answers}
use Rattle.iolb_commands.specs.Task.{HoldsFor, IsAnswer, LoadsAtLeast, bound_with}
use Rattle.iolb_commands.specs.Works.{sizes_for}
use Rattle.iolb_commands.specs.Outcome.{Call, Outcome}
use Rattle.iolb_commands.specs.Headline.{IsDoneAsAsked, IsPrinted}
use Rattle.iolb_commands.specs.Traffic.{traffic_loads, traffic_stores}
use Rattle.iolb_commands.specs.Use.{CallUse, Gains}
use Rattle.iolb_commands.proofs.Asked.{IsFormed, formed}
use Rattle.iolb_commands.proofs.Notes.{nothing_more}
use Rattle.iolb_commands.proofs.Phases.{answered, found, said}
use Rattle.iolb_commands.proofs.Sampled.{sample-least}

-- ---- status 0

at_least : (task : Task) (program : AffineProgram) (values : List (List Value)) (text : List ℕ) → IsAnswer task program values text → HoldsFor task program (bound_with program values)
    → LoadsAtLeast task program values
at_least checks program values text answer holds = tt
at_least (evaluates s named) program values text answer holds = λ sizes moves given game.
    holds sizes s moves (subst (IsAdmitted program) (same_some answer.sizes sizes (sym answer.given ∙ given)) answer.admitted) answer.some game
at_least (shares processors s named) program values text answer holds = λ sizes steps given game.
    holds.1 sizes processors s steps (subst (IsAdmitted program) (same_some answer.sizes sizes (sym answer.given ∙ given)) answer.admitted) answer.some_processor answer.some game
at_least (levels capacities named) program values text answer holds = λ sizes steps given play.
    holds.1 sizes capacities steps (subst (IsAdmitted program) (same_some answer.sizes sizes (sym answer.given ∙ given)) answer.admitted) answer.each play

-- a bound that is known of so holds
bound_holds : (task : Task) (program : AffineProgram) (values : List (List Value)) → HoldsFor task program (bound_with program values) → BoundHolds program (bound_with program values)
bound_holds checks program values holds = holds
bound_holds (evaluates s named) program values holds = holds
bound_holds (shares processors s named) program values holds = holds.0
bound_holds (levels capacities named) program values holds = holds.0

if_some : (test : Bool) (these sizes : List ℤ) → (if test then Some these else None) ≡ Some sizes → these ≡ sizes
if_some true these sizes e = same_some these sizes e
if_some false these sizes e = absurd cc

-- sizes that are named are as many as the parameters
pub sizes_many : (names : List (List ℕ)) (named : List NamedSize) (sizes : List ℤ) → values_for names named ≡ Some sizes → length sizes ≡ length names
sizes_many names named sizes given =
    ap length (sym (if_some (list_all (λ (size : NamedSize). list_any (λ name. bytes_eq size.name name) names) named && list_all (λ name. times name named == 1) names)
    (map (λ name. value_for name named) names) sizes given))
    ∙ length-map names (λ name. value_for name named)

-- what answers a task
task_answer : (request : Request) (task : Task) (program : AffineProgram) (sizes : List ℤ) (values : List (List Value)) (text note : List ℕ) → IsFormed request (judges task)
    → sizes_for (judges task) program.parameters ≡ Some sizes → TaskComes task program sizes values (answers text note)
    → HoldsFor task program (bound_with program values) × IsAnswer task program values text × (note ≡ [])
task_answer request checks program sizes values text note some given comes = said text note comes
task_answer request (evaluates s named) program sizes values text note some given comes =
    let met = found text note comes in
    let narrow = found text note met.2 in
    let says = said text note narrow.2 in (
      says.0,
      record {
        sizes = sizes;
        given = given;
        some = some;
        admitted = record { each = sizes_many program.parameters named sizes given; met = met.1 };
        narrow = narrow.1;
        printed = says.1;
      },
      says.2,
    )
task_answer request (shares processors s named) program sizes values text note some given comes =
    let met = found text note comes in
    let narrow = found text note met.2 in
    let says = said text note narrow.2 in (
      says.0,
      record {
        sizes = sizes;
        given = given;
        some_processor = some.0;
        some = some.1;
        admitted = record { each = sizes_many program.parameters named sizes given; met = met.1 };
        narrow = narrow.1;
        printed = says.1;
      },
      says.2,
    )
task_answer request (levels capacities named) program sizes values text note some given comes =
    let met = found text note comes in
    let narrow = found text note met.2 in
    let says = said text note narrow.2 in (
      says.0,
      record {
        sizes = sizes;
        given = given;
        each = some;
        admitted = record { each = sizes_many program.parameters named sizes given; met = met.1 };
        narrow = narrow.1;
        printed = says.1;
      },
      says.2,
    )

printed : PlaysAreComplete → (call : Call) (left : CallUse) (request : Request) (program : AffineProgram) (sizes : List ℤ) (text note : List ℕ) (work : Work) → IsFormed request work
    → HoldsProgram call.files (file_at request.files 0) program → sizes_for work program.parameters ≡ Some sizes
    → WorkComes call.files request.files work program sizes (answers text note) → Gains left.output text → Gains left.error note → IsPrinted call left request work
printed complete call left request program sizes text note (judges task) some there given comes gains noted =
    let file = found text note comes in
    let read = found text note file.2 in
    let checked = found text note read.2 in
    let answer = task_answer request task program sizes checked.0 text note some given checked.2 in record {
      program = program;
      holds_program = there;
      certificate = read.0;
      holds_certificate = record { bytes = file.0; content = file.1; has = read.1 };
      values = checked.0;
      valid = checked.1;
      holds = bound_holds task program checked.0 answer.0;
      text = text;
      answer = answer.1;
      printed = gains;
      error_stays = nothing_more left.error (subst (λ (n : List ℕ). Gains left.error n) answer.2 noted);
      loads_at_least = at_least task program checked.0 text answer.1 answer.0;
    }
printed complete call left request program sizes text note (replays s named) some there given comes gains noted =
    let file = found text note comes in
    let read = found text note file.2 in
    let can = found text note read.2 in
    let says = said text note can.2 in record {
      program = program;
      holds_program = there;
      schedule = read.0;
      holds_schedule = record { bytes = file.0; content = file.1; has = read.1 };
      sizes = sizes;
      given = given;
      admitted = record { each = sizes_many program.parameters named sizes given; met = can.1.ordered.met };
      order = can.0;
      order_is = can.1.ordered.order_is;
      moves = played (computation_graph program sizes) s can.0;
      plays = refl;
      complete = complete program read.0 sizes s can.0 can.1;
      printed = subst (λ (t : List ℕ). Gains left.output t) says.1 gains;
      error_stays = nothing_more left.error (subst (λ (n : List ℕ). Gains left.error n) says.2 noted);
    }
printed complete call left request program sizes text note (climbs capacities named) some there given comes gains noted =
    let file = found text note comes in
    let read = found text note file.2 in
    let met = found text note read.2 in
    let few = found text note met.2 in
    let legal = found text note few.2 in
    let played_out = found text note legal.2 in
    let says = said text note played_out.2 in record {
      program = program;
      holds_program = there;
      moves = read.0;
      holds_moves = record { bytes = file.0; content = file.1; has = read.1 };
      sizes = sizes;
      given = given;
      admitted = record { each = sizes_many program.parameters named sizes given; met = met.1 };
      complete = played_out.1;
      printed = subst (λ (t : List ℕ). Gains left.output t) says.1 gains;
      error_stays = nothing_more left.error (subst (λ (n : List ℕ). Gains left.error n) says.2 noted);
    }
printed complete call left request program sizes text note (bounds_traffic s named) some there given comes gains noted =
    let file = found text note comes in
    let read = found text note file.2 in
    let other = found text note read.2 in
    let stored = found text note other.2 in
    let checked = found text note stored.2 in
    let counted = found text note checked.2 in
    let met = found text note counted.2 in
    let narrow = found text note met.2 in
    let says = said text note narrow.2 in record {
      program = program;
      holds_program = there;
      certificate = read.0;
      holds_certificate = record { bytes = file.0; content = file.1; has = read.1 };
      stores = stored.0;
      holds_stores = record { bytes = other.0; content = other.1; has = stored.1 };
      values = checked.0;
      valid = checked.1;
      counts = counted.0;
      met = counted.1;
      sizes = sizes;
      given = given;
      admitted = record { each = sizes_many program.parameters named sizes given; met = met.1 };
      least_loads = traffic_loads program checked.0 sizes s;
      loads_are = refl;
      least_stores = traffic_stores read.0 stored.0 checked.0 counted.0 sizes s;
      stores_are = refl;
      narrow = narrow.1;
      at_least = says.0;
      printed = subst (λ (t : List ℕ). Gains left.output t) says.1 gains;
      error_stays = nothing_more left.error (subst (λ (n : List ℕ). Gains left.error n) says.2 noted);
    }
printed complete call left request program sizes text note bounds some there given comes gains noted =
    let made = answered (answers text note) tt comes in
    let bound = made.2 in
    let texts : text ≡ made.0 = cc in
    let notes : note ≡ made.1 = cc in record {
      program = program;
      holds_program = there;
      certificate = bound.certificate;
      text = made.0;
      text_is = bound.written;
      values = bound.values;
      valid = bound.valid;
      holds = bound.holds;
      printed = subst (λ (t : List ℕ). Gains left.output t) texts gains;
      noted = subst (λ (n : List ℕ). Gains left.error n) (notes ∙ bound.noted) noted;
      made = bound.made;
    }
printed complete call left request program sizes text note (samples products) some there given comes gains noted = absurd (none_some None sizes refl given)

-- work on a file's program
on_program : PlaysAreComplete → (call : Call) (left : CallUse) (request : Request) (text note : List ℕ) (work : Work) → IsFormed request work
    → ProgramComes call.files request.files work (answers text note) → Gains left.output text → Gains left.error note → IsPrinted call left request work
on_program complete call left request text note work some comes gains noted =
    let file = found text note comes in
    let read = found text note file.2 in
    let named = found text note read.2 in
    printed complete call left request read.0 named.0 text note work some (record { source = file.0; content = file.1; means = read.1 }) named.1 named.2 gains noted

-- or on that of matrix products
begun : PlaysAreComplete → (call : Call) (left : CallUse) (request : Request) (text note : List ℕ) (work : Work) → IsFormed request work
    → WorkBegins call.files request.files work (answers text note) → Gains left.output text → Gains left.error note → IsPrinted call left request work
begun complete call left request text note (judges task) some comes gains noted = on_program complete call left request text note (judges task) some comes gains noted
begun complete call left request text note (replays s named) some comes gains noted = on_program complete call left request text note (replays s named) some comes gains noted
begun complete call left request text note (climbs capacities named) some comes gains noted = on_program complete call left request text note (climbs capacities named) some comes gains noted
begun complete call left request text note (bounds_traffic s named) some comes gains noted = on_program complete call left request text note (bounds_traffic s named) some comes gains noted
begun complete call left request text note bounds some comes gains noted = on_program complete call left request text note bounds some comes gains noted
begun complete call left request text note (samples products) some comes gains noted =
    let made = answered (answers text note) tt comes in
    let sampled = made.2 in
    let texts : text ≡ made.0 = cc in
    let notes : note ≡ made.1 = cc in record {
      certificate = sampled.certificate;
      values = sampled.values;
      valid = sampled.valid;
      made = sampled.made;
      short = sampled.short;
      value = sampled.value;
      greatest = sampled.greatest;
      at_least = λ moves game. sample-least products sampled.values sampled.value moves sampled.greatest sampled.holds game;
      one = sampled.one;
      several = sampled.several;
      printed = subst (λ (t : List ℕ). Gains left.output t) (texts ∙ sampled.says) gains;
      error_stays = nothing_more left.error (subst (λ (n : List ℕ). Gains left.error n) (notes ∙ sampled.unnoted) noted);
    }

-- what status 0 says
pub headline : PlaysAreComplete → (call : Call) (left : CallUse) (status : Status) → Outcome status call left → status ≡ Done → IsDoneAsAsked call left
headline complete call left status outcome e = by (subst (λ (s : Status). Outcome s call left) e outcome) where
  by : Outcome Done call left → IsDoneAsAsked call left
  by (text, note, done, gains, noted) =
      record {
        request = done.request;
        asked = done.asked;
        printed = begun complete call left done.request text note done.request.work (formed call.words done.request done.asked) done.answered gains noted;
        read = done.read;
      }
