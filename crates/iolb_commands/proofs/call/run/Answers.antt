use Rattle.std.proofs.Common.{refl, sym, ◌∙◌, ap, inl, inr}
use Rattle.std.specs.Prelude.{option_map}
use Rattle.command_words.specs.Requests.{asked}
use Rattle.iolb_commands.specs.declared.stop.Stop.TheVariants.{Words}
use Rattle.iolb_commands.specs.Lines.{usage}
use Rattle.iolb_commands.specs.Outcome.{call_of}
use Rattle.iolb_commands.specs.Stop.{stop_line}
use Rattle.iolb_commands.specs.Use.{files_use, sink_use}
use Rattle.iolb_commands.proofs.Counts.{error-counts, output-counts}
use Rattle.iolb_commands.proofs.Words.{words_are}
use Rattle.iolb_commands.proofs.Headline.{headline}
use Rattle.iolb_commands.proofs.Outcomes.{stopped_outcome, done_outcome}
use Rattle.iolb_commands.proofs.RequestLaws.{one_fault}
use Rattle.iolb_commands.proofs.call.run.Goals as goal

pub returns-in-Ok-None-clause-outcome : goal.returns-in-Ok-None-clause-outcome
returns-in-Ok-None-clause-outcome g c =
    stopped_outcome (call_of c.args.words.now.items (g.F.Files.told c.args.files.now))
    (record {
      files = files_use g.F.Files.faults c.args.files.now c.args.files.now;
      output = sink_use g.O.Sink.written g.O.Sink.faults c.args.out.now c.args.out.now;
      error = sink_use g.E.Sink.written g.E.Sink.faults c.args.err.now c.stopped.new.err;
    })
    Words usage c.stopped.result
    (inl (record {
      words = refl;
      cause = words_are c.as_slice.ensures.value (sym c.in-Ok-None.ensures.command ∙ ap (option_map asked) c.in-Ok-None.field-0-is);
      unread = refl;
      says = refl;
    })) (refl, refl) c.stopped.ensures.written

pub returns-in-Ok-clause-outcome : goal.returns-in-Ok-clause-outcome
returns-in-Ok-clause-outcome g c =
    done_outcome (call_of c.args.words.now.items (g.F.Files.told c.args.files.now))
    (record {
      files = files_use g.F.Files.faults c.args.files.now c.run_command.new.files;
      output = sink_use g.O.Sink.written g.O.Sink.faults c.args.out.now c.write_answer.new.out;
      error = sink_use g.E.Sink.written g.E.Sink.faults c.args.err.now c.write_answer.new.err;
    })
    c.in-Ok.answer c.write_answer.result
    (record {
      request = asked c.in-Ok-Some.command;
      asked = words_are c.as_slice.ensures.value (sym c.in-Ok-Some.ensures.command ∙ ap (option_map asked) c.in-Ok-Some.field-0-is);
      answered = c.in-Ok.ensures.comes;
      read = c.in-Ok.ensures.read;
    }) c.in-Ok.ensures.kind c.write_answer.ensures.written

pub returns-in-Ok-clause-output_counts : goal.returns-in-Ok-clause-output_counts
returns-in-Ok-clause-output_counts g c =
    output-counts (sink_use g.O.Sink.written g.O.Sink.faults c.args.out.now c.write_answer.new.out) (sink_use g.E.Sink.written g.E.Sink.faults c.args.err.now c.write_answer.new.err) c.in-Ok.answer
    c.write_answer.result c.write_answer.ensures.written

pub returns-in-Ok-clause-error_counts : goal.returns-in-Ok-clause-error_counts
returns-in-Ok-clause-error_counts g c =
    error-counts (sink_use g.O.Sink.written g.O.Sink.faults c.args.out.now c.write_answer.new.out) (sink_use g.E.Sink.written g.E.Sink.faults c.args.err.now c.write_answer.new.err) c.in-Ok.answer
    c.write_answer.result c.write_answer.ensures.written

pub returns-in-Ok-clause-headline : goal.returns-in-Ok-clause-headline
returns-in-Ok-clause-headline g c =
    headline c.replays_are_one.ensures.complete (call_of c.args.words.now.items (g.F.Files.told c.args.files.now))
    (record {
      files = files_use g.F.Files.faults c.args.files.now c.run_command.new.files;
      output = sink_use g.O.Sink.written g.O.Sink.faults c.args.out.now c.write_answer.new.out;
      error = sink_use g.E.Sink.written g.E.Sink.faults c.args.err.now c.write_answer.new.err;
    })
    c.write_answer.result (returns-in-Ok-clause-outcome g c)

pub returns-clause-outcome : goal.returns-clause-outcome
returns-clause-outcome g c =
    stopped_outcome (call_of c.args.words.now.items (g.F.Files.told c.args.files.now))
    (record {
      files = files_use g.F.Files.faults c.args.files.now c.run_command.new.files;
      output = sink_use g.O.Sink.written g.O.Sink.faults c.args.out.now c.args.out.now;
      error = sink_use g.E.Sink.written g.E.Sink.faults c.args.err.now c.stopped-in-Err-run_command.new.err;
    })
    c.in-Err-run_command.stop (stop_line (asked c.in-Ok-Some.command).files c.in-Err-run_command.stop) c.stopped-in-Err-run_command.result
    (inr (inr (record {
      request = asked c.in-Ok-Some.command;
      asked = words_are c.as_slice.ensures.value (sym c.in-Ok-Some.ensures.command ∙ ap (option_map asked) c.in-Ok-Some.field-0-is);
      cause = c.in-Err-run_command.ensures.comes;
      noted = c.in-Err-run_command.ensures.noted;
      says = refl;
    }))) (refl, refl) c.stopped-in-Err-run_command.ensures.written

pub returns-clause-reads : goal.returns-clause-reads
returns-clause-reads g c =
    one_fault (asked c.in-Ok-Some.command).files c.in-Err-run_command.stop (files_use g.F.Files.faults c.args.files.now c.run_command.new.files) c.in-Err-run_command.ensures.noted
