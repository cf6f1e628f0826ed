use Rattle.std.proofs.Common.{rules, arith}
use Rattle.std.proofs.lemmas.Grind.{common_steps}
use Rattle.c_reading.proofs.Turns.{guards_read}
use Rattle.c_reading.proofs.input.Reader.+item.Goals as goal

pub guard-returns-in_err-body : goal.guard-returns-in_err-body
guard-returns-in_err-body t c =
    let asked = c.in_ok-rows.ensures in
    rw (guards_read c.args.loops c.args.room c.args.brackets c.args.items c.args.self.now c.conditions.new.self c.in_ok-rows.rows asked.rule asked.some asked.few) (first_of (search rules, grind (arith, common_steps)))

pub guard-returns-in_err-no_else : goal.guard-returns-in_err-no_else
guard-returns-in_err-no_else t c =
    let asked = c.in_ok-rows.ensures in
    rw (guards_read c.args.loops c.args.room c.args.brackets c.args.items c.args.self.now c.conditions.new.self c.in_ok-rows.rows asked.rule asked.some asked.few) (first_of (search rules, grind (arith, common_steps)))

pub guard-returns : goal.guard-returns
guard-returns t c =
    let asked = c.in_ok-rows.ensures in
    rw (guards_read c.args.loops c.args.room c.args.brackets c.args.items c.args.self.now c.conditions.new.self c.in_ok-rows.rows asked.rule asked.some asked.few) (first_of (search rules, grind (arith, common_steps)))
