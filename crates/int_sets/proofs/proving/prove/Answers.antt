use Rattle.std.proofs.Common.{subst}
use Rattle.std.specs.Prelude.{Option, IfSome}
use Rattle.affine_form.specs.Multipliers.{FarkasMultipliers}
use Rattle.affine_form.specs.Shown.{Shows}
use Rattle.int_sets.specs.ShortList.{IsShort}
use Rattle.int_sets.proofs.Follows.{short-follows}
use Rattle.int_sets.proofs.proving.prove.Goals as goal

pub returns-in-Some-clause-follows : goal.returns-in-Some-clause-follows
returns-in-Some-clause-follows c =
    let found : IsShort c.in-Some.shown × Shows c.args.system.now c.args.goal.now c.in-Some.shown
    = subst (λ (found : Option FarkasMultipliers). IfSome found (λ shown. IsShort shown × Shows c.args.system.now c.args.goal.now shown)) c.in-Some.is c.in_ok-shown.ensures.some in
    short-follows c.args.system.now c.args.goal.now c.in-Some.shown found.0 found.1
