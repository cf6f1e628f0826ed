use Rattle.std.proofs.Common.{◌≡◌, sym, subst, ℕ, suc, ◌+◌, List, ◌∷◌, arith}
use Rattle.std.proofs.Math.IntN.{negsuc}
use Rattle.iolb_model.specs.Form.{AffineForm}
use Rattle.affine_program.specs.Parts.{meaning}
use Rattle.projective.specs.Projective.{RunsBelow}
use Rattle.projective.specs.Products.{RunBelow}
use Rattle.projective.proofs.Runs.{first-runs}
use Rattle.projective.proofs.parameters.+parameters_from.Goals as goal

next : (n : ℕ) → n + 1 ≡ suc n
next n = omega arith

pub variable_of-requires : goal.variable_of-requires
variable_of-requires t c =
    let run = first-runs (meaning c.args.program.now) c.args.vars c.args.bounds.now c.in-Some.first.now c.in-Some.others.now c.in-Some.ensures.cases.0 c.requires.run in
    record { some = (c.args.vars, run.0.0, negsuc 0, omega (arith, run.0.1.there, c.requires.around), run.0.1.upper) }

pub returns : goal.returns
returns t c =
    let program = meaning c.args.program.now in
    let run = first-runs (meaning c.args.program.now) c.args.vars c.args.bounds.now c.in-Some.first.now c.in-Some.others.now c.in-Some.ensures.cases.0 c.requires.run in
    let place : c.variable_of.result ≡ run.0.0 = c.variable_of.ensures c.args.vars run.0.0 (negsuc 0) (omega (arith, run.0.1.there, c.requires.around)) run.0.1.upper in
    subst (λ (b : List (AffineForm × AffineForm)). RunBelow (meaning c.args.program.now) c.args.vars b c.insert.new.self.items) (sym c.in-Some.ensures.cases.0)
    (subst (λ (ps : List ℕ). RunBelow (meaning c.args.program.now) c.args.vars (c.in-Some.first.now ∷ c.in-Some.others.now) ps) (sym c.in_ok-insert.ensures.items) (
      subst (λ (p : ℕ). RunsBelow (meaning c.args.program.now) c.args.vars c.in-Some.first.now p) (sym place) run.0.1,
      subst (λ (n : ℕ). RunBelow (meaning c.args.program.now) n c.in-Some.others.now c.in_ok-parameters.parameters.items) (next c.args.vars) c.in_ok-parameters.ensures,
    ))
