use Rattle.std.proofs.Common.{◌≡◌, refl, sym, ◌∙◌, ap, ℕ, ◌+◌, None, arith}
use Rattle.loop_graph.proofs.Gathered.{known-read, new-read}
use Rattle.loop_graph.proofs.known.Known.read.Goals as goal

pub returns-in-Some-clause-read : goal.returns-in-Some-clause-read
returns-in-Some-clause-read c = λ writer before met.
    known-read c.args.instances writer before c.args.cell c.args.self.now c.in-Some.vertex met (sym c.vertex.ensures ∙ c.in-Some.is)

pub returns-clause-read : goal.returns-clause-read
returns-clause-read c = λ writer before met.
    let none : c.vertex.result ≡ None = grind (arith, c.in_default.is, c.in_default.not-Some) in
    new-read c.args.instances writer before c.args.cell c.args.self.now
    (record c.put.new.self { inputs = c.put.new.self.inputs + 1 }) (c.args.instances + c.args.self.now.inputs) met (sym c.vertex.ensures ∙ none)
    refl c.in_ok-put.ensures.puts (ap (λ (n : ℕ). n + 1) c.in_ok-put.ensures.inputs)
