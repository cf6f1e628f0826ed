use Rattle.std.proofs.Common.{◌≡◌, List, ℕ, length, map, sym, ap, ◌∙◌, subst, Vec, Global}
use Rattle.std.specs.Prelude.{ℤ}
use Rattle.std.specs.List.{AllByRecursion, enumerate_from, range_with_len}
use Rattle.iolb_model.specs.Execution.{Instance, execution}
use Rattle.iolb_model.specs.Graph.{ComputationGraph}
use Rattle.pebble_replay.specs.Order.{HoldsEachOnce}
use Rattle.tile_sched.proofs.Once.{holds_each_once}
use Rattle.std.proofs.lemmas.List.{length-map}
use Rattle.affine_program.specs.Parts.{meaning}
use Rattle.claims.proofs.Found.{IfOk-then}
use Rattle.loop_graph.specs.Runs.{with_point, run_of}
use Rattle.tile_sched.specs.Order.{said_of, said, IsOrder}
use Rattle.tile_sched.specs.Ranks.{rank_of, CanSay, SaysNothing}
use Rattle.tile_sched.proofs.AsWritten.{as_written}
use Rattle.tile_sched.proofs.Ranked.{can_say, said_of_all, sorted_order}
use Rattle.tile_sched.proofs.ordered.order.Goals as goal

pub ranks-requires-clause-each : goal.ranks-requires-clause-each
ranks-requires-clause-each c =
    subst (AllByRecursion (CanSay c.args.schedule.now)) (sym c.as_slice-2.ensures.value)
    (can_say (meaning c.args.program.now) c.args.schedule.now c.in_ok-runs.runs.items c.requires.schedule c.in_ok-runs.ensures.each)

pub returns-then-says_nothing-clause-order : goal.returns-then-says_nothing-clause-order
returns-then-says_nothing-clause-order c =
    let runs : List Instance = execution (meaning c.args.program.now) c.args.sizes.now in
    let all : List (List ℤ) = said (meaning c.args.program.now) c.args.sizes.now c.args.schedule.now in
    let many : c.instances-instances.result ≡ length all = c.instances-instances.ensures.instances ∙ ap (λ (g : ComputationGraph). g.instances) c.requires.graph ∙ sym (length-map runs (said_of c.args.schedule.now c.args.sizes.now)) in
    let nothing : SaysNothing c.args.schedule.now = c.says_nothing.ensures.0 c.if-says_nothing.true in
    IfOk-then c.counted.result (λ numbers. numbers.items ≡ range_with_len 0 c.instances-instances.result) (λ order. IsOrder all order.items) c.counted.ensures
    (λ order h. subst (IsOrder all) (sym (h ∙ ap (range_with_len 0) many)) (as_written c.args.schedule.now c.args.sizes.now runs nothing))

pub returns-then-says_nothing-clause-each : goal.returns-then-says_nothing-clause-each
returns-then-says_nothing-clause-each c =
    let runs : List Instance = execution (meaning c.args.program.now) c.args.sizes.now in
    let all : List (List ℤ) = said (meaning c.args.program.now) c.args.sizes.now c.args.schedule.now in
    let many : length all ≡ c.args.graph.now.instances = length-map runs (said_of c.args.schedule.now c.args.sizes.now) ∙ sym (ap (λ (g : ComputationGraph). g.instances) c.requires.graph) in
    IfOk-then c.counted.result (λ order. IsOrder all order.items) (λ order. HoldsEachOnce c.args.graph.now order.items) (returns-then-says_nothing-clause-order c)
    (λ order h. holds_each_once c.args.graph.now (length all) order.items many h.each)

pub returns-clause-order : goal.returns-clause-order
returns-clause-order c =
    let all : List (List ℤ) = said (meaning c.args.program.now) c.args.sizes.now c.args.schedule.now in
    let values : c.as_slice.result.now ≡ c.args.sizes.now = c.as_slice.ensures.value ∙ c.in_ok-values.ensures in
    let runs : map run_of c.as_slice-2.result.now ≡ map (with_point c.args.sizes.now) (execution (meaning c.args.program.now) c.args.sizes.now) =
    ap (map run_of) c.as_slice-2.ensures.value ∙ c.in_ok-runs.ensures.runs ∙ ap (λ (l : List ℤ). map (with_point l) (execution (meaning c.args.program.now) l)) values in
    let ranked : map rank_of c.in_ok-ranks.ranks.items ≡ enumerate_from 0 all =
    c.in_ok-ranks.ensures ∙ ap (enumerate_from 0) (said_of_all c.args.schedule.now c.args.sizes.now (execution (meaning c.args.program.now) c.args.sizes.now) c.as_slice-2.result.now runs) in
    let sorted : IsOrder all (map (λ (r : Vec ℤ Global × ℕ). r.1) c.sort.new.self.items) =
    sorted_order all c.in_ok-ranks.ranks.items c.sort.new.self.items ranked c.in_ok-sort.ensures.permutation c.in_ok-sort.ensures.sorted in
    IfOk-then c.numbers.result (λ numbers. numbers.items ≡ map (λ (r : Vec ℤ Global × ℕ). r.1) c.as_slice-3.result.now) (λ order. IsOrder all order.items) c.numbers.ensures
    (λ order h. subst (IsOrder all) (sym (h ∙ ap (map (λ (r : Vec ℤ Global × ℕ). r.1)) c.as_slice-3.ensures.value)) sorted)

pub returns-clause-each : goal.returns-clause-each
returns-clause-each c =
    let runs : List Instance = execution (meaning c.args.program.now) c.args.sizes.now in
    let all : List (List ℤ) = said (meaning c.args.program.now) c.args.sizes.now c.args.schedule.now in
    let many : length all ≡ c.args.graph.now.instances = length-map runs (said_of c.args.schedule.now c.args.sizes.now) ∙ sym (ap (λ (g : ComputationGraph). g.instances) c.requires.graph) in
    IfOk-then c.numbers.result (λ order. IsOrder all order.items) (λ order. HoldsEachOnce c.args.graph.now order.items) (returns-clause-order c)
    (λ order h. holds_each_once c.args.graph.now (length all) order.items many h.each)
