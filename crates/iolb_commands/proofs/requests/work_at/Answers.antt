use Rattle.std.proofs.Common.{◌≡◌, sym, ap, subst, map, List, ℕ}
use Rattle.std.specs.Prelude.{Some}
use Rattle.std.proofs.lemmas.Result.{err_from_is_err_and}
use Rattle.affine_program.specs.Parts.{meaning}
use Rattle.command_words.specs.Requests.{Work, bytes_of, work_of}
use Rattle.command_words.specs.Sizes.{named_of}
use Rattle.iolb_commands.specs.Phases.{MovesCome, WorkComes, stops}
use Rattle.iolb_commands.specs.Works.{sizes_for}
use Rattle.iolb_commands.specs.Written.{end_of}
use Rattle.iolb_commands.proofs.RequestLaws.{file_read, file_unread}
use Rattle.iolb_commands.proofs.requests.work_at.Goals as goal

pub returns-in_err-bytes-in-Judge-clause-comes : goal.returns-in_err-bytes-in-Judge-clause-comes
returns-in_err-bytes-in-Judge-clause-comes g c =
    let p = err_from_is_err_and c.from_residual.result c.from_residual.ensures.1 in
    let is = ap work_of c.in-Judge.is in
    rw (p.1, p.2) (subst (λ (work : Work). WorkComes (g.F.Files.told c.args.files.now) (bytes_of c.args.command.now.files.now) work (meaning c.args.program.now) c.args.sizes.now (stops c.in_err-bytes-in-Judge.field-0.0)) (sym is)
    (file_unread (g.F.Files.told c.args.files.now) (bytes_of c.args.command.now.files.now) 1 _ _ _ c.in_err-bytes-in-Judge.field-0.0 is c.in_err-bytes-in-Judge.ensures.cause))

pub returns-in_err-bytes-in-Replay-clause-comes : goal.returns-in_err-bytes-in-Replay-clause-comes
returns-in_err-bytes-in-Replay-clause-comes g c =
    let p = err_from_is_err_and c.from_residual-in_err-bytes-in-Replay.result c.from_residual-in_err-bytes-in-Replay.ensures.1 in
    let is = ap work_of c.in-Replay.is in
    rw (p.1, p.2) (subst (λ (work : Work). WorkComes (g.F.Files.told c.args.files.now) (bytes_of c.args.command.now.files.now) work (meaning c.args.program.now) c.args.sizes.now (stops c.in_err-bytes-in-Replay.field-0.0)) (sym is)
    (file_unread (g.F.Files.told c.args.files.now) (bytes_of c.args.command.now.files.now) 1 _ _ _ c.in_err-bytes-in-Replay.field-0.0 is c.in_err-bytes-in-Replay.ensures.cause))

pub returns-in_ok-bytes-in-Judge-clause-comes : goal.returns-in_ok-bytes-in-Judge-clause-comes
returns-in_ok-bytes-in-Judge-clause-comes g c =
    let is = ap work_of c.in-Judge.is in
    subst (λ (work : Work). WorkComes (g.F.Files.told c.args.files.now) (bytes_of c.args.command.now.files.now) work (meaning c.args.program.now) c.args.sizes.now (end_of c.judged.result)) (sym is)
    (file_read (g.F.Files.told c.args.files.now) (bytes_of c.args.command.now.files.now) 1 _ _ _ c.in_ok-bytes-in-Judge.bytes.items c.as_slice.result.now (end_of c.judged.result)
    is c.as_slice.ensures.value c.in_ok-bytes-in-Judge.ensures.content c.judged.ensures.comes)

pub returns-in_ok-bytes-in-Replay-clause-comes : goal.returns-in_ok-bytes-in-Replay-clause-comes
returns-in_ok-bytes-in-Replay-clause-comes g c =
    let is = ap work_of c.in-Replay.is in
    subst (λ (work : Work). WorkComes (g.F.Files.told c.args.files.now) (bytes_of c.args.command.now.files.now) work (meaning c.args.program.now) c.args.sizes.now (end_of c.readied.result)) (sym is)
    (file_read (g.F.Files.told c.args.files.now) (bytes_of c.args.command.now.files.now) 1 _ _ _ c.in_ok-bytes-in-Replay.bytes.items c.as_slice-in-Replay.result.now (end_of c.readied.result)
    is c.as_slice-in-Replay.ensures.value c.in_ok-bytes-in-Replay.ensures.content c.readied.ensures.comes)

pub returns-in-Bound-clause-comes : goal.returns-in-Bound-clause-comes
returns-in-Bound-clause-comes g c =
    subst (λ (work : Work). WorkComes (g.F.Files.told c.args.files.now) (bytes_of c.args.command.now.files.now) work (meaning c.args.program.now) c.args.sizes.now (end_of c.bounded.result))
    (sym (ap work_of c.in-Bound.is)) c.bounded.ensures.comes

pub traffic_at-requires-clause-given : goal.traffic_at-requires-clause-given
traffic_at-requires-clause-given g c =
    let is = ap work_of c.in-Traffic.is in (
      map named_of c.in-Traffic.setting.sizes.items,
      subst (λ (work : Work). sizes_for work c.args.program.now.params ≡ Some c.args.sizes.now) is c.requires.given,
      is,
    )

pub returns-in_err-bytes-in-Climb-clause-comes : goal.returns-in_err-bytes-in-Climb-clause-comes
returns-in_err-bytes-in-Climb-clause-comes g c =
    let p = err_from_is_err_and c.from_residual-in_err-bytes-in-Climb.result c.from_residual-in_err-bytes-in-Climb.ensures.1 in
    let is = ap work_of c.in-Climb.is in
    rw (p.1, p.2) (subst (λ (work : Work). WorkComes (g.F.Files.told c.args.files.now) (bytes_of c.args.command.now.files.now) work (meaning c.args.program.now) c.args.sizes.now (stops c.in_err-bytes-in-Climb.field-0.0)) (sym is)
    (file_unread (g.F.Files.told c.args.files.now) (bytes_of c.args.command.now.files.now) 1 _ _ _ c.in_err-bytes-in-Climb.field-0.0 is c.in_err-bytes-in-Climb.ensures.cause))

pub returns-in_ok-bytes-in-Climb-clause-comes : goal.returns-in_ok-bytes-in-Climb-clause-comes
returns-in_ok-bytes-in-Climb-clause-comes g c =
    let is = ap work_of c.in-Climb.is in
    let end = end_of c.climb_answer.result in
    subst (λ (work : Work). WorkComes (g.F.Files.told c.args.files.now) (bytes_of c.args.command.now.files.now) work (meaning c.args.program.now) c.args.sizes.now end) (sym is)
    (file_read (g.F.Files.told c.args.files.now) (bytes_of c.args.command.now.files.now) 1 _ _ _ c.in_ok-bytes-in-Climb.bytes.items c.as_slice-in-Climb-2.result.now end
    is c.as_slice-in-Climb-2.ensures.value c.in_ok-bytes-in-Climb.ensures.content
    (subst (λ (capacities : List ℕ). MovesCome capacities (meaning c.args.program.now) c.args.sizes.now c.as_slice-in-Climb-2.result.now end) c.as_slice-in-Climb.ensures.value c.climb_answer.ensures.comes))
