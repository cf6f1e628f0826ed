-- What a certificate comes to that was read, and a bound that has the program's assumptions.
use Rattle.std.proofs.Common.{◌≡◌, refl, ◌∙◌, ap, subst, ℕ, List, []}
use Rattle.std.specs.Prelude.{ℤ}
use Rattle.iolb_model.specs.Headline.{BoundHolds}
use Rattle.iolb_model.specs.Printed.{bound_text}
use Rattle.iolb_model.specs.Parallel.{HoldsInParallel}
use Rattle.iolb_model.specs.Program.{AffineProgram}
use Rattle.iolb_model.specs.Tower.{HoldsAtLevels}
use Rattle.affine_form.specs.System.{AffineSystem}
use Rattle.affine_program.specs.Parts.{ProgramParts, meaning}
use Rattle.command_words.specs.Requests.{checks, evaluates, shares, levels}
use Rattle.command_words.specs.Sizes.{NamedSize}
use Rattle.iolb_cert.specs.OneCertificate.{HasCertificate}
use Rattle.iolb_cert.specs.Read.{WrittenCertificate, IsCertificate}
use Rattle.iolb_cert.specs.Texts.{IsTextOf}
use Rattle.iolb_check.specs.Claims.{CertificateClaim}
use Rattle.iolb_check.specs.Bounds.{BoundParts, HasWideBranch, bound_of}
use Rattle.iolb_commands.specs.Phases.{End, answers, saying, AtSizes, Narrow, Says, TaskComes}
use Rattle.iolb_commands.specs.Values.{levels_text, parallel_text, values_text}
use Rattle.memory_levels.specs.Values.{IsWideAtLevels}
use Rattle.parallel_bound.specs.Widths.{HasWideParallelBranch}

-- a bound's branches with other assumptions
abbrev with_assumed : BoundParts → AffineSystem → BoundParts
with_assumed bound assumed = record { assumed = assumed; branches = bound.branches }

pub check_comes : (program : ProgramParts) (bound : BoundParts) (sizes : List ℤ) (text : List ℕ) → bound.assumed ≡ program.assumed → BoundHolds (meaning program) (bound_of bound)
    → text ≡ bound_text program.params (bound_of bound) → TaskComes checks (meaning program) sizes bound.branches (answers text [])
check_comes program bound sizes text assumed holds is = saying text [] (
  subst (λ (a : AffineSystem). BoundHolds (meaning program) (bound_of (with_assumed bound a))) assumed holds,
  is ∙ ap (λ (a : AffineSystem). bound_text program.params (bound_of (with_assumed bound a))) assumed,
  refl,
) refl

-- what the values of a bound come to, if it holds of some program
abbrev pub ValuesCome : BoundParts → List ℤ → ℕ → End → Type 0
ValuesCome bound sizes s end = (program : AffineProgram) → BoundHolds program (bound_of bound)
    → AtSizes bound.assumed.rows sizes (Narrow (HasWideBranch sizes s bound.branches) (Says (BoundHolds program (bound_of bound)) (values_text (bound_of bound) sizes s))) end

pub values_come : (program : ProgramParts) (bound : BoundParts) (sizes : List ℤ) (s : ℕ) (named : List NamedSize) (end : End) → bound.assumed ≡ program.assumed
    → BoundHolds (meaning program) (bound_of bound) → ValuesCome bound sizes s end → TaskComes (evaluates s named) (meaning program) sizes bound.branches end
values_come program bound sizes s named end assumed holds comes =
    subst (λ (a : AffineSystem). AtSizes a.rows sizes (Narrow (HasWideBranch sizes s bound.branches)
    (Says (BoundHolds (meaning program) (bound_of (with_assumed bound a))) (values_text (bound_of (with_assumed bound a)) sizes s))) end) assumed (comes (meaning program) holds)

-- the same of its value for several processors
abbrev pub SharesCome : BoundParts → List ℤ → ℕ → ℕ → End → Type 0
SharesCome bound sizes processors s end = (program : AffineProgram) → BoundHolds program (bound_of bound) → HoldsInParallel program (bound_of bound)
    → AtSizes bound.assumed.rows sizes (Narrow (HasWideParallelBranch sizes processors s bound.branches)
    (Says (BoundHolds program (bound_of bound) × HoldsInParallel program (bound_of bound)) (parallel_text processors (bound_of bound) sizes s))) end

pub shares_come : (program : ProgramParts) (bound : BoundParts) (sizes : List ℤ) (processors s : ℕ) (named : List NamedSize) (end : End) → bound.assumed ≡ program.assumed
    → BoundHolds (meaning program) (bound_of bound) → HoldsInParallel (meaning program) (bound_of bound) → SharesCome bound sizes processors s end
    → TaskComes (shares processors s named) (meaning program) sizes bound.branches end
shares_come program bound sizes processors s named end assumed holds parallel comes =
    subst (λ (a : AffineSystem). AtSizes a.rows sizes (Narrow (HasWideParallelBranch sizes processors s bound.branches)
    (Says (BoundHolds (meaning program) (bound_of (with_assumed bound a)) × HoldsInParallel (meaning program) (bound_of (with_assumed bound a)))
    (parallel_text processors (bound_of (with_assumed bound a)) sizes s))) end) assumed (comes (meaning program) holds parallel)

-- and of its values for levels
abbrev pub LevelsCome : BoundParts → List ℤ → List ℕ → End → Type 0
LevelsCome bound sizes capacities end = (program : AffineProgram) → BoundHolds program (bound_of bound)
    → AtSizes bound.assumed.rows sizes (Narrow (IsWideAtLevels sizes capacities bound.branches)
    (Says (BoundHolds program (bound_of bound) × HoldsAtLevels program (bound_of bound)) (levels_text (bound_of bound) sizes capacities))) end

pub levels_come : (program : ProgramParts) (bound : BoundParts) (sizes : List ℤ) (capacities held : List ℕ) (named : List NamedSize) (end : End) → bound.assumed ≡ program.assumed
    → BoundHolds (meaning program) (bound_of bound) → held ≡ capacities → LevelsCome bound sizes held end → TaskComes (levels capacities named) (meaning program) sizes bound.branches end
levels_come program bound sizes capacities held named end assumed holds are comes =
    subst (λ (a : AffineSystem). AtSizes a.rows sizes (Narrow (IsWideAtLevels sizes capacities bound.branches)
    (Says (BoundHolds (meaning program) (bound_of (with_assumed bound a)) × HoldsAtLevels (meaning program) (bound_of (with_assumed bound a)))
    (levels_text (bound_of (with_assumed bound a)) sizes capacities))) end) assumed (subst (λ (cs : List ℕ). LevelsCome bound sizes cs end) are comes (meaning program) holds)

-- what was read from a text stands in it
pub has_certificate : (bytes : List ℕ) (certificate : CertificateClaim) → ((written : WrittenCertificate) × IsTextOf bytes written × IsCertificate written certificate) → HasCertificate bytes certificate
has_certificate bytes certificate (written, says, is) = record { written = written; says = says; is = is }
