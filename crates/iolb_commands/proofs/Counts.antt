-- No count of a sink falls where an answer is written.
use Rattle.std.proofs.Common.{◌≡◌, inl, inr, ℕ, ◌+◌, ◌≤◌, Bool, true, false, arith}
use Rattle.std.specs.Prelude.{◌⊎◌, ◌-◌, ◌^◌, nat_lt, if◌then◌else◌}
use Rattle.iolb_host.specs.Count.{Rose, next_count}
use Rattle.iolb_commands.specs.declared.answered.Answer.{Answer}
use Rattle.iolb_commands.specs.declared.answered.Answer.TheVariants.{Text, Lines, Bound}
use Rattle.iolb_commands.specs.declared.status.Status.{Status}
use Rattle.iolb_commands.specs.Lines.{out_of_memory}
use Rattle.iolb_commands.specs.Use.{Gains, SinkUse, Stays}
use Rattle.iolb_commands.specs.Written.{HasBegun, HasNote, LacksNote, OutputWritten, WantSaid}

next-more : (n : ℕ) → n ≤ next_count n
next-more n = by (nat_lt n (2 ^ 64 - 1)) where
  by : (b : Bool) → n ≤ (if b then n + 1 else n)
  by true = omega arith
  by false = omega arith

rose : (old new : ℕ) → Rose old new → old ≤ new
rose old new is = omega (arith, is, next-more old)

same : (old new : ℕ) → new ≡ old → old ≤ new
same old new is = omega (arith, is)

want : (error : SinkUse) (status : Status) → WantSaid error status → error.faults ≤ error.faults_after
want error status (inl said) = by said.1 where
  by : Stays error ⊎ Gains error out_of_memory → error.faults ≤ error.faults_after
  by (inl stays) = same error.faults error.faults_after stays.1
  by (inr gains) = same error.faults error.faults_after gains.1
want error status (inr failed) = rose error.faults error.faults_after failed.1.0

begun : (answer : Answer) (output : SinkUse) → HasBegun answer output → output.faults ≤ output.faults_after
begun (Text text) output stays = same output.faults output.faults_after stays.1
begun (Lines play) output gains = same output.faults output.faults_after gains.1
begun (Bound certificate bound) output (inl stays) = same output.faults output.faults_after stays.1
begun (Bound certificate bound) output (inr gains) = same output.faults output.faults_after gains.1

noted : (answer : Answer) (error : SinkUse) → HasNote answer error → error.faults ≤ error.faults_after
noted (Text text) error stays = same error.faults error.faults_after stays.1
noted (Lines play) error stays = same error.faults error.faults_after stays.1
noted (Bound certificate bound) error gains = same error.faults error.faults_after gains.1

lacks : (answer : Answer) (output error : SinkUse) → LacksNote answer output error → (output.faults ≤ output.faults_after) × (error.faults ≤ error.faults_after)
lacks (Text text) output error h = absurd h
lacks (Lines play) output error h = absurd h
lacks (Bound certificate bound) output error h = (same output.faults output.faults_after h.0.1, rose error.faults error.faults_after h.1.0)

pub output-counts : (output error : SinkUse) (answer : Answer) (status : Status) → OutputWritten output error answer status → output.faults ≤ output.faults_after
output-counts output error answer status (inl done) = same output.faults output.faults_after done.1.1
output-counts output error answer status (inr (inl failed)) = rose output.faults output.faults_after failed.1.0
output-counts output error answer status (inr (inr (inl lacking))) = (lacks answer output error lacking.1).0
output-counts output error answer status (inr (inr (inr ended))) = begun answer output ended.0

pub error-counts : (output error : SinkUse) (answer : Answer) (status : Status) → OutputWritten output error answer status → error.faults ≤ error.faults_after
error-counts output error answer status (inl done) = noted answer error done.2
error-counts output error answer status (inr (inl failed)) = same error.faults error.faults_after failed.2.1
error-counts output error answer status (inr (inr (inl lacking))) = (lacks answer output error lacking.1).1
error-counts output error answer status (inr (inr (inr ended))) = want error status ended.1
