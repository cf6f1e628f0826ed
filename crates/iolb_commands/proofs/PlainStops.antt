-- Stops that are no failure of a read and no want of memory.
use Rattle.std.proofs.Common.{◌≡◌, ◌≢◌, refl, ◌∙◌, ap, ℕ, ◌+◌, Bool, true, cond, List, [], ◌∷◌, ◌++◌, arith}
use Rattle.std.specs.Prelude.{count_by}
use Rattle.std.proofs.lemmas.List.Sums.{sum_by-append}
use Rattle.command_words.specs.Requests.{file_at}
use Rattle.iolb_host.specs.declared.files.FileFault.{FileFault}
use Rattle.iolb_host.specs.declared.files.FileFault.TheVariants.{Missing, TooLong, Failed, Memory as NoMemoryForFile}
use Rattle.iolb_host.specs.Faults.{NamedFault, after_fault, failure_count, is_failure}
use Rattle.iolb_commands.specs.declared.status.Status.TheVariants.{NoMemory}
use Rattle.iolb_commands.specs.declared.stop.Stop.{Stop}
use Rattle.iolb_commands.specs.declared.stop.Stop.TheVariants.{Words, File, ProgramText, OtherText, Refused, Wide, Memory}
use Rattle.iolb_commands.specs.Stop.{IsPlain, IsPlainFault, faults_at, stop_status}

one_more : {X : Type 0} (test : X → Bool) (xs : List X) (x : X) → test x ≡ true → count_by test (xs ++ x ∷ []) ≡ count_by test xs + 1
one_more test xs x is = sum_by-append (λ y. cond (test y) 1 0) xs (x ∷ []) ∙ ap (λ n. count_by test xs + n) (rw is refl)

no_more : (faults after : List NamedFault) (name : List ℕ) → after ≡ after_fault faults name Failed → failure_count after ≡ failure_count faults → ⊥
no_more faults after name noted calm =
    let more = ap failure_count noted ∙ one_more (λ (named : NamedFault). is_failure named.fault) faults (record { name = name; fault = Failed }) refl in omega (arith, more, calm)

plain_fault : (faults after : List NamedFault) (name : List ℕ) (fault : FileFault) → after ≡ after_fault faults name fault → failure_count after ≡ failure_count faults
    → (fault ≡ NoMemoryForFile → ⊥) → IsPlainFault fault
plain_fault faults after name Missing noted calm differs = tt
plain_fault faults after name TooLong noted calm differs = tt
plain_fault faults after name Failed noted calm differs = no_more faults after name noted calm
plain_fault faults after name NoMemoryForFile noted calm differs = differs refl

pub plain : (names : List (List ℕ)) (stop : Stop) (faults after : List NamedFault) → after ≡ faults_at names stop faults → failure_count after ≡ failure_count faults
    → stop_status stop ≢ NoMemory → IsPlain stop
plain names Words faults after noted calm differs = tt
plain names (File place fault) faults after noted calm differs =
    plain_fault faults after (file_at names place) fault noted calm (λ is. differs (ap (λ f. stop_status (File place f)) is))
plain names (ProgramText fault) faults after noted calm differs = tt
plain names (OtherText fault) faults after noted calm differs = tt
plain names (Refused refusal) faults after noted calm differs = tt
plain names Wide faults after noted calm differs = tt
plain names Memory faults after noted calm differs = differs refl
