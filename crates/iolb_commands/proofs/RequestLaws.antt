-- What a file that was read comes to, and one that wasn't.
use Rattle.std.proofs.Common.{◌≡◌, ◌⊎◌, sym, ap, subst, inl, inr, List, ℕ}
use Rattle.std.specs.Prelude.{Option}
use Rattle.command_words.specs.Requests.{Work, file_at}
use Rattle.iolb_host.specs.Files.{FileMap}
use Rattle.iolb_commands.specs.declared.stop.Stop.{Stop}
use Rattle.iolb_commands.specs.declared.stop.Stop.TheVariants.{Words, File, ProgramText, OtherText, Refused, Wide, Memory}
use Rattle.iolb_commands.specs.Phases.{End, Phase, onward, stopping, wanting, stops, FileComes, IsSaid, IsUnread, IsUnsaid, StopsFor}
use Rattle.iolb_commands.specs.Reading.{IsContent}
use Rattle.iolb_commands.specs.Stop.{faults_at}
use Rattle.iolb_commands.specs.Use.{FilesUse, HasOneFaultAtMost}
use Rattle.iolb_commands.specs.Works.{most_bytes}

pub unread : (files : Option FileMap) (names : List (List ℕ)) (work : Work) (place : ℕ) (Onward : List ℕ → End → Type 0) (stop : Stop) → IsUnread files names work place stop
    → FileComes files names work place Onward (stops stop)
unread files names work place Onward stop (fault, is, cause) = stopping fault cause (ap stops is)

-- a file's bytes, as a slice of them
pub bytes_there : (files : Option FileMap) (name : List ℕ) (most : ℕ) (bytes slice : List ℕ) → slice ≡ bytes → IsContent files name most bytes → IsContent files name most slice
bytes_there files name most bytes slice is content = subst (IsContent files name most) (sym is) content

-- the file at a place, once it was to be read, of work that is known
module _ (files : Option FileMap) (names : List (List ℕ)) (place : ℕ) (work known : Work) (Onward : List ℕ → End → Type 0) where
  pub file_read : (bytes slice : List ℕ) (end : End) → work ≡ known → slice ≡ bytes → IsContent files (file_at names place) (most_bytes work place) bytes → Onward slice end
      → FileComes files names known place Onward end
  file_read bytes slice end is same content on = onward slice
      (bytes_there files (file_at names place) (most_bytes known place) bytes slice same (subst (λ (w : Work). IsContent files (file_at names place) (most_bytes w place) bytes) is content)) on

  pub file_unread : (stop : Stop) → work ≡ known → IsUnread files names work place stop → FileComes files names known place Onward (stops stop)
  file_unread stop is cause = unread files names known place Onward stop (subst (λ (w : Work). IsUnread files names w place stop) is cause)

-- ---- what a file says, and why not

module _ {X : Type 0} (files : Option FileMap) (names : List (List ℕ)) (place : ℕ) (work known : Work) (is : work ≡ known) where
  module _ (HasFault : List ℕ → X → Type 0) (stop : X → Stop) {Y : Type 0} (Has : List ℕ → Y → Type 0) (Onward : Y → End → Type 0) where
    text_stops : (bytes : List ℕ) (it : Stop) → StopsFor (HasFault bytes) stop it → Phase (HasFault bytes) stop (Has bytes) Onward (stops it)
    text_stops bytes it (inl want) = wanting (ap stops want)
    text_stops bytes it (inr (x, cause, because)) = stopping x cause (ap stops because)

    at_known : (it : Stop) → IsUnsaid files names known place HasFault stop it → FileComes files names known place (λ bytes. Phase (HasFault bytes) stop (Has bytes) Onward) (stops it)
    at_known it (inl never) = unread files names known place _ it never
    at_known it (inr (bytes, content, stopped)) = onward bytes content (text_stops bytes it stopped)

    -- the work stops
    pub unsaid_stops : (it : Stop) → IsUnsaid files names work place HasFault stop it → FileComes files names known place (λ bytes. Phase (HasFault bytes) stop (Has bytes) Onward) (stops it)
    unsaid_stops it never = at_known it (subst (λ (w : Work). IsUnsaid files names w place HasFault stop it) is never)

    -- it goes on
    pub said_comes : (y : Y) (end : End) → IsSaid files names work place Has y → Onward y end → FileComes files names known place (λ bytes. Phase (HasFault bytes) stop (Has bytes) Onward) end
    said_comes y end said on =
        let there : IsSaid files names known place Has y = subst (λ (w : Work). IsSaid files names w place Has y) is said in
        onward there.0 there.1 (onward y there.2 on)

-- a file that wasn't read, as a slice of bytes of which something is said
module _ {X : Type 0} (files : Option FileMap) (names : List (List ℕ)) (place : ℕ) (work : Work) (bytes slice : List ℕ) (same : slice ≡ bytes)
    (content : IsContent files (file_at names place) (most_bytes work place) bytes) where
  pub is_said : (Has : List ℕ → X → Type 0) (x : X) → Has slice x → IsSaid files names work place Has x
  is_said Has x has = (slice, bytes_there files (file_at names place) (most_bytes work place) bytes slice same content, has)

  pub is_unsaid : (HasFault : List ℕ → X → Type 0) (stop : X → Stop) (it : Stop) → StopsFor (HasFault slice) stop it → IsUnsaid files names work place HasFault stop it
  is_unsaid HasFault stop it stopped = inr (slice, bytes_there files (file_at names place) (most_bytes work place) bytes slice same content, stopped)

pub one_fault : (names : List (List ℕ)) (stop : Stop) (files : FilesUse) → files.after ≡ faults_at names stop files.before → HasOneFaultAtMost files
one_fault names Words files noted = inl noted
one_fault names (File place fault) files noted = inr (file_at names place, fault, noted)
one_fault names (ProgramText fault) files noted = inl noted
one_fault names (OtherText fault) files noted = inl noted
one_fault names (Refused refusal) files noted = inl noted
one_fault names Wide files noted = inl noted
one_fault names Memory files noted = inl noted
