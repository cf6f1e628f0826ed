-- What files hold, or may hold where they don't tell their content.
use Rattle.std.specs.Prelude.{ℕ, List, Option}
use Rattle.iolb_model.specs.Program.{AffineProgram}
use Rattle.c_grammar.specs.Program.{Means}
use Rattle.iolb_check.specs.Claims.{CertificateClaim}
use Rattle.iolb_cert.specs.OneCertificate.{HasCertificate}
use Rattle.iolb_host.specs.Files.{FileMap}
use Rattle.iolb_model.specs.declared.tower.TowerMove.{TowerMove}
use Rattle.memory_levels.specs.MovesText.{IsMovesText}
use Rattle.store_terms.specs.Claims.{StoresClaim}
use Rattle.store_text.specs.Texts.{HasStores}
use Rattle.tile_sched.specs.declared.schedule.Key.{Key}
use Rattle.tile_sched.specs.Texts.{IsTextOf}
use Rattle.iolb_commands.specs.Reading.{IsContent}
use Rattle.iolb_model.specs.declared.limits.TheConstants.{CERTIFICATE_BYTES, MOVES_BYTES, PROGRAM_BYTES, SCHEDULE_BYTES}

-- the file of this name holds a text that means this program; where the files don't tell their content, it may
pub record HoldsProgram (files : Option FileMap) (name : List ℕ) (program : AffineProgram) : Type 0 where
  pub source : List ℕ
  pub content : IsContent files name PROGRAM_BYTES source
  pub means : Means source program

-- the text of this certificate
pub record HoldsCertificate (files : Option FileMap) (name : List ℕ) (certificate : CertificateClaim) : Type 0 where
  pub bytes : List ℕ
  pub content : IsContent files name CERTIFICATE_BYTES bytes
  pub has : HasCertificate bytes certificate

-- the text of this schedule of a program
pub record HoldsSchedule (files : Option FileMap) (name : List ℕ) (program : AffineProgram) (schedule : List (List Key)) : Type 0 where
  pub bytes : List ℕ
  pub content : IsContent files name SCHEDULE_BYTES bytes
  pub has : IsTextOf program bytes schedule

-- the lines of these moves
pub record HoldsMoves (files : Option FileMap) (name : List ℕ) (moves : List TowerMove) : Type 0 where
  pub bytes : List ℕ
  pub content : IsContent files name MOVES_BYTES bytes
  pub has : IsMovesText bytes moves

-- the text of these stores
pub record HoldsStores (files : Option FileMap) (name : List ℕ) (stores : StoresClaim) : Type 0 where
  pub bytes : List ℕ
  pub content : IsContent files name CERTIFICATE_BYTES bytes
  pub has : HasStores bytes stores
