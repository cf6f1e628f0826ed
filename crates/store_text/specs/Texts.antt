-- Which stores a text has, or which fault.
use Rattle.std.specs.Prelude.{◌≡◌, ⊤, ◌⊎◌, ℕ, List, [], Result, Ok, Err}
use Rattle.serde_json.specs.Data.{Data}
use Rattle.json_parts.specs.Texts.{HasValue}
use Rattle.json_parts.specs.declared.error.CertFault.{CertFault}
use Rattle.json_parts.specs.declared.error.CertError.{CertError}
use Rattle.json_parts.specs.declared.error.CertError.TheVariants.{Fault, Memory}
use Rattle.store_terms.specs.Claims.{StoresClaim, claim_of_stores}
use Rattle.store_terms.specs.Limits.{StoresParts}
use Rattle.store_text.specs.Read.{IsStores}
use Rattle.store_text.specs.Stores.{WrittenStores, reads_stores}

-- the text has these stores: its value says so
pub record HasStores (bytes : List ℕ) (stores : StoresClaim) : Type 0 where
  pub value : Data
  pub has : HasValue bytes value
  pub written : WrittenStores
  pub says : reads_stores value ≡ Ok written
  pub is : IsStores written stores

-- fault 1, at the whole: there is no value
pub record IsNoJson (bytes : List ℕ) (fault : CertFault) : Type 0 where
  pub number : fault.number ≡ 1
  pub place : fault.place ≡ []
  pub cause : (value : Data) → HasValue bytes value → ⊥

-- the first fault of the value
pub record IsFirstFault (bytes : List ℕ) (fault : CertFault) : Type 0 where
  pub value : Data
  pub has : HasValue bytes value
  pub says : reads_stores value ≡ Err fault

abbrev pub IsTextFault : List ℕ → CertFault → Type 0
IsTextFault bytes fault = IsNoJson bytes fault ⊎ IsFirstFault bytes fault

-- The stores that the text has; or its fault; or want of memory.
abbrev pub ReadsText : List ℕ → Result StoresParts CertError → Type 0
ReadsText bytes (Ok stores) = HasStores bytes (claim_of_stores stores)
ReadsText bytes (Err (Fault f)) = IsTextFault bytes f
ReadsText bytes (Err Memory) = ⊤
