-- A text has one value as stores, or one fault.
use Rattle.std.specs.Prelude.{◌≡◌, ℕ, List}
use Rattle.json_parts.specs.declared.error.CertFault.{CertFault}
use Rattle.store_terms.specs.Claims.{StoresClaim}
use Rattle.store_text.specs.Texts.{HasStores, IsTextFault}

-- Two stores of one text are equal, two faults of one text are equal, and no text has both stores and a fault.
pub record TextsHaveOneStores : Type 0 where
  pub one_stores : (bytes : List ℕ) (one other : StoresClaim) → HasStores bytes one → HasStores bytes other → one ≡ other
  pub one_fault : (bytes : List ℕ) (fault other : CertFault) → IsTextFault bytes fault → IsTextFault bytes other → fault ≡ other
  pub either : (bytes : List ℕ) (stores : StoresClaim) (fault : CertFault) → HasStores bytes stores → IsTextFault bytes fault → ⊥
