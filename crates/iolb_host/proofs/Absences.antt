-- Faults that are no failures.
use Rattle.std.proofs.Common.{◌≡◌, refl, Bool, true, false, List, [], ◌∷◌}
use Rattle.iolb_host.specs.Faults.{NamedFault, absences, failure_count, is_failure}

none_more : (fault : NamedFault) (faults : List NamedFault) → failure_count (absences faults) ≡ 0 → failure_count (absences (fault ∷ faults)) ≡ 0
none_more fault faults none = by (is_failure fault.fault) refl where
  by : (test : Bool) → is_failure fault.fault ≡ test → failure_count (absences (fault ∷ faults)) ≡ 0
  by true is = rw is none
  by false is = rw is (rw is none)

-- there is no failure among them
pub none_failed : (faults : List NamedFault) → failure_count (absences faults) ≡ 0
none_failed [] = refl
none_failed (fault ∷ faults) = none_more fault faults (none_failed faults)
