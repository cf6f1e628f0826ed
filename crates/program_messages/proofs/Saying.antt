-- What is said of a fault, along equations.
use Rattle.std.proofs.Common.{◌≡◌, sym, subst, List, ℕ, ◌-◌, ◌≤◌}
use Rattle.std.specs.Prelude.{Some, codes, slice_get}
use Rattle.help_pages.specs.Faults.{fault_helps, fault_texts}
use Rattle.program_messages.specs.declared.rules.Rule.{Rule}
use Rattle.program_messages.specs.Rules.{fault_number, rule_help, rule_text}
use Rattle.program_messages.specs.Messages.{IsSaid, by_default, by_fault, by_rule}

-- by a rule for the fault
pub said_by_rule : (number : ℕ) (rule : Rule) (wrong instead : List ℕ) → fault_number rule ≡ number → wrong ≡ rule_text rule → instead ≡ rule_help rule → IsSaid number wrong instead
said_by_rule number rule wrong instead fault text help =
    subst (λ (it : List ℕ). IsSaid number it instead) (sym text)
    (subst (λ (it : List ℕ). IsSaid number (rule_text rule) it) (sym help) (by_rule rule fault))

-- by the fault's own sentences
pub said_by_fault : (number same : ℕ) (wrong instead : List ℕ) → same ≡ number
    → slice_get fault_texts (same - 1) ≡ Some wrong → slice_get fault_helps (same - 1) ≡ Some instead → IsSaid number wrong instead
said_by_fault number same wrong instead equal text help =
    subst (λ (it : ℕ). IsSaid it wrong instead) equal (by_fault wrong instead text help)

-- of a number that no fault has
pub said_by_default : (number same : ℕ) → same ≡ number → ¬ ((1 ≤ same) × (same ≤ 12)) → IsSaid number (codes "this isn't read") (codes "see `iolb-explain help`")
said_by_default number same equal unknown = subst (λ (it : ℕ). IsSaid it (codes "this isn't read") (codes "see `iolb-explain help`")) equal (by_default unknown)
