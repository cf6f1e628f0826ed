-- Pages that grow part by part.
use Rattle.std.proofs.Common.{◌≡◌, ◌∙◌, ap, List, ℕ, ◌++◌, append_assoc}

-- a page that gained a part after others gained them all
pub gain : (before parts part middle after : List ℕ) → middle ≡ before ++ parts → after ≡ middle ++ part → after ≡ before ++ (parts ++ part)
gain before parts part middle after so_far more = more ∙ ap (λ (page : List ℕ). page ++ part) so_far ∙ append_assoc before parts part
