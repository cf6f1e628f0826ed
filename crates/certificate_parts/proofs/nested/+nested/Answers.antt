use Rattle.std.proofs.Common.{◌≡◌, ◌-◌, ℕ, List, Some, Ok, codes, refl, sym, ap, subst, ◌∙◌, arith}
use Rattle.claims.specs.declared.place.Step.TheVariants.{Key}
use Rattle.serde_json.specs.Data.{Data}
use Rattle.serde_json.specs.Find.{get}
use Rattle.json_values.specs.View.{json_data}
use Rattle.json_parts.specs.Outcome.{Gives, Fails, under}
use Rattle.json_parts.specs.Json.{part}
use Rattle.json_parts.proofs.Failing.{part_there, part_absent, fails_fault, fails_under, fails_then, hands_on}
use Rattle.certificate_parts.specs.Forms.{reads_form}
use Rattle.certificate_parts.specs.Nested.{Branching, reads_test, reads_nested}
use Rattle.certificate_parts.proofs.NestedTrees.{nested_leaf, nested_past, nested_test}
use Rattle.certificate_parts.proofs.nested.+nested.Goals as goal

pub returns-then-not-has_keys : goal.returns-then-not-has_keys
returns-then-not-has_keys g t c =
    subst (Gives g.T.Branches.tree c.read_end.result) (sym (nested_leaf g.T.Branches.branching c.args.left (json_data c.args.value.now) (sym c.if-not-has_keys.ensures))) c.read_end.ensures

pub returns-then-left-eq0 : goal.returns-then-left-eq0
returns-then-left-eq0 g t c =
    let kind = g.T.Branches.branching in
    fails_fault 3 c.fault.result (reads_nested kind c.args.left (json_data c.args.value.now)) c.fault.ensures (nested_past kind c.args.left (json_data c.args.value.now) (sym c.if-not-has_keys.ensures) c.if-left-eq0.true)

pub returns-in_err-form : goal.returns-in_err-form
unfolding reads_test
returns-in_err-form g t c =
    let kind = g.T.Branches.branching in
    let d : Data = json_data c.args.value.now in
    hands_on g.T.Branches.tree c.from_residual.result c.in_err-form.field-0.0 (reads_nested kind c.args.left d) c.from_residual.ensures
    (subst (Fails c.in_err-form.field-0.0) (sym (nested_test kind c.args.left d (sym c.if-not-has_keys.ensures) c.if-left-eq0.false)) (fails_then c.in_err-form.field-0.0 (part (codes "form") reads_form d) _ c.in_err-form.ensures))

pub nested-requires : goal.nested-requires
nested-requires g t c = λ κs le. (omega (arith, c.decreases), le)

pub nested-requires-2 : goal.nested-requires-2
nested-requires-2 g t c = λ κs le. (omega (arith, c.decreases), le)

pub returns-in_default : goal.returns-in_default
unfolding reads_test
returns-in_default g t c =
    let kind = g.T.Branches.branching in
    let d : Data = json_data c.args.value.now in
    let absent = part_absent (codes "no") (reads_nested kind (c.args.left - 1)) d c.in_default.ensures in
    fails_fault 2 c.fault-in_default.result (reads_nested kind c.args.left d) c.fault-in_default.ensures
    (nested_test kind c.args.left d (sym c.if-not-has_keys.ensures) c.if-left-eq0.false ∙ rw (c.in_ok-form.ensures, absent) refl)

pub returns-in-Err : goal.returns-in-Err
unfolding reads_test
returns-in-Err g t c =
    let kind = g.T.Branches.branching in
    let d : Data = json_data c.args.value.now in
    let inner = reads_nested kind (c.args.left - 1) in
    let fails : Fails c.under.result (part (codes "no") inner d) = subst (Fails c.under.result) (sym (part_there (codes "no") inner d (json_data c.in-Some.below.now) c.in-Some.ensures))
    (fails_under (Key (codes "no")) c.in-Err.error c.under.result (inner (json_data c.in-Some.below.now)) c.under.ensures c.in-Err.ensures) in
    subst (Fails c.under.result) (sym (nested_test kind c.args.left d (sym c.if-not-has_keys.ensures) c.if-left-eq0.false)) (rw c.in_ok-form.ensures (fails_then c.under.result (part (codes "no") inner d) _ fails))

-- a tree behind a key, as it was read
behind_read : {A : Type 0} (kind : Branching A) (name : List ℕ) (left : ℕ) (d v : Data) (tree : A) → Some v ≡ get name d → reads_nested kind left v ≡ Ok tree → part name (reads_nested kind left) d ≡ Ok tree
behind_read kind name left d v tree there read = part_there name (reads_nested kind left) d v there ∙ ap (under (Key name)) read

pub returns-in_default-get : goal.returns-in_default-get
unfolding reads_test
returns-in_default-get g t c =
    let kind = g.T.Branches.branching in
    let d : Data = json_data c.args.value.now in
    let below = behind_read kind (codes "no") (c.args.left - 1) d (json_data c.in-Some.below.now) (g.T.Branches.tree c.in-Ok.tree) c.in-Some.ensures c.in-Ok.ensures in
    let absent = part_absent (codes "yes") (reads_nested kind (c.args.left - 1)) d c.in_default-get.ensures in
    fails_fault 2 c.fault-in_default-get.result (reads_nested kind c.args.left d) c.fault-in_default-get.ensures
    (nested_test kind c.args.left d (sym c.if-not-has_keys.ensures) c.if-left-eq0.false ∙ rw (c.in_ok-form.ensures, below, absent) refl)

pub returns-in-Err-nested : goal.returns-in-Err-nested
unfolding reads_test
returns-in-Err-nested g t c =
    let kind = g.T.Branches.branching in
    let d : Data = json_data c.args.value.now in
    let inner = reads_nested kind (c.args.left - 1) in
    let below = behind_read kind (codes "no") (c.args.left - 1) d (json_data c.in-Some.below.now) (g.T.Branches.tree c.in-Ok.tree) c.in-Some.ensures c.in-Ok.ensures in
    let e = c.under-in-Err-nested.result in
    let fails : Fails e (part (codes "yes") inner d) = subst (Fails e) (sym (part_there (codes "yes") inner d (json_data c.in-Some-get.above.now) c.in-Some-get.ensures))
    (fails_under (Key (codes "yes")) c.in-Err-nested.error e (inner (json_data c.in-Some-get.above.now)) c.under-in-Err-nested.ensures c.in-Err-nested.ensures) in
    subst (Fails e) (sym (nested_test kind c.args.left d (sym c.if-not-has_keys.ensures) c.if-left-eq0.false)) (rw (c.in_ok-form.ensures, below) (fails_then e (part (codes "yes") inner d) _ fails))

pub returns-in_ok-test-in-Ok-nested : goal.returns-in_ok-test-in-Ok-nested
unfolding reads_test
returns-in_ok-test-in-Ok-nested g t c =
    let kind = g.T.Branches.branching in
    let d : Data = json_data c.args.value.now in
    let below = behind_read kind (codes "no") (c.args.left - 1) d (json_data c.in-Some.below.now) (g.T.Branches.tree c.in-Ok.tree) c.in-Some.ensures c.in-Ok.ensures in
    let above = behind_read kind (codes "yes") (c.args.left - 1) d (json_data c.in-Some-get.above.now) (g.T.Branches.tree c.in-Ok-nested.yes) c.in-Some-get.ensures c.in-Ok-nested.ensures in
    nested_test kind c.args.left d (sym c.if-not-has_keys.ensures) c.if-left-eq0.false
    ∙ rw (c.in_ok-form.ensures, below, above) (ap Ok (sym c.in_ok-test-in-Ok-nested.ensures))
