-- The key of a member is the one, or another.
use Rattle.std.proofs.Common.{◌≡◌, ◌≢◌, ◌∷◌, ◌+◌, drop, string_bytes, true≢false, ap, sym, ◌∙◌}
use Rattle.std.proofs.lemmas.Slice.Eq.{bytes_eq-Decides}
use Rattle.serde_json.specs.Find.{get_member}
use Rattle.json_values.specs.View.{members_data}
use Rattle.json_values.proofs.Members.{found-here, found-later, rest-at}
use Rattle.json_values.proofs.value.value_of.Goals as goal

pub returns-then-eq : goal.returns-then-eq
returns-then-eq c =
    let members = c.args.members.now in
    let member = c.member-item.result in
    let at : drop c.loop-member.member-index members ≡ member ∷ drop (c.loop-member.member-index + 1) members = rest-at members c.loop-member.member-index member (c.loop-member-test.true) c.member-item.is in
    let same : c.args.name.now ≡ string_bytes member.0 = sym ((bytes_eq-Decides c.as_str.result.now c.args.name.now).0 (sym c.eq.ensures ∙ c.if-eq.true)) ∙ c.as_str.ensures.value in
    sym (c.loop-member.invariant ∙ ap (λ es. get_member c.args.name.now (members_data es)) at ∙ found-here c.args.name.now member (drop (c.loop-member.member-index + 1) members) same)

pub loop-member-preserved : goal.loop-member-preserved
loop-member-preserved c =
    let members = c.args.members.now in
    let member = c.member-item.result in
    let at : drop c.loop-member.member-index members ≡ member ∷ drop (c.loop-member.member-index + 1) members = rest-at members c.loop-member.member-index member (c.loop-member-test.true) c.member-item.is in
    let other : c.args.name.now ≢ string_bytes member.0 = λ e. true≢false (sym ((bytes_eq-Decides c.as_str.result.now c.args.name.now).1 (c.as_str.ensures.value ∙ sym e)) ∙ sym c.eq.ensures ∙ c.if-eq.false) in
    c.loop-member.invariant ∙ ap (λ es. get_member c.args.name.now (members_data es)) at ∙ found-later c.args.name.now member (drop (c.loop-member.member-index + 1) members) other
