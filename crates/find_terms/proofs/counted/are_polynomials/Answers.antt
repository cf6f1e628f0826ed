use Rattle.std.specs.Prelude.{codes}
use Rattle.std.proofs.Common.{◌≡◌, ap, subst, true, false, ℕ, List, ◌++◌, ◌∷◌, [], length}
use Rattle.claims.specs.Claims.{AllHold, Claim, FirstFails, IsRefusal}
use Rattle.claims.specs.declared.place.Step.{Step}
use Rattle.claims.specs.declared.place.Step.TheVariants.{Key}
use Rattle.claims.proofs.Laws.{accepted-stand}
use Rattle.certificate_fit.specs.PartFit.{polynomials_fit}
use Rattle.find_terms.proofs.CountLaws.{polynomials-anywhere}
use Rattle.find_terms.proofs.counted.are_polynomials.Goals as goal

clash : {X : Type 0} → false ≡ true → X
clash e = absurd cc

pub returns-in-Err-Failed : goal.returns-in-Err-Failed
returns-in-Err-Failed c =
    let place : List Step = c.new-place.result ++ Key (codes "sums") ∷ [] in
    let claims : List Claim = polynomials_fit c.args.params place c.args.sums.now (length c.args.nest.now) in
    let refusal : IsRefusal claims c.in-Err-Failed.field-0 =
    subst (λ (n : ℕ). IsRefusal (polynomials_fit c.args.params place c.args.sums.now n) c.in-Err-Failed.field-0) (ap length c.bounds-called.ensures) c.in-Err-Failed.ensures in
    let fails : FirstFails claims c.in-Err-Failed.field-0-0 = subst (IsRefusal claims) c.in-Err-Failed.field-0-is refusal in
    (λ is. clash is, λ h. absurd (accepted-stand claims c.in-Err-Failed.field-0-0 (h.uses place) fails))

pub returns-in-Ok : goal.returns-in-Ok
returns-in-Ok c =
    let place : List Step = c.new-place.result ++ Key (codes "sums") ∷ [] in
    let claims : List Claim = polynomials_fit c.args.params place c.args.sums.now (length c.args.nest.now) in
    let holds : AllHold claims = subst (λ (n : ℕ). AllHold (polynomials_fit c.args.params place c.args.sums.now n)) (ap length c.bounds-called.ensures) c.in-Ok.ensures in (
      λ is. record { small = c.are_small_polynomials.ensures.0 is; uses = λ other. polynomials-anywhere c.args.params (length c.args.nest.now) place other c.args.sums.now holds },
      λ h. c.are_small_polynomials.ensures.1 h.small,
    )
