use Rattle.std.proofs.Common.{◌≡◌, sym, ◌∙◌, ap, subst, ℕ, List, ◌+◌, ◌++◌, ◌∷◌, [], map, length, drop, append_assoc, rules, arith}
use Rattle.std.specs.Prelude.{Ok, Err, codes}
use Rattle.std.proofs.lemmas.List.{drop_all, length-map}
use Rattle.base_laws.proofs.Lists.{All-at}
use Rattle.affine_program.specs.Parts.{meaning}
use Rattle.claims.specs.Claims.{Claim, AllHold, IsRefusal, numbered}
use Rattle.claims.specs.declared.place.Step.{Step}
use Rattle.claims.specs.declared.place.Step.TheVariants.{Index, Key}
use Rattle.claims.proofs.Found.{refused-first}
use Rattle.claims.proofs.Members.{numbered-ended, numbered-from, numbered-next}
use Rattle.dep_quast.specs.Tree.{SelectionTree}
use Rattle.reuse_paths.specs.declared.family.Family.{Family}
use Rattle.reuse_paths.specs.Families.{CreditedNest, FamilyForms, credit_of, family_of}
use Rattle.reuse_paths.specs.FamilyClaims.{family_claims}
use Rattle.reuse_paths.specs.FamilyFits.{FamilyFits}
use Rattle.dep_quast.specs.Quasts.{trees_of}
use Rattle.iolb_model.specs.Program.{AffineProgram}
use Rattle.k_partition.specs.PartitionClaims.{family_claims_at}
use Rattle.k_partition.specs.Term.{PartitionTerm, credited_nests}
use Rattle.k_partition.specs.View.{partition_of}
use Rattle.k_partition.proofs.Members.{member-of, nests-are}
use Rattle.k_partition.proofs.families_checked.families_checked.Goals as goal

-- the claims of a family, by what the code holds
same : (program : AffineProgram) (trees : List (List SelectionTree)) (term : PartitionTerm) (place list inner : List Step) (nests : List CreditedNest) (i : ℕ) (family : FamilyForms)
    → nests ≡ credited_nests term → list ≡ place ++ Key (codes "families") ∷ [] → inner ≡ list ++ Index i ∷ []
    → family_claims program trees term.statement term.nest term.matrix nests family inner ≡ family_claims_at program trees place term i family
same program trees term place list inner nests i family e f g =
    ap (λ (ns : List CreditedNest). family_claims program trees term.statement term.nest term.matrix ns family inner) e
    ∙ ap (family_claims program trees term.statement term.nest term.matrix (credited_nests term) family) (g ∙ ap (λ (l : List Step). l ++ Index i ∷ []) f ∙ append_assoc place (Key (codes "families") ∷ []) (Index i ∷ []))

pub check_family-requires-clause-fits : goal.check_family-requires-clause-fits
check_family-requires-clause-fits c =
    let program = meaning c.args.program.now in
    let trees = trees_of c.args.quasts.now in
    let term = partition_of c.args.term.now in
    let item : Family = c.index-families-i.result in
    let there = member-of family_of c.as_slice-families.result.now c.args.term.now.families.items c.loop-i.i item c.as_slice-families.ensures.value c.loop-i-test.true c.index-families-i.is in
    let nests : credited_nests term ≡ map credit_of c.as_slice-credits.result.now = nests-are c.args.term.now.credits.items ∙ ap (map credit_of) (sym c.as_slice-credits.ensures.value) in
    subst (λ (ns : List CreditedNest). FamilyFits program trees term.statement term.nest term.matrix ns (family_of item)) nests
    (subst (FamilyFits program trees term.statement term.nest term.matrix (credited_nests term)) (sym there.1)
    (All-at (FamilyFits program trees term.statement term.nest term.matrix (credited_nests term)) term.families c.loop-i.i (family_of item) c.requires.fits there.0))

pub returns-in_err-check_family-clause-refused : goal.returns-in_err-check_family-clause-refused
returns-in_err-check_family-clause-refused c =
    let program = meaning c.args.program.now in
    let trees = trees_of c.args.quasts.now in
    let term = partition_of c.args.term.now in
    let place = c.args.place.now in
    let i : ℕ = c.loop-i.i in
    let item : Family = c.index-families-i.result in
    let each = family_claims_at program trees place term in
    let there = member-of family_of c.as_slice-families.result.now c.args.term.now.families.items i item c.as_slice-families.ensures.value c.loop-i-test.true c.index-families-i.is in
    let nests : map credit_of c.as_slice-credits.result.now ≡ credited_nests term = sym (nests-are c.args.term.now.credits.items ∙ ap (map credit_of) (sym c.as_slice-credits.ensures.value)) in
    let r = c.in_err-check_family.field-0.0 in
    let refused : IsRefusal (numbered each 0 term.families) r =
    c.loop-i.invariant (Err r)
    (subst (λ (cs : List Claim). IsRefusal cs r) (sym (numbered-from each term.families i (family_of item) there.0 there.1))
    (refused-first (each i (family_of item)) (numbered each (i + 1) (drop (i + 1) term.families)) r
    (subst (λ (cs : List Claim). IsRefusal cs r)
    (same program trees term place c.in_ok-list.list c.in_ok-inner.inner (map credit_of c.as_slice-credits.result.now) i (family_of item) nests c.in_ok-list.ensures c.in_ok-inner.ensures)
    c.in_err-check_family.ensures.refused))) in
    search rules

pub loop-i-preserved : goal.loop-i-preserved
loop-i-preserved c = λ found h.
    let program = meaning c.args.program.now in
    let trees = trees_of c.args.quasts.now in
    let term = partition_of c.args.term.now in
    let place = c.args.place.now in
    let i : ℕ = c.loop-i.i in
    let item : Family = c.index-families-i.result in
    let each = family_claims_at program trees place term in
    let there = member-of family_of c.as_slice-families.result.now c.args.term.now.families.items i item c.as_slice-families.ensures.value c.loop-i-test.true c.index-families-i.is in
    let nests : map credit_of c.as_slice-credits.result.now ≡ credited_nests term = sym (nests-are c.args.term.now.credits.items ∙ ap (map credit_of) (sym c.as_slice-credits.ensures.value)) in
    c.loop-i.invariant found
    (numbered-next each term.families i (family_of item) there.0 there.1 found
    (subst AllHold (same program trees term place c.in_ok-list.list c.in_ok-inner.inner (map credit_of c.as_slice-credits.result.now) i (family_of item) nests c.in_ok-list.ensures c.in_ok-inner.ensures)
    c.in_ok-check_family.ensures.hold) h)

pub returns-clause-holds : goal.returns-clause-holds
returns-clause-holds c =
    let program = meaning c.args.program.now in
    let trees = trees_of c.args.quasts.now in
    let term = partition_of c.args.term.now in
    c.loop-i.invariant (Ok tt)
    (numbered-ended (family_claims_at program trees c.args.place.now term) term.families c.loop-i.i
    (drop_all c.loop-i.i term.families
    (omega (arith, c.loop-i-test.false, length-map c.args.term.now.families.items family_of, ap (λ (l : List Family). length l) c.as_slice-families.ensures.value))))
