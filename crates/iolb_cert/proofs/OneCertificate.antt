-- A text has one certificate, or one fault.
use Rattle.std.proofs.Common.{◌≡◌, ℕ, List, Ok, Err, inl, inr, sym, subst, ◌∙◌, ap}
use Rattle.iolb_model.specs.Polynomial.{Polynomial}
use Rattle.json_parts.proofs.Texts.{same-value}
use Rattle.json_parts.specs.Texts.{HasValue}
use Rattle.claims.specs.declared.place.Step.{Step}
use Rattle.affine_form.specs.Multipliers.{FarkasMultipliers}
use Rattle.poly_tree.specs.Poly.{Quotient}
use Rattle.dep_quast.specs.Tree.{SelectionTree}
use Rattle.domain_count.specs.Claims.{SumClaims}
use Rattle.k_partition.specs.Term.{CreditTerm, PartitionTerm}
use Rattle.reuse_paths.specs.Families.{CreditedNest}
use Rattle.iolb_check.specs.Claims.{ColdClaim, FrontClaim, TermClaim, cold, partition, front, joint, BranchClaim, CertificateClaim}
use Rattle.serde_json.specs.Data.{Data}
use Rattle.json_parts.specs.declared.error.CertFault.{CertFault}
use Rattle.json_parts.specs.Outcome.{Outcome}
use Rattle.certificate_parts.specs.Credits.{WrittenCredit}
use Rattle.certificate_parts.specs.Polynomials.{IsPolynomial, ArePolynomials}
use Rattle.certificate_parts.proofs.OnePolynomial.{one-polynomial}
use Rattle.json_parts.proofs.Related.{all-one}
use Rattle.iolb_cert.specs.Certificates.{reads_certificate}
use Rattle.iolb_cert.specs.OneCertificate.{HasCertificate, TextsHaveOneCertificate, TextsHaveOneAnswer}
use Rattle.iolb_cert.specs.Texts.{IsTextOf, IsTextFault}
use Rattle.iolb_cert.specs.Read.{PartitionClaim, WrittenPartition, WrittenTerm, as_cold, as_partition, as_front, as_joint, WrittenBranch, WrittenCertificate, claim_of_partition, IsPartition, IsTerm, IsBranch, IsCertificate}
use Rattle.joint_text.specs.Joint.{IsCreditTerm, IsJoint, WrittenJoint}
use Rattle.joint_text.specs.Parts.{IsPart, WrittenPart, part_with}
use Rattle.joint_partition.specs.Splits.{SplitTree}
use Rattle.joint_partition.specs.Term.{JointFamily, JointTerm, PartTerm}

-- ---- the same text says the same

same-outcome : (bytes : List ℕ) (d e : Data) → HasValue bytes d → HasValue bytes e → reads_certificate d ≡ reads_certificate e
same-outcome bytes d e p q = ap reads_certificate (same-value bytes d e p q)

says-one : (bytes : List ℕ) (v w : WrittenCertificate) → IsTextOf bytes v → IsTextOf bytes w → v ≡ w
says-one bytes v w p q = one (reads_certificate p.value) (reads_certificate q.value) p.says q.says (same-outcome bytes p.value q.value p.has q.has) where
  one : (r s : Outcome WrittenCertificate) → r ≡ Ok v → s ≡ Ok w → r ≡ s → v ≡ w
  one r s x y is = cc

-- ---- what is written is one certificate

one-list : (written : List Polynomial) (qs rs : List Quotient) → ArePolynomials written qs → ArePolynomials written rs → qs ≡ rs
one-list written qs rs h g = all-one IsPolynomial one-polynomial written qs rs h g

one-credit : (written : WrittenCredit) (a b : CreditTerm) → IsCreditTerm written a → IsCreditTerm written b → a ≡ b
one-credit written a b h g =
    ap (λ (nest : CreditedNest). credit nest a.count) (h.nest ∙ sym g.nest) ∙ ap (credit b.nest)
    (ap (λ (shown : List FarkasMultipliers). counted shown a.count.sums) (h.shown ∙ sym g.shown) ∙ ap (counted b.count.shown) (one-list written.sums a.count.sums b.count.sums h.sums g.sums)) where
      credit : CreditedNest → SumClaims → CreditTerm
      credit nest count = record { nest = nest; count = count }

      counted : List FarkasMultipliers → List Quotient → SumClaims
      counted shown sums = record { shown = shown; sums = sums }

-- a partition term by what it claims, its polynomials and its credits
abbrev joined : PartitionClaim → List Quotient → List CreditTerm → PartitionTerm
joined claim sums credits = record {
  statement = claim.statement;
  nest = claim.nest;
  count = record { shown = claim.shown; sums = sums };
  inside = claim.inside;
  matrix = claim.matrix;
  inverse = claim.inverse;
  q = claim.q;
  shape = claim.shape;
  a = claim.a;
  b = claim.b;
  credits = credits;
  families = claim.families;
  apart = claim.apart;
}

one-partition : (written : WrittenPartition) (a b : PartitionTerm) → IsPartition written a → IsPartition written b → a ≡ b
one-partition written a b h g =
    ap (λ (claim : PartitionClaim). joined claim a.count.sums a.credits) (h.claims ∙ sym g.claims)
    ∙ ap (λ (sums : List Quotient). joined (claim_of_partition b) sums a.credits) (one-list written.sums a.count.sums b.count.sums h.sums g.sums)
    ∙ ap (joined (claim_of_partition b) b.count.sums) (all-one IsCreditTerm one-credit written.credits a.credits b.credits h.credits g.credits)

one-part : (written : WrittenPart) (a b : PartTerm) → IsPart written a → IsPart written b → a ≡ b
one-part written a b h g = h.claims ∙ ap (part_with written) (one-list written.sums a.count.sums b.count.sums h.sums g.sums) ∙ sym g.claims

-- a joint term by its members
abbrev of_members : List PartTerm → List SplitTree → ℕ → ℕ → ℕ → List CreditTerm → List JointFamily → List FarkasMultipliers → JointTerm
of_members parts distinct q a b credits families apart =
    record { parts = parts; distinct = distinct; q = q; a = a; b = b; credits = credits; families = families; apart = apart }

one-joint : (written : WrittenJoint) (a b : JointTerm) → IsJoint written a → IsJoint written b → a ≡ b
one-joint written a b h g =
    ap (λ (x : List PartTerm). of_members x a.distinct a.q a.a a.b a.credits a.families a.apart) (all-one IsPart one-part written.parts a.parts b.parts h.parts g.parts)
    ∙ ap (λ (x : List SplitTree). of_members b.parts x a.q a.a a.b a.credits a.families a.apart) (h.distinct ∙ sym g.distinct)
    ∙ ap (λ (x : ℕ). of_members b.parts b.distinct x a.a a.b a.credits a.families a.apart) (h.q ∙ sym g.q)
    ∙ ap (λ (x : ℕ). of_members b.parts b.distinct b.q x a.b a.credits a.families a.apart) (h.a ∙ sym g.a)
    ∙ ap (λ (x : ℕ). of_members b.parts b.distinct b.q b.a x a.credits a.families a.apart) (h.b ∙ sym g.b)
    ∙ ap (λ (x : List CreditTerm). of_members b.parts b.distinct b.q b.a b.b x a.families a.apart) (all-one IsCreditTerm one-credit written.credits a.credits b.credits h.credits g.credits)
    ∙ ap (λ (x : List JointFamily). of_members b.parts b.distinct b.q b.a b.b b.credits x a.apart) (h.families ∙ sym g.families)
    ∙ ap (of_members b.parts b.distinct b.q b.a b.b b.credits b.families) (h.apart ∙ sym g.apart)

one-term : (written : WrittenTerm) (a b : TermClaim) → IsTerm written a → IsTerm written b → a ≡ b
one-term (as_cold written) (cold claim qs) (cold other rs) h g =
    ap (λ (x : ColdClaim). cold x qs) (h.claims ∙ sym g.claims) ∙ ap (cold other) (one-list written.sums qs rs h.sums g.sums)
one-term (as_partition written) (partition term) (partition other) h g = ap partition (one-partition written term other h g)
one-term (as_front written) (front claim qs os) (front other rs ts) h g =
    ap (λ (x : FrontClaim). front x qs os) (h.claims ∙ sym g.claims) ∙ ap (λ (x : List Quotient). front other x os) (one-list written.sums qs rs h.sums g.sums)
    ∙ ap (front other rs) (one-list written.outer_sums os ts h.outer_sums g.outer_sums)
one-term (as_joint written) (joint term) (joint other) h g = ap joint (one-joint written term other h g)
one-term (as_cold written) (cold claim qs) (partition other) h g = absurd g
one-term (as_cold written) (cold claim qs) (front other rs ts) h g = absurd g
one-term (as_cold written) (cold claim qs) (joint other) h g = absurd g
one-term (as_cold written) (partition term) b h g = absurd h
one-term (as_cold written) (front claim qs os) b h g = absurd h
one-term (as_cold written) (joint term) b h g = absurd h
one-term (as_partition written) (partition term) (cold other rs) h g = absurd g
one-term (as_partition written) (partition term) (front other rs ts) h g = absurd g
one-term (as_partition written) (partition term) (joint other) h g = absurd g
one-term (as_partition written) (cold claim qs) b h g = absurd h
one-term (as_partition written) (front claim qs os) b h g = absurd h
one-term (as_partition written) (joint term) b h g = absurd h
one-term (as_front written) (front claim qs os) (cold other rs) h g = absurd g
one-term (as_front written) (front claim qs os) (partition other) h g = absurd g
one-term (as_front written) (front claim qs os) (joint other) h g = absurd g
one-term (as_front written) (cold claim qs) b h g = absurd h
one-term (as_front written) (partition term) b h g = absurd h
one-term (as_front written) (joint term) b h g = absurd h
one-term (as_joint written) (joint term) (cold other rs) h g = absurd g
one-term (as_joint written) (joint term) (partition other) h g = absurd g
one-term (as_joint written) (joint term) (front other rs ts) h g = absurd g
one-term (as_joint written) (cold claim qs) b h g = absurd h
one-term (as_joint written) (partition term) b h g = absurd h
one-term (as_joint written) (front claim qs os) b h g = absurd h

one-branch : (written : WrittenBranch) (a b : BranchClaim) → IsBranch written a → IsBranch written b → a ≡ b
one-branch written a b h g =
    ap (λ (terms : List TermClaim). branch terms a.disjoint) (all-one IsTerm one-term written.terms a.terms b.terms h.0 g.0) ∙ ap (branch b.terms) (h.1 ∙ sym g.1) where
      branch : List TermClaim → List FarkasMultipliers → BranchClaim
      branch terms disjoint = record { terms = terms; disjoint = disjoint }

pub one-written : (written : WrittenCertificate) (a b : CertificateClaim) → IsCertificate written a → IsCertificate written b → a ≡ b
one-written written a b h g =
    ap (λ (trees : List (List SelectionTree)). certificate trees a.branches) (h.0 ∙ sym g.0)
    ∙ ap (certificate b.trees) (all-one IsBranch one-branch written.branches a.branches b.branches h.1 g.1) where
      certificate : List (List SelectionTree) → List BranchClaim → CertificateClaim
      certificate trees branches = record { trees = trees; branches = branches }

-- ---- the laws

pub one_certificate : TextsHaveOneCertificate
one_certificate bytes a b h g =
    one-written h.written a b h.is (subst (λ (w : WrittenCertificate). IsCertificate w b) (says-one bytes g.written h.written g.says h.says) g.is)

either-one : (bytes : List ℕ) (certificate : CertificateClaim) (fault : CertFault) → HasCertificate bytes certificate → IsTextFault bytes fault → ⊥
either-one bytes certificate fault has (inl none) = none.cause has.says.value has.says.has
either-one bytes certificate fault has (inr first) =
    never has.written (reads_certificate has.says.value) (reads_certificate first.value) has.says.says first.says
    (same-outcome bytes has.says.value first.value has.says.has first.has) where
      never : (w : WrittenCertificate) (r s : Outcome WrittenCertificate) → r ≡ Ok w → s ≡ Err fault → r ≡ s → ⊥
      never w r s p q e = absurd cc

one-fault : (bytes : List ℕ) (fault other : CertFault) → IsTextFault bytes fault → IsTextFault bytes other → fault ≡ other
one-fault bytes fault other (inl none) (inl no_other) =
    ap (λ (n : ℕ). at n fault.place) (none.number ∙ sym no_other.number) ∙ ap (at other.number) (none.place ∙ sym no_other.place) where
      at : ℕ → List Step → CertFault
      at number place = record { number = number; place = place }
one-fault bytes fault other (inl none) (inr first) = absurd (none.cause first.value first.has)
one-fault bytes fault other (inr first) (inl none) = absurd (none.cause first.value first.has)
one-fault bytes fault other (inr first) (inr second) =
    one (reads_certificate first.value) (reads_certificate second.value) first.says second.says (same-outcome bytes first.value second.value first.has second.has) where
      one : (r s : Outcome WrittenCertificate) → r ≡ Err fault → s ≡ Err other → r ≡ s → fault ≡ other
      one r s p q e = cc

pub one_answer : TextsHaveOneAnswer
one_answer = record { either = either-one; one_fault = one-fault }
