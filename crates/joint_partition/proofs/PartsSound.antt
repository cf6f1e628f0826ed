-- Parts whose claims hold are sound, and their images differ.
use Rattle.std.proofs.Common.{◌≡◌, refl, sym, ◌∙◌, ap, subst, ℕ, suc, ◌+◌, ◌≤◌, List, [], ◌∷◌, ◌++◌, length, map, arith}
use Rattle.std.specs.Prelude.{Contains, codes, drop}
use Rattle.std.specs.List.{AllByRecursion}
use Rattle.std.proofs.Math.IntN.{ℤ, pos}
use lib.Signed.{◌≤ℤ◌}
use Rattle.std.proofs.lemmas.List.{append_assoc, length-append, length-drop}
use Rattle.base_laws.proofs.Lists.{All-append, All-map, All-weaken, cons-same}
use Rattle.iolb_model.specs.Form.{AffineForm, form_value}
use Rattle.iolb_model.specs.Path.{row_path}
use Rattle.iolb_model.specs.Program.{AffineProgram, IsWellFormed}
use Rattle.iolb_model.specs.Bound.{IsAdmitted}
use Rattle.iolb_model.specs.Domain.{IsAt, IsWithin, LeadAlong}
use Rattle.affine_form.specs.Rows.{IsSmallOver, equality_rows, put_in, variables_from, widened, within_rows}
use Rattle.affine_form.specs.Substitution.{values_at}
use Rattle.affine_form.specs.System.{IsMet}
use Rattle.affine_form.proofs.Meaning.{equality_rows-met, values-end, values-front, values-middle, widened-met, within_rows-met}
use Rattle.affine_form.proofs.RowLemmas.{length-variables}
use Rattle.affine_form.proofs.SubstitutionLemmas.{form_value-substitution}
use Rattle.affine_program.specs.Domain.{domain_rows, path_of}
use Rattle.affine_program.proofs.Domains.{domain_rows-few, domain_rows-says}
use Rattle.claims.specs.Claims.{AllHold, Claim, counted, numbered}
use Rattle.claims.specs.declared.place.Step.{Step}
use Rattle.claims.specs.declared.place.Step.TheVariants.{Key}
use Rattle.claims.proofs.Laws.{AllHold-left, AllHold-right}
use Rattle.claims.proofs.Members.{counts-each}
use Rattle.claims.proofs.Systems.{goals-met}
use Rattle.dep_quast.specs.Context.{parameter_point}
use Rattle.domain_count.specs.Count.{rows_before}
use Rattle.domain_count.specs.CountClaims.{count_claims}
use Rattle.domain_count.specs.Points.{points}
use Rattle.execution_laws.proofs.Domains.{domains_executed, way-there}
use Rattle.execution_laws.proofs.Ordered.{All-member}
use Rattle.execution_laws.proofs.Ways.{holds-there, within-length}
use Rattle.reuse_paths.specs.FamilyFootprint.{instances_in}
use Rattle.reuse_paths.specs.Places.{IsExecuted}
use Rattle.reuse_paths.proofs.NestPoints.{nest-met, points-within}
use Rattle.reuse_paths.proofs.Places.{executed-there}
use Rattle.stretch_laws.proofs.Points.{member-of}
use Rattle.joint_partition.specs.Claims.{apart_claims, apart_from, cover_claim, distinct_claims, first_values, inside_claims, member_at, part_claims, second_values, total_claim, two_rows, two_variables, unit_claim, unit_claims}
use Rattle.joint_partition.specs.JointFits.{PartFits, PartsAreSound, pair_count}
use Rattle.joint_partition.specs.JointWords.{AreImagesApart, ArePartsApart, IsSoundPart, dimensions_of}
use Rattle.joint_partition.specs.Splits.{SplitTree, SplitsShow}
use Rattle.joint_partition.specs.Term.{PartTerm}

module _ (program : AffineProgram) (formed : IsWellFormed program) where
  -- ---- a part

  module _ (dimensions : ℕ) (place : List Step) (parts : List PartTerm) (index : ℕ) (part : PartTerm) (fits : PartFits program dimensions part)
      (holds : AllHold (part_claims program place parts index part)) where
    abbrev here : List Step
    here = member_at place (codes "parts") index

    abbrev counts : List Claim
    counts = count_claims program part.nest part.count here

    abbrev totals : List Claim
    totals = total_claim program here parts index

    abbrev inside : List Claim
    inside = inside_claims program here part

    abbrev units : List Claim
    units = unit_claims program here part

    holds-inside : AllHold inside
    holds-inside = AllHold-right (counts ++ totals) inside (AllHold-left (counts ++ totals ++ inside) units holds)

    holds-units : AllHold units
    holds-units = AllHold-right (counts ++ totals ++ inside) units holds

    module _ (parameters : List ℤ) (admitted : IsAdmitted program parameters) where
      -- a point of the nest is executed
      point-executed : (u : List ℤ) → IsWithin part.nest parameters u → IsExecuted program parameters (record { statement = part.statement; values = u })
      point-executed u within =
          let count : ℕ = length program.parameters in
          let vars : ℕ = count + length part.nest in
          let values : List AffineForm = variables_from vars count (length part.nest) in
          let wide : length part.nest ≡ length u = sym (within-length part.nest parameters u within) in
          let goals : List AffineForm = domain_rows program part.statement vars (parameter_point program vars) values in
          let met : IsMet goals (parameters ++ u) =
          goals-met 10 (here ++ Key (codes "inside") ∷ []) (rows_before program part.nest) 0 goals part.inside (parameters ++ u)
          (omega (arith, fits.inside, domain_rows-few program part.statement vars (parameter_point program vars) values)) holds-inside (nest-met program part.nest parameters u formed admitted within) in
          let front : values_at (parameter_point program vars) (parameters ++ u) ≡ parameters = values-front vars count parameters u (sym admitted.each) (omega arith) in
          let end : values_at values (parameters ++ u) ≡ u = values-end vars count (length part.nest) parameters u (sym admitted.each) wide (omega arith) in
          let in-path : LeadAlong (path_of program part.statement) parameters u =
          subst (λ (p : List ℤ). LeadAlong (path_of program part.statement) p u) front
          (subst (λ (v : List ℤ). LeadAlong (path_of program part.statement) (values_at (parameter_point program vars) (parameters ++ u)) v) end
          (domain_rows-says program part.statement vars (parameter_point program vars) values (parameters ++ u) formed (length-variables vars 0 (length program.parameters)) (length-variables vars count (length part.nest) ∙ fits.each) met)) in
          let there : (n : ℕ) × IsAt program parameters n (record { statement = part.statement; values = u }) =
          (domains_executed program parameters (record { statement = part.statement; values = u }) formed).1
          (holds-there (row_path program.tree part.statement) (λ p. LeadAlong p parameters u) (way-there program part.statement formed fits.there) in-path) in
          executed-there program parameters there.0 (record { statement = part.statement; values = u }) there.1

      all-executed : AllByRecursion (IsExecuted program parameters) (instances_in part.statement part.nest parameters)
      all-executed =
          All-map (IsExecuted program parameters) (λ (u : List ℤ). record { statement = part.statement; values = u }) (points part.nest parameters)
          (All-weaken (λ (u : List ℤ). IsWithin part.nest parameters u) (λ (u : List ℤ). IsExecuted program parameters (record { statement = part.statement; values = u })) (points part.nest parameters)
          (λ u within. point-executed u within) (points-within part.nest parameters))

    part-sound : IsSoundPart program dimensions part
    part-sound = record {
      instances = all-executed;
      long = fits.long;
      over = All-weaken (IsSmallOver (length program.parameters + length part.nest)) (λ (form : AffineForm). length form.coefficients ≡ length program.parameters + length part.nest) part.image
          (λ form small. small.over) fits.over;
      positive = fits.scale;
      undone = λ row column r c. (counts-each (unit_claim program here part row) (length part.nest) column c
          (counts-each (λ row. counted (unit_claim program here part row) 0 (length part.nest)) (length part.nest) row r holds-units)).0;
    }

  parts-sound : (dimensions : ℕ) (place : List Step) (all : List PartTerm) (index : ℕ) (parts : List PartTerm) → AllByRecursion (PartFits program dimensions) parts
      → AllHold (numbered (part_claims program place all) index parts) → AllByRecursion (IsSoundPart program dimensions) parts
  parts-sound dimensions place all index [] fits holds = tt
  parts-sound dimensions place all index (part ∷ parts) fits holds = (
    part-sound dimensions place all index part fits.0 (AllHold-left (part_claims program place all index part) (numbered (part_claims program place all) (suc index) parts) holds),
    parts-sound dimensions place all (suc index) parts fits.1 (AllHold-right (part_claims program place all index part) (numbered (part_claims program place all) (suc index) parts) holds),
  )

  -- ---- two parts

  put-values : (forms point : List AffineForm) (at : List ℤ) → values_at (put_in point forms) at ≡ values_at forms (values_at point at)
  put-values [] point at = refl
  put-values (form ∷ forms) point at = cons-same _ _ _ _ (form_value-substitution form point at) (put-values forms point at)

  values-both : (xs ys : List AffineForm) (at : List ℤ) → values_at (xs ++ ys) at ≡ values_at xs at ++ values_at ys at
  values-both [] ys at = refl
  values-both (x ∷ xs) ys at = ap (λ (l : List ℤ). form_value x at ∷ l) (values-both xs ys at)

  module _ (first second : PartTerm) (parameters xs ys : List ℤ) (admitted : IsAdmitted program parameters) (in-first : IsWithin first.nest parameters xs)
      (in-second : IsWithin second.nest parameters ys) (same : values_at first.image (parameters ++ xs) ≡ values_at second.image (parameters ++ ys)) where
    abbrev vars : ℕ
    vars = two_variables program first second

    abbrev params : List AffineForm
    params = parameter_point program vars

    abbrev point : List ℤ
    point = (parameters ++ xs) ++ ys

    long-first : length first.nest ≡ length xs
    long-first = sym (within-length first.nest parameters xs in-first)

    long-second : length second.nest ≡ length ys
    long-second = sym (within-length second.nest parameters ys in-second)

    params-are : values_at params point ≡ parameters
    params-are =
        subst (λ (p : List ℤ). values_at params p ≡ parameters) (sym (append_assoc parameters xs ys))
        (values-front vars (length program.parameters) parameters (xs ++ ys) (sym admitted.each) (omega arith))

    first-are : values_at (first_values program first second) point ≡ xs
    first-are = values-middle vars (length program.parameters) (length first.nest) parameters xs ys (sym admitted.each) long-first (omega arith)

    second-are : values_at (second_values program first second) point ≡ ys
    second-are =
        values-end vars (length program.parameters + length first.nest) (length second.nest) (parameters ++ xs) ys
        (omega (arith, length-append parameters xs, admitted.each, long-first)) long-second (omega arith)

    image-values : (part : PartTerm) (values : List AffineForm) (x : List ℤ) → values_at values point ≡ x → values_at (put_in (params ++ values) part.image) point ≡ values_at part.image (parameters ++ x)
    image-values part values x e =
        put-values part.image (params ++ values) point
        ∙ ap (values_at part.image) (values-both params values point ∙ ap (λ (l : List ℤ). l ++ values_at values point) params-are ∙ ap (λ (l : List ℤ). parameters ++ l) e)

    nest-rows-met : (part : PartTerm) (values : List AffineForm) (x : List ℤ) → values_at values point ≡ x → IsWithin part.nest parameters x
        → IsMet (within_rows vars part.nest params values) point
    nest-rows-met part values x e within =
        within_rows-met vars part.nest params values point
        (subst (λ (p : List ℤ). IsWithin part.nest p (values_at values point)) (sym params-are)
        (subst (λ (v : List ℤ). IsWithin part.nest parameters v) (sym e) within))

    abbrev assumed : List AffineForm
    assumed = map (widened vars) program.assumptions

    abbrev first_rows : List AffineForm
    first_rows = within_rows vars first.nest params (first_values program first second)

    abbrev second_rows : List AffineForm
    second_rows = within_rows vars second.nest params (second_values program first second)

    abbrev equal_rows : List AffineForm
    equal_rows = equality_rows vars (put_in (params ++ first_values program first second) first.image) (put_in (params ++ second_values program first second) second.image)

    rows-met : IsMet (two_rows program first second) point
    rows-met =
        let assumptions-met : IsMet assumed point =
        subst (IsMet assumed) (sym (append_assoc parameters xs ys))
        (widened-met vars (length program.parameters) program.assumptions parameters (xs ++ ys) formed.assumptions (sym admitted.each) admitted.met) in
        let equal : IsMet equal_rows point =
        equality_rows-met vars (put_in (params ++ first_values program first second) first.image) (put_in (params ++ second_values program first second) second.image) point
        (image-values first (first_values program first second) xs first-are ∙ same ∙ sym (image-values second (second_values program first second) ys second-are)) in
        All-append (λ (row : AffineForm). pos 0 ≤ℤ form_value row point) (assumed ++ first_rows ++ second_rows) equal_rows
        (All-append (λ (row : AffineForm). pos 0 ≤ℤ form_value row point) (assumed ++ first_rows) second_rows
        (All-append (λ (row : AffineForm). pos 0 ≤ℤ form_value row point) assumed first_rows assumptions-met
        (nest-rows-met first (first_values program first second) xs first-are in-first))
        (nest-rows-met second (second_values program first second) ys second-are in-second)) equal

  images-apart : SplitsShow → (index : ℕ) (place : List Step) (first second : PartTerm) (tree : SplitTree) → AllHold (apart_claims program index place first second tree) → AreImagesApart program first second
  images-apart show index place first second tree holds parameters xs ys admitted a b same =
      show 25 (member_at place (codes "distinct") index) (two_variables program first second) (two_rows program first second) tree holds ((parameters ++ xs) ++ ys)
      (rows-met first second parameters xs ys admitted (within first xs a) (within second ys b) same) where
        within : (part : PartTerm) (x : List ℤ) → Contains (points part.nest parameters) x → IsWithin part.nest parameters x
        within part x c =
            All-member (λ (u : List ℤ). IsWithin part.nest parameters u) (points part.nest parameters) x (points-within part.nest parameters) (member-of x (points part.nest parameters) c)

  apart-later : SplitsShow → (place : List Step) (index : ℕ) (part : PartTerm) (others : List PartTerm) (trees : List SplitTree) → length others ≤ length trees
      → AllHold (apart_from program place index part others trees) → AllByRecursion (AreImagesApart program part) others
  apart-later show place index part [] trees enough holds = tt
  apart-later show place index part (other ∷ others) [] enough holds = absurd (omega (arith, enough))
  apart-later show place index part (other ∷ others) (tree ∷ trees) enough holds = (
    images-apart show index place part other tree (AllHold-left (apart_claims program index place part other tree) (apart_from program place (suc index) part others trees) holds),
    apart-later show place (suc index) part others trees (omega (arith, enough)) (AllHold-right (apart_claims program index place part other tree) (apart_from program place (suc index) part others trees) holds),
  )

  parts-apart : SplitsShow → (place : List Step) (index : ℕ) (parts : List PartTerm) (trees : List SplitTree) → pair_count parts ≤ length trees
      → AllHold (distinct_claims program place index parts trees) → ArePartsApart program parts
  parts-apart show place index [] trees enough holds = tt
  parts-apart show place index (part ∷ parts) trees enough holds =
      let first : List Claim = apart_from program place index part parts trees in
      let rest : List Claim = distinct_claims program place (index + length parts) parts (drop (length parts) trees) in (
        apart-later show place index part parts trees (omega (arith, enough)) (AllHold-left first rest holds),
        parts-apart show place (index + length parts) parts (drop (length parts) trees) (omega (arith, enough, length-drop (length parts) trees)) (AllHold-right first rest holds),
      )

pub parts-are-sound : SplitsShow → PartsAreSound
parts-are-sound show program term place formed fits holds apart cover = record {
  parts = parts-sound program formed (dimensions_of term) place term.parts 0 term.parts fits.parts holds;
  apart = parts-apart program formed show place 0 term.parts term.distinct fits.splits apart;
  covered = λ i below. (counts-each (cover_claim place term) (dimensions_of term) i below cover).0;
}
