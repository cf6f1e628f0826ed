-- A sound partition term's sets cover its points' coordinates, which tell the points apart.
use Rattle.std.proofs.Common.{◌≡◌, refl, sym, ◌∙◌, ap, subst, ℕ, suc, ◌<◌, ◌≤◌, true, cond, List, [], ◌∷◌, ◌++◌, length, map, arith}
use Rattle.std.specs.Prelude.{nat_eq, Some, sum_by, slice_index_or}
use Rattle.std.specs.List.{AllByRecursion, IsDistinct}
use Rattle.std.proofs.Math.IntN.{ℤ}
use Rattle.std.proofs.lemmas.List.Sums.{sum_by-cons}
use Rattle.base_laws.proofs.Lists.{cons-same}
use Rattle.iolb_model.specs.Form.{dot}
use Rattle.iolb_model.specs.Program.{AffineProgram, IsWellFormed}
use Rattle.iolb_model.specs.Bound.{IsAdmitted}
use Rattle.iolb_model.specs.Domain.{IsAt}
use Rattle.iolb_model.specs.Execution.{Instance, execution}
use Rattle.iolb_model.specs.Game.{stands_in}
use Rattle.iolb_model.specs.Graph.{computation_graph}
use Rattle.execution_laws.proofs.Members.{Member, Member-map}
use Rattle.execution_laws.proofs.Ordered.{All-member, Member-map_from}
use Rattle.execution_laws.proofs.Undone.{same_point}
use Rattle.pebble_game.proofs.InputVertices.{slice_get-below}
use Rattle.pebble_game.proofs.Marks.{standing-member}
use Rattle.pebble_game.proofs.WellFormed.{IsDistinct-distinct}
use Rattle.reuse_paths.specs.MatrixRows.{matrix_rows}
use Rattle.affine_form.specs.Substitution.{values_at}
use Rattle.reuse_paths.proofs.Matrices.{rows-many}
use Rattle.domain_count.specs.Points.{points}
use Rattle.reuse_paths.specs.Families.{FamilyForms}
use Rattle.reuse_paths.specs.FamilyFootprint.{instances_in}
use Rattle.reuse_paths.specs.Places.{place_of, IsExecuted}
use Rattle.reuse_paths.specs.SoundFamilies.{IsSoundFamily}
use Rattle.reuse_paths.proofs.NestPoints.{points-long, points-differ, distinct-images}
use Rattle.k_partition.specs.Laws.{AreInstances}
use Rattle.k_partition.specs.Reuse.{ReuseFamily, ReusePartition, FixesCoordinates, IsCovered, IsSoundFamily as IsSoundReuse}
use Rattle.k_partition.specs.ReusedWords.{instance_at, coordinate_of, reuse_family, reuse_partition, FixesRows, IsSoundTerm, SoundTermsAreSound}
use Rattle.k_partition.specs.Term.{PartitionTerm, credited_nests}
use Rattle.k_partition.proofs.ReusedWords.{instance-is, family-reuses}

pub summed : {X Y : Type 0} (f : Y → ℕ) (g : X → Y) (xs : List X) → sum_by f (map g xs) ≡ sum_by (λ (x : X). f (g x)) xs
summed f g [] = refl
summed {X} {Y} f g (x ∷ xs) = omega (arith, sum_by-cons f (g x) (map g xs), sum_by-cons (λ (y : X). f (g y)) x xs, summed f g xs)

pub mapped-twice : {X Y Z : Type 0} (f : Y → Z) (g : X → Y) (xs : List X) → map f (map g xs) ≡ map (λ (x : X). f (g x)) xs
mapped-twice f g [] = refl
mapped-twice {X} {Y} {Z} f g (x ∷ xs) = ap (λ (l : List Z). f (g x) ∷ l) (mapped-twice f g xs)

module _ (program : AffineProgram) (term : PartitionTerm) (parameters : List ℤ) (formed : IsWellFormed program) (admitted : IsAdmitted program parameters) (sound : IsSoundTerm program term) where
  abbrev partition : ReusePartition
  partition = reuse_partition program term parameters

  abbrev instance_of_point : List ℤ → Instance
  instance_of_point values = record { statement = term.statement; values = values }

  abbrev vertex_of_point : List ℤ → ℕ
  vertex_of_point values = place_of program parameters (instance_of_point values)

  abbrev all : List (List ℤ)
  all = points term.nest parameters

  vertices-are : partition.points ≡ map vertex_of_point all
  vertices-are = mapped-twice (place_of program parameters) instance_of_point all

  -- each point is executed
  point-there : (x : List ℤ) → Member x all → IsAt program parameters (vertex_of_point x) (instance_of_point x)
  point-there x member = All-member (IsExecuted program parameters) (instances_in term.statement term.nest parameters) (instance_of_point x) (sound.instances parameters admitted) (Member-map instance_of_point x all member)

  one-point : (x y : List ℤ) → Member x all → Member y all → vertex_of_point x ≡ vertex_of_point y → x ≡ y
  one-point x y mx my e = ap (λ (i : Instance). i.values) (same (instance_of_point x) (instance_of_point y)
      (sym (point-there x mx) ∙ subst (λ (n : ℕ). IsAt program parameters n (instance_of_point y)) (sym e) (point-there y my))) where
        same : (a b : Instance) → Some a ≡ Some b → a ≡ b
        same a b p = cc

  point-of : (vertex : ℕ) → stands_in partition.points vertex ≡ true → (x : List ℤ) × (Member x all × (vertex ≡ vertex_of_point x))
  point-of vertex stands = Member-map_from vertex_of_point vertex all (subst (Member vertex) vertices-are (standing-member partition.points vertex stands))

  values-are : (x : List ℤ) → Member x all → (instance_at program parameters (vertex_of_point x)).values ≡ x
  values-are x member = ap (λ (i : Instance). i.values) (instance-is program parameters formed (vertex_of_point x) (instance_of_point x) (point-there x member))

  coordinate-is : (vertex : ℕ) (x : List ℤ) → Member x all → vertex ≡ vertex_of_point x → (i : ℕ)
      → coordinate_of program term.matrix parameters vertex i ≡ dot (slice_index_or (matrix_rows term.matrix) i []) x
  coordinate-is vertex x member e i =
      ap (λ (v : List ℤ). dot (slice_index_or (matrix_rows term.matrix) i []) v) (ap (λ (v : ℕ). (instance_at program parameters v).values) e ∙ values-are x member)

  long : (x : List ℤ) → Member x all → length x ≡ length term.nest
  long x member = All-member (λ (u : List ℤ). length u ≡ length term.nest) all x (points-long term.nest parameters) member

  told-apart : (u v : ℕ) → stands_in partition.points u ≡ true → stands_in partition.points v ≡ true
      → ((i : ℕ) → i < length term.nest → partition.coordinate u i ≡ partition.coordinate v i) → u ≡ v
  told-apart u v su sv same =
      let a = point-of u su in
      let b = point-of v sv in
      let rows : List (List ℤ) = matrix_rows term.matrix in
      let equal : a.0 ≡ b.0 = same_point 0 (length term.nest) (matrix_rows term.inverse) rows a.0 b.0 (long a.0 a.1.0) (long b.0 b.1.0) sound.undone (same-values a.0 b.0 rows (λ i below.
      sym (coordinate-is u a.0 a.1.0 a.1.1 i) ∙ same i (omega (arith, below, rows-many term.matrix, sound.rows)) ∙ coordinate-is v b.0 b.1.0 b.1.1 i)) in
      a.1.1 ∙ ap vertex_of_point equal ∙ sym b.1.1 where
        same-values : (x y : List ℤ) (rows : List (List ℤ)) → ((i : ℕ) → i < length rows → dot (slice_index_or rows i []) x ≡ dot (slice_index_or rows i []) y)
            → map (λ (row : List ℤ). dot row x) rows ≡ map (λ (row : List ℤ). dot row y) rows
        same-values x y [] h = refl
        same-values x y (row ∷ rows) h = cons-same (dot row x) (dot row y) _ _ (h 0 (omega arith)) (same-values x y rows (λ i below. h (suc i) (omega (arith, below))))

  fixes : (family : FamilyForms) → FixesRows (length program.parameters) term.matrix family → FixesCoordinates partition (reuse_family program term parameters family)
  fixes family rows u v su sv same i below has =
      let a = point-of u su in
      let b = point-of v sv in
      let starts : values_at family.start_label (parameters ++ a.0) ≡ values_at family.start_label (parameters ++ b.0) =
      sym (label-at u a.0 a.1.0 a.1.1) ∙ same ∙ label-at v b.0 b.1.0 b.1.1 in
      coordinate-is u a.0 a.1.0 a.1.1 i ∙ rows parameters a.0 b.0 admitted.each starts i has ∙ sym (coordinate-is v b.0 b.1.0 b.1.1 i) where
        label-at : (vertex : ℕ) (x : List ℤ) → Member x all → vertex ≡ vertex_of_point x
            → (reuse_family program term parameters family).start vertex ≡ values_at family.start_label (parameters ++ x)
        label-at vertex x member e = ap (λ (w : List ℤ). values_at family.start_label (parameters ++ w)) (ap (λ (n : ℕ). (instance_at program parameters n).values) e ∙ values-are x member)

  all-fix : (families : List FamilyForms) → AllByRecursion (FixesRows (length program.parameters) term.matrix) families
      → AllByRecursion (FixesCoordinates partition) (map (reuse_family program term parameters) families)
  all-fix [] h = tt
  all-fix (family ∷ families) h = (fixes family h.0, all-fix families h.1)

  all-reuse : (families : List FamilyForms) → AllByRecursion (IsSoundFamily program term.statement term.nest (credited_nests term)) families
      → AllByRecursion (IsSoundReuse (computation_graph program parameters) partition) (map (reuse_family program term parameters) families)
  all-reuse [] h = tt
  all-reuse (family ∷ families) h = (family-reuses program parameters formed term admitted sound family h.0, all-reuse families h.1)

  weights-are : (i : ℕ) (families : List FamilyForms) → sum_by (λ (family : ReuseFamily). cond (family.has i) family.weight 0) (map (reuse_family program term parameters) families)
      ≡ sum_by (λ (family : FamilyForms). cond (stands_in family.set i) family.weight 0) families
  weights-are i families = summed (λ (family : ReuseFamily). cond (family.has i) family.weight 0) (reuse_family program term parameters) families

  covered : IsCovered term.q partition
  covered = record {
    positive = sound.positive;
    distinct = subst (IsDistinct nat_eq) (sym vertices-are) (distinct-images vertex_of_point all one-point (points-differ term.nest parameters));
    told_apart = told-apart;
    fixed = all-fix term.families sound.fixed;
    covered = λ i below. subst (λ (n : ℕ). term.q ≤ n) (sym (weights-are i term.families)) (sound.covered i below);
  }

  are-instances : AreInstances (computation_graph program parameters) partition
  are-instances = record {
    there = λ v stands.
        let x = point-of v stands in
        subst (λ (n : ℕ). n < length (execution program parameters)) (sym x.1.1) (slice_get-below (execution program parameters) (vertex_of_point x.0) (instance_of_point x.0) (point-there x.0 x.1.0));
    credits = IsDistinct-distinct _;
  }

pub sound-terms-are-sound : SoundTermsAreSound
sound-terms-are-sound program term parameters formed admitted sound = (
  record { sound = all-reuse program term parameters formed admitted sound term.families sound.families; cover = covered program term parameters formed admitted sound },
  are-instances program term parameters formed admitted sound,
)
