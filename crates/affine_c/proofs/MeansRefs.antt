-- What the trees of printed references and statements mean.
use Rattle.std.proofs.Common.{eq-eqb, ◌≡◌, refl, sym, ap, subst, ◌∙◌, ℕ, suc, ◌+◌, ◌<◌, ◌≤◌, true, false, List, [], ◌∷◌, ◌++◌, append_assoc, append-nil, length, arith, length-append, ⊎_elim, ℤ}
use Rattle.std.specs.Prelude.{Some, None, Option, slice_get, slice_set, map, ◌==◌, nat_le, nat_lt, if◌then◌else◌, IsSomeAnd, ⊤}
use Rattle.std.specs.List.{AllByRecursion}
use Rattle.std.proofs.lemmas.Bool.Decides.{nat_tests}
use Rattle.std.proofs.lemmas.List.{length-map, set_at}
use Rattle.std.proofs.str.Laws.{order}
use Rattle.iolb_model.specs.Form.{AffineForm}
use Rattle.iolb_model.specs.Program.{AffineProgram}
use Rattle.iolb_model.specs.Program as program
use Rattle.c_reading.specs.declared.named.Kind.{Kind}
use Rattle.c_reading.specs.declared.named.Kind.TheVariants.{Array}
use Rattle.c_reading.specs.Tree.{Items, assign, with_item}
use Rattle.c_reading.specs.Access.{Access}
use Rattle.c_reading.specs.Affine.{kind_of, with_name, is_short}
use Rattle.c_reading.specs.Items.{is_array, most_statements}
use Rattle.c_reading.specs.Refs.{with_kind, most_arrays, most_subscripts}
use Rattle.c_reading.specs.Values.{Accesses, most_reads}
use Rattle.affine_c.specs.Text.{array_name}
use Rattle.c_grammar.specs.Affine as tree
use Rattle.c_grammar.specs.Meaning as mean
use Rattle.c_grammar.specs.Meaning.{Names, affine_means, subscripts_means, array_by, access_from, reference_means, with_read, named_means, name_means, value_means, operands_means, unary_means, arguments_means, assign_means, statement_means}
use Rattle.affine_c.specs.Tree.{subscripts_tree, access_tree, read_tree, arguments_tree, reads_tree, statement_tree}
use Rattle.affine_c.proofs.Roles.{widened, widened_access, widened_statement, IsSmallForm, HasRoles, IsReadableAccess, AreReadableAccesses, access_seen, accesses_seen, IsReadableStatement, statement_seen}
use Rattle.c_tokens.specs.Names.{IsName}
use Rattle.affine_c.proofs.MeansForms.{KnowsVariables, form_means}
use Rattle.c_grammar.proofs.NameKinds.{kind_of-lookup, All-get}
use Rattle.affine_c.proofs.State.{AreLoops, Knows, named, knows-variables, array-variables, knows_array, was_seen, not_seen}
use Rattle.iolb_model.specs.declared.limits.TheConstants.{NAME_BYTES}
use Rattle.std.proofs.lemmas.Option.{slice_get_within, get_or_from_slice_get}
use Rattle.c_grammar.proofs.Steps.{means_then}

-- ---- members

-- a member that is there, of which this holds
pub some_and : {X : Type 0} (P : X → Type 0) (o : Option X) → IsSomeAnd o P → (x : X) × (o ≡ Some x) × P x
some_and P None h = absurd h
some_and P (Some x) h = (x, refl, h)

-- the names go on with others
abbrev pub Extends : List (List ℕ) → List (List ℕ) → Type 0
Extends names longer = (more : List (List ℕ)) × (longer ≡ names ++ more)

-- names extend themselves
pub extends_none : (names : List (List ℕ)) → Extends names names
extends_none names = ([], sym (append-nil names))

-- names that are extended twice
pub extends_both : (a b c : List (List ℕ)) → Extends a b → Extends b c → Extends a c
extends_both a b c first second = (first.0 ++ second.0, second.1 ∙ ap (λ ns. ns ++ second.0) first.1 ∙ append_assoc a first.0 second.0)

-- a name is short enough for the reader
pub short_name : (name : List ℕ) → IsName name → is_short name ≡ true
short_name [] is = absurd (let e = is.begins in cc)
short_name (b ∷ name) is =
    let some : 1 ≤ length (b ∷ name) = omega arith in
    let few : length (b ∷ name) ≤ NAME_BYTES = is.few in
    let a : nat_le 1 (length (b ∷ name)) ≡ true = grind (arith, nat_tests) in
    let c : nat_le (length (b ∷ name)) NAME_BYTES ≡ true = grind (arith, nat_tests) in
    rw (a, c) refl

-- this value is meant, and this holds of the names behind it
pub record Means {A : Type 0} (o : Option (A × Names)) (value : A) (holds : Names → Type 0) : Type 0 where
  pub names : Names
  pub is : o ≡ Some (value, names)
  pub so : holds names

-- ---- subscripts

-- printed subscripts mean their rows
subscripts_mean : (brackets : ℕ) (i : Names) (parameters around : List (List ℕ)) → KnowsVariables i parameters around → (forms : List AffineForm) (rows : List (List ℤ)) → AllByRecursion (IsSmallForm (length parameters) (length around)) forms
    → length rows + length forms ≤ most_subscripts → subscripts_means (suc brackets) rows (subscripts_tree (parameters ++ around) forms) i ≡ Some (rows ++ map (widened (length parameters) (length around)) forms, i)
unfolding subscripts_means
subscripts_mean brackets i parameters around knows [] rows small few = ap (λ r. Some (r, i)) (sym (append-nil rows))
subscripts_mean brackets i parameters around knows (form ∷ forms) rows small few =
    let below : nat_le most_subscripts (length rows) ≡ false = grind (arith, nat_tests) in
    let row_before = form_means brackets i parameters around form knows small.0 in
    let wide : List ℤ = widened (length parameters) (length around) form in
    rw below (means_then (affine_means _ _ i) _ row_before.1
    (subscripts_mean brackets i parameters around knows forms (rows ++ wide ∷ []) small.1 (omega (arith, length-append rows (wide ∷ [])))
    ∙ ap (λ r. Some (r, i)) (append_assoc rows (wide ∷ []) (map (widened (length parameters) (length around)) forms))))

-- ---- references

-- a reference to an array that was seen, from its parts
access_known : (brackets k rank : ℕ) (rows : List (List ℤ)) (r : tree.Reference) (i : Names) → kind_of r.name i ≡ Some (Array k rank) → subscripts_means brackets [] r.subscripts i ≡ Some (rows, i) → length rows ≡ rank
    → reference_means brackets r i ≡ Some (record { array = k; subscripts = rows }, i)
unfolding reference_means access_from mean.array
access_known brackets k rank rows r i known f same =
    let count : (length rows == rank) ≡ true = eq-eqb (length rows) rank same in
    means_then (mean.array r.name i) _ (ap (λ o. array_by r.name o i) known) (means_then (subscripts_means brackets [] r.subscripts i) _ f (rw count refl))

-- a reference to a new array, from its parts
access_new : (brackets k rank : ℕ) (rows : List (List ℤ)) (r : tree.Reference) (i : Names) → kind_of r.name i ≡ None → is_short r.name ≡ true → length i.kinds ≡ length i.names → i.arrays ≡ k → k < most_arrays → length rows ≡ rank
    → subscripts_means brackets [] r.subscripts (record (named r.name (Array i.arrays 0) i) { arrays = i.arrays + 1 }) ≡ Some (rows, record (named r.name (Array i.arrays 0) i) { arrays = i.arrays + 1 })
    → reference_means brackets r i ≡ Some (record { array = k; subscripts = rows }, record (named r.name (Array k rank) i) { arrays = i.arrays + 1 })
unfolding reference_means access_from with_kind mean.array with_name
access_new brackets k rank rows r i none short same count few long f =
    let kinds_are : slice_set (i.kinds ++ Array i.arrays 0 ∷ []) (length i.names) (Array i.arrays (length rows)) ≡ i.kinds ++ Array k rank ∷ [] =
    ap (λ n. slice_set (i.kinds ++ Array i.arrays 0 ∷ []) n (Array i.arrays (length rows))) (sym same) ∙ set_at i.kinds (Array i.arrays 0) [] (Array i.arrays (length rows)) (length i.kinds) refl ∙ ap (λ n. i.kinds ++ Array n (length rows) ∷ []) count ∙ ap (λ n. i.kinds ++ Array k n ∷ []) long in
    let below : nat_lt i.arrays most_arrays ≡ true = (let fewer : i.arrays < most_arrays = omega arith in grind (arith, nat_tests)) in
    let new : mean.array r.name i ≡ Some (record { array = i.arrays; subscripts = None }, record (named r.name (Array i.arrays 0) i) { arrays = i.arrays + 1 }) = rw (none, short, below) refl in
    means_then (mean.array r.name i) _ new
    (means_then (subscripts_means brackets [] r.subscripts _) _ f
    (ap (λ ks. Some (record { array = i.arrays; subscripts = rows }, record (named r.name (Array i.arrays 0) i) { arrays = i.arrays + 1; kinds = ks })) kinds_are
    ∙ ap (λ n. Some (record { array = n; subscripts = rows }, record (named r.name (Array k rank) i) { arrays = i.arrays + 1 })) count))

-- what is known behind references
pub record IsSeen (p : AffineProgram) (around : List (List ℕ)) (seen count : ℕ) (i j : Names) : Type 0 where
  pub knows : Knows p (length p.parameters) around seen count j
  pub names : Extends i.names j.names

-- whether a name may be read
abbrev IsReadable : Option Kind → Type 0
IsReadable None = ⊤
IsReadable (Some (Array k rank)) = ⊤
IsReadable (Some _) = ⊥

-- a name that may be read is read as a reference
read_by : (brackets : ℕ) (reads : Accesses) (r : tree.Reference) (k : Option Kind) → IsReadable k → named_means brackets reads r k ≡ with_read brackets reads r
read_by brackets reads r None is = refl
read_by brackets reads r (Some (Array k rank)) is = refl
read_by brackets reads r (Some _) is = absurd is

-- a name that may be read may be written
array_written : (k : Option Kind) → IsReadable k → is_array k ≡ true
array_written None h = refl
array_written (Some (Array k rank)) h = refl
array_written (Some _) h = absurd h

module _ (p : AffineProgram) (around : List (List ℕ)) (is : HasRoles p) (loops : AreLoops p around) where
  -- the array of a reference, and its name
  pub array_named : (printed : program.Access) (depth seen : ℕ) → IsReadableAccess p depth seen printed
      → (a : program.Array) × (slice_get p.arrays printed.array ≡ Some a) × (a.name ≡ array_name p printed.array) × IsName a.name × (length printed.subscripts ≡ a.rank) × (a.rank ≤ most_subscripts)
  array_named printed depth seen fits =
      let found = some_and _ (slice_get p.arrays printed.array) fits.rank in
      let fine = All-get _ p.arrays printed.array found.0 is.arrays found.1 in
      (found.0, found.1, sym (ap (λ (b : program.Array). b.name) (get_or_from_slice_get p.arrays printed.array found.0 (record { name = []; rank = 0 }) found.1)), fine.0, found.2, fine.1)

  -- a printed reference means itself
  pub access_means : (brackets seen count : ℕ) (i : Names) (printed : program.Access) → Knows p (length p.parameters) around seen count i → IsReadableAccess p (length around) seen printed
      → Means (reference_means (suc brackets) (access_tree p (p.parameters ++ around) printed) i) (widened_access (length p.parameters) (length around) printed) (IsSeen p around (access_seen seen printed) count i)
  access_means brackets seen count i printed knows fits =
      let found = array_named printed (length around) seen fits in
      let a : program.Array = found.0 in
      let rows : List (List ℤ) = map (widened (length p.parameters) (length around)) printed.subscripts in
      let long : length rows ≡ a.rank = length-map printed.subscripts (widened (length p.parameters) (length around)) ∙ found.4 in
      let r : tree.Reference = record { name = a.name; subscripts = subscripts_tree (p.parameters ++ around) printed.subscripts } in
      let meant : (s : Names) → KnowsVariables s p.parameters around → subscripts_means (suc brackets) [] r.subscripts s ≡ Some (rows, s) =
      λ s variables. subscripts_mean brackets s p.parameters around variables printed.subscripts [] fits.subscripts (omega (arith, found.4, found.5)) in
      ⊎_elim
      (λ before.
      let known : kind_of a.name i ≡ Some (Array printed.array a.rank) = kind_of-lookup a.name i knows.0.same ∙ knows.0.array_kinds printed.array a found.1 ∙ was_seen printed.array seen (Array printed.array a.rank) before in
      let below : nat_lt printed.array seen ≡ true = grind (arith, nat_tests) in
      let unchanged : access_seen seen printed ≡ seen = rw below refl in
      record {
        names = i;
        is = ap (λ n. reference_means (suc brackets) (record { name = n; subscripts = r.subscripts }) i) (sym found.2) ∙ access_known (suc brackets) printed.array a.rank rows r i known (meant i (knows-variables p around seen i is loops knows.0)) long;
        so = record { knows = subst (λ n. Knows p (length p.parameters) around n count i) (sym unchanged) knows; names = extends_none i.names };
      })
      (λ after.
      let here : printed.array ≡ seen = omega (arith, fits.seen_first) in
      let there : slice_get p.arrays seen ≡ Some a = ap (slice_get p.arrays) (sym here) ∙ found.1 in
      let none : kind_of a.name i ≡ None = kind_of-lookup a.name i knows.0.same ∙ knows.0.array_kinds seen a there ∙ not_seen seen seen (Array seen a.rank) (omega arith) in
      let few : seen < most_arrays = omega (arith, slice_get_within p.arrays seen a there, is.few_arrays) in
      let above : nat_lt printed.array seen ≡ false = grind (arith, nat_tests) in
      let grown : access_seen seen printed ≡ suc seen = rw above refl in
      let last : Names = record (named a.name (Array seen a.rank) i) { arrays = i.arrays + 1 } in
      record {
        names = last;
        is = ap (λ n. reference_means (suc brackets) (record { name = n; subscripts = r.subscripts }) i) (sym found.2)
            ∙ access_new (suc brackets) seen a.rank rows r i none (short_name a.name found.3) knows.0.same knows.2 few long (meant _ (array-variables p is around loops seen i knows.0 a there (Array i.arrays 0) (i.arrays + 1)))
            ∙ ap (λ n. Some (record { array = n; subscripts = rows }, last)) (sym here);
        so = record { knows = subst (λ n. Knows p (length p.parameters) around n count last) (sym grown) (knows_array p is around loops seen i knows.0 a there, knows.1, omega (arith, knows.2), knows.3); names = (a.name ∷ [], refl) };
      })
      (order printed.array seen)

  -- the name of an array may be read
  readable : (seen count : ℕ) (i : Names) (k : ℕ) (a : program.Array) → Knows p (length p.parameters) around seen count i → slice_get p.arrays k ≡ Some a → IsReadable (kind_of a.name i)
  readable seen count i k a knows there = subst IsReadable (sym (kind_of-lookup a.name i knows.0.same ∙ knows.0.array_kinds k a there)) (elim (nat_lt k seen) as (λ b. IsReadable (if b then Some (Array k a.rank) else None)) [ true ↦ tt | false ↦ tt ])

  -- ---- values

  -- a reference that is read
  read_means : (brackets seen count : ℕ) (i : Names) (before : Accesses) (printed : program.Access) → length before < most_reads → Knows p (length p.parameters) around seen count i → IsReadableAccess p (length around) seen printed
      → Means (value_means (suc brackets) before (read_tree p (p.parameters ++ around) printed) i) (before ++ widened_access (length p.parameters) (length around) printed ∷ []) (IsSeen p around (access_seen seen printed) count i)
  unfolding value_means unary_means operands_means name_means with_read
  read_means brackets seen count i before printed few knows fits =
      let found = array_named printed (length around) seen fits in
      let below : nat_le most_reads (length before) ≡ false = grind (arith, nat_tests) in
      let one = access_means brackets seen count i printed knows fits in
      let r : tree.Reference = access_tree p (p.parameters ++ around) printed in
      let kind_is : IsReadable (kind_of r.name i) = subst (λ n. IsReadable (kind_of n i)) found.2 (readable seen count i printed.array found.0 knows found.1) in
      let read : with_read (suc brackets) before r i ≡ Some (before ++ widened_access (length p.parameters) (length around) printed ∷ [], one.names) = rw below (means_then (reference_means (suc brackets) r i) _ one.is refl) in
      record {
        names = one.names;
        is = means_then (named_means (suc brackets) before r (kind_of r.name i) i) _ (ap (λ (m : mean.Meaning Accesses). m i) (read_by (suc brackets) before r (kind_of r.name i) kind_is) ∙ read) refl;
        so = one.so;
      }

  -- references as arguments
  arguments_mean : (brackets count : ℕ) (read : program.Access) (reads : List program.Access) (seen : ℕ) (i : Names) (before : Accesses) → length before + length (read ∷ reads) ≤ most_reads → Knows p (length p.parameters) around seen count i → AreReadableAccesses p (length around) seen (read ∷ reads)
      → Means (arguments_means (suc brackets) before (arguments_tree p (p.parameters ++ around) read reads) i) (before ++ map (widened_access (length p.parameters) (length around)) (read ∷ reads)) (IsSeen p around (accesses_seen seen (read ∷ reads)) count i)
  unfolding arguments_means
  arguments_mean brackets count read [] seen i before few knows fit = read_means brackets seen count i before read (omega arith) knows fit.0
  arguments_mean brackets count read (other ∷ reads) seen i before few knows fit =
      let wide : Access = widened_access (length p.parameters) (length around) read in
      let one = read_means brackets seen count i before read (omega arith) knows fit.0 in
      let rest = arguments_mean brackets count other reads (access_seen seen read) one.names (before ++ wide ∷ []) (omega (arith, length-append before (wide ∷ []))) one.so.knows fit.1 in
      record {
        names = rest.names;
        is = means_then (value_means (suc brackets) before (read_tree p (p.parameters ++ around) read) i) (λ more. arguments_means (suc brackets) more (arguments_tree p (p.parameters ++ around) other reads)) one.is (rest.is ∙ ap (λ a. Some (a, rest.names)) (append_assoc before (wide ∷ []) (map (widened_access (length p.parameters) (length around)) (other ∷ reads))));
        so = record { knows = rest.so.knows; names = extends_both i.names one.names.names rest.names.names one.so.names rest.so.names };
      }

  -- what a statement reads
  reads_mean : (brackets seen count : ℕ) (i : Names) (reads : List program.Access) → length reads ≤ most_reads → Knows p (length p.parameters) around seen count i → AreReadableAccesses p (length around) seen reads
      → Means (value_means (suc (suc brackets)) [] (reads_tree p (p.parameters ++ around) reads) i) (map (widened_access (length p.parameters) (length around)) reads) (IsSeen p around (accesses_seen seen reads) count i)
  unfolding value_means unary_means operands_means
  reads_mean brackets seen count i [] few knows fit = record { names = i; is = refl; so = record { knows = knows; names = extends_none i.names } }
  reads_mean brackets seen count i (read ∷ reads) few knows fit =
      let all = arguments_mean brackets count read reads seen i [] (omega arith) knows fit in
      record { names = all.names; is = means_then (arguments_means (suc brackets) [] (arguments_tree p (p.parameters ++ around) read reads) i) _ all.is refl; so = all.so }

  -- ---- statements

  -- a printed statement means itself, behind others
  pub statement_meant : (brackets seen count : ℕ) (before : Items) (i : Names) (printed : program.Statement) → count < most_statements → Knows p (length p.parameters) around seen count i → IsReadableStatement p (length around) seen printed
      → Means (statement_means (suc (suc brackets)) before (statement_tree p (p.parameters ++ around) printed) i) (with_item before (assign (widened_statement (length p.parameters) (length around) printed)))
      (λ j. Knows p (length p.parameters) around (statement_seen seen printed) (suc count) j × Extends i.names j.names)
  unfolding statement_means assign_means
  statement_meant brackets seen count before i printed few knows fits =
      let found = array_named printed.writes (length around) seen fits.accesses.0 in
      let target : tree.Reference = access_tree p (p.parameters ++ around) printed.writes in
      let written : is_array (kind_of target.name i) ≡ true = array_written (kind_of target.name i) (subst (λ n. IsReadable (kind_of n i)) found.2 (readable seen count i printed.writes.array found.0 knows found.1)) in
      let below : nat_le most_statements i.statements ≡ false = (let is_count : i.statements ≡ count = knows.3 in grind (arith, nat_tests)) in
      let write = access_means (suc brackets) seen count i printed.writes knows fits.accesses.0 in
      let read = reads_mean brackets (access_seen seen printed.writes) count write.names printed.reads fits.few write.so.knows fits.accesses.1 in
      record {
        names = record read.names { statements = i.statements + 1 };
        is = rw (written, below) (means_then (assign_means (suc (suc brackets)) (statement_tree p (p.parameters ++ around) printed) i) _ (means_then (reference_means (suc (suc brackets)) target i) _ write.is (means_then (value_means (suc (suc brackets)) [] (reads_tree p (p.parameters ++ around) printed.reads) write.names) _ read.is refl)) refl);
        so = (
          (read.so.knows.0, read.so.knows.1, read.so.knows.2, omega (arith, knows.3)),
          extends_both i.names write.names.names read.names.names write.so.names read.so.names,
        );
      }
