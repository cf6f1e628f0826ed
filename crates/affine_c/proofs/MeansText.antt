-- The text that prints a program means the program.
use Rattle.std.proofs.Common.{◌≡◌, refl, sym, ap, subst, ◌∙◌, ℕ, zero, suc, ◌+◌, ◌<◌, ◌≤◌, true, false, List, [], ◌∷◌, ◌++◌, append_assoc, append-nil, length, take, map, arith, length-append, inl, ℤ}
use Rattle.std.specs.Prelude.{option_map, Option, Some, None, slice_get, nat_lt, ◌⊎◌}
use Rattle.std.specs.List.{AllByRecursion, range_with_len}
use Rattle.std.proofs.lemmas.Bool.Decides.{nat_tests}
use Rattle.affine_program.specs.Parts.{array_of}
use Rattle.iolb_model.specs.Form.{AffineForm}
use Rattle.iolb_model.specs.Program.{AffineProgram, statement_at, no_statement, IsOver, IsWellFormed, row_statements}
use Rattle.iolb_model.specs.Program as program
use Rattle.c_reading.specs.declared.named.Kind.{Kind}
use Rattle.c_reading.specs.declared.named.Kind.TheVariants.{Parameter, ClosedLoop, Array}
use Rattle.c_reading.specs.Names.{parameters_among, arrays_among}
use Rattle.c_reading.specs.Affine.{kind_of, with_name, is_short}
use Rattle.c_reading.specs.Numbers.{most_parameters, most_loops, most_guards, parameter_slot}
use Rattle.c_reading.specs.Compare.{Rows, most_brackets, most_rows}
use Rattle.c_reading.specs.Head.{Head}
use Rattle.c_reading.specs.Text.{Reading, all_at_least_one, assumptions_of, start_of}
use Rattle.c_grammar.specs.Meaning as mean
use Rattle.c_grammar.specs.Meaning.{Names, compare_means, slot_by, parameters_mean, compares_mean, lines_mean, items_means, whole_means, text_means}
use Rattle.affine_program.specs.Tree.{row_from}
use Rattle.c_reading.specs.Tree as read
use Rattle.c_reading.specs.Tree.{Items as ReadItems}
use Rattle.c_grammar.specs.Program.{narrowed, statements_in, items_meant, program_of}
use Rattle.affine_c.specs.Tree.{condition_tree, row_tree, parameters_tree, assumption_tree, assumptions_tree, program_tree}
use Rattle.affine_c.proofs.Roles.{widened, IsSmallForm, Role, parameter, array, other, role, HasRoles, row_seen}
use Rattle.c_tokens.specs.Names.{IsName}
use Rattle.affine_c.proofs.RowForms.{forms_back}
use Rattle.c_grammar.proofs.NameKinds.{lookup, kind_of-lookup, lookup-new, lookup-other, parameters-new, arrays-new}
use Rattle.affine_c.proofs.State.{AreLoops, Knows, KnowsNames, not_seen, one_more_seen, names_differ, named, length-named, knows-variables, take_one_more}
use Rattle.affine_c.proofs.MeansForms.{KnowsVariables}
use Rattle.affine_c.proofs.MeansConditions.{condition_means}
use Rattle.affine_c.proofs.MeansRefs.{Means, extends_none, short_name}
use Rattle.affine_c.proofs.MeansItems.{row_back, row_is_meant}
use Rattle.std.proofs.Math.Seq.{take-length}
use Rattle.c_grammar.proofs.Steps.{means_then}
use Rattle.std.proofs.lemmas.List.FromFn.{length-range_with_len, fill_by_all}

-- ---- parameters

-- what the reader knows where it saw so many parameters, before any line
abbrev KnowsFirst : AffineProgram → ℕ → Names → Type 0
KnowsFirst p n i = KnowsNames p n [] 0 i.names i.kinds × (i.parameters ≡ n) × (i.arrays ≡ 0) × (i.statements ≡ 0)

module _ (p : AffineProgram) (is : HasRoles p) where
  -- one parameter more
  knows_one_more : (n : ℕ) (names : List (List ℕ)) (kinds : List Kind) (name : List ℕ) → KnowsNames p n [] 0 names kinds → slice_get p.parameters n ≡ Some name → KnowsNames p (suc n) [] 0 (names ++ name ∷ []) (kinds ++ Parameter n ∷ [])
  knows_one_more n names kinds name knows there =
      let k : Kind = Parameter n in
      let none : lookup name names kinds ≡ None = knows.parameter_kinds n name there ∙ not_seen n n k (omega arith) in
      let unchanged : (m : List ℕ) (x : Role) → role p m ≡ x → (x ≡ parameter n → ⊥) → lookup m (names ++ name ∷ []) (kinds ++ k ∷ []) ≡ lookup m names kinds =
      λ m x is_role differ. lookup-other m name k names kinds knows.same (names_differ p m name x (parameter n) is_role (is.parameter_roles n name there) differ) in
      record {
        same = length-named name k names kinds knows.same;
        parameter_kinds = λ m other_name e. one_more_seen m n (Parameter m) _
            (λ here.
            let same : name ≡ other_name = (let found : ◌≡◌ {A = Option (List ℕ)} (Some name) (Some other_name) = sym there ∙ ap (slice_get p.parameters) (sym here) ∙ e in cc) in
            ap (λ o. lookup o (names ++ name ∷ []) (kinds ++ k ∷ [])) (sym same) ∙ lookup-new name k names kinds knows.same none ∙ ap (λ q. Some (Parameter q)) (sym here))
            (λ others. unchanged other_name (parameter m) (is.parameter_roles m other_name e) (λ no. others cc) ∙ knows.parameter_kinds m other_name e);
        loop_kinds = λ m other_name e. cc;
        array_kinds = λ m a e. unchanged a.name (array m) (is.array_roles m a e) (λ no. cc) ∙ knows.array_kinds m a e;
        other_names = λ m is_other apart. subst (λ o. (o ≡ None) ⊎ (o ≡ Some ClosedLoop)) (sym (unchanged m other is_other (λ no. cc))) (knows.other_names m is_other apart);
        parameter_names = parameters-new name k names kinds knows.same ∙ ap (λ ns. ns ++ name ∷ []) knows.parameter_names ∙ take_one_more p.parameters n name there;
        array_names = ap (map array_of) (arrays-new name k names kinds knows.same ∙ append-nil (arrays_among names kinds)) ∙ knows.array_names;
      }

  -- a new name becomes a parameter
  slot_new : (name : List ℕ) (i : Names) → kind_of name i ≡ None → is_short name ≡ true → i.parameters < most_parameters
      → mean.slot name i ≡ Some (parameter_slot i.parameters, record (named name (Parameter i.parameters) i) { parameters = i.parameters + 1 })
  unfolding mean.slot with_name
  slot_new name i none short few =
      let below : nat_lt i.parameters most_parameters ≡ true = grind (arith, nat_tests) in
      ap (λ o. slot_by name o i) none ∙ rw (short, below) refl

  -- the names of parameters, in order
  names_mean : (names : List (List ℕ)) (n : ℕ) (i : Names) → ((k : ℕ) (name : List ℕ) → slice_get names k ≡ Some name → slice_get p.parameters (n + k) ≡ Some name) → AllByRecursion IsName names → n + length names ≡ length p.parameters → KnowsFirst p n i
      → Means (parameters_mean names i) tt (KnowsFirst p (length p.parameters))
  unfolding parameters_mean
  names_mean [] n i among all counts knows =
      let whole : n ≡ length p.parameters = omega arith in
      record { names = i; is = refl; so = subst (λ m. KnowsFirst p m i) whole knows }
  names_mean (name ∷ names) n i among all counts knows =
      let none : n + 0 ≡ n = omega arith in
      let there : slice_get p.parameters n ≡ Some name = ap (slice_get p.parameters) (sym none) ∙ among 0 name refl in
      let unknown : kind_of name i ≡ None = kind_of-lookup name i knows.0.same ∙ knows.0.parameter_kinds n name there ∙ not_seen n n (Parameter n) (omega arith) in
      let short : is_short name ≡ true = short_name name all.0 in
      let few : i.parameters < most_parameters = omega (arith, knows.1, is.few_parameters) in
      let grown : Names = record (named name (Parameter i.parameters) i) { parameters = i.parameters + 1 } in
      let rest = names_mean names (suc n) grown (λ k m e. (let same : suc n + k ≡ n + suc k = omega arith in ap (slice_get p.parameters) same ∙ among (suc k) m e)) all.1 (omega arith) (subst (λ m. KnowsNames p (suc n) [] 0 (i.names ++ name ∷ []) (i.kinds ++ Parameter m ∷ [])) (sym knows.1) (knows_one_more n i.names i.kinds name knows.0 there), omega (arith, knows.1), knows.2, knows.3) in
      record {
        names = rest.names;
        is = means_then (mean.slot name i) _ (slot_new name i unknown short few) rest.is;
        so = rest.so;
      }

-- ---- assumptions

-- the head where these rows were assumed
abbrev head_of : Rows → Head
head_of [] = record { assumed = false; rows = [] }
head_of (row ∷ rows) = record { assumed = true; rows = row ∷ rows }

-- its rows
head_rows : (rows : Rows) → (head_of rows).rows ≡ rows
head_rows [] = refl
head_rows (row ∷ rows) = refl

-- with one more
longer_head : (rows : Rows) (row : List ℤ) → record { assumed = true; rows = rows ++ row ∷ [] } ≡ head_of (rows ++ row ∷ [])
longer_head [] row = refl
longer_head (r ∷ rows) row = refl

module _ (p : AffineProgram) (is : HasRoles p) (i : Names) (variables : KnowsVariables i p.parameters []) where
  -- a printed assumption means its row
  assumption_means : (form : AffineForm) (rows : Rows) → IsSmallForm (length p.parameters) 0 form → length rows < most_rows
      → compares_mean most_brackets most_rows rows (assumption_tree p.parameters form) i ≡ Some (rows ++ widened (length p.parameters) 0 form ∷ [], i)
  unfolding compares_mean
  assumption_means form rows small few =
      subst (λ ns. compare_means most_brackets most_rows rows (condition_tree ns form) i ≡ Some (rows ++ widened (length p.parameters) 0 form ∷ [], i)) (append-nil p.parameters)
      (condition_means most_brackets most_rows i p.parameters [] variables form rows small few)

  -- the printed assumptions mean their rows
  assumptions_mean : (forms : List AffineForm) (rows : Rows) → AllByRecursion (IsSmallForm (length p.parameters) 0) forms → length rows + length forms ≤ most_rows
      → lines_mean (head_of rows) (assumptions_tree p.parameters forms) i ≡ Some (head_of (rows ++ map (widened (length p.parameters) 0) forms), i)
  unfolding lines_mean
  assumptions_mean [] rows small few = ap (λ r. Some (head_of r, i)) (sym (append-nil rows))
  assumptions_mean (form ∷ forms) rows small few =
      let row : List ℤ = widened (length p.parameters) 0 form in
      means_then (compares_mean most_brackets most_rows (head_of rows).rows (assumption_tree p.parameters form) i) _ (ap (λ r. compares_mean most_brackets most_rows r (assumption_tree p.parameters form) i) (head_rows rows) ∙ assumption_means form rows small.0 (omega arith))
      (ap (λ h. lines_mean h (assumptions_tree p.parameters forms) i) (longer_head rows row) ∙ assumptions_mean forms (rows ++ row ∷ []) small.1 (omega (arith, length-append rows (row ∷ [])))
      ∙ ap (λ r. Some (head_of r, i)) (append_assoc rows (row ∷ []) (map (widened (length p.parameters) 0) forms)))

-- ---- whole texts

-- no parameter, where nothing is assumed
none_of : (n m : ℕ) → (0 < n → 0 < 0) → m ≡ n → m ≡ 0
none_of zero m some counts = counts
none_of (suc n) m some counts = absurd (omega (arith, some (omega arith)))

-- what the printed lines assume
assumed : (p : AffineProgram) (j : Names) (forms : List AffineForm) → (0 < length p.parameters → 0 < length forms) → j.parameters ≡ length p.parameters → assumptions_of (head_of (map (widened (length p.parameters) 0) forms)) j ≡ map (widened (length p.parameters) 0) forms
unfolding assumptions_of
assumed p j [] some counts = ap all_at_least_one (none_of (length p.parameters) j.parameters some counts)
assumed p j (form ∷ forms) some counts = refl

module _ (p : AffineProgram) (is : HasRoles p) (well : IsWellFormed p) where
  -- no loop is around
  no_loops : AreLoops p []
  no_loops = record { names = tt; others = tt; deep = omega arith }

  -- nothing was seen at first
  starts : KnowsFirst p 0 (start_of [] [])
  starts =
      let knows : KnowsNames p 0 [] 0 [] [] = record {
        same = refl;
        parameter_kinds = λ k name e. sym (not_seen k 0 (Parameter k) (omega arith));
        loop_kinds = λ k name e. cc;
        array_kinds = λ k a e. sym (not_seen k 0 (Array k a.rank) (omega arith));
        other_names = λ name is_other apart. inl refl;
        parameter_names = refl;
        array_names = refl;
      } in
      (knows, refl, refl, refl)

  -- the lines before the program mean its parameters and its assumptions
  lines_meant : (names : List (List ℕ)) → p.parameters ≡ names
      → Means (lines_mean (head_of []) (parameters_tree names (assumptions_tree p.parameters p.assumptions)) (start_of [] [])) (head_of (map (widened (length p.parameters) 0) p.assumptions)) (Knows p (length p.parameters) [] 0 0)
  unfolding lines_mean
  lines_meant [] none =
      let zero_is : 0 ≡ length p.parameters = sym (ap length none) in
      let knows = subst (λ n. KnowsFirst p n (start_of [] [])) zero_is starts in
      record {
        names = start_of [] [];
        is = assumptions_mean p is (start_of [] []) (knows-variables p [] 0 (start_of [] []) is no_loops knows.0) p.assumptions [] is.assumptions (omega (arith, is.few_assumptions));
        so = (knows.0, knows.1, knows.2, knows.3);
      }
  lines_meant (name ∷ names) same =
      let named_so = names_mean p is (name ∷ names) 0 (start_of [] []) (λ k m e. (let zero_k : 0 + k ≡ k = omega arith in ap (slice_get p.parameters) zero_k ∙ ap (λ ns. slice_get ns k) same ∙ e)) (subst (AllByRecursion _) same is.parameters) (omega (arith, ap length same)) starts in
      let j : Names = named_so.names in
      let knows = named_so.so in
      record {
        names = j;
        is = means_then (parameters_mean (name ∷ names) (start_of [] [])) _ named_so.is (assumptions_mean p is j (knows-variables p [] 0 j is no_loops knows.0) p.assumptions [] is.assumptions (omega (arith, is.few_assumptions)));
        so = (knows.0, knows.1, knows.2, knows.3);
      }

  -- the tree of a printed program means the program
  pub tree_means : option_map program_of (text_means (program_tree p)) ≡ Some p
  unfolding whole_means
  tree_means =
      let P : ℕ = length p.parameters in
      let front = lines_meant p.parameters refl in
      let j : Names = front.names in
      let none : P ≡ P + 0 = omega arith in
      let many : length (row_statements p.tree) ≡ length p.statements = ap length well.numbered ∙ length-range_with_len 0 (length p.statements) in
      let body = row_is_meant p is p.tree [] no_loops most_loops most_guards most_brackets 0 0 0 read.done j refl refl (omega arith) front.so (omega (arith, is.few_statements)) is.tree (subst (λ n. program.RowFits p n p.tree) none well.tree) (well.numbered ∙ ap (λ n. range_with_len 0 n) (sym many)) in
      let items : ReadItems = body.0 in
      let k : Names = body.1.names in
      let h : Head = head_of (map (widened P 0) p.assumptions) in
      let s : Reading = record { names = k.names; kinds = k.kinds; assumptions = assumptions_of h k; items = items } in
      let items_are : items_means most_loops most_guards most_brackets read.done (row_tree p p.parameters p.tree) j ≡ Some (items, k) = ap (λ ns. items_means most_loops most_guards most_brackets read.done (row_tree p ns p.tree) j) (sym (append-nil p.parameters)) ∙ body.1.is in
      let meant : whole_means (program_tree p) (start_of [] []) ≡ Some ((h, items), k) = means_then (lines_mean (head_of []) _ (start_of [] [])) _ front.is (means_then (items_means most_loops most_guards most_brackets read.done _ j) _ items_are refl) in
      let knows : Knows p (length p.parameters) [] (row_seen p 0 p.tree) (0 + length (row_statements p.tree)) k = body.1.so.knows in
      let names_are : parameters_among k.names k.kinds ≡ p.parameters = knows.0.parameter_names ∙ take-length p.parameters in
      let same_params : length (parameters_among k.names k.kinds) ≡ P = ap length names_are in
      let assumptions_are : (program_of s).assumptions ≡ p.assumptions = ap (λ n. map (narrowed n 0) (assumptions_of h k)) same_params ∙ ap (map (narrowed P 0)) (assumed p k p.assumptions is.some_assumptions knows.1)
      ∙ forms_back P 0 p.assumptions is.few_parameters (omega arith) (subst (λ n. AllByRecursion (IsOver n) p.assumptions) none well.assumptions) in
      let arrays_are : (program_of s).arrays ≡ p.arrays = knows.0.array_names ∙ ap (λ n. take n p.arrays) is.seen ∙ take-length p.arrays in
      let statements_are : (program_of s).statements ≡ p.statements = ap (λ n. statements_in n 0 items) same_params ∙ body.1.so.table ∙ ap (map (statement_at p)) well.numbered ∙ sym (fill_by_all (statement_at p) p.statements (length p.statements) no_statement refl (λ k below. refl)) in
      let tree_is : (program_of s).tree ≡ p.tree = ap (λ n. row_from (items_meant k.names n 0 0 items)) same_params ∙ ap row_from (body.1.so.same k.names 0 (extends_none k.names) refl) ∙ row_back p.tree in
      ap (λ o. option_map program_of (mean.reading_from o)) meant
      ∙ (λ i. Some (record { parameters = names_are i; assumptions = assumptions_are i; arrays = arrays_are i; statements = statements_are i; tree = tree_is i }))
