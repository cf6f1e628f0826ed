-- What the walk of a family takes from an instance whose claims hold is a word with the label of its reader.
use Rattle.std.proofs.Common.{◌≡◌, refl, sym, ◌∙◌, ap, subst, inl, inr, ℕ, zero, suc, ◌*◌, true, false, List, [], ◌∷◌, ◌++◌, length, map, arith}
use Rattle.std.specs.Prelude.{◌⊎◌, Option, Some, None, option_map, slice_get, IsSomeAnd, codes}
use Rattle.std.specs.List.{AllByRecursion}
use Rattle.std.specs.Option.{option_map_or}
use Rattle.std.proofs.Math.IntN.{ℤ}
use Rattle.std.proofs.lemmas.List.{append-nil, length-map}
use Rattle.iolb_model.specs.Form.{AffineForm}
use Rattle.iolb_model.specs.Program.{Access, AffineProgram, IsWellFormed}
use Rattle.iolb_model.specs.Bound.{IsAdmitted}
use Rattle.iolb_model.specs.Domain.{IsWithin, IsAt}
use Rattle.iolb_model.specs.Execution.{Instance}
use Rattle.iolb_model.specs.Source.{read_cell}
use Rattle.claims.specs.Claims.{AllHold}
use Rattle.claims.specs.declared.place.Step.{Step}
use Rattle.claims.specs.declared.place.Step.TheVariants.{Key}
use Rattle.claims.proofs.Laws.{AllHold-left, AllHold-right}
use Rattle.affine_form.specs.Multipliers.{FarkasMultipliers}
use Rattle.affine_form.specs.Substitution.{values_at}
use Rattle.affine_form.specs.System.{AffineSystem, IsMet}
use Rattle.affine_form.specs.Rows.{variables_from}
use Rattle.affine_form.proofs.ShownLemmas.{Shows-none}
use Rattle.affine_form.proofs.Meaning.{within_rows-says}
use Rattle.affine_program.specs.Domain.{depth_of}
use Rattle.claims.specs.Shown.{follow_claims}
use Rattle.dep_quast.specs.Context.{reference_of, parameter_point}
use Rattle.dep_quast.specs.Tree.{SelectionTree}
use Rattle.dep_quast.specs.Truth.{source_at}
use Rattle.claims.proofs.Systems.{goals-met}
use Rattle.affine_form.proofs.Meaning.{within_rows-few}
use Rattle.reuse_paths.specs.EntryClaims.{IsWrittenBy, keeping_claims, label_claims, word_label, credit_goals, going_goals, nest_goals}
use Rattle.reuse_paths.specs.Families.{CreditedNest, FamilyForms, node_label, label_at}
use Rattle.reuse_paths.specs.FamilyClaims.{family_setting}
use Rattle.reuse_paths.specs.LeafClaims.{LeafClaim, no_point, stops, is_credited, goes_on, arrives}
use Rattle.dep_quast.specs.OpenLeaves.{LeafOrigin, written, as_input, unknown, form_at}
use Rattle.reuse_paths.specs.SoundFamilies.{label_of_instance, label_of_cell, IsInside, IsCreditedBy, IsWord}
use Rattle.dep_quast.specs.Trees.{read_of}
use Rattle.reuse_paths.specs.WalkFits.{LabelsFit, CreditFits, KeepingFits}
use Rattle.reuse_paths.specs.WalkSettings.{KeptLabels, WalkSetting, spot_variables, region_variables, reading_point, region_at, forms_behind}
use Rattle.dep_quast.proofs.ChosenLeaves.{forms_at-values}
use Rattle.reuse_paths.proofs.KeptLabels.{instance-label-many, cell-label-many, label-shown}
use Rattle.reuse_paths.proofs.Regions.{behind-values, going-met, params-there, reading-there}
use Rattle.reuse_paths.proofs.WordsTaken.{IsTrueOrigin}

module _ (program : AffineProgram) (trees : List (List SelectionTree)) (credits : List CreditedNest) (family : FamilyForms) (reader : List AffineForm)
    (values : List ℤ) (formed : IsWellFormed program) (admitted : IsAdmitted program values)
    (size : ℕ) (many : length reader ≡ size) (labels-fit : LabelsFit program size (record { reader = reader; instances = map node_label family.nodes; cells = family.inputs; credits = credits }))
    (n s : ℕ) (x : List ℤ) (here : IsAt program values n (record { statement = s; values = x })) where
  abbrev walk : WalkSetting
  walk = family_setting program trees credits family reader

  abbrev kept : KeptLabels
  kept = record { reader = reader; instances = map node_label family.nodes; cells = family.inputs; credits = credits }

  abbrev point : List ℤ
  point = (values ++ []) ++ x

  abbrev vars : ℕ
  vars = region_variables walk s

  abbrev forms : List AffineForm
  forms = reading_point walk s

  there : values_at forms point ≡ values ++ x
  there = reading-there walk values [] formed admitted tt n s x here

  in-front : (rest : List ℤ) → (values ++ []) ++ rest ≡ values ++ rest
  in-front rest = ap (λ (v : List ℤ). v ++ rest) (append-nil values)

  -- the value of a label with forms at the reader put in behind the parameters
  behind : (these label : List AffineForm) → values_at (forms_behind walk vars (map (form_at vars forms) these) label) point ≡ values_at label (values ++ values_at these (values ++ x))
  behind these label =
      behind-values walk values [] formed admitted tt vars label (map (form_at vars forms) these) point x (omega arith) refl
      ∙ ap (λ (v : List ℤ). values_at label ((values ++ []) ++ v)) (forms_at-values vars forms these point (values ++ x) there)
      ∙ ap (values_at label) (in-front (values_at these (values ++ x)))

  some-mapped : (found : Option (List AffineForm)) (label : List AffineForm) (at : List ℤ) (value : List ℤ) → found ≡ Some label → values_at label at ≡ value
      → option_map (λ (l : List AffineForm). values_at l at) found ≡ Some value
  some-mapped found label at value e same = ap (option_map (λ (l : List AffineForm). values_at l at)) e ∙ ap (λ (v : List ℤ). Some v) same

  module _ (read : ℕ) (rows : List AffineForm) (at : List Step) (met : IsMet rows point) where
    abbrev system : AffineSystem
    system = record { vars = vars; rows = rows }

    -- an input has the reader's label
    input-kept : (label : List FarkasMultipliers) → length label ≡ 2 * length reader
        → AllHold (label_claims reader at (codes "stop") system (word_label walk kept (read_of s read) vars forms as_input) label)
        → label_of_cell family values (read_cell program values s read x) ≡ Some (values_at reader point)
    input-kept label enough h =
        let cell : Access = reference_of program (read_of s read) in
        let here_forms : List AffineForm = map (form_at vars forms) cell.subscripts in
        let shown = label-shown reader (forms_behind walk vars here_forms) (label_at family.inputs cell.array) at (codes "stop") system label point
        (λ l e. length-map l (form_at vars (variables_from vars 0 (spot_variables walk) ++ here_forms)) ∙ cell-label-many program size cell.array program.arrays family.inputs l labels-fit.cells e ∙ sym many) enough h met in
        some-mapped (label_at family.inputs cell.array) shown.0 (values ++ values_at cell.subscripts (values ++ x)) (values_at reader point) shown.1.0 (sym (behind cell.subscripts shown.0) ∙ shown.1.1)

    module _ (writer : ℕ) (forms-written : List AffineForm) (says : IsTrueOrigin program values (read_of s read) n x (written writer forms-written)) where
      abbrev written-instance : Instance
      written-instance = record { statement = writer; values = values_at forms-written (values ++ x) }

      -- so has an instance that wrote the word
      instance-kept : (label : List FarkasMultipliers) → length label ≡ 2 * length reader
          → AllHold (label_claims reader at (codes "label") system (word_label walk kept (read_of s read) vars forms (written writer forms-written)) label)
          → label_of_instance family values written-instance ≡ Some (values_at reader point)
      instance-kept label enough h =
          let here_forms : List AffineForm = map (form_at vars forms) forms-written in
          let shown = label-shown reader (forms_behind walk vars here_forms) (label_at (map node_label family.nodes) writer) at (codes "label") system label point
          (λ l e. length-map l (form_at vars (variables_from vars 0 (spot_variables walk) ++ here_forms)) ∙ instance-label-many program size 0 writer (map node_label family.nodes) l labels-fit.instances e ∙ sym many) enough h met in
          some-mapped (label_at (map node_label family.nodes) writer) shown.0 (values ++ written-instance.values) (values_at reader point) shown.1.0 (sym (behind forms-written shown.0) ∙ shown.1.1)

      -- it is in a credited nest
      is-credited : (found : Option CreditedNest) (credit : ℕ) (shown : List FarkasMultipliers) → slice_get credits credit ≡ found
          → ((nest : CreditedNest) → found ≡ Some nest → CreditFits program nest)
          → IsSomeAnd found (λ (nest : CreditedNest). length shown ≡ 2 * length nest.nest) → IsSomeAnd found (λ (nest : CreditedNest). writer ≡ nest.statement)
          → AllHold (follow_claims 15 (at ++ Key (codes "rows") ∷ []) system 0 (option_map_or (nest_goals program vars (map (form_at vars forms) forms-written)) found []) shown)
          → IsCreditedBy credits values written-instance
      is-credited None credit shown is fits enough of h = absurd of
      is-credited (Some nest) credit shown is fits enough of h =
          let here_forms : List AffineForm = map (form_at vars forms) forms-written in
          let goals : List AffineForm = nest_goals program vars here_forms nest in
          let each : length here_forms ≡ length nest.nest =
          length-map forms-written (form_at vars forms) ∙ says.1.2 ∙ ap (depth_of program) of ∙ sym (fits nest refl).each in
          let goals-are-met : IsMet goals point =
          goals-met 15 (at ++ Key (codes "rows") ∷ []) system 0 goals shown point
          (omega (arith, enough, within_rows-few vars nest.nest (parameter_point program vars) here_forms)) h met in
          let within : IsWithin nest.nest (values_at (parameter_point program vars) point) (values_at here_forms point) =
          within_rows-says vars nest.nest (parameter_point program vars) here_forms point each goals-are-met in record {
            number = credit;
            credit = nest;
            is = is;
            statement = of;
            within = subst (λ (v : List ℤ). IsWithin nest.nest v written-instance.values) (params-there walk values [] formed admitted tt n s x here)
                (subst (λ (v : List ℤ). IsWithin nest.nest (values_at (parameter_point program vars) point) v) (forms_at-values vars forms forms-written point (values ++ x) there) within);
          }

      -- or in its statement's region
      is-inside : (shown : List FarkasMultipliers) → length shown ≡ length (going_goals walk vars forms (written writer forms-written))
          → IsSomeAnd (region_at walk.nodes writer) (λ region. Unit {0})
          → AllHold (follow_claims 15 (at ++ Key (codes "rows") ∷ []) system 0 (going_goals walk vars forms (written writer forms-written)) shown)
          → IsInside family values written-instance
      is-inside shown enough is h =
          let inside = going-met walk values [] formed admitted tt n s x here 15 at rows writer forms-written shown enough met is h in record {
            region = inside.0;
            is = inside.1.0;
            met = subst (IsMet inside.0.rows) (in-front written-instance.values) inside.1.1;
          }

      word : (label_of_instance family values written-instance ≡ Some (values_at reader point)) → IsCreditedBy credits values written-instance ⊎ IsInside family values written-instance
          → IsWord program credits family values (values_at reader point) (source_at program values (read_of s read) n x)
      word label where-it-is = subst (IsWord program credits family values (values_at reader point)) (sym says.1.1) (written-instance, (says.1.0, label, where-it-is))

    credit-fits : (number : ℕ) (these : List CreditedNest) (nest : CreditedNest) → AllByRecursion (CreditFits program) these → slice_get these number ≡ Some nest → CreditFits program nest
    credit-fits number [] nest h e = absurd cc
    credit-fits zero (c ∷ these) nest h e = subst (CreditFits program) (same c nest e) h.0 where
      same : (a b : CreditedNest) → Some a ≡ Some b → a ≡ b
      same a b p = cc
    credit-fits (suc number) (c ∷ these) nest h e = credit-fits number these nest h.1 e

    no-input : false ≡ true → ⊥
    no-input e = cc

    no-credit : (found : Option CreditedNest) → IsSomeAnd found (λ (nest : CreditedNest). ⊥) → ⊥
    no-credit None h = h
    no-credit (Some nest) h = h

    of-credit : (writer : ℕ) (fs : List AffineForm) (found : Option CreditedNest) → IsSomeAnd found (λ (nest : CreditedNest). IsWrittenBy nest.statement (written writer fs))
        → IsSomeAnd found (λ (nest : CreditedNest). writer ≡ nest.statement)
    of-credit writer fs None h = h
    of-credit writer fs (Some nest) h = h

    -- what an entry says of the word
    pub kept-word : (origin : LeafOrigin) → IsTrueOrigin program values (read_of s read) n x origin → (entry : LeafClaim) → KeepingFits walk kept (read_of s read) origin entry
        → AllHold (keeping_claims 15 walk kept (read_of s read) at system forms origin entry)
        → IsWord program credits family values (values_at reader point) (source_at program values (read_of s read) n x)
    kept-word origin says (no_point shown) enough h = absurd (Shows-none system shown h.0.0 h.0.1 point met)
    kept-word (written writer fs) says (stops label) enough h = absurd (no-input h.0)
    kept-word as_input says (stops label) enough h =
        subst (IsWord program credits family values (values_at reader point)) (sym says) (input-kept label enough h.1)
    kept-word unknown says (stops label) enough h = absurd (no-input h.0)
    kept-word (written writer fs) says (is_credited credit rs label) enough h =
        let goals : List AffineForm = credit_goals program credits vars forms credit (written writer fs) in
        let first = follow_claims 15 (at ++ Key (codes "rows") ∷ []) system 0 goals rs in
        let second = label_claims reader at (codes "label") system (word_label walk kept (read_of s read) vars forms (written writer fs)) label in
        word writer fs says (instance-kept writer fs says label enough.1 (AllHold-right first second h.1))
        (inl (is-credited writer fs says (slice_get credits credit) credit rs refl (λ nest e. credit-fits credit credits nest labels-fit.credits e) enough.0 (of-credit writer fs (slice_get credits credit) h.0) (AllHold-left first second h.1)))
    kept-word as_input says (is_credited credit rs label) enough h = absurd (no-credit (slice_get credits credit) h.0)
    kept-word unknown says (is_credited credit rs label) enough h = absurd (no-credit (slice_get credits credit) h.0)
    kept-word (written writer fs) says (goes_on rs label) enough h =
        let goals : List AffineForm = going_goals walk vars forms (written writer fs) in
        let first = follow_claims 15 (at ++ Key (codes "rows") ∷ []) system 0 goals rs in
        let second = label_claims reader at (codes "label") system (word_label walk kept (read_of s read) vars forms (written writer fs)) label in
        word writer fs says (instance-kept writer fs says label enough.1 (AllHold-right first second h.1)) (inr (is-inside writer fs says rs enough.0 h.0 (AllHold-left first second h.1)))
    kept-word as_input says (goes_on rs label) enough h = absurd h.0
    kept-word unknown says (goes_on rs label) enough h = absurd h.0
    kept-word origin says (arrives equal) enough h = absurd h.0
