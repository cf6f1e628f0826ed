-- Terms whose claims hold have pieces, with the targets that are told without their claims.
use Rattle.std.proofs.Common.{Bool, true, ◌≡◌, refl, sym, ◌∙◌, ap, ℕ, suc, ◌≤◌, List, [], ◌∷◌, ◌++◌, length, map, arith}
use Rattle.std.specs.Prelude.{Option, Some, None, if◌then◌else◌, codes}
use Rattle.std.specs.List.{AllByRecursion, cons_option}
use Rattle.std.proofs.lemmas.Bool.{lt-ltb}
use Rattle.base_laws.proofs.Lists.{cons-same}
use Rattle.iolb_model.specs.Form.{AffineForm}
use Rattle.iolb_model.specs.Program.{AffineProgram, statement_at}
use Rattle.claims.specs.Claims.{Claim, AllHold, numbered}
use Rattle.claims.specs.declared.place.Step.{Step}
use Rattle.claims.specs.declared.place.Step.TheVariants.{Index, Key}
use Rattle.claims.proofs.Laws.{AllHold-left, AllHold-right}
use Rattle.affine_program.specs.Parts.{ProgramParts, meaning}
use Rattle.dep_quast.specs.Context.{ReadOf, reference_of}
use Rattle.dep_quast.specs.Tree.{source, input, empty, blank, SelectionTree, leaf, test}
use Rattle.domain_count.specs.CountClaims.{count_claims}
use Rattle.footprint_pieces.specs.declared.piece.Target.{Target}
use Rattle.footprint_pieces.specs.declared.piece.Target.TheVariants.{Cell}
use Rattle.reuse_paths.specs.LeafClaims.{LeafClaim, no_point, stops, is_credited, goes_on, arrives}
use Rattle.dep_quast.specs.OpenLeaves.{OpenLeaf, is_input, form_at, no_at, open_leaves}
use Rattle.dep_quast.specs.Quasts.{tree_at, tree_for}
use Rattle.reuse_paths.specs.Walks.{SpotForms}
use Rattle.dep_quast.specs.Truth.{ReadFits}
use Rattle.footprint_pieces.proofs.PairCounts.{targets_of}
use Rattle.joint_partition.specs.JointPieces.{joint_pieces}
use Rattle.joint_partition.specs.Term.{JointTerm}
use Rattle.joint_partition.specs.View.{joint_of}
use Rattle.k_partition.specs.PartitionPieces.{partition_pieces}
use Rattle.k_partition.specs.Term.{PartitionTerm, credited_nests}
use Rattle.k_partition.specs.View.{partition_of}
use Rattle.wavefront.specs.declared.cold.Cold.{Cold as ColdOf}
use Rattle.wavefront.specs.ColdClaims.{cold_claims, instance_claims, matrix_claims}
use Rattle.wavefront.specs.ColdPieces.{stop_pieces, leaves_of, cold_pieces}
use Rattle.wavefront.specs.Leaves.{leaves_claims, inside_claims, term_leaves}
use Rattle.wavefront.specs.Term.{ColdTerm, nest_variables, nest_system, instance_point}
use Rattle.wavefront.specs.FrontPieces.{front_pieces, front_target}
use Rattle.wavefront.specs.FrontTerm.{WavefrontTerm, user_read}
use Rattle.wavefront.specs.View.{front_of, term_of}
use Rattle.iolb_check.specs.declared.term.Term.{Term}
use Rattle.iolb_check.specs.declared.term.Term.TheVariants as terms
use Rattle.iolb_check.specs.Claims.{claim_of_term}
use Rattle.iolb_check.specs.Conditions.{branch_pieces, term_claims_at}
use Rattle.iolb_check.specs.Fit.{ColdTermFits, TermFits, HasPieces}
use Rattle.iolb_check.specs.FamilyTargets.{joint_targets, leaf_targets, partition_targets}
use Rattle.iolb_check.proofs.FamilyTargets.{all-told}
use Rattle.iolb_check.proofs.JointTargets.{joint-told}
use Rattle.iolb_check.specs.PairFit.{front_targets, stop_targets, targets_if, cold_targets, term_targets}

-- ---- targets that are told

-- leaves and their targets: where a leaf says that the word is an input, the target is the array
abbrev Told : ℕ → List OpenLeaf → List (Option Target) → Type 0
Told array [] [] = Unit {0}
Told array [] (t ∷ targets) = ⊥
Told array (l ∷ leaves) [] = ⊥
Told array (l ∷ leaves) (t ∷ targets) = ((is_input l.origin ≡ true) → t ≡ Some (Cell array)) × Told array leaves targets

Told-append : (array : ℕ) (ls ms : List OpenLeaf) (ts us : List (Option Target)) → Told array ls ts → Told array ms us → Told array (ls ++ ms) (ts ++ us)
Told-append array [] ms [] us h k = k
Told-append array [] ms (t ∷ ts) us h k = absurd h
Told-append array (l ∷ ls) ms [] us h k = absurd h
Told-append array (l ∷ ls) ms (t ∷ ts) us h k = (h.0, Told-append array ls ms ts us h.1 k)

told : (array vars : ℕ) (point tests : List AffineForm) (tree : SelectionTree) → Told array (open_leaves vars point tests tree) (leaf_targets array tree)
told array vars point tests (leaf (source claim)) = (λ e. absurd cc, tt)
told array vars point tests (leaf (input shown)) = (λ e. refl, tt)
told array vars point tests (leaf (empty shown)) = tt
told array vars point tests (leaf blank) = (λ e. absurd cc, tt)
told array vars point tests (test form above below) =
    Told-append array (open_leaves vars point (tests ++ form_at vars point form ∷ []) above) (open_leaves vars point (tests ++ no_at vars point form ∷ []) below)
    (leaf_targets array above) (leaf_targets array below)
    (told array vars point (tests ++ form_at vars point form ∷ []) above) (told array vars point (tests ++ no_at vars point form ∷ []) below)

targets-told : (program : AffineProgram) (term : ColdTerm) (place : List Step) (index : ℕ) (leaves : List OpenLeaf) (targets : List (Option Target)) (entries : List LeafClaim)
    → Told (reference_of program term.reader).array leaves targets → length leaves ≤ length entries
    → AllHold (leaves_claims (nest_variables program term) (nest_system program term).rows place index leaves entries)
    → targets_of (stop_pieces program term leaves entries) ≡ stop_targets targets entries
targets-told program term place index [] [] entries h le hold = refl
targets-told program term place index [] (t ∷ targets) entries h le hold = absurd h
targets-told program term place index (l ∷ leaves) [] entries h le hold = absurd h
targets-told program term place index (l ∷ leaves) (t ∷ targets) [] h le hold = absurd (omega (arith, le))
targets-told program term place index (l ∷ leaves) (t ∷ targets) (no_point shown ∷ entries) h le hold =
    targets-told program term place (suc index) leaves targets entries h.1 (omega (arith, le)) hold.1.1
targets-told program term place index (l ∷ leaves) (t ∷ targets) (stops label ∷ entries) h le hold =
    ap (λ (rest : List Target). Cell (reference_of program term.reader).array ∷ rest) (targets-told program term place (suc index) leaves targets entries h.1 (omega (arith, le)) hold.1.1)
    ∙ ap (λ (o : Option Target). cons_option o (stop_targets targets entries)) (sym (h.0 hold.1.0))
targets-told program term place index (l ∷ leaves) (t ∷ targets) (is_credited credit rows label ∷ entries) h le hold = absurd hold.1.0
targets-told program term place index (l ∷ leaves) (t ∷ targets) (goes_on rows label ∷ entries) h le hold = absurd hold.1.0
targets-told program term place index (l ∷ leaves) (t ∷ targets) (arrives equal ∷ entries) h le hold = absurd hold.1.0

-- ---- cold terms

module _ (program : ProgramParts) (trees : List (List SelectionTree)) (place : List Step) (cold : ColdOf) (fits : ColdTermFits program trees cold) where
  module _ (hold : AllHold (cold_claims (meaning program) place (tree_for trees (term_of cold).reader) (term_of cold))) where
    at-leaves : AllHold (term_leaves (meaning program) place (tree_for trees (term_of cold).reader) (term_of cold))
    at-leaves =
        let P : AffineProgram = meaning program in
        let term : ColdTerm = term_of cold in
        AllHold-right (inside_claims P place term) (term_leaves P place (tree_for trees term.reader) term)
        (AllHold-left (inside_claims P place term ++ term_leaves P place (tree_for trees term.reader) term) (matrix_claims P place term)
        (AllHold-right (count_claims P term.nest term.count place) (instance_claims P place (tree_for trees term.reader) term) hold))

    cold-told : targets_of (cold_pieces (meaning program) (tree_for trees (term_of cold).reader) (term_of cold)) ≡ cold_targets (meaning program) trees (term_of cold)
    cold-told =
        let P : AffineProgram = meaning program in
        let term : ColdTerm = term_of cold in
        let reader : ReadOf = term.reader in
        let array : ℕ = (reference_of P reader).array in
        let tree : SelectionTree = tree_for trees reader in
        targets-told P term (place ++ Key (codes "leaves") ∷ []) 0 (leaves_of P tree term) (leaf_targets array tree) term.leaves
        (told array (nest_variables P term) (instance_point P term) [] tree) (omega (arith, fits.fits.leaves)) at-leaves
        ∙ sym (ap (λ (b : Bool). if b then targets_if array term.leaves (tree_at trees reader.statement reader.read) else [])
        (lt-ltb reader.read (length (statement_at P reader.statement).reads) fits.fits.parts.read.read) ∙ ap (targets_if array term.leaves) fits.there)

-- ---- wavefront terms

front-told : (program : AffineProgram) (term : WavefrontTerm) (source : Option SpotForms) → ReadFits program (user_read term) → front_target program term source ∷ [] ≡ front_targets program term source
front-told program term None fits =
    sym (ap (λ (b : Bool). if b then Cell (reference_of program (user_read term)).array ∷ [] else [])
    (lt-ltb term.read (length (statement_at program term.user.statement).reads) fits.read))
front-told program term (Some spot) fits = refl

-- ---- the terms of a branch

module _ (program : ProgramParts) (trees : List (List SelectionTree)) (list : List Step) where
  abbrev pub claims-from : ℕ → List Term → List Claim
  claims-from index ts = numbered (term_claims_at (meaning program) trees list) index (map claim_of_term ts)

  abbrev pub place-of : ℕ → List Step
  place-of index = (list ++ Index index ∷ []) ++ Key (codes "cold") ∷ []

  pub pieces-told : (index : ℕ) (ts : List Term) → AllByRecursion (TermFits program trees) ts → AllByRecursion (HasPieces program trees) ts
      → AllHold (numbered (term_claims_at (meaning program) trees list) index (map claim_of_term ts))
      → map targets_of (branch_pieces (meaning program) trees (map claim_of_term ts)) ≡ map (term_targets (meaning program) trees) (map claim_of_term ts)
  pieces-told index [] fits pieces hold = refl
  pieces-told index (terms.Cold cold ∷ ts) fits pieces hold =
      let here : List Claim = term_claims_at (meaning program) trees list index (claim_of_term (terms.Cold cold)) in
      let rest : List Claim = claims-from (suc index) ts in
      cons-same (targets_of (cold_pieces (meaning program) (tree_for trees (term_of cold).reader) (term_of cold))) (cold_targets (meaning program) trees (term_of cold))
      (map targets_of (branch_pieces (meaning program) trees (map claim_of_term ts))) (map (term_targets (meaning program) trees) (map claim_of_term ts))
      (cold-told program trees (place-of index) cold fits.0 (AllHold-left here rest hold)) (pieces-told (suc index) ts fits.1 pieces.1 (AllHold-right here rest hold))
  pieces-told index (terms.Partition partition ∷ ts) fits pieces hold =
      let P : AffineProgram = meaning program in
      let term : PartitionTerm = partition_of partition in
      cons-same (targets_of (partition_pieces P trees term)) (partition_targets P trees term)
      (map targets_of (branch_pieces P trees (map claim_of_term ts))) (map (term_targets P trees) (map claim_of_term ts))
      (all-told P trees term.statement term.nest term.matrix (credited_nests term) term.families pieces.0.0.fits.families)
      (pieces-told (suc index) ts fits.1 pieces.1
      (AllHold-right (term_claims_at P trees list index (claim_of_term (terms.Partition partition))) (claims-from (suc index) ts) hold))
  pieces-told index (terms.Wavefront front ∷ ts) fits pieces hold =
      let P : AffineProgram = meaning program in
      let term : WavefrontTerm = front_of front in
      cons-same (targets_of (front_pieces P term)) (front_targets P term term.source)
      (map targets_of (branch_pieces P trees (map claim_of_term ts))) (map (term_targets P trees) (map claim_of_term ts))
      (front-told P term term.source fits.0.fits.parts.read)
      (pieces-told (suc index) ts fits.1 pieces.1 (AllHold-right (term_claims_at P trees list index (claim_of_term (terms.Wavefront front))) (claims-from (suc index) ts) hold))
  pieces-told index (terms.Joint joint ∷ ts) fits pieces hold =
      let P : AffineProgram = meaning program in
      let term : JointTerm = joint_of joint in
      cons-same (targets_of (joint_pieces P trees term)) (joint_targets P trees term)
      (map targets_of (branch_pieces P trees (map claim_of_term ts))) (map (term_targets P trees) (map claim_of_term ts))
      (joint-told P trees term term.families fits.0.fits.families)
      (pieces-told (suc index) ts fits.1 pieces.1 (AllHold-right (term_claims_at P trees list index (claim_of_term (terms.Joint joint))) (claims-from (suc index) ts) hold))
