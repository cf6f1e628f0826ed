-- Opening terms, as they are found.
use Rattle.std.proofs.Common.{◌≡◌, sym, ◌∙◌, ap, subst, ℕ, ◌+◌, ◌≤◌, List, [], length, arith}
use Rattle.std.specs.Prelude.{Option, Some, None}
use Rattle.iolb_model.specs.Program.{AffineProgram}
use Rattle.iolb_model.specs.declared.limits.TheConstants.{NEST_VARIABLES}
use Rattle.affine_program.specs.Domain.{bounds_at, depth_of}
use Rattle.flow_deps.specs.declared.wanted.Wanted.TheVariants.{Short}
use Rattle.dep_quast.specs.Context.{ReadOf, reference_of, variables_at}
use Rattle.dep_quast.specs.Tree.{SelectionTree}
use Rattle.dep_quast.specs.Truth.{ReadFits}
use Rattle.flow_deps.specs.Plain.{IsPlain}
use Rattle.certificate_fit.specs.Limits.{AreSmall, AreSmallBounds}
use Rattle.dep_quast.specs.OpenLeaves.{TestsFit}
use Rattle.wavefront.specs.declared.cold.Cold.{Cold}
use Rattle.wavefront.specs.View.{term_of}
use Rattle.find_terms.specs.Found.{FarFits, FindsRead, FindsTerm, HasNoEarlier, IsSmallNest}
use Rattle.find_terms.specs.Openings.{AreNamed, HasOpeningOutline, IsEarlierRead, IsFirstOpening, IsOpeningTerm, IsPlainRead, named_loops, named_nest, opening_outline}
use Rattle.projective_bounds.specs.HeldColds.{array_read, reader_of}
use Rattle.cold_terms.specs.Outline.{ColdOutline, OutlineFits, outline_in}
use Rattle.find_terms.specs.Shown.{FindsCold, IsShownCold}
use Rattle.find_terms.proofs.NameLaws.{named-many, named-same}
use Rattle.find_terms.proofs.NestLaws.{along-many}
use Rattle.find_terms.proofs.PlainLaws.{plain-tests, shown-over}

module _ (program : AffineProgram) (reader : ReadOf) where
  -- ---- outlines

  -- the forms of the nest aren't small
  pub outline-none : (loops : List ℕ) → AreNamed program reader loops → ¬ IsSmallNest (named_nest program reader loops) → (cold : Cold) → HasOpeningOutline program reader cold
      → AreSmallBounds cold.nest → AreSmall cold.point.items → ⊥
  outline-none loops named none cold (others, named_too, same) bounds point =
      let is : outline_in (term_of cold) ≡ opening_outline program reader loops = same ∙ ap (opening_outline program reader) (named-same program reader others loops named_too named) in
      none (subst AreSmallBounds (ap (λ (o : ColdOutline). o.nest) is) bounds, subst AreSmall (ap (λ (o : ColdOutline). o.point) is) point)

  -- they are, and the outline fits
  pub outline-fits : (loops : List ℕ) → ReadFits program reader → depth_of program reader.statement ≤ NEST_VARIABLES → AreNamed program reader loops
      → FarFits program (depth_of program reader.statement) (named_nest program reader loops) → OutlineFits program (opening_outline program reader loops)
  outline-fits loops read few named far = record {
    read = read;
    few = omega (arith, far.few, few);
    bounds = far.bounds;
    point = far.many;
    forms = far.values;
    rows = sym (along-many program reader.statement loops 0 (bounds_at program reader.statement) (record { nest = []; values = [] }) ∙ none (length (named_loops program reader loops)));
    columns = λ some. sym (named-many program reader loops named);
    some_scale = omega arith;
    scale = omega arith;
  } where
    none : (n : ℕ) → 0 + n ≡ n
    none n = omega arith

  -- ---- terms

  module _ (tree : SelectionTree) (outline : ColdOutline) (loops : List ℕ) (plain : IsPlain program reader tree) (named : AreNamed program reader loops)
      (is : outline ≡ opening_outline program reader loops) where
    pub outline-tests : TestsFit (variables_at program outline.reader) tree
    outline-tests = subst (λ (r : ReadOf). TestsFit (variables_at program r) tree) (sym (ap (λ (o : ColdOutline). o.reader) is)) (plain-tests program reader tree plain)

    -- no term of the outline is shown
    pub term-none : ((cold : Cold) → outline_in (term_of cold) ≡ outline → ¬ IsShownCold Short program tree cold) → ¬ IsPlainRead program reader
    term-none none (cold, opens) =
        let same : outline_in (term_of cold) ≡ outline =
        opens.outline.2 ∙ ap (opening_outline program reader) (named-same program reader opens.outline.0 loops opens.outline.1 named) ∙ sym is in
        let its : (term_of cold).reader ≡ reader = ap (λ (o : ColdOutline). o.reader) opens.outline.2 in
        let shown : IsShownCold Short program tree cold =
        shown-over Short program opens.tree tree cold (subst (λ (r : ReadOf). IsPlain program r opens.tree) (sym its) opens.plain) (subst (λ (r : ReadOf). IsPlain program r tree) (sym its) plain) opens.shown in
        none cold same shown

    -- one is
    pub term-some : (cold : Cold) → ReadFits program reader → outline_in (term_of cold) ≡ outline → IsShownCold Short program tree cold → (reader_of cold ≡ reader) × IsOpeningTerm program reader cold
    term-some cold read same shown = (
      ap (λ (o : ColdOutline). o.reader) (same ∙ is),
      record { read = read; tree = tree; plain = plain; outline = (loops, named, same ∙ is); shown = shown },
    )

    -- what the search for a term of the outline finds
    pub term-found : ReadFits program reader → (found : Option Cold) → FindsCold Short program tree outline found → FindsTerm program reader found
    term-found read None h = term-none h
    term-found read (Some cold) h = term-some cold read h.0 h.1

  -- ---- first plain reads

  -- the opening term of a read of an array, where no read before is plain
  pub first-found : (array : ℕ) (cold : Cold) → FindsRead program array reader (Some cold) → HasNoEarlier program array reader → (array_read program cold ≡ array) × IsFirstOpening program cold
  first-found array cold (reads, (same, opens)) none = (
    reads,
    record {
      opens = subst (λ (r : ReadOf). IsOpeningTerm program r cold) (sym same) opens;
      first = λ other before is. none other (subst (λ (r : ReadOf). IsEarlierRead other r) same before) (is ∙ reads);
    },
  )

  -- the search for the opening term of a read that reads the array
  pub read-found : (array : ℕ) (found : Option Cold) → (reference_of program reader).array ≡ array → FindsTerm program reader found → FindsRead program array reader found
  read-found array None is h = λ same. h
  read-found array (Some cold) is h = (ap (λ (r : ReadOf). (reference_of program r).array) h.0 ∙ is, h)
