use Rattle.std.proofs.Common.{◌≡◌, refl, sym, subst, Bool, true, false, List, length, map}
use Rattle.affine_program.specs.Parts.{meaning}
use Rattle.flow_deps.specs.declared.wanted.Wanted.TheVariants.{Short}
use Rattle.flow_deps.specs.Answers.{Answers, HasNoShort, Question, following}
use Rattle.flow_deps.proofs.AnswerLaws.{found-none, found-some}
use Rattle.claims.specs.Shown.{IsFew}
use Rattle.dep_quast.specs.Tree.{SelectionTree, tree_of}
use Rattle.reuse_paths.specs.LeafClaims.{claim_of}
use Rattle.wavefront.specs.ColdPieces.{leaves_of}
use Rattle.wavefront.specs.Term.{ColdTerm, inside_goals, nest_system, nest_variables}
use Rattle.find_terms.specs.Counted.{AreCounted, FindsCount}
use Rattle.cold_terms.specs.Entries.{FindsEntries}
use Rattle.cold_terms.specs.Outline.{ColdOutline, bare, outline_of}
use Rattle.projective_bounds.proofs.ColdParts.{IsClosedBy, IsInside, IsUndone}
use Rattle.find_terms.proofs.ColdLaws.{cold-shown, shown-closed, shown-counted, shown-inside, shown-undone}
use Rattle.find_terms.proofs.filling.filled.Goals as goal

clash : (b : Bool) → b ≡ false → b ≡ true → ⊥
clash true x y = cc
clash false x y = cc

pub returns-then-not-undone : goal.returns-then-not-undone
returns-then-not-undone c =
    let program = meaning c.args.program.now in
    let tree : SelectionTree = tree_of c.args.quast.now in
    λ cold e h. clash c.in_ok-undone.undone c.if-not-undone.true (c.in_ok-undone.ensures.1 (subst (IsUndone program) e (shown-undone program tree cold h)))

pub returns-in_default : goal.returns-in_default
returns-in_default c =
    let program = meaning c.args.program.now in
    let tree : SelectionTree = tree_of c.args.quast.now in
    let outline : ColdOutline = outline_of c.args.outline in
    let questions : List Question = following (nest_system program (bare outline)) (inside_goals program (bare outline)) in
    let none = found-none c.in_ok-inside.field-0 (HasNoShort questions) (λ shown. Answers c.args.wanted questions shown.items) c.in_default.is c.in_ok-inside.ensures.answers in
    λ cold e h. none (subst (IsInside program) e
    (shown-inside program tree cold h (subst (λ (o : ColdOutline). IsFew (length (nest_system program (bare o)).rows)) (sym e) c.in_ok-inside.ensures.few)))

pub returns-in_default-2 : goal.returns-in_default-2
returns-in_default-2 c =
    let program = meaning c.args.program.now in
    let tree : SelectionTree = tree_of c.args.quast.now in
    let term : ColdTerm = bare (outline_of c.args.outline) in
    let none = subst (FindsEntries c.args.wanted (nest_variables program term) (nest_system program term).rows (leaves_of program tree term)) c.in_default-2.is c.in_ok-leaves.ensures in
    λ cold e h. none (map claim_of cold.leaves.items) (subst (λ (o : ColdOutline). IsClosedBy Short program tree o (map claim_of cold.leaves.items)) e (shown-closed program tree cold h))

pub returns-in_default-3 : goal.returns-in_default-3
returns-in_default-3 c =
    let program = meaning c.args.program.now in
    let tree : SelectionTree = tree_of c.args.quast.now in
    let none = subst (FindsCount c.args.wanted program c.args.outline.nest) c.in_default-3.is c.in_ok-sums.ensures in
    λ cold e h. none cold.sums (subst (λ (o : ColdOutline). AreCounted Short program o.nest cold.sums) e (shown-counted program tree cold h))

pub returns : goal.returns
returns c =
    let program = meaning c.args.program.now in
    let tree : SelectionTree = tree_of c.args.quast.now in
    let outline : ColdOutline = outline_of c.args.outline in
    let term : ColdTerm = bare outline in
    let questions : List Question = following (nest_system program term) (inside_goals program term) in
    let undone : IsUndone program outline = c.in_ok-undone.ensures.0 c.if-not-undone.false in
    let inside = found-some c.in_ok-inside.field-0 c.in-Some.inside (HasNoShort questions) (λ shown. Answers c.args.wanted questions shown.items) c.in-Some.is c.in_ok-inside.ensures.answers in
    let closed = subst (FindsEntries c.args.wanted (nest_variables program term) (nest_system program term).rows (leaves_of program tree term)) c.in-Some-2.is c.in_ok-leaves.ensures in
    let counted = subst (FindsCount c.args.wanted program c.args.outline.nest) c.in-Some-3.is c.in_ok-sums.ensures in
    (refl, cold-shown c.args.wanted program tree _ c.requires.fits c.requires.tests undone inside closed counted)
