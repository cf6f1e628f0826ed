use Rattle.std.proofs.Common.{◌≡◌, sym, ◌∙◌, ap, cond, subst, ◌++◌, ◌∷◌, [], List, map, ℕ, nat_eq, Vec, Global, arith}
use Rattle.std.specs.List.{list_any}
use Rattle.std.proofs.lemmas.Bool.{cond-true, cond-false}
use Rattle.std.proofs.lemmas.List.{take_all}
use Rattle.iolb_model.specs.Source.{Cell, cell_of}
use Rattle.affine_program.specs.declared.reference.Reference.{Reference}
use Rattle.affine_program.specs.Parts.{access_of}
use Rattle.loop_graph.specs.Known.{AreRead, ArePreceded, source_by}
use Rattle.loop_graph.proofs.Gathered.{read-next}
use Rattle.loop_graph.proofs.known.Known.read_all.Goals as goal
use Rattle.loop_graph.proofs.known.Known.read_all.Goals.{then-not-contains+in_ok-push, else-not-contains}

pub loop-reference-preserved : goal.loop-reference-preserved
loop-reference-preserved c =
    let preds : List ℕ = c.loop-reference.preds.items in
    let any : c.contains.result ≡ list_any (λ y. nat_eq y c.in_ok-vertex.vertex) preds = c.contains.ensures.value ∙ ap (list_any (λ y. nat_eq y c.in_ok-vertex.vertex)) c.as_slice.ensures.value in
    let more : c.if-not-contains.preds.items ≡ cond (list_any (λ y. nat_eq y c.in_ok-vertex.vertex) preds) preds (preds ++ c.in_ok-vertex.vertex ∷ []) =
    elim c.if-not-contains.branch [
      | then-not-contains+in_ok-push w ↦ ap (λ (l : Vec ℕ Global). l.items) w.preds-is ∙ w.in_ok-push.ensures.items
          ∙ sym (cond-false (list_any (λ y. nat_eq y c.in_ok-vertex.vertex) preds) preds (preds ++ c.in_ok-vertex.vertex ∷ []) (sym any ∙ w.if-not-contains.true))
      | else-not-contains w ↦ ap (λ (l : Vec ℕ Global). l.items) w.preds-is
          ∙ sym (cond-true (list_any (λ y. nat_eq y c.in_ok-vertex.vertex) preds) preds (preds ++ c.in_ok-vertex.vertex ∷ []) (sym any ∙ w.if-not-contains.false))
    ] in record {
      few = omega (arith, c.loop-reference.invariant.few, c.in_ok-vertex.ensures.grows);
      preceded = λ writer before met. read-next (λ (reference : Reference). cell_of (access_of reference) c.args.point.now) c.args.instances writer before c.args.references.now
          c.loop-reference.reference-index c.reference-item.result c.loop-reference.self c.read.new.self preds c.if-not-contains.preds.items c.in_ok-vertex.vertex
          c.loop-reference-test.true c.reference-item.is (c.loop-reference.invariant.preceded writer before met)
          (λ cells known. subst (λ (cell : Cell). AreRead c.args.instances writer cells (source_by writer cell ∷ []) c.read.new.self (c.in_ok-vertex.vertex ∷ [])) c.cell_at.ensures (c.in_ok-vertex.ensures.read writer cells known)) more;
    }

pub returns-clause-preceded : goal.returns-clause-preceded
returns-clause-preceded c = λ writer before met.
    subst (λ (l : List Reference). ArePreceded c.args.instances writer before (map (source_by writer) (map (λ reference. cell_of (access_of reference) c.args.point.now) l)) c.loop-reference.self c.loop-reference.preds.items)
    (take_all c.loop-reference.reference-index c.args.references.now c.loop-reference-test.false) (c.loop-reference.invariant.preceded writer before met)
