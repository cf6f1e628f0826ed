use Rattle.std.proofs.Common.{◌≡◌, List, [], ◌∷◌, ◌++◌, Ok, subst, sym, true}
use Rattle.std.proofs.lemmas.List.{map_push}
use Rattle.iolb_model.specs.Polynomial.{Term}
use Rattle.base_laws.proofs.Lists.{All-push}
use Rattle.poly_tree.specs.Terms.{term_of, terms_of, HasExponents}
use Rattle.json_values.specs.View.{json_data}
use Rattle.certificate_parts.specs.Polynomials.{HasLists, exponent_lists, reads_term_behind, reads_terms, stands_apart}
use Rattle.json_parts.specs.Outcome.{Fails}
use Rattle.certificate_parts.proofs.TermLoop.{goes_on, ends, is_done, AreApart-push}
use Rattle.certificate_parts.proofs.polynomials.terms.Goals as goal

pub returns-in-Err-clause-read : goal.returns-in-Err-clause-read
returns-in-Err-clause-read c =
    let front : List Term = terms_of c.loop-i.terms.items in
    let read : Fails c.in-Err.error (reads_term_behind front (json_data c.index-values-i.result)) =
    subst (λ ts. Fails c.in-Err.error (reads_term_behind (terms_of ts) (json_data c.index-values-i.result))) c.as_slice.ensures.value c.in-Err.ensures.read in
    ends front c.in_ok-values.values.now c.loop-i.i c.index-values-i.result c.in-Err.error c.under.result (reads_terms (json_data c.args.value.now))
    c.loop-i-test.true c.index-values-i.is read c.under.ensures c.loop-i.invariant.read

pub loop-i-preserved : goal.loop-i-preserved
loop-i-preserved c =
    let front : List Term = terms_of c.loop-i.terms.items in
    let term : Term = term_of c.in-Ok.term in
    let read : reads_term_behind front (json_data c.index-values-i.result) ≡ Ok term =
    subst (λ ts. reads_term_behind (terms_of ts) (json_data c.index-values-i.result) ≡ Ok term) c.as_slice.ensures.value c.in-Ok.ensures.read in
    let apart : stands_apart front term.exponents ≡ true =
    subst (λ ts. stands_apart (terms_of ts) term.exponents ≡ true) c.as_slice.ensures.value c.in-Ok.ensures.apart in
    let lists : HasLists c.term_behind.new.lists (exponent_lists front ++ term.exponents ∷ []) =
    subst (λ ts. HasLists c.term_behind.new.lists (exponent_lists (terms_of ts) ++ term.exponents ∷ [])) c.as_slice.ensures.value c.in-Ok.ensures.lists in
    let items : terms_of c.push.new.self.items ≡ front ++ term ∷ [] = rw c.in_ok-push-in-Ok.ensures.items (map_push term_of c.loop-i.terms.items c.in-Ok.term) in
    record {
      read = rw items (goes_on front c.in_ok-values.values.now c.loop-i.i c.index-values-i.result term (reads_terms (json_data c.args.value.now)) c.loop-i-test.true c.index-values-i.is read c.loop-i.invariant.read);
      fit = rw items (All-push HasExponents front term c.loop-i.invariant.fit c.in-Ok.ensures.fit);
      apart = rw items (AreApart-push front term c.loop-i.invariant.apart apart);
      lists = subst (λ ts. HasLists c.term_behind.new.lists (exponent_lists ts)) (sym items) (subst (HasLists c.term_behind.new.lists) (sym (map_push (λ (t : Term). t.exponents) front term)) lists);
    }

pub returns-clause-read : goal.returns-clause-read
returns-clause-read c =
    is_done (terms_of c.loop-i.terms.items) c.in_ok-values.values.now c.loop-i.i (reads_terms (json_data c.args.value.now)) c.loop-i-test.false c.loop-i.invariant.read
