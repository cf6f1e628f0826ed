use Rattle.affine_program.specs.Parts.{meaning}
use Rattle.dep_quast.specs.Quasts.{trees_of}
use Rattle.projective_bounds.proofs.Conditions.{limits-kept}
use Rattle.projective_bounds.proofs.Parts.{can-be-shown, in-reach, parts-certified}
use Rattle.projective_bounds.proofs.certificates.certify.Goals as goal

pub whole_branch-requires-clause-shown : goal.whole_branch-requires-clause-shown
whole_branch-requires-clause-shown c =
    let program = c.args.program.now in
    let trees = trees_of c.in_ok-quasts.quasts in
    let cover = c.in_ok-cover.cover in
    can-be-shown program trees c.q-q.result c.weights-weights.result.now cover.packing.items c.params-params.ensures.kept c.requires.projective
    (c.source_trees_keep_loops.ensures (meaning program) trees c.requires.projective c.in_ok-quasts.ensures)
    (in-reach (meaning program) cover.q c.q-q.result cover.weights.items c.weights-weights.result.now cover.packing.items c.q-q.ensures c.weights-weights.ensures c.in_ok-cover.ensures.cover)

pub certificate_of-requires : goal.certificate_of-requires
certificate_of-requires c =
    let program = c.args.program.now in
    let trees = trees_of c.in_ok-quasts.quasts in
    let cover = c.in_ok-cover.cover in
    limits-kept program c.in_ok-quasts.quasts c.in_ok-first.first c.in_ok-second.second (record {
      q = c.q-q.result;
      weights = c.weights-weights.result.now;
      can = can-be-shown program trees c.q-q.result c.weights-weights.result.now cover.packing.items c.params-params.ensures.kept c.requires.projective
          (c.source_trees_keep_loops.ensures (meaning program) trees c.requires.projective c.in_ok-quasts.ensures)
          (in-reach (meaning program) cover.q c.q-q.result cover.weights.items c.weights-weights.result.now cover.packing.items c.q-q.ensures c.weights-weights.ensures c.in_ok-cover.ensures.cover);
      trees = c.in_ok-quasts.ensures;
      whole = c.in_ok-first.ensures;
      colds = c.in_ok-colds.colds.items;
      all = c.in_ok-second.ensures.all;
      alone = c.in_ok-second.ensures.alone;
      placed = c.in_ok-colds.ensures.placed;
      different = c.in_ok-colds.ensures.different;
      few = c.in_ok-colds.ensures.few;
    })

pub returns-clause-certified : goal.returns-clause-certified
returns-clause-certified c =
    let program = c.args.program.now in
    let trees = trees_of c.in_ok-quasts.quasts in
    let cover = c.in_ok-cover.cover in
    let reach = in-reach (meaning program) cover.q c.q-q.result cover.weights.items c.weights-weights.result.now cover.packing.items c.q-q.ensures c.weights-weights.ensures c.in_ok-cover.ensures.cover in
    parts-certified program c.in_ok-quasts.quasts c.in_ok-first.first c.in_ok-second.second c.in_ok-certificate.certificate cover.packing.items (record {
      q = c.q-q.result;
      weights = c.weights-weights.result.now;
      can = can-be-shown program trees c.q-q.result c.weights-weights.result.now cover.packing.items c.params-params.ensures.kept c.requires.projective
          (c.source_trees_keep_loops.ensures (meaning program) trees c.requires.projective c.in_ok-quasts.ensures) reach;
      trees = c.in_ok-quasts.ensures;
      whole = c.in_ok-first.ensures;
      colds = c.in_ok-colds.colds.items;
      all = c.in_ok-second.ensures.all;
      alone = c.in_ok-second.ensures.alone;
      placed = c.in_ok-colds.ensures.placed;
      different = c.in_ok-colds.ensures.different;
      few = c.in_ok-colds.ensures.few;
    }) reach c.in_ok-colds.ensures.terms c.in_ok-certificate.ensures

pub returns-clause-exponent : goal.returns-clause-exponent
returns-clause-exponent c is = c.certified_have_least_exponents.ensures (meaning c.args.program.now) c.in_ok-certificate.certificate is

pub returns-clause-reach : goal.returns-clause-reach
returns-clause-reach c =
    let cover = c.in_ok-cover.cover in
    let reach = c.in_ok-cover.ensures.cover in
    record {
      projective = c.requires.projective;
      q = cover.q;
      weights = cover.weights.items;
      packing = cover.packing.items;
      pair = record { positive = reach.least.positive; few = reach.few; light = reach.light; is_pair = reach.least.is_pair };
    }
