use Rattle.stretch_laws.proofs.Stretch.{holds-points, holds-words}
use Rattle.stretch_laws.proofs.stretches.stretches_are_small.Goals as goal

pub returns-clause-words : goal.returns-clause-words
returns-clause-words c graph q s t partition red stretch sound run few = holds-words graph q s t partition sound red stretch run c.disjoint_loads_add_up.ensures few

pub returns-clause-points : goal.returns-clause-points
returns-clause-points c graph q num den s t u partition red stretch sound factor greatest run few =
    holds-points graph q s t partition sound red stretch run c.disjoint_loads_add_up.ensures num den u factor greatest few
