use Rattle.affine_c.proofs.read.read_program.Goals as goal

pub program_of-requires : goal.program_of-requires
program_of-requires c = c.readings_are_well_read.ensures c.args.bytes.now c.in-Ok.reading c.in-Ok.ensures
