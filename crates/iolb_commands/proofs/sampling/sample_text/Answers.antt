use Rattle.affine_program.specs.Parts.{meaning}
use Rattle.iolb_commands.proofs.Made.{kept_short}
use Rattle.iolb_commands.proofs.Sampled.{sampled_so}
use Rattle.iolb_commands.proofs.sampling.sample_text.Goals as goal

pub returns : goal.returns
returns c =
    let accepted = c.in_ok-accepted.ensures.accepted in
    sampled_so c.in_ok-program.program c.args.count c.in_ok-accepted.accepted.certificate c.in_ok-accepted.accepted.bound c.greatest_narrow-value.result c.in_ok-text.text.items c.in_ok-program.ensures
    accepted.gives c.in_ok-accepted.ensures.made (kept_short (meaning c.in_ok-program.program) c.in_ok-accepted.accepted accepted.text_is c.in_ok-accepted.ensures.short) c.greatest_narrow-value.ensures c.one_product_is_certified.ensures c.products_have_openings.ensures c.in_ok-text.ensures
