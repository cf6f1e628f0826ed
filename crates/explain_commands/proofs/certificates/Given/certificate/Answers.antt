use Rattle.explain_commands.proofs.certificates.Given.certificate.Goals as goal

pub returns-in-Ok : goal.returns-in-Ok
returns-in-Ok c = let read = c.in-Ok.ensures in record { written = read.0; says = read.1; is = read.2 }
