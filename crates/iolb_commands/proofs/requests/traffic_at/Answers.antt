use Rattle.std.proofs.Common.{sym, subst}
use Rattle.std.proofs.lemmas.Result.{err_from_is_err_and}
use Rattle.std.specs.Prelude.{Option}
use Rattle.affine_program.specs.Parts.{meaning}
use Rattle.command_words.specs.Requests.{Work, bounds_traffic, bytes_of, work_of}
use Rattle.iolb_cert.specs.OneCertificate.{HasCertificate}
use Rattle.iolb_cert.specs.Texts.{IsTextFault}
use Rattle.iolb_check.specs.Claims.{claim_of_certificate}
use Rattle.iolb_host.specs.Files.{FileMap}
use Rattle.store_terms.specs.Claims.{claim_of_stores}
use Rattle.store_text.specs.Texts.{HasStores, IsTextFault as IsStoresFault}
use Rattle.iolb_commands.specs.declared.stop.OtherFault.TheVariants.{Certificate, Stores}
use Rattle.iolb_commands.specs.declared.stop.Stop.TheVariants.{OtherText}
use Rattle.iolb_commands.specs.Phases.{End, FileComes, StoresTextComes, TrafficComes, WorkComes, stops}
use Rattle.iolb_commands.specs.Written.{end_of}
use Rattle.iolb_commands.proofs.RequestLaws.{said_comes, unsaid_stops}
use Rattle.iolb_commands.proofs.requests.traffic_at.Goals as goal

pub returns-in_err-certificate-clause-comes : goal.returns-in_err-certificate-clause-comes
returns-in_err-certificate-clause-comes g c =
    let p = err_from_is_err_and c.from_residual.result c.from_residual.ensures.1 in
    let given = c.requires.given in
    let known : Work = bounds_traffic c.args.s given.0 in
    let told = g.F.Files.told c.args.files.now in
    let names = bytes_of c.args.command.now.files.now in
    let stop = c.in_err-certificate.field-0.0 in
    rw (p.1, p.2) (subst (λ (work : Work). WorkComes told names work (meaning c.args.program.now) c.args.sizes.now (stops stop)) (sym given.2)
    (unsaid_stops told names 1 (work_of c.args.command.now.work) known given.2 IsTextFault (λ fault. OtherText (Certificate fault)) HasCertificate _ stop c.in_err-certificate.ensures.cause))

pub returns-in_err-stores-clause-comes : goal.returns-in_err-stores-clause-comes
returns-in_err-stores-clause-comes g c =
    let p = err_from_is_err_and c.from_residual-in_err-stores.result c.from_residual-in_err-stores.ensures.1 in
    let given = c.requires.given in
    let known : Work = bounds_traffic c.args.s given.0 in
    let told = g.F.Files.told c.args.files.now in
    let names = bytes_of c.args.command.now.files.now in
    let stop = c.in_err-stores.field-0.0 in
    let claim = claim_of_certificate c.in_ok-certificate.certificate in
    let behind = λ (files : Option FileMap). FileComes files names known 2 (λ others. StoresTextComes others (TrafficComes c.args.s (meaning c.args.program.now) c.args.sizes.now claim)) (stops stop) in
    rw (p.1, p.2) (subst (λ (work : Work). WorkComes told names work (meaning c.args.program.now) c.args.sizes.now (stops stop)) (sym given.2)
    (said_comes told names 1 (work_of c.args.command.now.work) known given.2 IsTextFault (λ fault. OtherText (Certificate fault)) HasCertificate _ claim (stops stop) c.in_ok-certificate.ensures.said
    (subst behind c.certificate_at.ensures.told_stays
    (unsaid_stops _ names 2 (work_of c.args.command.now.work) known given.2 IsStoresFault (λ fault. OtherText (Stores fault)) HasStores _ stop c.in_err-stores.ensures.cause))))

pub returns-clause-comes : goal.returns-clause-comes
returns-clause-comes g c =
    let given = c.requires.given in
    let known : Work = bounds_traffic c.args.s given.0 in
    let told = g.F.Files.told c.args.files.now in
    let names = bytes_of c.args.command.now.files.now in
    let end = end_of c.traffic_answer.result in
    let claim = claim_of_certificate c.in_ok-certificate.certificate in
    let behind = λ (files : Option FileMap). FileComes files names known 2 (λ others. StoresTextComes others (TrafficComes c.args.s (meaning c.args.program.now) c.args.sizes.now claim)) end in
    subst (λ (work : Work). WorkComes told names work (meaning c.args.program.now) c.args.sizes.now end) (sym given.2)
    (said_comes told names 1 (work_of c.args.command.now.work) known given.2 IsTextFault (λ fault. OtherText (Certificate fault)) HasCertificate _ claim end c.in_ok-certificate.ensures.said
    (subst behind c.certificate_at.ensures.told_stays
    (said_comes _ names 2 (work_of c.args.command.now.work) known given.2 IsStoresFault (λ fault. OtherText (Stores fault)) HasStores _ (claim_of_stores c.in_ok-stores.stores) end c.in_ok-stores.ensures.said
    c.traffic_answer.ensures.comes)))
