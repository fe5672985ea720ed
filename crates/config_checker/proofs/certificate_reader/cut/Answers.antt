use Rattle.std.proofs.Common.{sym, ◌∙◌}
use Rattle.config_checker.proofs.CertificateLines.{cut_at, not_cut}
use Rattle.config_checker.proofs.certificate_reader.cut.Goals as goal

pub returns-in_err-place-clause-parts : goal.returns-in_err-place-clause-parts
returns-in_err-place-clause-parts c = rw c.from_residual.ensures
    (not_cut c.args.end c.args.text.now (sym c.place_of.ensures ∙ c.in_err-place.was))

pub returns-clause-parts : goal.returns-clause-parts
returns-clause-parts c = cut_at c.args.end c.args.text.now c.in_ok-place.place
    (sym c.place_of.ensures ∙ c.in_ok-place.was)
