use Rattle.std.proofs.Common.{sym, ap, ◌∙◌}
use Rattle.config_checker.{specs.CertificateOf.{parts, with_bound}, proofs.CertificateLines.bound_first}
use Rattle.config_checker.proofs.certificate_reader.next_bound.Goals as goal

pub returns : goal.returns
returns c =
    λ switched.
    bound_first c.args.text.now c.in_ok-line.line.now c.in_ok-line.rest.now c.in_ok-line.ensures.lines switched
    ∙ ap (λ o. with_bound switched o (parts 10 c.in_ok-line.rest.now)) (sym c.read_bound.ensures ∙ c.in_ok-bound.was)
