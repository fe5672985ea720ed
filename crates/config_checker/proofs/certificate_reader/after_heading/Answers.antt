use Rattle.std.proofs.Common.{sym, ap, ◌∙◌}
use Rattle.config_checker.specs.CertificateOf.{parts, with_heading}
use Rattle.config_checker.proofs.CertificateLines.{no_heading, heading_first}
use Rattle.config_checker.proofs.certificate_reader.after_heading.Goals as goal

pub returns-in_err-line : goal.returns-in_err-line
returns-in_err-line c = rw c.from_residual.ensures (no_heading c.args.text.now c.in_err-line.ensures.lines)

pub returns-in_err-lists_switches : goal.returns-in_err-lists_switches
returns-in_err-lists_switches c =
    let rest = c.in_ok-line.rest.now in
    rw c.from_residual-in_err-lists_switches.ensures
    (heading_first c.args.text.now c.in_ok-line.line.now rest c.in_ok-line.ensures.lines
    ∙ ap (λ o. with_heading o (parts 10 rest)) (sym c.has_switches.ensures ∙ c.in_err-lists_switches.was))

pub returns : goal.returns
returns c =
    let rest = c.in_ok-line.rest.now in
    heading_first c.args.text.now c.in_ok-line.line.now rest c.in_ok-line.ensures.lines
    ∙ ap (λ o. with_heading o (parts 10 rest)) (sym c.has_switches.ensures ∙ c.in_ok-lists_switches.was)
