use Rattle.std.proofs.Common.{rules, Option, ℕ, List, sym, ap, option_map, ◌∙◌}
use Rattle.config_checker.specs.{CertificateOf.{parts, with_line, front}, CertificateRead.line_view}
use Rattle.config_checker.proofs.CertificateLines.{no_front, front_first}
use Rattle.config_checker.proofs.certificate_reader.next_line.Goals as goal

pub returns-in_err-line-clause-line : goal.returns-in_err-line-clause-line
returns-in_err-line-clause-line c = rw c.from_residual.ensures
    (no_front c.args.text.now c.in_err-line.ensures.lines c.args.word.now)

pub returns-in_err-line-2-clause-line : goal.returns-in_err-line-2-clause-line
returns-in_err-line-2-clause-line c = search (rules, front_first, option_map)

pub returns-clause-line : goal.returns-clause-line
returns-clause-line c =
    let word = c.args.word.now in
    let rest = c.in_ok-line.rest.now in
    front_first c.args.text.now c.in_ok-line.line.now rest c.in_ok-line.ensures.lines word
    ∙ ap (λ (o : Option (List ℕ × ℕ)). with_line o (parts 10 c.args.text.now) (front word (parts 10 rest)))
    (sym c.read_line.ensures ∙ ap (option_map line_view) c.in_ok-line-2.was)
