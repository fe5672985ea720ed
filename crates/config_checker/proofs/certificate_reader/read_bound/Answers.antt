use Rattle.std.{proofs.{Common.{None, codes, sym, ◌∙◌}, lemmas.Bool.cond-true}, specs.Str.bytes_eq}
use Rattle.config_checker.{specs.CertificateOf.number_in, proofs.CertificateLines.bound_of_two}
use Rattle.config_checker.proofs.certificate_reader.read_bound.Goals as goal

pub returns-then-eq : goal.returns-then-eq
returns-then-eq c =
    let word = c.in_ok-word.word.now in
    let number = c.in_ok-word.number.now in
    c.read_number.ensures
    ∙ sym (bound_of_two word number c.args.line.now c.in_ok-word.ensures
    ∙ cond-true (bytes_eq word (codes "bound")) (number_in number) None (sym c.eq.ensures ∙ c.if-eq.true))
