use Rattle.std.proofs.Common.{length}
use Rattle.config_checker.{specs.CertificateRead.lines_view, proofs.CertificateLines.IsReadTo}
use Rattle.config_checker.proofs.certificate_reader.front.Given as goal

abbrev pub invariant-loop-line : goal.invariant-loop-line
invariant-loop-line l = IsReadTo l.word l.text (lines_view l.front_lines.items) l.rest

abbrev pub decreases-loop-line : goal.decreases-loop-line
decreases-loop-line l = length l.rest
