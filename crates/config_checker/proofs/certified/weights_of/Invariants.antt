use Rattle.std.proofs.Common.{◌≡◌, take}
use Rattle.config_checker.specs.{CertificateRead.lines_view, Checking.numbers_of}
use Rattle.config_checker.proofs.certified.weights_of.Given as goal

-- the numbers so far
abbrev pub invariant-loop-line : goal.invariant-loop-line
invariant-loop-line l = l.weights.items ≡ numbers_of (lines_view (take l.line-index l.lines))
