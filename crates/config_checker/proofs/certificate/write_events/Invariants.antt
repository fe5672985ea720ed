use Rattle.std.{proofs.Common.{take, codes}, specs.{List.{zip, flat_map}, Io.KnownBytes.Appends}}
use Rattle.config_checker.specs.CertificateText.{numbered_line}
use Rattle.config_checker.proofs.certificate.write_events.Given as goal

-- the lines of the events so far are written
abbrev pub invariant-loop-number : goal.invariant-loop-number
invariant-loop-number g l =
    Appends (g.W.Write.contents l.fn.writer) (g.W.Write.contents l.writer)
    (flat_map (numbered_line (codes "event")) (take l.number (zip l.checked.plan.events l.checked.weights)))
