use Rattle.std.{proofs.Common.take, specs.{List.flat_map, Io.KnownBytes.Appends}}
use Rattle.mpf_config.specs.FaultLine.{with_blank}
use Rattle.config_checker.proofs.report_text.write_cycle.Given as goal

-- the names so far are written
abbrev pub invariant-loop-event : goal.invariant-loop-event
invariant-loop-event g l =
    Appends (g.W.Write.contents l.initial.writer) (g.W.Write.contents l.writer)
    (flat_map (λ v. with_blank v.items) (take l.event-index l.events))
