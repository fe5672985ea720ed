use Rattle.std.{proofs.Common.{take, codes}, specs.{List.{zip, flat_map}, Io.KnownBytes.Appends}}
use Rattle.plan_tables.specs.{declared.table.Table.TheVariants.Switches, Limits.entry_names}
use Rattle.cascade_rank.specs.{Events.weight_of, Weights.switch_costs}
use Rattle.config_checker.specs.CertificateText.{numbered_line}
use Rattle.config_checker.proofs.certificate.write_switches.Given as goal

-- the lines of the switches so far are written
abbrev pub invariant-loop-number : goal.invariant-loop-number
invariant-loop-number g l =
    Appends (g.W.Write.contents l.fn.writer) (g.W.Write.contents l.writer)
    (flat_map (numbered_line (codes "switch"))
    (take l.number (zip (entry_names l.checked.plan Switches)
    (switch_costs l.checked.plan (weight_of l.checked.weights)))))
