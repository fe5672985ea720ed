use Rattle.std.proofs.Common.{◌≡◌, ℕ, ◌<◌, [], get_or}
use Rattle.plan_tables.specs.{declared.table.Table.TheVariants.Switches, Limits.entry_names}
use Rattle.config_checker.specs.{CertificateRead.lines_view, Checking.names_of}
use Rattle.config_checker.proofs.certified.are_switches.Given as goal

-- the names so far are those of the switches
abbrev pub invariant-loop-number : goal.invariant-loop-number
invariant-loop-number l = (k : ℕ) → k < l.number
    → get_or (entry_names l.plan Switches) k [] ≡ get_or (names_of (lines_view l.lines)) k []
