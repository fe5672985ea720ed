use Rattle.std.proofs.Common.{◌≡◌, ℕ, ◌<◌, [], get_or}
use Rattle.config_checker.specs.{CertificateRead.lines_view, Checking.names_of}
use Rattle.config_checker.proofs.certified.are_events.Given as goal

-- the names so far are those of the events
abbrev pub invariant-loop-number : goal.invariant-loop-number
invariant-loop-number l = (k : ℕ) → k < l.number
    → get_or l.plan.events k [] ≡ get_or (names_of (lines_view l.lines)) k []
