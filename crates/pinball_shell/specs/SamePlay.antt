-- What is printed for a log does not depend on the weights and the bound with which its plan was accepted.
use Rattle.std.specs.Prelude.{◌≡◌, ℕ, List}
use Rattle.written_machine.specs.{CheckedView.CheckedView, Accepted.IsAccepted}
use Rattle.pinball_shell.specs.RunOfLog.{printed_for_log}

-- If two that are accepted have the same plan, the same is printed for every log, whatever weights and bound each has.
abbrev pub PlaysTheSame : Type 0
PlaysTheSame = (c d : CheckedView) → IsAccepted c → IsAccepted d → c.plan ≡ d.plan → (log : List ℕ)
    → printed_for_log c.plan c.bound log ≡ printed_for_log d.plan d.bound log
