use Rattle.std.proofs.Common.{◌≡◌, ℕ, ◌<◌, get_or}
use Rattle.cascade_rank.specs.{Events.weight_of, Weights.switch_costs}
use Rattle.config_checker.specs.{CertificateRead.lines_view, Checking.numbers_of}
use Rattle.config_checker.proofs.certified.first_other.Given as goal

-- the costs so far are right
abbrev pub invariant-loop-number : goal.invariant-loop-number
invariant-loop-number l = (n : ℕ) → n < l.number
    → get_or (numbers_of (lines_view l.switches)) n 0 ≡ get_or (switch_costs l.plan (weight_of l.weights)) n 0
