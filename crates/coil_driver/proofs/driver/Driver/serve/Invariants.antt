use Rattle.std.proofs.Common.{◌≡◌, length, take}
use Rattle.coil_driver.specs.Driver.{HasSent}
use Rattle.coil_driver.proofs.driver.Driver.serve.Given as goal

-- the commands of the lines so far were sent
abbrev pub invariant-loop-place : goal.invariant-loop-place
invariant-loop-place g l = HasSent (take l.place l.lines) l.fn.self l.self
    × (length l.self.guard ≡ length l.fn.self.guard)
