use Rattle.std.proofs.Common.{◌+◌}
use Rattle.machine_core.proofs.Settling.{now-stays, advanced-steps, advanced-smaller}
use Rattle.machine_core.proofs.parts.settle.Goals as goal

pub advance-requires-clause-room : goal.advance-requires-clause-room
advance-requires-clause-room g c =
    let (count, is, can) = c.loop.invariant in
    now-stays c.args.core.now c.loop.core c.requires.room count is

pub loop-smaller : goal.loop-smaller
loop-smaller g c =
    let (count, is, can) = c.loop.invariant in
    let (waits, new_is) = c.loop-test.ensures.advances in
    advanced-smaller c.args.core.now c.loop.core c.requires.room count is c.advance.new.core new_is waits

pub loop-preserved : goal.loop-preserved
loop-preserved g c =
    let (count, is, can) = c.loop.invariant in
    let (waits, new_is) = c.loop-test.ensures.advances in (
      count + 1,
      advanced-steps c.args.core.now c.loop.core c.requires.room count is c.advance.new.core new_is,
      c.loop-test.ensures.calls,
    )
