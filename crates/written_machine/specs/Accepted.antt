-- What is accepted.
use Rattle.plan_tables.specs.{Valid.IsValid, BallRows.BookingsAreRight}
use Rattle.cascade_rank.specs.Verified.{IsVerified}
use Rattle.written_machine.specs.{CheckedView.CheckedView, CoilActions.ActionsKeepLimits}
use Rattle.written_machine.specs.{FreePosts.PostsAreFree, Devices.ActsAreOwn}

-- The plan is valid, nothing posts an event at which the machine itself does something, but that of the start button,
-- bindings act on devices of their own owner alone, only the machine's devices listen to switches, and ball devices are
-- the machine's; each command to a coil is within the coil's limits, the ledger of balls books what it should, the
-- weights fit the plan, neither they nor the bound are above 100,000, and the bound is theirs.
pub record IsAccepted (c : CheckedView) : Type 0 where
  pub valid : IsValid c.plan
  pub free : PostsAreFree c.plan
  pub own : ActsAreOwn c.plan
  pub limits : ActionsKeepLimits c.plan
  pub bookings : BookingsAreRight c.plan
  pub weights_fit : IsVerified c.plan c.weights c.bound
