use Rattle.std.proofs.Common.{◌≡◌, ◌<◌, ◌≤◌, inl, inr, length, map, sym, ap, ◌∙◌, subst, true≢false, arith}
use Rattle.std.proofs.lemmas.Bool.{cases_lt}
use Rattle.machine_core.{specs.Fit.IsRight, proofs.Fitting.{right-at, first-at, too-few, not-right, all-fit}}
use Rattle.machine_core.proofs.fit.first_wrong.Goals as goal
use Rattle.machine_core.proofs.fit.first_wrong.Goals.{then-number-devices-via-then-number-devices}
use Rattle.machine_core.proofs.fit.first_wrong.Goals.{then-number-devices-via-else-number-devices+then-not-is_right}

pub returns-then-number-devices-clause-wrong : goal.returns-then-number-devices-clause-wrong
returns-then-number-devices-clause-wrong g c =
    let plan = c.args.plan.now in
    let devices = c.args.devices.now in
    let there : c.loop-number.number < length plan.rows =
    omega (arith, c.loop-number-test.true, ap (λ rows. length rows) c.rows-rows.ensures.rows) in
    elim c.then-number-devices.branch [
      | then-number-devices-via-then-number-devices w ↦
          first-at g.D.Device.row_of g.D.Device.state_of plan devices c.loop-number.number there c.loop-number.invariant
          (too-few g.D.Device.row_of g.D.Device.state_of plan devices c.loop-number.number w.if-number-devices.true)
      | then-number-devices-via-else-number-devices+then-not-is_right w ↦
          first-at g.D.Device.row_of g.D.Device.state_of plan devices c.loop-number.number there c.loop-number.invariant
          (not-right g.D.Device.row_of g.D.Device.state_of plan devices c.loop-number.number
          w.index-devices-number.result w.if-number-devices.false w.index-devices-number.is
          (λ both. true≢false (sym (w.is_right.ensures.1 both) ∙ w.if-not-is_right.true)))
    ]

pub loop-number-preserved : goal.loop-number-preserved
loop-number-preserved g c = λ other below.
    let plan = c.args.plan.now in
    let devices = c.args.devices.now in
    let i = c.loop-number.number in
    let there : i < length plan.rows = omega
    (arith, c.loop-number-test.true, ap (λ rows. length rows) c.rows-rows.ensures.rows) in
    elim (cases_lt other i) [
      | inl before ↦ c.loop-number.invariant other before
      | inr not ↦
          let same : i ≡ other = omega (arith, below, not) in
          let right = c.is_right.ensures.0 c.if-not-is_right.false in
          subst (IsRight plan (map g.D.Device.row_of devices) (map g.D.Device.state_of devices)) same
          (right-at g.D.Device.row_of g.D.Device.state_of plan devices i c.index-devices-number.result there
          c.if-number-devices.false c.index-devices-number.is right.0 right.1)
    ]

pub returns-clause-fit : goal.returns-clause-fit
returns-clause-fit g c =
    let plan = c.args.plan.now in
    let devices = c.args.devices.now in
    let count = ap (λ rows. length rows) c.rows-rows.ensures.rows in
    let few : length devices ≤ length plan.rows = omega (arith, c.if-rows-devices.false, count) in
    all-fit g.D.Device.row_of g.D.Device.state_of plan devices
    (λ i there. c.loop-number.invariant i (omega (arith, there, count, c.loop-number-test.false))) few
