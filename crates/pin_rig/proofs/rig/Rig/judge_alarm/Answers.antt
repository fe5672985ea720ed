use Rattle.std.proofs.Common.{rules, ◌≡◌, Some, subst}
use Rattle.plan_tables.specs.Valid.{IsValid}
use Rattle.machine_core.specs.Stimuli.{source_view}
use Rattle.pin_rig.{specs.Rig.RigView, proofs.Judging.alarm-judged}
use Rattle.written_machine.specs.NextAlarm.{next_alarm}
use Rattle.pin_rig.proofs.rig.Rig.judge_alarm.Goals as goal

pub returns-in_err-check_moment : goal.returns-in_err-check_moment
returns-in_err-check_moment g c =
    let rig = c.args.self.now in
    let next : next_alarm rig.machine ≡ Some (c.in_ok-at.at, source_view c.in_ok-at.source) = search rules in
    let valid : IsValid rig.checked.plan =
    subst (λ (r : RigView). IsValid r.checked.plan) c.self.view_is c.self.invariant.acceptance.valid in
    let judged = alarm-judged rig valid c.now.ensures.of_run (c.in_ok-at.at, source_view c.in_ok-at.source) next in
    search (rules, judged)
