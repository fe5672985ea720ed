use Rattle.std.proofs.Common.{rules, ◌≡◌, ℕ, Some, option_map, subst}
use Rattle.written_machine.specs.{Run.Source, NextAlarm.next_alarm}
use Rattle.pin_rig.{specs.Rig.IsNextMoment, proofs.Judging.next-moment}
use Rattle.pin_rig.proofs.rig.Rig.next_due.Goals as goal

pub returns-in_err-at-clause-least : goal.returns-in_err-at-clause-least
returns-in_err-at-clause-least g c =
    let s = c.args.self.now.machine in
    let same : option_map (λ (a : ℕ × Source). a.0) (next_alarm s) ≡ c.from_residual.result = search rules in
    subst (IsNextMoment s) same (next-moment s)

pub returns-clause-least : goal.returns-clause-least
returns-clause-least g c =
    let s = c.args.self.now.machine in
    let same : option_map (λ (a : ℕ × Source). a.0) (next_alarm s) ≡ Some c.in_ok-at.at = search rules in
    subst (IsNextMoment s) same (next-moment s)
