use Rattle.std.{proofs.Common.{ℕ, subst, sym}, specs.Prelude.filter}
use Rattle.plan_tables.specs.PlanView.{PlanView, coil_numbers}
use Rattle.coil_driver.specs.{Board.{BoardView, board_view}, Driver.is_due_off, ShutDown.ArePutOff}
use Rattle.pin_rig.specs.{Rig.RigView, ShutDown.coils_to_put_off}
use Rattle.pin_rig.proofs.rig.Rig.end.Goals as goal

pub returns-clause-off : goal.returns-clause-off
returns-clause-off g c =
    let off = c.put_off-report.result.off.items in
    let faults = c.put_off-report.result.faults in
    let driver = c.self.inside.driver in
    let at = subst (λ (now : ℕ). ArePutOff (filter (is_due_off now driver) (coil_numbers c.plan.result.now))
    driver.board off faults c.put_off-report.new.self.board) c.moment-now.ensures c.put_off-report.ensures.off in
    let of_plan = subst (λ (plan : PlanView). ArePutOff
    (filter (is_due_off c.self.inside.core.machine.moment driver) (coil_numbers plan)) driver.board off faults
    c.put_off-report.new.self.board) c.plan.ensures.plan at in
    let to_board = subst (λ (new : BoardView). ArePutOff
    (filter (is_due_off c.self.inside.core.machine.moment driver) (coil_numbers c.self.inside.checked.now.plan))
    driver.board off faults new) (sym c.into_board.ensures) of_plan in
    subst (λ (self : RigView). ArePutOff (coils_to_put_off self) self.board off faults
    (board_view g.B.Board.command_list g.B.Board.fault_count g.B.Board.answers c.into_board.result)) c.self.view_is
    to_board
