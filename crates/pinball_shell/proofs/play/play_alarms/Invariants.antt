use Rattle.std.{proofs.Common.length, specs.Io.KnownBytes.append_known}
use Rattle.pinball_shell.{specs.RunOfLog.all_alarms_by, proofs.Playing.AreAlarmsGoing}
use Rattle.pinball_shell.proofs.play.play_alarms.Given as goal

-- the alarms that are left complete those that were played
abbrev pub invariant-loop-alarm : goal.invariant-loop-alarm
invariant-loop-alarm g l =
    AreAlarmsGoing l.plan l.fn.rig.checked.bound l.until l.fn.rig l.rig
    (append_known (g.W.Write.contents l.fn.writer) l.fn.page) (append_known (g.W.Write.contents l.writer) l.page)
    (all_alarms_by l.plan l.fn.rig.checked.bound l.until l.fn.rig.machine)

-- how many are left
abbrev pub decreases-loop-alarm : goal.decreases-loop-alarm
decreases-loop-alarm g l = length (all_alarms_by l.plan l.fn.rig.checked.bound l.until l.rig.machine)
