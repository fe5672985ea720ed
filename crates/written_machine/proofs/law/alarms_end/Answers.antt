use Rattle.written_machine.{specs.Machine.initial, proofs.AlarmsEnd.alarms_end}
use Rattle.written_machine.proofs.Alarms.{arms_later, alarm-done, has_states-run, has_states-initial}
use Rattle.written_machine.proofs.law.alarms_end.Goals as goal

pub returns-clause-arms_later : goal.returns-clause-arms_later
returns-clause-arms_later c = λ plan stimulus s n t valid steps. arms_later plan valid stimulus s n t steps

pub returns-clause-done : goal.returns-clause-done
returns-clause-done c = λ plan at source s n t valid has due steps. alarm-done plan valid at source s n t has due steps

pub returns-clause-end : goal.returns-clause-end
returns-clause-end c = alarms_end

pub returns-clause-shapes : goal.returns-clause-shapes
returns-clause-shapes c = λ plan stimuli trace s run.
    (has_states-run plan stimuli (initial plan) trace s run (has_states-initial plan)).devices
