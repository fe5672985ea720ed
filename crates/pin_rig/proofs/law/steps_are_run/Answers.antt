use Rattle.std.proofs.Common.{refl}
use Rattle.pin_rig.{specs.Steps.at_rest, proofs.Running.off-by_commands}
use Rattle.pin_rig.proofs.Judging.{judged-of_input, judged-allowed, judged-running, allowed-judged}
use Rattle.pin_rig.proofs.Running.{steps-run, steps-taken, halt-run, halt-taken, steps-follow, halt-follow}
use Rattle.pin_rig.proofs.law.steps_are_run.Goals as goal

pub returns-clause-run : goal.returns-clause-run
returns-clause-run c = λ checked board inputs trace new steps. (
  steps-run inputs (at_rest checked board) trace new refl steps,
  steps-taken inputs (at_rest checked board) trace new steps,
)

pub returns-clause-halt : goal.returns-clause-halt
returns-clause-halt c = λ checked board inputs last trace display new halt.
    let taken = halt-taken inputs last (at_rest checked board) trace display new halt
    in (halt-run inputs last (at_rest checked board) trace display new refl halt, taken.0, taken.1)

pub returns-clause-sends : goal.returns-clause-sends
returns-clause-sends c = record {
  steps = λ checked board inputs trace new accepted steps. steps-follow checked board accepted inputs trace new steps;
  halt = λ checked board inputs last trace display new accepted halt. halt-follow checked board accepted inputs last
      trace
      display new halt;
}

pub returns-clause-off : goal.returns-clause-off
returns-clause-off c = record {
  steps = λ checked board inputs trace new accepted steps. off-by_commands checked new trace
      (steps-follow checked board accepted inputs trace new steps);
  halt = λ checked board inputs last trace display new accepted halt. off-by_commands checked new display
      (halt-follow checked board accepted inputs last trace display new halt);
}

pub returns-clause-takes : goal.returns-clause-takes
returns-clause-takes c = λ rig input stimulus. (
  λ judged. (
    judged-running rig input stimulus judged,
    judged-of_input rig input stimulus judged,
    judged-allowed rig input stimulus judged,
  ),
  λ all. allowed-judged rig input stimulus all.0 all.1 all.2,
)
