-- In every run of an accepted plan the ledger says where the known balls are.
use Rattle.std.proofs.Common.{rules, arith}
use Rattle.written_machine.specs.{GoodRun.BallsAreAccountedFor, CheckedView.CheckedView, Accepted.IsAccepted}
use Rattle.written_machine.proofs.BallTrace.{told-run, booked-run, somewhere-run}
use Rattle.written_machine.proofs.{BallRuns.calm-run, BallHeard.counted-run, Told.told-same}

pub balls-accounted_for : (c : CheckedView) → IsAccepted c → BallsAreAccountedFor c
balls-accounted_for c accepted = record {
  somewhere = somewhere-run c.plan;
  none_left_out = λ stimuli trace s run. (calm-run c.plan accepted.valid accepted.own accepted.bookings stimuli trace s
      run).kept;
  few = λ stimuli trace s run. let known =
      (calm-run c.plan accepted.valid accepted.own accepted.bookings stimuli trace s run).most in omega (arith, known);
  tellings = told-same c.plan accepted.bookings;
  ledger_numbers = booked-run c.plan;
  origins = λ stimuli trace s run. (told-run c.plan stimuli trace s run).origins;
  line_counts = λ stimuli trace s run. (told-run c.plan stimuli trace s run).told;
  counted = counted-run c.plan accepted.valid accepted.own accepted.bookings;
  away = search (rules, calm-run);
}
