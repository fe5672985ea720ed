-- Every run of an accepted plan is good.
use Rattle.written_machine.specs.{GoodRun.IsGood, CheckedView.CheckedView, Accepted.IsAccepted}
use Rattle.plan_tables.specs.declared.entries.Owner.TheVariants as owners
use Rattle.written_machine.proofs.{Cascade.verified-cascades_end, BallHeard.changes-run}
use Rattle.written_machine.proofs.Guarded.{follows-run, skips-run, stretches-run, holder-run}
use Rattle.written_machine.proofs.{BallsAccountedFor.balls-accounted_for, Levels.levels-run, Moments.timed-run}
use Rattle.written_machine.proofs.Silence.{stopped_is_silent, stopped_is_resting, stopped_holds_nothing}

pub every_run_is_good : (c : CheckedView) → IsAccepted c → IsGood c
every_run_is_good c accepted = record {
  cascades = verified-cascades_end c accepted.valid accepted.weights_fit;
  coils = record {
    limits = λ stimuli trace s run. (follows-run c.plan accepted.limits accepted.valid stimuli trace s run).within;
    stretches = stretches-run c.plan accepted.limits accepted.valid;
    skips = skips-run c.plan accepted.limits accepted.valid;
  };
  modes = record {
    silent = stopped_is_silent c.plan accepted.valid accepted.free accepted.own;
    resting = stopped_is_resting c.plan accepted.valid accepted.free accepted.own;
    release = λ stimuli trace s run m coil within is.
        stopped_holds_nothing c.plan accepted.valid accepted.free accepted.own stimuli trace s run m coil within
        (holder-run c.plan accepted.limits accepted.valid stimuli trace s run (owners.Mode m) coil is);
  };
  balls = balls-accounted_for c accepted;
  switches = record {
    levels = levels-run c.plan accepted.valid;
    changes = changes-run c.plan accepted.valid accepted.own accepted.bookings;
    moments = timed-run c.plan;
  };
}
