use Rattle.written_machine.proofs.Cascade.{verified-cascades_end, work-bounded}
use Rattle.written_machine.proofs.{Good.every_run_is_good, Levels.levels-run}
use Rattle.written_machine.proofs.law.accepted_is_good.Goals as goal

pub returns : goal.returns
returns c =
    record { good = every_run_is_good; cascades = verified-cascades_end; levels = levels-run; work = work-bounded }
