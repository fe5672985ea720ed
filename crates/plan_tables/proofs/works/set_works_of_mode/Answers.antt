use Rattle.plan_tables.proofs.Overlaid.{mode_works}
use Rattle.plan_tables.proofs.works.set_works_of_mode.Goals as goal

pub returns : goal.returns
returns c =
    mode_works c.args.number c.args.events c.args.works.now c.set_work.new.works c.set_work-2.new.works
    c.set_work-3.new.works c.set_work-4.new.works c.set_work-5.new.works
    c.set_work.ensures c.set_work-2.ensures c.set_work-3.ensures c.set_work-4.ensures c.set_work-5.ensures
