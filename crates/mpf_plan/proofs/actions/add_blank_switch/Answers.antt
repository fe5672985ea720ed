use Rattle.std.proofs.Common.{refl}
use Rattle.mpf_plan.proofs.Entries.{blank_switch}
use Rattle.mpf_plan.proofs.actions.add_blank_switch.Goals as goal

pub returns-clause-entries : goal.returns-clause-entries
returns-clause-entries c =
    blank_switch c.args.switches.now.items c.push.new.self.items _ c.in_ok-push.ensures.items c.new.ensures.items
    c.new-2.ensures.items c.new-3.ensures.items refl refl
