use Rattle.std.proofs.Common.{ap, ◌∙◌, subst}
use Rattle.switch_core.specs.Switches.{IsComplete, next_due}
use Rattle.switch_core.proofs.{NextDue.{answer-least, answer-none}, Lists.answer-within}
use Rattle.switch_core.proofs.switches.Switches.due.Goals as goal

pub returns-clause-next : goal.returns-clause-next
returns-clause-next c = c.self.invariant.next_is ∙ ap next_due c.self.view_is

pub returns-clause-least : goal.returns-clause-least
returns-clause-least c = answer-least c.args.self.now c.self.inside.next (returns-clause-next c)

pub returns-clause-within : goal.returns-clause-within
returns-clause-within c = answer-within c.args.self.now c.self.inside.next
    (subst IsComplete c.self.view_is c.self.invariant.complete) (returns-clause-least c)

pub returns-clause-none : goal.returns-clause-none
returns-clause-none c = answer-none c.args.self.now c.self.inside.next (returns-clause-next c)
