use Rattle.std.proofs.{Common.rules, lemmas.Result.IfOk-equal}
use Rattle.plan_parts.proofs.Lists.{with_last-push}
use Rattle.plan_parts.proofs.effects.post_in_next.Goals as goal

pub returns : goal.returns
returns c = search (rules, IfOk-equal, with_last-push)
