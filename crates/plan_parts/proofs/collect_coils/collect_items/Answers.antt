use Rattle.std.proofs.{Common.{rules, get_or}, lemmas.List.{drop_more, drop_all}}
use Rattle.plan_parts.proofs.Lists.{with_last-cons, with_last-nil}
use Rattle.plan_parts.proofs.collect_coils.collect_items.Goals as goal

pub loop-pair-preserved : goal.loop-pair-preserved
loop-pair-preserved c = search (rules, get_or, with_last-cons, drop_more)

pub returns : goal.returns
returns c = search (rules, drop_all, with_last-nil)
