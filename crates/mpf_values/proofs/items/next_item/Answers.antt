use Rattle.std.proofs.Common.{rules, sym, ◌∙◌}
use Rattle.mpf_values.proofs.ListItems.{no_item, first_item, first_is_shorter}
use Rattle.mpf_values.proofs.items.next_item.Goals as goal

pub returns-then-is_empty-clause-items : goal.returns-then-is_empty-clause-items
returns-then-is_empty-clause-items c = no_item c.args.text.now c.behind_separators-rest.result.now
    c.behind_separators-rest.ensures.value (sym c.is_empty.ensures ∙ c.if-is_empty.true)

pub returns-clause-items : goal.returns-clause-items
returns-clause-items c = search (rules, first_item)

pub returns-clause-shorter : goal.returns-clause-shorter
returns-clause-shorter c = search (rules, first_is_shorter)
