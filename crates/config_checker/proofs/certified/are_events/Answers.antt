use Rattle.std.proofs.Common.{rules, below_more}
use Rattle.config_checker.proofs.Names.{same_names-count, same_names-other, same_names-all, length-names_of}
use Rattle.config_checker.proofs.Names.{place-other, place-same}
use Rattle.config_checker.proofs.certified.are_events.Goals as goal

pub returns-then-lines-event_count : goal.returns-then-lines-event_count
returns-then-lines-event_count c = search (rules, length-names_of, same_names-count)

pub returns-then-ne : goal.returns-then-ne
returns-then-ne c = search (rules, same_names-other, place-other)

pub loop-number-preserved : goal.loop-number-preserved
loop-number-preserved c = search (rules, below_more, place-same)

pub returns : goal.returns
returns c = search (rules, length-names_of, same_names-all)
