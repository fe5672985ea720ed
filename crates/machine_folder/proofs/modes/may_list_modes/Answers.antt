use Rattle.machine_folder.proofs.Joining.{by-word, by-escape}
use Rattle.machine_folder.proofs.modes.may_list_modes.Goals as goal

pub returns-then-is_some : goal.returns-then-is_some
returns-then-is_some c = by-word c.args.text.now c.find.result c.is_some.result c.find.ensures c.is_some.ensures
    c.if-is_some.true

pub returns-else-is_some : goal.returns-else-is_some
returns-else-is_some c =
    by-escape c.args.text.now c.find.result c.memchr.result c.is_some.result c.is_some-else-is_some.result
    c.find.ensures c.is_some.ensures c.if-is_some.false c.memchr.ensures c.is_some-else-is_some.ensures
