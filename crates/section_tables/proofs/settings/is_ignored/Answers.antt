use Rattle.std.proofs.Common.{rules}
use Rattle.section_tables.specs.Keys.{is_ignored}
use Rattle.section_tables.proofs.settings.is_ignored.Goals as goal

pub returns : goal.returns
unfolding is_ignored
returns c = search rules
