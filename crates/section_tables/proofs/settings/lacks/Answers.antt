use Rattle.std.proofs.Common.{rules}
use Rattle.section_tables.proofs.settings.lacks.Goals as goal

pub returns-in-One-One : goal.returns-in-One-One
returns-in-One-One c = search rules

pub returns-in_default : goal.returns-in_default
returns-in_default c = search rules

pub returns-in_default-2 : goal.returns-in_default-2
returns-in_default-2 c = search rules
