use Rattle.std.proofs.Common.{rules}
use Rattle.setting_values.proofs.Finding.{not_here}
use Rattle.setting_values.proofs.fields.first_lacking.Goals as goal

pub loop-at-preserved : goal.loop-at-preserved
loop-at-preserved c = search (rules, not_here)
