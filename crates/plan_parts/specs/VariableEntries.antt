-- What the entries of variable players say.
use Rattle.mpf_sections.specs.Rows.{VariableItem}
use Rattle.plan_parts.specs.Effects.{Effect, changes}

abbrev pub item_change : VariableItem → Effect
item_change item = changes item.variable.text item.action item.number
