-- What planning gives for a configuration as the code has it.
use Rattle.std.specs.Prelude.{Result}
use Rattle.mpf_config.specs.{declared.config.Config.Config, View.rows_view}
use Rattle.plan_tables.specs.{declared.table.Table.Table, PlanView.PlanView}
use Rattle.mpf_plan.specs.{declared.fault.PlanFault.PlanFault, PlanOf.{plan_of, plan_at, IsExceeded, GivesPlan}}

-- the answer is what planning the configuration gives, unless memory ran out
abbrev pub PlansConfig : Config → Result PlanView PlanFault → Type 0
PlansConfig config answer = GivesPlan answer (plan_at (rows_view config))

-- the plan of the configuration's rows
abbrev pub plan_of_config : Config → PlanView
plan_of_config config = plan_of (rows_view config)

-- the table is the first of this plan that is above its limit
abbrev pub IsExceededBy : Config → Table → Type 0
IsExceededBy config t = IsExceeded (rows_view config) t
