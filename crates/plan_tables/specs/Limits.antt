-- How many entries each table of a plan may have.
use Rattle.std.specs.Prelude.{ℕ, ◌<◌, ◌≤◌, List, [], ◌∷◌, Option, length, map, nat_lt, find, codes}
use Rattle.plan_tables.specs.{declared.table.Table.Table, PlanView.PlanView}
use Rattle.plan_tables.specs.declared.table.Table.TheVariants.{Events, Bindings, Switches, Coils, Variables, Rows}

abbrev pub entry_count : PlanView → Table → ℕ
entry_count plan Events = length plan.events
entry_count plan Bindings = length plan.bindings
entry_count plan Switches = length plan.switches
entry_count plan Coils = length plan.coils
entry_count plan Variables = length plan.variables
entry_count plan Rows = length plan.rows

-- the names of a table, if its entries have names
abbrev pub entry_names : PlanView → Table → List (List ℕ)
entry_names plan Events = plan.events
entry_names plan Bindings = []
entry_names plan Switches = map (λ s. s.name) plan.switches
entry_names plan Coils = map (λ c. c.name) plan.coils
entry_names plan Variables = plan.variables
entry_names plan Rows = []

abbrev pub limit_of : Table → ℕ
limit_of Events = 4096
limit_of Bindings = 16384
limit_of Switches = 256
limit_of Coils = 256
limit_of Variables = 256
limit_of Rows = 1024

-- the name by which a table is reported
abbrev pub table_name : Table → List ℕ
table_name Events = codes "events"
table_name Bindings = codes "bindings"
table_name Switches = codes "switches"
table_name Coils = codes "coils"
table_name Variables = codes "variables"
table_name Rows = codes "rows"

-- the tables in the order in which they are judged
abbrev pub tables_in_order : List Table
tables_in_order = Events ∷ Bindings ∷ Switches ∷ Coils ∷ Variables ∷ Rows ∷ []

-- a table's place in that order
abbrev pub order_of : Table → ℕ
order_of Events = 0
order_of Bindings = 1
order_of Switches = 2
order_of Coils = 3
order_of Variables = 4
order_of Rows = 5

-- the first table that is above its limit, if there is one
abbrev pub first_above : PlanView → Option Table
first_above plan = find (λ t. nat_lt (limit_of t) (entry_count plan t)) tables_in_order

-- the table is the first that is above its limit
pub record IsFirstAbove (plan : PlanView) (t : Table) : Type 0 where
  pub above : limit_of t < entry_count plan t
  pub before : (u : Table) → order_of u < order_of t → entry_count plan u ≤ limit_of u
