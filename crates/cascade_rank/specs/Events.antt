-- The events of a plan, and what a list says of them.
use Rattle.std.specs.{Prelude.{ℕ, List, length, map, slice_index, slice_index_or}, List.range_with_len}
use Rattle.plan_tables.specs.{PlanView.PlanView, declared.entries.EventId.EventId}

-- the events of a plan, by number
abbrev pub events_of : PlanView → List EventId
events_of plan = map (λ n. record { 0 = n }) (range_with_len 0 (length plan.events))

-- in place of an event if there is none
abbrev pub no_event : EventId
no_event = record { 0 = 0 }

-- the event at a place of a list
abbrev pub nth_event : List EventId → ℕ → EventId
nth_event events i = slice_index_or events i no_event

-- the weight of an event, where weights are in the order of the events' numbers
abbrev pub weight_of : List ℕ → EventId → ℕ
weight_of weights e = slice_index weights e.0
