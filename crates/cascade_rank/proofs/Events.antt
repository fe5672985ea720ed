-- Events by their numbers, and the events of a plan.
use Rattle.std.proofs.Common.{◌≡◌, ℕ, ◌<◌, length, get_or, ap, arith}
use Rattle.std.proofs.lemmas.List.FromFn.{length-map-range_with_len, get_or-map-range_with_len}
use Rattle.plan_tables.specs.{PlanView.PlanView, declared.entries.EventId.EventId}
use Rattle.cascade_rank.specs.Events.{events_of, no_event}

-- the event of a number
abbrev pub event : ℕ → EventId
event n = record { 0 = n }

-- events of one number are one
pub same_event : (e f : EventId) → e.0 ≡ f.0 → e ≡ f
same_event e f h = ap event h

module _ (plan : PlanView) where
  pub length-events : length (events_of plan) ≡ length plan.events
  length-events = length-map-range_with_len event 0 (length plan.events)

  pub event_number : (n : ℕ) → n < length plan.events → get_or (events_of plan) n no_event ≡ event n
  event_number n l = get_or-map-range_with_len event 0 (length plan.events) n n no_event l (omega arith)
