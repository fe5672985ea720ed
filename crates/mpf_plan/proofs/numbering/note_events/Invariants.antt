use Rattle.std.{proofs.Common.{map, take}, specs.List.flat_map}
use Rattle.plan_tables.specs.declared.table.Table.TheVariants.{Events}
use Rattle.mpf_plan.{specs.Drafting.{IsNumbered, Notes}, proofs.Noted.{event_in, use_in}}
use Rattle.mpf_plan.proofs.numbering.note_events.Given as goal

abbrev pub invariant-loop-event : goal.invariant-loop-event
invariant-loop-event l = record {
  names : Notes l.initial.names l.names (flat_map (use_in Events) (take l.event-index l.events));
  numbers : IsNumbered l.initial.names (flat_map (use_in Events) (take l.event-index l.events))
      (λ ns. map (event_in ns) (take l.event-index l.events)) l.numbers.items;
}
