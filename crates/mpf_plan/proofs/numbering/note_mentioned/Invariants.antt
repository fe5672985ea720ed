use Rattle.std.{proofs.Common.take, specs.List.flat_map}
use Rattle.plan_tables.specs.declared.table.Table.TheVariants.{Events}
use Rattle.mpf_plan.{specs.Drafting.Notes, proofs.Noted.use_in}
use Rattle.mpf_plan.proofs.numbering.note_mentioned.Given as goal

abbrev pub invariant-loop-event : goal.invariant-loop-event
invariant-loop-event l = Notes l.initial.names l.names (flat_map (use_in Events) (take l.event-index l.events))
