use Rattle.std.proofs.Common.{◌≡◌, length}
use Rattle.plan_tables.{specs.PlanFields.lists_view, proofs.ListsBy.BindingsListed}
use Rattle.plan_tables.proofs.placing.bindings_by_mode.Given as goal

abbrev pub invariant-loop-place : goal.invariant-loop-place
invariant-loop-place l = record {
  count : length l.lists.items ≡ l.modes;
  listed : BindingsListed l.bindings l.place (lists_view l.lists.items);
}
