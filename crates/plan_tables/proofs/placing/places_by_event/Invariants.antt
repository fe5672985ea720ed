use Rattle.std.proofs.Common.{◌≡◌, length, map, take}
use Rattle.plan_tables.proofs.Placed.{ArePlaced}
use Rattle.plan_tables.proofs.placing.places_by_event.Given as goal

abbrev pub invariant-loop-place : goal.invariant-loop-place
invariant-loop-place l = record {
  count : length l.places.items ≡ l.events;
  placed : ArePlaced (take l.place l.bindings) (map (λ v. v.items) l.places.items);
}
