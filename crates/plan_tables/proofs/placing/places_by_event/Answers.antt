use Rattle.std.proofs.{Common.rules, lemmas.List.{length-set, take_all}}
use Rattle.plan_tables.proofs.Placed.{placed_none, placed_pushed, placed_all}
use Rattle.plan_tables.proofs.placing.places_by_event.Goals as goal

pub loop-place-init : goal.loop-place-init
loop-place-init c =
    record {
      count = c.in_ok-places.ensures.0;
      placed = placed_none c.in_ok-places.places.items c.in_ok-places.ensures.1;
    }

pub loop-place-preserved : goal.loop-place-preserved
loop-place-preserved c = search (rules, length-set, placed_pushed)

pub returns : goal.returns
returns c plan long same = search (rules, take_all, placed_all)
