use Rattle.std.proofs.lemmas.Result.{IfOk-weaker}
use Rattle.cascade_rank.proofs.Walking.{part_is}
use Rattle.cascade_rank.proofs.walk.part_from.Goals as goal

pub returns : goal.returns
returns c =
    IfOk-weaker c.from_slice.result _ _ (λ part is. part_is c.args.path.now part.items c.args.event
    c.unwrap_or-place.result c.place_of.result c.place_of.ensures c.unwrap_or-place.ensures is)
    c.from_slice.ensures.items
