use Rattle.std.proofs.Common.{ap₂, ◌∙◌, nat_le}
use Rattle.device_objects.proofs.FlagLemmas.{are_set-is}
use Rattle.device_objects.proofs.flags.are_set.Goals as goal

pub returns : goal.returns
returns c =
    ap₂ nat_le c.min.ensures c.trailing_ones.ensures ∙ are_set-is c.args.mask c.args.count c.ranges.mask.fits
