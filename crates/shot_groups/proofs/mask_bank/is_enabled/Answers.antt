use Rattle.std.proofs.Common.{Some, sym, ap, ◌∙◌}
use Rattle.device_objects.proofs.FlagLemmas.{flags-get}
use Rattle.shot_groups.proofs.mask_bank.is_enabled.Goals as goal

pub returns : goal.returns
returns c = flags-get c.args.enabled c.args.shot c.requires ∙ ap Some (sym c.is_set.ensures)
