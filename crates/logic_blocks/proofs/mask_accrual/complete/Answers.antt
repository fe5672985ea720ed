use Rattle.std.proofs.{Common.arith, lemmas.Grind.common_steps}
use Rattle.device_objects.proofs.FlagLemmas.{flags-none}
use Rattle.logic_blocks.proofs.mask_accrual.complete.Goals as goal

pub returns-then-settings-2 : goal.returns-then-settings-2
returns-then-settings-2 c = grind (arith, common_steps, flags-none)
