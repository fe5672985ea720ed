use Rattle.std.proofs.{Common.arith, lemmas.Grind.common_steps}
use Rattle.logic_blocks.proofs.accrual.are_all_done.Goals as goal

pub returns : goal.returns
returns c = grind (arith, common_steps)
