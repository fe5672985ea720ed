use Rattle.coil_guard.proofs.BoardLaws.{memory_keeps_latest, memory_tells_all}
use Rattle.coil_guard.proofs.law.memory_board_keeps_latest.Goals as goal

pub returns-clause-keeps : goal.returns-clause-keeps
returns-clause-keeps c = memory_keeps_latest

pub returns-clause-tells : goal.returns-clause-tells
returns-clause-tells c = memory_tells_all
