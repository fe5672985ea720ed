use Rattle.coil_guard.proofs.BoardLaws.{fuse_faults_from_kth}
use Rattle.coil_guard.proofs.law.fuse_board_faults_from_kth.Goals as goal

pub returns : goal.returns
returns c = fuse_faults_from_kth
