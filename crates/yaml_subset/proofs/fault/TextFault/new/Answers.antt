use Rattle.std.proofs.Common.{refl}
use Rattle.yaml_subset.proofs.fault.TextFault.new.Goals as goal

pub returns : goal.returns
returns c = refl
