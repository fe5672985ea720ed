use Rattle.yaml_subset.proofs.Columns.{inner_is}
use Rattle.yaml_subset.proofs.block.inner.Goals as goal

pub returns : goal.returns
returns c = inner_is c.args.line.now c.args.after.now c.spaces_len.result c.requires c.spaces_len.ensures.value
