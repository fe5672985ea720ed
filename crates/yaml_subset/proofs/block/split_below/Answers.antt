use Rattle.yaml_subset.{specs.Reading.hangs, proofs.Groups.chunks-split}
use Rattle.yaml_subset.proofs.block.split_below.Goals as goal

pub returns-clause-parts : goal.returns-clause-parts
returns-clause-parts c = chunks-split (hangs c.args.entry c.args.indent) c.hanging_len.result c.args.lines.now
    c.split_at.result.0.now c.split_at.result.1.now c.hanging_len.ensures.value c.split_at.ensures.front
    c.split_at.ensures.back
