use Rattle.std.proofs.Common.{codes, refl}
use Rattle.trace_lines.specs.LineText.{balls_text}
use Rattle.trace_lines.proofs.trace.put_tail.Goals as goal
use Rattle.yaml_bytes.proofs.Writing.{last_piece}

pub returns-in_ok-put-in-Balls : goal.returns-in_ok-put-in-Balls
returns-in_ok-put-in-Balls g c =
    rw c.in-Balls.is
    (last_piece c.put_balls.result _ _ _ (codes " balls ") (balls_text c.in-Balls.counts) _ refl
    c.in_ok-put-in-Balls.ensures c.put_balls.ensures)
