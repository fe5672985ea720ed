use Rattle.std.{proofs.Common.subst, specs.{List.flat_map, Io.KnownBytes.{Appends, append_known}}}
use Rattle.machine_core.specs.Stimuli.{stimulus_view}
use Rattle.trace_lines.specs.LineText.{line_text}
use Rattle.pinball_shell.proofs.Printing.{step-played, step-halted}
use Rattle.pinball_shell.proofs.play.play_stimulus.Goals as goal

pub returns-then-is_served : goal.returns-then-is_served
returns-then-is_served g c =
    step-played c.requires.may.0 (stimulus_view c.args.stimulus) c.args.rig.now c.take-is_served.new.self
    c.requires.may.1 (append_known (g.W.Write.contents c.args.writer.now) c.args.page.now)
    (append_known (g.W.Write.contents c.put_trace.new.writer) c.put_trace.new.page) c.args.plan.now c.requires.plan
    (c.take-is_served.ensures.takes c.if-is_served.true c.requires.may.0 c.requires.may.1)
    (subst (λ ls. Appends (append_known (g.W.Write.contents c.args.writer.now) c.args.page.now)
    (append_known (g.W.Write.contents c.put_trace.new.writer) c.put_trace.new.page)
    (flat_map (line_text c.args.plan.now) ls)) c.trace.ensures.lines c.in_ok-put_trace.ensures)

pub returns-else-is_served : goal.returns-else-is_served
returns-else-is_served g c =
    step-halted c.requires.may.0 (stimulus_view c.args.stimulus) c.args.rig.now c.take-is_served.new.self
    c.requires.may.1 (append_known (g.W.Write.contents c.args.writer.now) c.args.page.now)
    (append_known (g.W.Write.contents c.put_trace.new.writer) c.put_trace.new.page) c.args.plan.now c.requires.plan
    (c.take-is_served.ensures.halts c.if-is_served.false c.requires.may.0 c.requires.may.1)
    (subst (λ ls. Appends (append_known (g.W.Write.contents c.args.writer.now) c.args.page.now)
    (append_known (g.W.Write.contents c.put_trace.new.writer) c.put_trace.new.page)
    (flat_map (line_text c.args.plan.now) ls)) c.trace.ensures.lines c.in_ok-put_trace.ensures)
