use Rattle.std.proofs.{Common.arith, lemmas.List.{length-map, map_push}}
use Rattle.config_checker.specs.CertificateRead.{line_view, lines_view}
use Rattle.config_checker.proofs.CertificateLines.{read_none, read_more, read_all}
use Rattle.config_checker.proofs.certificate_reader.front.Goals as goal

pub loop-line-init : goal.loop-line-init
loop-line-init c = rw c.new-front_lines.ensures.items (read_none c.args.word.now c.args.text.now)

pub loop-line-preserved : goal.loop-line-preserved
loop-line-preserved c =
    rw (c.in_ok-push.ensures.items, map_push line_view c.loop-line.front_lines.items c.in-Some.line)
    (read_more c.args.word.now c.args.text.now c.loop-line.rest.now c.in-Some.after.now
    (lines_view c.loop-line.front_lines.items) (line_view c.in-Some.line) c.loop-line.invariant
    c.in-Some.ensures.line c.in-Some.ensures.shorter)

pub returns-clause-lines : goal.returns-clause-lines
returns-clause-lines c = read_all c.args.word.now c.args.text.now c.loop-line.rest.now
    (lines_view c.loop-line.front_lines.items) c.loop-line.invariant (rw c.in_default.is at c.next_line.ensures.line)

pub returns-clause-shorter : goal.returns-clause-shorter
returns-clause-shorter c = let few = c.loop-line.invariant.shorter
    in omega (arith, few, length-map c.loop-line.front_lines.items line_view)
