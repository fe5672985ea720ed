use Rattle.std.proofs.{Common.{◌-◌, length, arith}, lemmas.List.take_rest}
use Rattle.trace_lines.proofs.Pages.{placed-ends}
use Rattle.trace_lines.proofs.page.place_ends.Goals as goal

pub returns : goal.returns
returns g c =
    let text = c.args.text.now in
    placed-ends c.args.at g.row.N text c.args.bytes.now c.place_start.new.bytes c.place_start-2.new.bytes
    (omega (arith, c.requires.fits)) c.requires.long c.requires.short c.place_start.ensures
    (rw (take_rest text (length text - g.row.N)) at c.place_start-2.ensures)
