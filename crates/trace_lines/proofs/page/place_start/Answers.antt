use Rattle.std.proofs.Common.{◌≡◌, length, take, arith, length-take-le}
use Rattle.std.proofs.lemmas.Simd.{take_more_put_chunk, length-put_chunk}
use Rattle.trace_lines.proofs.page.place_start.Goals as goal

pub returns : goal.returns
returns g c =
    let front = take g.row.N c.args.text.now in
    let long : length front ≡ g.row.N = length-take-le g.row.N c.args.text.now c.requires.long in
    record {
      text_is = take_more_put_chunk c.args.at c.args.bytes.now front _ (omega (arith, long))
          (omega (arith, long, c.requires.fits));
      size = length-put_chunk c.args.at c.args.bytes.now front;
    }
