use Rattle.std.proofs.Common.{◌∙◌}
use Rattle.coil_driver.proofs.Serving.{sent-more}
use Rattle.coil_driver.proofs.driver.Driver.serve.Goals as goal

pub loop-place-preserved : goal.loop-place-preserved
loop-place-preserved g c = (
  sent-more c.args.lines.now c.loop-place.place _ c.args.self.now c.loop-place.self c.serve_line.new.self
      c.loop-place-test.true c.loop-place.invariant.0 (c.in-Ok.ensures.serves),
  c.in-Ok.ensures.coils ∙ c.loop-place.invariant.1,
)
