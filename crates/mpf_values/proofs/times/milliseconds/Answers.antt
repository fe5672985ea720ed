use Rattle.std.proofs.Common.{rules}
use Rattle.mpf_values.specs.Reading.{time_at}
use Rattle.mpf_values.proofs.times.milliseconds.Goals as goal

pub returns-in_err-number : goal.returns-in_err-number
unfolding time_at
returns-in_err-number c = search rules

pub returns-in_err-unit : goal.returns-in_err-unit
unfolding time_at
returns-in_err-unit c = search rules

pub returns-in_err-product : goal.returns-in_err-product
unfolding time_at
returns-in_err-product c = search rules

pub returns-then-product-ne0 : goal.returns-then-product-ne0
unfolding time_at
returns-then-product-ne0 c = search rules

pub returns : goal.returns
unfolding time_at
returns c = search rules
