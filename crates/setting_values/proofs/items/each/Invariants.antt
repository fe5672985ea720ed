use Rattle.std.{proofs.Common.{take, Ok}, specs.{List.AllZip, Fn.FnReturnsAt}}
use Rattle.setting_values.proofs.items.each.Given as goal

abbrev pub invariant-loop-item : goal.invariant-loop-item
invariant-loop-item g l = AllZip (λ x y. FnReturnsAt g.F.Fn l.read x (Ok y)) (take l.item-index l.items) l.results.items
