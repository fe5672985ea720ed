use Rattle.std.{proofs.Common.{take, filter, Ok}, specs.{List.AllZip, Fn.FnReturnsAt}}
use Rattle.setting_values.specs.ValueAnswers.{is_counted}
use Rattle.setting_values.proofs.items.each_counted.Given as goal

abbrev pub invariant-loop-node : goal.invariant-loop-node
invariant-loop-node g l = AllZip (λ x y. FnReturnsAt g.F.Fn l.read x (Ok y))
    (filter is_counted (take l.node-index l.nodes)) l.results.items
