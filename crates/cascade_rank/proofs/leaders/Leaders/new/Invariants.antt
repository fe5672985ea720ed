use Rattle.std.proofs.Common.{◌≡◌, [], map, replicate}
use Rattle.cascade_rank.proofs.leaders.Leaders.new.Given as goal

abbrev pub invariant-loop : goal.invariant-loop
invariant-loop l = map (λ v. v.items) l.lists.items ≡ replicate l.counter []
