use Rattle.std.proofs.Common.{◌≡◌, List, ℕ, length, true, false, rules, sym, subst, ap, arith}
use Rattle.std.specs.List.Sorted.{IsPartitionedBy, IsPartitionPoint}
use Rattle.std.proofs.lemmas.List.Sorted.{IsPartitionPoint-from_clause}
use Rattle.plan_tables.specs.declared.entries.SwitchId.{SwitchId}
use Rattle.switch_core.proofs.Waiting.{is_lower, waiting-parted, place-is}
use Rattle.switch_core.proofs.switches.place_of.Goals as goal

pub returns : goal.returns
returns c states is =
    let switch = c.args.switch in
    let k = c.partition_point.result in
    let parted = subst (IsPartitionedBy (is_lower switch)) (sym is) (waiting-parted switch states) in
    place-is switch states k (omega (arith, c.partition_point.ensures.bound, ap length is))
    (subst (λ (ds : List (ℕ × SwitchId)). IsPartitionPoint (λ d. is_lower switch d ≡ true)
    (λ d. is_lower switch d ≡ false) ds k) is
    (IsPartitionPoint-from_clause (is_lower switch) c.args.waiting.now k c.partition_point.ensures.partitioned parted
    (λ a r q k. search rules)))
