use Rattle.std.proofs.Common.{◌≡◌, suc, [], ◌∷◌, ◌++◌, sym, ap, ◌∙◌, add-one, arith}
use Rattle.std.specs.List.{flat_map, range_with_len}
use Rattle.device_objects.{specs.Bank.of_hit_in, proofs.Replicas.flat_map_range-suc}
use Rattle.device_objects.proofs.bank.of_hit.Goals as goal

pub loop-state-preserved : goal.loop-state-preserved
loop-state-preserved c =
    let in_state = of_hit_in c.args.bank.now c.args.shot in
    let state = c.loop-state.state in
    let more = ap (λ n. flat_map in_state (range_with_len 0 n)) (add-one state)
    ∙ flat_map_range-suc in_state 0 state state (omega arith) in
    record {
      answers = c.with_hit_in-all.ensures.answers ∙ ap (λ xs. xs ++ in_state state) c.loop-state.invariant.answers
          ∙ ap (λ xs. [] ∷ xs) (sym more);
      count = omega arith;
    }

pub returns : goal.returns
returns c =
    let all : c.loop-state.state ≡ suc c.args.bank.now.last_state = omega arith in
    c.loop-state.invariant.answers
    ∙ ap (λ n. [] ∷ flat_map (of_hit_in c.args.bank.now c.args.shot) (range_with_len 0 n)) all
