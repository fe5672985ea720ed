use Rattle.cascade_rank.proofs.Within.{listeners-within}
use Rattle.cascade_rank.proofs.stimuli.measure_acceptance.Goals as goal

pub measure_listeners-acts-requires : goal.measure_listeners-acts-requires
measure_listeners-acts-requires g c = listeners-within c.args.plan.now c.listeners.ensures.valid.entries c.args.switch
    c.listeners.result.now c.listeners.ensures.listeners
