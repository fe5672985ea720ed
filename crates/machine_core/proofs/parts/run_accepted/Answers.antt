use Rattle.std.proofs.Common.{rules, ap, ◌∙◌}
use Rattle.plan_tables.specs.PlanView.{PlanView, listeners_of, posts_of}
use Rattle.machine_core.proofs.Accepting.{line-room, told-room, playfield-room, playfield-switch, playfield-calls}
use Rattle.machine_core.proofs.Accepting.{posts-room, accepted-done}
use Rattle.machine_core.proofs.parts.run_accepted.Goals as goal

pub write-requires : goal.write-requires
write-requires g c = line-room c.args.change c.args.core.now c.requires.room

pub tell_listeners-requires-clause-room : goal.tell_listeners-requires-clause-room
tell_listeners-requires-clause-room g c =
    told-room c.args.change c.args.core.now c.requires.room c.write.new.self c.write.ensures c.listeners.result.now
    (c.listeners.ensures.listeners ∙ ap (λ (p : PlanView). listeners_of p c.args.change.switch) c.plan-plan.ensures)

pub confirm_on_playfield-requires-clause-calls : goal.confirm_on_playfield-requires-clause-calls
confirm_on_playfield-requires-clause-calls g c =
    playfield-calls c.args.change c.args.core.now c.requires.room c.write.new.self c.write.ensures
    c.listeners.result.now (c.listeners.ensures.listeners
    ∙ ap (λ (p : PlanView). listeners_of p c.args.change.switch) c.plan-plan.ensures)
    c.tell_listeners.new.core c.tell_listeners.ensures c.requires.calls

pub confirm_on_playfield-requires-clause-switch : goal.confirm_on_playfield-requires-clause-switch
confirm_on_playfield-requires-clause-switch g c = search (rules, playfield-switch)

pub confirm_on_playfield-requires-clause-room : goal.confirm_on_playfield-requires-clause-room
confirm_on_playfield-requires-clause-room g c =
    playfield-room c.args.change c.args.core.now c.requires.room c.write.new.self c.write.ensures c.listeners.result.now
    (c.listeners.ensures.listeners ∙ ap (λ (p : PlanView). listeners_of p c.args.change.switch) c.plan-plan.ensures)
    c.tell_listeners.new.core c.tell_listeners.ensures

pub post_each-requires : goal.post_each-requires
post_each-requires g c =
    posts-room c.args.change c.args.core.now c.requires.room c.write.new.self c.write.ensures c.listeners.result.now
    (c.listeners.ensures.listeners ∙ ap (λ (p : PlanView). listeners_of p c.args.change.switch) c.plan-plan.ensures)
    c.tell_listeners.new.core c.tell_listeners.ensures c.confirm_on_playfield.new.core c.confirm_on_playfield.ensures
    c.posts.result.now (c.posts.ensures.posts
    ∙ ap (λ (p : PlanView). posts_of p c.args.change.switch c.args.change.active) c.plan-plan.ensures)

pub returns : goal.returns
returns g c = search (rules, accepted-done)
