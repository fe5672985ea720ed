use Rattle.std.proofs.{Common.{◌≡◌, ◌<◌, ℤ, Some, length, w64, ap, sym, ◌∙◌, subst}, lemmas.Int.to_z-of_z}
use Rattle.player_game.specs.Players.{changed_to}
use Rattle.machine_core.{specs.Core.CoreView, proofs.Room.changed-room}
use Rattle.machine_core.proofs.core_state.Core.change_variable.Goals as goal

pub write-requires : goal.write-requires
write-requires g c =
    let a = c.args in
    let players = c.self.inside.players in
    let is : Some c.in-Some.value ≡ changed_to players.plan a.variable a.action a.number players.state =
    c.in-Some.ensures.value ∙ ap (λ (n : ℤ). changed_to players.plan a.variable a.action n players.state)
    (to_z-of_z w64 a.number c.ranges.number) in
    (changed-room _ a.self.now c.self.view_is players.plan c.self.invariant.players_are a.owner a.variable a.action
    a.number a.event c.in-Some.value is c.requires.room).0

pub post-requires : goal.post-requires
post-requires g c =
    let a = c.args in
    let players = c.self.inside.players in
    let is : Some c.in-Some.value ≡ changed_to players.plan a.variable a.action a.number players.state =
    c.in-Some.ensures.value ∙ ap (λ (n : ℤ). changed_to players.plan a.variable a.action n players.state)
    (to_z-of_z w64 a.number c.ranges.number) in
    subst (λ (v : CoreView). length v.machine.waiting < v.room) (sym c.write.ensures)
    (changed-room _ a.self.now c.self.view_is players.plan c.self.invariant.players_are a.owner a.variable a.action
    a.number a.event c.in-Some.value is c.requires.room).1
