use Rattle.std.proofs.Common.{◌≡◌, ◌-◌, ◌<◌, ℤ, length, get_or, sym, ap, ◌∙◌, arith, w64}
use Rattle.std.proofs.lemmas.{Int.to_z-of_z, List.get_or_default}
use Rattle.player_game.{specs.Players.{PlayersView, new_player, with_value}, proofs.Slots.slot_changed}
use Rattle.player_game.proofs.players.Players.put.Goals as goal

pub returns-clause-state : goal.returns-clause-state
returns-clause-state c =
    let plan = c.self.inside.plan.now in
    let slots = c.self.inside.slots.items in
    let current = c.self.inside.current in
    let old = c.index_mut-slot.result.now in
    let change = with_value c.args.variable c.args.value in
    let turn : current ≡ c.args.self.now.state.current = ap (λ (s : PlayersView). s.state.current) c.self.view_is in
    let within : current - 1 < length slots =
    omega (arith, turn, c.requires.some, c.self.invariant.turn, c.self.invariant.within) in
    let was : get_or slots (current - 1) (new_player plan) ≡ old =
    sym (c.index_mut-slot.ensures.value ∙ get_or_default slots (current - 1) old (new_player plan) within) in
    let is : c.set.new.self ≡ change old = c.set.ensures
    ∙ ap (λ (z : ℤ). with_value c.args.variable z old) (to_z-of_z w64 c.args.value c.ranges.value) in
    rw (← c.self.view_is, is) (slot_changed plan change slots c.self.inside.count current old
    (omega (arith, turn, c.requires.some)) c.self.invariant.turn c.self.invariant.within was)
