-- What a change of a slot is for the players.
use Rattle.std.proofs.Common.{◌≡◌, ℕ, ◌-◌, ◌<◌, ◌≤◌, List, length, take, get_or, slice_set, sym, ap, ◌∙◌, arith}
use Rattle.std.proofs.{Math.Seq.take-set-lt, lemmas.List.get_or-take}
use Rattle.plan_tables.specs.PlanView.{PlanView}
use Rattle.player_game.specs.{Players.{PlayerState, new_player, with_current}, Kept.players_view}

-- the slot of the current player changes, and so does the player
pub slot_changed : (plan : PlanView) (change : PlayerState → PlayerState) (slots : List PlayerState) (count current : ℕ)
    (old : PlayerState)
    → 0 < current → current ≤ count → count ≤ length slots → get_or slots (current - 1) (new_player plan) ≡ old
    → players_view plan (slice_set slots (current - 1) (change old)) count current
    ≡ record { plan = plan; state = with_current plan change (players_view plan slots count current).state }
slot_changed plan change slots count current old some within fits is =
    let before : current - 1 < count = omega arith in
    let there : get_or (take count slots) (current - 1) (new_player plan) ≡ old =
    get_or-take count slots (current - 1) (new_player plan) before ∙ is in
    ap (λ (ps : List PlayerState). record { plan = plan; state = record { players = ps; current = current } })
    (take-set-lt count slots (current - 1) (change old) before
    ∙ ap (λ (p : PlayerState). slice_set (take count slots) (current - 1) (change p)) (sym there))
