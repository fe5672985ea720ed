-- What leaves devices that can be called, and coils that can be asked.
use Rattle.std.proofs.{Common.{rules, ◌≡◌, ◌<◌, Bool, List, [], length, refl, ◌∙◌}, lemmas.List.Elements.All-get_or}
use Rattle.std.specs.List.{All}
use Rattle.plan_tables.specs.{PlanView.{PlanView, actions_at}, declared.entries.ListId.ListId}
use Rattle.plan_tables.specs.Valid.{HasEntries, IsActionWithin}
use Rattle.cascade_rank.specs.Cost.{Cost}
use Rattle.written_machine.specs.{Machine.Machine, Moves.{Move, do_move, Does}}
use Rattle.written_machine.proofs.Does.{does-keeps, has_devices-does, moment-does}
use Rattle.machine_core.specs.Core.{CoreView, CanCall}

module _ (plan : PlanView) where
  count-move : (x : Move) (s : Machine) → length (do_move plan x s).coils ≡ length s.coils
  count-move x1 s = search rules

  count-does : {may : Move → Type 0} {c : Cost} {s t : Machine} → Does plan may c s t → length t.coils ≡ length s.coils
  count-does {may} {c} {s} {t} d = does-keeps plan may (λ u. length u.coils ≡ length s.coils)
      (λ x u allowed h. count-move x u ∙ h) d refl

  -- the actions of an effect list are within the plan
  pub actions-within : HasEntries plan → (l : ListId) → l.0 < length plan.lists
      → All (IsActionWithin plan) (actions_at plan l)
  actions-within entries l there = All-get_or (All (IsActionWithin plan)) plan.lists l.0 [] there entries.lists

-- moves, whichever modes run then
pub can-does : {may : Move → Type 0} {c : Cost} (old : CoreView) (running : List Bool) (s : Machine)
    → Does old.plan may c old.machine s → CanCall old → CanCall (record old { running = running; machine = s })
can-does old running s d h = search (rules, has_devices-does, count-does, moment-does)
