-- A device that is told something answers no list that tells another device.
use Rattle.std.proofs.Common.{rules, ◌≡◌, ℕ, ◌<◌, inl, inr, true, Option, Some, None, List, [], ◌∷◌, length, refl, ap}
use Rattle.std.{proofs.{Common.{sym, ◌∙◌, subst}, lemmas.List.Elements.filter_passes}, specs.List.All}
use Rattle.std.proofs.lemmas.List.Elements.{All-append, All-cons, All-contains, All-head, All-nil, All-tail, All-weaker}
use Rattle.plan_tables.specs.BallRows.{actions_in, BookingsAreRight, BooksBalls, BooksRightly, IsPlain}
use Rattle.plan_tables.specs.PlanView.{PlanView, act_told, feeders_of, feeds, is_trough, list_of_row, row_at}
use Rattle.plan_tables.specs.{PlanView.row_numbers, declared.entries.{Action.Action, Owner.Owner}}
use Rattle.plan_tables.specs.declared.devices.{BallSettings.BallSettings, RowId.RowId, Settings.Settings}
use Rattle.plan_tables.specs.declared.devices.BallTarget.{BallTarget, TheVariants.{Playfield, Device}}
use Rattle.plan_tables.specs.declared.devices.Settings.TheVariants as kinds
use Rattle.plan_tables.specs.declared.devices.Telling.{Telling, TheVariants.{Arrived, Wanted}}
use Rattle.plan_tables.specs.declared.entries.Action.TheVariants.{Post, Pulse, Enable, Disable, Request, AddBalls}
use Rattle.plan_tables.specs.declared.entries.Action.TheVariants.{Change as ChangeVariable, Enter, Leave, Lose, Arrive}
use Rattle.device_objects.specs.declared.state.{World.World, BallState.BallState, DeviceState.DeviceState}
use Rattle.device_objects.specs.declared.device.Call.TheVariants as calls
use Rattle.device_objects.specs.declared.state.Eject.{Eject, TheVariants.{Idle, Pulsing, Away}}
use Rattle.device_objects.specs.{BallDevice.{begin, confirm, confirmation, end_eject}, DeviceStep.device_step}
use Rattle.device_objects.specs.BallDevice as lists
use Rattle.written_machine.specs.Machine.{Machine, all_do, call_device_by, call_row, device_at, do_action_by}
use Rattle.written_machine.specs.Machine.{do_answer_by, do_list_by, set_device, tell_nobody, told_device, world_of}
use Rattle.written_machine.proofs.{BallCalm.feeder, BallSteps.{nothing, requested-answer}}
use Rattle.written_machine.proofs.Feeding.{first_away-is, first_trough-is}
use Rattle.written_machine.proofs.BallSteps.{AreQuiet, Answer, arrives, begin-begun, enters, IsQuiet, leaves, loses}

-- the action tells no other device
abbrev IsUntold : Action → Type 0
IsUntold (Enter r e drain) = ⊥
IsUntold (Request n) = ⊥
IsUntold (AddBalls n) = ⊥
IsUntold _ = Unit {0}

plain-untold : (a : Action) → IsPlain a → IsUntold a
plain-untold x1 plain = search rules

trough-ball : (settings : Settings) → is_trough settings ≡ true → (d : BallSettings) × (settings ≡ kinds.BallDevice d)
trough-ball settings is = search rules

module _ (plan : PlanView) where
  -- the actions of a list of a row tell no other device
  abbrev AreUntold : RowId → ℕ → Type 0
  AreUntold r k = All IsUntold (actions_in plan r k)

  -- ---- whatever telling does, such lists do the same

  module _ (tell : Telling → Machine → Machine) where
    action-same : (owner : Owner) (a : Action) (s : Machine) → IsUntold a
        → do_action_by plan tell owner a s ≡ do_action_by plan tell_nobody owner a s
    action-same owner (Post e) s none = refl
    action-same owner (Pulse coil ms power) s none = refl
    action-same owner (Enable coil power) s none = refl
    action-same owner (Disable coil) s none = refl
    action-same owner (ChangeVariable v action n e) s none = refl
    action-same owner (Leave r) s none = refl
    action-same owner (Lose r) s none = refl
    action-same owner (Arrive r) s none = refl
    action-same owner _ s none = absurd none

    actions-same : (owner : Owner) (xs : List Action) → All IsUntold xs → (s : Machine)
        → all_do (do_action_by plan tell owner) xs s ≡ all_do (do_action_by plan tell_nobody owner) xs s
    actions-same owner [] all s = refl
    actions-same owner (a ∷ xs) all s =
        actions-same owner xs (All-tail IsUntold a xs all) (do_action_by plan tell owner a s)
        ∙ ap (λ (t : Machine). all_do (do_action_by plan tell_nobody owner) xs t)
        (action-same owner a s (All-head IsUntold a xs all))

    lists-same : (r : RowId) (ks : List ℕ) → All (AreUntold r) ks → (s : Machine)
        → do_answer_by plan tell r ks s ≡ do_answer_by plan tell_nobody r ks s
    lists-same r [] all s = refl
    lists-same r (k ∷ ks) all s =
        lists-same r ks (All-tail (AreUntold r) k ks all)
        (do_list_by plan tell (row_at plan r).owner (list_of_row plan r k) s)
        ∙ ap (λ (t : Machine). do_answer_by plan tell_nobody r ks t)
        (actions-same (row_at plan r).owner (actions_in plan r k) (All-head (AreUntold r) k ks all) s)

  -- ---- the lists of a ball device that is told something

  module _ (r : RowId) (books : BooksBalls r (actions_in plan r)) where
    quiet-plain : (k : ℕ) → IsQuiet k → All IsPlain (actions_in plan r k)
    quiet-plain k x1 = search rules

    quiet-untold : (k : ℕ) → IsQuiet k → AreUntold r k
    quiet-untold k quiet = All-weaker IsPlain IsUntold plain-untold (actions_in plan r k) (quiet-plain k quiet)

    quiets-untold : (ks : List ℕ) → AreQuiet ks → All (AreUntold r) ks
    quiets-untold [] quiet = All-nil (AreUntold r)
    quiets-untold (k ∷ ks) quiet = All-cons (AreUntold r) k ks (quiet-untold k quiet.0) (quiets-untold ks quiet.1)

    -- a list that has just one action
    one-untold : (k : ℕ) (a : Action) → actions_in plan r k ≡ a ∷ [] → IsUntold a → AreUntold r k
    one-untold k a is untold = subst (All IsUntold) (sym is) (All-cons IsUntold a [] untold (All-nil IsUntold))

    answer-untold : {b t : BallState} {ks : List ℕ} → Answer ⊥ b t ks → All (AreUntold r) ks
    answer-untold (nothing t ks balls away quiet) = quiets-untold ks quiet
    answer-untold (enters may t rest balls away quiet) = absurd may
    answer-untold (leaves t balls before after) =
        All-cons (AreUntold r) lists.exit_list [] (one-untold lists.exit_list (Leave r) books.exit tt)
        (All-nil (AreUntold r))
    answer-untold (loses t balls away) = All-cons (AreUntold r) lists.loss_list []
        (one-untold lists.loss_list (Lose r) books.loss tt) (All-nil (AreUntold r))
    answer-untold (arrives t rest balls before after quiet) =
        All-cons (AreUntold r) lists.arrival_list rest (one-untold lists.arrival_list (Arrive r) books.arrival tt)
        (quiets-untold rest quiet)

    confirmed-untold : (target : BallTarget) → All (AreUntold r) (confirmation target)
    confirmed-untold Playfield =
        All-cons (AreUntold r) lists.arrival_list (lists.success_list ∷ [])
        (one-untold lists.arrival_list (Arrive r) books.arrival tt)
        (quiets-untold (lists.success_list ∷ []) (inr (inl refl), tt))
    confirmed-untold (Device q) = quiets-untold (lists.success_list ∷ []) (inr (inl refl), tt)

    module _ (d : BallSettings) (now : ℕ) where
      confirm-untold : (eject : Eject) (b : BallState) → All (AreUntold r) (confirm d now eject b).1
      confirm-untold Idle b = All-nil (AreUntold r)
      confirm-untold (Pulsing a) b = All-nil (AreUntold r)
      confirm-untold (Away a) b =
          All-append (AreUntold r) (confirmation d.target) (begin d now (end_eject b)).1 (confirmed-untold d.target)
          (quiets-untold (begin d now (end_eject b)).1 (begin-begun d now (end_eject b)).quiet)

      step-untold : (telling : Telling) (b : BallState)
          → All (AreUntold r) (lists.ball_step d (calls.Act (act_told telling)) now b).1
      step-untold (Arrived target) b = confirm-untold b.eject b
      step-untold (Wanted n) b = answer-untold (requested-answer d ⊥ n now b)

      told-untold : (telling : Telling) (world : World) (state : DeviceState)
          → All (AreUntold r) (device_step (kinds.BallDevice d) (calls.Act (act_told telling)) now world state).1
      told-untold telling world state = search (rules, All-nil, step-untold)

  -- ---- the device that is told

  module _ (right : BookingsAreRight plan) where
    row-untold : (telling : Telling) (r : RowId) (s : Machine) (d : BallSettings) → r.0 < length plan.rows
        → (row_at plan r).settings ≡ kinds.BallDevice d
        → All (AreUntold r) (call_row plan (calls.Act (act_told telling)) r s).1
    row-untold telling r s d within is =
        let books : BooksBalls r (actions_in plan r) =
        subst (λ (settings : Settings). BooksRightly r settings (actions_in plan r)) is (right.rows r within) in
        subst (λ (settings : Settings). All (AreUntold r)
        (device_step settings (calls.Act (act_told telling)) s.moment (world_of s) (device_at s r)).1) (sym is)
        (told-untold r books d s.moment telling (world_of s) (device_at s r))

    device-untold : (telling : Telling) (r : RowId) (s : Machine) → told_device plan telling s ≡ Some r
        → All (AreUntold r) (call_row plan (calls.Act (act_told telling)) r s).1
    device-untold (Arrived target) r s is =
        let first = first_away-is plan target s r is in
        let feeding = All-contains (λ q. feeds target (row_at plan q).settings ≡ true) (feeders_of plan target) r
        (filter_passes (λ q. feeds target (row_at plan q).settings) (row_numbers plan)) first.membership in
        let of = feeder target (row_at plan r).settings feeding in
        row-untold (Arrived target) r s of.d first.there of.is
    device-untold (Wanted n) r s is =
        let first = first_trough-is plan r is in
        let of = trough-ball (row_at plan r).settings first.trough in
        row-untold (Wanted n) r s of.0 first.there of.1

    pub told-same : (telling : Telling) (r : RowId) (s : Machine) → told_device plan telling s ≡ Some r
        → (tell : Telling → Machine → Machine)
        → call_device_by plan tell (calls.Act (act_told telling)) r s
        ≡ call_device_by plan tell_nobody (calls.Act (act_told telling)) r s
    told-same telling r s is tell =
        let next = call_row plan (calls.Act (act_told telling)) r s in
        lists-same tell r next.1 (device-untold telling r s is) (set_device r next.0 s)
