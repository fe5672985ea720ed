-- No event of a valid plan costs 2^73 or more, if each weighs less than 2^32.
use Rattle.std.proofs.Common.{rules, ℕ, ◌+◌, ◌*◌, ◌^◌, ◌<◌, ◌≤◌, ◌==◌, Bool, true, false, if◌then◌else◌, List, [], ◌∷◌}
use Rattle.std.proofs.{Common.{length, get_or, Option, Some, None, arith}, Math.Nat.mul-le-mul_right}
use Rattle.std.specs.{Prelude.IfSome, List.{All, filter, list_any}}
use Rattle.std.proofs.lemmas.List.Elements.{All-head, All-tail, All-weaker}
use Rattle.std.proofs.lemmas.List.{FromFn.length-map-range_with_len, Sums.sum_by-le}
use Rattle.plan_tables.specs.PlanView.{PlanView, act_told, actions_at, actions_of, bound_to, coil_numbers, feeders_of}
use Rattle.plan_tables.specs.PlanView.{first_trough, game_event, is_enable_of, is_multiball, is_owner, list_of_row}
use Rattle.plan_tables.specs.PlanView.{mode_event, multiball_rows, row_at, row_numbers, rows_of, save_rows, work_of}
use Rattle.plan_tables.specs.declared.entries.Action.{Action, TheVariants.{Post, Change, Enter, Request, AddBalls}}
use Rattle.plan_tables.specs.declared.entries.{Binding.Binding, CoilId.CoilId, ListId.ListId, Work.Work}
use Rattle.plan_tables.specs.{declared.entries.{EventId.EventId, GameRules.GameRules}, Valid.{IsValid, IsGameWithin}}
use Rattle.plan_tables.specs.declared.entries.GameEvent.{GameEvent, TheVariants.BallDrain}
use Rattle.plan_tables.specs.declared.entries.ModeEvent.TheVariants.{WillStart, Started, Stopping}
use Rattle.plan_tables.specs.declared.entries.Target.{Target, TheVariants.{Run, Start, Stop, Act}}
use Rattle.plan_tables.specs.declared.entries.Work.TheVariants as works
use Rattle.plan_tables.specs.declared.entries.Owner.TheVariants as owners
use Rattle.plan_tables.specs.declared.devices.{Act.TheVariants.{Save, End}, RowId.RowId}
use Rattle.plan_tables.specs.declared.devices.BallTarget.{BallTarget, TheVariants.Device}
use Rattle.plan_tables.specs.declared.devices.Telling.{Telling, TheVariants.{Arrived, Wanted}}
use Rattle.player_game.specs.{Players.most_players, Choices.{asks_for_ball, choices, is_drain, tells_scores}}
use Rattle.device_objects.{specs.{declared.device.Call.Call, DeviceStep.outcomes}, proofs.Lawful.kinds_are_lawful}
use Rattle.device_objects.specs.declared.device.Call.TheVariants as calls
use Rattle.cascade_rank.specs.Cost.{Cost, Lines, Greater, price, each_of, dearest_of, cost_of_action_by}
use Rattle.cascade_rank.specs.Cost.{cost_of_answer_by, cost_of_arrival, cost_of_binding, cost_of_call, cost_of_call_by}
use Rattle.cascade_rank.specs.Cost.{cost_of_choice, cost_of_drain, cost_of_drained_ball, cost_of_event, cost_of_game}
use Rattle.cascade_rank.specs.Cost.{cost_of_list_by, cost_of_nobody, cost_of_post, cost_of_releases, cost_of_request}
use Rattle.cascade_rank.specs.Cost.{cost_of_scores, cost_of_starts, cost_of_stops, cost_of_target, cost_of_telling}
use Rattle.cascade_rank.specs.Cost.{cost_of_told, cost_of_trough, cost_of_work, cost_if_led, led_by}
use Rattle.cascade_rank.proofs.{Games.choices-few, Prices.price-each_sum, Rows.{length-rows, passing-few}}
use Rattle.cascade_rank.proofs.Limits.{actions-few, bindings-few, coils-few, rows-few}

-- ---- prices

module _ (w : EventId → ℕ) (light : (e : EventId) → w e < 2 ^ 32) where
  -- at most n, each of which costs at most k
  each-few : {X : Type 0} (f : X → Cost) (n k : ℕ) (xs : List X) → length xs ≤ n → All (λ x. price w (f x) ≤ k) xs
      → price w (each_of f xs) ≤ n * k
  each-few f n k xs few all =
      omega (
        arith,
        price-each_sum 0 w f xs,
        sum_by-le (λ x. price w (f x)) k xs all,
        mul-le-mul_right {m = length xs} {n = n} k few,
      )

  dearest-small : {X : Type 0} (f : X → Cost) (k : ℕ) (xs : List X) → All (λ x. price w (f x) ≤ k) xs
      → price w (dearest_of f xs) ≤ k
  dearest-small f k [] all = omega arith
  dearest-small f k (x ∷ xs) all =
      omega (
        arith,
        dearest-small f k xs (All-tail (λ y. price w (f y) ≤ k) x xs all),
        All-head (λ y. price w (f y) ≤ k) x xs all,
      )

  module _ (plan : PlanView) (valid : IsValid plan) where
    drain-small : (drain : Bool) → price w (cost_of_drain plan drain) ≤ 2 ^ 32
    drain-small true = omega (arith, light (game_event plan BallDrain))
    drain-small false = omega arith

    -- where telling a device costs at most this
    module _ (tell : Telling → Cost) (most : ℕ) (told : (telling : Telling) → price w (tell telling) ≤ most) where
      action-small : (a : Action) → price w (cost_of_action_by plan tell a) ≤ 2 ^ 33 + most
      action-small (Post e) = omega (arith, light e)
      action-small (Change v action n e) = omega (arith, light e)
      action-small (Enter r e drain) = omega (arith, light e, drain-small drain, told (Arrived (Device r)))
      action-small (Request n) = omega (arith, told (Wanted n))
      action-small (AddBalls n) = omega (arith, told (Wanted n))
      action-small _ = omega arith

      list-small : (l : ListId) → price w (cost_of_list_by plan tell l) ≤ 1024 * (2 ^ 33 + most)
      list-small l = each-few (cost_of_action_by plan tell) 1024 (2 ^ 33 + most) (actions_at plan l)
          (actions-few plan valid l) (λ i a h. action-small _)

      answer-small : (r : RowId) (lists : List ℕ) → length lists ≤ 4
          → price w (cost_of_answer_by plan tell r lists) ≤ 4096 * (2 ^ 33 + most)
      answer-small r lists few =
          let each = each-few (λ k. cost_of_list_by plan tell (list_of_row plan r k)) 4 (1024 * (2 ^ 33 + most)) lists
          few (λ i k h. list-small _) in
          omega (arith, each)

      call-small : (r : RowId) (call : Call) → price w (cost_of_call_by plan tell r call) ≤ 4096 * (2 ^ 33 + most)
      call-small r call =
          let dearest = dearest-small (cost_of_answer_by plan tell r) (4096 * (2 ^ 33 + most))
          (outcomes (row_at plan r).settings call)
          (All-weaker (λ lists. length lists ≤ 4)
          (λ lists. price w (cost_of_answer_by plan tell r lists) ≤ 4096 * (2 ^ 33 + most))
          (λ lists few. answer-small r lists few) (outcomes (row_at plan r).settings call)
          ((kinds_are_lawful (row_at plan r).settings).short call)) in
          omega (arith, dearest)

    told-small : (telling : Telling) (r : RowId) → price w (cost_of_told plan telling r) ≤ 2 ^ 45
    told-small telling r =
        omega (arith, call-small cost_of_nobody 0 (λ t. omega arith) r (calls.Act (act_told telling)))

    arrival-small : (target : BallTarget) → price w (cost_of_arrival plan target) ≤ 2 ^ 45
    arrival-small target = dearest-small (cost_of_told plan (Arrived target)) (2 ^ 45) (feeders_of plan target)
        (λ i r h. told-small (Arrived target) _)

    trough-small : (n : ℕ) (o : Option RowId) → price w (cost_of_trough plan n o) ≤ 2 ^ 45
    trough-small n None = omega arith
    trough-small n (Some r) = told-small (Wanted n) r

    telling-small : (telling : Telling) → price w (cost_of_telling plan telling) ≤ 2 ^ 45
    telling-small (Arrived target) = arrival-small target
    telling-small (Wanted n) = trough-small n (first_trough plan)

    device-small : (r : RowId) (call : Call) → price w (cost_of_call plan r call) ≤ 2 ^ 58
    device-small r call = omega (arith, call-small (cost_of_telling plan) (2 ^ 45) telling-small r call)

    target-small : (target : Target) → price w (cost_of_target plan target) ≤ 2 ^ 58
    target-small (Run l) = omega (arith, list-small (cost_of_telling plan) (2 ^ 45) telling-small l)
    target-small (Start m) = omega (arith, light (mode_event plan m WillStart))
    target-small (Stop m) = omega (arith, light (mode_event plan m Stopping))
    target-small (Act r act) = device-small r (calls.Act act)

    binding-small : (b : Binding) → price w (cost_of_binding plan b) ≤ 2 ^ 58
    binding-small b = omega (arith, target-small b.target)

    bound-small : (e : EventId) → price w (each_of (cost_of_binding plan) (bound_to plan e)) ≤ 2 ^ 72
    bound-small e =
        let few = passing-few (λ b. b.event.0 == e.0) plan.bindings 16384 (bindings-few plan valid) in
        omega (
          arith,
          each-few (cost_of_binding plan) 16384 (2 ^ 58) (bound_to plan e) few
              (λ i b h. binding-small (get_or (bound_to plan e) i b)),
        )

    rows_passing-few : (p : RowId → Bool) → length (filter p (row_numbers plan)) ≤ 1024
    rows_passing-few p = passing-few p (row_numbers plan) 1024 (omega (arith, length-rows plan, rows-few plan valid))

    starts-small : (work : Work) → price w (cost_of_starts plan work) ≤ 2 ^ 68
    starts-small (works.Mode m Started) =
        let few = rows_passing-few (λ r. is_owner (owners.Mode m) (row_at plan r).owner) in
        omega (
          arith,
          each-few (λ r. cost_of_call plan r calls.ModeStart) 1024 (2 ^ 58) (rows_of plan (owners.Mode m)) few
              (λ i r h. device-small _ calls.ModeStart),
        )
    starts-small _ = omega arith

    stops-small : (work : Work) → price w (cost_of_stops plan work) ≤ 2 ^ 68
    stops-small (works.Mode m Stopping) =
        let few = rows_passing-few (λ r. is_owner (owners.Mode m) (row_at plan r).owner) in
        omega (
          arith,
          each-few (λ r. cost_of_call plan r calls.ModeStop) 1024 (2 ^ 58) (rows_of plan (owners.Mode m)) few
              (λ i r h. device-small _ calls.ModeStop),
        )
    stops-small _ = omega arith

    releases-small : (work : Work) → price w (cost_of_releases plan work) ≤ 256
    releases-small (works.Mode m Stopping) =
        passing-few (λ coil. list_any (is_enable_of coil) (actions_of plan (owners.Mode m))) (coil_numbers plan) 256
        (omega (
          arith,
          length-map-range_with_len {X = CoilId} (λ n. record { 0 = n }) 0 (length plan.coils),
          coils-few plan valid,
        ))
    releases-small _ = omega arith

    led-small : (o : Option EventId) → price w (cost_if_led o) ≤ 2 ^ 32
    led-small None = omega arith
    led-small (Some e) = omega (arith, light e)

    players-few : (game : Option GameRules) (events : ℕ) → IfSome game (IsGameWithin events) → most_players game ≤ 4
    players-few None events within = omega arith
    players-few (Some rules) events within = within.players

    scores-small : (which : GameEvent) → price w (cost_of_scores plan which) ≤ 4
    scores-small which = by (tells_scores which)
      where
        by : (b : Bool) → (if b then most_players plan.game else 0) ≤ 4
        by true = players-few plan.game (length plan.events) valid.entries.game
        by false = omega arith

    request-small : (which : GameEvent) → price w (cost_of_request plan which) ≤ 2 ^ 45
    request-small which = by (asks_for_ball which)
      where
        by : (b : Bool) → price w (if b then cost_of_telling plan (Wanted 1) else Lines 0) ≤ 2 ^ 45
        by true = telling-small (Wanted 1)
        by false = omega arith

    drained_ball-small : (which : GameEvent) → price w (cost_of_drained_ball plan which) ≤ 2 ^ 68
    drained_ball-small which = by (is_drain which)
      where
        saves : price w (dearest_of (λ r. cost_of_call plan r (calls.Act Save)) (save_rows plan)) ≤ 2 ^ 58
        saves = dearest-small (λ r. cost_of_call plan r (calls.Act Save)) (2 ^ 58) (save_rows plan)
            (λ i r h. device-small _ (calls.Act Save))

        ends : price w (each_of (λ r. cost_of_call plan r (calls.Act End)) (multiball_rows plan)) ≤ 1024 * 2 ^ 58
        ends = each-few (λ r. cost_of_call plan r (calls.Act End)) 1024 (2 ^ 58) (multiball_rows plan)
            (rows_passing-few (λ r. is_multiball (row_at plan r).settings)) (λ i r h. device-small _ (calls.Act End))

        by : (b : Bool) → price w (if b then Greater
            (dearest_of (λ r. cost_of_call plan r (calls.Act Save)) (save_rows plan))
            (each_of (λ r. cost_of_call plan r (calls.Act End)) (multiball_rows plan)) else Lines 0) ≤ 2 ^ 68
        by true = omega (arith, saves, ends)
        by false = omega arith

    choice-small : (posts : List GameEvent) → length posts ≤ 2 → price w (cost_of_choice plan posts) ≤ 2 ^ 33
    choice-small posts few =
        omega (
          arith,
          each-few (λ which. cost_of_post (game_event plan which)) 2 (2 ^ 32) posts few
              (λ i which h. omega (arith, light (game_event plan (get_or posts i which)))),
        )

    choices-small : (which : GameEvent) → price w (dearest_of (cost_of_choice plan) (choices which)) ≤ 2 ^ 33
    choices-small which =
        dearest-small (cost_of_choice plan) (2 ^ 33) (choices which)
        (All-weaker (λ posts. length posts ≤ 2) (λ posts. price w (cost_of_choice plan posts) ≤ 2 ^ 33) choice-small
        (choices which) (choices-few which))

    game-small : (work : Work) → price w (cost_of_game plan work) ≤ 2 ^ 69
    game-small (works.Game which) =
        omega (arith, scores-small which, request-small which, drained_ball-small which, choices-small which)
    game-small _ = omega arith

    work-small : (e : EventId) → price w (cost_of_work plan e) ≤ 2 ^ 71
    work-small e =
        omega (
          arith,
          starts-small (work_of plan e),
          stops-small (work_of plan e),
          releases-small (work_of plan e),
          led-small (led_by plan (work_of plan e)),
          game-small (work_of plan e),
        )

    pub event-small : (e : EventId) → price w (cost_of_event plan e) < 2 ^ 73
    event-small e = omega (arith, bound-small e, work-small e)
