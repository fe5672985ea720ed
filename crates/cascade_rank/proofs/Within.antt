-- The costs of a valid plan mention only events of the plan.
use Rattle.std.proofs.Common.{rules, ◌≡◌, ℕ, ◌<◌, Bool, true, false, ◌==◌, if◌then◌else◌, List, [], ◌∷◌, length, Option}
use Rattle.std.proofs.Common.{Some, None, sym, subst, inl, inr, arith}
use Rattle.std.specs.{Prelude.IfSome, List.{All, AllByRecursion, find}}
use Rattle.std.proofs.lemmas.{Bool.{cases_lt, or_cases, eqb-true, false≢true}, List.{get_or_past, Elements.All-filter}}
use Rattle.std.proofs.lemmas.List.Elements.{recursion_from_All, All-get_or, All-weaker, All-nil, All-cons, All-append}
use Rattle.plan_tables.specs.PlanView.{PlanView, act_told, feeders_of, feeds, may_hold_ball_end, is_multiball, is_save}
use Rattle.plan_tables.specs.PlanView.{multiball_rows, save_rows, game_event, mode_event, work_of, no_switch, switch_at}
use Rattle.plan_tables.specs.PlanView.{listeners_of, actions_at, posts_of, bound_to, is_owner, list_of_row, row_at}
use Rattle.plan_tables.specs.{PlanView.{row_numbers, rows_of}, Devices.list_count}
use Rattle.plan_tables.specs.declared.entries.{SwitchId.SwitchId, Listener.Listener}
use Rattle.plan_tables.specs.declared.entries.{ModeId.ModeId, EventId.EventId, ListId.ListId, Binding.Binding}
use Rattle.plan_tables.specs.declared.entries.{ModeEvent.ModeEvent, Work.Work, Action.Action}
use Rattle.plan_tables.specs.declared.entries.ModeEvent.TheVariants.{WillStart, Starting, Started, Stopping, Stopped}
use Rattle.plan_tables.specs.declared.entries.GameEvent.{GameEvent, TheVariants.BallEnded}
use Rattle.plan_tables.{proofs.Worked.work_found, specs.Valid.{IsSwitchWithin, IsListenerWithin, HasEntries}}
use Rattle.player_game.specs.Choices.{asks_for_ball, choices}
use Rattle.plan_tables.specs.declared.entries.Work.TheVariants as works
use Rattle.plan_tables.specs.Valid.{IsEventWithin, IsWorkAt, IsActionWithin, IsTargetWithin, IsBindingWithin}
use Rattle.plan_tables.specs.declared.entries.Target.{Target, TheVariants.{Run, Start, Stop, Act}}
use Rattle.plan_tables.specs.declared.entries.Owner.TheVariants as owners
use Rattle.plan_tables.specs.declared.devices.{Act.TheVariants.{Save, End}, BallTarget.BallTarget, RowId.RowId}
use Rattle.plan_tables.specs.declared.devices.Telling.{Telling, TheVariants.{Arrived, Wanted}}
use Rattle.device_objects.{specs.{declared.device.Call.Call, DeviceStep.outcomes}, proofs.Lawful.outcomes_of_row}
use Rattle.device_objects.specs.declared.device.Call.TheVariants as calls
use Rattle.cascade_rank.specs.Cost.{Cost, Lines, Step, Weight, Both, Greater, mentions, each_of, dearest_of}
use Rattle.cascade_rank.specs.Cost.{cost_of_post, cost_of_action_by, cost_of_list_by, cost_of_answer_by}
use Rattle.cascade_rank.specs.Cost.{cost_of_call_by, cost_of_nobody, cost_of_told, cost_of_arrival, cost_of_trough}
use Rattle.cascade_rank.specs.Cost.{cost_of_telling, cost_of_call, cost_of_target, cost_of_binding, led_by, cost_if_led}
use Rattle.cascade_rank.specs.Cost.{cost_of_devices, cost_of_starts, cost_of_stops, cost_of_releases, cost_of_choice}
use Rattle.cascade_rank.specs.Cost.{cost_of_request, cost_of_drained_ball, cost_of_game, cost_of_work, cost_of_event}
use Rattle.cascade_rank.specs.{Below.IsBelow, Mentions.weights_in, Tellings.IsTellingWithin}
use Rattle.cascade_rank.proofs.{Games.{game_event-below, game_has-event}, Rows.rows-within}

pub IsBelow-mentioned : (n : ℕ) (c : Cost) (e : EventId) → IsBelow n c → mentions e c ≡ true → e.0 < n
IsBelow-mentioned n (Lines k) e h m = absurd (false≢true m)
IsBelow-mentioned n Step e h m = absurd (false≢true m)
IsBelow-mentioned n (Weight f) e h m = subst (λ (x : ℕ). x < n) (sym (eqb-true e.0 f.0 m)) h
IsBelow-mentioned n (Both a b) e h m =
    elim (or_cases (mentions e a) (mentions e b) m) [
      | inl k ↦ IsBelow-mentioned n a e h.0 k
      | inr k ↦ IsBelow-mentioned n b e h.1 k
    ]
IsBelow-mentioned n (Greater a b) e h m =
    elim (or_cases (mentions e a) (mentions e b) m) [
      | inl k ↦ IsBelow-mentioned n a e h.0 k
      | inr k ↦ IsBelow-mentioned n b e h.1 k
    ]

pub IsBelow-each_of : {X : Type 0} (n : ℕ) (f : X → Cost) (xs : List X) → AllByRecursion (λ x. IsBelow n (f x)) xs
    → IsBelow n (each_of f xs)
IsBelow-each_of n f [] h = tt
IsBelow-each_of n f (x ∷ xs) h = (h.0, IsBelow-each_of n f xs h.1)

-- if each of a list is within, all that they cost is below
pub each_below : {X : Type 0} (n : ℕ) (f : X → Cost) (P : X → Type 0) → ((x : X) → P x → IsBelow n (f x))
    → (xs : List X) → All P xs → IsBelow n (each_of f xs)
each_below n f P each xs h = search (rules, IsBelow-each_of, recursion_from_All, All-weaker)

pub dearest_below : {X : Type 0} (n : ℕ) (f : X → Cost) → ((x : X) → IsBelow n (f x)) → (xs : List X)
    → IsBelow n (dearest_of f xs)
dearest_below n f each [] = tt
dearest_below n f each (x ∷ xs) = (each x, dearest_below n f each xs)

IsBelow-dearest_of : {X : Type 0} (n : ℕ) (f : X → Cost) (xs : List X) → AllByRecursion (λ x. IsBelow n (f x)) xs
    → IsBelow n (dearest_of f xs)
IsBelow-dearest_of n f [] h = tt
IsBelow-dearest_of n f (x ∷ xs) h = (h.0, IsBelow-dearest_of n f xs h.1)

pub dearest_within : {X : Type 0} (n : ℕ) (f : X → Cost) (P : X → Type 0) → ((x : X) → P x → IsBelow n (f x))
    → (xs : List X) → All P xs → IsBelow n (dearest_of f xs)
dearest_within n f P each xs h = search (rules, IsBelow-dearest_of, recursion_from_All, All-weaker)

-- what holds of each of a list holds of the first that passes a test
IfSome-find_by : {X : Type 0} (p : X → Bool) (P : X → Type 0) (xs : List X) → AllByRecursion P xs → IfSome (find p xs) P
IfSome-find_by p P [] h = tt
IfSome-find_by p P (x ∷ xs) h = search (rules, IfSome-find_by p P xs h.1)

IfSome-find : {X : Type 0} (p : X → Bool) (P : X → Type 0) (xs : List X) → All P xs → IfSome (find p xs) P
IfSome-find p P xs h = IfSome-find_by p P xs (recursion_from_All P xs h)

-- the same of the list of its weights
pub weights-below : (n : ℕ) (c : Cost) → IsBelow n c → All (IsEventWithin n) (weights_in c)
weights-below n (Lines k) h = All-nil (IsEventWithin n)
weights-below n Step h = All-nil (IsEventWithin n)
weights-below n (Weight e) h = All-cons (IsEventWithin n) e [] h (All-nil (IsEventWithin n))
weights-below n (Both a b) h = All-append (IsEventWithin n) (weights_in a) (weights_in b) (weights-below n a h.0)
    (weights-below n b h.1)
weights-below n (Greater a b) h = All-append (IsEventWithin n) (weights_in a) (weights_in b) (weights-below n a h.0)
    (weights-below n b h.1)

module _ (plan : PlanView) (valid : HasEntries plan) where
  -- the events of a mode are events of the plan
  pub mode_event-within : (m : ModeId) (which : ModeEvent) → m.0 < length plan.modes
      → (mode_event plan m which).0 < length plan.events
  mode_event-within m which inside = search rules

  -- so is the end of the ball, when it waits for a mode
  IsBelow-end : (m : ModeId) → m.0 < length plan.modes → (holds : Bool)
      → IsBelow (length plan.events) (cost_if_led (if holds then Some (game_event plan BallEnded) else None))
  IsBelow-end m there true = let some = mode_event-within m Stopped there
      in game_event-below plan valid (omega (arith, some)) BallEnded
  IsBelow-end m there false = tt

  -- and that which the machine's work posts
  IsBelow-led : (w : Work) (e : EventId) → IsWorkAt plan e w
      → IsBelow (length plan.events) (cost_if_led (led_by plan w))
  IsBelow-led (works.Mode m WillStart) e h = mode_event-within m Starting h.0
  IsBelow-led (works.Mode m Starting) e h = mode_event-within m Started h.0
  IsBelow-led (works.Mode m Started) e h = mode_event-within m Stopping h.0
  IsBelow-led (works.Mode m Stopping) e h = mode_event-within m Stopped h.0
  IsBelow-led (works.Mode m Stopped) e h = IsBelow-end m h.0 (may_hold_ball_end plan m)
  IsBelow-led _ e h = tt

  list_of_row-within : (r : RowId) → r.0 < length plan.rows → (k : ℕ) → k < list_count (row_at plan r).settings
      → (list_of_row plan r k).0 < length plan.lists
  list_of_row-within r l k less = omega (arith, less, (valid.rows r l).lists)

  -- what a device of the plan answers to a call, if what telling costs is within
  module _ (tell : Telling → Cost) (within : (telling : Telling) → IsTellingWithin (length plan.rows) telling
      → IsBelow (length plan.events) (tell telling)) where
    IsBelow-action : (a : Action) → IsActionWithin plan a → IsBelow (length plan.events) (cost_of_action_by plan tell a)
    IsBelow-action a h = search (rules, game_event-below)

    IsBelow-list : (l : ListId) → l.0 < length plan.lists → IsBelow (length plan.events) (cost_of_list_by plan tell l)
    IsBelow-list l h =
        each_below (length plan.events) (cost_of_action_by plan tell) (IsActionWithin plan) IsBelow-action
        (actions_at plan l)
        (All-get_or (All (IsActionWithin plan)) plan.lists l.0 [] h valid.lists)

    IsBelow-answer : (r : RowId) → r.0 < length plan.rows → (lists : List ℕ)
        → All (λ k. k < list_count (row_at plan r).settings) lists
        → IsBelow (length plan.events) (cost_of_answer_by plan tell r lists)
    IsBelow-answer r l lists h = search (rules, each_below, IsBelow-list, list_of_row-within)

    IsBelow-call_by : (r : RowId) (call : Call) → r.0 < length plan.rows
        → IsBelow (length plan.events) (cost_of_call_by plan tell r call)
    IsBelow-call_by r call l = (
      tt,
      dearest_within (length plan.events) (cost_of_answer_by plan tell r)
          (All (λ k. k < list_count (row_at plan r).settings)) (IsBelow-answer r l)
          (outcomes (row_at plan r).settings call) (outcomes_of_row (row_at plan r).settings call),
    )

  -- what a told device answers
  IsBelow-told : (telling : Telling) (r : RowId) → r.0 < length plan.rows
      → IsBelow (length plan.events) (cost_of_told plan telling r)
  IsBelow-told telling r l = IsBelow-call_by cost_of_nobody (λ t h. tt) r (calls.Act (act_told telling)) l

  IsBelow-arrival : (target : BallTarget) → IsBelow (length plan.events) (cost_of_arrival plan target)
  IsBelow-arrival target =
      dearest_within (length plan.events) (cost_of_told plan (Arrived target)) (λ r. r.0 < length plan.rows)
      (IsBelow-told (Arrived target)) (feeders_of plan target)
      (All-filter (λ r. feeds target (row_at plan r).settings) (λ r. r.0 < length plan.rows) (row_numbers plan)
      (rows-within plan))

  IsBelow-trough : (n : ℕ) (o : Option RowId) → IfSome o (λ r. r.0 < length plan.rows)
      → IsBelow (length plan.events) (cost_of_trough plan n o)
  IsBelow-trough n None h = tt
  IsBelow-trough n (Some r) h = IsBelow-told (Wanted n) r h

  pub IsBelow-telling : (telling : Telling) → IsBelow (length plan.events) (cost_of_telling plan telling)
  IsBelow-telling telling = search (rules, IsBelow-arrival, IsBelow-trough, IfSome-find, rows-within)

  pub IsBelow-call : (r : RowId) (call : Call) → r.0 < length plan.rows
      → IsBelow (length plan.events) (cost_of_call plan r call)
  IsBelow-call r call l = IsBelow-call_by (cost_of_telling plan) (λ telling h. IsBelow-telling telling) r call l

  -- and what the devices of a mode answer when it starts, and when it stops
  IsBelow-devices : (call : Call) (m : ModeId) → IsBelow (length plan.events) (cost_of_devices plan call m)
  IsBelow-devices call m =
      each_below (length plan.events) (λ r. cost_of_call plan r call) (λ r. r.0 < length plan.rows)
      (λ r. IsBelow-call r call) (rows_of plan (owners.Mode m))
      (All-filter (λ r. is_owner (owners.Mode m) (row_at plan r).owner) (λ r. r.0 < length plan.rows) (row_numbers plan)
      (rows-within plan))

  IsBelow-starts : (w : Work) → IsBelow (length plan.events) (cost_of_starts plan w)
  IsBelow-starts (works.Mode m Started) = IsBelow-devices calls.ModeStart m
  IsBelow-starts w = search rules

  IsBelow-stops : (w : Work) → IsBelow (length plan.events) (cost_of_stops plan w)
  IsBelow-stops (works.Mode m Stopping) = IsBelow-devices calls.ModeStop m
  IsBelow-stops w = search rules

  -- the lines of releases mention none
  IsBelow-releases : (w : Work) → IsBelow (length plan.events) (cost_of_releases plan w)
  IsBelow-releases w = search rules

  -- what an event of the game posts is an event of the plan
  IsBelow-choices : 0 < length plan.events → (ways : List (List GameEvent))
      → IsBelow (length plan.events) (dearest_of (cost_of_choice plan) ways)
  IsBelow-choices some ways =
      dearest_below (length plan.events) (cost_of_choice plan)
      (λ posts. each_below (length plan.events) (λ which. cost_of_post (game_event plan which)) (λ which. Unit {0})
      (λ which h. game_event-below plan valid some which) posts (λ i d l. tt)) ways

  IsBelow-request : (which : GameEvent) → IsBelow (length plan.events) (cost_of_request plan which)
  IsBelow-request which = by (asks_for_ball which)
    where
      by : (b : Bool) → IsBelow (length plan.events) (if b then cost_of_telling plan (Wanted 1) else Lines 0)
      by true = IsBelow-telling (Wanted 1)
      by false = tt

  -- so it is of what ball saves answer that may save a ball, and multiballs that may end
  IsBelow-saves : IsBelow (length plan.events) (dearest_of (λ r. cost_of_call plan r (calls.Act Save)) (save_rows plan))
  IsBelow-saves =
      dearest_within (length plan.events) (λ r. cost_of_call plan r (calls.Act Save)) (λ r. r.0 < length plan.rows)
      (λ r. IsBelow-call r (calls.Act Save)) (save_rows plan)
      (All-filter (λ r. is_save (row_at plan r).settings) (λ r. r.0 < length plan.rows) (row_numbers plan)
      (rows-within plan))

  IsBelow-ends : IsBelow (length plan.events) (each_of (λ r. cost_of_call plan r (calls.Act End)) (multiball_rows plan))
  IsBelow-ends =
      each_below (length plan.events) (λ r. cost_of_call plan r (calls.Act End)) (λ r. r.0 < length plan.rows)
      (λ r. IsBelow-call r (calls.Act End)) (multiball_rows plan)
      (All-filter (λ r. is_multiball (row_at plan r).settings) (λ r. r.0 < length plan.rows) (row_numbers plan)
      (rows-within plan))

  IsBelow-drained_ball : (which : GameEvent) → IsBelow (length plan.events) (cost_of_drained_ball plan which)
  IsBelow-drained_ball which = search (rules, IsBelow-saves, IsBelow-ends)

  IsBelow-game : (w : Work) (e : EventId) → work_of plan e ≡ w → IsBelow (length plan.events) (cost_of_game plan w)
  IsBelow-game (works.Game which) e is = (
    tt,
    (
      IsBelow-request which,
      (
        IsBelow-drained_ball which,
        IsBelow-choices (game_has-event plan valid e which is) (choices which),
      ),
    ),
  )
  IsBelow-game _ e is = tt

  pub IsBelow-work : (e : EventId) → IsBelow (length plan.events) (cost_of_work plan e)
  IsBelow-work e =
      search (rules, IsBelow-starts, IsBelow-stops, IsBelow-releases, IsBelow-led, work_found, IsBelow-game)

  pub IsBelow-target : (t : Target) → IsTargetWithin plan t → IsBelow (length plan.events) (cost_of_target plan t)
  IsBelow-target (Run l) h = IsBelow-list (cost_of_telling plan) (λ telling k. IsBelow-telling telling) l h
  IsBelow-target (Start m) h = mode_event-within m WillStart h
  IsBelow-target (Stop m) h = mode_event-within m Stopping h
  IsBelow-target (Act r act) h = IsBelow-call r (calls.Act act) h

  pub IsBelow-binding : (b : Binding) → IsBindingWithin plan b → IsBelow (length plan.events) (cost_of_binding plan b)
  IsBelow-binding b h = (tt, IsBelow-target b.target h.2)

  pub IsBelow-event : (e : EventId) → IsBelow (length plan.events) (cost_of_event plan e)
  IsBelow-event e = (
    tt,
    (
      each_below (length plan.events) (cost_of_binding plan) (IsBindingWithin plan) IsBelow-binding (bound_to plan e)
          (All-filter (λ b. b.event.0 == e.0) (IsBindingWithin plan) plan.bindings valid.bindings),
      IsBelow-work e,
    ),
  )

  -- a switch posts events of the plan; if there is none of its number, it posts nothing
  pub posts-below : (s : SwitchId) (active : Bool) → All (IsEventWithin (length plan.events)) (posts_of plan s active)
  posts-below s active = by active (elim (cases_lt s.0 (length plan.switches)) [
    | inl within ↦ All-get_or (IsSwitchWithin (length plan.events)) plan.switches s.0 no_switch within valid.switches
    | inr past ↦ subst (IsSwitchWithin (length plan.events)) (sym (get_or_past plan.switches s.0 no_switch past))
        (All-nil (IsEventWithin (length plan.events)), All-nil (IsEventWithin (length plan.events)))
  ])
    where
      by : (a : Bool) → IsSwitchWithin (length plan.events) (switch_at plan s)
          → All (IsEventWithin (length plan.events)) (posts_of plan s a)
      by true h = h.0
      by false h = h.1

  -- only devices of the plan listen to it; if there is none of its number, nothing does
  pub listeners-below : (s : SwitchId) → All (IsListenerWithin (length plan.rows)) (listeners_of plan s)
  listeners-below s = search (rules, cases_lt, All-get_or, get_or_past, All-nil)

-- the posts of an event are events of the plan, which has so many
pub posts_of_event-within : (plan : PlanView) → HasEntries plan → (e : EventId) (n : ℕ) (es : List EventId)
    → n ≡ length plan.events → es ≡ weights_in (cost_of_event plan e) → All (IsEventWithin n) es
posts_of_event-within plan valid e n es count is =
    subst (λ (m : ℕ). All (IsEventWithin m) es) (sym count)
    (subst (All (IsEventWithin (length plan.events))) (sym is)
    (weights-below (length plan.events) (cost_of_event plan e) (IsBelow-event plan valid e)))

-- devices of the plan listen to a switch
pub listeners-within : (plan : PlanView) → HasEntries plan → (s : SwitchId) (ls : List Listener)
    → ls ≡ listeners_of plan s → All (IsListenerWithin (length plan.rows)) ls
listeners-within plan valid s ls is = subst (All (IsListenerWithin (length plan.rows))) (sym is)
    (listeners-below plan valid s)
