-- The work of each event, one event after the other.
use Rattle.std.proofs.Common.{◌≡◌, ℕ, zero, suc, ◌+◌, ◌<◌, ◌-◌, ◌≤◌, ◌==◌, Bool, true, ◌&&◌, List, [], ◌∷◌, length}
use Rattle.std.proofs.Common.{get_or, slice_get, Option, Some, is_some, rules, refl, sym, ◌∙◌, ap, arith}
use Rattle.std.{specs.List.position, proofs.lemmas.List.FromFn.{length-map-range_with_len, get_or-map-range_with_len}}
use Rattle.std.proofs.lemmas.{Bool.{eqb-true, and_parts}, Option.{none-some, same_Some}, List.Quantifiers.position-Some}
use Rattle.plan_tables.specs.declared.entries.{EventId.EventId, GameEvent.GameEvent}
use Rattle.plan_tables.specs.declared.entries.{ModeId.ModeId, ModeEvents.ModeEvents, Work.Work}
use Rattle.plan_tables.specs.declared.entries.{ModeEvent.ModeEvent, GameRules.GameRules}
use Rattle.plan_tables.specs.declared.entries.Work.TheVariants as works
use Rattle.plan_tables.specs.{GameEvents.{game_events, order_of}, Valid.{HasGame, IsWorkAt}, PlanFields.HasWorks}
use Rattle.plan_tables.specs.PlanView.{PlanMode, PlanView, no_event, no_mode, event_among, which_event, work_or}
use Rattle.plan_tables.specs.PlanView.{work_from, game_work, or_work, work_of, event_of_game, game_event}

module _ (plan : PlanView) (works : List Work) (has : HasWorks plan works) where
  -- each event of the plan has its work
  pub works_count : length works ≡ length plan.events
  works_count = ap length has ∙ length-map-range_with_len (λ e. work_of plan (record { 0 = e })) 0 (length plan.events)

  pub works_at : (e : EventId) (w : Work) → e.0 < length plan.events → w ≡ get_or works e.0 w → w ≡ work_of plan e
  works_at e w within at =
      at ∙ ap (λ ws. get_or ws e.0 w) has ∙ get_or-map-range_with_len (λ n. work_of plan (record { 0 = n })) 0
      (length plan.events) e.0 e.0 w within (omega arith)

-- ---- if an event has work, it is an event of a mode

abbrev numbered : ℕ → EventId
numbered n = record { 0 = n }

pub number_same : (e f : EventId) → (e.0 == f.0) ≡ true → e ≡ f
number_same e f is = ap numbered (eqb-true e.0 f.0 is)

module _ (events : ModeEvents) (e : EventId) (which : ModeEvent) where
  which-is : which_event events e ≡ Some which → e ≡ event_among events which
  which-is is = search rules

-- the mode of this number among those from number n on
abbrev mode_from : ℕ → List PlanMode → ModeId → PlanMode
mode_from n modes m = get_or modes (m.0 - n) no_mode

-- what work says, if these are the modes from number n on
abbrev IsFoundFrom : ℕ → List PlanMode → EventId → Work → Type 0
IsFoundFrom n modes e works.Nothing = Unit {0}
IsFoundFrom n modes e (works.Game which) = ⊥
IsFoundFrom n modes e (works.Mode m which) =
    (n ≤ m.0) × (m.0 < n + length modes) × (e ≡ event_among (mode_from n modes m).mode.events which)

found-later : (n : ℕ) (x : PlanMode) (modes : List PlanMode) (e : EventId) (w : Work) → IsFoundFrom (suc n) modes e w
    → IsFoundFrom n (x ∷ modes) e w
found-later n x modes e works.Nothing h = tt
found-later n x modes e (works.Game which) h = h
found-later n x modes e (works.Mode m which) h = search rules

found-first : (n : ℕ) (x : PlanMode) (modes : List PlanMode) (e : EventId) (o : Option ModeEvent) (rest : Work)
    → ((which : ModeEvent) → o ≡ Some which → e ≡ event_among x.mode.events which)
    → IsFoundFrom n (x ∷ modes) e rest → IsFoundFrom n (x ∷ modes) e (work_or n o rest)
found-first n x modes e o rest here h = search rules

found_from : (n : ℕ) (modes : List PlanMode) (e : EventId) → IsFoundFrom n modes e (work_from n modes e)
found_from n [] e = tt
found_from n (x ∷ modes) e =
    found-first n x modes e (which_event x.mode.events e) (work_from (suc n) modes e) (which-is x.mode.events e)
    (found-later n x modes e (work_from (suc n) modes e) (found_from (suc n) modes e))

-- ---- if an event has work in the game, it is an event of the game

-- whether each event stands at its place in the order of the game's events, from number n on
abbrev are_ordered_from : ℕ → List GameEvent → Bool
are_ordered_from n [] = true
are_ordered_from n (x ∷ xs) = (order_of x == n) && are_ordered_from (suc n) xs

ordered_from : (n : ℕ) (events : List GameEvent) → are_ordered_from n events ≡ true → (i : ℕ) (which : GameEvent)
    → slice_get events i ≡ Some which → order_of which ≡ n + i
ordered_from n [] ordered i which at = absurd (none-some which at)
ordered_from n (x ∷ xs) ordered zero which at = ap order_of (sym (same_Some x which at))
    ∙ eqb-true (order_of x) n (and_parts (order_of x == n) (are_ordered_from (suc n) xs) ordered).0 ∙ omega arith
ordered_from n (x ∷ xs) ordered (suc i) which at =
    let later = ordered_from (suc n) xs (and_parts (order_of x == n) (are_ordered_from (suc n) xs) ordered).1 i which at
    in
    omega (arith, later)

game_event_at : (i : ℕ) (which : GameEvent) → slice_get game_events i ≡ Some which → order_of which ≡ i
game_event_at i which at = let same = ordered_from 0 game_events refl i which at in omega (arith, same)

module _ (plan : PlanView) (e : EventId) where
  game_found-at : (rules : GameRules) → plan.game ≡ Some rules → (i : ℕ)
      → position (λ f. f.0 == e.0) rules.events ≡ Some i
      → (which : GameEvent) → slice_get game_events i ≡ Some which → HasGame plan × (e ≡ game_event plan which)
  game_found-at rules has i at which is =
      let stands = (position-Some (λ (f : EventId). f.0 == e.0) rules.events i no_event at).1 in
      let here = sym (number_same (get_or rules.events i no_event) e stands)
      ∙ ap (λ k. get_or rules.events k no_event) (sym (game_event_at i which is)) in
      (ap is_some has, here ∙ ap (λ game. event_of_game game which) (sym has))

  game_found : (game : Option GameRules) → plan.game ≡ game → IsWorkAt plan e (game_work game e)
  game_found game has = search (rules, game_found-at)

-- work is found at the event that it names
pub work_found : (plan : PlanView) (e : EventId) → IsWorkAt plan e (work_of plan e)
work_found plan e = by (work_from 0 plan.modes e) (found_from 0 plan.modes e)
  where
    by : (w : Work) → IsFoundFrom 0 plan.modes e w → IsWorkAt plan e (or_work w (game_work plan.game e))
    by works.Nothing h = game_found plan e plan.game refl
    by (works.Game which) h = absurd h
    by (works.Mode m which) h = let most = h.1
        in
        (omega (arith, most), h.2 ∙ ap (λ k. event_among (get_or plan.modes k no_mode).mode.events which) (whole m.0))
      where
        whole : (k : ℕ) → k - 0 ≡ k
        whole k = omega arith
