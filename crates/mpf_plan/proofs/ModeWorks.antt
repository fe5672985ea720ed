-- The events of the modes of a plan: each has the name that its mode gives it, and no two modes share one.
use Rattle.std.proofs.Common.{rules, ◌≡◌, ◌≢◌, ℕ, zero, suc, ◌<◌, ◌≤◌, ◌==◌, ◌⊎◌, Bool, cond, List, [], ◌∷◌, length}
use Rattle.std.proofs.Common.{map, get_or, Option, Some, None, Contains, refl, sym, ◌∙◌, ap, subst, arith}
use Rattle.std.{specs.List.AllPairs, proofs.lemmas.{Bool.{cases_lt, eq-eqb}, Option.none-some}}
use Rattle.std.proofs.lemmas.List.{length-map, get_or-map, Elements.All-get_or}
use Rattle.mpf_config.specs.{Rows.{ModeRows, Rows}, Short.AreListsShort, States.HaveStates}
use Rattle.plan_tables.specs.declared.{entries.{EventId.EventId, ModeEvent.ModeEvent}, table.Table.TheVariants.Events}
use Rattle.plan_tables.specs.declared.entries.{ModeId.ModeId, ModeEvents.ModeEvents, Work.Work}
use Rattle.plan_tables.specs.declared.entries.ModeEvent.TheVariants.{WillStart, Starting, Started, Stopping, Stopped}
use Rattle.plan_tables.specs.declared.entries.Work.TheVariants as works
use Rattle.plan_tables.specs.PlanView.{PlanMode, PlanView, no_mode, name_of_event, event_among, mode_at, mode_event}
use Rattle.plan_tables.specs.PlanView.{which_event, work_or, work_from, game_work, or_work, work_of}
use Rattle.plan_tables.{specs.Valid.{IsModeWithin, IsWorkAt}, proofs.Worked.work_found}
use Rattle.plan_parts.{specs.{Effects.mode_event_name, Parts.parts_of}, proofs.RowFacts.parts_are}
use Rattle.mpf_plan.specs.{Uses.{Names, number_among}, PlanOf.{names_of, plan_by}}
use Rattle.mpf_plan.proofs.{Among.at_number, GameNames.not_of_mode, ModeNames.{same_which, same_mode}}
use Rattle.mpf_plan.proofs.{PlanEntries.modes_within, GameMade.game_event_is}
use Rattle.mpf_plan.proofs.ModesMade.{mode_of, made-event, modes-made, modes-count as count_modes}

-- ---- an event of a mode has work

abbrev pub IsWork : Work → Type 0
IsWork works.Nothing = ⊥
IsWork (works.Mode m which) = Unit {0}
IsWork (works.Game which) = Unit {0}

first_work : (w rest : Work) → IsWork w → IsWork (or_work w rest)
first_work x1 rest is = search rules

later : (b : Bool) (w : ModeEvent) (o : Option ModeEvent) → (o ≡ None → ⊥) → cond b (Some w) o ≡ None → ⊥
later x1 w o some is = search rules

here : (n : ℕ) (w : ModeEvent) (o : Option ModeEvent) → cond (n == n) (Some w) o ≡ None → ⊥
here n w o is = none-some w (sym is ∙ ap (λ b. cond b (Some w) o) (eq-eqb n n refl))

is_among : (events : ModeEvents) (which : ModeEvent) → which_event events (event_among events which) ≡ None → ⊥
is_among events WillStart = here events.will_start.0 WillStart _
is_among events Starting =
    later (events.starting.0 == events.will_start.0) WillStart _ (here events.starting.0 Starting _)
is_among events Started =
    let e = events.started.0 in
    later (e == events.will_start.0) WillStart _ (later (e == events.starting.0) Starting _ (here e Started _))
is_among events Stopping =
    let e = events.stopping.0 in
    later (e == events.will_start.0) WillStart _
    (later (e == events.starting.0) Starting _ (later (e == events.started.0) Started _ (here e Stopping _)))
is_among events Stopped =
    let e = events.stopped.0 in
    later (e == events.will_start.0) WillStart _
    (later (e == events.starting.0) Starting _
    (later (e == events.started.0) Started _ (later (e == events.stopping.0) Stopping _ (here e Stopped None))))

or_rest : (n : ℕ) (o : Option ModeEvent) (rest : Work) → (o ≡ None → IsWork rest) → IsWork (work_or n o rest)
or_rest n x2 rest h = search rules

some_work : (n : ℕ) (modes : List PlanMode) (i : ℕ) (which : ModeEvent) → i < length modes
    → IsWork (work_from n modes (event_among (get_or modes i no_mode).mode.events which))
some_work n [] i which within = absurd (omega arith)
some_work n (x ∷ xs) zero which within =
    let e = event_among x.mode.events which in
    or_rest n (which_event x.mode.events e) (work_from (suc n) xs e)
    (λ none. absurd (is_among x.mode.events which none))
some_work n (x ∷ xs) (suc i) which within =
    let e = event_among (get_or xs i no_mode).mode.events which in
    or_rest n (which_event x.mode.events e) (work_from (suc n) xs e)
    (λ none. some_work (suc n) xs i which (omega arith))

-- ---- the modes of the plan

-- in place of a mode if there is none
abbrev no_rows : ModeRows
no_rows = record { name = []; sections = [] }

abbrev names_in : List ModeRows → List (List ℕ)
names_in modes = map (λ (m : ModeRows). m.name) modes

module _ (rows : Rows) where
  abbrev names : Names
  names = names_of (parts_of rows)

  abbrev plan : PlanView
  plan = plan_by names (parts_of rows)

  -- the event of a number has its name
  named : (name : List ℕ) → number_among (names Events) name < length (names Events)
      → name_of_event plan (record { 0 = number_among (names Events) name }) ≡ name
  unfolding plan_by
  named name known = at_number (names Events) name known

  -- there are as many as in the rows
  pub modes-count : length plan.modes ≡ length rows.modes
  modes-count = count_modes names rows

  module _ (m : ModeId) (within : m.0 < length plan.modes) where
    abbrev row : ModeRows
    row = get_or rows.modes m.0 no_rows

    inside : m.0 < length rows.modes
    inside = omega (arith, within, modes-count)

    made_at : mode_at plan m ≡ mode_of names row
    made_at =
        ap (λ ms. get_or ms m.0 no_mode) (modes-made names rows) ∙ get_or-map
        (mode_of names) rows.modes m.0 no_rows no_mode inside

    name_at : (d : List ℕ) → get_or (names_in rows.modes) m.0 d ≡ (mode_at plan m).name
    name_at d =
        get_or-map (λ (x : ModeRows). x.name) rows.modes m.0 no_rows d inside ∙ ap (λ (x : PlanMode). x.name)
        (sym made_at)

    -- its name is that of a mode of the rows
    pub name_there : Contains (names_in rows.modes) (mode_at plan m).name
    name_there =
        (m.0, omega (arith, inside, length-map rows.modes (λ (x : ModeRows). x.name)), name_at (mode_at plan m).name)

    known : (which : ModeEvent) → number_among (names Events) (mode_event_name which row.name) < length (names Events)
    unfolding plan_by
    known which =
        let W : PlanMode → Type 0 = IsModeWithin (length (names Events)) in
        by which
        (subst W made_at
        (All-get_or W plan.modes m.0 no_mode within
        (modes_within (HaveStates rows) (AreListsShort rows) (parts_of rows) (length rows.modes) (parts_are rows)
        modes-count)))
      where
        by : (which : ModeEvent) → IsModeWithin (length (names Events)) (mode_of names row)
            → number_among (names Events) (mode_event_name which row.name) < length (names Events)
        by x1 at = search rules

    -- its events have the names that it gives them
    pub event_name_is : (which : ModeEvent)
        → name_of_event plan (mode_event plan m which) ≡ mode_event_name which (mode_at plan m).name
    event_name_is which =
        let name = mode_event_name which row.name in
        ap (name_of_event plan)
        (ap (λ (x : PlanMode). event_among x.mode.events which) made_at ∙ made-event names which row)
        ∙ named name (known which)
        ∙ ap (λ (x : PlanMode). mode_event_name which x.name) (sym made_at)

  -- ---- no two modes share an event

  module _ (apart : AllPairs (λ x y. x ≢ y) (names_in rows.modes)) where
    differ : (m n : ModeId) → m.0 < n.0 → (in_m : m.0 < length plan.modes) (in_n : n.0 < length plan.modes)
        → (mode_at plan m).name ≢ (mode_at plan n).name
    differ m n before in_m in_n same =
        apart m.0 n.0 [] before (omega (arith, in_n, modes-count, length-map rows.modes (λ (x : ModeRows). x.name)))
        (name_at m in_m [] ∙ same ∙ sym (name_at n in_n []))

    module _ (m n : ModeId) (which other : ModeEvent) (in_m : m.0 < length plan.modes) (in_n : n.0 < length plan.modes)
        (same : mode_event plan m which ≡ mode_event plan n other) where
      one_name : mode_event_name which (mode_at plan m).name ≡ mode_event_name other (mode_at plan n).name
      one_name = sym (event_name_is m in_m which) ∙ ap (name_of_event plan) same ∙ event_name_is n in_n other

      one_event : which ≡ other
      one_event = same_which which other (mode_at plan m).name (mode_at plan n).name one_name

      one_number : m.0 ≡ n.0
      one_number = by (cases_lt m.0 n.0) (cases_lt n.0 m.0)
        where
          name : (mode_at plan m).name ≡ (mode_at plan n).name
          name = same_mode which other (mode_at plan m).name (mode_at plan n).name one_name

          by : (m.0 < n.0) ⊎ (n.0 ≤ m.0) → (n.0 < m.0) ⊎ (m.0 ≤ n.0) → m.0 ≡ n.0
          by x1 x2 = search (rules, differ, name)

    -- each event of a mode has the work of this event of this mode
    pub works_are : (m : ModeId) (which : ModeEvent) → m.0 < length plan.modes
        → work_of plan (mode_event plan m which) ≡ works.Mode m which
    works_are m which within =
        by (work_of plan e)
        (first_work (work_from 0 plan.modes e) (game_work plan.game e) (some_work 0 plan.modes m.0 which within))
        (work_found plan e)
      where
        e : EventId
        e = mode_event plan m which

        by : (w : Work) → IsWork w → IsWorkAt plan e w → w ≡ works.Mode m which
        by works.Nothing some at = absurd some
        by (works.Game other) some at =
            absurd (not_of_mode other which (mode_at plan m).name
            (sym (event_name_is m within which) ∙ ap (name_of_event plan) at.1
            ∙ game_event_is (parts_of rows) at.0 other))
        by (works.Mode n other) some at = search (rules, one_number, one_event)
