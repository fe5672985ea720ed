-- The works of modes, set one after the other, the first mode last.
use Rattle.std.proofs.Common.{rules, ◌≡◌, ℕ, ◌<◌, ◌==◌, Bool, cond, List, length, map, get_or, set, Option, Some, None}
use Rattle.std.{proofs.{Common.{sym, ◌∙◌, ap, subst, arith}, lemmas.List.length-set}, specs.List.range_with_len}
use Rattle.std.proofs.lemmas.List.FromFn.{fill_by_all, length-map-range_with_len, get_or-map-range_with_len}
use Rattle.plan_tables.specs.declared.entries.{EventId.EventId, ModeEvents.ModeEvents, Work.Work}
use Rattle.plan_tables.specs.declared.entries.{GameRules.GameRules, ModeEvent.ModeEvent}
use Rattle.plan_tables.specs.declared.entries.ModeEvent.TheVariants.{WillStart, Starting, Started, Stopping, Stopped}
use Rattle.plan_tables.specs.declared.entries.Work.TheVariants as works
use Rattle.plan_tables.specs.PlanView.{PlanMode, PlanView, game_work, or_work, work_from, work_of, work_or}
use Rattle.plan_tables.specs.PlanFields.{work_at, AreModeWorks, AreWorksFrom, HasWorks}

-- one event has another work
set_at : (old new : List Work) (f e : EventId) (w : Work) → new ≡ set old f.0 w → e.0 < length old
    → work_at new e ≡ cond (e.0 == f.0) w (work_at old e)
set_at old new f e w is within = search rules

module _ (number : ℕ) (events : ModeEvents) where
  abbrev pub of : ModeEvent → Work
  of which = works.Mode (record { 0 = number }) which

  chosen : (a b c d f : Bool) (old : Work)
      → cond a (of WillStart) (cond b (of Starting)
      (cond c (of Started) (cond d (of Stopping) (cond f (of Stopped) old))))
      ≡ work_or number (cond a (Some WillStart)
      (cond b (Some Starting) (cond c (Some Started) (cond d (Some Stopping) (cond f (Some Stopped) None))))) old
  chosen a b c d f old = search rules

  -- the five events of a mode, the first one last
  pub mode_works : (w0 w1 w2 w3 w4 w5 : List Work) → w1 ≡ set w0 events.stopped.0 (of Stopped)
      → w2 ≡ set w1 events.stopping.0 (of Stopping) → w3 ≡ set w2 events.started.0 (of Started)
      → w4 ≡ set w3 events.starting.0 (of Starting) → w5 ≡ set w4 events.will_start.0 (of WillStart)
      → AreModeWorks number events w0 w5
  mode_works w0 w1 w2 w3 w4 w5 h1 h2 h3 h4 h5 =
      let l1 : length w1 ≡ length w0 = ap length h1 ∙ length-set w0 events.stopped.0 (of Stopped) in
      let l2 : length w2 ≡ length w1 = ap length h2 ∙ length-set w1 events.stopping.0 (of Stopping) in
      let l3 : length w3 ≡ length w2 = ap length h3 ∙ length-set w2 events.started.0 (of Started) in
      let l4 : length w4 ≡ length w3 = ap length h4 ∙ length-set w3 events.starting.0 (of Starting) in
      let l5 : length w5 ≡ length w4 = ap length h5 ∙ length-set w4 events.will_start.0 (of WillStart) in
      record {
        count = omega arith;
        each = λ e within.
            set_at w4 w5 events.will_start e (of WillStart) h5 (omega arith)
            ∙ ap (λ w. cond (e.0 == events.will_start.0) (of WillStart) w)
            (set_at w3 w4 events.starting e (of Starting) h4 (omega arith)
            ∙ ap (λ w. cond (e.0 == events.starting.0) (of Starting) w)
            (set_at w2 w3 events.started e (of Started) h3 (omega arith)
            ∙ ap (λ w. cond (e.0 == events.started.0) (of Started) w)
            (set_at w1 w2 events.stopping e (of Stopping) h2 (omega arith)
            ∙ ap (λ w. cond (e.0 == events.stopping.0) (of Stopping) w)
            (set_at w0 w1 events.stopped e (of Stopped) h1 within))))
            ∙ chosen (e.0 == events.will_start.0) (e.0 == events.starting.0) (e.0 == events.started.0)
            (e.0 == events.stopping.0) (e.0 == events.stopped.0) (work_at w0 e);
      }

-- over the works of the game these are the works of a plan
pub works_whole : (plan : PlanView) (events : ℕ) (modes : List PlanMode) (game : Option GameRules) (old new : List Work)
    → old ≡ map (λ e. game_work game (record { 0 = e })) (range_with_len 0 events)
    → AreWorksFrom 0 modes old new → length plan.events ≡ events → plan.modes ≡ modes → plan.game ≡ game
    → HasWorks plan new
works_whole plan events modes game old new begun set count same_modes same_game =
    let many : length old ≡ events = ap length begun
    ∙ length-map-range_with_len (λ e. game_work game (record { 0 = e })) 0 events in
    fill_by_all (λ e. work_of plan (record { 0 = e })) new (length plan.events) works.Nothing
    (set.count ∙ many ∙ sym count) (λ k within.
    let e : EventId = record { 0 = k } in
    let below : k < events = subst (λ n. k < n) count within in
    set.each e (omega arith)
    ∙ ap (or_work (work_from 0 modes e)) (ap (λ ws. get_or ws k works.Nothing) begun
    ∙ get_or-map-range_with_len (λ n. game_work game (record { 0 = n })) 0 events k k works.Nothing below
    (omega arith))
    ∙ sym (ap (λ (ms : List PlanMode). or_work (work_from 0 ms e) (game_work game e)) same_modes)
    ∙ sym (ap (λ g. or_work (work_from 0 plan.modes e) (game_work g e)) same_game))
