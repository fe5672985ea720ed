-- What holds of the names of each device, if those in its entry are names: P of each event's, and others are names.
use Rattle.std.proofs.Common.{rules, ℕ, suc, ◌<◌, Bool, List, [], ◌∷◌, ◌++◌, map, get_or, codes, arith}
use Rattle.std.specs.{Prelude.{Option, IfSome}, List.All, Str.bytes_eq}
use Rattle.std.proofs.lemmas.List.Elements.{All-nil, All-cons, All-head, All-tail, All-append, All-map, All-weaker}
use Rattle.mpf_values.specs.Events.{Event}
use Rattle.mpf_sections.specs.Rows.{WrittenName, HandledEvent, Entry, Switch, EventPlayer, SectionRows}
use Rattle.mpf_sections.specs.Rows.{BlockEvents, CounterEntry, StepBlock, BallSaveEntry, MultiballEntry}
use Rattle.mpf_sections.specs.Rows.{ControlEvent as TimerControl, TimerEntry, Shot, ShotGroup, BallDeviceEntry}
use Rattle.mpf_sections.specs.Named.{IsName, AllNames, IsNamedHandled, AllNamedEvents, IsNamedEntry, IsNamedSwitch}
use Rattle.mpf_sections.specs.Named.{IsNamedEventPlayer, IsNamedCounter, IsNamedStepBlock, IsNamedTimer}
use Rattle.mpf_sections.specs.{Named.{IsNamedShot, IsNamedShotGroup}, Typed.{step_block_of, timer_of}}
use Rattle.mpf_sections.specs.Named.{IsNamedBallDevice, IsNamedBallSave, IsNamedMultiball, IsNamedBlock}
use Rattle.mpf_sections.specs.Typed.{counters_name, accruals_name, sequences_name, timers_name, counter_of}
use Rattle.mpf_sections.specs.TypedSaves.{ball_saves_name, multiballs_name, ball_save_of, multiball_of}
use Rattle.mpf_sections.proofs.DeviceRows.{counter_named, step_block_named, timer_named}
use Rattle.mpf_sections.proofs.SaveRows.{ball_save_named, multiball_named}
use Rattle.machine_definitions.specs.Shots.{Profile}
use Rattle.plan_tables.specs.declared.devices.Act.{Act, TheVariants.{Count, Enable, Disable, Start as Begin}}
use Rattle.plan_tables.specs.declared.devices.Settings.{Settings}
use Rattle.plan_tables.specs.declared.devices.Settings.TheVariants as kinds
use Rattle.plan_rows.specs.{declared.destination.Destination.Destination, Members.Members}
use Rattle.plan_parts.specs.Effects.{Effect, posts, works, leaves, loses, arrives}
use Rattle.plan_parts.specs.{CoilEntries.{defaults_called, own_pulse}, BallEntries.{drain_mentions, ball_device_from}}
use Rattle.plan_parts.specs.BallEntries.{drains, ball_event, ball_endings, eject_pulse, attempt_effects}
use Rattle.plan_parts.specs.ShotEntries.{shot_events, group_events, shot_acts, lone_device, group_device}
use Rattle.plan_parts.specs.SaveEntries.{save_device, multiball_device, save_device_of}
use Rattle.plan_parts.specs.DeviceEntries.{Device, texts, always, acts, block_acts, block_mentions, device_of}
use Rattle.plan_parts.specs.DeviceEntries.{block_event, or_own, block_lists, counter_device, step_acts, step_settings}
use Rattle.plan_parts.specs.DeviceEntries.{step_device, act_of_control, timer_event, timer_endings, timer_device}
use Rattle.plan_parts.specs.Parts.{tag_event, active_posts, inactive_posts}
use Rattle.plan_parts.specs.PartNames.{IsOfNames, IsFitEffect, IsFitEvent, IsFitDevice}
use Rattle.plan_parts.proofs.SaveFacts.{all_save_by, all_multiball_by}
use Rattle.plan_parts.proofs.{ShotFacts.IsNamedProfile, DeviceFacts.{either, seven}}
use Rattle.plan_parts.proofs.ShotFacts.{OfHandled, all_shot_acts, all_group_acts, all_shot_lists, all_group_lists}

-- what holds of one effect, and of what a ball device does when it attempts to eject a ball
pub one : (Q : Effect → Type 0) (e : Effect) → Q e → All Q (e ∷ [])
one Q e is = All-cons Q e [] is (All-nil Q)

pub attempts : (machine : List SectionRows) (name : List ℕ) (Q : Effect → Type 0)
    → Q (posts (ball_event name (codes "_ball_eject_attempt"))) → Q (posts (ball_event name (codes "_ejecting_ball")))
    → (o : Option WrittenName) → IfSome o (λ w. Q (works w.text (own_pulse (defaults_called machine w.text))))
    → All Q (attempt_effects machine name o)
attempts machine name Q first other o is =
    let ejecting = posts (ball_event name (codes "_ejecting_ball")) in
    All-cons Q (posts (ball_event name (codes "_ball_eject_attempt"))) (ejecting ∷ eject_pulse machine o) first
    (All-cons Q ejecting (eject_pulse machine o) other (by o is))
  where
    by : (o : Option WrittenName) → IfSome o (λ w. Q (works w.text (own_pulse (defaults_called machine w.text))))
        → All Q (eject_pulse machine o)
    by x1 is = search rules

module _ (P : List ℕ → Type 0) (of : IsOfNames P) where
  abbrev Fit : Device → Type 0
  Fit d = IsFitDevice P d

  all_names : (ws : List WrittenName) → AllNames ws → All P (texts ws)
  all_names ws h =
      All-map P (λ (w : WrittenName). w.text) ws
      (All-weaker (λ (w : WrittenName). IsName w.text) (λ w. P w.text) (λ w. of.name w.text) ws h)

  all_tags : (ws : List WrittenName) → AllNames ws → All P (map tag_event ws)
  all_tags ws h =
      All-map P tag_event ws
      (All-weaker (λ (w : WrittenName). IsName w.text) (λ w. P (tag_event w)) (λ w. of.tag w.text) ws h)

  pub active_fit : (s : Switch) → IsNamedSwitch s → All P (active_posts s)
  active_fit s h =
      let more = All-append P (map tag_event s.tags) (texts s.activation_events) (all_tags s.tags h.tags)
      (all_names s.activation_events h.activation_events) in
      All-cons P (s.name.text ++ codes "_active") (map tag_event s.tags ++ texts s.activation_events)
      (of.active s.name.text h.name) more

  pub inactive_fit : (s : Switch) → IsNamedSwitch s → All P (inactive_posts s)
  inactive_fit s h =
      All-cons P (s.name.text ++ codes "_inactive") (texts s.deactivation_events) (of.inactive s.name.text h.name)
      (all_names s.deactivation_events h.deactivation_events)

  -- ---- handled events

  pub fit_handled : (h : HandledEvent) → IsNamedHandled h → IsFitEvent P h.event
  fit_handled h k = (of.name h.event.name k.name, k.variable)

  pub fit_posts : (ns : List (List ℕ)) → All P ns → All (IsFitEffect P) (map posts ns)
  fit_posts ns h = All-map (IsFitEffect P) posts ns h

  pub fit_player : (p : EventPlayer) → IsNamedEventPlayer p → All (IsFitEffect P) (map posts (texts p.posts))
  fit_player p h = fit_posts (texts p.posts) (all_names p.posts h.posts)

  all_acts : (act : Act) (hs : List HandledEvent) → AllNamedEvents hs → All (λ h. IsFitEvent P h.0) (acts act hs)
  all_acts act hs h =
      All-map (λ (x : Event × Act). IsFitEvent P x.0) (λ (w : HandledEvent). (w.event, act)) hs
      (All-weaker IsNamedHandled (λ w. IsFitEvent P w.event) fit_handled hs h)

  -- ---- blocks and timers

  fit_acts : (b : BlockEvents) → IsNamedBlock b → All (λ h. IsFitEvent P h.0) (block_acts b)
  fit_acts b h = search (rules, All-append, all_acts)

  fit_or_own : (ws : List WrittenName) (own : List ℕ) → AllNames ws → P own → All P (or_own ws own)
  fit_or_own x1 own h k = search (rules, All-cons, All-nil, all_names)

  fit_lists : (name : List ℕ) (b : BlockEvents) → IsName name → IsNamedBlock b
      → All (All (IsFitEffect P)) (block_lists name b)
  fit_lists name b k h =
      let Q = All (IsFitEffect P) in
      let endings = of.block name k in
      let updated = block_event name (codes "_updated") ∷ [] in
      let hit = or_own b.hit (block_event name (codes "_hit")) in
      let complete = or_own b.complete (block_event name (codes "_complete")) in
      All-cons Q (map posts updated) (map posts hit ∷ map posts complete ∷ [])
      (fit_posts updated (All-cons P (block_event name (codes "_updated")) [] (endings 0 [] (omega arith)) (All-nil P)))
      (All-cons Q (map posts hit) (map posts complete ∷ [])
      (fit_posts hit (fit_or_own b.hit _ h.hit (endings 1 [] (omega arith))))
      (All-cons Q (map posts complete) [] (fit_posts complete
      (fit_or_own b.complete _ h.complete (endings 2 [] (omega arith)))) (All-nil Q)))

  fit_mentions : (b : BlockEvents) → IsNamedBlock b → All P (block_mentions b)
  fit_mentions b h =
      All-append P (texts b.hit) (texts b.complete) (all_names b.hit h.hit) (all_names b.complete h.complete)

  fit_counter : (c : CounterEntry) → IsNamedCounter c → Fit (counter_device c)
  fit_counter c h = record {
    listens = All-nil IsName;
    event_acts =
        All-append (λ (x : Event × Act). IsFitEvent P x.0) (acts Count c.counts) (block_acts c.block)
        (all_acts Count c.counts h.counts) (fit_acts c.block h.block);
    other_mentions = fit_mentions c.block h.block;
    lists = fit_lists c.name.text c.block h.name h.block;
  }

  fit_step_acts : (i : ℕ) (steps : List (List HandledEvent)) → All AllNamedEvents steps
      → All (λ h. IsFitEvent P h.0) (step_acts i steps)
  fit_step_acts i [] h = All-nil (λ (x : Event × Act). IsFitEvent P x.0)
  fit_step_acts i (hs ∷ rest) h =
      search
      (rules, All-append, all_acts, All-head, All-tail, fit_step_acts (suc i) rest (All-tail AllNamedEvents hs rest h))

  fit_steps : (settings : Settings) (b : StepBlock) → IsNamedStepBlock b → Fit (step_device settings b)
  fit_steps settings b h = record {
    listens = All-nil IsName;
    event_acts =
        All-append (λ (x : Event × Act). IsFitEvent P x.0) (step_acts 0 b.steps) (block_acts b.block)
        (fit_step_acts 0 b.steps h.steps) (fit_acts b.block h.block);
    other_mentions = fit_mentions b.block h.block;
    lists = fit_lists b.name.text b.block h.name h.block;
  }

  fit_timer : (t : TimerEntry) → IsNamedTimer t → Fit (timer_device t)
  fit_timer t h = record {
    listens = All-nil IsName;
    event_acts = All-map (λ (x : Event × Act). IsFitEvent P x.0) act_of_control t.controls
        (All-weaker (λ (c : TimerControl). IsNamedHandled c.event) (λ c. IsFitEvent P c.event.event)
        (λ c. fit_handled c.event) t.controls h.controls);
    other_mentions = All-nil P;
    lists = All-map (All (IsFitEffect P)) (λ ending. posts (timer_event t.name.text ending) ∷ []) timer_endings
        (All-weaker (λ ending. P (timer_event t.name.text ending))
        (λ ending. All (IsFitEffect P) (posts (timer_event t.name.text ending) ∷ []))
        (λ ending k. All-cons (IsFitEffect P) (posts (timer_event t.name.text ending)) [] k (All-nil (IsFitEffect P)))
        timer_endings (of.timer t.name.text h.name));
  }

  -- ---- ball saves and coil rules

  -- what enables and disables one of them
  pub fit_rule : (enables disables : List HandledEvent) → AllNamedEvents enables → AllNamedEvents disables
      → All (λ h. IsFitEvent P h.0) (acts Enable enables ++ acts Disable disables)
  fit_rule enables disables h k =
      All-append (λ (x : Event × Act). IsFitEvent P x.0) (acts Enable enables) (acts Disable disables)
      (all_acts Enable enables h) (all_acts Disable disables k)

  fit_save : (s : BallSaveEntry) → IsNamedBallSave s → Fit (save_device s)
  fit_save s h = record {
    listens = All-nil IsName;
    event_acts = fit_rule s.enable_events s.disable_events h.enable_events h.disable_events;
    other_mentions = All-nil P;
    lists = all_save_by (IsFitEffect P) s.name.text (of.save s.name.text h.name) tt;
  }

  fit_multiball : (m : MultiballEntry) → IsNamedMultiball m → Fit (multiball_device m)
  fit_multiball m h = record {
    listens = All-nil IsName;
    event_acts = all_acts Begin m.start_events h.start_events;
    other_mentions = All-nil P;
    lists = all_multiball_by (IsFitEffect P) m.name.text m.settings.balls (of.multiball m.name.text h.name) tt;
  }

  -- ---- shots

  fit_each : (hs : List HandledEvent) → AllNamedEvents hs → All (OfHandled (IsFitEvent P)) hs
  fit_each hs h = All-weaker IsNamedHandled (OfHandled (IsFitEvent P)) fit_handled hs h

  pub fit_shot_acts : (i : ℕ) (s : Shot) → IsNamedShot s → All (λ h. IsFitEvent P h.0) (shot_acts i s)
  fit_shot_acts i s h =
      all_shot_acts (IsFitEvent P) i s (by s.switch h.switch) (fit_each s.hits h.hits)
      (fit_each s.advances h.advances) (fit_each s.resets h.resets) (fit_each s.enables h.enables)
      (fit_each s.disables h.disables)
    where
      by : (o : Option WrittenName) → IfSome o (λ w. IsName w.text)
          → IfSome o (λ w. IsFitEvent P (always (w.text ++ codes "_active")))
      by x1 k = search rules

  -- what a shot posts in each state
  fit_in_states : (p : Profile) (name : List ℕ) → IsName name → IsNamedProfile p
      → All (λ state. All (IsFitEffect P) (map posts (shot_events name p.name state))) p.states
  fit_in_states p name k h =
      All-weaker IsName (λ state. All (IsFitEffect P) (map posts (shot_events name p.name state)))
      (λ state is. fit_posts (shot_events name p.name state) (of.shot name p.name state k h.name is)) p.states h.states

  pub fit_lone : (p : Profile) (s : Shot) → IsNamedShot s → IsNamedProfile p → Fit (lone_device p s)
  fit_lone p s h k = record {
    listens = All-nil IsName;
    event_acts = fit_shot_acts 0 s h;
    other_mentions = All-nil P;
    lists = all_shot_lists (All (IsFitEffect P)) p s.name.text (fit_in_states p s.name.text h.name k);
  }

  pub fit_group : (g : ShotGroup) (m : Members) → IsNamedShotGroup g → IsNamedProfile m.profile
      → Fit (group_device g m)
  fit_group g m h k =
      let Q : List Effect → Type 0 = All (IsFitEffect P) in
      let p = m.profile in
      let name = g.name.text in
      record {
        listens = All-nil IsName;
        event_acts =
            all_group_acts (IsFitEvent P) g (fit_each g.rotates h.rotates) (fit_each g.rotates_right h.rotates_right)
            (fit_each g.rotates_left h.rotates_left) (fit_each g.resets h.resets);
        other_mentions = All-nil P;
        lists = all_group_lists Q p name (texts g.shots)
            (All-map (λ own. All (λ state. Q (map posts (shot_events own p.name state))) p.states)
            (λ (w : WrittenName). w.text) g.shots
            (All-weaker (λ (w : WrittenName). IsName w.text)
            (λ w. All (λ state. Q (map posts (shot_events w.text p.name state))) p.states)
            (λ w i. fit_in_states p w.text i k) g.shots h.shots))
            (All-weaker IsName (λ state. Q (map posts (group_events (codes "_hit") name state)))
            (λ state i. fit_posts (group_events (codes "_hit") name state) (of.group name state h.name i).0)
            p.states k.states)
            (All-weaker IsName (λ state. Q (map posts (group_events (codes "_complete") name state)))
            (λ state i. fit_posts (group_events (codes "_complete") name state) (of.group name state h.name i).1)
            p.states k.states);
      }

  -- ---- ball devices

  pub fit_ball_device : (machine : List SectionRows) (d : BallDeviceEntry) (to : Destination) → IsNamedBallDevice d
      → Fit (ball_device_from machine d to)
  fit_ball_device machine d to h =
      let Q = IsFitEffect P in
      let name = d.name.text in
      let event : (i : ℕ) → i < 5 → P
      (ball_event name (get_or ball_endings i [])) = λ i within. of.ball_device name h.name i [] within in
      record {
        listens = All-map IsName (λ (w : WrittenName). w.text) d.switches h.switches;
        event_acts = All-nil (λ (x : Event × Act). IsFitEvent P x.0);
        other_mentions =
            All-cons P (ball_event name (codes "_ball_enter")) _ (event 0 (omega arith)) (drained (drains machine d));
        lists =
            seven (All Q) _ _ _ _ _ _ _ (one Q _ (event 0 (omega arith)))
            (attempts machine name Q (event 1 (omega arith)) (event 2 (omega arith)) d.eject_coil h.eject_coil)
            (one Q leaves tt) (one Q loses tt) (one Q _ (event 3 (omega arith))) (one Q arrives tt)
            (one Q _ (event 4 (omega arith)));
      }
    where
      drained : (b : Bool) → All P (drain_mentions b)
      drained x1 = search rules

  -- ---- entries

  module _ (e : Entry) (h : IsNamedEntry e) where
    save_fit : (section : List ℕ) → IfSome (save_device_of section e) Fit
    unfolding save_device_of
    save_fit section =
        either Fit (bytes_eq section ball_saves_name) _ _ (fit_save (ball_save_of e) (ball_save_named e h))
        (either Fit (bytes_eq section multiballs_name) _ _ (fit_multiball (multiball_of e) (multiball_named e h)) tt)

    pub device_fit : (section : List ℕ) → IfSome (device_of section e) Fit
    unfolding device_of
    device_fit section =
        either Fit (bytes_eq section counters_name) _ _ (fit_counter (counter_of e) (counter_named e h))
        (either Fit (bytes_eq section accruals_name) _ _
        (fit_steps (kinds.Accrual (step_settings (step_block_of e))) (step_block_of e) (step_block_named e h))
        (either Fit (bytes_eq section sequences_name) _ _
        (fit_steps (kinds.Sequence (step_settings (step_block_of e))) (step_block_of e) (step_block_named e h))
        (either Fit (bytes_eq section timers_name) _ _ (fit_timer (timer_of e) (timer_named e h)) (save_fit section))))
