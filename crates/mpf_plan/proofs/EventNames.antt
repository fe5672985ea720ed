-- What holds of names, and of what is made of them, holds of the name of every event of a plan; its switches have
-- names.
use Rattle.std.proofs.Common.{rules, ℕ, List, [], ◌∷◌, ◌++◌, sym, subst}
use Rattle.std.specs.{Prelude.{Option, IfSome}, List.{All, flat_map}}
use Rattle.std.proofs.lemmas.List.Elements.{All-nil, All-cons, All-head, All-tail, All-append, All-map, All-weaker}
use Rattle.mpf_values.specs.Events.{EventCondition, Event}
use Rattle.mpf_config.specs.{Rows.Rows, Named.IsNamedMode}
use Rattle.mpf_sections.specs.Named.{IsName, IsNamed}
use Rattle.machine_definitions.specs.GameEvents.{game_event_names}
use Rattle.plan_tables.specs.declared.table.Table.{Table, TheVariants.{Events, Switches, Coils, Variables}}
use Rattle.plan_tables.specs.{Limits.entry_names, declared.devices.Act.Act}
use Rattle.plan_tables.specs.declared.entries.ModeEvent.TheVariants.{WillStart, Starting, Started, Stopping, Stopped}
use Rattle.plan_parts.specs.Effects.{mode_event_name, Effect, posts, works, changes, enters}
use Rattle.plan_parts.specs.Parts.{run, Part, switch, coil, game, mode, handler, device, mention, unknown, parts_of}
use Rattle.plan_parts.specs.PartNames.{IsOfNames, IsFitPart, IsFitName, IsFitEffect, IsFitEvent}
use Rattle.plan_parts.proofs.FitFacts.{parts_fit}
use Rattle.mpf_plan.specs.PlanOf.{Use, uses_of, condition_uses, event_uses, effect_uses, lists_in, mode_event_names}
use Rattle.mpf_plan.specs.PlanOf.{settings_uses, part_uses, in_table, names_of, plan_by, plan_of}
use Rattle.mpf_plan.proofs.{Apart.All-first_by, Tables.plan-names}
use Rattle.yaml_bytes.proofs.Each.{All-flat_map}

module _ (P : List ℕ → Type 0) where
  -- the name of a use is fit for its table
  abbrev pub IsFitUse : Use → Type 0
  IsFitUse u = IsFitName P u.0 u.1

  -- ---- the names of one table

  events_fit : (us : List Use) → All IsFitUse us → All P (in_table Events us)
  events_fit [] h = All-nil P
  events_fit (u ∷ us) h = by u.0 u.1 (All-head IsFitUse u us h) (events_fit us (All-tail IsFitUse u us h))
    where
      by : (t : Table) (n : List ℕ) → IsFitName P t n → All P (in_table Events us)
          → All P (in_table Events ((t, n) ∷ us))
      by Events n is rest = All-cons P n (in_table Events us) is rest
      by _ n is rest = rest

  switches_fit : (us : List Use) → All IsFitUse us → All IsName (in_table Switches us)
  switches_fit [] h = All-nil IsName
  switches_fit (u ∷ us) h = by u.0 u.1 (All-head IsFitUse u us h) (switches_fit us (All-tail IsFitUse u us h))
    where
      by : (t : Table) (n : List ℕ) → IsFitName P t n → All IsName (in_table Switches us)
          → All IsName (in_table Switches ((t, n) ∷ us))
      by Switches n is rest = All-cons IsName n (in_table Switches us) is rest
      by _ n is rest = rest

  -- ---- the uses of a part

  of_events : (ns : List (List ℕ)) → All P ns → All IsFitUse (uses_of Events ns)
  of_events ns h = All-map IsFitUse (λ n. (Events, n)) ns h

  of_condition : (o : Option EventCondition) → IfSome o (λ c. IsName c.variable) → All IsFitUse (condition_uses o)
  of_condition x1 h = search (rules, All-cons, All-nil)

  of_event : (e : Event) → IsFitEvent P e → All IsFitUse (event_uses e)
  of_event e h = All-cons IsFitUse (Events, e.name) (condition_uses e.condition) h.0 (of_condition e.condition h.1)

  module _ (of : IsOfNames P) where
    one : (u : Use) → IsFitUse u → All IsFitUse (u ∷ [])
    one u is = All-cons IsFitUse u [] is (All-nil IsFitUse)

    of_effect : (e : Effect) → IsFitEffect P e → All IsFitUse (effect_uses e)
    of_effect (posts n) h = one (Events, n) h
    of_effect (works n deed) h = one (Coils, n) h
    of_effect (changes v action n) h =
        All-cons IsFitUse (Events, _) ((Variables, v) ∷ []) (of.player v h) (one (Variables, v) h)
    of_effect (enters n drain) h = one (Events, n) h
    of_effect _ h = All-nil IsFitUse

    of_list : (es : List Effect) → All (IsFitEffect P) es → All IsFitUse (flat_map effect_uses es)
    of_list es h =
        All-flat_map IsFitUse effect_uses es
        (All-weaker (IsFitEffect P) (λ e. All IsFitUse (effect_uses e)) of_effect es h)

    of_lists : (lists : List (List Effect)) → All (All (IsFitEffect P)) lists
        → All IsFitUse (flat_map (flat_map effect_uses) lists)
    of_lists lists h =
        All-flat_map IsFitUse (flat_map effect_uses) lists
        (All-weaker (All (IsFitEffect P)) (λ es. All IsFitUse (flat_map effect_uses es)) of_list lists h)

    of_settings : (p : Part) → IsFitPart P p → All IsFitUse (settings_uses p)
    of_settings (switch name kind confirms active inactive) h =
        All-cons IsFitUse (Switches, name) (uses_of Events (active ++ inactive)) h.0
        (of_events (active ++ inactive) (All-append P active inactive h.1 h.2))
    of_settings (coil name limits) h = one (Coils, name) h
    of_settings (game min_balls balls_per_game max_players) h = of_events game_event_names of.game_events
    of_settings (mode name s) h =
        of_events (mode_event_names name)
        (All-map P (λ which. mode_event_name which name) (WillStart ∷ Starting ∷ Started ∷ Stopping ∷ Stopped ∷ [])
        (λ i which within. of.mode _ name h))
    of_settings (handler whose e reaction) h = of_event e h.0
    of_settings (device whose d) h =
        let listens = uses_of Switches d.listens in
        let event_acts = flat_map (λ (x : Event × Act). event_uses x.0) d.event_acts in
        All-append IsFitUse (listens ++ event_acts) (uses_of Events d.other_mentions)
        (All-append IsFitUse listens event_acts (All-map IsFitUse (λ n. (Switches, n)) d.listens h.listens)
        (All-flat_map IsFitUse (λ (x : Event × Act). event_uses x.0) d.event_acts
        (All-weaker (λ (x : Event × Act). IsFitEvent P x.0) (λ x. All IsFitUse (event_uses x.0))
        (λ x k. of_event x.0 k) d.event_acts h.event_acts)))
        (of_events d.other_mentions h.other_mentions)
    of_settings (mention table name) h = one (table, name) h
    of_settings unknown h = All-nil IsFitUse

    lists_fit : (p : Part) → IsFitPart P p → All (All (IsFitEffect P)) (lists_in p)
    lists_fit (handler whose e (run es)) h = All-cons (All (IsFitEffect P)) es [] h.1 (All-nil (All (IsFitEffect P)))
    lists_fit (device whose d) h = h.lists
    lists_fit _ h = All-nil (All (IsFitEffect P))

    uses_fit : (rows : Rows) → All IsNamed rows.machine → All IsNamedMode rows.modes
        → All IsFitUse (flat_map part_uses (parts_of rows))
    uses_fit rows machine modes =
        All-flat_map IsFitUse part_uses (parts_of rows)
        (All-weaker (IsFitPart P) (λ p. All IsFitUse (part_uses p))
        (λ p h. All-append IsFitUse (settings_uses p) (flat_map (flat_map effect_uses) (lists_in p)) (of_settings p h)
        (of_lists (lists_in p) (lists_fit p h)))
        (parts_of rows) (parts_fit P of rows machine modes))

  -- if the names in the rows are names, so is what is made of them
  pub event_names : IsOfNames P → (rows : Rows) → All IsNamed rows.machine → All IsNamedMode rows.modes
      → All P (plan_of rows).events
  unfolding plan_of plan_by names_of
  event_names of rows machine modes =
      let us = flat_map part_uses (parts_of rows) in
      All-first_by P (λ n. n) (in_table Events us) (events_fit us (uses_fit of rows machine modes))

-- what holds whatever names are
any_name : IsOfNames (λ n. Unit {0})
any_name = search rules

switches_named : (rows : Rows) → All IsNamed rows.machine → All IsNamedMode rows.modes
    → All IsName (names_of (parts_of rows) Switches)
unfolding names_of
switches_named rows machine modes =
    let us = flat_map part_uses (parts_of rows) in
    All-first_by IsName (λ n. n) (in_table Switches us)
    (switches_fit (λ n. Unit {0}) us (uses_fit (λ n. Unit {0}) any_name rows machine modes))

-- its switches have names, if the names in the rows are names
pub switch_names : (rows : Rows) → All IsNamed rows.machine → All IsNamedMode rows.modes
    → All IsName (entry_names (plan_of rows) Switches)
switch_names rows machine modes =
    subst (All IsName) (sym (plan-names rows Switches)) (switches_named rows machine modes)
