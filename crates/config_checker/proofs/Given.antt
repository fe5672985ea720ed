-- Sound rows use no name that nothing has: each coil and each switch that their parts use is given.
use Rattle.std.proofs.Common.{rules, ◌≡◌, ℕ, Bool, true, false, not, ◌&&◌, ◌||◌, List, [], ◌∷◌, ◌++◌, suc, map, get_or}
use Rattle.std.proofs.Common.{refl, sym, ◌∙◌, ap, ap₂, arith}
use Rattle.std.specs.{Prelude.{Option, None, Some, is_some}, List.{All, flat_map, list_any}, Str.bytes_eq}
use Rattle.std.proofs.lemmas.List.{Elements.{All-nil, All-cons, All-append, All-map, All-weaker}, Folds.list_any_none}
use Rattle.mpf_values.specs.Events.{EventCondition, Event}
use Rattle.mpf_config.specs.Rows.{Rows}
use Rattle.plan_tables.specs.declared.devices.Act.{Act}
use Rattle.plan_tables.specs.declared.table.Table.{Table, TheVariants.{Events, Switches, Coils, Variables}}
use Rattle.machine_definitions.specs.{Definitions.coil_called, GameEvents.game_event_names, Players.player_event}
use Rattle.plan_parts.specs.Effects.{Effect, posts, works, changes, enters, leaves, loses, arrives, requests}
use Rattle.plan_parts.{specs.{Effects.adds_balls, Doing.{IsMention, Does}}, proofs.DoingFacts.all_do}
use Rattle.plan_parts.specs.Parts.{Whose, Device, Part, switch, coil, game, mode, handler, device, mention, unknown}
use Rattle.plan_parts.specs.Parts.{Reaction, run, start, stop, act_on, parts_of}
use Rattle.mpf_plan.specs.{Uses.{Names, is_to_be_given, is_lacking}, Named.{AreNamed, IsNamed}}
use Rattle.mpf_plan.proofs.{DoneGiven.{switch_is_given, coil_is_given}, Named.are_named, DoneNames.does_lists}
use Rattle.mpf_plan.specs.PlanOf.{Use, uses_of, condition_uses, event_uses, effect_uses, lists_in, mode_event_names}
use Rattle.mpf_plan.specs.PlanOf.{settings_uses, part_uses, in_table, part_gives, is_unknown, lacks_name}
use Rattle.row_faults.specs.Sound.{IsSound}
use Rattle.config_checker.proofs.RowsDoing.{IsUnreserved, IsFine, IsThere, rows_doing}
use Rattle.yaml_bytes.proofs.Each.{All-flat_map, All-from_flat_map}

-- ---- lists

all_named : (us more : List Use) → AreNamed us more → All (IsNamed us) more
all_named us [] named = All-nil (IsNamed us)
all_named us (u ∷ more) named = All-cons (IsNamed us) u more named.0 (all_named us more named.1)

module _ (rows : Rows) (sound : IsSound rows) where
  abbrev ps : List Part
  ps = parts_of rows

  abbrev given : Names
  given table = in_table table (flat_map part_gives (parts_of rows))

  -- a use that is not lacking
  abbrev IsGiven : Use → Type 0
  IsGiven u = is_lacking given u ≡ false

  abbrev Doing : Part → Type 0
  Doing p = Does (IsFine rows) (IsUnreserved rows) (IsThere rows) p

  -- what a part gives is given
  own_given : All (λ p. All (IsNamed (flat_map part_gives ps)) (part_gives p)) ps
  own_given =
      let us = flat_map part_gives ps in
      All-from_flat_map (IsNamed us) part_gives ps (all_named us us (are_named [] us))

  named-given : (t : Table) (n : List ℕ) → list_any (bytes_eq n) (given t) ≡ true → IsGiven (t, n)
  named-given t n there = by (is_to_be_given t) (list_any (bytes_eq n) (given t)) there
    where
      by : (b c : Bool) → c ≡ true → (b && not c) ≡ false
      by x1 x2 is = search rules

  events-given : (ns : List (List ℕ)) → All IsGiven (uses_of Events ns)
  events-given ns = All-map IsGiven (λ n. (Events, n)) ns (λ i d within. refl)

  switches-given : (ns : List (List ℕ)) → All (IsThere rows) ns → All IsGiven (uses_of Switches ns)
  switches-given ns there = All-map IsGiven (λ n. (Switches, n)) ns
      (λ i d within. named-given Switches (get_or ns i d) (switch_is_given rows (get_or ns i d) ∙ there i d within))

  coil-given : (n : List ℕ) → is_some (coil_called rows.machine n) ≡ true → IsGiven (Coils, n)
  coil-given n there = named-given Coils n (coil_is_given rows n ∙ there)

  event_acts-given : (e : Event) → All IsGiven (event_uses e)
  event_acts-given e = All-cons IsGiven (Events, e.name) (condition_uses e.condition) refl (by e.condition)
    where
      by : (o : Option EventCondition) → All IsGiven (condition_uses o)
      by None = All-nil IsGiven
      by (Some c) = All-cons IsGiven (Variables, c.variable) [] refl (All-nil IsGiven)

  -- ---- effects

  effect-given : (e : Effect) → IsFine rows e → All IsGiven (effect_uses e)
  effect-given (posts n) h = All-cons IsGiven (Events, n) [] refl (All-nil IsGiven)
  effect-given (works n deed) h = All-cons IsGiven (Coils, n) [] (coil-given n (ap is_some h.by_name)) (All-nil IsGiven)
  effect-given (changes v action n) h = All-cons IsGiven (Events, player_event v) ((Variables, v) ∷ []) refl
      (All-cons IsGiven (Variables, v) [] refl (All-nil IsGiven))
  effect-given (enters n drain) h = All-cons IsGiven (Events, n) [] refl (All-nil IsGiven)
  effect-given _ h = All-nil IsGiven

  -- ---- parts

  mention-given : (t : Table) (n : List ℕ) → IsMention (IsFine rows) (IsUnreserved rows) (IsThere rows) t n
      → IsGiven (t, n)
  mention-given Events n h = refl
  mention-given Switches n h = named-given Switches n (switch_is_given rows n ∙ h)
  mention-given _ n h = absurd h

  settings-given : (p : Part) → Doing p → All (IsNamed (flat_map part_gives ps)) (part_gives p)
      → All IsGiven (settings_uses p)
  settings-given (switch n kind confirms on off) h own =
      All-cons IsGiven (Switches, n) (uses_of Events (on ++ off))
      (named-given Switches n (own 0 (Switches, n) (omega arith))) (events-given (on ++ off))
  settings-given (coil n limits) h own = All-cons IsGiven (Coils, n) []
      (named-given Coils n (own 0 (Coils, n) (omega arith))) (All-nil IsGiven)
  settings-given (game a b c) h own = events-given game_event_names
  settings-given (mode n s) h own = events-given (mode_event_names n)
  settings-given (handler whose e r) h own = event_acts-given e
  settings-given (device whose d) h own =
      let heard = uses_of Switches d.listens in
      let event_acts = flat_map (λ (x : Event × Act). event_uses x.0) d.event_acts in
      All-append IsGiven (heard ++ event_acts) (uses_of Events d.other_mentions)
      (All-append IsGiven heard event_acts (switches-given d.listens h.0.listens)
      (All-flat_map IsGiven (λ (x : Event × Act). event_uses x.0) d.event_acts
      (λ i x within. event_acts-given (get_or d.event_acts i x).0)))
      (events-given d.other_mentions)
  settings-given (mention t n) h own = All-cons IsGiven (t, n) [] (mention-given t n h) (All-nil IsGiven)
  settings-given unknown h own = absurd h

  part-given : (p : Part) → Doing p → All (IsNamed (flat_map part_gives ps)) (part_gives p) → All IsGiven (part_uses p)
  part-given p h own =
      let lists = does_lists (IsFine rows) (IsUnreserved rows) (IsThere rows) p h in
      All-append IsGiven (settings_uses p) (flat_map (flat_map effect_uses) (lists_in p)) (settings-given p h own)
      (All-flat_map IsGiven (flat_map effect_uses) (lists_in p)
      (λ i es within. All-flat_map IsGiven effect_uses (get_or (lists_in p) i es)
      (λ j e inside. effect-given (get_or (get_or (lists_in p) i es) j e) (lists i es within j e inside))))

  known : (p : Part) → Doing p → is_unknown p ≡ false
  known unknown h = absurd h
  known _ h = refl

  pub lacks_nothing : lacks_name (parts_of rows) ≡ false
  unfolding lacks_name
  lacks_nothing =
      let doing = all_do (IsFine rows) (IsUnreserved rows) (IsThere rows) rows (rows_doing rows sound) in
      ap₂ (λ a b. a || b) (list_any_none is_unknown ps (All-weaker Doing (λ p. is_unknown p ≡ false) known ps doing))
      (list_any_none (λ u. is_lacking given u) (flat_map part_uses ps)
      (All-flat_map IsGiven part_uses ps
      (λ i p within. part-given (get_or ps i p) (doing i p within) (own_given i p within))))
