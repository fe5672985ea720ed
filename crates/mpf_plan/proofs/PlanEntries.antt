-- In the plan of parts every number is that of an entry: names are used where they are numbered, and rows and effect
-- lists are there where parts are placed.
use Rattle.std.proofs.Common.{rules, ◌≡◌, ℕ, ◌+◌, ◌<◌, ◌≤◌, ◌⊎◌, inl, inr, Bool, true, false, if◌then◌else◌, List, []}
use Rattle.std.proofs.Common.{◌∷◌, ◌++◌, length, map, get_or, refl, sym, ap, subst, true≢false, arith}
use Rattle.std.specs.Prelude.{Option, None, Some, IfSome, IsSome, option_map, unwrap_or}
use Rattle.std.specs.{Str.bytes_eq, List.{All, flat_map, list_any, last_or}}
use Rattle.std.proofs.lemmas.List.{length-map, Elements.{All-nil, All-cons, All-head, All-tail, All-map, All-weaker}}
use Rattle.mpf_values.specs.Events.{EventCondition, Event}
use Rattle.machine_definitions.specs.{GameEvents.game_event_names, Players.player_event}
use Rattle.plan_tables.specs.declared.entries.{ListId.ListId, Owner.Owner, Target.Target, GameRules.GameRules}
use Rattle.plan_tables.specs.declared.entries.Owner.TheVariants as owners
use Rattle.plan_tables.specs.declared.entries.Target.TheVariants as targets
use Rattle.plan_tables.specs.declared.devices.{RowId.RowId, Act.Act, DeviceRow.DeviceRow, Settings.Settings}
use Rattle.plan_tables.specs.declared.devices.BallTarget.TheVariants as ball_targets
use Rattle.plan_tables.specs.declared.devices.Settings.TheVariants as kinds
use Rattle.plan_tables.specs.declared.table.Table.TheVariants.{Events, Switches, Coils, Variables}
use Rattle.plan_tables.specs.PlanView.{PlanSwitch, no_switch, PlanView, no_row, target_in}
use Rattle.plan_tables.specs.{Devices.list_count, Valid.{IsGameWithin, IsTargetThere, IsRowWithin, HasEntries}}
use Rattle.plan_tables.specs.Valid.{IsEventWithin, IsModeWithin, IsSwitchWithin, IsListenerWithin, HasGame}
use Rattle.plan_tables.specs.Valid.{IsActionWithin, IsTargetWithin, IsOwnerWithin, IsConditionWithin, IsBindingWithin}
use Rattle.plan_parts.specs.Effects.{pulse, enable, disable, Effect, posts, works, changes, enters, leaves, loses}
use Rattle.plan_parts.specs.{Effects.{arrives, requests, adds_balls}, PartKinds.{is_game_part, rows_of_parts, IsRowOf}}
use Rattle.plan_parts.{specs.{Parts.{handler, device}, PartBalls.{IsOfNoBall, DrainsIn}}, proofs.RowFacts.no_drain}
use Rattle.plan_parts.specs.Parts.{Whose, Device, Reaction, run, start, stop, act_on, Part, switch, game, mode}
use Rattle.plan_parts.specs.PartBounds.{IsOwnerBelow, IsTargetAmong, IsPart, IsReaction}
use Rattle.mpf_plan.specs.{Uses.{Names, number_among}, ByNumber.{event_of, action_of, condition_of, rules_of}}
use Rattle.mpf_plan.specs.PlanOf.{Use, uses_of, condition_uses, event_uses, effect_uses, lists_in, settings_uses}
use Rattle.mpf_plan.specs.PlanOf.{part_uses, names_of, PartPlace, row_count, part_places}
use Rattle.mpf_plan.specs.PlanOf.{listeners, target_of as target_by, binding_of, bindings_in}
use Rattle.mpf_plan.specs.PlanOf.{actions_in, plan_mode, rules_in, switch_for, switch_called, plan_by}
use Rattle.mpf_plan.proofs.{Among.{IsAmong, uses_among}, Laws.{rows_of_all, lists_of_all, rows_counted, lists_counted}}
use Rattle.mpf_plan.proofs.PlacedParts.{IsSited, all_placed, row_at_number, tags_are, rows_same, row_there}
use Rattle.yaml_bytes.proofs.Each.{All-flat_map, All-parts, All-from_flat_map}

-- ---- the last of some

module _ {X : Type 0} (P : X → Type 0) where
  pub last_such : (o : Option X) (xs : List X) → IfSome o P → All P xs → IfSome (last_or o xs) P
  last_such o [] is all = is
  last_such o (x ∷ xs) is all = last_such (Some x) xs (All-head P x xs all) (All-tail P x xs all)

  pub unwrap_such : (o : Option X) (d : X) → IfSome o P → P d → P (unwrap_or o d)
  unwrap_such x1 d is own = search rules

-- ---- what is said by number

-- A plan with so many events, coils and variables as there are names, with so many modes, rows and effect lists, and
-- with
-- a game where `has` holds.
pub record HasSizes (names : Names) (mode_count row_count list_count : ℕ) (has : Bool) (plan : PlanView) : Type 0 where
  pub events : length plan.events ≡ length (names Events)
  pub coils : length plan.coils ≡ length (names Coils)
  pub variables : length plan.variables ≡ length (names Variables)
  pub modes : length plan.modes ≡ mode_count
  pub rows : length plan.rows ≡ row_count
  pub lists : length plan.lists ≡ list_count
  pub game : has ≡ true → HasGame plan

module _ (names : Names) (modes rows lists : ℕ) (has : Bool) (plan : PlanView)
    (sizes : HasSizes names modes rows lists has plan) where
  abbrev Among : Use → Type 0
  Among u = IsAmong names u

  -- what happens with balls is of a row that is there
  abbrev IsAtHome : RowId → Effect → Type 0
  IsAtHome r e = IsOfNoBall e ⊎ (r.0 < rows)

  at_row : (r : RowId) → ⊥ ⊎ (r.0 < rows) → r.0 < length plan.rows
  at_row r (inl none) = absurd none
  at_row r (inr there) = omega (arith, there, sizes.rows)

  event_within : (n : List ℕ) → Among (Events, n) → number_among (names Events) n < length plan.events
  event_within n is = omega (arith, is, sizes.events)

  coil_within : (n : List ℕ) → Among (Coils, n) → number_among (names Coils) n < length plan.coils
  coil_within n is = omega (arith, is, sizes.coils)

  variable_within : (n : List ℕ) → Among (Variables, n) → number_among (names Variables) n < length plan.variables
  variable_within n is = omega (arith, is, sizes.variables)

  action_within : (r : RowId) (e : Effect) → All Among (effect_uses e) → IsAtHome r e → DrainsIn has e
      → IsActionWithin plan (action_of names r e)
  action_within r (posts n) among home drains = event_within n (among 0 (Events, n) (omega arith))
  action_within r (works n (pulse ms power)) among home drains = coil_within n (among 0 (Coils, n) (omega arith))
  action_within r (works n (enable power)) among home drains = coil_within n (among 0 (Coils, n) (omega arith))
  action_within r (works n disable) among home drains = coil_within n (among 0 (Coils, n) (omega arith))
  action_within r (changes v action n) among home drains = (
    variable_within v (among 1 (Variables, v) (omega arith)),
    event_within (player_event v) (among 0 (Events, v) (omega arith)),
  )
  action_within r (enters n drain) among home drains =
      (at_row r home, event_within n (among 0 (Events, n) (omega arith)), λ is. sizes.game (drains is))
  action_within r leaves among home drains = at_row r home
  action_within r loses among home drains = at_row r home
  action_within r arrives among home drains = at_row r home
  action_within r (requests n) among home drains = tt
  action_within r (adds_balls n) among home drains = tt

  owner_within : (o : Owner) → IsOwnerBelow modes o → IsOwnerWithin plan o
  owner_within owners.Machine below = tt
  owner_within (owners.Mode m) below = omega (arith, below, sizes.modes)

  condition_within : (o : Option EventCondition) → All Among (condition_uses o)
      → IsConditionWithin plan (option_map (condition_of names) o)
  condition_within None among = tt
  condition_within (Some c) among = variable_within c.variable (among 0 (Variables, c.variable) (omega arith))

  binding_within : (whose : Whose) (e : Event) (target : Target) → All Among (event_uses e)
      → IsOwnerBelow modes whose.owner → IsTargetWithin plan target
      → IsBindingWithin plan (binding_of names whose e target)
  binding_within whose e target among below there = (
    event_within e.name (All-head Among (Events, e.name) (condition_uses e.condition) among),
    owner_within whose.owner below,
    there,
    condition_within e.condition (All-tail Among (Events, e.name) (condition_uses e.condition) among),
  )

-- ---- the plan of parts

some_last : (xs : List GameRules) (x : GameRules) → IsSome (last_or (Some x) xs)
some_last [] x = refl
some_last (y ∷ xs) x = some_last xs y

-- if a part is the game there are rules
rules_there : (names : Names) (qs : List Part) → list_any is_game_part qs ≡ true → (o : Option GameRules)
    → IsSome (last_or o (flat_map (rules_in names) qs))
rules_there names [] is o = absurd (true≢false (sym is))
rules_there names (game min_balls balls_per_game max_players ∷ qs) is o =
    some_last (flat_map (rules_in names) qs) (rules_of (names Events) min_balls balls_per_game max_players)
rules_there names (q ∷ qs) is o = rules_there names qs is o

-- the names of events among uses
pub named_events : (names : Names) (ns : List (List ℕ)) → All (IsAmong names) (uses_of Events ns)
    → All (λ n. IsAmong names (Events, n)) ns
named_events names [] among = All-nil (λ n. IsAmong names (Events, n))
named_events names (n ∷ ns) among =
    All-cons (λ m. IsAmong names (Events, m)) n ns (All-head (IsAmong names) (Events, n) (uses_of Events ns) among)
    (named_events names ns (All-tail (IsAmong names) (Events, n) (uses_of Events ns) among))

-- where a device with these settings ejects balls to; the playfield, if it is no ball device
target_there : (rows count : ℕ) (settings : Settings) → rows ≡ count → IsTargetAmong rows settings
    → IsTargetThere count (unwrap_or (target_in settings) ball_targets.Playfield)
target_there rows count (kinds.BallDevice d) same is = subst (λ n. IsTargetThere n d.target) same is
target_there rows count _ same is = tt

module _ (S Short : Type 0) (ps : List Part) (modes : ℕ) where
  abbrev names : Names
  names = names_of ps

  abbrev plan : PlanView
  plan = plan_by names ps

  abbrev devices : List (Whose × Device)
  devices = rows_of_parts ps

  abbrev has : Bool
  has = list_any is_game_part ps

  -- a part is as it is to be, and the names that it uses are among the names
  abbrev Good : Part → Type 0
  Good p = IsPart S Short modes devices has p × All (IsAmong names) (part_uses p)

  module _ (are : All (IsPart S Short modes devices has) ps) (count : length plan.modes ≡ modes) where
    all_good : All Good ps
    all_good i d within = (are i d within, uses_among ps i d within)

    -- ---- how many there are

    sizes : HasSizes names modes (rows_of_all ps) (lists_of_all ps) has plan
    unfolding plan_by
    sizes = record {
      events = refl;
      coils = length-map (names Coils) _;
      variables = refl;
      modes = count;
      rows = rows_counted names ps;
      lists = lists_counted names ps;
      game = λ is. rules_there names ps is None;
    }

    -- ---- what parts name

    settings_among : (p : Part) → Good p → All (IsAmong names) (settings_uses p)
    settings_among p good =
        (All-parts (IsAmong names) (settings_uses p) (flat_map (flat_map effect_uses) (lists_in p)) good.1).0

    -- each effect of its lists
    abbrev IsDone : RowId → Effect → Type 0
    IsDone r e = All (IsAmong names) (effect_uses e) × (IsOfNoBall e ⊎ (r.0 < rows_of_all ps)) × DrainsIn has e

    effects_among : (p : Part) → Good p → All (λ es. All (λ e. All (IsAmong names) (effect_uses e)) es) (lists_in p)
    effects_among p good =
        let rest =
        (All-parts (IsAmong names) (settings_uses p) (flat_map (flat_map effect_uses) (lists_in p)) good.1).1 in
        λ i es within. All-from_flat_map (IsAmong names) effect_uses (get_or (lists_in p) i es)
        (All-from_flat_map (IsAmong names) (flat_map effect_uses) (lists_in p) rest i es within)

    effects_home : (x : PartPlace) → IsSited Good (rows_of_all ps) (lists_of_all ps) x
        → All (All (λ e. (IsOfNoBall e ⊎ (x.row.0 < rows_of_all ps)) × DrainsIn has e)) (lists_in x.part)
    effects_home x sited = by x.part x.row sited.0.row sited.1.0
      where
        by : (p : Part) (r : RowId) → r.0 + row_count p ≤ rows_of_all ps → IsPart S Short modes devices has p
            → All (All (λ e. (IsOfNoBall e ⊎ (r.0 < rows_of_all ps)) × DrainsIn has e)) (lists_in p)
        by (handler whose e (run es)) r there is =
            All-cons (All (λ e. (IsOfNoBall e ⊎ (r.0 < rows_of_all ps)) × DrainsIn has e)) es []
            (All-weaker IsOfNoBall (λ e. (IsOfNoBall e ⊎ (r.0 < rows_of_all ps)) × DrainsIn has e)
            (λ e no. (inl no, no_drain has e no)) es is.1.0)
            (All-nil (All (λ e. (IsOfNoBall e ⊎ (r.0 < rows_of_all ps)) × DrainsIn has e)))
        by (device whose d) r there is =
            let own : r.0 < rows_of_all ps = omega (arith, there) in
            All-weaker (All (DrainsIn has)) (All (λ e. (IsOfNoBall e ⊎ (r.0 < rows_of_all ps)) × DrainsIn has e))
            (λ es h. All-weaker (DrainsIn has) (λ e. (IsOfNoBall e ⊎ (r.0 < rows_of_all ps)) × DrainsIn has e)
            (λ e drains. (inr own, drains)) es h) d.lists is.drains
        by _ r there is = All-nil (All (λ (e : Effect). (IsOfNoBall e ⊎ (r.0 < rows_of_all ps)) × DrainsIn has e))

    -- ---- effect lists

    lists_within : All (All (IsActionWithin plan)) (flat_map (λ x. actions_in names x.row x.part) (part_places ps))
    lists_within =
        All-flat_map (All (IsActionWithin plan)) (λ x. actions_in names x.row x.part) (part_places ps)
        (All-weaker (IsSited Good (rows_of_all ps) (lists_of_all ps))
        (λ x. All (All (IsActionWithin plan)) (actions_in names x.row x.part)) of_part (part_places ps)
        (all_placed Good ps all_good))
      where
        of_part : (x : PartPlace) → IsSited Good (rows_of_all ps) (lists_of_all ps) x
            → All (All (IsActionWithin plan)) (actions_in names x.row x.part)
        of_part x sited =
            All-map (All (IsActionWithin plan)) (map (action_of names x.row)) (lists_in x.part)
            (λ i es within.
            All-map (IsActionWithin plan) (action_of names x.row) (get_or (lists_in x.part) i es)
            (λ j e inside.
            let home = effects_home x sited i es within j e inside in
            action_within names modes (rows_of_all ps) (lists_of_all ps) has plan sizes x.row
            (get_or (get_or (lists_in x.part) i es) j e)
            (effects_among x.part sited.1 i es within j e inside) home.0 home.1))

    -- ---- bindings

    row_within : (r : RowId) (whose : Whose) → IsRowOf devices r.0 whose false → r.0 < length plan.rows
    unfolding plan_by
    row_within r whose is = (row_there plan.rows devices (tags_are ps) r.0 whose false is).0

    bindings_within : All (IsBindingWithin plan)
        (flat_map (λ x. bindings_in names x.row x.list x.part) (part_places ps))
    bindings_within =
        All-flat_map (IsBindingWithin plan) (λ x. bindings_in names x.row x.list x.part) (part_places ps)
        (All-weaker (IsSited Good (rows_of_all ps) (lists_of_all ps))
        (λ x. All (IsBindingWithin plan) (bindings_in names x.row x.list x.part))
        (λ x sited. of_part x.part x.row x.list sited.0.row sited.0.list sited.1) (part_places ps)
        (all_placed Good ps all_good))
      where
        within : (whose : Whose) (e : Event) (target : Target) → All (IsAmong names) (event_uses e)
            → IsOwnerBelow modes whose.owner → IsTargetWithin plan target
            → IsBindingWithin plan (binding_of names whose e target)
        within whose e target among below there =
            binding_within names modes (rows_of_all ps)
            (lists_of_all ps) has plan sizes whose e target among below there

        reached : (reaction : Reaction) (whose : Whose) (e : Event) (list : ListId)
            → list.0 + length (lists_in (handler whose e reaction)) ≤ lists_of_all ps
            → IsReaction S Short modes devices has whose reaction
            → IsTargetWithin plan (target_by list reaction)
        reached (run es) whose e list room is = let lists = sizes.lists in omega (arith, room, lists)
        reached (start m) whose e list room is = let modes = sizes.modes in omega (arith, is, modes)
        reached (stop m) whose e list room is = let modes = sizes.modes in omega (arith, is, modes)
        reached (act_on r act) whose e list room is = row_within r whose is

        of_part : (p : Part) (r : RowId) (list : ListId) → r.0 + row_count p ≤ rows_of_all ps
            → list.0 + length (lists_in p) ≤ lists_of_all ps → Good p
            → All (IsBindingWithin plan) (bindings_in names r list p)
        of_part (handler whose e reaction) r list there room good =
            All-cons (IsBindingWithin plan) (binding_of names whose e (target_by list reaction)) []
            (within whose e (target_by list reaction) (settings_among (handler whose e reaction) good) good.0.0
            (reached reaction whose e list room good.0.1)) (All-nil (IsBindingWithin plan))
        of_part (device whose d) r list there room good =
            let named = settings_among (device whose d) good in
            let heard = uses_of Switches d.listens in
            let event_acts = flat_map (λ (h : Event × Act). event_uses h.0) d.event_acts in
            let mine =
            (All-parts (IsAmong names) heard event_acts
            (All-parts (IsAmong names) (heard ++ event_acts) (uses_of Events d.other_mentions) named).0).1 in
            let rows = sizes.rows in
            All-map (IsBindingWithin plan)
            (λ (h : Event × Act). binding_of names whose h.0 (targets.Act r h.1)) d.event_acts
            (All-weaker (λ (h : Event × Act). All (IsAmong names) (event_uses h.0))
            (λ h. IsBindingWithin plan (binding_of names whose h.0 (targets.Act r h.1)))
            (λ h among. within whose h.0 (targets.Act r h.1) among good.0.owner (omega (arith, there, rows)))
            d.event_acts (All-from_flat_map (IsAmong names) (λ (h : Event × Act). event_uses h.0) d.event_acts
            mine))
        of_part _ r list there room good = All-nil (IsBindingWithin plan)

    -- ---- modes and switches

    pub modes_within : All (IsModeWithin (length (names Events))) (flat_map (plan_mode names) ps)
    modes_within =
        All-flat_map (IsModeWithin (length (names Events))) (plan_mode names) ps
        (All-weaker Good (λ p. All (IsModeWithin (length (names Events))) (plan_mode names p)) of_part ps all_good)
      where
        of_part : (p : Part) → Good p → All (IsModeWithin (length (names Events))) (plan_mode names p)
        of_part (mode name s) good =
            let among = good.1 in
            All-cons (IsModeWithin (length (names Events))) _ []
            (record {
              will_start = among 0 (Events, name) (omega arith);
              starting = among 1 (Events, name) (omega arith);
              started = among 2 (Events, name) (omega arith);
              stopping = among 3 (Events, name) (omega arith);
              stopped = among 4 (Events, name) (omega arith);
            })
            (All-nil (IsModeWithin (length (names Events))))
        of_part _ good = All-nil (IsModeWithin (length (names Events)))

    numbered : (ns : List (List ℕ)) → All (λ n. IsAmong names (Events, n)) ns
        → All (IsEventWithin (length (names Events))) (map (event_of (names Events)) ns)
    numbered ns among = All-map (IsEventWithin (length (names Events))) (event_of (names Events)) ns among

    switch_within : (name : List ℕ) → IsSwitchWithin (length (names Events)) (switch_called names ps name)
    switch_within name =
        unwrap_such W (last_or None (flat_map (switch_for names name) ps)) (record no_switch { name = name })
        (last_such W None (flat_map (switch_for names name) ps) tt
        (All-flat_map W (switch_for names name) ps
        (All-weaker Good (λ p. All W (switch_for names name p)) of_part ps all_good)))
        (All-nil (IsEventWithin (length (names Events))), All-nil (IsEventWithin (length (names Events))))
      where
        W : PlanSwitch → Type 0
        W s = IsSwitchWithin (length (names Events)) s

        where_it : (b : Bool) (s : PlanSwitch) → W s → All W (if b then s ∷ [] else [])
        where_it true s is = All-cons W s [] is (All-nil W)
        where_it false s is = All-nil W

        of_part : (p : Part) → Good p → All W (switch_for names name p)
        of_part (switch n kind confirms active inactive) good =
            let used = named_events names (active ++ inactive)
            (All-tail (IsAmong names) (Switches, n) (uses_of Events (active ++ inactive))
            (settings_among (switch n kind confirms active inactive) good)) in
            let both = All-parts (λ m. IsAmong names (Events, m)) active inactive used in
            where_it (bytes_eq name n) _ (numbered active both.0, numbered inactive both.1)
        of_part _ good = All-nil W

    -- ---- rows

    rows_within : (r : RowId) → r.0 < length plan.rows → S → IsRowWithin plan r
    unfolding plan_by part_places
    rows_within r within s =
        let at = row_at_number (IsPart S Short modes devices has) ps are r.0 no_row (record { 0 = 0 }) within in
        let is = at.is in
        let lists = lists_counted names ps in
        record {
          number = ap (λ (x : DeviceRow). x.number) at.row_is;
          owner =
              subst (λ (x : DeviceRow). IsOwnerWithin plan x.owner) (sym at.row_is)
              (owner_within names modes (rows_of_all ps) (lists_of_all ps) has plan sizes at.whose.owner is.owner);
          target =
              subst
              (λ (x : DeviceRow). IsTargetThere (length plan.rows)
              (unwrap_or (target_in x.settings) ball_targets.Playfield)) (sym at.row_is)
              (target_there (length devices) (length plan.rows) at.d.settings
              (sym (rows_same plan.rows devices (tags_are ps))) is.target);
          lists = omega (arith, at.room, is.count s, ap (λ (x : DeviceRow). list_count x.settings) at.row_is, lists);
        }

    -- ---- the game

    game_within : IfSome (last_or None (flat_map (rules_in names) ps)) (IsGameWithin (length (names Events)))
    game_within = last_such (IsGameWithin (length (names Events))) None (flat_map (rules_in names) ps) tt
        (All-flat_map (IsGameWithin (length (names Events))) (rules_in names) ps
        (All-weaker Good (λ p. All (IsGameWithin (length (names Events))) (rules_in names p)) of_part ps all_good))
      where
        of_part : (p : Part) → Good p → All (IsGameWithin (length (names Events))) (rules_in names p)
        of_part (game min_balls balls_per_game max_players) good =
            let limits = good.0 in
            All-cons (IsGameWithin (length (names Events)))
            (rules_of (names Events) min_balls balls_per_game max_players) []
            (record {
              within =
                  numbered game_event_names
                  (named_events names game_event_names
                  (settings_among (game min_balls balls_per_game max_players) good));
              min_balls = limits.min_balls_within;
              some_ball = limits.some_ball;
              balls = limits.balls;
              some_player = limits.some_player;
              players = limits.players;
            })
            (All-nil (IsGameWithin (length (names Events))))
        of_part _ good = All-nil (IsGameWithin (length (names Events)))

    -- ---- all of it

    -- if listeners are those of rows
    pub has_entries : All (λ s. All (IsListenerWithin (length plan.rows)) s.listeners) plan.switches → S
        → HasEntries plan
    unfolding plan_by
    has_entries listeners s = record {
      modes = modes_within;
      switches =
          All-map (IsSwitchWithin (length (names Events))) (switch_called names ps) (names Switches)
          (λ i n within. switch_within (get_or (names Switches) i n));
      listeners = listeners;
      lists = lists_within;
      bindings = bindings_within;
      rows = λ r within. rows_within r within s;
      game = game_within;
    }
