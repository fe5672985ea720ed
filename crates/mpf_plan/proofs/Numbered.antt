-- What a part gives depends on the numbers of the names that it uses, and on no others: so it stays as more names come.
use Rattle.std.proofs.Common.{◌≡◌, ℕ, if◌then◌else◌, List, [], ◌∷◌, ◌++◌, map, refl, sym, ap, ap₂, subst, Option, None}
use Rattle.std.{proofs.{Common.Some, lemmas.List.map-append}, specs.{Prelude.option_map, List.flat_map, Str.bytes_eq}}
use Rattle.mpf_values.specs.Events.{Event, EventCondition}
use Rattle.machine_definitions.specs.GameEvents.{game_event_names}
use Rattle.plan_tables.specs.declared.{entries.{EventId.EventId, Binding.Binding}, devices.{RowId.RowId, Act.Act}}
use Rattle.plan_tables.specs.declared.entries.{ListId.ListId, Target.Target, ModeEvents.ModeEvents}
use Rattle.plan_tables.specs.declared.entries.Condition as numbered
use Rattle.plan_tables.specs.declared.entries.Target.TheVariants as targets
use Rattle.plan_tables.specs.declared.entries.Action.TheVariants.{Post, Change, Enter}
use Rattle.plan_tables.specs.{declared.table.Table.TheVariants.{Events, Switches}, PlanView.{PlanSwitch, PlanMode}}
use Rattle.plan_parts.specs.Effects.{Effect, posts, works, changes, enters}
use Rattle.plan_parts.specs.Parts.{Part, Whose, switch, game, mode, handler, device}
use Rattle.mpf_sections.specs.Rows.{ModeSettings}
use Rattle.mpf_plan.specs.{Uses.{Names, number_among}, PlanOf.switch_for, Drafting.names_by, Named.AreNamed}
use Rattle.mpf_plan.specs.ByNumber.{event_of, action_of, action_with, condition_of}
use Rattle.mpf_plan.specs.PlanOf.{Use, uses_of, condition_uses, event_uses, effect_uses, settings_uses, part_uses}
use Rattle.mpf_plan.specs.PlanOf.{lists_in, target_of, binding_of, bindings_in, actions_in, plan_mode, rules_in}
use Rattle.mpf_plan.proofs.Named.{number_stays, are_named}

-- ---- names that keep their numbers

-- these names have the same numbers
abbrev pub Stay : (old new : Names) → List Use → Type 0
Stay old new [] = Unit {0}
Stay old new (u ∷ us) = (number_among (old u.0) u.1 ≡ number_among (new u.0) u.1) × Stay old new us

pub split : (old new : Names) (us vs : List Use) → Stay old new (us ++ vs) → Stay old new us × Stay old new vs
split old new [] vs stay = (tt, stay)
split old new (u ∷ us) vs stay = ((stay.0, (split old new us vs stay.1).0), (split old new us vs stay.1).1)

-- names that are there keep their numbers as more uses come
pub kept : (us vs more : List Use) → AreNamed us more → Stay (names_by us) (names_by (us ++ vs)) more
kept us vs [] named = tt
kept us vs (u ∷ more) named = (sym (number_stays us vs u named.0), kept us vs more named.1)

-- so do those of uses
pub numbers_stay : (us more vs : List Use) → Stay (names_by (us ++ more)) (names_by ((us ++ more) ++ vs)) more
numbers_stay us more vs = kept (us ++ more) vs more (are_named us more)

-- This depends on the numbers of these uses alone.
abbrev pub DependsOn : {X : Type 0} → List Use → (Names → X) → Type 0
DependsOn us what = (old new : Names) → Stay old new us → what old ≡ what new

-- what is said of each of these depends on what they use
pub all_stay : {X Y : Type 0} (uses : X → List Use) (give : Names → X → Y)
    → ((x : X) → DependsOn (uses x) (λ ns. give ns x)) → (xs : List X)
    → DependsOn (flat_map uses xs) (λ ns. map (give ns) xs)
all_stay uses give each [] old new stay = refl
all_stay uses give each (x ∷ xs) old new stay =
    let (here, rest) = split old new (uses x) (flat_map uses xs) stay in
    ap₂ (λ y ys. y ∷ ys) (each x old new here) (all_stay uses give each xs old new rest)

-- ---- what is said of events and effects

abbrev pub event_at : ℕ → EventId
event_at k = record { 0 = k }

-- a condition, by the number of its variable
abbrev condition_at : EventCondition → ℕ → numbered.Condition
condition_at c v = record { variable = record { 0 = v }; comparison = c.comparison; number = c.number }

pub condition_stays : (o : Option EventCondition) → DependsOn (condition_uses o) (λ ns. option_map (condition_of ns) o)
condition_stays None old new stay = refl
condition_stays (Some c) old new stay = ap (λ v. Some (condition_at c v)) stay.0

pub event_stays : (n : List ℕ) → DependsOn ((Events, n) ∷ []) (λ ns. event_of (ns Events) n)
event_stays n old new stay = ap event_at stay.0

pub events_stay : (names : List (List ℕ)) → DependsOn (uses_of Events names) (λ ns. map (event_of (ns Events)) names)
events_stay [] old new stay = refl
events_stay (n ∷ names) old new stay = ap₂ (λ k ks. event_at k ∷ ks) stay.0 (events_stay names old new stay.1)

-- a binding, with or without a condition
abbrev made : Whose → Target → EventId → Option numbered.Condition → Binding
made whose target e c =
    record { event = e; owner = whose.owner; priority = whose.priority; condition = c; target = target }

pub binding_stays : (whose : Whose) (e : Event) (target : Target)
    → DependsOn (event_uses e) (λ ns. binding_of ns whose e target)
binding_stays whose e target old new stay =
    ap₂ (λ n c. made whose target (event_at n) c) stay.0 (condition_stays e.condition old new stay.1)

pub handled_stay : (whose : Whose) (row : RowId) (hs : List (Event × Act))
    → DependsOn (flat_map (λ h. event_uses h.0) hs) (λ ns. map (λ h. binding_of ns whose h.0 (targets.Act row h.1)) hs)
handled_stay whose row hs =
    all_stay (λ (h : Event × Act). event_uses h.0) (λ ns h. binding_of ns whose h.0 (targets.Act row h.1))
    (λ h. binding_stays whose h.0 (targets.Act row h.1)) hs

pub effect_stays : (row : RowId) (e : Effect) → DependsOn (effect_uses e) (λ ns. action_of ns row e)
effect_stays row (posts n) old new stay = ap (λ k. Post (record { 0 = k })) stay.0
effect_stays row (works n deed) old new stay = ap (λ k. action_with (record { 0 = k }) deed) stay.0
effect_stays row (changes v action n) old new stay =
    ap₂ (λ e k. Change (record { 0 = k }) action n (record { 0 = e })) stay.0 stay.1.0
effect_stays row (enters n drain) old new stay = ap (λ k. Enter row (record { 0 = k }) drain) stay.0
effect_stays row e old new stay = refl

pub list_stays : (row : RowId) (es : List Effect)
    → DependsOn (flat_map effect_uses es) (λ ns. map (action_of ns row) es)
list_stays row es = all_stay effect_uses (λ ns e. action_of ns row e) (effect_stays row) es

pub lists_stay : (row : RowId) (ls : List (List Effect))
    → DependsOn (flat_map (flat_map effect_uses) ls) (λ ns. map (map (action_of ns row)) ls)
lists_stay row ls = all_stay (flat_map effect_uses) (λ ns es. map (action_of ns row) es) (list_stays row) ls

-- ---- what a part gives

pub settings_stay : (old new : Names) (p : Part) → Stay old new (part_uses p) → Stay old new (settings_uses p)
settings_stay old new p stay = (split old new (settings_uses p) (flat_map (flat_map effect_uses) (lists_in p)) stay).0

pub actions_stay : (row : RowId) (p : Part) → DependsOn (part_uses p) (λ ns. actions_in ns row p)
actions_stay row p old new stay =
    lists_stay row (lists_in p) old new (split old new (settings_uses p) (flat_map (flat_map effect_uses) (lists_in p))
    stay).1

pub bindings_stay : (row : RowId) (list : ListId) (p : Part)
    → DependsOn (settings_uses p) (λ ns. bindings_in ns row list p)
bindings_stay row list (handler whose e reaction) old new stay =
    ap (λ b. b ∷ []) (binding_stays whose e (target_of list reaction) old new stay)
bindings_stay row list (device whose d) old new stay =
    let listens = uses_of Switches d.listens in
    let event_acts = flat_map (λ (h : Event × Act). event_uses h.0) d.event_acts in
    let front = (split old new (listens ++ event_acts) (uses_of Events d.other_mentions) stay).0 in
    handled_stay whose row d.event_acts old new (split old new listens event_acts front).1
bindings_stay row list p old new stay = refl

-- a mode, with its events
abbrev mode_with : List ℕ → ModeSettings → ModeEvents → PlanMode
mode_with name s events =
    record {
      name = name;
      mode = record {
        priority = s.priority;
        game = s.game;
        holds_ball_end = s.holds_ball_end;
        events = events;
      };
    }

pub mode_stays : (p : Part) → DependsOn (settings_uses p) (λ ns. plan_mode ns p)
mode_stays (mode name s) old new stay =
    let (will_start, (starting, (started, (stopping, (stopped, end))))) = stay in
    λ i. mode_with name s (record {
      will_start = event_at (will_start i);
      starting = event_at (starting i);
      started = event_at (started i);
      stopping = event_at (stopping i);
      stopped = event_at (stopped i);
    }) ∷ []
mode_stays p old new stay = refl

pub rules_stay : (p : Part) → DependsOn (settings_uses p) (λ ns. rules_in ns p)
rules_stay (game min_balls balls_per_game max_players) old new stay =
    ap (λ events.
    record { min_balls = min_balls; balls_per_game = balls_per_game; max_players = max_players; events = events }
    ∷ []) (events_stay game_event_names old new stay)
rules_stay p old new stay = refl

-- the switch of this name, without its listeners
pub switch_stays : (name : List ℕ) (p : Part) → DependsOn (settings_uses p) (λ ns. switch_for ns name p)
switch_stays name (switch n kind confirms active inactive) old new stay =
    let both = split old new (uses_of Events active) (uses_of Events inactive) (apart active inactive stay.1) in
    ap₂ (λ a i. if bytes_eq name n then made_switch a i ∷ [] else []) (events_stay active old new both.0)
    (events_stay inactive old new both.1)
  where
    apart : (ns ms : List (List ℕ)) → Stay old new (uses_of Events (ns ++ ms))
        → Stay old new (uses_of Events ns ++ uses_of Events ms)
    apart ns ms both = subst (Stay old new) (map-append (λ m. (Events, m)) ns ms) both

    made_switch : List EventId → List EventId → PlanSwitch
    made_switch a i =
        record { name = name; kind = kind; listeners = []; confirms_playfield = confirms; active = a; inactive = i }
switch_stays name p old new stay = refl
