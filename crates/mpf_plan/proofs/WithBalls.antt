-- What the plan of parts does with balls is right.
use Rattle.std.proofs.Common.{rules, ◌≡◌, ℕ, ◌+◌, ◌<◌, ◌≤◌, Bool, true, false, List, [], ◌∷◌, ◌++◌, length, map, get_or}
use Rattle.std.proofs.Common.{refl, sym, ◌∙◌, ap, subst, arith}
use Rattle.std.specs.{Prelude.{Option, None, Some, slice_get, Ok}, List.{All, AllPairs, flat_map, list_any}}
use Rattle.std.proofs.lemmas.List.Elements.{All-nil, All-cons, All-map, All-weaker}
use Rattle.mpf_values.specs.Events.{Event}
use Rattle.mpf_config.specs.{Rows.Rows, States.HaveStates}
use Rattle.plan_tables.specs.{Devices.list_count, BallRows.{BallDevicesAreOwn, BookingsAreRight}}
use Rattle.plan_tables.specs.declared.devices.{RowId.RowId, Settings.Settings}
use Rattle.plan_tables.specs.declared.table.Table.TheVariants.{Events, Switches}
use Rattle.plan_tables.specs.declared.devices.{Act.Act as ActOfDevice, DeviceRow.DeviceRow}
use Rattle.plan_tables.specs.declared.devices.Settings.TheVariants as kinds
use Rattle.plan_tables.specs.declared.entries.{Action.Action, ListId.ListId, Binding.Binding}
use Rattle.plan_tables.specs.declared.entries.Target.{Target, TheVariants.{Run, Start, Stop, Act}}
use Rattle.plan_tables.specs.PlanView.{PlanSwitch, PlanView, no_row, row_at, list_of_row, actions_at}
use Rattle.plan_tables.specs.BallRows.{IsNoBallDevice, IsSwitchOf, BooksNothing, IsPlain, BooksBalls, BooksRightly}
use Rattle.plan_tables.specs.BallRows.{actions_in, IsOffBalls, AreOfTwoRows, AreApart, IsOwnBallDevice}
use Rattle.plan_parts.specs.Effects.{pulse, enable, disable, Effect, posts, works, changes, enters, leaves, loses}
use Rattle.plan_parts.specs.{Effects.{arrives, requests, adds_balls}, Doing.IsHeardOnce}
use Rattle.plan_parts.specs.Parts.{Whose, Device, Part, switch, coil, game, mode, handler, device, mention, unknown}
use Rattle.plan_parts.specs.Parts.{Reaction, run, start, stop, act_on, parts_of}
use Rattle.plan_parts.specs.PartBalls.{IsOfNoBall, IsBallFree, IsBallDevice, IsRightDevice, IsRight}
use Rattle.plan_parts.specs.{PartKinds.{is_ball, rows_of_parts, IsRowOf}, PartBounds.{IsKindOf, IsDevicePart, IsPartOf}}
use Rattle.plan_parts.proofs.{RowFacts.parts_are, BallFacts.devices_are_right}
use Rattle.mpf_plan.specs.{Uses.Names, ByNumber.{event_of, action_of}}
use Rattle.mpf_plan.specs.PlanOf.{in_table, part_uses, lists_in, names_of, PartPlace, part_places, placed_from, plan_at}
use Rattle.mpf_plan.specs.PlanOf.{row_count, device_row, bindings_in, binding_of, switch_called, plan_by, plan_of}
use Rattle.mpf_plan.proofs.Apart as names_apart
use Rattle.mpf_plan.proofs.{Judged.plan_at-Ok, DoneNames.All-placed}
use Rattle.mpf_plan.proofs.{PlacedParts.{tags_are, row_there}, BallListeners.all_listen_apart}
use Rattle.mpf_plan.proofs.RowActions.{listens_of, IsDeviceAt, IsStanding, all_stand, OfRow, rows_each}
use Rattle.mpf_plan.proofs.BallListeners.{IsHeardAs, all_heard, listening, once_listening, flat_listening}
use Rattle.yaml_bytes.proofs.Each.{All-flat_map}

-- ---- effects by number

no_ball : (names : Names) (r : RowId) (e : Effect) → IsOfNoBall e → BooksNothing (action_of names r e)
no_ball names r (works x (pulse ms power)) is = tt
no_ball names r (works x (enable power)) is = tt
no_ball names r (works x disable) is = tt
no_ball names r (posts x) is = tt
no_ball names r (changes v action m) is = tt
no_ball names r (requests m) is = tt
no_ball names r (adds_balls m) is = tt
no_ball names r _ is = absurd is

no_balls : (names : Names) (r : RowId) (es : List Effect) → All IsOfNoBall es
    → All BooksNothing (map (action_of names r) es)
no_balls names r es none = All-map BooksNothing (action_of names r) es
    (All-weaker IsOfNoBall (λ e. BooksNothing (action_of names r e)) (no_ball names r) es none)

plain_free : (names : Names) (r : RowId) (e : Effect) → IsBallFree e → IsPlain (action_of names r e)
plain_free names r (works x (pulse ms power)) is = tt
plain_free names r (works x (enable power)) is = tt
plain_free names r (works x disable) is = tt
plain_free names r (posts x) is = tt
plain_free names r (changes v action m) is = tt
plain_free names r _ is = absurd is

all_plain : (names : Names) (r : RowId) (es : List Effect) → All IsBallFree es
    → All IsPlain (map (action_of names r) es)
all_plain names r es free = All-map IsPlain (action_of names r) es
    (All-weaker IsBallFree (λ e. IsPlain (action_of names r e)) (plain_free names r) es free)

-- ---- rows by their numbers

-- a device has all lists that its settings say
abbrev HasLists : Part → Type 0
HasLists (device whose d) = list_count d.settings ≤ length d.lists
HasLists _ = Unit {0}

-- what a handler does: it runs nothing of balls, and acts on no ball device
abbrev IsReaction : List (Whose × Device) → Whose → Reaction → Type 0
IsReaction rows whose (run es) = All IsOfNoBall es
IsReaction rows whose (act_on r act) = IsRowOf rows r.0 whose false
IsReaction rows whose _ = Unit {0}

abbrev IsOffBallsOf : List (Whose × Device) → Part → Type 0
IsOffBallsOf rows (handler whose e reaction) = IsReaction rows whose reaction
IsOffBallsOf rows _ = Unit {0}

no_ball_device : (s : Settings) → is_ball s ≡ false → IsNoBallDevice s
no_ball_device (kinds.BallDevice b) is = absurd cc
no_ball_device _ is = tt

module _ (names : Names) (ps : List Part) (right : All IsRight ps) (once : All IsHeardOnce ps)
    (counts : All HasLists ps) (off : All (IsOffBallsOf (rows_of_parts ps)) ps) where
  abbrev plan : PlanView
  plan = plan_by names ps

  abbrev Standing : PartPlace → Type 0
  Standing q = IsStanding names plan.rows plan.row_lists plan.lists (flat_map listens_of ps) q.row q.list q.part

  standing : All Standing (part_places ps)
  standing = all_stand names ps

  of_placed : (Q : Part → Type 0) → All Q ps → All (λ q. Q q.part) (part_places ps)
  unfolding part_places
  of_placed Q h = All-placed Q ps 0 0 h

  -- ---- the lists of rows

  module _ (row : RowId) (list : ListId) (whose : Whose) (d : Device)
      (stands : IsStanding names plan.rows plan.row_lists plan.lists (flat_map listens_of ps) row list
      (device whose d)) where
    list_is : (k : ℕ) → k < length d.lists → actions_in plan row k ≡ map (action_of names row) (get_or d.lists k [])
    list_is k within = ap (λ (first : ListId). get_or plan.lists (first.0 + k) []) stands.list_is
        ∙ stands.lists_are k within

    books : (s : Settings) → IsRightDevice s d → list_count s ≤ length d.lists
        → BooksRightly row s (actions_in plan row)
    books (kinds.BallDevice b) is count = record {
      event = event_of (names Events) is.lists.event;
      drain = is.lists.drain;
      entry = list_is 0 (omega (arith, is.count)) ∙ ap (map (action_of names row)) is.lists.entry;
      attempt = subst (All IsPlain) (sym (list_is 1 (omega (arith, is.count))))
          (all_plain names row (get_or d.lists 1 []) is.lists.attempt);
      exit = list_is 2 (omega (arith, is.count)) ∙ ap (map (action_of names row)) is.lists.exit;
      loss = list_is 3 (omega (arith, is.count)) ∙ ap (map (action_of names row)) is.lists.loss;
      success = subst (All IsPlain) (sym (list_is 4 (omega (arith, is.count))))
          (all_plain names row (get_or d.lists 4 []) is.lists.success);
      arrival = list_is 5 (omega (arith, is.count)) ∙ ap (map (action_of names row)) is.lists.arrival;
      failure = subst (All IsPlain) (sym (list_is 6 (omega (arith, is.count))))
          (all_plain names row (get_or d.lists 6 []) is.lists.failure);
    }
    books _ is count = λ k below.
        let within : k < length d.lists = omega (arith, below, count) in
        subst (All BooksNothing) (sym (list_is k within)) (no_balls names row (get_or d.lists k []) (is k [] within))

    row_books : IsRight (device whose d) → HasLists (device whose d)
        → BooksRightly row (row_at plan row).settings (actions_in plan row)
    row_books is count = subst (λ (r : DeviceRow). BooksRightly row r.settings (actions_in plan row))
        (sym stands.row_is) (books d.settings is count)

  abbrev BooksAt : ℕ → Type 0
  BooksAt k = BooksRightly (record { 0 = k }) (row_at plan (record { 0 = k })).settings
      (actions_in plan (record { 0 = k }))

  rows_book : (r : RowId) → r.0 < length plan.rows → BooksRightly r (row_at plan r).settings (actions_in plan r)
  rows_book r within =
      rows_each names BooksAt ps
      (λ i q inside. by (get_or (part_places ps) i q) (standing i q inside) (of_placed IsRight right i q inside)
      (of_placed HasLists counts i q inside)) r.0 within
    where
      by : (q : PartPlace) → Standing q → IsRight q.part → HasLists q.part → OfRow names BooksAt q.row.0 q.part
      by q = at q.row q.list q.part
        where
          at : (row : RowId) (list : ListId) (p : Part)
              → IsStanding names plan.rows plan.row_lists plan.lists (flat_map listens_of ps) row list p → IsRight p
              → HasLists p → OfRow names BooksAt row.0 p
          at row list (device whose d) stands is count = row_books row list whose d stands is count
          at row list _ stands is count = tt

  -- ---- bindings

  -- a row that a part acts on is that of no ball device
  row_off : (r : ℕ) (whose : Whose) → IsRowOf (rows_of_parts ps) r whose false
      → IsNoBallDevice (row_at plan (record { 0 = r })).settings
  unfolding plan_by
  row_off r whose is = no_ball_device (row_at plan (record { 0 = r })).settings
      (row_there plan.rows (rows_of_parts ps) (tags_are ps) r whose false is).2

  abbrev IsOff : Binding → Type 0
  IsOff b = IsOffBalls plan b.target

  handled_off : (row : RowId) (list : ListId) (whose : Whose) (d : Device)
      → IsStanding names plan.rows plan.row_lists plan.lists (flat_map listens_of ps) row list (device whose d)
      → (s : Settings) → d.settings ≡ s → IsRightDevice s d
      → All IsOff (map (λ h. binding_of names whose h.0 (Act row h.1)) d.event_acts)
  handled_off row list whose d stands (kinds.BallDevice b) same is =
      subst (λ (hs : List (Event × ActOfDevice)). All IsOff (map (λ h. binding_of names whose h.0 (Act row h.1)) hs))
      (sym is.event_acts) (All-nil IsOff)
  handled_off row list whose d stands _ same is =
      All-map IsOff (λ h. binding_of names whose h.0 (Act row h.1)) d.event_acts
      (λ i x within. subst (λ (r : DeviceRow). IsNoBallDevice r.settings) (sym stands.row_is)
      (subst IsNoBallDevice (sym same) tt))

  binding_off : (row : RowId) (list : ListId) (p : Part)
      → IsStanding names plan.rows plan.row_lists plan.lists (flat_map listens_of ps) row list p → IsRight p
      → IsOffBallsOf (rows_of_parts ps) p → All IsOff (bindings_in names row list p)
  binding_off row list (handler whose e (run es)) stands is off =
      All-cons IsOff (binding_of names whose e (Run list)) []
      (subst (All BooksNothing) (sym stands) (no_balls names row es off)) (All-nil IsOff)
  binding_off row list (handler whose e (start m)) stands is off =
      All-cons IsOff (binding_of names whose e (Start m)) [] tt (All-nil IsOff)
  binding_off row list (handler whose e (stop m)) stands is off =
      All-cons IsOff (binding_of names whose e (Stop m)) [] tt (All-nil IsOff)
  binding_off row list (handler whose e (act_on r act)) stands is off =
      All-cons IsOff (binding_of names whose e (Act r act)) [] (row_off r.0 whose off) (All-nil IsOff)
  binding_off row list (device whose d) stands is off = handled_off row list whose d stands d.settings refl is
  binding_off row list _ stands is off = All-nil IsOff

  bindings_off : All IsOff plan.bindings
  unfolding plan_by
  bindings_off =
      All-flat_map IsOff (λ q. bindings_in names q.row q.list q.part) (part_places ps)
      (λ i q within.
      let x = get_or (part_places ps) i q in
      binding_off x.row x.list x.part (standing i q within) (of_placed IsRight right i q within)
      (of_placed (IsOffBallsOf (rows_of_parts ps)) off i q within))

  -- ---- switches

  abbrev all_listens : List (List (List ℕ))
  all_listens = flat_map listens_of ps

  heard_as : (name : List ℕ) → All (IsHeardAs plan.rows all_listens name) (listening names ps name)
  heard_as name = all_heard plan.rows all_listens names plan.row_lists plan.lists name (part_places ps) standing
      (of_placed IsRight right)

  switches_within : All (λ (s : PlanSwitch). All (λ l. IsSwitchOf (row_at plan l.row).settings l.switch) s.listeners)
      plan.switches
  unfolding plan_by
  switches_within =
      All-map (λ (s : PlanSwitch). All (λ l. IsSwitchOf (row_at plan l.row).settings l.switch) s.listeners)
      (switch_called names ps) (names Switches)
      (λ i n within j l inside. (heard_as (get_or (names Switches) i n) j l inside).within)

  switches_once : All (λ (s : PlanSwitch). AllPairs AreOfTwoRows s.listeners) plan.switches
  unfolding plan_by
  switches_once =
      All-map (λ (s : PlanSwitch). AllPairs AreOfTwoRows s.listeners) (switch_called names ps) (names Switches)
      (λ i n within. once_listening names ps once (get_or (names Switches) i n))

  switches_apart : names_apart.AreApart (names Switches)
      → AllPairs AreApart (flat_map (λ (s : PlanSwitch). s.listeners) plan.switches)
  unfolding plan_by
  switches_apart differ =
      subst (AllPairs AreApart) (sym (flat_listening names ps (names Switches)))
      (all_listen_apart names ps plan.rows all_listens heard_as (once_listening names ps once) (names Switches) differ)

  pub right_by : names_apart.AreApart (names Switches) → BookingsAreRight plan
  right_by differ =
      record {
        rows = rows_book;
        bindings = bindings_off;
        switches = switches_within;
        once = switches_once;
        apart = switches_apart differ;
      }

-- ---- the plan of rows

module _ (rows : Rows) where
  abbrev all : List Part
  all = parts_of rows

  own_row : (row : RowId) (p : Part) → IsPartOf rows p
      → All (λ r. IsOwnBallDevice r.settings r.owner) (device_row row p)
  own_row row (device whose d) is =
      All-cons (λ r. IsOwnBallDevice r.settings r.owner)
      (record { number = row; owner = whose.owner; settings = d.settings }) [] (by d.settings is.kind)
      (All-nil (λ r. IsOwnBallDevice r.settings r.owner))
    where
      by : (s : Settings) → IsKindOf s whose.owner → IsOwnBallDevice s whose.owner
      by (kinds.BallDevice b) own = own
      by _ own = tt
  own_row row _ is = All-nil (λ r. IsOwnBallDevice r.settings r.owner)

  own_of_plan : BallDevicesAreOwn (plan_of rows)
  unfolding plan_of plan_by part_places
  own_of_plan =
      let are = All-placed (IsPartOf rows) all 0 0 (parts_are rows) in
      All-flat_map (λ r. IsOwnBallDevice r.settings r.owner) (λ q. device_row q.row q.part) (placed_from 0 0 all)
      (λ i q within. own_row (get_or (placed_from 0 0 all) i q).row (get_or (placed_from 0 0 all) i q).part
      (are i q within))

  counts : HaveStates rows → (p : Part) → IsPartOf rows p → HasLists p
  counts states (device whose d) is = omega (arith, is.count states)
  counts states _ is = tt

  off_balls : (p : Part) → IsPartOf rows p → IsOffBallsOf (rows_of_parts all) p
  off_balls (handler whose e (run es)) is = is.1.0
  off_balls (handler whose e (start m)) is = tt
  off_balls (handler whose e (stop m)) is = tt
  off_balls (handler whose e (act_on r act)) is = is.1
  off_balls _ is = tt

  apart_names : names_apart.AreApart (names_of all Switches)
  unfolding names_of
  apart_names = names_apart.AreApart-first_uses (in_table Switches (flat_map part_uses all))

  right_of_plan : HaveStates rows → All IsHeardOnce all → BookingsAreRight (plan_of rows)
  unfolding plan_of
  right_of_plan states once =
      right_by (names_of all) all (devices_are_right rows) once
      (All-weaker (IsPartOf rows) HasLists (counts states) all (parts_are rows))
      (All-weaker (IsPartOf rows) (IsOffBallsOf (rows_of_parts all)) off_balls all (parts_are rows)) apart_names

-- ball devices are the machine's
pub ball_devices_own-plan_at : (rows : Rows) (plan : PlanView) → plan_at rows ≡ Ok plan → BallDevicesAreOwn plan
ball_devices_own-plan_at rows plan is = subst BallDevicesAreOwn (sym (plan_at-Ok rows plan is).0) (own_of_plan rows)

-- what the plan does with balls is right, if each profile of shots has a state, and no row listens twice to one switch
pub right_with_balls-plan_at : (rows : Rows) → HaveStates rows → All IsHeardOnce (parts_of rows) → (plan : PlanView)
    → plan_at rows ≡ Ok plan → BookingsAreRight plan
right_with_balls-plan_at rows states once plan is =
    subst BookingsAreRight (sym (plan_at-Ok rows plan is).0) (right_of_plan rows states once)
