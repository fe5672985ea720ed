-- What holds of the parts of each text, and of those by which each mode begins, holds of all parts of a configuration.
use Rattle.std.proofs.Common.{rules, ◌≡◌, ℕ, zero, suc, ◌+◌, ◌-◌, ◌<◌, ◌≤◌, Bool, List, arith}
use Rattle.std.proofs.Common.{[], ◌∷◌, ◌++◌, length, map, refl, sym, ◌∙◌, ap, ap₂, append_assoc, length-append, codes}
use Rattle.std.specs.{Prelude.{Option, None, Some, option_map, slice_get}, List.All}
use Rattle.std.proofs.lemmas.{Grind.flat_map-append, Option.{slice_get-map, same_Some}}
use Rattle.std.proofs.lemmas.List.Elements.{All-nil, All-head, All-tail, All-append}
use Rattle.mpf_values.specs.Events.{Event}
use Rattle.mpf_config.specs.Rows.{ModeRows, Rows}
use Rattle.mpf_sections.specs.{Rows.{ModeSettings, SectionRows}, Typed.mode_settings}
use Rattle.plan_rows.specs.Seats.{rows_after_text}
use Rattle.mpf_tables.specs.declared.tables.TextKind.{TextKind, TheVariants.{Machine, Mode}}
use Rattle.plan_tables.specs.declared.entries.ModeId.{ModeId}
use Rattle.plan_tables.specs.declared.entries.Owner.TheVariants as owners
use Rattle.plan_parts.specs.Parts.{Whose, Device, events, always, Part, start, stop, handler, device}
use Rattle.plan_parts.specs.Parts.{where_true, own, control, of_the_mode, stops_at_ball_end, stops_at_game_end}
use Rattle.plan_parts.specs.Parts.{mode_parts, text_parts, modes_parts, parts_of}
use Rattle.plan_parts.specs.{PartBounds.IsOwnerBelow, PartKinds.{is_ball, rows_of_parts, IsRowOf}}
use Rattle.plan_parts.proofs.SeatFacts.{mark, marks, rows_of_text, IsRowAt, text_marks, rows_counted}

-- ---- rows by their numbers

abbrev as_marked : Whose × Device → Whose × Bool
as_marked x = (x.0, is_ball x.1.settings)

marks_are : (ps : List Part) → marks ps ≡ map as_marked (rows_of_parts ps)
marks_are [] = refl
marks_are (p ∷ ps) = by p (marks_are ps)
  where
    by : (p : Part) → marks ps ≡ map as_marked (rows_of_parts ps)
        → marks (p ∷ ps) ≡ map as_marked (rows_of_parts (p ∷ ps))
    by (device whose d) rest = ap (λ l. (whose, is_ball d.settings) ∷ l) rest
    by _ rest = rest

-- the row of a mark
marked_row : (rows : List (Whose × Device)) (r : ℕ) (whose : Whose) (ball : Bool)
    → slice_get (map as_marked rows) r ≡ Some (whose, ball) → IsRowOf rows r whose ball
marked_row rows r whose ball is = by (slice_get rows r) refl (sym (slice_get-map as_marked rows r) ∙ is)
  where
    by : (o : Option (Whose × Device)) → slice_get rows r ≡ o → option_map as_marked o ≡ Some (whose, ball)
        → IsRowOf rows r whose ball
    by None there same = absurd cc
    by (Some x) there same =
        let one : as_marked x ≡ (whose, ball) = same_Some (as_marked x) (whose, ball) same in
        record { device = x.1; there = there ∙ (λ i. Some ((one i).0, x.1)); kind = ap (λ m. m.1) one }

-- what is of these is among all
at_left : {X : Type 0} (own later : List X) (r : ℕ) (x : X) → slice_get own r ≡ Some x
    → slice_get (own ++ later) r ≡ Some x
at_left [] later r x is = absurd cc
at_left (y ∷ ys) later zero x is = is
at_left (y ∷ ys) later (suc r) x is = at_left ys later r x is

at_middle : {X : Type 0} (before own later : List X) (n r : ℕ) (x : X) → length before ≡ n → n ≤ r
    → slice_get own (r - n) ≡ Some x → slice_get (before ++ (own ++ later)) r ≡ Some x
at_middle [] own later n r x first from is = search (rules, later, first, at_left)
at_middle (b ∷ bs) own later n zero x first from is = absurd (omega (arith, first, from))
at_middle (b ∷ bs) own later n (suc r) x first from is =
    let same : r - length bs ≡ suc r - n = omega (arith, first) in
    at_middle bs own later (length bs) r x refl (omega (arith, first, from)) (ap (slice_get own) same ∙ is)

-- ---- the texts of a configuration

-- A text of rows: its owner is the machine, or one of the modes that there are; and which rows of the parts are its
-- own.
pub record IsTextOf (rows : Rows) (whose : Whose) (place : TextKind) (n : ℕ) (ss : List SectionRows) : Type 0 where
  pub owner : IsOwnerBelow (length rows.modes) whose.owner
  pub machine : place ≡ Machine → whose.owner ≡ owners.Machine
  pub rows_at : (r : ℕ) (ball : Bool) → IsRowAt n (rows_of_text whose place ss) (whose, ball) r
      → IsRowOf (rows_of_parts (parts_of rows)) r whose ball

-- a mode gives no row of its own
none_handled : {X : Type 0} (make : X → Part) → ((x : X) → mark (make x) ≡ []) → (xs : List X)
    → marks (map make xs) ≡ []
none_handled make none [] = refl
none_handled make none (x ∷ xs) = ap₂ (λ a b. a ++ b) (none x) (none_handled make none xs)

none_where : (b : Bool) (whose : Whose) (e : Event) (m : ModeId)
    → marks (where_true b (handler whose e (stop m))) ≡ []
none_where x1 whose e m = search rules

mode_marks : (m : ModeId) (name : List ℕ) (s : ModeSettings) → marks (mode_parts m name s) ≡ []
unfolding mode_parts
mode_marks m name s =
    let on = map (λ e. handler (control s) e (start m)) (events s.starts) in
    let off = map (λ e. handler (control s) e (stop m)) (events s.stops) in
    let ball = where_true (stops_at_ball_end s) (handler (control s) (always (codes "ball_ending")) (stop m)) in
    let end = where_true (stops_at_game_end s) (handler (control s) (always (codes "game_ending")) (stop m)) in
    flat_map-append mark (on ++ off ++ ball) end
    ∙ ap₂ (λ a b. a ++ b)
    (flat_map-append mark (on ++ off) ball
    ∙ ap₂ (λ a b. a ++ b)
    (flat_map-append mark on off
    ∙ ap₂ (λ a b. a ++ b) (none_handled (λ e. handler (control s) e (start m)) (λ e. refl) (events s.starts))
    (none_handled (λ e. handler (control s) e (stop m)) (λ e. refl) (events s.stops)))
    (none_where (stops_at_ball_end s) (control s) (always (codes "ball_ending")) m))
    (none_where (stops_at_game_end s) (control s) (always (codes "game_ending")) m)

module _ (rows : Rows) (Q : Part → Type 0) (S : SectionRows → Type 0) (M : ModeRows → Type 0) where
  -- What holds of the parts of each text whose sections meet S, and of those by which a mode begins that meets M.
  pub record EachText : Type 0 where
    pub text : (whose : Whose) (place : TextKind) (n : ℕ) (ss : List SectionRows) → IsTextOf rows whose place n ss
        → All S ss → All Q (text_parts rows whose place n ss)
    pub sections : (m : ModeRows) → M m → All S m.sections
    pub mode : (k : ℕ) (m : ModeRows) → k < length rows.modes → M m
        → All Q (mode_parts (record { 0 = k }) m.name (mode_settings m.sections))

  abbrev all : List (Whose × Bool)
  all = marks (parts_of rows)

  text_of : (whose : Whose) (place : TextKind) (n : ℕ) (ss : List SectionRows) (before later : List (Whose × Bool))
      → IsOwnerBelow (length rows.modes) whose.owner → (place ≡ Machine → whose.owner ≡ owners.Machine)
      → length before ≡ n → all ≡ before ++ (rows_of_text whose place ss ++ later) → IsTextOf rows whose place n ss
  text_of whose place n ss before later owner machine first is = record {
    owner = owner;
    machine = machine;
    rows_at = λ r ball at.
        marked_row (rows_of_parts (parts_of rows)) r whose ball
        (ap (λ l. slice_get l r) (sym (marks_are (parts_of rows)) ∙ is)
        ∙ at_middle before (rows_of_text whose place ss) later n r (whose, ball) first at.0 at.1);
  }

  module _ (each : EachText) where
    modes_each : (k n : ℕ) (ms : List ModeRows) (before : List (Whose × Bool)) → k + length ms ≡ length rows.modes
        → length before ≡ n → all ≡ before ++ marks (modes_parts rows k n ms) → All M ms
        → All Q (modes_parts rows k n ms)
    modes_each k n [] before count first is h = All-nil Q
    modes_each k n (m ∷ ms) before count first is h =
        let s = mode_settings m.sections in
        let id : ModeId = record { 0 = k } in
        let whose = of_the_mode id s in
        let after = rows_after_text Mode n m.sections in
        let begin = mode_parts id m.name s in
        let text = text_parts rows whose Mode n m.sections in
        let rest = modes_parts rows (suc k) after ms in
        let own = rows_of_text whose Mode m.sections in
        let here : M m = All-head M m ms h in
        let below : k < length rows.modes = omega (arith, count) in
        let so : all ≡ before ++ (own ++ marks rest) =
        is ∙ ap (λ l. before ++ l)
        (flat_map-append mark (begin ++ text) rest
        ∙ ap (λ l. l ++ marks rest)
        (flat_map-append mark begin text ∙ ap₂ (λ a b. a ++ b) (mode_marks id m.name s)
        (text_marks whose Mode n m.sections rows))) in
        let next : length (before ++ own) ≡ after = omega
        (arith, length-append before own, first, rows_counted whose Mode n m.sections) in
        All-append Q (begin ++ text) rest
        (All-append Q begin text (each.mode k m below here)
        (each.text whose Mode n m.sections
        (text_of whose Mode n m.sections before (marks rest) below (λ is. absurd cc) first so)
        (each.sections m here)))
        (modes_each (suc k) after ms (before ++ own) (omega (arith, count)) next
        (so ∙ sym (append_assoc before own (marks rest))) (All-tail M m ms h))

    -- so it holds of all parts
    pub parts_each : All S rows.machine → All M rows.modes → All Q (parts_of rows)
    unfolding parts_of
    parts_each machine modes =
        let after = rows_after_text Machine 0 rows.machine in
        let text = text_parts rows own Machine 0 rows.machine in
        let rest = modes_parts rows 0 after rows.modes in
        let mine = rows_of_text own Machine rows.machine in
        let so : all ≡ mine ++ marks rest = flat_map-append mark text rest ∙ ap (λ l. l ++ marks rest)
        (text_marks own Machine 0 rows.machine rows) in
        All-append Q text rest
        (each.text own Machine 0 rows.machine
        (text_of own Machine 0 rows.machine [] (marks rest) tt (λ is. refl) refl so) machine)
        (modes_each 0 after rows.modes mine (omega arith) (omega (arith, rows_counted own Machine 0 rows.machine)) so
        modes)
