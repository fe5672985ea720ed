-- The walk over the rows, one after the other, gives the parts of the configuration; and how many modes it meets.
use Rattle.std.proofs.Common.{rules, ◌≡◌, ℕ, suc, ◌+◌, ◌<◌, ◌≤◌, Bool, true, false, if◌then◌else◌, List, [], ◌∷◌, ◌++◌}
use Rattle.std.proofs.Common.{length, map, take, get_or, refl, sym, ap, ap₂, ◌∙◌, subst, append-nil, append_assoc}
use Rattle.std.proofs.{Common.{arith, Option}, lemmas.List.{take_more, take-map, get_or-map, length-map}}
use Rattle.std.specs.{Str.bytes_eq, List.{All, flat_map, sum_by}}
use Rattle.std.proofs.lemmas.List.Elements.{All-nil, All-cons, All-append, All-head, All-tail, All-map}
use Rattle.std.proofs.lemmas.List.Sums.{sum_by-append, sum_by-cons, sum_by-take-le}
use Rattle.mpf_sections.specs.Rows.{Entry, PlayerEntry, Content, entries, players, entry as single, name_list}
use Rattle.mpf_sections.specs.{Rows.SectionRows, Typed.mode_settings, TypedBalls.{ball_devices_name, ball_device_of}}
use Rattle.mpf_sections.specs.TypedShots.{shots_name, shot_groups_name, shot_of, shot_group_of}
use Rattle.mpf_config.specs.{Rows.{ModeRows, Rows}, FewModes.AreFewModes}
use Rattle.plan_rows.specs.{declared.destination.Destination.Destination, Rows.rows_of}
use Rattle.mpf_tables.specs.declared.tables.TextKind.{TextKind, TheVariants.{Machine, Mode}}
use Rattle.plan_rows.specs.Seats.{Seat, seat_of, destination_of, rows_after_text}
use Rattle.plan_rows.specs.Rows.{Row, entry, alone, shot, group, ball_device, player, of_mode, shot_row, group_row}
use Rattle.plan_rows.specs.Rows.{ball_device_row, other_row, entry_row, rows_from, rows_in, text_rows, modes_rows}
use Rattle.plan_parts.specs.Parts.{Whose, Part, own, of_the_mode, mode_parts, row_parts, modes_parts, parts_of}
use Rattle.plan_parts.specs.RowViews.{TextView, machine_text, text_after, parts_at, parts_from}
use Rattle.yaml_bytes.proofs.Each.{all_mapped}

-- ---- rows of a text

-- a row of a text, and not a mode
abbrev pub IsInText : Row → Type 0
IsInText (of_mode name s) = ⊥
IsInText _ = Unit {0}

all_flat : {X Y : Type 0} (P : Y → Type 0) (f : X → List Y) → ((x : X) → All P (f x)) → (xs : List X)
    → All P (flat_map f xs)
all_flat P f each [] = All-nil P
all_flat P f each (x ∷ xs) = All-append P (f x) (flat_map f xs) (each x) (all_flat P f each xs)

module _ (rows : Rows) (place : TextKind) (seat : List ℕ → Option Seat) (to : List ℕ → Destination) where
  other_in : (place : TextKind) (section : List ℕ) (e : Entry) → IsInText (other_row to place section e)
  other_in Machine section e = by (bytes_eq section ball_devices_name)
    where
      by : (b : Bool) → IsInText (if b then ball_device_row to (ball_device_of e) else entry Machine section e)
      by true = tt
      by false = tt
  other_in Mode section e = tt

  entry_in : (section : List ℕ) (e : Entry) → IsInText (entry_row rows place seat to section e)
  entry_in section e = by (bytes_eq section shots_name) (bytes_eq section shot_groups_name)
    where
      by : (s g : Bool) → IsInText (if s then shot_row rows place seat (shot_of e) else
          (if g then group_row rows place seat (shot_group_of e) else other_row to place section e))
      by true g = tt
      by false true = tt
      by false false = other_in place section e

  content_in : (section : List ℕ) (content : Content) → All IsInText (rows_from rows place seat to section content)
  content_in section (entries es) = all_mapped IsInText (entry_row rows place seat to section) (entry_in section) es
  content_in section (players ps) = all_mapped IsInText (player place section) (λ p. tt) ps
  content_in section (single e) = All-cons IsInText (alone place section e) [] tt (All-nil IsInText)
  content_in section (name_list ws) = All-nil IsInText

pub text_in : (rows : Rows) (place : TextKind) (n : ℕ) (sections : List SectionRows)
    → All IsInText (text_rows rows place n sections)
text_in rows place n sections =
    let seat = seat_of place n sections in
    let to = destination_of place n sections in
    all_flat IsInText (λ (s : SectionRows). rows_from rows place seat to s.name s.content)
    (λ s. content_in rows place seat to s.name s.content) sections

-- ---- the parts of rows

module _ (machine : List SectionRows) where
  row_at : (t : TextView) (row : Row) → IsInText row → parts_at machine t row ≡ row_parts machine t.whose row
  row_at t (of_mode name s) in_text = absurd in_text
  row_at t x1 in_text = refl

  same_text : (t : TextView) (row : Row) → IsInText row → text_after row t ≡ t
  same_text t (of_mode name s) in_text = absurd in_text
  same_text t x1 in_text = refl

  walk_text : (t : TextView) (xs ys : List Row) → All IsInText xs
      → parts_from machine t (xs ++ ys) ≡ flat_map (row_parts machine t.whose) xs ++ parts_from machine t ys
  walk_text t [] ys all = refl
  walk_text t (x ∷ xs) ys all =
      let here = All-head IsInText x xs all in
      ap₂ (λ ps u. ps ++ parts_from machine u (xs ++ ys)) (row_at t x here) (same_text t x here)
      ∙ ap (λ ps. row_parts machine t.whose x ++ ps) (walk_text t xs ys (All-tail IsInText x xs all))
      ∙ sym (append_assoc (row_parts machine t.whose x) (flat_map (row_parts machine t.whose) xs)
      (parts_from machine t ys))

  -- the text after rows
  abbrev pub text_from : TextView → List Row → TextView
  text_from t [] = t
  text_from t (row ∷ rows) = text_from (text_after row t) rows

  -- one row more
  pub parts_more : (t : TextView) (rows : List Row) (row : Row)
      → parts_from machine t (rows ++ row ∷ []) ≡ parts_from machine t rows ++ parts_at machine (text_from t rows) row
  parts_more t [] row = append-nil (parts_at machine t row)
  parts_more t (x ∷ rows) row =
      ap (λ ps. parts_at machine t x ++ ps) (parts_more (text_after x t) rows row)
      ∙ sym (append_assoc (parts_at machine t x) (parts_from machine (text_after x t) rows)
      (parts_at machine (text_from (text_after x t) rows) row))

  pub text_more : (t : TextView) (rows : List Row) (row : Row)
      → text_from t (rows ++ row ∷ []) ≡ text_after row (text_from t rows)
  text_more t [] row = refl
  text_more t (x ∷ rows) row = text_more (text_after x t) rows row

  -- more rows have the parts of those before them first
  pub parts_of_more : (t : TextView) (xs ys : List Row)
      → parts_from machine t (xs ++ ys) ≡ parts_from machine t xs ++ parts_from machine (text_from t xs) ys
  parts_of_more t [] ys = refl
  parts_of_more t (x ∷ xs) ys =
      ap (λ ps. parts_at machine t x ++ ps) (parts_of_more (text_after x t) xs ys)
      ∙ sym (append_assoc (parts_at machine t x) (parts_from machine (text_after x t) xs)
      (parts_from machine (text_from (text_after x t) xs) ys))

-- ---- all rows

walk_modes : (rows : Rows) (whose : Whose) (k n : ℕ) (ms : List ModeRows)
    → parts_from rows.machine (record { whose = whose; modes = k }) (modes_rows rows n ms) ≡ modes_parts rows k n ms
walk_modes rows whose k n [] = refl
walk_modes rows whose k n (m ∷ ms) =
    let s = mode_settings m.sections in
    let its = of_the_mode (record { 0 = k }) s in
    let here = mode_parts (record { 0 = k }) m.name s in
    let own_rows = text_rows rows Mode n m.sections in
    let after = rows_after_text Mode n m.sections in
    ap (λ ps. here ++ ps) (walk_text rows.machine (record { whose = its; modes = suc k }) own_rows
    (modes_rows rows after ms) (text_in rows Mode n m.sections)
    ∙ ap (λ ps. flat_map (row_parts rows.machine its) own_rows ++ ps) (walk_modes rows its (suc k) after ms))
    ∙ sym (append_assoc here (flat_map (row_parts rows.machine its) own_rows) (modes_parts rows (suc k) after ms))

pub walked : (rows : Rows) → parts_from rows.machine machine_text (rows_of rows) ≡ parts_of rows
unfolding parts_of
walked rows =
    let after = rows_after_text Machine 0 rows.machine in
    walk_text rows.machine machine_text (text_rows rows Machine 0 rows.machine) (modes_rows rows after rows.modes)
    (text_in rows Machine 0 rows.machine)
    ∙ ap (λ ps. flat_map (row_parts rows.machine own) (text_rows rows Machine 0 rows.machine) ++ ps)
    (walk_modes rows own 0 after rows.modes)

-- ---- how many modes there are

abbrev pub mode_count : Row → ℕ
mode_count (of_mode name s) = 1
mode_count _ = 0

counted : (machine : List SectionRows) (t : TextView) (rows : List Row)
    → (text_from machine t rows).modes ≡ t.modes + sum_by mode_count rows
counted machine t [] = omega arith
counted machine t (x ∷ rows) = counted machine (text_after x t) rows
    ∙ (let more = sum_by-cons mode_count x rows in omega (arith, more, one x))
  where
    one : (x : Row) → (text_after x t).modes ≡ t.modes + mode_count x
    one (of_mode name s) = omega arith
    one x1 = omega arith

no_modes : (xs : List Row) → All IsInText xs → sum_by mode_count xs ≡ 0
no_modes [] all = refl
no_modes (x ∷ xs) all = sum_by-cons mode_count x xs
    ∙ ap₂ (λ a b. a + b) (none x (All-head IsInText x xs all)) (no_modes xs (All-tail IsInText x xs all))
  where
    none : (x : Row) → IsInText x → mode_count x ≡ 0
    none (of_mode name s) in_text = absurd in_text
    none x1 in_text = refl

modes_counted : (rows : Rows) (n : ℕ) (ms : List ModeRows) → sum_by mode_count (modes_rows rows n ms) ≡ length ms
modes_counted rows n [] = refl
modes_counted rows n (m ∷ ms) =
    let own_rows = text_rows rows Mode n m.sections in
    let after = rows_after_text Mode n m.sections in
    let head = of_mode m.name (mode_settings m.sections) in
    let first = sum_by-cons mode_count head (own_rows ++ modes_rows rows after ms) in
    let both = sum_by-append mode_count own_rows (modes_rows rows after ms) in
    let none = no_modes own_rows (text_in rows Mode n m.sections) in
    let rest = modes_counted rows after ms in
    omega (arith, first, both, none, rest)

rows_counted : (rows : Rows) → sum_by mode_count (rows_of rows) ≡ length rows.modes
rows_counted rows =
    let after = rows_after_text Machine 0 rows.machine in
    let both = sum_by-append mode_count (text_rows rows Machine 0 rows.machine) (modes_rows rows after rows.modes) in
    let none = no_modes (text_rows rows Machine 0 rows.machine) (text_in rows Machine 0 rows.machine) in
    let rest = modes_counted rows after rows.modes in
    omega (arith, both, none, rest)

-- so their numbers are kept
pub few_modes : (rows : Rows) (i : ℕ) → AreFewModes rows.modes
    → (text_from rows.machine machine_text (take i (rows_of rows))).modes < 65535
few_modes rows i are =
    let few = are.few in
    let front = sum_by-take-le mode_count (rows_of rows) i in
    omega (arith, few, front, counted rows.machine machine_text (take i (rows_of rows)), rows_counted rows)
