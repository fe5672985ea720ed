-- The rows that are read are those of the bundle, and it has no others.
use Rattle.std.proofs.Common.{rules, ◌≡◌, ℕ, ◌≤◌, ◌^◌, List, [], length, Option, Result, Ok, refl, sym, ap, subst, inl}
use Rattle.std.proofs.{Common.inr, lemmas.Bool.{cases_lt, le-ltb, lt-ltb}}
use Rattle.mpf_tables.specs.declared.tables.TextKind.TheVariants.{Machine}
use Rattle.setting_values.{specs.Reading.{IsReadOr, ◌>>=◌}, proofs.Outcomes.{weaker, then_or}}
use Rattle.mpf_sections.specs.{Rows.{WrittenName, SectionRows}, Typed.listed_modes}
use Rattle.mpf_config.specs.{Rows.{Rows, RowsFault}, Unread.{read_of, machine_notes}}
use Rattle.mpf_config.specs.{BundleText.{NamedText, machine_name}, ModeReads.{MachineRead, ModeRead}}
use Rattle.mpf_config.specs.Apart.{AreDistinct, AreNamesApart, entry_names, entry_keys}
use Rattle.mpf_config.specs.RowsOf.{Sizes, within_limits, AreRowsOf, IsRowsOf, IsTextOver, IsAbove}
use Rattle.mpf_config.specs.Reading.{TextRows, texts_at, machine_at, text_rows_at, machine_read_at, modes_from}
use Rattle.mpf_config.specs.Reading.{modes_in_texts, none_found, found_of, rows_from, rows_at}
use Rattle.mpf_config.proofs.{BundleTexts.{texts_sound, texts_complete}, TextRows.{text_rows_sound, text_rows_or}}
use Rattle.mpf_config.proofs.{TextNames.{machine_sound, machine_complete}, NewNames.nothing_in, OwnKeys.rows_distinct}
use Rattle.mpf_config.proofs.{ListedModes.modes_listed, EntryKeys.{new_sound, new_complete}}
use Rattle.mpf_config.proofs.{EntriesApart.{rows_apart, modes_apart}, ModesFound.{modes_found, modes_found_or}}
use Rattle.yaml_bytes.proofs.Steps.{bind_ok, guard_false, ok_is}

-- ---- the machine text

abbrev machine_of : List NamedText → TextRows → MachineRead
machine_of texts r = record { rows = r.rows; notes = machine_notes texts (listed_modes r.rows) r.sections }

-- the machine text of these texts, and its rows
record WasMachine (texts : List NamedText) (m : MachineRead) : Type 0 where
  text : List ℕ
  text_is : machine_at texts ≡ Ok text
  read : TextRows
  is_read : text_rows_at Machine machine_name text ≡ Ok read
  same : machine_of texts read ≡ m

was_machine : (texts : List NamedText) (m : MachineRead) → machine_read_at texts ≡ Ok m → WasMachine texts m
unfolding machine_read_at
was_machine texts m e =
    let a = bind_ok (machine_at texts) (λ text. text_rows_at Machine machine_name text >>= λ r. Ok (machine_of texts r))
    m e in
    let b = bind_ok (text_rows_at Machine machine_name a.0) (λ r. Ok (machine_of texts r)) m a.2 in
    record { text = a.0; text_is = a.1; read = b.0; is_read = b.1; same = ok_is (machine_of texts b.0) m b.2 }

-- no two of its entries are the same
pub machine_distinct : (texts : List NamedText) (m : MachineRead) → machine_read_at texts ≡ Ok m
    → AreDistinct (entry_names m.rows)
machine_distinct texts m e =
    let w = was_machine texts m e in
    subst (λ (n : MachineRead). AreDistinct (entry_names n.rows)) w.same
    (rows_distinct within_limits Machine w.text w.read.sections w.read.rows
    (text_rows_sound Machine machine_name w.text w.read w.is_read))

machine_or : (sizes : Sizes) (texts : List NamedText) (text : List ℕ) (r : TextRows) → machine_at texts ≡ Ok text
    → AreRowsOf sizes Machine text r.sections r.rows
    → IsReadOr (IsTextOver sizes text) (machine_read_at texts) (machine_of texts r)
unfolding machine_read_at
machine_or sizes texts text r is h =
    rw is
    (then_or (IsTextOver sizes text) (text_rows_at Machine machine_name text) (λ x. Ok (machine_of texts x)) r
    (machine_of texts r) (text_rows_or sizes Machine machine_name text r.sections r.rows h) (inl refl))

-- ---- the rows that are read

abbrev modes_in : List NamedText → MachineRead → Result (List (Option ModeRead)) RowsFault
modes_in texts m = modes_in_texts m.rows (listed_modes m.rows) texts

-- the modes that are found, if the entries of the machine text are new
modes_parts : (machine : List SectionRows) (ws : List WrittenName) (texts : List NamedText)
    (found : List (Option ModeRead)) → modes_in_texts machine ws texts ≡ Ok found
    → AreDistinct (entry_names machine) × (modes_from (entry_keys machine) ws [] (none_found ws) texts ≡ Ok found)
unfolding modes_in_texts
modes_parts machine ws texts found e = search (rules, bind_ok, new_sound)

modes_or : (Above : Type 0) (machine : List SectionRows) (ws : List WrittenName) (texts : List NamedText)
    (found : List (Option ModeRead)) → AreDistinct (entry_names machine)
    → IsReadOr Above (modes_from (entry_keys machine) ws [] (none_found ws) texts) found
    → IsReadOr Above (modes_in_texts machine ws texts) found
unfolding modes_in_texts
modes_or Above machine ws texts found distinct h =
    rw (new_complete machine_name [] (entry_names machine) distinct (λ e c old. nothing_in _ old)) h

abbrev from_modes : List NamedText → MachineRead → List (Option ModeRead) → Result Rows RowsFault
from_modes texts m found = Ok (rows_from texts m (found_of found))

abbrev from_machine : List NamedText → MachineRead → Result Rows RowsFault
from_machine texts m = modes_in texts m >>= from_modes texts m

abbrev from_texts : List NamedText → Result Rows RowsFault
from_texts texts = machine_read_at texts >>= from_machine texts

machine_first : (bundle : List ℕ) (texts : List NamedText) (m : MachineRead) (found : List (Option ModeRead))
    → texts_at bundle ≡ Ok texts → WasMachine texts m → modes_in texts m ≡ Ok found
    → IsRowsOf within_limits bundle (rows_from texts m (found_of found))
machine_first bundle texts m found are w e =
    let r = w.read in
    let rows = text_rows_sound Machine machine_name w.text r w.is_read in
    let listed = modes_listed within_limits Machine (read_of r.sections) r.rows rows.each in
    let parts = modes_parts r.rows (listed_modes r.rows) texts found
    (subst (λ (n : MachineRead). modes_in texts n ≡ Ok found) (sym w.same) e) in
    let modes = modes_found r.rows (listed_modes r.rows) texts found listed.apart parts.1 in
    subst (λ (n : MachineRead). IsRowsOf within_limits bundle (rows_from texts n (found_of found))) w.same
    (record {
      texts = texts;
      are_texts = texts_sound bundle texts are;
      all_new = modes.0;
      text = w.text;
      is_there = machine_sound texts w.text w.text_is;
      sections = r.sections;
      machine = rows;
      modes = found_of found;
      each_mode = modes.1;
      mode_rows = refl;
      apart = rows_apart r.rows (found_of found) parts.0 modes.2;
      notes = refl;
    })

pub rows_sound : (bundle : List ℕ) (rows : Rows) → rows_at bundle ≡ Ok rows → IsRowsOf within_limits bundle rows
unfolding rows_at
rows_sound bundle rows e = search (rules, guard_false, bind_ok, ok_is, machine_first, was_machine)

-- if each step reads what is said, so are the rows
pub rows_again : (bundle : List ℕ) (texts : List NamedText) (m : MachineRead) (found : List (Option ModeRead))
    → length bundle ≤ 2 ^ 23 → texts_at bundle ≡ Ok texts
    → machine_read_at texts ≡ Ok m → modes_in texts m ≡ Ok found
    → rows_at bundle ≡ Ok (rows_from texts m (found_of found))
unfolding rows_at
rows_again bundle texts m found short are machine modes =
    rw (le-ltb (2 ^ 23) (length bundle) short, are, machine, modes) refl

-- ---- the rows of a bundle

module _ (sizes : Sizes) (bundle : List ℕ) (rows : Rows) (h : IsRowsOf sizes bundle rows) where
  abbrev Above : Type 0
  Above = IsAbove sizes bundle rows

  abbrev its_rows : TextRows
  its_rows = record { sections = h.sections; rows = rows.machine }

  abbrev its_machine : MachineRead
  its_machine = machine_of h.texts its_rows

  -- with the modes that it has
  whole : (modes : List ModeRead) → modes ≡ h.modes → rows_from h.texts its_machine modes ≡ rows
  whole modes same = search rules

  modes_read : IsReadOr Above (from_machine h.texts its_machine) rows
  modes_read =
      let listed = modes_listed sizes Machine (read_of h.sections) rows.machine h.machine.each in
      let rows_are = subst (AreNamesApart rows.machine) h.mode_rows h.apart in
      let distinct = modes_apart rows.machine h.modes rows_are in
      let found = modes_found_or sizes Above rows.machine h.texts (listed_modes rows.machine) h.modes h.all_new
      listed.apart h.each_mode distinct
      (λ w text there is over. inr (text, (h.texts, h.are_texts, inr (w, there, is)), over)) in
      let read = modes_or Above rows.machine (listed_modes rows.machine) h.texts found.0 rows_are.in_machine found.2 in
      then_or Above (modes_in h.texts its_machine) (from_modes h.texts its_machine) found.0 rows read
      (inl (ap (λ (rs : Rows). Ok rs) (whole (found_of found.0) found.1)))

  machine_read : IsReadOr Above (machine_read_at h.texts) its_machine
  machine_read =
      weaker (IsTextOver sizes h.text) Above (λ over. inr (h.text, (h.texts, h.are_texts, inl h.is_there), over))
      (machine_read_at h.texts) its_machine
      (machine_or sizes h.texts h.text its_rows (machine_complete [] h.texts h.text h.all_new h.is_there) h.machine)

  by_length : length bundle ≤ 2 ^ 23 → IsReadOr Above (rows_at bundle) rows
  unfolding rows_at
  by_length short = rw (le-ltb (2 ^ 23) (length bundle) short, texts_complete bundle h.texts h.are_texts)
      (then_or Above (machine_read_at h.texts) (from_machine h.texts) its_machine rows machine_read modes_read)

-- So it has no others, unless it is above the limits.
pub rows_or : (bundle : List ℕ) (sizes : Sizes) (rows : Rows) → IsRowsOf sizes bundle rows
    → IsReadOr (IsAbove sizes bundle rows) (rows_at bundle) rows
unfolding rows_at
rows_or bundle sizes rows h =
    elim (cases_lt (2 ^ 23) (length bundle)) [
      | inl long ↦ inr (inl long, rw (lt-ltb (2 ^ 23) (length bundle) long) refl)
      | inr short ↦ by_length sizes bundle rows h short
    ]
