-- The entries of a section are those that are read, and no others.
use Rattle.std.proofs.Common.{rules, ◌≡◌, ◌<◌, ℕ, Bool, false, List, Ok, refl, sym, subst, ◌∙◌, inl, true≢false}
use Rattle.yaml_subset.specs.Node.{Node, Pair}
use Rattle.mpf_values.{specs.Reading.is_name, proofs.NameTexts.{IsName-from_is_name, is_name-from_IsName}}
use Rattle.config_faults.specs.{declared.fault.BundleFaultKind.TheVariants.BadValue, Faults.{Spot, rows_fault_at}}
use Rattle.setting_values.specs.{Values.{WrittenName, Plain, Value, written_at}, Kinds.at_least, Below.pairs_below}
use Rattle.setting_values.specs.{ValueOf.{IsWritten, IsOneOf}, Reading.{is_one_of, written_in}}
use Rattle.section_tables.specs.{Rows.{Entry, PlayerEntry}, Keys.is_ignored, EntryOf.{ArePlayers, AreNamesListed}}
use Rattle.section_tables.specs.{Shapes.{Setting, PlayerKinds}, Reading.{players_at, names_at}}
use Rattle.section_tables.specs.Tables.{setting_key, setting_default, setting_lacks}
use Rattle.section_tables.specs.EntryOf.{IsSetting, places_written, IsEntry, IsOtherEntry, AreEntries, IsPlayer}
use Rattle.setting_values.specs.Reading.{most_items, IsReadOr, IsReadOrLong, ◌>>=◌, key_spot, expect, each_read}
use Rattle.section_tables.specs.Reading.{setting_at, values_at, entry_at, other_entry_at, entries_at, player_at}
use Rattle.setting_values.proofs.{Steps.expected, RowsRead.{row_sound, row_complete}}
use Rattle.setting_values.proofs.{Outcomes.{then_or, each_sound, each_or}, ValuesRead.{value_sound, value_complete}}
use Rattle.setting_values.proofs.ScalarTexts.{among_sound, among_complete, scalar_sound, scalar_complete}
use Rattle.setting_values.proofs.ListValues.{name_sound, name_complete, listed_sound, listed_complete}
use Rattle.yaml_bytes.proofs.Steps.{bind_ok, guard_true, guard_false, ok_is}

-- ---- entries

setting_sound : (s : Setting) (spot : Spot) (node : Node) (v : Value) → setting_at s spot node ≡ Ok v
    → IsSetting 1024 s node v
setting_sound s spot node v e = value_sound s.kind spot node v e

abbrev entry_made : List Setting → Pair → List Pair → List Value → Entry
entry_made table p pairs row =
    record { name = written_at p.line p.key; values = row; order = places_written table pairs }

pub entry_sound : (text : List ℕ) (table : List Setting) (p : Pair) (e : Entry) → entry_at text table p ≡ Ok e
    → IsEntry 1024 table p e
unfolding entry_at
entry_sound text table p e is =
    let spot = key_spot text p in
    let a = guard_true (is_name p.key) (expect spot (pairs_below p.value) >>= λ pairs. values_at spot table pairs >>=
    λ row. Ok (entry_made table p pairs row)) (rows_fault_at BadValue spot) e is in
    let b = bind_ok (expect spot (pairs_below p.value))
    (λ pairs. values_at spot table pairs >>= λ row. Ok (entry_made table p pairs row)) e a.1 in
    let c = bind_ok (values_at spot table b.0) (λ row. Ok (entry_made table p b.0 row)) e b.2 in
    let s = row_sound setting_key setting_at (IsSetting 1024) is_ignored setting_sound setting_default setting_lacks
    spot table b.0 c.0 c.1 in
    subst (IsEntry 1024 table p) (ok_is (entry_made table p b.0 c.0) e c.2)
    (record {
      is_name = IsName-from_is_name p.key a.0;
      name = refl;
      row = record { pairs = b.0; has = expected spot (pairs_below p.value) b.0 b.1; overwritten = s.0; whole = s.1 };
      order = refl;
    })

pub entry_complete : (text : List ℕ) (table : List Setting) (p : Pair) (longest : ℕ) (e : Entry)
    → IsEntry longest table p e → IsReadOrLong longest (entry_at text table p) e
unfolding entry_at
entry_complete text table p longest e h =
    let spot = key_spot text p in
    let row = row_complete setting_key setting_at (IsSetting longest) is_ignored longest
    (λ s at n v. value_complete longest s.kind at n v) setting_default setting_lacks spot table h.row.pairs e.values
    h.row.overwritten h.row.whole in
    rw (is_name-from_IsName p.key h.is_name, h.row.has)
    (then_or (most_items < longest) (values_at spot table h.row.pairs) (λ r. Ok (entry_made table p h.row.pairs r))
    e.values e row
    (inl (λ i. Ok (record { name = sym h.name i; values = e.values; order = sym h.order i }))))

other_sound : (text : List ℕ) (barred : List (List ℕ)) (table : List Setting) (p : Pair) (e : Entry)
    → other_entry_at text barred table p ≡ Ok e → IsOtherEntry 1024 barred table p e
unfolding other_entry_at
other_sound text barred table p e is =
    let a = guard_false (is_one_of barred p.key) (entry_at text table p) (rows_fault_at BadValue (key_spot text p)) e is
    in
    record {
      other = λ one. true≢false (sym (among_complete barred p.key one) ∙ a.0);
      entry = entry_sound text table p e a.1;
    }

none_among : (barred : List (List ℕ)) (key : List ℕ) (b : Bool) → is_one_of barred key ≡ b → (IsOneOf barred key → ⊥)
    → is_one_of barred key ≡ false
none_among barred key x3 is none = search (rules, among_sound)

other_complete : (text : List ℕ) (barred : List (List ℕ)) (table : List Setting) (p : Pair) (longest : ℕ) (e : Entry)
    → IsOtherEntry longest barred table p e → IsReadOrLong longest (other_entry_at text barred table p) e
unfolding other_entry_at
other_complete text barred table p longest e h =
    rw (none_among barred p.key (is_one_of barred p.key) refl h.other) (entry_complete text table p longest e h.entry)

pub entries_sound : (text : List ℕ) (barred : List (List ℕ)) (table : List Setting) (p : Pair) (es : List Entry)
    → entries_at text barred table p ≡ Ok es → AreEntries 1024 barred table p es
unfolding entries_at
entries_sound text barred table p es e =
    let a = bind_ok (expect (key_spot text p) (pairs_below p.value))
    (λ pairs. each_read (other_entry_at text barred table) pairs) es e in (
      a.0,
      expected (key_spot text p) (pairs_below p.value) a.0 a.1,
      each_sound (other_entry_at text barred table) (IsOtherEntry 1024 barred table) (other_sound text barred table)
          a.0 es a.2,
    )

pub entries_complete : (text : List ℕ) (barred : List (List ℕ)) (table : List Setting) (p : Pair) (longest : ℕ)
    (es : List Entry) → AreEntries longest barred table p es → IsReadOrLong longest (entries_at text barred table p) es
unfolding entries_at
entries_complete text barred table p longest es h =
    rw h.1 (each_or (other_entry_at text barred table) (IsOtherEntry longest barred table) (most_items < longest)
    (λ x e k. other_complete text barred table x longest e k) h.0 es h.2)

-- ---- players

abbrev player_made : Plain → Value → PlayerEntry
player_made key value = record { event = key; value = value }

player_sound : (text : List ℕ) (kinds : PlayerKinds) (p : Pair) (row : PlayerEntry) → player_at text kinds p ≡ Ok row
    → IsPlayer 1024 kinds p row
unfolding player_at
player_sound text kinds p row e = search (rules, bind_ok, ok_is, scalar_sound, value_sound)

player_complete : (text : List ℕ) (kinds : PlayerKinds) (p : Pair) (longest : ℕ) (row : PlayerEntry)
    → IsPlayer longest kinds p row → IsReadOrLong longest (player_at text kinds p) row
unfolding player_at
player_complete text kinds p longest row h = search (rules, scalar_complete, then_or, value_complete)

pub players_sound : (text : List ℕ) (kinds : PlayerKinds) (p : Pair) (rows : List PlayerEntry)
    → players_at text kinds p ≡ Ok rows → ArePlayers 1024 kinds p rows
unfolding players_at
players_sound text kinds p rows e =
    let a = bind_ok (expect (key_spot text p) (pairs_below p.value)) (λ pairs. each_read (player_at text kinds) pairs)
    rows e in (
      a.0,
      expected (key_spot text p) (pairs_below p.value) a.0 a.1,
      each_sound (player_at text kinds) (IsPlayer 1024 kinds) (player_sound text kinds) a.0 rows a.2,
    )

pub players_complete : (text : List ℕ) (kinds : PlayerKinds) (p : Pair) (longest : ℕ) (rows : List PlayerEntry)
    → ArePlayers longest kinds p rows → IsReadOrLong longest (players_at text kinds p) rows
unfolding players_at
players_complete text kinds p longest rows h =
    rw h.1 (each_or (player_at text kinds) (IsPlayer longest kinds) (most_items < longest)
    (λ x row k. player_complete text kinds x longest row k) h.0 rows h.2)

-- ---- lists of names

pub names_sound : (most : ℕ) (text : List ℕ) (p : Pair) (ws : List WrittenName) → names_at most text p ≡ Ok ws
    → AreNamesListed most p ws
unfolding names_at
names_sound most text p ws e = listed_sound written_in IsWritten name_sound most (at_least 0) (key_spot text p) p.value
    ws e

pub names_complete : (most : ℕ) (text : List ℕ) (p : Pair) (longest : ℕ) (ws : List WrittenName)
    → AreNamesListed longest p ws → IsReadOr (most < longest) (names_at most text p) ws
unfolding names_at
names_complete most text p longest ws h = listed_complete written_in IsWritten most longest
    (name_complete (most < longest)) (at_least 0) (key_spot text p) p.value ws h
