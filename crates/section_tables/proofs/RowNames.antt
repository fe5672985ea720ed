-- Every name in a row is one, and no list in it is longer than its limit.
use Rattle.std.proofs.{Common.{rules, ℕ, ◌≤◌, List, [], ◌∷◌, length, map}, lemmas.List.Elements.All-from_recursion}
use Rattle.std.specs.List.{All, AllByRecursion}
use Rattle.yaml_subset.specs.Node.{Pair}
use Rattle.setting_values.specs.{Values.{WrittenName, Plain}, Kinds.{Scalar, at_least}}
use Rattle.setting_values.specs.{ValueOf.{IsScalar, IsWritten}, NamedValues.{AreNames, IsNamedValue, IsShortValue}}
use Rattle.section_tables.specs.{Rows.{Entry, PlayerEntry}, Shapes.{Setting, PlayerKinds}}
use Rattle.section_tables.specs.{Keys.is_ignored, Tables.{setting_key, setting_default}, EntryOf.ArePlayers}
use Rattle.section_tables.specs.EntryOf.{AreNamesListed, IsSetting, IsEntry, IsOtherEntry, AreEntries, IsPlayer}
use Rattle.section_tables.specs.Named.{IsNamedEvent, IsNamedEntry, IsNamedPlayer, IsNamedTable, IsEventKind}
use Rattle.section_tables.specs.Named.{IsNamedKinds, IsShortEntry, IsShortPlayer, IsShortTable}
use Rattle.setting_values.proofs.ValueNames.{all_zip, all_map, overwritten_all, written_named, value_named}
use Rattle.setting_values.proofs.ValueNames.{listed_short, value_short}

-- ---- entries

default_named : (table : List Setting) → IsNamedTable table → AllByRecursion IsNamedValue (map setting_default table)
default_named [] q = tt
default_named (s ∷ ss) q = (q.0.0, default_named ss q.1)

-- Each name in an entry is one, if those are that hold by default.
pub entry_named : (longest : ℕ) (table : List Setting) (p : Pair) (e : Entry) → IsNamedTable table
    → IsEntry longest table p e → IsNamedEntry e
entry_named longest table p e q h = search (rules, overwritten_all, value_named, default_named)

pub entries_named : (longest : ℕ) (barred : List (List ℕ)) (table : List Setting) (p : Pair) (es : List Entry)
    → IsNamedTable table → AreEntries longest barred table p es → AllByRecursion IsNamedEntry es
entries_named longest barred table p es q h =
    all_zip (IsOtherEntry longest barred table) IsNamedEntry (λ x e k. entry_named longest table x e q k.entry) h.0 es
    h.2

-- No list in an entry has more items than the limit, if those have not that hold by default.
pub entry_short : (longest : ℕ) (table : List Setting) (p : Pair) (e : Entry) → IsShortTable longest table
    → IsEntry longest table p e → IsShortEntry longest e
entry_short longest table p e q h =
    All-from_recursion (IsShortValue longest) e.values
    (overwritten_all setting_key (IsSetting longest) is_ignored (λ s. IsShortValue longest (setting_default s))
    (IsShortValue longest) (λ s node v _ i. value_short longest s.kind node v i) table h.row.pairs
    (map setting_default table) e.values q h.row.overwritten (all_map (IsShortValue longest) setting_default table q))

pub entries_short : (longest : ℕ) (barred : List (List ℕ)) (table : List Setting) (p : Pair) (es : List Entry)
    → IsShortTable longest table → AreEntries longest barred table p es → All (IsShortEntry longest) es
entries_short longest barred table p es q h =
    All-from_recursion (IsShortEntry longest) es
    (all_zip (IsOtherEntry longest barred table) (IsShortEntry longest)
    (λ x e k. entry_short longest table x e q k.entry) h.0 es h.2)

-- ---- players

event_named : (kind : Scalar) (line : ℕ) (text : List ℕ) (v : Plain) → IsEventKind kind → IsScalar kind line text v
    → IsNamedEvent v
event_named x1 line text v q h = search rules

player_named : (longest : ℕ) (kinds : PlayerKinds) → IsNamedKinds kinds → (p : Pair) (row : PlayerEntry)
    → IsPlayer longest kinds p row → IsNamedPlayer row
player_named longest kinds q p row h =
    record {
      event = event_named kinds.key p.line p.key row.event q.key h.key;
      value = value_named longest kinds.value p.value row.value q.value h.value;
    }

-- Each name in the entries of a player is one.
pub players_named : (longest : ℕ) (kinds : PlayerKinds) (p : Pair) (rows : List PlayerEntry) → IsNamedKinds kinds
    → ArePlayers longest kinds p rows → AllByRecursion IsNamedPlayer rows
players_named longest kinds p rows q h = all_zip (IsPlayer longest kinds) IsNamedPlayer (player_named longest kinds q)
    h.0 rows h.2

-- No list in them has more items than the limit.
pub players_short : (longest : ℕ) (kinds : PlayerKinds) (p : Pair) (rows : List PlayerEntry)
    → ArePlayers longest kinds p rows → All (IsShortPlayer longest) rows
players_short longest kinds p rows h =
    All-from_recursion (IsShortPlayer longest) rows
    (all_zip (IsPlayer longest kinds) (IsShortPlayer longest)
    (λ x row k. value_short longest kinds.value x.value row.value k.value) h.0 rows h.2)

-- ---- lists of names

-- Each name that a section lists is one.
pub names_named : (longest : ℕ) (p : Pair) (ws : List WrittenName) → AreNamesListed longest p ws → AreNames ws
names_named longest p ws h = written_named (at_least 0) longest p.value ws h

-- It lists no more items than the limit.
pub names_short : (longest : ℕ) (p : Pair) (ws : List WrittenName) → AreNamesListed longest p ws → length ws ≤ longest
names_short longest p ws h = listed_short IsWritten (at_least 0) longest p.value ws h
