-- What holds of shots, groups of them and profiles, by the names of their settings: their names are names, and their
-- lists are short.
use Rattle.std.proofs.Common.{rules, ◌≡◌, ℕ, suc, ◌≤◌, nat_le, Bool, if◌then◌else◌, List, [], ◌∷◌, length, Option, map}
use Rattle.std.{proofs.Common.{slice_get, refl, arith}, specs.List.{All, cons_option, filter_map}}
use Rattle.std.proofs.lemmas.List.Elements.{All-nil, All-head, All-tail, All-from_recursion}
use Rattle.setting_values.specs.{Values.{Fields, Value}, NamedValues.AreNamedPlains}
use Rattle.section_tables.specs.{Rows.Entry, Named.{IsNamedEntry, IsShortEntry}}
use Rattle.mpf_sections.specs.{Rows.{WrittenName, SectionRows}, Named.IsNamed}
use Rattle.mpf_sections.proofs.{ShortRows.value_at_short, RowNames.entries_of_named}
use Rattle.mpf_sections.proofs.CoilRows.{written_named, some_named, either_named}
use Rattle.mpf_sections.specs.Typed.{listed_names, listed_events, listed_maps, entries_of}
use Rattle.mpf_sections.specs.TypedShots.{few, shots_name, shot_groups_name, shot_profiles_name, shot_of, shot_group_of}
use Rattle.mpf_sections.specs.TypedShots.{state_of, shot_profile_of, shots_in, shot_groups_in, shot_profiles_in}
use Rattle.mpf_sections.specs.Named.{AllNames, AllNamedEvents, IsNamedShot, IsNamedShotGroup, IsNamedShotProfile}
use Rattle.mpf_sections.specs.Short.{IsShortShot, IsShortShotGroup, IsShortShotProfile, IsShortSection}
use Rattle.mpf_tables.proofs.TableNames.{default_profile_named}
use Rattle.mpf_sections.proofs.RowNames.{IsNamedOption, is_name, value_at_named, names_named, events_named}
use Rattle.mpf_sections.proofs.DeviceRows.{IsNamedWritten, text_at_named, name_in_named}
use Rattle.yaml_bytes.proofs.Each.{all_where, all_mapped, made_each}

-- ---- short lists

pub few_all : {A : Type 0} (P : A → Type 0) (xs : List A) → All P xs → All P (few xs)
few_all P xs h = all_where P (nat_le (length xs) 16) xs h

few_by : {A : Type 0} (xs : List A) (b : Bool) → nat_le (length xs) 16 ≡ b → length (if b then xs else []) ≤ 16
few_by xs x2 h = search rules

pub few_short : {A : Type 0} (xs : List A) → length (few xs) ≤ 16
few_short xs = few_by xs (nat_le (length xs) 16) refl

-- ---- names

events_at : (e : Entry) (i : ℕ) → IsNamedEntry e → AllNamedEvents (listed_events (slice_get e.values i))
events_at e i h = events_named (slice_get e.values i) (value_at_named e.values i h.values)

-- The names in an entry of `shots` are names.
pub shot_named : (e : Entry) → IsNamedEntry e → IsNamedShot (shot_of e)
unfolding shot_of
shot_named e h = search (rules, some_named, slice_get, written_named, events_at, either_named, default_profile_named)

-- Those in an entry of `shot_groups` are, too.
pub shot_group_named : (e : Entry) → IsNamedEntry e → IsNamedShotGroup (shot_group_of e)
unfolding shot_group_of
shot_group_named e h = search (rules, few_all, is_name, slice_get, names_named, value_at_named, events_at)

abbrev IsNamedMap : Fields → Type 0
IsNamedMap m = AreNamedPlains m.values

maps_named : (o : Option Value) → IsNamedOption o → All IsNamedMap (listed_maps o)
maps_named x1 h = search (rules, All-from_recursion, All-nil)

one_state : (o : Option WrittenName) → IsNamedWritten o → (ws : List WrittenName) → AllNames ws
    → AllNames (cons_option o ws)
one_state x1 h ws rest = search rules

states_named : (ms : List Fields) → All IsNamedMap ms → AllNames (filter_map state_of ms)
unfolding state_of
states_named [] h = All-nil is_name
states_named (m ∷ ms) h =
    search (
      rules,
      name_in_named,
      slice_get,
      text_at_named,
      All-head,
      one_state,
      All-tail,
      states_named ms (All-tail IsNamedMap m ms h),
    )

-- And those in an entry of `shot_profiles`.
pub shot_profile_named : (e : Entry) → IsNamedEntry e → IsNamedShotProfile (shot_profile_of e)
unfolding shot_profile_of
shot_profile_named e h = search (rules, slice_get, states_named, few_all, maps_named, value_at_named)

pub shot_profiles_named : (s : SectionRows) → IsNamed s → All IsNamedShotProfile (shot_profiles_in s)
unfolding shot_profiles_in
shot_profiles_named s h = made_each IsNamedShotProfile shot_profile_of shot_profile_named
    (entries_of shot_profiles_name s) (entries_of_named shot_profiles_name s h)

-- ---- limits

-- A group has at most 16 shots.
pub shot_group_few : (e : Entry) → length (shot_group_of e).shots ≤ 16
unfolding shot_group_of
shot_group_few e = few_short (listed_names (slice_get e.values 0))

-- No other list of it has more than 1,024 items.
pub shot_group_short : (e : Entry) → IsShortEntry 1024 e → IsShortShotGroup (shot_group_of e)
unfolding shot_group_of
shot_group_short e h = search (rules, shot_group_few, value_at_short)

one_more : (o : Option WrittenName) (ws : List WrittenName) (n : ℕ) → length ws ≤ n → length (cons_option o ws) ≤ suc n
one_more x1 ws n h = search rules

states_few : (ms : List Fields) → length (filter_map state_of ms) ≤ length ms
states_few [] = omega arith
states_few (m ∷ ms) = one_more (state_of m) (filter_map state_of ms) (length ms) (states_few ms)

-- A profile has at most 16 states.
pub shot_profile_short : (e : Entry) → IsShortShotProfile (shot_profile_of e)
unfolding shot_profile_of
shot_profile_short e = search (rules, slice_get, states_few, few_short)

pub shot_profiles_short : (s : SectionRows) → All IsShortShotProfile (shot_profiles_in s)
unfolding shot_profiles_in
shot_profiles_short s = all_mapped IsShortShotProfile shot_profile_of shot_profile_short
    (entries_of shot_profiles_name s)

-- The profiles of a section are its entries, if it is `shot_profiles`.
pub shot_profiles_are : (s : SectionRows) → map shot_profile_of (entries_of shot_profiles_name s) ≡ shot_profiles_in s
unfolding shot_profiles_in
shot_profiles_are s = refl
