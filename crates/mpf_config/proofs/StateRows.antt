-- Each profile of shots in the rows of a bundle has a state.
use Rattle.std.proofs.Common.{◌≡◌, ℕ, ◌≤◌, nat_le, Bool, true, false, if◌then◌else◌, map, List, [], ◌∷◌, length, codes}
use Rattle.std.proofs.Common.{Option, Some, Ok, slice_get, refl, sym, ap, subst, ◌∙◌, arith}
use Rattle.std.specs.{List.{All, AllZip, cons_option, filter_map}, Str.bytes_eq}
use Rattle.std.proofs.lemmas.{List.Elements.{All-nil, All-map}, Slice.Zip.AllZip-long, Bool.and_parts}
use Rattle.yaml_bytes.proofs.Words.{word_is}
use Rattle.yaml_subset.specs.Node.{Node, Pair}
use Rattle.setting_values.specs.Values.{WrittenName, Plain, name, Fields, Value}
use Rattle.setting_values.specs.{ValueOf.{IsField, pass, AreFields}, KeyRules.{field_key, field_default, field_lacks}}
use Rattle.setting_values.specs.Kinds.{Field, a_name, between, fits, mandatory, named_maps}
use Rattle.section_tables.specs.{Rows.Entry, Shapes.{Setting, by_entries}, Keys.is_ignored}
use Rattle.section_tables.specs.Tables.{setting_key, setting_default, setting_lacks}
use Rattle.section_tables.specs.EntryOf.{IsSetting, IsEntry, IsOtherEntry}
use Rattle.mpf_tables.specs.declared.tables.TextKind.{TextKind, TheVariants.{Machine, Mode}}
use Rattle.mpf_tables.specs.SectionTables.{profile_state, shot_profiles, shot_profiles_name, shape_of}
use Rattle.mpf_sections.specs.Rows.{Content, entries, SectionRows}
use Rattle.mpf_sections.specs.Typed.{name_in, listed_maps, entries_in, listed_modes}
use Rattle.mpf_sections.specs.TypedShots.{few, state_of, shot_profile_of, shot_profiles_in}
use Rattle.mpf_config.specs.{Rows.Rows, Unread.{read_of, present_of}, Reading.rows_at}
use Rattle.mpf_config.specs.{BundleText.NamedText, ModeReads.ModeRead}
use Rattle.mpf_config.specs.States.{HasState, HasStatesSection, HasStatesMode, HaveStates}
use Rattle.mpf_config.specs.RowsOf.{Sizes, within_limits, IsContent, IsSection, IsModeRead}
use Rattle.mpf_config.proofs.{FirstSettings.{First, first_written}, Theorem.rows_sound, Each.All-from_zip}

-- ---- states

abbrev IsSomeName : Plain → Type 0
IsSomeName v = (w : WrittenName) × (v ≡ name w)

first_name : (row : List Plain) → First IsSomeName row → (w : WrittenName) × (name_in (slice_get row 0) ≡ Some w)
first_name [] first = absurd first
first_name (v ∷ vs) first = (first.0, rw first.1 refl)

abbrev state_name : Field
state_name = record { key = codes "name"; kind = a_name; absent = mandatory }

-- the name of a state is required
state_named : (node : Node) (m : Fields) → AreFields profile_state true node m
    → (w : WrittenName) × (state_of m ≡ Some w)
unfolding state_of
state_named node m h =
    let in_rows = first_written field_key IsField (pass true) field_default field_lacks state_name [] IsSomeName in
    first_name m.values (in_rows (λ n v is. (_, is.2.1)) refl node m.values h.row)

one_or_more : (o : Option WrittenName) (ws : List WrittenName) (w : WrittenName) → o ≡ Some w
    → 1 ≤ length (cons_option o ws)
one_or_more o ws w is = rw is (omega arith)

-- of 1 to 16 states the first is one
some_states : (ns : List Node) (ms : List Fields) → fits (between 1 16) (length ns) ≡ true
    → AllZip (AreFields profile_state true) ns ms → 1 ≤ length (filter_map state_of (few ms))
some_states [] [] fit each = absurd cc
some_states [] (m ∷ ms) fit each = absurd each
some_states (n ∷ ns) [] fit each = absurd each
some_states (n ∷ ns) (m ∷ ms) fit each =
    let long = length (n ∷ ns) in
    let same : length (m ∷ ms) ≡ long = AllZip-long (AreFields profile_state true) (n ∷ ns) (m ∷ ms) each in
    let within = (and_parts (nat_le 1 long) (nat_le long 16) fit).1 in
    let is_few : nat_le (length (m ∷ ms)) 16 ≡ true = ap (λ k. nat_le k 16) same ∙ within in
    let first = state_named n m each.0 in
    rw is_few (one_or_more (state_of m) (filter_map state_of ms) first.0 first.1)

-- ---- profiles

abbrev AreStates : Option Value → Type 0
AreStates o = 1 ≤ length (filter_map state_of (few (listed_maps o)))

abbrev HasStates : Value → Type 0
HasStates v = AreStates (Some v)

first_states : (row : List Value) → First HasStates row → AreStates (slice_get row 0)
first_states [] first = absurd first
first_states (v ∷ vs) first = first

abbrev states : Setting
states = record { key = codes "states"; kind = named_maps profile_state true (between 1 16); absent = mandatory }

module _ (longest : ℕ) where
  -- the states of a profile are required
  profile_has_state : (p : Pair) (e : Entry) → IsEntry longest shot_profiles p e → HasState (shot_profile_of e)
  unfolding shot_profile_of
  profile_has_state p e h =
      let written : (node : Node) (v : Value) → IsSetting longest states node v → HasStates v =
      λ node v is. subst HasStates (sym is.3) (some_states is.1.nodes is.0 is.1.fit is.1.each) in
      let in_rows = first_written setting_key (IsSetting longest) is_ignored setting_default setting_lacks in
      first_states e.values (in_rows states _ HasStates written refl p.value e.values h.row)

-- ---- sections

table_is : (kind : TextKind) (barred : List (List ℕ)) (table : List Setting)
    → shape_of kind shot_profiles_name ≡ Some (by_entries barred table) → table ≡ shot_profiles
table_is Machine barred table is = cc
table_is Mode barred table is = cc

module _ (sizes : Sizes) (kind : TextKind) where
  content_has_states : (p : Pair) (content : Content) → p.key ≡ shot_profiles_name → IsContent sizes kind p content
      → All HasState (map shot_profile_of (entries_in content))
  content_has_states p (entries es) named h =
      let shape = subst (λ key. shape_of kind key ≡ Some (by_entries h.0 h.1)) named h.2 in
      let table = table_is kind h.0 h.1 shape in
      let Is : Pair → Entry → Type 0 = IsOtherEntry sizes.longest h.0 h.1 in
      let has : (q : Pair) (e : Entry) → Is q e → HasState (shot_profile_of e) =
      λ q e is. profile_has_state sizes.longest q e (subst (λ t. IsEntry sizes.longest t q e) table is.entry) in
      All-map HasState shot_profile_of es (All-from_zip Is (λ e. HasState (shot_profile_of e)) has h.3.0 es h.3.2)
  content_has_states p _ named h = All-nil HasState

  section_has_states : (p : Pair) (s : SectionRows) → IsSection sizes kind p s → HasStatesSection s
  unfolding shot_profiles_in
  section_has_states p s h = by (bytes_eq s.name shot_profiles_name) refl
    where
      by : (b : Bool) → bytes_eq s.name shot_profiles_name ≡ b
          → All HasState (map shot_profile_of (if b then entries_in s.content else []))
      by true is = content_has_states p s.content (sym h.name ∙ word_is s.name shot_profiles_name is) h.content
      by false is = All-nil HasState

  sections_have_states : (sections : List Pair) (rows : List SectionRows) → AllZip (IsSection sizes kind) sections rows
      → All HasStatesSection rows
  sections_have_states = All-from_zip (IsSection sizes kind) HasStatesSection section_has_states

-- ---- the rows

mode_has_states : (texts : List NamedText) (w : WrittenName) (m : ModeRead) → IsModeRead within_limits texts w m
    → HasStatesMode m.mode
mode_has_states texts w m h = sections_have_states within_limits Mode (read_of h.sections) m.mode.sections h.rows.each

-- Each profile in the rows that are read from a bundle has a state.
pub rows_have_states : (bundle : List ℕ) (rows : Rows) → rows_at bundle ≡ Ok rows → HaveStates rows
rows_have_states bundle rows is =
    let h = rows_sound bundle rows is in
    let machine = sections_have_states within_limits Machine (read_of h.sections) rows.machine h.machine.each in
    let present = present_of h.texts (listed_modes rows.machine) in
    let has = mode_has_states h.texts in
    let Is = IsModeRead within_limits h.texts in
    let of_modes = All-from_zip Is (λ m. HasStatesMode m.mode) has present h.modes h.each_mode in
    (machine, subst (All HasStatesMode) (sym h.mode_rows) (All-map HasStatesMode (λ m. m.mode) h.modes of_modes))
