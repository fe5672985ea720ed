-- Texts that are read one after the other, while the names of those before are kept in a set.
use Rattle.std.proofs.Common.{rules, ◌≡◌, ℕ, ◌+◌, ◌<◌, Bool, true, false, not, ◌||◌, if◌then◌else◌, List, [], ◌∷◌}
use Rattle.std.proofs.Common.{length, drop, get_or, add-one, Option, Result, Ok, refl, sym, ap, ◌∙◌}
use Rattle.std.{specs.Str.bytes_eq, proofs.{Math.Seq.drop-cons, lemmas.Bool.not-true}}
use Rattle.yaml_subset.specs.Keys.{is_among}
use Rattle.config_faults.specs.declared.fault.{BundleFaultKind.TheVariants.Duplicate, ConfigFault.ConfigFault}
use Rattle.setting_values.specs.{KeyRules.found_in, Reading.◌>>=◌}
use Rattle.config_faults.specs.Faults.{refuse}
use Rattle.mpf_config.specs.declared.texts.NamedText as texts
use Rattle.mpf_sections.specs.Rows.{WrittenName, SectionRows}
use Rattle.mpf_config.specs.{Rows.RowsFault, View.FailsRows, Reading.{found_of, taken_by}}
use Rattle.mpf_config.specs.{BundleText.{NamedText, machine_name}, ModeReads.ModeRead, Unread.mode_text_of}
use Rattle.mpf_config.specs.CodeViews.{text_view, texts_view, or_machine}
use Rattle.mpf_config.specs.Apart.{AreDistinct, entry_names, entry_key, entry_keys}
use Rattle.mpf_config.proofs.{NewNames.nothing_in, EntryKeys.new_complete, TakenEntries.{SameKeys, entries_same}}
use Rattle.mpf_config.specs.Reading.{line_spot, new_mode_at, placed_at, modes_from, modes_in_texts, none_found}

-- which names were taken matters, and not in which order
same_step : (names others : List (List ℕ)) (k : List ℕ) → SameKeys names others → SameKeys (k ∷ names) (k ∷ others)
same_step names others k h q = ap (λ (b : Bool). bytes_eq k q || b) (h q)

abbrev Found : Type 0
Found = List (Option ModeRead)

new_mode_same : (taken others : List (List ℕ)) (w : WrittenName) (t : NamedText) → SameKeys taken others
    → new_mode_at taken w t ≡ new_mode_at others w t
unfolding new_mode_at
new_mode_same taken others w t h = search (rules, entries_same)

placed_same : (t : NamedText) (taken others : List (List ℕ)) (found : Found) (o : Option (ℕ × WrittenName))
    → SameKeys taken others
    → placed_at t taken found o ≡ placed_at t others found o
placed_same t taken others found x5 h = search (rules, new_mode_same)

module _ (ws : List WrittenName) where
  after : (t : NamedText) (ts : List NamedText) (names others machine : List (List ℕ))
      → ((next : Found) → modes_from machine ws (t.name ∷ names) next ts
      ≡ modes_from machine ws (t.name ∷ others) next ts)
      → (b : Bool) (placed : Result Found RowsFault)
      → (if b then refuse Duplicate (line_spot t.name 1) else
      (placed >>= λ next. modes_from machine ws (t.name ∷ names) next ts))
      ≡ (if b then refuse Duplicate (line_spot t.name 1) else
      (placed >>= λ next. modes_from machine ws (t.name ∷ others) next ts))
  after t ts names others machine same b placed = search rules

  same_from : (machine names others : List (List ℕ)) (found : Found) (ts : List NamedText) → SameKeys names others
      → modes_from machine ws names found ts ≡ modes_from machine ws others found ts
  same_from machine names others found [] h = refl
  same_from machine names others found (t ∷ ts) h =
      let step = same_step names others t.name h in
      rw (h t.name)
      (after t ts names others machine (λ next. same_from machine (t.name ∷ names) (t.name ∷ others) next ts step)
      (is_among others t.name)
      (placed_at t (taken_by machine (found_of found)) found (found_in mode_text_of t.name ws)))

module _ (ws : List WrittenName) (machine taken names : List (List ℕ)) (found : Found) (all : List texts.NamedText)
    (i : ℕ) (nothing : texts.NamedText) (lt : i < length all) (fresh : Bool) where
  abbrev one : texts.NamedText
  one = get_or all i nothing

  abbrev place : Option (ℕ × WrittenName)
  place = found_in mode_text_of one.name.now ws

  cut : modes_from machine ws names found (texts_view (drop i all))
      ≡ modes_from machine ws names found (text_view one ∷ texts_view (drop (i + 1) all))
  cut = search (rules, add-one, drop-cons)

  pub is_fresh : fresh ≡ not (is_among names one.name.now) → fresh ≡ true → is_among names one.name.now ≡ false
  is_fresh said is = not-true (is_among names one.name.now) (sym said ∙ is)

  -- a text that is new, and was placed
  pub takes_next : (known : List (List ℕ)) (next : Found)
      → fresh ≡ not (is_among names one.name.now) → fresh ≡ true
      → ((q : List ℕ) → is_among known q ≡ (bytes_eq one.name.now q || is_among names q))
      → SameKeys taken (taken_by machine (found_of found))
      → placed_at (text_view one) taken found place ≡ Ok next
      → modes_from machine ws known next (texts_view (drop (i + 1) all))
      ≡ modes_from machine ws names found (texts_view (drop i all))
  takes_next known next said is k keys placed = search (rules, is_fresh, placed_same, cut, same_from)

  -- a text that is new, and was not placed
  pub fails_next : (e : ConfigFault) → fresh ≡ not (is_among names one.name.now) → fresh ≡ true
      → SameKeys taken (taken_by machine (found_of found))
      → FailsRows e (placed_at (text_view one) taken found place)
      → FailsRows e (modes_from machine ws names found (texts_view (drop i all)))
  fails_next x1 said is keys h = search (rules, is_fresh, placed_same, cut)

-- ---- the machine's entries first

-- No two of them are the same. So they are taken before all texts.
pub before_all : (machine : List SectionRows) (ws : List WrittenName) (ts : List NamedText) (taken : List (List ℕ))
    → AreDistinct (entry_names machine) → taken ≡ []
    → modes_in_texts machine ws ts ≡ modes_from (or_machine (entry_keys machine) taken) ws [] (none_found ws) ts
unfolding modes_in_texts
before_all machine ws ts taken distinct none =
    rw (none, new_complete machine_name [] (entry_names machine) distinct (λ e c old. nothing_in (entry_key e) old))
    refl
