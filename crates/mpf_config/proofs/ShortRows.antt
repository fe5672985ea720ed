-- No list in the rows of a bundle has more than 1,024 items, and there are few modes.
use Rattle.std.proofs.Common.{◌≡◌, ◌≢◌, ℕ, ◌≤◌, not, List, [], ◌∷◌, length, map, Ok, refl, sym, ap, subst, ◌∙◌, arith}
use Rattle.std.specs.List.{All, AllPairs, AllZip}
use Rattle.std.proofs.lemmas.List.{length-map, Elements.{All-nil, All-cons, All-map}, Filters.length-filter_both}
use Rattle.yaml_subset.specs.Node.{Pair}
use Rattle.section_tables.specs.{Shapes.{by_entries, by_entry}, Named.{IsShortEntry, IsShortPlayer}}
use Rattle.section_tables.proofs.RowNames.{entry_short, entries_short, players_short}
use Rattle.section_tables.proofs.RowNames as lists
use Rattle.mpf_tables.specs.declared.tables.TextKind.{TextKind, TheVariants.{Machine, Mode}}
use Rattle.mpf_sections.specs.Rows.{Content, entries, players, entry, name_list, SectionRows}
use Rattle.mpf_sections.specs.{Typed.listed_modes, Short.{IsShortContent, IsShortSection}}
use Rattle.mpf_tables.proofs.TableNames.{shape_short}
use Rattle.mpf_sections.proofs.ShortRows.{none_short, one_short}
use Rattle.mpf_config.specs.{Rows.{WrittenName, Rows}, Short.{IsShortMode, AreListsShort}}
use Rattle.mpf_config.{specs.{BundleText.NamedText, FewModes.AreFewModes}, proofs.ListedModes.{AreListed, modes_listed}}
use Rattle.mpf_config.specs.{Reading.rows_at, Unread.{read_of, is_present, present_of}, ModeReads.ModeRead}
use Rattle.mpf_config.specs.RowsOf.{within_limits, IsContent, IsSection, IsModeRead}
use Rattle.mpf_config.proofs.{NewNames.{new_kept, new_apart}, Theorem.rows_sound, Each.All-from_zip}

content_short : (kind : TextKind) (p : Pair) (content : Content) → IsContent within_limits kind p content
    → IsShortContent content
content_short kind p (entries es) h = (
  entries_short 1024 h.0 h.1 p es (shape_short 1024 one_short kind p.key (by_entries h.0 h.1) h.2) h.3,
  All-nil (IsShortPlayer 1024),
  All-nil (IsShortEntry 1024),
  none_short,
)
content_short kind p (players ps) h =
    (All-nil (IsShortEntry 1024), players_short 1024 h.0 p ps h.2, All-nil (IsShortEntry 1024), none_short)
content_short kind p (entry e) h =
    let short = entry_short 1024 h.0 p e (shape_short 1024 one_short kind p.key (by_entry h.0) h.1) h.2 in (
      All-nil (IsShortEntry 1024),
      All-nil (IsShortPlayer 1024),
      All-cons (IsShortEntry 1024) e [] short (All-nil (IsShortEntry 1024)),
      none_short,
    )
content_short kind p (name_list ws) h =
    let few : length ws ≤ 64 = lists.names_short 64 p ws h.1.is_list in
    (All-nil (IsShortEntry 1024), All-nil (IsShortPlayer 1024), All-nil (IsShortEntry 1024), omega (arith, few))

sections_short : (kind : TextKind) (sections : List Pair) (rows : List SectionRows)
    → AllZip (IsSection within_limits kind) sections rows → All IsShortSection rows
sections_short kind sections rows each = All-from_zip (IsSection within_limits kind) IsShortSection
    (λ p s k. content_short kind p s.content k.content) sections rows each

-- ---- the modes

module _ (texts : List NamedText) where
  mode_short : (w : WrittenName) (m : ModeRead) → IsModeRead within_limits texts w m → IsShortMode m.mode
  mode_short w m h = sections_short Mode (read_of h.sections) m.mode.sections h.rows.each

  modes_short : (ws : List WrittenName) (ms : List ModeRead) → AllZip (IsModeRead within_limits texts) ws ms
      → All IsShortMode (map (λ m. m.mode) ms)
  modes_short ws ms each = All-map IsShortMode (λ m. m.mode) ms
      (All-from_zip (IsModeRead within_limits texts) (λ m. IsShortMode m.mode) mode_short ws ms each)

  -- they have the names that are listed
  same_names : (ws : List WrittenName) (ms : List ModeRead) → AllZip (IsModeRead within_limits texts) ws ms
      → map (λ m. m.name) (map (λ m. m.mode) ms) ≡ map (λ w. w.text) ws
  same_names [] [] each = refl
  same_names [] (m ∷ ms) each = absurd each
  same_names (w ∷ ws) [] each = absurd each
  same_names (w ∷ ws) (m ∷ ms) each = rw (each.0.name, same_names ws ms each.1) refl

  modes_few : (ws : List WrittenName) (ms : List ModeRead) → AreListed within_limits ws
      → AllZip (IsModeRead within_limits texts) (present_of texts ws) ms → AreFewModes (map (λ m. m.mode) ms)
  modes_few ws ms apart each =
      let modes = map (λ (m : ModeRead). m.mode) ms in
      let present = present_of texts ws in
      let same = same_names present ms each in
      let len : length modes ≡ length present = sym (length-map modes (λ m. m.name)) ∙ ap length same
      ∙ length-map present (λ w. w.text) in
      let both = length-filter_both (is_present texts) (λ w. not (is_present texts w)) (λ w. refl) ws in
      record {
        few = omega (arith, len, both, apart.few);
        apart = subst (AllPairs (λ x y. x ≢ y)) (sym same)
            (new_apart [] (map (λ w. w.text) present) (new_kept (is_present texts) (λ w. w.text) [] ws apart.apart));
      }

-- ---- the rows

-- No list in the rows that are read from a bundle has more items.
pub rows_are_short : (bundle : List ℕ) (rows : Rows) → rows_at bundle ≡ Ok rows → AreListsShort rows
rows_are_short bundle rows is =
    let h = rows_sound bundle rows is in
    let machine = sections_short Machine (read_of h.sections) rows.machine h.machine.each in (
      machine,
      subst (All IsShortMode) (sym h.mode_rows)
          (modes_short h.texts (present_of h.texts (listed_modes rows.machine)) h.modes h.each_mode),
    )

-- There are few modes in them.
pub rows_are_few : (bundle : List ℕ) (rows : Rows) → rows_at bundle ≡ Ok rows → AreFewModes rows.modes
rows_are_few bundle rows is =
    let h = rows_sound bundle rows is in
    let apart = modes_listed within_limits Machine (read_of h.sections) rows.machine h.machine.each in
    subst AreFewModes (sym h.mode_rows) (modes_few h.texts (listed_modes rows.machine) h.modes apart h.each_mode)
