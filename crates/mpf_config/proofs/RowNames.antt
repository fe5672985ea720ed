-- Every name in the rows of a bundle is one.
use Rattle.std.{proofs.Common.{rules, ◌≡◌, ℕ, map, List, [], ◌∷◌, Ok, sym, subst}, specs.List.{All, AllZip}}
use Rattle.std.proofs.lemmas.List.Elements.{All-nil, All-cons, All-head, All-tail, All-filter, All-from_recursion}
use Rattle.yaml_subset.specs.Node.{Pair}
use Rattle.mpf_values.specs.Names.{IsName}
use Rattle.section_tables.specs.{Named.{IsNamedEntry, IsNamedPlayer}, Shapes.{by_entries, by_players, by_entry}}
use Rattle.section_tables.proofs.RowNames.{entry_named, entries_named, players_named}
use Rattle.section_tables.proofs.RowNames as lists
use Rattle.mpf_tables.specs.declared.tables.TextKind.{TextKind, TheVariants.{Machine, Mode}}
use Rattle.mpf_sections.specs.Rows.{Content, entries, players, entry, name_list, SectionRows}
use Rattle.mpf_sections.specs.{Typed.listed_modes, Named.{AllNames, IsNamedContent, IsNamed}}
use Rattle.mpf_tables.proofs.TableNames.{shape_named}
use Rattle.mpf_config.specs.{Rows.{WrittenName, Rows}, Reading.rows_at, Named.IsNamedMode}
use Rattle.mpf_config.specs.{BundleText.NamedText, Unread.{read_of, is_present, present_of}, ModeReads.ModeRead}
use Rattle.mpf_config.specs.RowsOf.{Sizes, within_limits, IsContent, IsSection, IsModeRead}
use Rattle.mpf_config.proofs.{ListedModes.modes_listed, Theorem.rows_sound, Each.All-from_zip}

module _ (sizes : Sizes) (kind : TextKind) where
  content_is_named : (p : Pair) (content : Content) → IsContent sizes kind p content → IsNamedContent content
  content_is_named p (entries es) h = All-from_recursion IsNamedEntry es
      (entries_named sizes.longest h.0 h.1 p es (shape_named kind p.key (by_entries h.0 h.1) h.2) h.3)
  content_is_named p (players ps) h = All-from_recursion IsNamedPlayer ps
      (players_named sizes.longest h.0 p ps (shape_named kind p.key (by_players h.0) h.1) h.2)
  content_is_named p (entry e) h = entry_named sizes.longest h.0 p e (shape_named kind p.key (by_entry h.0) h.1) h.2
  content_is_named p (name_list ws) h = All-from_recursion (λ (w : WrittenName). IsName w.text) ws
      (lists.names_named sizes.modes p ws h.1.is_list)

  sections_named : (sections : List Pair) (rows : List SectionRows) → AllZip (IsSection sizes kind) sections rows
      → All IsNamed rows
  sections_named sections rows each = All-from_zip (IsSection sizes kind) IsNamed
      (λ p s k. content_is_named p s.content k.content) sections rows each

-- Every name in the rows that are read from a bundle is one.
pub rows_are_named : (bundle : List ℕ) (rows : Rows) → rows_at bundle ≡ Ok rows → All IsNamed rows.machine
rows_are_named bundle rows is =
    let h = rows_sound bundle rows is in
    sections_named within_limits Machine (read_of h.sections) rows.machine h.machine.each

module _ (sizes : Sizes) (texts : List NamedText) where
  mode_named : (w : WrittenName) (m : ModeRead) → IsName w.text → IsModeRead sizes texts w m → IsNamedMode m.mode
  mode_named w m named h =
      record {
        name = subst IsName (sym h.name) named;
        sections = sections_named sizes Mode (read_of h.sections) m.mode.sections h.rows.each;
      }

  modes_named : (ws : List WrittenName) (ms : List ModeRead) → AllNames ws → AllZip (IsModeRead sizes texts) ws ms
      → All IsNamedMode (map (λ m. m.mode) ms)
  modes_named [] [] named each = All-nil IsNamedMode
  modes_named [] (m ∷ ms) named each = absurd each
  modes_named (w ∷ ws) [] named each = absurd each
  modes_named (w ∷ ws) (m ∷ ms) named each =
      search (
        rules,
        All-tail,
        All-cons,
        mode_named,
        All-head,
        modes_named ws ms (All-tail (λ (v : WrittenName). IsName v.text) w ws named) each.1,
      )

-- Those in the modes are, too.
pub modes_are_named : (bundle : List ℕ) (rows : Rows) → rows_at bundle ≡ Ok rows → All IsNamedMode rows.modes
modes_are_named bundle rows is =
    let h = rows_sound bundle rows is in
    let ws = listed_modes rows.machine in
    let few = modes_listed within_limits Machine (read_of h.sections) rows.machine h.machine.each in
    let named = All-filter (is_present h.texts) (λ (w : WrittenName). IsName w.text) ws few.named in
    subst (All IsNamedMode) (sym h.mode_rows)
    (modes_named within_limits h.texts (present_of h.texts ws) h.modes named h.each_mode)
