-- What the entries of a text give under names, such as the seats of shots, one entry after the other.
use Rattle.std.proofs.{Common.{rules, refl, sym, ◌∙◌, ap}, lemmas.{List.{append_assoc, drop_more}, Grind.fold-append}}
use Rattle.std.proofs.Common.{◌≡◌, ℕ, ◌+◌, ◌<◌, Bool, List, [], ◌∷◌, ◌++◌, length, map, fold, drop, get_or, Option}
use Rattle.std.specs.{Prelude.{true, not, if◌then◌else◌}, Str.bytes_eq}
use Rattle.setting_values.specs.declared.values.Name.{Name}
use Rattle.section_tables.specs.declared.rows.Entry as rows
use Rattle.mpf_sections.specs.{declared.section.Section.Section, Rows.Entry, TypedShots.shots_name}
use Rattle.mpf_sections.specs.View.{name_view, entry_view, section_view}
use Rattle.yaml_subset.specs.Keys.{is_among}
use Rattle.machine_definitions.proofs.Finding.{next-is}
use Rattle.plan_rows.specs.Seats.{Seat, seats_at, given_from, latest}
use Rattle.mpf_tables.specs.declared.tables.TextKind.{TextKind}
use Rattle.plan_rows.specs.Seats.{section_entries, text_entries, row_sections, has_row, rows_after, rows_after_all}

-- what is found under a name after these, if this was found before
abbrev pub found_after : {X : Type 0} → List ℕ → Option X → List (List ℕ × X) → Option X
found_after name o xs = fold (latest name) o xs

-- ---- the shots of a group

-- one shot, and then the others
pub seat_next : (name : List ℕ) (o : Option Seat) (row : ℕ) (shots : List Name) (i : ℕ) (d : Name) → i < length shots
    → found_after name (latest name o ((name_view (get_or shots i d)).text, record { row = row; shot = i }))
    (seats_at row (i + 1) (map name_view (drop (i + 1) shots)))
    ≡ found_after name o (seats_at row i (map name_view (drop i shots)))
seat_next name o row shots i d within = search (rules, get_or, drop_more)

-- ---- the entries of a text

-- these entries of a section, with its name
abbrev pub entries_of : List ℕ → List rows.Entry → List (List ℕ × Entry)
entries_of section es = map (λ e. (section, e)) (map entry_view es)

module _ (place : TextKind) (is_in_group : List ℕ → Bool) where
  -- whether a shot has a row
  pub shot_has_row : (section : List ℕ) (e : Entry) → bytes_eq section shots_name ≡ true
      → not (is_in_group e.name.text) ≡ has_row place is_in_group (section, e)
  shot_has_row section e is = ap (λ (b : Bool). if b then not (is_in_group e.name.text) else is_among
      (row_sections place)
      section) (sym is)

  -- how many rows come before what comes after an entry of a section
  pub entry_rows_next : (section : List ℕ) (n : ℕ) (es : List rows.Entry) (i : ℕ) (d : rows.Entry) → i < length es
      → d ≡ get_or es i d
      → rows_after_all place is_in_group (rows_after place is_in_group n (section, entry_view d))
      (entries_of section (drop (i + 1) es)) ≡ rows_after_all place is_in_group n (entries_of section (drop i es))
  entry_rows_next section n es i d within is =
      next-is (λ l. rows_after_all place is_in_group n (entries_of section l)) es i d within is

  -- and after a section
  pub section_rows_next : (n : ℕ) (ss : List Section) (i : ℕ) (d : Section) → i < length ss → d ≡ get_or ss i d
      → rows_after_all place is_in_group (rows_after_all place is_in_group n (section_entries (section_view d)))
      (text_entries (map section_view (drop (i + 1) ss)))
      ≡ rows_after_all place is_in_group n (text_entries (map section_view (drop i ss)))
  section_rows_next n ss i d within is =
      let here = section_entries (section_view d) in
      let later = text_entries (map section_view (drop (i + 1) ss)) in
      sym (fold-append (rows_after place is_in_group) n here later)
      ∙ next-is (λ l. rows_after_all place is_in_group n (text_entries (map section_view l))) ss i d within is

  -- Here `give` says what an entry gives under which names.
  module _ {X : Type 0} (give : ℕ → List ℕ × Entry → List (List ℕ × X)) where
    -- what some entries give, and then others
    pub given-append : (n : ℕ) (xs ys : List (List ℕ × Entry))
        → given_from give place is_in_group n (xs ++ ys)
        ≡ given_from give place is_in_group n xs
        ++ given_from give place is_in_group (rows_after_all place is_in_group n xs) ys
    given-append n [] ys = refl
    given-append n (x ∷ xs) ys =
        let after = rows_after place is_in_group n x in
        ap (λ l. give n x ++ l) (given-append after xs ys)
        ∙ sym (append_assoc (give n x) (given_from give place is_in_group after xs)
        (given_from give place is_in_group (rows_after_all place is_in_group after xs) ys))

    -- one entry of a section, and then the others
    pub entry_next : (name section : List ℕ) (o : Option X) (n : ℕ) (es : List rows.Entry) (i : ℕ) (d : rows.Entry)
        → i < length es → d ≡ get_or es i d
        → found_after name (found_after name o (give n (section, entry_view d)))
        (given_from give place is_in_group (rows_after place is_in_group n (section, entry_view d))
        (entries_of section (drop (i + 1) es)))
        ≡ found_after name o (given_from give place is_in_group n (entries_of section (drop i es)))
    entry_next name section o n es i d within is =
        let later = entries_of section (drop (i + 1) es) in
        sym (fold-append (latest name) o (give n (section, entry_view d))
        (given_from give place is_in_group (rows_after place is_in_group n (section, entry_view d)) later))
        ∙ next-is (λ l. found_after name o (given_from give place is_in_group n (entries_of section l))) es i d within
        is

    -- one section, and then the others
    pub section_next : (name : List ℕ) (o : Option X) (n : ℕ) (ss : List Section) (i : ℕ) (d : Section) → i < length ss
        → d ≡ get_or ss i d
        → found_after name (found_after name o (given_from give place is_in_group n (section_entries (section_view d))))
        (given_from give place is_in_group (rows_after_all place is_in_group n (section_entries (section_view d)))
        (text_entries (map section_view (drop (i + 1) ss))))
        ≡ found_after name o (given_from give place is_in_group n (text_entries (map section_view (drop i ss))))
    section_next name o n ss i d within is =
        let here = section_entries (section_view d) in
        let later = text_entries (map section_view (drop (i + 1) ss)) in
        sym (fold-append (latest name) o (given_from give place is_in_group n here)
        (given_from give place is_in_group (rows_after_all place is_in_group n here) later))
        ∙ ap (found_after name o) (sym (given-append n here later))
        ∙ next-is (λ l. found_after name o (given_from give place is_in_group n (text_entries (map section_view l)))) ss
        i d
        within is
