-- Notes that are taken element by element.
use Rattle.std.proofs.Common.{rules, ◌≡◌, Bool, true, false, not, List, ℕ, [], ◌∷◌, ◌++◌, map, refl, append_assoc}
use Rattle.std.{specs.{List.{filter, flat_map}, Str.bytes_eq}, proofs.lemmas.List.map_push}
use Rattle.yaml_subset.specs.{Node.Pair, Keys.is_among}
use Rattle.mpf_tables.specs.SectionTables.{modes_name}
use Rattle.mpf_config.specs.declared.config.Note as notes
use Rattle.mpf_config.specs.{Rows.{WrittenName, Note}, View.note_view, BundleText.{NamedText, machine_name}}
use Rattle.mpf_config.specs.Unread.{is_skipped, text_names, is_unlisted, skipped_note, section_notes}

-- a note that is pushed
pub one_pushed : (before now : List notes.Note) (note : notes.Note) (seen : Note) → now ≡ before ++ note ∷ []
    → note_view note ≡ seen → map note_view now ≡ map note_view before ++ seen ∷ []
one_pushed before now note seen is e = search (rules, map_push)

-- the notes on a section
module _ (text : List ℕ) (absent : List Note) (p : Pair) where
  pub on_skipped : is_skipped p.key ≡ true → section_notes text absent p ≡ skipped_note text p ∷ []
  on_skipped e = rw e refl

  pub on_modes : is_skipped p.key ≡ false → bytes_eq p.key modes_name ≡ true → section_notes text absent p ≡ absent
  on_modes e h = rw (e, h) refl

  pub on_other : is_skipped p.key ≡ false → bytes_eq p.key modes_name ≡ false → section_notes text absent p ≡ []
  on_other e h = rw (e, h) refl

-- the notes so far, and those on the rest
module _ {A : Type 0} (notes_on : A → List Note) (notes : List Note) where
  pub more_notes : (now : List Note) (x : A) (xs all : List A) (total more : List Note) → now ≡ notes ++ more
      → all ≡ x ∷ xs → notes_on x ≡ more
      → notes ++ flat_map notes_on all ≡ total → now ++ flat_map notes_on xs ≡ total
  more_notes now x xs all total more is e n so_far = search (rules, append_assoc)

  pub no_notes : (x : A) (xs all : List A) (total : List Note) → all ≡ x ∷ xs → notes_on x ≡ []
      → notes ++ flat_map notes_on all ≡ total → notes ++ flat_map notes_on xs ≡ total
  no_notes x xs all total e n so_far = search rules

-- a text is that of the machine, that of a listed mode, or neither
module _ (listed : List WrittenName) (t : NamedText) where
  pub is_machine : not (bytes_eq t.name machine_name) ≡ false → is_unlisted listed t ≡ false
  is_machine e = rw e refl

  pub is_listed : not (bytes_eq t.name machine_name) ≡ true → not (is_among (text_names listed) t.name) ≡ false
      → is_unlisted listed t ≡ false
  is_listed e h = rw (e, h) refl

  pub is_neither : not (bytes_eq t.name machine_name) ≡ true → not (is_among (text_names listed) t.name) ≡ true
      → is_unlisted listed t ≡ true
  is_neither e h = rw (e, h) refl

-- the notes so far, and those on the elements of the rest that are kept
module _ {A : Type 0} (keeps : A → Bool) (note : A → Note) (notes : List Note) where
  pub one_more : (now : List Note) (x : A) (xs all : List A) (total : List Note) → now ≡ notes ++ note x ∷ []
      → all ≡ x ∷ xs → keeps x ≡ true
      → notes ++ map note (filter keeps all) ≡ total → now ++ map note (filter keeps xs) ≡ total
  one_more now x xs all total is e k so_far = search (rules, append_assoc)

  pub no_more : (x : A) (xs all : List A) (total : List Note) → all ≡ x ∷ xs → keeps x ≡ false
      → notes ++ map note (filter keeps all) ≡ total → notes ++ map note (filter keeps xs) ≡ total
  no_more x xs all total e k so_far = search rules
