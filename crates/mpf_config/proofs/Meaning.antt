-- The rows of sections are those that are read, and no others.
use Rattle.std.proofs.Common.{rules, ◌≡◌, ◌≢◌, ℕ, ◌<◌, if◌then◌else◌, false, map, List, [], ◌∷◌, Some, Option, Ok, refl}
use Rattle.std.proofs.{Common.{subst, inl, inr}, lemmas.{Bool.both_ways, Slice.Eq.bytes_eq-Decides}}
use Rattle.std.specs.{List.{All, AllZip}, Str.bytes_eq}
use Rattle.std.proofs.lemmas.List.Elements.{All-nil, All-cons, All-head, All-tail}
use Rattle.yaml_subset.specs.{Keys.is_among, Node.{Node, Pair}, View.{line_of, pairs_in}}
use Rattle.config_faults.specs.declared.fault.BundleFaultKind.TheVariants.{BadValue, Duplicate}
use Rattle.mpf_tables.specs.{declared.tables.TextKind.TextKind, SectionTables.shape_of}
use Rattle.section_tables.specs.Shapes.{Shape, by_entries, by_players, by_entry, by_names}
use Rattle.setting_values.specs.Reading.{IsReadOr, ◌>>=◌, key_spot}
use Rattle.section_tables.specs.Reading.{entry_at, entries_at, players_at, names_at}
use Rattle.config_faults.specs.Faults.{Spot, refuse, rows_fault_at}
use Rattle.setting_values.proofs.{Steps.expected, Outcomes.{each_sound, weaker, then_or, each_or}}
use Rattle.section_tables.proofs.EntriesRead.{entry_sound, entry_complete, entries_sound, entries_complete}
use Rattle.section_tables.proofs.EntriesRead.{players_sound, players_complete, names_sound, names_complete}
use Rattle.mpf_sections.specs.Rows.{WrittenName, Content, entries, players, entry, name_list, SectionRows}
use Rattle.mpf_config.specs.{BundleText.machine_owner, Reading.{sections_in, sections_at}}
use Rattle.mpf_config.{specs.{Unread.read_of, RowsOf.AreManyItems}, proofs.BallEnds.{keeps_sound, keeps_complete}}
use Rattle.mpf_config.specs.RowsOf.{Sizes, within_limits, AreNew, AreModesListed, IsContent, KeepsToBallEnd, IsSection}
use Rattle.mpf_config.specs.Reading.{line_spot, modes_new_at, modes_at, content_at, section_from, section_at}
use Rattle.yaml_bytes.proofs.Steps.{bind_ok, guard_true, guard_false, ok_is}
use Rattle.yaml_subset.proofs.KeySets.{fresh_sound, fresh_complete}

-- ---- lists of modes

abbrev is_no_machine : WrittenName → Type 0
is_no_machine w = w.text ≢ machine_owner

no_machine : (w : WrittenName) → bytes_eq w.text machine_owner ≡ false → is_no_machine w
no_machine w e same = both_ways (bytes_eq w.text machine_owner) e ((bytes_eq-Decides w.text machine_owner).1 same)

other_owner : (w : WrittenName) → is_no_machine w → bytes_eq w.text machine_owner ≡ false
other_owner w h = search rules

new_modes_sound : (spot : Spot) (names : List (List ℕ)) (ws : List WrittenName) (u : Unit {0})
    → modes_new_at spot names ws ≡ Ok u → All is_no_machine ws × AreNew names (map (λ w. w.text) ws)
new_modes_sound spot names [] u e = (All-nil is_no_machine, tt)
new_modes_sound spot names (w ∷ ws) u e =
    let at : Spot = record { text = spot.text; line = w.line; key = w.text } in
    let rest = modes_new_at spot (w.text ∷ names) ws in
    let a = guard_false (bytes_eq w.text machine_owner) (if is_among names w.text then refuse Duplicate at else rest)
    (rows_fault_at BadValue spot) u e in
    let b = guard_false (is_among names w.text) rest (rows_fault_at Duplicate at) u a.1 in
    let c = new_modes_sound spot (w.text ∷ names) ws u b.1 in
    (All-cons is_no_machine w ws (no_machine w a.0) c.0, (fresh_sound names w.text b.0, c.1))

new_modes_complete : (spot : Spot) (names : List (List ℕ)) (ws : List WrittenName) → All is_no_machine ws
    → AreNew names (map (λ w. w.text) ws) → modes_new_at spot names ws ≡ Ok tt
new_modes_complete spot names [] others apart = refl
new_modes_complete spot names (w ∷ ws) others apart =
    search (
      rules,
      other_owner,
      All-head,
      fresh_complete,
      All-tail,
      new_modes_complete spot (w.text ∷ names) ws (All-tail is_no_machine w ws others) apart.1,
    )

modes_sound : (text : List ℕ) (p : Pair) (ws : List WrittenName) → modes_at text p ≡ Ok ws
    → AreModesListed within_limits p ws
unfolding modes_at
modes_sound text p ws e = search (rules, bind_ok, new_modes_sound, ok_is, names_sound)

-- as many as there are may be above the limits
modes_or : (sizes : Sizes) (text : List ℕ) (p : Pair) (ws : List WrittenName) → AreModesListed sizes p ws
    → IsReadOr (AreManyItems sizes) (modes_at text p) ws
unfolding modes_at
modes_or sizes text p ws h =
    let many = AreManyItems sizes in
    let found = weaker (64 < sizes.modes) many (λ few. inr few) (names_at 64 text p) ws
    (names_complete 64 text p sizes.modes ws h.is_list) in
    let all_new : IsReadOr many (modes_new_at (key_spot text p) [] ws >>= λ all_new. Ok ws) ws =
    inl (rw (new_modes_complete (key_spot text p) [] ws h.others h.apart) refl) in
    then_or many (names_at 64 text p) (λ xs. modes_new_at (key_spot text p) [] xs >>= λ all_new. Ok xs) ws ws found
    all_new

-- ---- sections

abbrev made : Pair → Content → SectionRows
made p content = record { name = p.key; content = content }

content_sound : (kind : TextKind) (text : List ℕ) (p : Pair) (shape : Shape) (content : Content)
    → shape_of kind p.key ≡ Some shape → content_at text p shape ≡ Ok content → IsContent within_limits kind p content
content_sound kind text p (by_entries barred table) content is e = search (rules, bind_ok, ok_is, entries_sound)
content_sound kind text p (by_players kinds) content is e =
    let a = bind_ok (players_at text kinds p) (λ ps. Ok (players ps)) content e in
    subst (IsContent within_limits kind p) (ok_is (players a.0) content a.2)
    (kinds, is, players_sound text kinds p a.0 a.1)
content_sound kind text p (by_entry table) content is e =
    let a = bind_ok (entry_at text table p) (λ x. Ok (entry x)) content e in
    subst (IsContent within_limits kind p) (ok_is (entry a.0) content a.2) (table, is, entry_sound text table p a.0 a.1)
content_sound kind text p by_names content is e = search (rules, bind_ok, ok_is, modes_sound)

section_by : (kind : TextKind) (text : List ℕ) (p : Pair) (s : SectionRows) (o : Option Shape) → shape_of kind p.key ≡ o
    → section_from text p o ≡ Ok s → IsSection within_limits kind p s
section_by kind text p s x5 is e = search (rules, bind_ok, guard_true, ok_is, content_sound, keeps_sound)

section_sound : (kind : TextKind) (text : List ℕ) (p : Pair) (s : SectionRows) → section_at kind text p ≡ Ok s
    → IsSection within_limits kind p s
unfolding section_at
section_sound kind text p s e = section_by kind text p s (shape_of kind p.key) refl e

module _ (sizes : Sizes) (kind : TextKind) (text : List ℕ) where
  abbrev Many : Type 0
  Many = AreManyItems sizes

  abbrev long : 1024 < sizes.longest → Many
  long many = inl many

  section_of : (p : Pair) (shape : Shape) (content : Content) → shape_of kind p.key ≡ Some shape
      → KeepsToBallEnd p.key content → IsReadOr Many (content_at text p shape) content
      → IsReadOr Many (section_at kind text p) (made p content)
  unfolding section_at
  section_of p shape content is keeps h = search (rules, then_or, keeps_complete)

  content_or : (p : Pair) (content : Content) → IsContent sizes kind p content → KeepsToBallEnd p.key content
      → IsReadOr Many (section_at kind text p) (made p content)
  content_or p (entries es) h keeps =
      let found = weaker (1024 < sizes.longest) Many long (entries_at text h.0 h.1 p) es
      (entries_complete text h.0 h.1 p sizes.longest es h.3) in
      section_of p (by_entries h.0 h.1) (entries es) h.2 keeps
      (then_or Many (entries_at text h.0 h.1 p) (λ xs. Ok (entries xs)) es (entries es) found (inl refl))
  content_or p (players ps) h keeps =
      let found = weaker (1024 < sizes.longest) Many long (players_at text h.0 p) ps
      (players_complete text h.0 p sizes.longest ps h.2) in
      section_of p (by_players h.0) (players ps) h.1 keeps
      (then_or Many (players_at text h.0 p) (λ xs. Ok (players xs)) ps (players ps) found (inl refl))
  content_or p (entry x) h keeps =
      let found = weaker (1024 < sizes.longest) Many long (entry_at text h.0 p) x
      (entry_complete text h.0 p sizes.longest x h.2) in
      section_of p (by_entry h.0) (entry x) h.1 keeps
      (then_or Many (entry_at text h.0 p) (λ y. Ok (entry y)) x (entry x) found (inl refl))
  content_or p (name_list ws) h keeps = section_of p by_names (name_list ws) h.0 keeps
      (then_or Many (modes_at text p) (λ xs. Ok (name_list xs)) ws (name_list ws) (modes_or sizes text p ws h.1)
      (inl refl))

  section_or : (p : Pair) (s : SectionRows) → IsSection sizes kind p s → IsReadOr Many (section_at kind text p) s
  section_or p s h = search (rules, content_or)

  pub sections_or : (sections : List Pair) (rows : List SectionRows)
      → AllZip (IsSection sizes kind) (read_of sections) rows → IsReadOr Many (sections_at kind text sections) rows
  unfolding sections_at
  sections_or sections rows each = each_or (section_at kind text) (IsSection sizes kind) Many section_or
      (read_of sections) rows each

pub sections_sound : (kind : TextKind) (text : List ℕ) (sections : List Pair) (rows : List SectionRows)
    → sections_at kind text sections ≡ Ok rows → AllZip (IsSection within_limits kind) (read_of sections) rows
unfolding sections_at
sections_sound kind text sections rows e =
    each_sound (section_at kind text) (IsSection within_limits kind) (section_sound kind text) (read_of sections) rows e

pub pairs_sound : (text : List ℕ) (tree : Node) (sections : List Pair) → sections_in text tree ≡ Ok sections
    → pairs_in tree ≡ Some sections
unfolding sections_in
pairs_sound text tree sections e = expected (line_spot text (line_of tree)) (pairs_in tree) sections e

pub pairs_complete : (text : List ℕ) (tree : Node) (sections : List Pair) → pairs_in tree ≡ Some sections
    → sections_in text tree ≡ Ok sections
unfolding sections_in
pairs_complete text tree sections e = rw e refl
