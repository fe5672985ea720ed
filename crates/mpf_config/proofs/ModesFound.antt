-- The modes that are found in texts: each at its place, by its own text and no other.
use Rattle.std.proofs.Common.{rules, ◌≡◌, ◌≢◌, ℕ, suc, zero, ◌+◌, Bool, true, false, cond, Option, Some, None, Result}
use Rattle.std.proofs.{Common.{Ok, ◌⊎◌, inl, inr, subst, ◌∙◌, arith}, Math.Seq.take-append_seam}
use Rattle.std.proofs.Common.{List, [], ◌∷◌, ◌++◌, length, map, take, slice_index_or, append_assoc, refl, sym, ap}
use Rattle.std.specs.{Prelude.codes, List.{Contains, All, AllZip}, Str.bytes_eq}
use Rattle.std.proofs.lemmas.{Bool.{cases_Bool, both_ways}, Slice.Eq.bytes_eq-Decides}
use Rattle.std.proofs.lemmas.List.{append_cancel_left, length-append, length-map, Elements.{All-head, All-tail}}
use Rattle.yaml_subset.{specs.Keys.is_among, proofs.KeySets.{fresh_sound, fresh_complete}}
use Rattle.config_faults.specs.{declared.fault.BundleFaultKind.TheVariants.Duplicate, Faults.{RowsFault, rows_fault_at}}
use Rattle.mpf_tables.specs.declared.tables.TextKind.TheVariants.{Mode}
use Rattle.setting_values.specs.{KeyRules.{behind_one, found_in}, Reading.{IsReadOr, ◌>>=◌}}
use Rattle.setting_values.proofs.Outcomes.{weaker, then_or}
use Rattle.mpf_sections.specs.Rows.{WrittenName, SectionRows}
use Rattle.mpf_config.specs.{BundleText.{NamedText, mode_text_name}, ModeReads.ModeRead, Apart.entry_keys}
use Rattle.mpf_config.specs.Unread.{mode_text_of, has_text, present_of, mode_notes}
use Rattle.mpf_config.specs.RowsOf.{Sizes, within_limits, AreNew, IsText, AreRowsOf, IsModeRead, IsTextOver}
use Rattle.mpf_config.specs.Reading.{TextRows, line_spot, text_rows_at, mode_read_at, entries_new_at, new_mode_at}
use Rattle.mpf_config.specs.Reading.{placed_at, modes_from, none_found, found_of, taken_by}
use Rattle.mpf_config.proofs.{NewNames.{nothing_in, not_again, all_other}, TextRows.{text_rows_sound, text_rows_or}}
use Rattle.mpf_config.proofs.{TextNames.{named, names_in, text_name}, EntryKeys.{new_sound, new_complete}}
use Rattle.mpf_config.proofs.EntriesApart.{AreModesApart, IsNewMode, mode_entries, none_apart, still_apart, is_fresh}
use Rattle.yaml_bytes.proofs.{Steps.{bind_ok, guard_false, ok_is}, Each.{here, there}}

-- ---- what is taken from texts

-- a place for each listed mode, with what was found of it
abbrev pub Found : Type 0
Found = List (Option ModeRead)

-- the place of a mode: as it was if there is no text of the mode, and else what its text says
abbrev pub IsTaken : Sizes → List NamedText → WrittenName → Option ModeRead → Option ModeRead → Type 0
IsTaken sizes ts w before after =
    ((has_text ts (mode_text_of w) ≡ false) × (after ≡ before))
    ⊎ ((m : ModeRead) × (after ≡ Some m) × IsModeRead sizes ts w m)

-- the places of all listed modes
abbrev pub Taken : Sizes → List NamedText → List WrittenName → Found → Found → Type 0
Taken sizes ts [] [] [] = Unit {0}
Taken sizes ts (w ∷ ws) (before ∷ found) (after ∷ out) = IsTaken sizes ts w before after × Taken sizes ts ws found out
Taken sizes ts ws found out = ⊥

-- the names that are listed
abbrev pub names_of : List WrittenName → List (List ℕ)
names_of ws = map (λ w. w.text) ws

abbrev in_front : Option ModeRead → Found → Found
in_front o os = o ∷ os

-- ---- names of texts

abbrev behind_mode : List ℕ → List ℕ
behind_mode mode = codes "/config/" ++ (mode ++ codes ".yaml")

regrouped : (mode : List ℕ) → mode ++ codes "/config/" ++ mode ++ codes ".yaml" ≡ mode ++ behind_mode mode
regrouped mode = append_assoc (mode ++ codes "/config/") mode (codes ".yaml")
    ∙ append_assoc mode (codes "/config/") (mode ++ codes ".yaml")

length_behind : (mode : List ℕ)
    → length (mode ++ behind_mode mode) ≡ length mode
    + (length (codes "/config/") + (length mode + length (codes ".yaml")))
length_behind mode = search (rules, length-append)

-- a text is that of one mode
pub same_mode : (a b : List ℕ) → mode_text_name a ≡ mode_text_name b → a ≡ b
same_mode a b e =
    let parts = append_cancel_left (codes "modes/") (a ++ codes "/config/" ++ a ++ codes ".yaml")
    (b ++ codes "/config/" ++ b ++ codes ".yaml") e in
    let behind : a ++ behind_mode a ≡ b ++ behind_mode b = sym (regrouped a) ∙ parts ∙ regrouped b in
    let long = sym (length_behind a) ∙ ap length behind ∙ length_behind b in
    let same_length : length a ≡ length b = omega (arith, long) in
    sym (take-append_seam a (behind_mode a)) ∙ (λ i. take (same_length i) (behind i))
    ∙ take-append_seam b (behind_mode b)

abbrev IsOther : NamedText → List ℕ → Type 0
IsOther t mode = t.name ≢ mode_text_name mode

is_name : (t : NamedText) (name : List ℕ) → t.name ≡ name → bytes_eq t.name name ≡ true
is_name t name e = (bytes_eq-Decides t.name name).1 e

no_name : (t : NamedText) (name : List ℕ) → t.name ≢ name → bytes_eq t.name name ≡ false
no_name t name other = search rules

-- a text of one mode is none of the modes behind it
others_behind : (names : List (List ℕ)) (t : NamedText) (w : WrittenName) (ws : List WrittenName)
    → AreNew names (names_of (w ∷ ws))
    → t.name ≡ mode_text_of w → All (IsOther t) (names_of ws)
others_behind names t w ws apart same = search (rules, all_other, same_mode, slice_index_or)

-- ---- whether there is a text

has_is_among : (ts : List NamedText) (name : List ℕ) → has_text ts name ≡ is_among (names_in ts) name
has_is_among [] name = refl
has_is_among (t ∷ ts) name = rw (has_is_among ts name) refl

has_it : (ts : List NamedText) (name text : List ℕ) → IsText ts name text → has_text ts name ≡ true
has_it ts name text h =
    elim (cases_Bool (has_text ts name)) [
      | inl e ↦ e
      | inr e ↦ absurd (fresh_sound (names_in ts) name (sym (has_is_among ts name) ∙ e) (text_name ts name text h))
    ]

has_first : (t : NamedText) (ts : List NamedText) (name : List ℕ) → t.name ≡ name → has_text (t ∷ ts) name ≡ true
has_first t ts name same = rw (is_name t name same) refl

has_behind : (t : NamedText) (ts : List NamedText) (name : List ℕ) → t.name ≢ name
    → has_text (t ∷ ts) name ≡ has_text ts name
has_behind t ts name other = rw (no_name t name other) refl

is_first : (t : NamedText) (ts : List NamedText) (name : List ℕ) → t.name ≡ name → IsText (t ∷ ts) name t.text
is_first t ts name same = search rules

module _ (names : List (List ℕ)) (t : NamedText) (ts : List NamedText) (new : AreNew names (names_in (t ∷ ts)))
    (name : List ℕ) (same : t.name ≡ name) where
  -- no text behind has the name of the first
  none_behind : has_text ts name ≡ false
  none_behind =
      let old = subst (Contains (t.name ∷ names)) same (here t.name names) in
      has_is_among ts name ∙ fresh_complete (names_in ts) name
      (λ h. not_again (t.name ∷ names) (names_in ts) name new.1 h old)

  not_behind : (text : List ℕ) → IsText ts name text → ⊥
  not_behind text h = both_ways (has_text ts name) none_behind (has_it ts name text h)

  only_text : (text : List ℕ) → IsText (t ∷ ts) name text → text ≡ t.text
  only_text text (zero, lt, at) = sym (ap (λ (u : NamedText). u.text) at)
  only_text text (suc k, lt, at) = absurd (not_behind text (k, omega (arith, lt), at))

-- ---- one mode by its text

abbrev mode_made : WrittenName → NamedText → TextRows → ModeRead
mode_made w t r = record { mode = record { name = w.text; sections = r.rows }; notes = mode_notes t.name r.sections }

mode_sound : (t : NamedText) (ts : List NamedText) (w : WrittenName) (m : ModeRead) → t.name ≡ mode_text_of w
    → mode_read_at w t ≡ Ok m
    → IsModeRead within_limits (t ∷ ts) w m
unfolding mode_read_at
mode_sound t ts w m same e =
    let a = bind_ok (text_rows_at Mode t.name t.text) (λ r. Ok (mode_made w t r)) m e in
    subst (IsModeRead within_limits (t ∷ ts) w) (ok_is (mode_made w t a.0) m a.2) (record {
      name = refl;
      text = t.text;
      is_there = is_first t ts (mode_text_of w) same;
      sections = a.0.sections;
      rows = text_rows_sound Mode t.name t.text a.0 a.1;
      notes = ap (λ name. mode_notes name a.0.sections) same;
    })

mode_or : (sizes : Sizes) (names : List (List ℕ)) (t : NamedText) (ts : List NamedText) (w : WrittenName) (m : ModeRead)
    → AreNew names (names_in (t ∷ ts)) → t.name ≡ mode_text_of w
    → IsModeRead sizes (t ∷ ts) w m → IsReadOr (IsTextOver sizes t.text) (mode_read_at w t) m
unfolding mode_read_at
mode_or sizes names t ts w m new same h =
    let text : h.text ≡ t.text = only_text names t ts new (mode_text_of w) same h.text h.is_there in
    let rows = subst (λ xs. AreRowsOf sizes Mode xs h.sections m.mode.sections) text h.rows in
    let r : TextRows = record { sections = h.sections; rows = m.mode.sections } in
    let notes : mode_notes t.name h.sections ≡ m.notes = ap (λ name. mode_notes name h.sections) same ∙ sym h.notes in
    let whole : mode_made w t r ≡ m = λ i.
    record { mode = record { name = sym h.name i; sections = m.mode.sections }; notes = notes i } in
    let read = text_rows_or sizes Mode t.name t.text h.sections m.mode.sections rows in
    then_or (IsTextOver sizes t.text) (text_rows_at Mode t.name t.text) (λ x. Ok (mode_made w t x)) r m read
    (inl (ap (λ (x : ModeRead). Ok x) whole))

-- a mode whose entries are new, once it is read
new_sound_mode : (taken : List (List ℕ)) (t : NamedText) (w : WrittenName) (m : ModeRead) → new_mode_at taken w t ≡ Ok m
    → (mode_read_at w t ≡ Ok m) × IsNewMode taken m
unfolding new_mode_at
new_sound_mode taken t w m e =
    let a = bind_ok (mode_read_at w t) (λ x. entries_new_at t.name taken (mode_entries x) >>= λ all_new. Ok x) m e in
    let b = bind_ok (entries_new_at t.name taken (mode_entries a.0)) (λ all_new. Ok a.0) m a.2 in
    let n = new_sound t.name taken (mode_entries a.0) b.0 b.1 in
    let same : a.0 ≡ m = ok_is a.0 m b.2 in
    (a.1 ∙ ap (λ (x : ModeRead). Ok x) same, subst (IsNewMode taken) same (record { distinct = n.0; fresh = n.1 }))

new_mode_or : (Above : Type 0) (taken : List (List ℕ)) (t : NamedText) (w : WrittenName) (m : ModeRead)
    → entries_new_at t.name taken (mode_entries m) ≡ Ok tt
    → IsReadOr Above (mode_read_at w t) m → IsReadOr Above (new_mode_at taken w t) m
unfolding new_mode_at
new_mode_or Above taken t w m new h = search rules

-- a mode with one more text in front, or one fewer
read_still : (sizes : Sizes) (t : NamedText) (ts : List NamedText) (w : WrittenName) (m : ModeRead)
    → IsModeRead sizes ts w m
    → IsModeRead sizes (t ∷ ts) w m
read_still sizes t ts w m h =
    let is = there t (named (mode_text_of w) h.text) ts h.is_there in
    record { name = h.name; text = h.text; is_there = is; sections = h.sections; rows = h.rows; notes = h.notes }

-- ---- one text, taken to its place

-- the place of a mode: what the text says if it is that of the mode, and else as it was
abbrev IsPlaced : NamedText → List (List ℕ) → WrittenName → Option ModeRead → Option ModeRead → Type 0
IsPlaced t taken w before after =
    ((t.name ≢ mode_text_of w) × (after ≡ before))
    ⊎ ((m : ModeRead) × (after ≡ Some m) × (t.name ≡ mode_text_of w) × (new_mode_at taken w t ≡ Ok m))

abbrev Placed : NamedText → List (List ℕ) → List WrittenName → Found → Found → Type 0
Placed t taken [] [] [] = Unit {0}
Placed t taken (w ∷ ws) (before ∷ found) (after ∷ next) = IsPlaced t taken w before after × Placed t taken ws found next
Placed t taken ws found next = ⊥

placed_long : (t : NamedText) (taken : List (List ℕ)) (ws : List WrittenName) (found next : Found)
    → Placed t taken ws found next → length next ≡ length ws
placed_long t taken [] [] [] h = refl
placed_long t taken (w ∷ ws) (before ∷ found) (after ∷ next) h = ap suc (placed_long t taken ws found next h.1)
placed_long t taken ws found next h = absurd h

untouched : (t : NamedText) (taken : List (List ℕ)) (ws : List WrittenName) (found : Found) → length found ≡ length ws
    → All (IsOther t) (names_of ws)
    → Placed t taken ws found found
untouched t taken [] [] long other = tt
untouched t taken [] (before ∷ found) long other = absurd (omega (arith, long))
untouched t taken (w ∷ ws) [] long other = absurd (omega (arith, long))
untouched t taken (w ∷ ws) (before ∷ found) long other =
    let first = All-head (IsOther t) w.text (names_of ws) other in
    let rest = All-tail (IsOther t) w.text (names_of ws) other in
    (inl (first, refl), untouched t taken ws found (omega (arith, long)) rest)

-- a place behind the first is one among those behind the first
placed_behind : (t : NamedText) (taken : List (List ℕ)) (before : Option ModeRead) (found : Found)
    (o : Option (ℕ × WrittenName))
    → placed_at t taken (before ∷ found) (behind_one o) ≡ (placed_at t taken found o >>= λ next. Ok (before ∷ next))
placed_behind t taken before found x5 = search rules

-- the place of a text among the modes
abbrev place_of : NamedText → List WrittenName → Option (ℕ × WrittenName)
place_of t ws = found_in mode_text_of t.name ws

-- the first, if it is the one, or one behind it
abbrev first_or : Bool → NamedText → WrittenName → List WrittenName → Option (ℕ × WrittenName)
first_or same t w ws = cond same (Some (0, w)) (behind_one (place_of t ws))

-- what is placed among these modes is placed rightly
abbrev IsPlacedRightly : NamedText → List (List ℕ) → List WrittenName → Found → Type 0
IsPlacedRightly t taken ws found = (next : Found) → placed_at t taken found (place_of t ws) ≡ Ok next
    → Placed t taken ws found next

same_name : (t : NamedText) (w : WrittenName) → bytes_eq (mode_text_of w) t.name ≡ true → t.name ≡ mode_text_of w
same_name t w e = sym ((bytes_eq-Decides (mode_text_of w) t.name).0 e)

other_mode : (t : NamedText) (w : WrittenName) → bytes_eq (mode_text_of w) t.name ≡ false → t.name ≢ mode_text_of w
other_mode t w e same = both_ways (bytes_eq (mode_text_of w) t.name) e
    ((bytes_eq-Decides (mode_text_of w) t.name).1 (sym same))

module _ (t : NamedText) (taken : List (List ℕ)) (w : WrittenName) (ws : List WrittenName) (before : Option ModeRead)
    (found next : Found) where
  placed_first : length found ≡ length ws → All (IsOther t) (names_of ws) → t.name ≡ mode_text_of w
      → placed_at t taken (before ∷ found) (Some (0, w)) ≡ Ok next → Placed t taken (w ∷ ws) (before ∷ found) next
  placed_first long other same e = search (rules, bind_ok, ok_is, untouched)

  placed_later : IsPlacedRightly t taken ws found → t.name ≢ mode_text_of w
      → placed_at t taken (before ∷ found) (behind_one (place_of t ws)) ≡ Ok next
      → Placed t taken (w ∷ ws) (before ∷ found) next
  placed_later so other e = search rules

  placed_by : (names : List (List ℕ)) → length found ≡ length ws → AreNew names (names_of (w ∷ ws))
      → IsPlacedRightly t taken ws found
      → (b : Bool) → bytes_eq (mode_text_of w) t.name ≡ b
      → placed_at t taken (before ∷ found) (first_or b t w ws) ≡ Ok next → Placed t taken (w ∷ ws) (before ∷ found) next
  placed_by names long apart so true k e = search (rules, same_name, placed_first, others_behind)
  placed_by names long apart so false k e = placed_later so (other_mode t w k) e

placed_sound : (names : List (List ℕ)) (t : NamedText) (taken : List (List ℕ)) (ws : List WrittenName) (found : Found)
    → length found ≡ length ws
    → AreNew names (names_of ws) → IsPlacedRightly t taken ws found
placed_sound names t taken [] [] long apart next e = subst (Placed t taken [] []) (ok_is [] next e) tt
placed_sound names t taken [] (before ∷ found) long apart next e = absurd (omega (arith, long))
placed_sound names t taken (w ∷ ws) [] long apart next e = absurd (omega (arith, long))
placed_sound names t taken (w ∷ ws) (before ∷ found) long apart next e =
    let less : length found ≡ length ws = omega (arith, long) in
    let so = placed_sound (w.text ∷ names) t taken ws found less apart.1 in
    placed_by t taken w ws before found next names less apart so (bytes_eq (mode_text_of w) t.name) refl e

-- ---- what was found before, and what is found of one text

still : (o : Option ModeRead) (os : Found) (m : ModeRead) → Contains (found_of os) m → Contains (found_of (o ∷ os)) m
still None os m c = c
still (Some n) os m c = there n m (found_of os) c

first_or_later : (o : Option ModeRead) (os : Found) (m : ModeRead) → Contains (found_of (o ∷ os)) m
    → (o ≡ Some m) ⊎ Contains (found_of os) m
first_or_later x1 os m x4 = search rules

at_first : (o : Option ModeRead) (os : Found) (m : ModeRead) → o ≡ Some m → Contains (found_of (o ∷ os)) m
at_first o os m is = subst (λ (x : Option ModeRead). Contains (found_of (x ∷ os)) m) (sym is) (here m (found_of os))

-- a mode that this text is
abbrev IsOfText : NamedText → List (List ℕ) → ModeRead → Type 0
IsOfText t taken m = (w : WrittenName) × (t.name ≡ mode_text_of w) × (new_mode_at taken w t ≡ Ok m)

module _ (t : NamedText) (taken : List (List ℕ)) where
  one_placed : (w : WrittenName) (before after : Option ModeRead) (os : Found) (m : ModeRead)
      → IsPlaced t taken w before after → after ≡ Some m
      → Contains (found_of (before ∷ os)) m ⊎ IsOfText t taken m
  one_placed w before after os m x6 is = search rules

  placed_old_or_new : (ws : List WrittenName) (found next : Found) → Placed t taken ws found next → (m : ModeRead)
      → Contains (found_of next) m
      → Contains (found_of found) m ⊎ IsOfText t taken m
  placed_old_or_new [] [] [] p m c = absurd (nothing_in m c)
  placed_old_or_new (w ∷ ws) (before ∷ found) (after ∷ next) p m c =
      elim (first_or_later after next m c) [
        | inl is ↦ one_placed w before after found m p.0 is
        | inr later ↦ elim (placed_old_or_new ws found next p.1 m later) [
          | inl old ↦ inl (still before found m old)
          | inr new ↦ inr new
        ]
      ]
  placed_old_or_new ws found next p m c = absurd p

-- the text is that of the mode, whose entries are new
abbrev IsTextOf : NamedText → ModeRead → Type 0
IsTextOf t m = t.name ≡ mode_text_name m.mode.name

of_text : (t : NamedText) (ts : List NamedText) (taken : List (List ℕ)) (m : ModeRead) → IsOfText t taken m
    → IsTextOf t m × IsNewMode taken m
of_text t ts taken m new =
    let a = new_sound_mode taken t new.0 m new.2 in
    let named_so = (mode_sound t ts new.0 m new.1 a.0).name in
    (new.1 ∙ ap mode_text_name (sym named_so), a.1)

one_text : (t : NamedText) (m n : ModeRead) → IsTextOf t m → IsTextOf t n → m.mode.name ≡ n.mode.name
one_text t m n is also = same_mode m.mode.name n.mode.name (sym is ∙ also)

-- ---- what is read is what is taken

taken_once : (names : List (List ℕ)) (t : NamedText) (ts : List NamedText) (keys : List (List ℕ)) (w : WrittenName)
    (before middle after : Option ModeRead)
    → AreNew names (names_in (t ∷ ts))
    → IsPlaced t keys w before middle → IsTaken within_limits ts w middle after
    → IsTaken within_limits (t ∷ ts) w before after
taken_once names t ts keys w before middle after new (inl p) (inl q) =
    inl (has_behind t ts (mode_text_of w) p.0 ∙ q.0, q.1 ∙ p.1)
taken_once names t ts keys w before middle after new (inl p) (inr q) =
    inr (q.0, q.1, read_still within_limits t ts w q.0 q.2)
taken_once names t ts keys w before middle after new (inr p) (inl q) =
    inr (p.0, q.1 ∙ p.1, mode_sound t ts w p.0 p.2 (new_sound_mode keys t w p.0 p.3).0)
taken_once names t ts keys w before middle after new (inr p) (inr q) = search (rules, not_behind)

taken_with : (names : List (List ℕ)) (t : NamedText) (ts : List NamedText) (keys : List (List ℕ))
    (ws : List WrittenName) (found next out : Found)
    → AreNew names (names_in (t ∷ ts))
    → Placed t keys ws found next → Taken within_limits ts ws next out → Taken within_limits (t ∷ ts) ws found out
taken_with names t ts keys [] [] [] [] new p q = tt
taken_with names t ts keys [] [] [] (after ∷ out) new p q = absurd q
taken_with names t ts keys (w ∷ ws) (before ∷ found) (middle ∷ next) [] new p q = absurd q
taken_with names t ts keys (w ∷ ws) (before ∷ found) (middle ∷ next) (after ∷ out) new p q =
    search (rules, taken_once, taken_with names t ts keys ws found next out new p.1 q.1)
taken_with names t ts keys ws found next out new p q = absurd p

nothing_taken : (ws : List WrittenName) (found : Found) → length found ≡ length ws
    → Taken within_limits [] ws found found
nothing_taken [] [] long = tt
nothing_taken [] (before ∷ found) long = absurd (omega (arith, long))
nothing_taken (w ∷ ws) [] long = absurd (omega (arith, long))
nothing_taken (w ∷ ws) (before ∷ found) long = (inl (refl, refl), nothing_taken ws found (omega (arith, long)))

module _ (machine : List SectionRows) where
  -- the keys that are taken when these are found
  abbrev keys_at : Found → List (List ℕ)
  keys_at found = taken_by (entry_keys machine) (found_of found)

  next_apart : (t : NamedText) (ts : List NamedText) (ws : List WrittenName) (found next : Found)
      → AreModesApart machine (found_of found)
      → Placed t (keys_at found) ws found next → AreModesApart machine (found_of next)
  next_apart t ts ws found next h p =
      still_apart machine (found_of found) (found_of next) h (IsTextOf t) (one_text t)
      (λ m c. elim (placed_old_or_new t (keys_at found) ws found next p m c) [
        | inl old ↦ inl old
        | inr new ↦ inr (of_text t ts (keys_at found) m new)
      ])

  pub taken_sound : (ws : List WrittenName) (ts : List NamedText) (names : List (List ℕ)) (found out : Found)
      → length found ≡ length ws
      → AreNew [] (names_of ws) → AreModesApart machine (found_of found)
      → modes_from (entry_keys machine) ws names found ts ≡ Ok out
      → AreNew names (names_in ts) × Taken within_limits ts ws found out × AreModesApart machine (found_of out)
  taken_sound ws [] names found out long apart distinct e = search (rules, ok_is, nothing_taken)
  taken_sound ws (t ∷ ts) names found out long apart distinct e =
      let placed = placed_at t (keys_at found) found (place_of t ws) in
      let from_next : Found → Result Found RowsFault =
      λ next. modes_from (entry_keys machine) ws (t.name ∷ names) next ts in
      let again = rows_fault_at Duplicate (line_spot t.name 1) in
      let a = guard_false (is_among names t.name) (placed >>= from_next) again out e in
      let b = bind_ok placed from_next out a.1 in
      let p = placed_sound [] t (keys_at found) ws found long apart b.0 b.1 in
      let still = next_apart t ts ws found b.0 distinct p in
      let c = taken_sound ws ts (t.name ∷ names) b.0 out (placed_long t (keys_at found) ws found b.0 p) apart still b.2
      in
      let new : AreNew names (names_in (t ∷ ts)) = (fresh_sound names t.name a.0, c.0) in
      (new, taken_with names t ts (keys_at found) ws found b.0 out new p c.1, c.2)

-- the modes that have a text are these
abbrev pub AreModes : Sizes → List NamedText → List WrittenName → List ModeRead → Type 0
AreModes sizes ts ws modes = AllZip (IsModeRead sizes ts) (present_of ts ws) modes

module _ (sizes : Sizes) (ts : List NamedText) where
  found_once : (w : WrittenName) (ws : List WrittenName) (after : Option ModeRead) (out : Found)
      → IsTaken sizes ts w None after
      → AreModes sizes ts ws (found_of out) → AreModes sizes ts (w ∷ ws) (found_of (after ∷ out))
  found_once w ws after out (inl h) rest = rw (h.0, h.1) rest
  found_once w ws after out (inr h) rest = rw (has_it ts (mode_text_of w) h.2.text h.2.is_there, h.1) (h.2, rest)

  -- those that are taken from the start are the modes that have a text
  pub all_found : (ws : List WrittenName) (out : Found) → Taken sizes ts ws (none_found ws) out
      → AreModes sizes ts ws (found_of out)
  all_found [] [] h = tt
  all_found [] (after ∷ out) h = absurd h
  all_found (w ∷ ws) [] h = absurd h
  all_found (w ∷ ws) (after ∷ out) h = found_once w ws after out h.0 (all_found ws out h.1)

none_yet : (ws : List WrittenName) → found_of (none_found ws) ≡ []
none_yet [] = refl
none_yet (w ∷ ws) = none_yet ws

-- the modes that are found are those that have a text, and no two have an entry of one section and name
pub modes_found : (machine : List SectionRows) (ws : List WrittenName) (ts : List NamedText) (out : Found)
    → AreNew [] (names_of ws)
    → modes_from (entry_keys machine) ws [] (none_found ws) ts ≡ Ok out
    → AreNew [] (names_in ts) × AreModes within_limits ts ws (found_of out) × AreModesApart machine (found_of out)
modes_found machine ws ts out apart e =
    let first = none_apart machine (found_of (none_found ws)) (none_yet ws) in
    let h = taken_sound machine ws ts [] (none_found ws) out (length-map ws (λ w. None)) apart first e in
    (h.0, all_found within_limits ts ws out h.1, h.2)

-- ---- what is taken is read

module _ (sizes : Sizes) (ts : List NamedText) where
  -- places where these modes are found
  abbrev Places : List WrittenName → List ModeRead → Type 0
  Places ws modes = (out : Found) × (found_of out ≡ modes) × Taken sizes ts ws (none_found ws) out

  place_by : (w : WrittenName) (ws : List WrittenName) (modes : List ModeRead)
      → ((ms : List ModeRead) → AreModes sizes ts ws ms → Places ws ms)
      → (b : Bool) → has_text ts (mode_text_of w) ≡ b
      → AllZip (IsModeRead sizes ts) (cond b (w ∷ present_of ts ws) (present_of ts ws)) modes → Places (w ∷ ws) modes
  place_by w ws [] so true e h = absurd h
  place_by w ws (m ∷ ms) so true e h =
      let rest = so ms h.1 in
      (Some m ∷ rest.0, ap (λ (xs : List ModeRead). m ∷ xs) rest.1, (inr (m, refl, h.0), rest.2))
  place_by w ws modes so false e h =
      let rest = so modes h in
      (None ∷ rest.0, rest.1, (inl (e, refl), rest.2))

  -- the places of the modes that have a text
  pub places_for : (ws : List WrittenName) (modes : List ModeRead) → AreModes sizes ts ws modes → Places ws modes
  places_for [] [] h = ([], refl, tt)
  places_for [] (m ∷ ms) h = absurd h
  places_for (w ∷ ws) modes h = place_by w ws modes (places_for ws) (has_text ts (mode_text_of w)) refl h

none_taken : (sizes : Sizes) (w : WrittenName) (before after : Option ModeRead) → IsTaken sizes [] w before after
    → after ≡ before
none_taken sizes w before after x5 = search rules

-- with no text all stay as they were
as_before : (sizes : Sizes) (ws : List WrittenName) (found out : Found) → Taken sizes [] ws found out → out ≡ found
as_before sizes [] [] [] h = refl
as_before sizes (w ∷ ws) (before ∷ found) (after ∷ out) h = search (rules, none_taken, as_before sizes ws found out h.1)
as_before sizes ws found out h = absurd h

module _ (sizes : Sizes) (t : NamedText) (ts : List NamedText) where
  taken_behind : (w : WrittenName) (before after : Option ModeRead) → t.name ≢ mode_text_of w
      → IsTaken sizes (t ∷ ts) w before after
      → IsTaken sizes ts w before after
  taken_behind w before after other x5 = search rules

  all_behind : (ws : List WrittenName) (found out : Found) → All (IsOther t) (names_of ws)
      → Taken sizes (t ∷ ts) ws found out
      → Taken sizes ts ws found out
  all_behind [] [] [] other h = tt
  all_behind (w ∷ ws) (before ∷ found) (after ∷ out) other h =
      let first = All-head (IsOther t) w.text (names_of ws) other in
      let rest = All-tail (IsOther t) w.text (names_of ws) other in
      (taken_behind w before after first h.0, all_behind ws found out rest h.1)
  all_behind ws found out other h = absurd h

-- it is above the limits if the text of a listed mode is
abbrev pub IsAboveWhere : Sizes → Type 0 → List NamedText → List WrittenName → Type 0
IsAboveWhere sizes Above ts ws =
    (w : WrittenName) (text : List ℕ) → Contains ws w → IsText ts (mode_text_of w) text → IsTextOver sizes text → Above

-- the same of one text
abbrev IsAboveAt : Sizes → Type 0 → NamedText → List WrittenName → Type 0
IsAboveAt sizes Above t ws = (w : WrittenName) → Contains ws w → t.name ≡ mode_text_of w → IsTextOver sizes t.text
    → Above

-- ---- what was found before a text

-- a mode of these, whose text is not one of those to come
abbrev IsOld : List ModeRead → List NamedText → WrittenName → Option ModeRead → Type 0
IsOld modes ts w None = Unit {0}
IsOld modes ts w (Some m) = (m.mode.name ≡ w.text) × (has_text ts (mode_text_of w) ≡ false) × Contains modes m

abbrev AreOld : List ModeRead → List NamedText → List WrittenName → Found → Type 0
AreOld modes ts [] [] = Unit {0}
AreOld modes ts (w ∷ ws) (o ∷ os) = IsOld modes ts w o × AreOld modes ts ws os
AreOld modes ts ws os = ⊥

none_old : (modes : List ModeRead) (ts : List NamedText) (ws : List WrittenName) → AreOld modes ts ws (none_found ws)
none_old modes ts [] = tt
none_old modes ts (w ∷ ws) = (tt, none_old modes ts ws)

-- the same if one text fewer is to come
old_behind : (modes : List ModeRead) (t : NamedText) (ts : List NamedText) (w : WrittenName) (o : Option ModeRead)
    → IsOld modes (t ∷ ts) w o → IsOld modes ts w o
old_behind modes t ts w x5 h = search rules

all_old : (modes : List ModeRead) (t : NamedText) (ts : List NamedText) (ws : List WrittenName) (found : Found)
    → AreOld modes (t ∷ ts) ws found
    → AreOld modes ts ws found
all_old modes t ts [] [] h = tt
all_old modes t ts (w ∷ ws) (o ∷ os) h = (old_behind modes t ts w o h.0, all_old modes t ts ws os h.1)
all_old modes t ts ws os h = absurd h

-- so is each that was found
abbrev WasFound : List ModeRead → List NamedText → ModeRead → Type 0
WasFound modes ts m = (w : WrittenName) × (m.mode.name ≡ w.text) × (has_text ts (mode_text_of w) ≡ false)
    × Contains modes m

was_found : (modes : List ModeRead) (ts : List NamedText) (ws : List WrittenName) (found : Found)
    → AreOld modes ts ws found
    → (m : ModeRead) → Contains (found_of found) m → WasFound modes ts m
was_found modes ts [] [] h m c = absurd (nothing_in m c)
was_found modes ts (w ∷ ws) (o ∷ os) h m c =
    elim (first_or_later o os m c) [
      | inl is ↦ (let k = subst (IsOld modes ts w) is h.0 in (w, k.0, k.1, k.2))
      | inr later ↦ was_found modes ts ws os h.1 m later
    ]
was_found modes ts ws os h m c = absurd h

module _ (sizes : Sizes) (Above : Type 0) (names : List (List ℕ)) (t : NamedText) (ts : List NamedText)
    (keys : List (List ℕ)) (modes : List ModeRead) where
  -- the first text is taken, and the others are still to be
  abbrev Next : Option (ℕ × WrittenName) → List WrittenName → Found → Found → Type 0
  Next place ws found out = (next : Found) × IsReadOr Above (placed_at t keys found place) next
      × Taken sizes ts ws next out × AreOld modes ts ws next

  -- the entries of a mode that this text is are new
  abbrev AreEntriesNew : Type 0
  AreEntriesNew = (w : WrittenName) (m : ModeRead) → t.name ≡ mode_text_of w → m.mode.name ≡ w.text → Contains modes m
      → entries_new_at t.name keys (mode_entries m) ≡ Ok tt

  next_first : (w : WrittenName) (ws : List WrittenName) (before after : Option ModeRead) (found out : Found)
      → AreNew names (names_in (t ∷ ts)) → AreEntriesNew → (IsTextOver sizes t.text → Above)
      → All (IsOther t) (names_of ws) → t.name ≡ mode_text_of w
      → ((m : ModeRead) → Contains (found_of (after ∷ out)) m → Contains modes m) → AreOld modes (t ∷ ts) ws found
      → IsTaken sizes (t ∷ ts) w before after → Taken sizes (t ∷ ts) ws found out
      → Next (Some (0, w)) (w ∷ ws) (before ∷ found) (after ∷ out)
  next_first w ws before after found out new fine so other same among old (inl h) rest = search rules
  next_first w ws before after found out new fine so other same among old (inr h) rest =
      let inside = among h.0 (at_first after out h.0 h.1) in
      let read = weaker (IsTextOver sizes t.text) Above so (mode_read_at w t) h.0
      (mode_or sizes names t ts w h.0 new same h.2) in
      let all_new = new_mode_or Above keys t w h.0 (fine w h.0 same h.2.name inside) read in
      let next = in_front (Some h.0) found in
      let placed = then_or Above (new_mode_at keys w t) (λ m. Ok (in_front (Some m) found)) h.0 next all_new (inl refl)
      in
      let gone = none_behind names t ts new (mode_text_of w) same in (
        next,
        placed,
        (inl (gone, h.1), all_behind sizes t ts ws found out other rest),
        ((h.2.name, gone, inside), all_old modes t ts ws found old),
      )

  next_later : (w : WrittenName) (ws : List WrittenName) (before after : Option ModeRead) (found out : Found)
      → t.name ≢ mode_text_of w → IsOld modes (t ∷ ts) w before → IsTaken sizes (t ∷ ts) w before after
      → Next (place_of t ws) ws found out → Next (behind_one (place_of t ws)) (w ∷ ws) (before ∷ found) (after ∷ out)
  next_later w ws before after found out other old h rest =
      let next = in_front before rest.0 in
      let read = then_or Above (placed_at t keys found (place_of t ws)) (λ os. Ok (in_front before os)) rest.0 next
      rest.1 (inl refl) in (
        next,
        rw (placed_behind t keys before found (place_of t ws)) read,
        (taken_behind sizes t ts w before after other h, rest.2),
        (old_behind modes t ts w before old, rest.3),
      )

  next_by : (ahead : List (List ℕ)) (w : WrittenName) (ws : List WrittenName) (before after : Option ModeRead)
      (found out : Found)
      → AreNew names (names_in (t ∷ ts)) → AreEntriesNew → IsAboveAt sizes Above t (w ∷ ws)
      → AreNew ahead (names_of (w ∷ ws))
      → ((m : ModeRead) → Contains (found_of (after ∷ out)) m → Contains modes m)
      → AreOld modes (t ∷ ts) (w ∷ ws) (before ∷ found)
      → Taken sizes (t ∷ ts) (w ∷ ws) (before ∷ found) (after ∷ out) → Next (place_of t ws) ws found out
      → (b : Bool) → bytes_eq (mode_text_of w) t.name ≡ b
      → Next (first_or b t w ws) (w ∷ ws) (before ∷ found) (after ∷ out)
  next_by ahead w ws before after found out new fine so apart among old h rest true e =
      let same = same_name t w e in
      next_first w ws before after found out new fine (so w (here w ws) same) (others_behind ahead t w ws apart same)
      same among old.1 h.0 h.1
  next_by ahead w ws before after found out new fine so apart among old h rest false e =
      search (rules, next_later, other_mode)

  next_or : (ahead : List (List ℕ)) (ws : List WrittenName) (found out : Found)
      → AreNew names (names_in (t ∷ ts)) → AreEntriesNew → IsAboveAt sizes Above t ws → AreNew ahead (names_of ws)
      → ((m : ModeRead) → Contains (found_of out) m → Contains modes m) → AreOld modes (t ∷ ts) ws found
      → Taken sizes (t ∷ ts) ws found out → Next (place_of t ws) ws found out
  next_or ahead [] [] [] new fine so apart among old h = ([], inl refl, tt, tt)
  next_or ahead (w ∷ ws) (before ∷ found) (after ∷ out) new fine so apart among old h =
      let rest = next_or (w.text ∷ ahead) ws found out new fine (λ v c. so v (there w v ws c)) apart.1
      (λ m c. among m (still after out m c)) old.1 h.1 in
      next_by ahead w ws before after found out new fine so apart among old h rest (bytes_eq (mode_text_of w) t.name)
      refl
  next_or ahead ws found out new fine so apart among old h = absurd h

module _ (sizes : Sizes) (Above : Type 0) (machine : List SectionRows) (ws : List WrittenName)
    (apart : AreNew [] (names_of ws)) (modes : List ModeRead) (distinct : AreModesApart machine modes) where
  -- the entries of a mode of this text are new if no text of what was found is to come
  all_entries_new : (t : NamedText) (ts : List NamedText) (found : Found) → AreOld modes (t ∷ ts) ws found
      → (w : WrittenName) (m : ModeRead) → t.name ≡ mode_text_of w → m.mode.name ≡ w.text → Contains modes m
      → entries_new_at t.name (keys_at machine found) (mode_entries m) ≡ Ok tt
  all_entries_new t ts found old w m same name inside =
      let others : (n : ModeRead) → Contains (found_of found) n → Contains modes n × (n.mode.name ≢ m.mode.name) =
      λ n c. (let k = was_found modes (t ∷ ts) ws found old n c in (
        k.3,
        λ equal. both_ways (has_text (t ∷ ts) (mode_text_of k.0)) k.2
            (has_first t ts (mode_text_of k.0) (same ∙ ap mode_text_name (sym name ∙ sym equal ∙ k.1))),
      )) in
      new_complete t.name (keys_at machine found) (mode_entries m) (distinct.in_mode m inside)
      (is_fresh machine modes (found_of found) distinct m inside others)

  pub taken_or : (ts : List NamedText) (names : List (List ℕ)) (found out : Found) → AreNew names (names_in ts)
      → ((m : ModeRead) → Contains (found_of out) m → Contains modes m) → AreOld modes ts ws found
      → Taken sizes ts ws found out → IsAboveWhere sizes Above ts ws
      → IsReadOr Above (modes_from (entry_keys machine) ws names found ts) out
  taken_or [] names found out new among old h so = search (rules, as_before)
  taken_or (t ∷ ts) names found out new among old h so =
      let first : IsAboveAt sizes Above t ws = λ w c same. so w t.text c (is_first t ts (mode_text_of w) same) in
      let later : IsAboveWhere sizes Above ts ws =
      λ w text c is. so w text c (there t (named (mode_text_of w) text) ts is) in
      let a = next_or sizes Above names t ts (keys_at machine found) modes [] ws found out new
      (all_entries_new t ts found old) first apart among old h in
      let rest = taken_or ts (t.name ∷ names) a.0 out new.1 among a.3 a.2 later in
      let from_next : Found → Result Found RowsFault =
      λ next. modes_from (entry_keys machine) ws (t.name ∷ names) next ts in
      rw (fresh_complete names t.name new.0)
      (then_or Above (placed_at t (keys_at machine found) found (place_of t ws)) from_next a.0 out a.1 rest)

-- the modes that have a text are those that are found, but above the limits
pub modes_found_or : (sizes : Sizes) (Above : Type 0) (machine : List SectionRows) (ts : List NamedText)
    (ws : List WrittenName) (modes : List ModeRead)
    → AreNew [] (names_in ts) → AreNew [] (names_of ws) → AreModes sizes ts ws modes → AreModesApart machine modes
    → IsAboveWhere sizes Above ts ws
    → (out : Found) × (found_of out ≡ modes)
    × IsReadOr Above (modes_from (entry_keys machine) ws [] (none_found ws) ts) out
modes_found_or sizes Above machine ts ws modes new apart each distinct so =
    let a = places_for sizes ts ws modes each in
    let among : (m : ModeRead) → Contains (found_of a.0) m → Contains modes m =
    λ m c. subst (λ (ms : List ModeRead). Contains ms m) a.1 c in (
      a.0,
      a.1,
      taken_or sizes Above machine ws apart modes distinct ts [] (none_found ws) a.0 new among
          (none_old modes ts ws) a.2 so,
    )
