-- Modes of which no two have an entry of one section and name, and none has one of the machine's.
use Rattle.std.proofs.Common.{rules, ◌≡◌, ◌≢◌, ℕ, List, [], map, sym, ap, subst, ◌∙◌, ◌⊎◌, inl, inr}
use Rattle.std.specs.List.{Contains}
use Rattle.mpf_sections.specs.Rows.{SectionRows}
use Rattle.mpf_config.{specs.{Rows.ModeRows, ModeReads.ModeRead, Reading.taken_by}, proofs.NewNames.contains_map}
use Rattle.mpf_config.specs.Apart.{EntryName, AreDistinct, AreApart, AreNamesApart, entry_key, entry_names, entry_keys}
use Rattle.mpf_config.proofs.EntryKeys.{not_same, differ_by, in_mapped, taken_one, by_machine, by_mode, AreFresh}

-- the entries of a mode
abbrev pub mode_entries : ModeRead → List EntryName
mode_entries m = entry_names m.mode.sections

-- what was found of modes is apart
pub record AreModesApart (machine : List SectionRows) (modes : List ModeRead) : Type 0 where
  pub in_mode : (m : ModeRead) → Contains modes m → AreDistinct (mode_entries m)
  pub with_machine : (m : ModeRead) → Contains modes m → AreApart machine m.mode.sections
  pub of_modes : (m n : ModeRead) → Contains modes m → Contains modes n → m.mode.name ≢ n.mode.name
      → AreApart m.mode.sections n.mode.sections

-- if there are none
pub none_apart : (machine : List SectionRows) (modes : List ModeRead) → modes ≡ [] → AreModesApart machine modes
none_apart machine modes none = search rules

-- a mode whose entries are new if these are taken
pub record IsNewMode (taken : List (List ℕ)) (m : ModeRead) : Type 0 where
  pub distinct : AreDistinct (mode_entries m)
  pub fresh : AreFresh taken (mode_entries m)

-- an entry that is taken is none of theirs
apart_from : (taken : List (List ℕ)) (sections others : List SectionRows) → AreFresh taken (entry_names others)
    → ((e : EntryName) → Contains (entry_names sections) e → Contains taken (entry_key e)) → AreApart sections others
apart_from taken sections others fresh old e f ce cf =
    differ_by e f (λ same. fresh f cf (subst (Contains taken) same (old e ce)))

turned : (sections others : List SectionRows) → AreApart sections others → AreApart others sections
turned sections others apart e f ce cf section name = apart f e cf ce (sym section) (sym name)

key_in : (sections : List SectionRows) (e : EntryName) → Contains (entry_names sections) e
    → Contains (entry_keys sections) (entry_key e)
key_in sections e c = contains_map entry_key (entry_names sections) e c

module _ (machine : List SectionRows) (found next : List ModeRead) (h : AreModesApart machine found) where
  abbrev taken : List (List ℕ)
  taken = taken_by (entry_keys machine) found

  machine_taken : (e : EntryName) → Contains (entry_names machine) e → Contains taken (entry_key e)
  machine_taken e c = by_machine (entry_keys machine) found (entry_key e) (key_in machine e c)

  mode_taken : (n : ModeRead) → Contains found n → (e : EntryName) → Contains (mode_entries n) e
      → Contains taken (entry_key e)
  mode_taken n c e ce = by_mode (entry_keys machine) found n (entry_key e) c (key_in n.mode.sections e ce)

  new_apart : (m n : ModeRead) → IsNewMode taken m → Contains found n → AreApart n.mode.sections m.mode.sections
  new_apart m n new c = apart_from taken n.mode.sections m.mode.sections new.fresh (mode_taken n c)

  -- modes that are found now have one name
  module _ (IsFound : ModeRead → Type 0) (one_name : (m n : ModeRead) → IsFound m → IsFound n
      → m.mode.name ≡ n.mode.name) where
    -- a mode that was found before, or is found now
    abbrev IsOldOrNew : ModeRead → Type 0
    IsOldOrNew m = Contains found m ⊎ (IsFound m × IsNewMode taken m)

    in_one : (m : ModeRead) → IsOldOrNew m → AreDistinct (mode_entries m)
    in_one m x1 = search rules

    one_with_machine : (m : ModeRead) → IsOldOrNew m → AreApart machine m.mode.sections
    one_with_machine m (inl c) = h.with_machine m c
    one_with_machine m (inr new) = apart_from taken machine m.mode.sections new.1.fresh machine_taken

    of_two : (m n : ModeRead) → IsOldOrNew m → IsOldOrNew n → m.mode.name ≢ n.mode.name
        → AreApart m.mode.sections n.mode.sections
    of_two m n (inl c) (inl d) other = h.of_modes m n c d other
    of_two m n (inl c) (inr new) other = new_apart n m new.1 c
    of_two m n (inr new) (inl d) other = turned n.mode.sections m.mode.sections (new_apart m n new.1 d)
    of_two m n (inr new) (inr again) other = absurd (other (one_name m n new.0 again.0))

    -- modes that were found before, or are found now, are still apart
    pub still_apart : ((m : ModeRead) → Contains next m → IsOldOrNew m) → AreModesApart machine next
    still_apart either = record {
      in_mode = λ m c. in_one m (either m c);
      with_machine = λ m c. one_with_machine m (either m c);
      of_modes = λ m n c d. of_two m n (either m c) (either n d);
    }

-- ---- in the rows

abbrev rows_of : List ModeRead → List ModeRows
rows_of modes = map (λ m. m.mode) modes

module _ (machine : List SectionRows) (modes : List ModeRead) where
  -- so the rows are apart
  pub rows_apart : AreDistinct (entry_names machine) → AreModesApart machine modes
      → AreNamesApart machine (rows_of modes)
  rows_apart distinct h = record {
    in_machine = distinct;
    in_mode = λ m c. (let a = in_mapped (λ (x : ModeRead). x.mode) modes m c
        in subst (λ (r : ModeRows). AreDistinct (entry_names r.sections)) a.2 (h.in_mode a.0 a.1));
    with_machine = λ m c. (let a = in_mapped (λ (x : ModeRead). x.mode) modes m c
        in subst (λ (r : ModeRows). AreApart machine r.sections) a.2 (h.with_machine a.0 a.1));
    of_modes = λ m n c d other.
        (let a = in_mapped (λ (x : ModeRead). x.mode) modes m c in
        let b = in_mapped (λ (x : ModeRead). x.mode) modes n d in
        let names : a.0.mode.name ≢ b.0.mode.name =
        λ same. other (sym (ap (λ (r : ModeRows). r.name) a.2) ∙ same ∙ ap (λ (r : ModeRows). r.name) b.2) in
        let both = h.of_modes a.0 b.0 a.1 b.1 names in
        subst (λ (r : ModeRows). AreApart m.sections r.sections) b.2
        (subst (λ (r : ModeRows). AreApart r.sections b.0.mode.sections) a.2 both));
  }

  -- and where the rows are, so are the modes
  pub modes_apart : AreNamesApart machine (rows_of modes) → AreModesApart machine modes
  modes_apart h = record {
    in_mode = λ m c. h.in_mode m.mode (contains_map (λ (x : ModeRead). x.mode) modes m c);
    with_machine = λ m c. h.with_machine m.mode (contains_map (λ (x : ModeRead). x.mode) modes m c);
    of_modes = λ m n c d. h.of_modes m.mode n.mode (contains_map (λ (x : ModeRead). x.mode) modes m c)
        (contains_map (λ (x : ModeRead). x.mode) modes n d);
  }

-- ---- a mode that is still to be found

module _ (machine : List SectionRows) (modes found : List ModeRead) (h : AreModesApart machine modes) (m : ModeRead)
    (is : Contains modes m) where
  by_machine_not : (e : EntryName) → Contains (mode_entries m) e → Contains (entry_keys machine) (entry_key e) → ⊥
  by_machine_not e c k = let a = in_mapped entry_key (entry_names machine) (entry_key e) k
      in not_same a.0 e (h.with_machine m is a.0 e a.1 c) a.2

  by_mode_not : (n : ModeRead) → Contains modes n → n.mode.name ≢ m.mode.name → (e : EntryName)
      → Contains (mode_entries m) e → Contains (entry_keys n.mode.sections) (entry_key e) → ⊥
  by_mode_not n d other e c k =
      let a = in_mapped entry_key (mode_entries n) (entry_key e) k in
      not_same a.0 e (h.of_modes n m d is other a.0 e a.1 c) a.2

  -- nothing of it is taken by the machine, or by other modes of these that were found
  pub is_fresh : ((n : ModeRead) → Contains found n → Contains modes n × (n.mode.name ≢ m.mode.name))
      → AreFresh (taken_by (entry_keys machine) found) (mode_entries m)
  is_fresh others e c old =
      elim (taken_one (entry_keys machine) found (entry_key e) old) [
        | inl k ↦ by_machine_not e c k
        | inr k ↦ (let o = others k.0 k.1 in by_mode_not k.0 o.0 o.1 e c k.2)
      ]
