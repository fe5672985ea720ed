-- Entries of a mode beside those of the machine text, which are taken once a mode has entries.
use Rattle.std.proofs.Common.{rules, ◌≡◌, ◌==◌, ℕ, Bool, true, false, ◌||◌, List, [], ◌∷◌, length, map, refl}
use Rattle.std.{specs.Str.bytes_eq, proofs.lemmas.{Bool.eqb-true, List.nil_from_length, Slice.Eq.bytes_eq-Decides}}
use Rattle.yaml_subset.specs.Keys.{is_among}
use Rattle.mpf_sections.specs.{Rows.{Entry, SectionRows}, Typed.entries_in}
use Rattle.config_faults.specs.declared.fault.ConfigFault.{ConfigFault}
use Rattle.config_faults.specs.declared.fault.ConfigFault.TheVariants as faults
use Rattle.mpf_config.specs.{View.FailsRows, Reading.entries_new_at, CodeViews.or_machine}
use Rattle.mpf_config.specs.Apart.{EntryName, AreDistinct, entry_names}
use Rattle.mpf_config.proofs.{NewNames.nothing_in, EntryKeys.new_complete}

-- a section without entries adds none
pub none_here : {R : Type 0} (s : SectionRows) (ss all : List SectionRows) (view : R → Entry) (rows : List R)
    → all ≡ s ∷ ss
    → map view rows ≡ entries_in s.content → (length rows == 0) ≡ true → entry_names ss ≡ entry_names all
none_here s ss all view rows is are empty = search (rules, nil_from_length, eqb-true)

-- the entries of the machine text are new if none is taken, so they fail only if memory runs out
pub only_memory : (e : ConfigFault) (text : List ℕ) (keys : List (List ℕ)) (es : List EntryName) → keys ≡ []
    → AreDistinct es → FailsRows e (entries_new_at text keys es) → e ≡ faults.NoMemory
only_memory x1 text keys es none distinct h = search (rules, new_complete, nothing_in)

only_right : (a b : Bool) → false ≡ (a || b) → b ≡ (a || b)
only_right a b e = search rules

no_hit : (a b : Bool) → b ≡ true → false ≡ (a || b) → ⊥
no_hit a b is e = search rules

-- what came to a set that has the machine's keys as well
pub gains_beside : (machine old new : List (List ℕ)) (is_one : List ℕ → Bool)
    → ((q : List ℕ) → is_among new q ≡ (is_one q || is_among (or_machine machine old) q))
    → (q : List ℕ) → is_among (or_machine machine new) q ≡ (is_one q || is_among (or_machine machine old) q)
gains_beside machine old (k ∷ new) is_one h q = h q
gains_beside machine [] [] is_one h q = only_right (is_one q) (is_among machine q) (h q)
gains_beside machine (k ∷ old) [] is_one h q =
    let self : bytes_eq k k ≡ true = (bytes_eq-Decides k k).1 refl in
    let among : is_among (k ∷ old) k ≡ true = rw self refl in
    absurd (no_hit (is_one k) (is_among (k ∷ old) k) among (h k))
