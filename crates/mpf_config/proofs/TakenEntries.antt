-- Entries that are taken one after the other, while the keys of those before are kept in a set.
use Rattle.std.proofs.Common.{rules, ◌≡◌, ℕ, Bool, true, false, not, ◌||◌, if◌then◌else◌, List, [], ◌∷◌, ◌++◌, map}
use Rattle.std.{proofs.Common.{Result, Ok, Err, refl, sym, ap, ◌∙◌}, specs.Str.bytes_eq}
use Rattle.std.proofs.{lemmas.{List.map-append, Bool.not-true}, Math.Bool.or_assoc}
use Rattle.yaml_subset.specs.Keys.{is_among}
use Rattle.config_faults.specs.declared.fault.{BundleFaultKind.TheVariants.Duplicate, ConfigFault.ConfigFault}
use Rattle.config_faults.specs.Faults.{refuse, rows_fault_at}
use Rattle.mpf_sections.specs.Rows.{SectionRows}
use Rattle.mpf_config.specs.{Rows.RowsFault, Reading.entries_new_at, View.FailsRows}
use Rattle.mpf_config.specs.Apart.{EntryName, join_texts, entries_named, entry_names, entry_key, entry_keys}
use Rattle.yaml_bytes.proofs.Steps.{guard_false}

-- which keys were taken matters, and not in which order
abbrev pub SameKeys : List (List ℕ) → List (List ℕ) → Type 0
SameKeys keys others = (q : List ℕ) → is_among keys q ≡ is_among others q

-- these keys, and those of entries that were taken
abbrev pub HasTaken : List (List ℕ) → List EntryName → List (List ℕ) → Type 0
HasTaken known es keys = (q : List ℕ) → is_among known q ≡ (is_among (map entry_key es) q || is_among keys q)

pub or_turned : (a b c : Bool) → ((a || b) || c) ≡ (b || (a || c))
or_turned a b c = search rules

pub among_append : (keys others : List (List ℕ)) (q : List ℕ)
    → is_among (keys ++ others) q ≡ (is_among keys q || is_among others q)
among_append [] others q = refl
among_append (k ∷ keys) others q = search (rules, or_assoc, among_append keys others q)

pub entries_same : (text : List ℕ) (keys others : List (List ℕ)) (es : List EntryName) → SameKeys keys others
    → entries_new_at text keys es ≡ entries_new_at text others es
entries_same text keys others [] h = refl
entries_same text keys others (e ∷ es) h =
    search (
      rules,
      entries_same text (entry_key e ∷ keys) (entry_key e ∷ others) es
          (λ q. ap (λ (b : Bool). bytes_eq (entry_key e) q || b) (h q)),
    )

-- ---- one entry

-- the front of the keys of a section's entries, and a name after it
pub front_and_name : (section name : List ℕ) → join_texts section [] ++ name ≡ join_texts section name
front_and_name [] name = refl
front_and_name (b ∷ section) name = ap (λ key. 1 ∷ b ∷ key) (front_and_name section name)

-- an entry that was taken before
pub refuses_entry : (text : List ℕ) (keys : List (List ℕ)) (fresh : Bool) (e : EntryName) (es all : List EntryName)
    → all ≡ e ∷ es
    → fresh ≡ not (is_among keys (entry_key e)) → fresh ≡ false
    → entries_new_at text keys all ≡ Err (rows_fault_at Duplicate
    (record { text = text; line = e.name.line; key = e.name.text }))
refuses_entry text keys fresh e es all is said old = search rules

-- an entry that is new
pub takes_entry : (text : List ℕ) (keys known : List (List ℕ)) (fresh : Bool) (e : EntryName) (es all : List EntryName)
    → all ≡ e ∷ es
    → fresh ≡ not (is_among keys (entry_key e)) → fresh ≡ true
    → ((q : List ℕ) → is_among known q ≡ (bytes_eq (entry_key e) q || is_among keys q))
    → entries_new_at text known es ≡ entries_new_at text keys all
takes_entry text keys known fresh e es all is said new k =
    let none : is_among keys (entry_key e) ≡ false = not-true (is_among keys (entry_key e)) (sym said ∙ new) in
    let whole : entries_new_at text keys all ≡ entries_new_at text (entry_key e ∷ keys) es = rw (is, none) refl in
    entries_same text known (entry_key e ∷ keys) es k ∙ sym whole

-- it is known from then on
pub knows_entry : (keys known : List (List ℕ)) (e : EntryName) (es all : List EntryName) → all ≡ e ∷ es
    → ((q : List ℕ) → is_among known q ≡ (bytes_eq (entry_key e) q || is_among keys q))
    → (q : List ℕ) → (is_among (map entry_key es) q || is_among known q)
    ≡ (is_among (map entry_key all) q || is_among keys q)
knows_entry keys known e es all is k q = search rules

-- ---- entries behind entries

pub new_behind : (text : List ℕ) (keys known : List (List ℕ)) (es fs : List EntryName) (u : Unit {0})
    → entries_new_at text keys es ≡ Ok u → HasTaken known es keys
    → entries_new_at text known fs ≡ entries_new_at text keys (es ++ fs)
new_behind text keys known [] fs u h k = entries_same text known keys fs k
new_behind text keys known (e ∷ es) fs u h k =
    let fault = rows_fault_at Duplicate (record { text = text; line = e.name.line; key = e.name.text }) in
    let a = guard_false (is_among keys (entry_key e)) (entries_new_at text (entry_key e ∷ keys) es) fault u h in
    let more : HasTaken known es (entry_key e ∷ keys) = λ q. k q
    ∙ or_turned (bytes_eq (entry_key e) q) (is_among (map entry_key es) q) (is_among keys q) in
    let rest = new_behind text (entry_key e ∷ keys) known es fs u a.1 more in
    let whole : entries_new_at text keys ((e ∷ es) ++ fs) ≡ entries_new_at text (entry_key e ∷ keys) (es ++ fs) =
    rw a.0 refl in
    rest ∙ sym whole

abbrev from_rest : List ℕ → EntryName → Bool → Result (Unit {0}) RowsFault → Result (Unit {0}) RowsFault
from_rest text e b rest = if b then refuse Duplicate (record { text = text; line = e.name.line; key = e.name.text })
    else rest

first_or_rest : (text : List ℕ) (e : EntryName) (b : Bool) (rest whole : Result (Unit {0}) RowsFault) (d : RowsFault)
    → (rest ≡ Err d → whole ≡ Err d)
    → from_rest text e b rest ≡ Err d → from_rest text e b whole ≡ Err d
first_or_rest text e b rest whole d so h = search rules

-- a fault is that of the whole
pub fails_first : (text : List ℕ) (keys : List (List ℕ)) (es fs : List EntryName) (d : RowsFault)
    → entries_new_at text keys es ≡ Err d
    → entries_new_at text keys (es ++ fs) ≡ Err d
fails_first text keys [] fs d h = absurd cc
fails_first text keys (e ∷ es) fs d h =
    first_or_rest text e (is_among keys (entry_key e)) (entries_new_at text (entry_key e ∷ keys) es)
    (entries_new_at text (entry_key e ∷ keys) (es ++ fs)) d
    (fails_first text (entry_key e ∷ keys) es fs d) h

-- ---- sections behind sections

module _ (text : List ℕ) (keys : List (List ℕ)) (s : SectionRows) (ss all : List SectionRows) (is : all ≡ s ∷ ss) where
  whole : entries_new_at text keys (entry_names all) ≡ entries_new_at text keys (entries_named s ++ entry_names ss)
  whole = ap (λ (xs : List SectionRows). entries_new_at text keys (entry_names xs)) is

  pub takes_section : (known : List (List ℕ)) (u : Unit {0}) → entries_new_at text keys (entries_named s) ≡ Ok u
      → HasTaken known (entries_named s) keys
      → entries_new_at text known (entry_names ss) ≡ entries_new_at text keys (entry_names all)
  takes_section known u h k = new_behind text keys known (entries_named s) (entry_names ss) u h k ∙ sym whole

  pub knows_section : (known : List (List ℕ)) → HasTaken known (entries_named s) keys
      → (q : List ℕ) → (is_among (entry_keys ss) q || is_among known q)
      ≡ (is_among (entry_keys all) q || is_among keys q)
  knows_section known k q = search (rules, map-append, among_append, or_turned)

  pub fails_section : (e : ConfigFault) → FailsRows e (entries_new_at text keys (entries_named s))
      → FailsRows e (entries_new_at text keys (entry_names all))
  fails_section x1 h = search (rules, whole, fails_first)
