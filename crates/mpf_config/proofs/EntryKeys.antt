-- Entries of which each is new, by their keys.
use Rattle.std.proofs.Common.{◌≡◌, ◌≢◌, ℕ, suc, zero, List, [], ◌∷◌, map, Ok, refl, sym, ap, subst, ◌⊎◌, inl, inr}
use Rattle.std.{proofs.Common.arith, specs.List.{Contains, flat_map}}
use Rattle.yaml_subset.{specs.Keys.is_among, proofs.KeySets.{fresh_sound, fresh_complete}}
use Rattle.config_faults.specs.{declared.fault.BundleFaultKind.TheVariants.Duplicate, Faults.rows_fault_at}
use Rattle.mpf_config.specs.Apart.{EntryName, Differ, AreDistinct, join_texts, entry_key, entry_keys}
use Rattle.mpf_config.{specs.{ModeReads.ModeRead, Reading.{entries_new_at, taken_by}}, proofs.NewNames.nothing_in}
use Rattle.yaml_bytes.proofs.{Steps.guard_false, Each.{here, there}}
use Rattle.std.proofs.lemmas.List.Elements.{Contains-append_cases, Contains-append_left, Contains-append_right}

-- ---- keys

abbrev first_of : List ℕ → ℕ
first_of [] = 0
first_of (x ∷ xs) = x

abbrev behind_first : List ℕ → List ℕ
behind_first [] = []
behind_first (x ∷ xs) = xs

joined_same : (s t n m : List ℕ) → join_texts s n ≡ join_texts t m → (s ≡ t) × (n ≡ m)
joined_same [] [] n m e = (refl, ap behind_first e)
joined_same [] (c ∷ t) n m e = let no : 0 ≡ 1 = ap first_of e in absurd (omega (arith, no))
joined_same (b ∷ s) [] n m e = let no : 1 ≡ 0 = ap first_of e in absurd (omega (arith, no))
joined_same (b ∷ s) (c ∷ t) n m e =
    let rest : b ∷ join_texts s n ≡ c ∷ join_texts t m = ap behind_first e in
    let first : b ≡ c = ap first_of rest in
    let a = joined_same s t n m (ap behind_first rest) in
    (λ i. first i ∷ a.0 i, a.1)

-- entries that differ have two keys
pub not_same : (e f : EntryName) → Differ e f → entry_key e ≢ entry_key f
not_same e f differ same = let a = joined_same e.section f.section e.name.text f.name.text same in differ a.0 a.1

pub differ_by : (e f : EntryName) → entry_key e ≢ entry_key f → Differ e f
differ_by e f other section name = other (λ i. join_texts (section i) (name i))

-- ---- what lists contain

module _ {A B : Type 0} (f : A → List B) where
  in_one : (xs : List A) (z : B) → Contains (flat_map f xs) z → (x : A) × Contains xs x × Contains (f x) z
  in_one [] z c = absurd (nothing_in z c)
  in_one (x ∷ xs) z c =
      elim (Contains-append_cases (f x) (flat_map f xs) z c) [
        | inl h ↦ (x, here x xs, h)
        | inr h ↦ (let a = in_one xs z h in (a.0, there x a.0 xs a.1, a.2))
      ]

  in_all : (xs : List A) (x : A) (z : B) → Contains xs x → Contains (f x) z → Contains (flat_map f xs) z
  in_all [] x z c h = absurd (nothing_in x c)
  in_all (y ∷ xs) x z (zero, lt, at) h = Contains-append_left (f y) (flat_map f xs) z
      (subst (λ w. Contains (f w) z) (sym at) h)
  in_all (y ∷ xs) x z (suc k, lt, at) h = Contains-append_right (f y) (flat_map f xs) z
      (in_all xs x z (k, omega (arith, lt), at) h)

pub in_mapped : {A B : Type 0} (f : A → B) (xs : List A) (y : B) → Contains (map f xs) y
    → (x : A) × Contains xs x × (f x ≡ y)
in_mapped f [] y c = absurd (nothing_in y c)
in_mapped f (x ∷ xs) y (zero, lt, at) = (x, here x xs, at)
in_mapped f (x ∷ xs) y (suc k, lt, at) = let a = in_mapped f xs y (k, omega (arith, lt), at)
    in (a.0, there x a.0 xs a.1, a.2)

-- ---- keys that are taken

abbrev keys_of : ModeRead → List (List ℕ)
keys_of m = entry_keys m.mode.sections

-- a key is taken by the machine or by a mode
pub taken_one : (machine : List (List ℕ)) (modes : List ModeRead) (k : List ℕ) → Contains (taken_by machine modes) k
    → Contains machine k ⊎ ((m : ModeRead) × Contains modes m × Contains (entry_keys m.mode.sections) k)
taken_one machine modes k c =
    elim (Contains-append_cases machine (flat_map keys_of modes) k c) [
      | inl h ↦ inl h
      | inr h ↦ inr (in_one keys_of modes k h)
    ]

pub by_machine : (machine : List (List ℕ)) (modes : List ModeRead) (k : List ℕ) → Contains machine k
    → Contains (taken_by machine modes) k
by_machine machine modes k c = Contains-append_left machine (flat_map keys_of modes) k c

pub by_mode : (machine : List (List ℕ)) (modes : List ModeRead) (m : ModeRead) (k : List ℕ) → Contains modes m
    → Contains (entry_keys m.mode.sections) k
    → Contains (taken_by machine modes) k
by_mode machine modes m k c h = Contains-append_right machine (flat_map keys_of modes) k (in_all keys_of modes m k c h)

-- ---- entries of which each is new

-- none of them has one of these keys
abbrev pub AreFresh : List (List ℕ) → List EntryName → Type 0
AreFresh keys es = (e : EntryName) → Contains es e → Contains keys (entry_key e) → ⊥

fresh_all : (keys : List (List ℕ)) (e : EntryName) (es : List EntryName) → (Contains keys (entry_key e) → ⊥)
    → AreFresh (entry_key e ∷ keys) es → AreFresh keys (e ∷ es)
fresh_all keys e es fresh rest f (zero, lt, at) old =
    fresh (subst (λ (x : EntryName). Contains keys (entry_key x)) (sym at) old)
fresh_all keys e es fresh rest f (suc k, lt, at) old =
    rest f (k, omega (arith, lt), at) (there (entry_key e) (entry_key f) keys old)

pub new_sound : (text : List ℕ) (keys : List (List ℕ)) (es : List EntryName) (u : Unit {0})
    → entries_new_at text keys es ≡ Ok u → AreDistinct es × AreFresh keys es
new_sound text keys [] u h = (tt, λ e c old. nothing_in e c)
new_sound text keys (e ∷ es) u h =
    let fault = rows_fault_at Duplicate (record { text = text; line = e.name.line; key = e.name.text }) in
    let a = guard_false (is_among keys (entry_key e)) (entries_new_at text (entry_key e ∷ keys) es) fault u h in
    let rest = new_sound text (entry_key e ∷ keys) es u a.1 in
    let others : (f : EntryName) → Contains es f → Differ e f =
    λ f c. differ_by e f (λ same. rest.1 f c (subst (Contains (entry_key e ∷ keys)) same (here (entry_key e) keys))) in
    ((others, rest.0), fresh_all keys e es (fresh_sound keys (entry_key e) a.0) rest.1)

still_fresh : (keys : List (List ℕ)) (e : EntryName) (es : List EntryName)
    → ((f : EntryName) → Contains es f → Differ e f) → AreFresh keys es → AreFresh (entry_key e ∷ keys) es
still_fresh keys e es differ new f c (zero, lt, at) = not_same e f (differ f c) at
still_fresh keys e es differ new f c (suc k, lt, at) = new f c (k, omega (arith, lt), at)

pub new_complete : (text : List ℕ) (keys : List (List ℕ)) (es : List EntryName) → AreDistinct es → AreFresh keys es
    → entries_new_at text keys es ≡ Ok tt
new_complete text keys [] distinct new = refl
new_complete text keys (e ∷ es) distinct new =
    let behind : AreFresh keys es = λ f c. new f (there e f es c) in
    rw (fresh_complete keys (entry_key e) (new e (here e es)))
    (new_complete text (entry_key e ∷ keys) es distinct.1 (still_fresh keys e es distinct.0 behind))
