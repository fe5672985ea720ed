-- A row with what is written into it.
use Rattle.std.proofs.Common.{rules, ◌≡◌, ℕ, zero, suc, ◌+◌, ◌<◌, ◌≤◌, true, false, List, [], ◌∷◌, ◌++◌, length, set}
use Rattle.std.proofs.Common.{take, drop, map, get_or, slice_get, Option, Some, None, Result, option_map, refl, sym, ap}
use Rattle.std.{proofs.{Common.{◌∙◌, arith, add-one}, lemmas.Option.slice_get-map}, specs.{Borrow.Bor, Slice.IsItemAt}}
use Rattle.setting_values.specs.{declared.values.Value.Value, View.{value_view, values_view}}
use Rattle.section_tables.specs.{declared.table.Setting.Setting, TableView.{setting_view, without_view}}
use Rattle.setting_values.{specs.{Values.Value as Seen, Reading.{◌>>=◌, lacking}}, proofs.Finding.lacking_at}
use Rattle.section_tables.specs.{Tables.{setting_key, setting_lacks, lacks_if}, View.{value_option_view, with_written}}
use Rattle.config_faults.specs.{declared.fault.ConfigFault.ConfigFault, Faults.{RowsFault, FailsRows}}

module _ {V : Type 0} where
  set-long : (row : List V) (p : ℕ) (v : V) → length (set row p v) ≡ length row
  set-long x1 x2 v = search rules

  pub written-long : (row : List V) (ps : List ℕ) (vs : List V) → length (with_written row ps vs) ≡ length row
  written-long row [] vs = refl
  written-long row (p ∷ ps) [] = refl
  written-long row (p ∷ ps) (v ∷ vs) = written-long (set row p v) ps vs ∙ set-long row p v

  -- one more value is written last
  pub written-last : (row : List V) (ps : List ℕ) (vs : List V) (p : ℕ) (v : V) → length ps ≡ length vs
      → with_written row (ps ++ p ∷ []) (vs ++ v ∷ []) ≡ set (with_written row ps vs) p v
  written-last row [] [] p v same = refl
  written-last row [] (w ∷ vs) p v same = absurd (omega (arith, same))
  written-last row (q ∷ ps) [] p v same = absurd (omega (arith, same))
  written-last row (q ∷ ps) (w ∷ vs) p v same = written-last (set row q w) ps vs p v (omega (arith, same))

  pub set-here : (row : List V) (p : ℕ) (v : V) → p < length row → slice_get (set row p v) p ≡ Some v
  set-here [] p v within = absurd (omega (arith, within))
  set-here (x ∷ xs) zero v within = refl
  set-here (x ∷ xs) (suc p) v within = set-here xs p v (omega (arith, within))

  pub set-elsewhere : (row : List V) (p q : ℕ) (v : V) → (p ≡ q → ⊥) → slice_get (set row p v) q ≡ slice_get row q
  set-elsewhere [] p q v other = refl
  set-elsewhere (x ∷ xs) zero zero v other = absurd (other refl)
  set-elsewhere (x ∷ xs) zero (suc q) v other = refl
  set-elsewhere (x ∷ xs) (suc p) zero v other = refl
  set-elsewhere (x ∷ xs) (suc p) (suc q) v other = set-elsewhere xs p q v (λ same. other (ap suc same))

  past : (xs : List V) (i : ℕ) → length xs ≤ i → slice_get xs i ≡ None
  past [] i over = refl
  past (x ∷ xs) zero over = absurd (omega (arith, over))
  past (x ∷ xs) (suc i) over = past xs i (omega (arith, over))

  present : (xs : List V) (i : ℕ) (d : V) → i < length xs → slice_get xs i ≡ Some (get_or xs i d)
  present [] i d within = absurd (omega (arith, within))
  present (x ∷ xs) zero d within = refl
  present (x ∷ xs) (suc i) d within = present xs i d (omega (arith, within))

  -- the value that is written at a place is what is written there last
  pub found : (row : List V) (ps : List ℕ) (vs : List V) (place i d : ℕ) → length ps ≡ length vs → i < length ps
      → place < length row → get_or ps i d ≡ place
      → slice_get (with_written row (take (suc i) ps) (take (suc i) vs)) place ≡ slice_get vs i
  found row [] vs place i d same within inside at = absurd (omega (arith, within))
  found row (p ∷ ps) [] place i d same within inside at = absurd (omega (arith, same))
  found row (p ∷ ps) (v ∷ vs) place zero d same within inside at = rw at (set-here row place v inside)
  found row (p ∷ ps) (v ∷ vs) place (suc i) d same within inside at =
      found (set row p v) ps vs place i d (omega (arith, same)) (omega (arith, within)) (rw (set-long row p v) inside)
      at

  -- what is written elsewhere changes nothing there
  pub passed : (row : List V) (ps : List ℕ) (vs : List V) (place i d : ℕ) → length ps ≡ length vs → i < length ps
      → (get_or ps i d ≡ place → ⊥)
      → slice_get (with_written row (take (suc i) ps) (take (suc i) vs)) place
      ≡ slice_get (with_written row (take i ps) (take i vs)) place
  passed row [] vs place i d same within other = absurd (omega (arith, within))
  passed row (p ∷ ps) [] place i d same within other = absurd (omega (arith, same))
  passed row (p ∷ ps) (v ∷ vs) place zero d same within other = set-elsewhere row p place v other
  passed row (p ∷ ps) (v ∷ vs) place (suc i) d same within other =
      passed (set row p v) ps vs place i d (omega (arith, same)) (omega (arith, within)) other

-- an item of a row, as it is seen
pub seen-at : (xs : List Value) (i : ℕ) (r : Option (Bor Value)) → IsItemAt xs i r
    → value_option_view r ≡ slice_get (values_view xs) i
seen-at xs i x3 item = search (rules, slice_get-map, option_map, past, present)

-- there is nothing past the end of a row
pub seen-past : (row : List Value) (ps : List ℕ) (vs : List Value) (place : ℕ) → length row ≤ place
    → slice_get (values_view (with_written row ps vs)) place ≡ None
seen-past row ps vs place over = search (rules, slice_get-map, option_map, past, written-long)

-- places of two rows with the same values in them are seen alike
pub seen-same : (xs ys : List Value) (i j : ℕ) → slice_get xs i ≡ slice_get ys j
    → slice_get (values_view xs) i ≡ slice_get (values_view ys) j
seen-same xs ys i j same = slice_get-map value_view xs i ∙ ap (option_map value_view) same
    ∙ sym (slice_get-map value_view ys j)

-- ---- what is lacking

module _ (table : List Setting) (row : List Seen) (i : ℕ) (d : Setting) (o : Option Seen) (total : Option (List ℕ))
    (within : i < length table) (same : length row ≡ length table) (is : o ≡ slice_get row i) where
  pub lacks-here : lacks_if (without_view (get_or table i d).without) o ≡ true
      → lacking setting_key setting_lacks (map setting_view (drop i table)) (drop i row) ≡ total
      → Some (get_or table i d).key.now ≡ total
  lacks-here lacks so_far =
      let h = lacking_at setting_key setting_lacks setting_view table row i d within same in
      let here : setting_lacks (setting_view (get_or table i d)) h.0 ≡ true = rw (is, h.1) at lacks in
      sym (rw here at h.2) ∙ so_far

  pub lacks-later : lacks_if (without_view (get_or table i d).without) o ≡ false
      → lacking setting_key setting_lacks (map setting_view (drop i table)) (drop i row) ≡ total
      → lacking setting_key setting_lacks (map setting_view (drop (i + 1) table)) (drop (i + 1) row) ≡ total
  lacks-later lacks so_far =
      let h = lacking_at setting_key setting_lacks setting_view table row i d within same in
      let here : setting_lacks (setting_view (get_or table i d)) h.0 ≡ false = rw (is, h.1) at lacks in
      rw add-one (sym (rw here at h.2) ∙ so_far)

-- if reading fails, reading more fails alike
pub fails-then : {A B : Type 0} (e : ConfigFault) (r : Result A RowsFault) (f : A → Result B RowsFault) → FailsRows e r
    → FailsRows e (r >>= f)
fails-then x1 r f h = search rules
