-- Which modes were not found yet, and which keys are taken once one more is found.
use Rattle.std.proofs.Common.{rules, ◌≡◌, ℕ, suc, Bool, true, false, cond, ◌||◌, List, [], ◌∷◌, length, set, slice_get}
use Rattle.std.proofs.Common.{Option, Some, None, Ok, refl, sym, ap, subst, ◌∙◌}
use Rattle.std.specs.{List.flat_map, Str.bytes_eq, Option.option_map}
use Rattle.std.proofs.lemmas.{Bool.{both_ways, or_parts}, List.{append-nil, length-map}, Slice.Eq.bytes_eq-Decides}
use Rattle.yaml_subset.{specs.Keys.is_among, proofs.KeySets.or_swap}
use Rattle.setting_values.specs.KeyRules.{behind_one, found_in}
use Rattle.mpf_config.specs.declared.modes.ModeRead as modes
use Rattle.mpf_config.specs.{declared.listed_mode.ListedMode.ListedMode, BundleText.NamedText, CodeViews.placed_keys}
use Rattle.mpf_config.specs.{ModeReads.ModeRead, Unread.mode_text_of, Apart.entry_keys, Rows.WrittenName}
use Rattle.mpf_config.proofs.TakenEntries.{among_append}
use Rattle.mpf_config.specs.Reading.{new_mode_at, placed_at, none_found, found_of, taken_by}
use Rattle.mpf_config.specs.CodeViews.{modes_view, listed_view, mode_read_view, found_modes_view, mode_keys}
use Rattle.yaml_bytes.proofs.Steps.{bind_ok, ok_is}

-- a mode was found only if the name of its text was among these
abbrev pub NoneBefore : List (List ℕ) → List WrittenName → List (Option ModeRead) → Type 0
NoneBefore names [] [] = Unit {0}
NoneBefore names (w ∷ ws) (o ∷ os) = (is_among names (mode_text_of w) ≡ false → o ≡ None) × NoneBefore names ws os
NoneBefore names ws os = ⊥

-- ---- at first

nothing_before : (names : List (List ℕ)) (ws : List WrittenName) → NoneBefore names ws (none_found ws)
nothing_before names [] = tt
nothing_before names (w ∷ ws) = (λ e. refl, nothing_before names ws)

pub none_before : (names : List (List ℕ)) (ws : List WrittenName) (os : List (Option ModeRead)) → os ≡ none_found ws
    → NoneBefore names ws os
none_before names ws os e = subst (NoneBefore names ws) (sym e) (nothing_before names ws)

none_of : (ws : List WrittenName) → found_of (none_found ws) ≡ []
none_of [] = refl
none_of (w ∷ ws) = none_of ws

pub machine_only : (machine : List (List ℕ)) (ws : List WrittenName) (os : List (Option ModeRead)) → os ≡ none_found ws
    → machine ≡ taken_by machine (found_of os)
machine_only machine ws os e = search (rules, none_of, append-nil)

pub none_long : (found : List (Option modes.ModeRead)) (ms : List ListedMode)
    → found_modes_view found ≡ none_found (modes_view ms) → length found ≡ length ms
none_long found ms e = sym (length-map found (option_map mode_read_view)) ∙ ap length e
    ∙ length-map (modes_view ms) (λ w. None) ∙ length-map ms listed_view

-- ---- one mode more

abbrev Found : Type 0
Found = List (Option ModeRead)

abbrev all_keys : Found → List (List ℕ)
all_keys os = flat_map (λ (m : ModeRead). entry_keys m.mode.sections) (found_of os)

behind_is : (o : Option (ℕ × WrittenName)) (p : ℕ × WrittenName) → behind_one o ≡ Some p
    → (r : ℕ × WrittenName) × (o ≡ Some r) × ((suc r.0, r.1) ≡ p)
behind_is o p e = search rules

-- the keys that a place holds come to those that were there
abbrev Grows : Found → Found → ℕ → Type 0
Grows next found place = (q : List ℕ) → is_among (all_keys next) q
    ≡ (is_among (mode_keys (slice_get next place)) q || is_among (all_keys found) q)

module _ (names known : List (List ℕ)) (name : List ℕ)
    (k : (q : List ℕ) → is_among known q ≡ (bytes_eq name q || is_among names q))
    (fresh : is_among names name ≡ false) where
  still_none : (q : List ℕ) → is_among known q ≡ false → is_among names q ≡ false
  still_none q e = (or_parts (bytes_eq name q) (is_among names q) (sym (k q) ∙ e)).1

  same_before : (ws : List WrittenName) (found : Found) → NoneBefore names ws found → NoneBefore known ws found
  same_before [] [] h = tt
  same_before (w ∷ ws) (o ∷ os) h = (λ e. h.0 (still_none (mode_text_of w) e), same_before ws os h.1)
  same_before ws found h = absurd h

  is_known : is_among known name ≡ true
  is_known = search rules

  -- once this mode is at its place
  abbrev IsAfter : List WrittenName → Found → ModeRead → ℕ × WrittenName → Type 0
  IsAfter ws found m p = NoneBefore known ws (set found p.0 (Some m)) × Grows (set found p.0 (Some m)) found p.0

  after_by : (w : WrittenName) (ws : List WrittenName) (o : Option ModeRead) (os : Found) (m : ModeRead)
      (p : ℕ × WrittenName)
      → ((r : ℕ × WrittenName) → found_in mode_text_of name ws ≡ Some r → IsAfter ws os m r)
      → NoneBefore names (w ∷ ws) (o ∷ os) → (b : Bool) → bytes_eq (mode_text_of w) name ≡ b
      → cond b (Some (0, w)) (behind_one (found_in mode_text_of name ws)) ≡ Some p → IsAfter (w ∷ ws) (o ∷ os) m p
  after_by w ws o os m p so h x9 same e = search
      (rules, bytes_eq-Decides, both_ways, is_known, same_before, among_append, behind_is, still_none, or_swap)

  is_after : (ws : List WrittenName) (found : Found) (m : ModeRead) → NoneBefore names ws found
      → (p : ℕ × WrittenName) → found_in mode_text_of name ws ≡ Some p → IsAfter ws found m p
  is_after [] found m h p e = absurd cc
  is_after (w ∷ ws) [] m h p e = absurd h
  is_after (w ∷ ws) (o ∷ os) m h p e =
      after_by w ws o os m p (is_after ws os m h.1) h (bytes_eq (mode_text_of w) name) refl e

  -- after a text
  abbrev IsNext : List WrittenName → Found → Found → Option (ℕ × WrittenName) → Type 0
  IsNext ws found next hit =
      NoneBefore known ws next × ((q : List ℕ)
      → is_among (all_keys next) q ≡ (is_among (placed_keys next hit) q || is_among (all_keys found) q))

  next_by : (t : NamedText) (taken : List (List ℕ)) (ws : List WrittenName) (found next : Found)
      → NoneBefore names ws found
      → (hit : Option (ℕ × WrittenName)) → found_in mode_text_of name ws ≡ hit → placed_at t taken found hit ≡ Ok next
      → IsNext ws found next hit
  next_by t taken ws found next h None is e =
      subst (λ (os : Found). IsNext ws found os None) (ok_is found next e) (same_before ws found h, λ q. refl)
  next_by t taken ws found next h (Some p) is e =
      let a = bind_ok (new_mode_at taken p.1 t) (λ m. Ok (set found p.0 (Some m))) next e in
      subst (λ (os : Found). IsNext ws found os (Some p)) (ok_is (set found p.0 (Some a.0)) next a.2)
      (is_after ws found a.0 h p is)

  pub next_before : (t : NamedText) (taken : List (List ℕ)) (ws : List WrittenName) (found next : Found)
      → NoneBefore names ws found
      → placed_at t taken found (found_in mode_text_of name ws) ≡ Ok next → NoneBefore known ws next
  next_before t taken ws found next h e = (next_by t taken ws found next h (found_in mode_text_of name ws) refl e).0

  -- which keys are taken then
  pub next_taken : (machine : List (List ℕ)) (t : NamedText) (taken : List (List ℕ)) (ws : List WrittenName)
      (found next : Found) → NoneBefore names ws found
      → placed_at t taken found (found_in mode_text_of name ws) ≡ Ok next → (q : List ℕ)
      → (is_among (placed_keys next (found_in mode_text_of name ws)) q
      || is_among (taken_by machine (found_of found)) q) ≡ is_among (taken_by machine (found_of next)) q
  next_taken machine t taken ws found next h e q =
      let n = (next_by t taken ws found next h (found_in mode_text_of name ws) refl e).1 q in
      let placed = is_among (placed_keys next (found_in mode_text_of name ws)) q in
      ap (λ (b : Bool). placed || b) (among_append machine (all_keys found) q)
      ∙ or_swap placed (is_among machine q) (is_among (all_keys found) q)
      ∙ ap (λ (b : Bool). is_among machine q || b) (sym n)
      ∙ sym (among_append machine (all_keys next) q)
