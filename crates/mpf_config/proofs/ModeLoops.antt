-- What the loops over the texts of modes did.
use Rattle.std.proofs.Common.{rules, ◌≡◌, ℕ, suc, zero, ◌<◌, length, List, [], ◌∷◌, Option, Some, None, Ok, set}
use Rattle.std.proofs.{Common.{slice_get, refl, arith}, lemmas.List.{map-set, length-map}}
use Rattle.mpf_config.specs.declared.modes.ModeRead as modes
use Rattle.mpf_config.specs.{Rows.WrittenName, BundleText.NamedText, Reading.{new_mode_at, placed_at}, Apart.entry_keys}
use Rattle.mpf_config.specs.CodeViews.{mode_read_view, found_modes_view, placed_keys}

-- a mode that was read is at its place
pub put_in_place : (t : NamedText) (taken : List (List ℕ)) (w : WrittenName) (found next : List (Option modes.ModeRead))
    (place : ℕ) (read : modes.ModeRead) (hit : Option (ℕ × WrittenName))
    → Some (place, w) ≡ hit → new_mode_at taken w t ≡ Ok (mode_read_view read) → next ≡ set found place (Some read)
    → placed_at t taken (found_modes_view found) hit ≡ Ok (found_modes_view next)
put_in_place t taken w found next place read hit h r n = search (rules, map-set)

-- a text that is that of no mode leaves all as it is
pub none_placed : (t : NamedText) (taken : List (List ℕ)) (found next : List (Option modes.ModeRead))
    (hit : Option (ℕ × WrittenName))
    → None ≡ hit → next ≡ found → placed_at t taken (found_modes_view found) hit ≡ Ok (found_modes_view next)
none_placed t taken found next hit h n = rw (← h, n) refl

got : {A : Type 0} (xs : List A) (i : ℕ) (x : A) → i < length xs → slice_get (set xs i x) i ≡ Some x
got [] i x lt = absurd (omega (arith, lt))
got (y ∷ xs) zero x lt = refl
got (y ∷ xs) (suc i) x lt = got xs i x (omega (arith, lt))

-- the keys of what is at a place are those of the mode that was put there
pub keys_placed : (w : WrittenName) (found next : List (Option modes.ModeRead)) (place : ℕ) (read : modes.ModeRead)
    (hit : Option (ℕ × WrittenName))
    → Some (place, w) ≡ hit → next ≡ set found place (Some read) → place < length found
    → entry_keys (mode_read_view read).mode.sections ≡ placed_keys (found_modes_view next) hit
keys_placed w found next place read hit h n lt = search (rules, length-map, got, map-set)

pub no_keys_placed : (next : List (Option modes.ModeRead)) (hit : Option (ℕ × WrittenName)) → None ≡ hit
    → [] ≡ placed_keys (found_modes_view next) hit
no_keys_placed next hit h = rw (← h) refl
