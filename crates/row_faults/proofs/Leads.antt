-- Ball devices lead to the same targets by their places as by their names.
use Rattle.std.proofs.Common.{rules, ◌≡◌, ◌⊎◌, ℕ, zero, suc, ◌+◌, ◌<◌, ◌==◌, Bool, true, false, cond, ◌||◌, List}
use Rattle.std.proofs.Common.{length, map, get_or, Option, Some, None, IfSome, unwrap_or, option_map, refl, ap, ◌∙◌}
use Rattle.std.proofs.{Common.{inl, inr, arith}, lemmas.{Bool.{eq-eqb, ne_eqb}, List.length-map, Simd.map-map}}
use Rattle.std.specs.{List.slice_get, Str.bytes_eq}
use Rattle.std.proofs.lemmas.Option.{slice_get-map, slice_get_cases, get_or_from_slice_get}
use Rattle.mpf_sections.specs.{Rows.BallDeviceEntry, TypedBalls.playfield}
use Rattle.machine_definitions.specs.Definitions.{ball_device_among}
use Rattle.row_faults.specs.Routes.{target_leads, leads_by, leads_to_playfield}
use Rattle.row_faults.{specs.Numbers.{device_at, IsNumbered, number_of, after}, proofs.Numbers.after-beyond}

module _ (devices : List BallDeviceEntry) (found : List ℕ → Option ℕ) (h : IsNumbered devices found) where
  abbrev count : ℕ
  count = length devices

  abbrev number : List ℕ → ℕ
  number name = number_of found count name

  abbrev targets : List ℕ
  targets = map (λ (d : BallDeviceEntry). number d.target.text) devices

  -- beyond the places nothing moves
  stays : (k n : ℕ) → n ≡ count ⊎ n ≡ count + 1 → after targets k n ≡ n
  stays k n x3 = search (rules, after-beyond, length-map)

  beyond : (count + 1 == count) ≡ false
  beyond = ne_eqb (count + 1) count (λ e. omega (arith, e))

  at_first : (b : Bool) (o : Option ℕ) → IfSome o (λ n. n < count)
      → (cond b count (unwrap_or o (count + 1)) == count) ≡ b
  at_first x1 x2 within = search rules

  -- a place moves to its target
  moves : (n : ℕ) (d : BallDeviceEntry) → slice_get devices n ≡ Some d → get_or targets n n ≡ number d.target.text
  moves n d is = get_or_from_slice_get targets n (number d.target.text) n
      (slice_get-map (λ (d : BallDeviceEntry). number d.target.text) devices n
      ∙ ap (option_map (λ (d : BallDeviceEntry). number d.target.text)) is)

  there : (n : ℕ) → n < count → slice_get devices n ≡ None → ⊥
  there n less none = search (rules, slice_get_cases)

  at_next : (k : ℕ) → ((name : List ℕ) → (after targets k (number name) == count) ≡ leads_by devices k name)
      → (b : Bool) (o : Option ℕ) (e : Option BallDeviceEntry) → IfSome o (λ n. n < count) → device_at devices o ≡ e
      → (after targets (suc k) (cond b count (unwrap_or o (count + 1))) == count)
      ≡ (b || target_leads (leads_by devices k) e)
  at_next k same true o e within is = ap (λ (n : ℕ). n == count) (stays (suc k) count (inl refl))
      ∙ eq-eqb count count refl
  at_next k same false (Some n) (Some d) within is = ap (λ (m : ℕ). after targets k m == count) (moves n d is)
      ∙ same d.target.text
  at_next k same false (Some n) None within is = absurd (there n within is)
  at_next k same false None (Some d) within is = absurd cc
  at_next k same false None None within is = ap (λ (n : ℕ). n == count) (stays (suc k) (count + 1) (inr refl)) ∙ beyond

  leads-same : (k : ℕ) (name : List ℕ) → (after targets k (number name) == count) ≡ leads_by devices k name
  leads-same zero name = at_first (bytes_eq name playfield) (found name) (h.within name)
  leads-same (suc k) name = at_next k (leads-same k) (bytes_eq name playfield) (found name)
      (ball_device_among devices name) (h.within name) (h.by_name name)

  -- which ball devices lead to the playfield
  pub leads-by-ends : (places ends : List ℕ) (times : ℕ) → places ≡ targets → times ≡ count
      → ends ≡ map (after places times) places
      → map (λ (n : ℕ). n == length ends) ends ≡ map (leads_to_playfield devices) devices
  leads-by-ends places ends times same all e = search (rules, length-map, rules, map-map, leads-same)
