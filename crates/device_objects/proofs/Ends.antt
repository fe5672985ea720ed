-- Values that reach their end, and values that do not.
use Rattle.std.proofs.Common.{rules, ◌≡◌, true, false, Option, None, Some, is_some, refl, ap, ◌∙◌, ℤ, pos, neg_ℤ, ◌+ℤ◌}
use Rattle.std.{proofs.{Common.{◌-ℤ◌, arith}, lemmas.{Int.ints, Bool.false≢true}}, specs.Prelude.{int_le, ◌≤ℤ◌}}
use Rattle.machine_settings.specs.declared.words.Direction.{Direction, TheVariants.{Up, Down}}
use Rattle.machine_settings.specs.{Limits.IsEndWithin, Ends.is_at_end}
use Rattle.device_objects.specs.Values.{clamp_value, move_value}

-- a value is at its end only if there is one
pub at_end-some : (direction : Direction) (end : Option ℤ) (value : ℤ) → is_at_end direction end value ≡ true
    → is_some end ≡ true
at_end-some direction end value is = search rules

-- what is not far from 0 is not clamped
near : (n : ℤ) → neg_ℤ (pos 2000000000) ≤ℤ n → n ≤ℤ pos 2000000000 → clamp_value n ≡ n
unfolding clamp_value
near n low high = grind (arith, ints)

-- a value is moved to this one from some value
moved_to : (direction : Direction) (by n : ℤ) → neg_ℤ (pos 2000000000) ≤ℤ n → n ≤ℤ pos 2000000000
    → (value : ℤ) × (move_value direction by value ≡ n)
moved_to Up by n low high =
    (n -ℤ by, ap clamp_value (let e : (n -ℤ by) +ℤ by ≡ n = omega (arith, ints) in e) ∙ near n low high)
moved_to Down by n low high =
    (n +ℤ by, ap clamp_value (let e : (n +ℤ by) -ℤ by ≡ n = omega (arith, ints) in e) ∙ near n low high)

-- a value from which a move, this way or that, reaches the end
pub ends_at : (go direction : Direction) (end : Option ℤ) (by : ℤ) → IsEndWithin end → is_some end ≡ true
    → (value : ℤ) × (is_at_end direction end (move_value go by value) ≡ true)
ends_at go direction None by within some = absurd (false≢true some)
ends_at go Up (Some end) by within some =
    let from = moved_to go by end (omega (arith, ints, within.0)) (omega (arith, ints, within.1)) in
    (from.0, ap (int_le end) from.1 ∙ (let e : int_le end end ≡ true = grind (arith, ints) in e))
ends_at go Down (Some end) by within some =
    let from = moved_to go by end (omega (arith, ints, within.0)) (omega (arith, ints, within.1)) in
    (from.0, ap (λ v. int_le v end) from.1 ∙ (let e : int_le end end ≡ true = grind (arith, ints) in e))

-- a value from which a move does not reach the end
pub goes_on_at : (direction : Direction) (end : Option ℤ) (by : ℤ) → IsEndWithin end
    → (value : ℤ) × (is_at_end direction end (move_value direction by value) ≡ false)
goes_on_at direction None by within = (pos 0, refl)
goes_on_at Up (Some end) by within =
    let from = moved_to Up by (end -ℤ pos 1) (omega (arith, ints, within.0)) (omega (arith, ints, within.1)) in
    (from.0, ap (int_le end) from.1 ∙ (let e : int_le end (end -ℤ pos 1) ≡ false = grind (arith, ints) in e))
goes_on_at Down (Some end) by within =
    let from = moved_to Down by (end +ℤ pos 1) (omega (arith, ints, within.0)) (omega (arith, ints, within.1)) in
    (from.0, ap (λ v. int_le v end) from.1 ∙ (let e : int_le (end +ℤ pos 1) end ≡ false = grind (arith, ints) in e))
