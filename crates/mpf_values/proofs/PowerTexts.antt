-- Powers are read as they are written.
use Rattle.std.proofs.Common.{rules, ◌≡◌, ℕ, ◌/◌, ◌<◌, ◌≤◌, ◌^◌, cond, ltb, List, [], Some, None, codes, refl, sym, ap}
use Rattle.std.proofs.Common.{◌∙◌, ◌⊎◌, inl, inr, arith}
use Rattle.std.proofs.lemmas.{Bool.{le-leb, ltb-false, le-ltb}, List.append-nil, Option.same_Some}
use Rattle.mpf_values.specs.{declared.decimals.Decimal.Decimal, Numbers.IsDecimal}
use Rattle.mpf_values.specs.Powers.{IsFraction, IsPercentage, IsPower}
use Rattle.mpf_values.specs.Reading.{◌>>=◌, decimal_at, share_at, power_at}
use Rattle.mpf_values.proofs.{Steps.{bind_some, guard_false}, Computing.Computes}
use Rattle.mpf_values.proofs.WrittenNumbers.{Front, decimal_sound, decimal_complete}

-- ---- what is read is a power

shared : (text : List ℕ) (d : Decimal) (rest : List ℕ) (power : ℕ) → Front text d rest → share_at d rest ≡ Some power
    → IsFraction text power ⊎ IsPercentage text power
unfolding share_at
shared text d rest power f e = search rules

power_sound : (text : List ℕ) (power : ℕ) → power_at text ≡ Some power → IsPower text power
unfolding power_at
power_sound text power e =
    let a = bind_some (decimal_at text) (λ d. share_at d.0 d.1 >>= λ n. cond (ltb 1000 n) None (Some n)) power e in
    let b = bind_some (share_at a.0.0 a.0.1) (λ n. cond (ltb 1000 n) None (Some n)) power a.2 in
    let c = guard_false (ltb 1000 b.0) (Some b.0) power b.2 in
    let is = same_Some b.0 power c.1 in
    let within = ltb-false 1000 b.0 c.0 in
    (shared text a.0.0 a.0.1 power (decimal_sound text a.0 a.1) (b.1 ∙ ap (λ (n : ℕ). Some n) is), omega arith)

-- ---- a power is read

fraction_complete : (text : List ℕ) (power places : ℕ) → IsDecimal text power places → power ≤ 1000
    → power_at text ≡ Some power
unfolding power_at share_at
fraction_complete text power places h within =
    let number = decimal_complete text [] power places h (omega arith) (record { digit = refl; point = refl }) in
    rw (sym (ap decimal_at (append-nil text)) ∙ number, le-ltb 1000 power within) refl

percentage_complete : (text : List ℕ) (power : ℕ) → IsPercentage text power → power ≤ 1000 → power_at text ≡ Some power
unfolding power_at share_at
percentage_complete text power h within =
    let value = h.value in
    let fits : h.thousandths < 2 ^ 64 = omega arith in
    let number = decimal_complete h.number (codes "%") h.thousandths h.places h.is_number fits
    (record { digit = refl; point = refl }) in
    let is : h.thousandths / 100 ≡ power = omega arith in
    rw (h.parts, number, le-leb h.places 1 h.few, is, le-ltb 1000 power within) refl

power_complete : (text : List ℕ) (power : ℕ) → IsPower text power → power_at text ≡ Some power
power_complete text power (inl h, within) = fraction_complete text power h.0 h.1 within
power_complete text power (inr h, within) = percentage_complete text power h within

pub power_computes : (text : List ℕ) → Computes (power_at text) (IsPower text)
power_computes text = record { sound = power_sound text; complete = power_complete text }
