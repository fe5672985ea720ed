-- What a text says is what it is read as, and nothing else.
use Rattle.std.proofs.Common.{rules, ◌≡◌, ℕ, ◌≤◌, nat_le, ◌&&◌, Bool, true, List, [], ◌∷◌, Some, refl, sym, inl, inr}
use Rattle.std.{specs.Str.bytes_eq, proofs.lemmas.Bool.{leb-true, le-leb, and_parts}}
use Rattle.mpf_values.specs.Reading.{boolean_at, integer_at, time_at, power_at, event_at}
use Rattle.mpf_values.proofs.{BooleanTexts.boolean_computes, PowerTexts.power_computes}
use Rattle.mpf_values.proofs.{IntegerTexts.integer_computes, TimeTexts.time_computes, EventTexts.event_computes}
use Rattle.mpf_values.proofs.NameTexts.{IsName-from_is_name, is_name-from_IsName}
use Rattle.setting_values.specs.Values.{Plain, flag, number, time, power, event, handled_at}
use Rattle.setting_values.specs.{Reading.{keep, is_one_of, scalar_of}, ValueOf.{within, IsOneOf, IsScalar}}
use Rattle.setting_values.specs.Kinds.{Scalar, a_flag, number_within, time_within, a_power, one_of, a_name, an_event}
use Rattle.setting_values.proofs.Options.{gave, kept}
use Rattle.yaml_bytes.proofs.Words.{is_word}

among_by : (xs : List (List ℕ)) (w : List ℕ) (x : List ℕ) (b : Bool) → bytes_eq x w ≡ b → is_one_of (x ∷ xs) w ≡ true
    → (is_one_of xs w ≡ true → IsOneOf xs w) → IsOneOf (x ∷ xs) w
unfolding is_one_of
among_by xs w x x4 e h rest = search rules

pub among_sound : (words : List (List ℕ)) (w : List ℕ) → is_one_of words w ≡ true → IsOneOf words w
unfolding is_one_of
among_sound [] w h = absurd cc
among_sound (x ∷ xs) w h = among_by xs w x (bytes_eq x w) refl h (among_sound xs w)

among_again : (xs : List (List ℕ)) (w : List ℕ) (x : List ℕ) (b : Bool) → bytes_eq x w ≡ b → is_one_of xs w ≡ true
    → is_one_of (x ∷ xs) w ≡ true
unfolding is_one_of
among_again xs w x x4 e h = search rules

pub among_complete : (words : List (List ℕ)) (w : List ℕ) → IsOneOf words w → is_one_of words w ≡ true
unfolding is_one_of
among_complete [] w h = absurd h
among_complete (x ∷ xs) w (inl e) = rw (is_word x w (sym e)) refl
among_complete (x ∷ xs) w (inr h) = among_again xs w x (bytes_eq x w) refl (among_complete xs w h)

between : (least ms greatest : ℕ) → (nat_le least ms && nat_le ms greatest) ≡ true → (least ≤ ms) × (ms ≤ greatest)
between least ms greatest h = let a = and_parts (nat_le least ms) (nat_le ms greatest) h
    in (leb-true least ms a.0, leb-true ms greatest a.1)

is_between : (least ms greatest : ℕ) → least ≤ ms → ms ≤ greatest → (nat_le least ms && nat_le ms greatest) ≡ true
is_between least ms greatest h k = rw (le-leb least ms h, le-leb ms greatest k) refl

pub scalar_sound : (kind : Scalar) (line : ℕ) (text : List ℕ) (v : Plain) → scalar_of kind line text ≡ Some v
    → IsScalar kind line text v
unfolding scalar_of
scalar_sound a_flag line text v e = let a = gave flag (boolean_at text) v e
    in (a.0, (boolean_computes text).sound a.0 a.1, a.2)
scalar_sound (number_within least greatest) line text v e =
    let a = gave number (keep (within least greatest) (integer_at text)) v e in
    let b = kept (within least greatest) (integer_at text) a.0 a.1 in
    (a.0, (integer_computes text).sound a.0 b.0, b.1, a.2)
scalar_sound (time_within least greatest) line text v e =
    let a = gave time (keep (λ ms. nat_le least ms && nat_le ms greatest) (time_at text)) v e in
    let b = kept (λ ms. nat_le least ms && nat_le ms greatest) (time_at text) a.0 a.1 in
    let c = between least a.0 greatest b.1 in
    (a.0, (time_computes text).sound a.0 b.0, c.0, c.1, a.2)
scalar_sound a_power line text v e = let a = gave power (power_at text) v e
    in (a.0, (power_computes text).sound a.0 a.1, a.2)
scalar_sound (one_of words) line text v e = search (rules, among_sound)
scalar_sound a_name line text v e = search (rules, IsName-from_is_name)
scalar_sound an_event line text v e =
    let a = gave (λ x. event (handled_at line x)) (event_at text) v e in
    (a.0, (event_computes text).sound a.0 a.1, a.2)

pub scalar_complete : (kind : Scalar) (line : ℕ) (text : List ℕ) (v : Plain) → IsScalar kind line text v
    → scalar_of kind line text ≡ Some v
unfolding scalar_of
scalar_complete a_flag line text v h = rw ((boolean_computes text).complete h.0 h.1, h.2) refl
scalar_complete (number_within least greatest) line text v h =
    rw ((integer_computes text).complete h.0 h.1, h.2, h.3) refl
scalar_complete (time_within least greatest) line text v h =
    rw ((time_computes text).complete h.0 h.1, is_between least h.0 greatest h.2 h.3, h.4) refl
scalar_complete a_power line text v h = rw ((power_computes text).complete h.0 h.1, h.2) refl
scalar_complete (one_of words) line text v h = rw (among_complete words text h.0, h.1) refl
scalar_complete a_name line text v h = rw (is_name-from_IsName text h.0, h.1) refl
scalar_complete an_event line text v h = rw ((event_computes text).complete h.0 h.1, h.2) refl
