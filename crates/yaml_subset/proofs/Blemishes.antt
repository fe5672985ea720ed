-- A line has no blemish if it is UTF-8 without a forbidden character.
use Rattle.std.proofs.Common.{rules, ◌≡◌, ℕ, zero, suc, ◌+◌, ◌-◌, ◌≤◌, ◌<◌, ltb, Bool, true, false, cond, List, [], ◌∷◌}
use Rattle.std.proofs.Common.{length, take, drop, get_or, Option, Some, None, refl, sym, ap, subst, ◌∙◌, inl, inr}
use Rattle.std.proofs.{Common.{arith, length-take-le}, Math.Seq.take-length}
use Rattle.std.specs.{Char.len_utf8, List.{All, AllByRecursion, list_all}}
use Rattle.std.specs.Str.{IsUtf8, is_utf8, chars, encode_utf8_all, Lossy.{utf8_valid_len, valid_len_up_to}}
use Rattle.std.proofs.lemmas.List.{length-append, at_drop_more, Elements.{All-nil, All-cons}}
use Rattle.std.proofs.lemmas.{Bool.{cases_Bool, and_parts, le-ltb, ltb-false}, Str.Ascii.IsAscii-from_all}
use Rattle.std.proofs.lemmas.Str.{chars-IsAscii, IsUtf8-from_ascii, IsUtf8-nil, IsUtf8-from_is_utf8, utf8_valid_len_le}
use Rattle.std.proofs.lemmas.Str.{utf8_valid_len-IsUtf8, encodes-chars, length-encode, len_utf8_bounds}
use Rattle.yaml_subset.specs.{declared.place.PlacedFault.PlacedFault, ParserViews.is_plain_byte}
use Rattle.yaml_subset.specs.declared.fault.TextFaultKind.TheVariants.{NotInSubset, NotUtf8}
use Rattle.yaml_bytes.specs.Bytes.{is_forbidden}
use Rattle.yaml_subset.specs.Reading.{forbidden_left, utf8_front, blemish_at}

-- no character of a text is forbidden
abbrev pub AreAllowed : List ℕ → Type 0
AreAllowed = AllByRecursion (λ c. is_forbidden c ≡ false)

-- ---- the front that is UTF-8

up_to_is_utf8 : (bs : List ℕ) (n : ℕ) → IsUtf8 (take (valid_len_up_to bs n) bs)
up_to_is_utf8 bs zero = IsUtf8-nil
up_to_is_utf8 bs (suc n) =
    elim (cases_Bool (is_utf8 (take (suc n) bs))) [
      | inl t ↦ rw t (IsUtf8-from_is_utf8 (take (suc n) bs) t)
      | inr f ↦ rw f (up_to_is_utf8 bs n)
    ]

front_is_utf8 : (raw : List ℕ) → IsUtf8 (utf8_front raw)
unfolding utf8_valid_len
front_is_utf8 raw = up_to_is_utf8 raw (length raw)

pub whole_front : (raw : List ℕ) → IsUtf8 raw → utf8_front raw ≡ raw
whole_front raw u = ap (λ n. take n raw) (utf8_valid_len-IsUtf8 raw u) ∙ take-length raw

full_front : (raw : List ℕ) → length raw ≤ length (utf8_front raw) → utf8_front raw ≡ raw
full_front raw long =
    let len = length-take-le (utf8_valid_len raw) raw (utf8_valid_len_le raw) in
    let le = utf8_valid_len_le raw in
    let same : utf8_valid_len raw ≡ length raw = omega arith in
    ap (λ n. take n raw) same ∙ take-length raw

-- ---- the characters from the first forbidden one on

abbrev pub bytes_len : List ℕ → ℕ
bytes_len cs = length (encode_utf8_all cs)

bytes_len-more : (c : ℕ) (cs : List ℕ) → bytes_len (c ∷ cs) ≡ len_utf8 c + bytes_len cs
bytes_len-more c cs = length-append _ (encode_utf8_all cs) ∙ ap (λ n. n + bytes_len cs) (length-encode c)

left_here : (c : ℕ) (cs : List ℕ) → is_forbidden c ≡ true → forbidden_left (c ∷ cs) ≡ bytes_len (c ∷ cs)
left_here c cs e = rw e refl

left_behind : (c : ℕ) (cs : List ℕ) → is_forbidden c ≡ false → forbidden_left (c ∷ cs) ≡ forbidden_left cs
left_behind c cs e = rw e refl

none_left : (cs : List ℕ) → forbidden_left cs ≤ 0 → AreAllowed cs
none_left [] le = tt
none_left (c ∷ cs) le =
    elim (cases_Bool (is_forbidden c)) [
      | inl t ↦
          let z = left_here c cs t in
          let more = bytes_len-more c cs in
          let some = (len_utf8_bounds c).0 in
          absurd (omega arith)
      | inr f ↦ let z = left_behind c cs f in (f, none_left cs (omega arith))
    ]

allowed_left : (cs : List ℕ) → AreAllowed cs → forbidden_left cs ≡ 0
allowed_left [] h = refl
allowed_left (c ∷ cs) h = left_behind c cs h.0 ∙ allowed_left cs h.1

-- the loop over the characters
pub bytes_len-chars : (text : List ℕ) → IsUtf8 text → bytes_len (chars text) ≡ length text
bytes_len-chars text u = ap length (encodes-chars text u)

module _ (cs : List ℕ) (n c : ℕ) (here : (n < length cs) × (c ≡ get_or cs n c)) where
  at : (f : List ℕ → ℕ) → f (drop n cs) ≡ f (c ∷ drop (n + 1) cs)
  at f = at_drop_more f cs n c here.0 ∙ ap (λ x. f (x ∷ drop (n + 1) cs)) (sym here.1)

  pub bytes_len-step : bytes_len (drop n cs) ≡ len_utf8 c + bytes_len (drop (n + 1) cs)
  bytes_len-step = at bytes_len ∙ bytes_len-more c (drop (n + 1) cs)

  pub left_found : is_forbidden c ≡ true → forbidden_left (drop n cs) ≡ bytes_len (drop n cs)
  left_found e = at forbidden_left ∙ left_here c (drop (n + 1) cs) e ∙ sym (at bytes_len)

  pub left_step : is_forbidden c ≡ false → forbidden_left (drop n cs) ≡ forbidden_left (drop (n + 1) cs)
  left_step e = at forbidden_left ∙ left_behind c (drop (n + 1) cs) e

-- ---- lines

none_of : (b : Bool) (f : PlacedFault) (o : Option PlacedFault) → cond b (Some f) o ≡ None → (b ≡ false) × (o ≡ None)
none_of x1 f o e = search rules

pub clean_sound : (n : ℕ) (raw : List ℕ) → blemish_at n raw ≡ None → IsUtf8 raw × AreAllowed (chars raw)
unfolding blemish_at
clean_sound n raw e =
    let front = utf8_front raw in
    let left = forbidden_left (chars front) in
    let behind = length raw - length front in
    let bad_bytes : Option PlacedFault = cond (ltb (length front) (length raw))
    (Some (record { kind = NotUtf8; line = n; bytes_left = behind })) None in
    let a = none_of (ltb 0 left) (record { kind = NotInSubset; line = n; bytes_left = left + behind }) bad_bytes e in
    let b = none_of (ltb (length front) (length raw)) (record { kind = NotUtf8; line = n; bytes_left = behind }) None
    a.1 in
    let whole : front ≡ raw = full_front raw (ltb-false (length front) (length raw) b.0) in
    let all : AreAllowed (chars front) = none_left (chars front) (ltb-false 0 left a.0) in
    (subst IsUtf8 whole (front_is_utf8 raw), subst (λ bs. AreAllowed (chars bs)) whole all)

pub clean_complete : (n : ℕ) (raw : List ℕ) → IsUtf8 raw → AreAllowed (chars raw) → blemish_at n raw ≡ None
unfolding blemish_at
clean_complete n raw u h = search (rules, le-ltb, whole_front, allowed_left)

-- ---- lines of plain bytes

plain_allowed : (b : ℕ) → is_plain_byte b ≡ true → (b < 128) × (is_forbidden b ≡ false)
plain_allowed b h = search rules

plain_lines : (raw : List ℕ) → list_all is_plain_byte raw ≡ true → All (λ b. b < 128) raw × AreAllowed raw
plain_lines [] h = (All-nil (λ b. b < 128), tt)
plain_lines (b ∷ bs) h =
    let p = and_parts (is_plain_byte b) (list_all is_plain_byte bs) h in
    let here = plain_allowed b p.0 in
    let rest = plain_lines bs p.1 in
    (All-cons (λ x. x < 128) b bs here.0 rest.0, (here.1, rest.1))

pub plain_clean : (n : ℕ) (raw : List ℕ) → list_all is_plain_byte raw ≡ true → blemish_at n raw ≡ None
plain_clean n raw h =
    let plain = plain_lines raw h in
    let ascii = IsAscii-from_all raw plain.0 in
    clean_complete n raw (IsUtf8-from_ascii raw ascii) (subst AreAllowed (sym (chars-IsAscii raw ascii)) plain.1)
