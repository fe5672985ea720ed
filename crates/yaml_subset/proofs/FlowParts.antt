-- The parts of a list or mapping are what reading them from the left gives.
use Rattle.std.proofs.Common.{rules, ◌≡◌, ◌≢◌, ℕ, zero, suc, ◌≤◌, ◌<◌, Bool, true, false, List, [], ◌∷◌, ◌++◌, length}
use Rattle.std.proofs.Common.{Result, Ok, refl, sym, ap, subst, ◌∙◌, inl, inr, arith, append_assoc, length-append}
use Rattle.std.proofs.{lemmas.{Bool.{eqb-true, eq-eqb, ne_eqb}, List.append-nil}, Math.Bool.and-false}
use Rattle.yaml_subset.specs.declared.place.PlacedFault.{PlacedFault}
use Rattle.yaml_bytes.specs.{Bytes.{begins_blank, begins_gap}, Results.◌>>=◌, Plain.IsBehindBlanks}
use Rattle.yaml_subset.specs.Flow.{begins_with, IsClosed, IsParted, ArePartsTo, IsBetween, is_ended, start_at}
use Rattle.yaml_subset.specs.Flow.{behind_close_at, parted_at, behind_colon_at, parts_at, between_at}
use Rattle.yaml_bytes.proofs.Steps.{bind_ok, guard_true, guard_false, ok_is, chosen}
use Rattle.yaml_bytes.proofs.PlainTexts.{is_behind_blanks, behind_blanks-is}

abbrev read_to : {A : Type 0} → A → Result A PlacedFault
read_to x = Ok x

pub part_is : {A : Type 0} (x y : A) → read_to x ≡ read_to y → x ≡ y
part_is x y e = ok_is x y e

-- a text that begins neither with a closing byte nor with `#`
pub record BeginsPart (text : List ℕ) : Type 0 where
  pub first : ℕ
  pub others : List ℕ
  pub parts : text ≡ first ∷ others
  pub no_list_end : first ≢ 93
  pub no_mapping_end : first ≢ 125
  pub no_comment : first ≢ 35

-- a reader that gives what a text begins with, and what comes after it, and gives nothing else
pub record Reads {A : Type 0} (read : List ℕ → Result (A × List ℕ) PlacedFault) (R : List ℕ → A → List ℕ → Type 0) :
    Type 0 where
  pub sound : (text : List ℕ) (x : A) (rest : List ℕ) → read text ≡ Ok (x, rest) → R text x rest
  pub complete : (text : List ℕ) (x : A) (rest : List ℕ) → R text x rest → read text ≡ Ok (x, rest)
  pub shorter : (text : List ℕ) (x : A) (rest : List ℕ) → R text x rest → length rest < length text
  pub begins : (text : List ℕ) (x : A) (rest : List ℕ) → R text x rest → BeginsPart text

-- ---- blanks, commas, colons and closing bytes

-- the line's text does not end here, whatever is in front
abbrev pub GoesOn : List ℕ → Type 0
GoesOn text = (blank : Bool) → is_ended blank text ≡ false

byte_goes_on : (b : ℕ) (bs : List ℕ) → b ≢ 35 → GoesOn (b ∷ bs)
byte_goes_on b bs other blank = rw (ne_eqb b 35 other) (and-false blank)

pub part_goes_on : (text : List ℕ) → BeginsPart text → GoesOn text
part_goes_on text p = subst GoesOn (sym p.parts) (byte_goes_on p.first p.others p.no_comment)

pub start_sound : (n : ℕ) (after text : List ℕ) → start_at n after ≡ Ok text → IsBehindBlanks after text
unfolding start_at
start_sound n after text e = search (rules, guard_false, part_is, is_behind_blanks)

pub start_complete : (n : ℕ) (after text : List ℕ) → IsBehindBlanks after text → GoesOn text
    → start_at n after ≡ Ok text
unfolding start_at
start_complete n after text h on = rw (behind_blanks-is after text h, on (begins_blank after)) refl

pub behind_shorter : (after text : List ℕ) → IsBehindBlanks after text → length text ≤ length after
behind_shorter after text h = omega (arith, ap length h.parts, length-append h.blanks text)

pub begins_with-here : (b : ℕ) (text after : List ℕ) → text ≡ b ∷ after → begins_with b text ≡ true
begins_with-here b text after e = rw e (eq-eqb b b refl)

close_sound : (n : ℕ) (close : ℕ) (text rest : List ℕ) → begins_with close text ≡ true
    → behind_close_at n text ≡ Ok rest → IsClosed close text rest
unfolding behind_close_at
close_sound n close x3 rest b e = search (rules, guard_false, eqb-true, part_is, is_behind_blanks)

close_complete : (n : ℕ) (close : ℕ) (text rest : List ℕ) → IsClosed close text rest → behind_close_at n text ≡ Ok rest
unfolding behind_close_at
close_complete n close text rest h = rw (h.closes, h.apart, behind_blanks-is h.after rest h.behind) refl

pub parted_sound : (n : ℕ) (close : ℕ) (text next : List ℕ) → parted_at n close text ≡ Ok next
    → IsParted close text next
unfolding parted_at
parted_sound n close x3 next e = search (rules, eqb-true, start_sound, guard_true, part_is)

pub parted_complete : (n : ℕ) (close : ℕ) (text next : List ℕ) → close ≢ 44 → GoesOn next → IsParted close text next
    → parted_at n close text ≡ Ok next
unfolding parted_at
parted_complete n close text next other on (inl p) = rw p.1 (start_complete n p.0 next p.2 on)
parted_complete n close text next other on (inr p) = search rules

parted_shorter : (close : ℕ) (text next : List ℕ) → IsParted close text next → length next ≤ length text
parted_shorter close text next x4 = search (rules, behind_shorter)

pub parted_less : (n : ℕ) (close : ℕ) (text next : List ℕ) → parted_at n close text ≡ Ok next
    → length next ≤ length text
parted_less n close text next e = parted_shorter close text next (parted_sound n close text next e)

pub colon_sound : (n : ℕ) (text after : List ℕ) → behind_colon_at n text ≡ Ok after
    → (text ≡ 58 ∷ after) × (begins_gap after ≡ true)
unfolding behind_colon_at
colon_sound n x2 after e = search rules

pub colon_complete : (n : ℕ) (after : List ℕ) → begins_gap after ≡ true → behind_colon_at n (58 ∷ after) ≡ Ok after
unfolding behind_colon_at
colon_complete n after gap = rw gap refl

-- ---- parts

-- a byte that closes
pub record IsCloser (close : ℕ) : Type 0 where
  pub no_comma : close ≢ 44
  pub no_comment : close ≢ 35
  pub no_part : (text : List ℕ) → BeginsPart text → begins_with close text ≡ false

no_begin : (close : ℕ) (text : List ℕ) (p : BeginsPart text) → p.first ≢ close → begins_with close text ≡ false
no_begin close text p other = rw p.parts (ne_eqb p.first close other)

pub closes_list : IsCloser 93
closes_list =
    record {
      no_comma = λ e. omega (arith, e);
      no_comment = λ e. omega (arith, e);
      no_part = λ text p. no_begin 93 text p p.no_list_end;
    }

pub closes_mapping : IsCloser 125
closes_mapping =
    record {
      no_comma = λ e. omega (arith, e);
      no_comment = λ e. omega (arith, e);
      no_part = λ text p. no_begin 125 text p p.no_mapping_end;
    }

module _ {A : Type 0} (n close : ℕ) (closer : IsCloser close) (part : List A → List ℕ → Result (A × List ℕ) PlacedFault)
    (R : List A → List ℕ → A → List ℕ → Type 0) (reads : (before : List A) → Reads (part before) (R before)) where
  parts_go_on : (before : List A) (text : List ℕ) (xs : List A) (rest : List ℕ) → ArePartsTo close R before text xs rest
      → GoesOn text
  parts_go_on before text [] rest h = subst GoesOn (sym h.closes) (byte_goes_on close h.after closer.no_comment)
  parts_go_on before text (x ∷ xs) rest h = part_goes_on text ((reads before).begins text x h.0 h.2)

  parts_shorter : (before : List A) (text : List ℕ) (xs : List A) (rest : List ℕ)
      → ArePartsTo close R before text xs rest → length rest < length text
  parts_shorter before text [] rest h = omega (arith, ap length h.closes, behind_shorter h.after rest h.behind)
  parts_shorter before text (x ∷ xs) rest h =
      omega (
        arith,
        (reads before).shorter text x h.0 h.2,
        parted_shorter close h.0 h.1 h.3,
        parts_shorter (before ++ x ∷ []) h.1 xs rest h.4,
      )

  parts_sound : (k : ℕ) (before : List A) (text : List ℕ) (all : List A) (rest : List ℕ)
      → parts_at n close part k before text ≡ Ok (all, rest)
      → (xs : List A) × (all ≡ before ++ xs) × ArePartsTo close R before text xs rest
  unfolding parts_at
  parts_sound zero before text all rest e = absurd cc
  parts_sound (suc k) before text all rest e =
      elim (chosen (begins_with close text) (behind_close_at n text >>= λ after. Ok (before, after))
      (part before text >>= λ p. parted_at n close p.1 >>= λ next. parts_at n close part k (before ++ p.0 ∷ [])
      next) (Ok (all, rest)) e) [
        | inl p ↦
            let b = bind_ok (behind_close_at n text) (λ after. Ok (before, after)) (all, rest) p.1 in
            let q = part_is (before, b.0) (all, rest) b.2 in
            let same : all ≡ before = sym (ap (λ (z : List A × List ℕ). z.0) q) in
            let ends : b.0 ≡ rest = ap (λ (z : List A × List ℕ). z.1) q in (
              [],
              same ∙ sym (append-nil before),
              subst (IsClosed close text) ends (close_sound n close text b.0 p.0 b.1),
            )
        | inr p ↦
            let b = bind_ok (part before text)
            (λ p. parted_at n close p.1 >>= λ next. parts_at n close part k (before ++ p.0 ∷ []) next) (all, rest)
            p.1 in
            let c = bind_ok (parted_at n close b.0.1) (λ next. parts_at n close part k (before ++ b.0.0 ∷ []) next)
            (all, rest) b.2 in
            let r = parts_sound k (before ++ b.0.0 ∷ []) c.0 all rest c.2 in (
              b.0.0 ∷ r.0,
              r.1 ∙ append_assoc before (b.0.0 ∷ []) r.0,
              (b.0.1, c.0, (reads before).sound text b.0.0 b.0.1 b.1, parted_sound n close b.0.1 c.0 c.1, r.2),
            )
      ]

  parts_complete : (k : ℕ) (before : List A) (text : List ℕ) (xs : List A) (rest : List ℕ) → length text < k
      → ArePartsTo close R before text xs rest → parts_at n close part k before text ≡ Ok (before ++ xs, rest)
  unfolding parts_at
  parts_complete zero before text xs rest lt h = absurd (omega arith)
  parts_complete (suc k) before text [] rest lt h =
      rw (begins_with-here close text h.after h.closes, close_complete n close text rest h)
      (ap (λ (ys : List A). Ok (ys, rest)) (sym (append-nil before)))
  parts_complete (suc k) before text (x ∷ xs) rest lt h =
      let none = closer.no_part text ((reads before).begins text x h.0 h.2) in
      let one = (reads before).complete text x h.0 h.2 in
      let on = parted_complete n close h.0 h.1 closer.no_comma (parts_go_on (before ++ x ∷ []) h.1 xs rest h.4) h.3 in
      let less : length h.1 < k = omega (arith, (reads before).shorter text x h.0 h.2, parted_shorter close h.0 h.1 h.3)
      in
      rw (none, one, on, parts_complete k (before ++ x ∷ []) h.1 xs rest less h.4)
      (ap (λ (ys : List A). Ok (ys, rest)) (append_assoc before (x ∷ []) xs))

  pub between_sound : (opening : ℕ) (after : List ℕ) (xs : List A) (rest : List ℕ)
      → between_at n close part after ≡ Ok (xs, rest) → IsBetween opening close R (opening ∷ after) xs rest
  unfolding between_at
  between_sound opening after xs rest e = search (rules, bind_ok, parts_sound, start_sound)

  pub between_complete : (opening : ℕ) (text : List ℕ) (xs : List A) (rest : List ℕ)
      (h : IsBetween opening close R text xs rest) → between_at n close part h.after ≡ Ok (xs, rest)
  unfolding between_at
  between_complete opening text xs rest h =
      rw (start_complete n h.after h.body h.behind (parts_go_on [] h.body xs rest h.each))
      (parts_complete (suc (length h.body)) [] h.body xs rest (omega arith) h.each)

  pub between_shorter : (opening : ℕ) (text : List ℕ) (xs : List A) (rest : List ℕ)
      → IsBetween opening close R text xs rest → length rest < length text
  between_shorter opening text xs rest h = search (rules, behind_shorter, parts_shorter)
