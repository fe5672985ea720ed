-- The word at the front of a text is what reading it from the left gives.
use Rattle.std.proofs.Common.{rules, ◌≡◌, ◌≢◌, ℕ, ◌≤◌, ◌<◌, ◌==◌, ◌&&◌, Bool, true, false, cond, List, [], ◌∷◌, ◌++◌}
use Rattle.std.proofs.Common.{length, drop, get_or, Result, Ok, Err, refl, sym, ap, subst, ◌∙◌, inl, inr, arith}
use Rattle.std.proofs.{Common.{append_assoc, length-append}, lemmas.Bool.eqb-true, Math.Seq.drop-append_seam}
use Rattle.yaml_subset.specs.declared.{fault.TextFaultKind.TheVariants.{Quote, Flow}, place.PlacedFault.PlacedFault}
use Rattle.yaml_bytes.specs.{Results.◌>>=◌, Plain.{IsBehindBlanks, ends_word, IsWordEnd}}
use Rattle.yaml_bytes.specs.Bytes.{is_blank, begins_blank, begins_break, is_indicator, is_mark, begins_word}
use Rattle.yaml_bytes.specs.Scanning.{trim_blanks, behind_blanks, word_front, word_rest}
use Rattle.yaml_subset.specs.Quoted.{IsSingle, IsDouble, single_at, double_at}
use Rattle.yaml_subset.specs.Words.{breaks_flow, may_follow, IsPlainAt, IsQuotedAt, IsWordAt, misfit, plain_word_at}
use Rattle.yaml_subset.specs.Words.{behind_quote, quoted_at, word_at}
use Rattle.yaml_bytes.proofs.Steps.{bind_ok, guard_true, guard_false, ok_is}
use Rattle.yaml_bytes.proofs.PlainTexts.{plain_word, plain_word-is, is_behind_blanks, behind_blanks-is}
use Rattle.yaml_subset.proofs.QuotedTexts.{single_sound, single_complete, double_sound, double_complete}

-- ---- plain words

plain_sound : (n : ℕ) (flow : Bool) (text value rest : List ℕ) → plain_word_at n flow text ≡ Ok (value, rest)
    → IsPlainAt flow text value rest
unfolding plain_word_at
plain_sound n flow text value rest e =
    let found : Result (List ℕ × List ℕ) PlacedFault = Ok (trim_blanks (word_front flow text), word_rest flow text) in
    let broken : PlacedFault = record { kind = Flow; line = n; bytes_left = length (word_rest flow text) } in
    let a = guard_true (begins_word flow text) (cond (breaks_flow flow (word_rest flow text)) (Err broken) found)
    (record { kind = misfit flow text; line = n; bytes_left = length text }) (value, rest) e in
    let b = guard_false (breaks_flow flow (word_rest flow text)) found broken (value, rest) a.1 in
    let same = ok_is (trim_blanks (word_front flow text), word_rest flow text) (value, rest) b.1 in
    let p = plain_word flow text a.0 in
    subst (λ (r : List ℕ × List ℕ). IsPlainAt flow text r.0 r.1) same
    (record { blanks = p.0; is_plain = p.1; unbroken = b.0 })

plain_complete : (n : ℕ) (flow : Bool) (text value rest : List ℕ) → IsPlainAt flow text value rest
    → plain_word_at n flow text ≡ Ok (value, rest)
unfolding plain_word_at
plain_complete n flow text value rest h = search (rules, plain_word-is)

-- ---- texts in quotes

behind_sound : (n : ℕ) (flow : Bool) (after rest : List ℕ) → behind_quote n flow after ≡ Ok rest
    → IsBehindBlanks after rest × (may_follow flow (begins_blank after) rest ≡ true)
unfolding behind_quote
behind_sound n flow after rest e =
    let a = guard_true (may_follow flow (begins_blank after) (behind_blanks after)) (Ok (behind_blanks after))
    (record {
      kind = cond (breaks_flow flow (behind_blanks after)) Flow Quote;
      line = n;
      bytes_left = length (behind_blanks after);
    }) rest e in
    let same = ok_is (behind_blanks after) rest a.1 in (
      subst (IsBehindBlanks after) same (is_behind_blanks after),
      subst (λ (xs : List ℕ). may_follow flow (begins_blank after) xs ≡ true) same a.0,
    )

behind_complete : (n : ℕ) (flow : Bool) (after rest : List ℕ) → IsBehindBlanks after rest
    → may_follow flow (begins_blank after) rest ≡ true → behind_quote n flow after ≡ Ok rest
unfolding behind_quote
behind_complete n flow after rest h follows = rw (behind_blanks-is after rest h, follows) refl

quoted_sound : (n : ℕ) (quote : ℕ) (IsInside : List ℕ → List ℕ → List ℕ → Type 0)
    (read : List ℕ → Result (List ℕ × List ℕ) PlacedFault)
    → ((text value after : List ℕ) → read text ≡ Ok (value, after) → IsInside text value after)
    → (flow : Bool) (b : ℕ) (bs value rest : List ℕ) → (b == quote) ≡ true
    → quoted_at n flow (read bs) ≡ Ok (value, rest) → IsQuotedAt quote IsInside flow (b ∷ bs) value rest
quoted_sound n quote IsInside read sound flow b bs value rest t e =
    let p = bind_ok (read bs) (λ r. behind_quote n flow r.1 >>= λ after. Ok (r.0, after)) (value, rest) e in
    let r = p.0 in
    let q = bind_ok (behind_quote n flow r.1) (λ after. Ok (r.0, after)) (value, rest) p.2 in
    let same = ok_is (r.0, q.0) (value, rest) q.2 in
    let s = behind_sound n flow r.1 q.0 q.1 in
    subst (λ (x : List ℕ × List ℕ). IsQuotedAt quote IsInside flow (b ∷ bs) x.0 x.1) same (record {
      inside = bs;
      opens = ap (λ x. x ∷ bs) (eqb-true b quote t);
      after = r.1;
      is_inside = sound bs r.0 r.1 p.1;
      behind = s.0;
      follows = s.1;
    })

quoted_complete : (n : ℕ) (quote : ℕ) (IsInside : List ℕ → List ℕ → List ℕ → Type 0)
    (read : List ℕ → Result (List ℕ × List ℕ) PlacedFault)
    → ((text value after : List ℕ) → IsInside text value after → read text ≡ Ok (value, after))
    → (flow : Bool) (text value rest : List ℕ) → (h : IsQuotedAt quote IsInside flow text value rest)
    → quoted_at n flow (read h.inside) ≡ Ok (value, rest)
quoted_complete n quote IsInside read complete flow text value rest h =
    ap (quoted_at n flow) (complete h.inside value h.after h.is_inside)
    ∙ ap (λ (found : Result (List ℕ) PlacedFault). found >>= λ after. Ok (value, after))
    (behind_complete n flow h.after rest h.behind h.follows)

-- ---- words

pub word_sound : (n : ℕ) (flow : Bool) (text value rest : List ℕ) → word_at n flow text ≡ Ok (value, rest)
    → IsWordAt flow text value rest
unfolding word_at
word_sound n flow x3 value rest e = search (rules, plain_sound, quoted_sound, single_sound, double_sound)

plain_word_at-word : (n : ℕ) (flow : Bool) (text value rest : List ℕ) → IsPlainAt flow text value rest
    → word_at n flow text ≡ plain_word_at n flow text
unfolding word_at
plain_word_at-word n flow x3 value rest h = search rules

single_at-word : (n : ℕ) (flow : Bool) (inside : List ℕ)
    → word_at n flow (39 ∷ inside) ≡ quoted_at n flow (single_at n inside)
unfolding word_at
single_at-word n flow inside = refl

double_at-word : (n : ℕ) (flow : Bool) (inside : List ℕ)
    → word_at n flow (34 ∷ inside) ≡ quoted_at n flow (double_at n inside)
unfolding word_at
double_at-word n flow inside = refl

pub word_complete : (n : ℕ) (flow : Bool) (text value rest : List ℕ) → IsWordAt flow text value rest
    → word_at n flow text ≡ Ok (value, rest)
word_complete n flow text value rest h =
    elim h [
      | inl p ↦ plain_word_at-word n flow text value rest p ∙ plain_complete n flow text value rest p
      | inr q ↦ elim q [
        | inl s ↦ ap (word_at n flow) s.opens ∙ single_at-word n flow s.inside
            ∙ quoted_complete n 39 IsSingle (single_at n) (single_complete n) flow text value rest s
        | inr d ↦ ap (word_at n flow) d.opens ∙ double_at-word n flow d.inside
            ∙ quoted_complete n 34 IsDouble (double_at n) (double_complete n) flow text value rest d
      ]
    ]

-- ---- how a word begins

-- a byte that is neither a blank nor, quotes apart, an indicator, and no mark before a break
pub record BeginsWord (flow : Bool) (text : List ℕ) : Type 0 where
  pub first : ℕ
  pub others : List ℕ
  pub parts : text ≡ first ∷ others
  pub no_blank : is_blank first ≡ false
  pub no_indicator : (x : ℕ) → is_indicator x ≡ true → x ≢ 39 → x ≢ 34 → first ≢ x
  pub no_mark : (is_mark first && begins_break flow others) ≡ false

plain_begins : (flow : Bool) (text : List ℕ) → begins_word flow text ≡ true → BeginsWord flow text
plain_begins flow [] h = absurd cc
plain_begins flow (b ∷ bs) h = search rules

pub word_begins : (flow : Bool) (text value rest : List ℕ) → IsWordAt flow text value rest → BeginsWord flow text
word_begins flow text value rest h =
    elim h [
      | inl p ↦ plain_begins flow text p.is_plain.begins
      | inr q ↦ elim q [
        | inl s ↦
            record {
              first = 39;
              others = s.inside;
              parts = s.opens;
              no_blank = refl;
              no_indicator = λ x _ single _ same. single (sym same);
              no_mark = refl;
            }
        | inr d ↦
            record {
              first = 34;
              others = d.inside;
              parts = d.opens;
              no_blank = refl;
              no_indicator = λ x _ _ double same. double (sym same);
              no_mark = refl;
            }
      ]
    ]

-- ---- how a word goes on

plain_long : (flow : Bool) (text front : List ℕ) → begins_word flow text ≡ true → IsWordEnd flow text (length front)
    → 1 ≤ length front
plain_long flow text x3 begins ends = search rules

quoted_parts : (quote : ℕ) (text inside spelling after blanks rest : List ℕ) → text ≡ quote ∷ inside
    → inside ≡ spelling ++ quote ∷ after → after ≡ blanks ++ rest
    → text ≡ (quote ∷ (spelling ++ quote ∷ blanks)) ++ rest
quoted_parts quote text inside spelling after blanks rest opens parts behind = search (rules, parts, append_assoc)

-- a word has at least a byte, and the rest is what comes after it
pub word_parts : (flow : Bool) (text value rest : List ℕ) → IsWordAt flow text value rest
    → (front : List ℕ) × (text ≡ front ++ rest) × (1 ≤ length front)
word_parts flow text value rest h =
    elim h [
      | inl p ↦ (
        value ++ p.blanks,
        p.is_plain.parts
            ∙ sym (append_assoc value p.blanks rest),
        plain_long flow text (value ++ p.blanks) p.is_plain.begins p.is_plain.ends,
      )
      | inr q ↦ elim q [
        | inl s ↦ (
          39 ∷ (s.is_inside.spelling ++ 39 ∷ s.behind.blanks),
          quoted_parts 39 text s.inside s.is_inside.spelling s.after s.behind.blanks rest s.opens s.is_inside.parts
              s.behind.parts,
          omega arith,
        )
        | inr d ↦ (
          34 ∷ (d.is_inside.spelling ++ 34 ∷ d.behind.blanks),
          quoted_parts 34 text d.inside d.is_inside.spelling d.after d.behind.blanks rest d.opens d.is_inside.parts
              d.behind.parts,
          omega arith,
        )
      ]
    ]

pub word_shorter : (flow : Bool) (text value rest : List ℕ) → IsWordAt flow text value rest → length rest < length text
word_shorter flow text value rest h =
    let p = word_parts flow text value rest h in
    let whole = ap length p.1 ∙ length-append p.0 rest in
    omega (arith, whole, p.2)

-- ---- what comes after a word

follows-ends : (flow blank : Bool) (rest : List ℕ) → may_follow flow blank rest ≡ true → ends_word flow 32 rest ≡ true
follows-ends flow blank x3 h = search rules

-- a plain word that ends after some byte ends after a blank
ends-blank : (flow : Bool) (before : ℕ) (rest : List ℕ) → ends_word flow before rest ≡ true
    → ends_word flow 32 rest ≡ true
ends-blank flow before x3 h = search rules

-- The rest is nothing, or begins with `#`, with `:` before a break, or in flow with one of `, [ ] { }`.
pub word-rest_ends : (flow : Bool) (text value rest : List ℕ) → IsWordAt flow text value rest
    → ends_word flow 32 rest ≡ true
word-rest_ends flow text value rest h =
    elim h [
      | inl p ↦
          let n = length (value ++ p.blanks) in
          let whole : text ≡ (value ++ p.blanks) ++ rest = p.is_plain.parts ∙ sym (append_assoc value p.blanks rest) in
          let seam : drop n text ≡ rest = ap (drop n) whole ∙ drop-append_seam (value ++ p.blanks) rest in
          let before = get_or (32 ∷ text) n 0 in
          ends-blank flow before rest (subst (λ xs. ends_word flow before xs ≡ true) seam p.is_plain.ends.here)
      | inr q ↦ elim q [
        | inl s ↦ follows-ends flow (begins_blank s.after) rest s.follows
        | inr d ↦ follows-ends flow (begins_blank d.after) rest d.follows
      ]
    ]
