-- The first line of a text, without the blanks at its end, and what comes after it.
use Rattle.std.proofs.Common.{rules, ◌≡◌, ℕ, ◌==◌, Bool, true, false, ◌&&◌, ◌||◌, List, [], ◌∷◌, ◌++◌, Option}
use Rattle.std.proofs.Common.{unwrap_or, refl, sym, ap, subst, ◌∙◌, inl, inr}
use Rattle.std.proofs.lemmas.{Bool.eqb-true, Slice.Eq.bytes_eq-Decides}
use Rattle.yaml_bytes.specs.{Lines.{begins_lf, ends_line}, Scanning.trim_blanks}
use Rattle.yaml_bytes.proofs.{TextLines.cut_other, PlainTexts.{trimmed_parts, trimmed-blanks}}
use Rattle.mpf_config.specs.BundleText.{first_line, behind_first_line, version_line, has_version}
use Rattle.mpf_config.specs.RowsOf.{IsLineEnd, IsFirstLine, BeginsWith}

-- ---- the first line

nothing_in : (front rest : List ℕ) (b : ℕ) → [] ≡ front ++ b ∷ rest → ⊥
nothing_in [] rest b e = cc
nothing_in (c ∷ front) rest b e = cc

longer_first : (a : ℕ) (line after : List ℕ) → ends_line a (line ++ after) ≡ false
    → ((front rest : List ℕ) (b : ℕ) → line ≡ front ++ b ∷ rest → ends_line b (rest ++ after) ≡ false)
    → (front rest : List ℕ) (b : ℕ) → a ∷ line ≡ front ++ b ∷ rest → ends_line b (rest ++ after) ≡ false
longer_first a line after e h [] rest b is = search rules
longer_first a line after e h (c ∷ front) rest b is =
    h front rest b (let others : line ≡ front ++ b ∷ rest = cc in others)

at_lf : (after : List ℕ) → IsFirstLine [] (10 ∷ after) after
at_lf after =
    record {
      end = 10 ∷ [];
      is_end = inl refl;
      parts = refl;
      first = λ front rest b h. absurd (nothing_in front rest b h);
    }

at_cr_lf : (after : List ℕ) → IsFirstLine [] (13 ∷ 10 ∷ after) after
at_cr_lf after =
    record {
      end = 13 ∷ 10 ∷ [];
      is_end = inr (inl refl);
      parts = refl;
      first = λ front rest b h. absurd (nothing_in front rest b h);
    }

-- a text begins with its first line
abbrev Splits : List ℕ → Type 0
Splits text = IsFirstLine (first_line text) text (behind_first_line text)

split_cr : (bs : List ℕ) → begins_lf bs ≡ true → Splits (13 ∷ bs)
split_cr x1 e = search (rules, eqb-true, at_cr_lf)

split_end : (b : ℕ) (bs : List ℕ) (lf cr : Bool) → b == 10 ≡ lf → b == 13 ≡ cr → (lf || (cr && begins_lf bs)) ≡ true
    → Splits (b ∷ bs)
split_end b bs x3 x4 l c e = search (rules, eqb-true, at_lf, split_cr)

-- a byte at which no line ends, in front of a line
longer : (a : ℕ) (text line behind : List ℕ) → ends_line a text ≡ false → IsFirstLine line text behind
    → IsFirstLine (a ∷ line) (a ∷ text) behind
longer a text line behind e h = search (rules, longer_first)

-- the first line of a text and what comes after it, of the text that was cut
abbrev SplitsAs : List ℕ → List ℕ × Option (List ℕ) → Type 0
SplitsAs text r = IsFirstLine r.0 text (unwrap_or r.1 [])

split_step : (b : ℕ) (bs : List ℕ) (ends : Bool) → ends_line b bs ≡ ends → Splits bs → Splits (b ∷ bs)
split_step b bs true e h = split_end b bs (b == 10) (b == 13) refl refl e
split_step b bs false e h = subst (SplitsAs (b ∷ bs)) (sym (cut_other b bs e))
    (longer b bs (first_line bs) (behind_first_line bs) e h)

pub splitting : (text : List ℕ) → IsFirstLine (first_line text) text (behind_first_line text)
splitting [] =
    record {
      end = [];
      is_end = inr (inr (refl, refl));
      parts = refl;
      first = λ front rest b h. absurd (nothing_in front rest b h);
    }
splitting (b ∷ bs) = split_step b bs (ends_line b bs) refl (splitting bs)

-- what a text begins with, as it is read
pub begins_with : (line text : List ℕ) → trim_blanks (first_line text) ≡ line
    → BeginsWith line text (behind_first_line text)
begins_with line text e =
    let t = trimmed_parts (first_line text) in
    let whole : first_line text ≡ line ++ t.0 = t.2 ∙ ap (λ (front : List ℕ). front ++ t.0) e in
    record {
      blanks = t.0;
      are_blank = t.1;
      whole = subst (λ xs. IsFirstLine xs text (behind_first_line text)) whole (splitting text);
    }

line_at : (line end behind : List ℕ) → IsLineEnd end behind
    → ((front rest : List ℕ) (b : ℕ) → line ≡ front ++ b ∷ rest → ends_line b (rest ++ (end ++ behind)) ≡ false)
    → (first_line (line ++ (end ++ behind)) ≡ line) × (behind_first_line (line ++ (end ++ behind)) ≡ behind)
line_at [] end behind (inl lf) h = rw lf (refl, refl)
line_at [] end behind (inr (inl crlf)) h = rw crlf (refl, refl)
line_at [] end behind (inr (inr none)) h = rw (none.0, none.1) (refl, refl)
line_at (b ∷ line) end behind is h =
    let r = line_at line end behind is (λ front rest c e. h (b ∷ front) rest c (ap (λ (xs : List ℕ). b ∷ xs) e)) in
    let o = cut_other b (line ++ (end ++ behind)) (h [] line b refl) in (
      ap (λ (x : List ℕ × Option (List ℕ)). x.0) o
          ∙ ap (λ (xs : List ℕ). b ∷ xs) r.0,
      ap (λ (x : List ℕ × Option (List ℕ)). unwrap_or x.1 []) o ∙ r.1,
    )

-- what a text begins with is read so
pub begins_is : (line text behind : List ℕ) → (h : BeginsWith line text behind)
    → (first_line text ≡ line ++ h.blanks) × (behind_first_line text ≡ behind)
begins_is line text behind h = search (rules, line_at)

-- ---- the line of the version

pub version_sound : (text : List ℕ) → has_version text ≡ true → BeginsWith version_line text (behind_first_line text)
version_sound text e = begins_with version_line text
    ((bytes_eq-Decides (trim_blanks (first_line text)) version_line).0 e)

pub version_complete : (text behind : List ℕ) → BeginsWith version_line text behind → has_version text ≡ true
version_complete text behind h =
    let r = begins_is version_line text behind h in
    let line : trim_blanks (first_line text) ≡ version_line = ap trim_blanks r.0
    ∙ trimmed-blanks version_line h.blanks h.are_blank in
    (bytes_eq-Decides (trim_blanks (first_line text)) version_line).1 line
