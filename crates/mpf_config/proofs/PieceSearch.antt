-- A piece of a bundle ends before the first `@` after a line end.
use Rattle.std.proofs.Common.{rules, ◌≡◌, ℕ, zero, suc, ◌+◌, ◌<◌, false, List, [], ◌∷◌, length, Some, None, refl, ap}
use Rattle.std.proofs.{Common.{◌∙◌, arith}, lemmas.Bool.eq-eqb}
use Rattle.memchr.specs.Find.{OccursAt, FindsNeedle}
use Rattle.mpf_config.specs.BundleText.{piece_len}

-- a line end, and `@`
abbrev pub line_at : List ℕ
line_at = 10 ∷ 64 ∷ []

-- at one place more, after a byte more
later : (b : ℕ) (bs : List ℕ) (k : ℕ) → OccursAt bs line_at k → OccursAt (b ∷ bs) line_at (suc k)
later b bs k h = search rules

earlier : (b : ℕ) (bs : List ℕ) (k : ℕ) → OccursAt (b ∷ bs) line_at (suc k) → OccursAt bs line_at k
earlier b bs k h = search rules

-- after a byte the piece goes on, if `@` does not come at once after a line end
goes_on : (b : ℕ) (bs : List ℕ) → ¬ (OccursAt (b ∷ bs) line_at 0) → piece_len false (b ∷ bs) ≡ suc (piece_len false bs)
goes_on b [] not_here = refl
goes_on b (c ∷ cs) not_here = search rules

pub whole : (text : List ℕ) → ((k : ℕ) → k < length text + 1 → ¬ (OccursAt text line_at k))
    → piece_len false text ≡ length text
whole [] nowhere = refl
whole (b ∷ bs) nowhere = goes_on b bs (nowhere 0 (omega arith))
    ∙ ap suc (whole bs (λ k l at. nowhere (suc k) (omega (arith, l)) (later b bs k at)))

pub up_to : (text : List ℕ) (k : ℕ) → OccursAt text line_at k → ((j : ℕ) → j < k → ¬ (OccursAt text line_at j))
    → piece_len false text ≡ k + 1
up_to [] k at before = let fits = at.fits in absurd (omega (arith, fits))
up_to (b ∷ []) k at before = let fits = at.fits in absurd (omega (arith, fits))
up_to (b ∷ c ∷ cs) zero at before =
    let lf : b ≡ 10 = at.reads 0 (omega arith) in
    let is_at : c ≡ 64 = at.reads 1 (omega arith) in
    rw (eq-eqb b 10 lf, eq-eqb c 64 is_at) refl
up_to (b ∷ bs) (suc k) at before =
    let more = up_to bs k (earlier b bs k at) (λ j l found. before (suc j) (omega (arith, l)) (later b bs j found)) in
    goes_on b bs (before 0 (omega arith)) ∙ ap suc more ∙ omega arith

-- what is found is the end of the piece
pub piece_ends : (text : List ℕ) (k : ℕ) → FindsNeedle text line_at 0 (Some k) → piece_len false text ≡ k + 1
piece_ends text k h = up_to text k h.1 (λ j l. h.0.before j (omega arith) l)

pub piece_is_whole : (text : List ℕ) → FindsNeedle text line_at 0 None → piece_len false text ≡ length text
piece_is_whole text h = whole text (λ k l. h k (omega arith) l)
