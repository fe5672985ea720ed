-- What a link over a reader and a writer hears.
use Rattle.std.proofs.Common.{◌≡◌, ◌⊎◌, ℕ, ◌+◌, ◌-◌, ◌<◌, ◌≤◌, min, Bool, true, false, cond, ◌==◌, Option, Some, None}
use Rattle.std.proofs.Common.{is_some, unwrap_or, List, [], ◌∷◌, ◌++◌, length, take, drop, inl, inr, refl, ap, sym, ◌∙◌}
use Rattle.std.proofs.{Common.{subst, arith, append-nil, length-append}, Math.{Seq.drop-length, Nat.le-min}}
use Rattle.std.specs.{Prelude.slice_index, List.position_or_len, Str.Lines.{lines, strip_carriage_return}}
use Rattle.std.specs.Io.KnownBytes.{Keeps, IsAtEnd, prepend_known}
use Rattle.std.proofs.lemmas.{Grind.common_steps, List.{length-take, length-take-le, length-drop, drop-drop}}
use Rattle.yaml_bytes.specs.Lines.{is_lf, line_with, cut_line}
use Rattle.pinball_shell.specs.declared.fault.ShellFault.{ShellFault, TheVariants.TooLong}
use Rattle.pinball_shell.proofs.TextLines.{lines-found}
use Rattle.live_machine.specs.Talk.{LinkView, IfReported, HasHeard, HasNotHeard, HasLongLine}
use Rattle.live_machine.{specs.LineLinks.{link_report, HasLine}, proofs.Lines.{line-read, last-read}}

-- ---- lines of what was read

-- a text that is not empty
pub some-text : (found text : List ℕ) → found ≡ text → (length found == 0) ≡ false → 0 < length text
some-text found text same some = subst (λ (l : List ℕ). 0 < length l) same (by found some)
  where
    by : (xs : List ℕ) → (length xs == 0) ≡ false → 0 < length xs
    by [] none = let no : true ≡ false = none in cc
    by (x ∷ xs) none = omega arith

-- nothing comes after the first line: it has no end
no-rest : (front rest : List ℕ) → (line_with front rest).1 ≡ None → rest ≡ []
no-rest front [] is = refl
no-rest front (lf ∷ rest) is = cc

-- the next line of a text, and what is left after it
pub next-line : (text more line : List ℕ) (after : Option (List ℕ)) → 0 < length text → HasLine text ⊎ (more ≡ [])
    → line ≡ (cut_line text).0 → after ≡ (cut_line text).1
    → lines (text ++ more) ≡ line ∷ lines (unwrap_or after [] ++ more)
next-line text more line (Some rest) some end first is = line-read text more line rest first is
next-line text more line None some (inr none) first is =
    subst (λ (l : List ℕ). lines (text ++ l) ≡ line ∷ lines ([] ++ l)) (sym none)
    (subst (λ (l : List ℕ). lines l ≡ line ∷ lines []) (sym (append-nil text)) (last-read text line some first is))
next-line text more line None some (inl has) first is = let bad : false ≡ true =
    ap (λ (o : Option (List ℕ)). is_some o) is ∙ has in cc

-- what comes after the first line is at the end of the text
pub rest-last : (text : List ℕ) (after : Option (List ℕ)) → after ≡ (cut_line text).1
    → drop (length text - length (unwrap_or after [])) text ≡ unwrap_or after []
rest-last text None is = ap (λ (n : ℕ). drop n text) (omega arith) ∙ drop-length text
rest-last text (Some rest) is = by (take at text) (drop at text) refl is
  where
    at : ℕ
    at = position_or_len is_lf text

    by : (front tail : List ℕ) → drop at text ≡ tail → Some rest ≡ (line_with front tail).1
        → drop (length text - length rest) text ≡ rest
    by front [] remainder found = cc
    by front (lf ∷ tail) remainder found =
        let same : rest ≡ tail = cc in
        let count : length (drop at text) ≡ length text - at = length-drop at text in
        let more : length (drop at text) ≡ length (lf ∷ tail) = ap length remainder in
        let short : length rest ≡ length tail = ap length same in
        ap (λ (n : ℕ). drop n text) (omega (arith, count, more, short)) ∙ sym (drop-drop 1 at text)
        ∙ ap (drop 1) remainder
        ∙ sym same

-- how long a line is without its end
line-length : (front rest : List ℕ) → length front ≤ length (line_with front rest).0 + 1
line-length front [] = omega arith
line-length front (lf ∷ rest) = shorter (slice_index front (length front - 1) == 13) front
  where
    shorter : (b : Bool) (l : List ℕ) → length l ≤ length (cond b (take (length l - 1) l) l) + 1
    shorter true l = let count : length (take (length l - 1) l) ≡ length l - 1 =
        length-take-le (length l - 1) l (omega arith) in omega (arith, count)
    shorter false l = omega arith

-- no LF comes sooner, whatever comes after the text
far-at : (text more : List ℕ) → length text ≤ position_or_len is_lf text
    → length text ≤ position_or_len is_lf (text ++ more)
far-at [] more h = omega arith
far-at (b ∷ text) more h = here b text more (is_lf b) refl h (far-at text more)
  where
    here : (b : ℕ) (text more : List ℕ) (n : Bool) → is_lf b ≡ n → length (b ∷ text) ≤ position_or_len is_lf (b ∷ text)
        → (length text ≤ position_or_len is_lf text → length text ≤ position_or_len is_lf (text ++ more))
        → length (b ∷ text) ≤ position_or_len is_lf (b ∷ (text ++ more))
    here b text more n is h rest = grind (arith, common_steps)

-- a line that is this long before its end, whatever comes
pub long-line : (text more : List ℕ) (limit : ℕ) → limit ≤ 4096 → length text ≡ 4098 → (HasLine text → ⊥)
    → HasLongLine limit (text ++ more)
long-line text more limit most count none =
    let all = text ++ more in
    let at = position_or_len is_lf text in
    let some = length-append text more in
    let no : drop at text ≡ [] = no-rest (take at text) (drop at text) (is-none (cut_line text).1 none) in
    let remainder : length text - at ≡ 0 = sym (length-drop at text) ∙ ap length no in
    let far = far-at text more (omega (arith, remainder)) in
    let front : length (take (position_or_len is_lf all) all) ≡ min (position_or_len is_lf all) (length all) =
    length-take (position_or_len is_lf all) all in
    let least : 4098 ≤ min (position_or_len is_lf all) (length all) = le-min (omega (arith, far)) (omega (arith, some))
    in
    let shorter = line-length (take (position_or_len is_lf all) all) (drop (position_or_len is_lf all) all) in
    let after : List ℕ = unwrap_or (cut_line all).1 [] in (
      (cut_line all).0,
      lines after,
      lines-found all (cut_line all).0 after (cut_line all).1 (omega (arith, some)) refl
          refl refl,
      omega (arith, front, least, shorter),
    )
  where
    is-none : (o : Option (List ℕ)) → (is_some o ≡ true → ⊥) → o ≡ None
    is-none None lacks = refl
    is-none (Some x) lacks = absurd (lacks refl)

-- ---- reports

-- what holds of two reports, if it holds where all is known
report-then : (written old new : Option (List ℕ)) (before after last : List ℕ) (P : LinkView → LinkView → Type 0)
    → Keeps (prepend_known before old) (prepend_known after new)
    → ((w r s : List ℕ) → new ≡ Some s → after ++ s ≡ before ++ r
    → P (record { talk = w; remainder = before ++ r }) (record { talk = w; remainder = last ++ s }))
    → IfReported (link_report written old before) (link_report written new last) P
report-then None old new before after last P remainder by = tt
report-then (Some w) None new before after last P remainder by = tt
report-then (Some w) (Some r) None before after last P remainder by = absurd remainder
report-then (Some w) (Some r) (Some s) before after last P remainder by = by w r s refl remainder

abbrev viewed : List ℕ → List ℕ → LinkView
viewed w l = record { talk = w; remainder = l }

module _ (written old new : Option (List ℕ)) (before text : List ℕ)
    (remainder : Keeps (prepend_known before old) (prepend_known text new)) where
  -- a read has failed, or the line is longer than the buffer
  pub not-filled : (limit : ℕ) (fault : ShellFault) → limit ≤ 4096
      → (fault ≡ TooLong → (length text ≡ 4098) × (HasLine text → ⊥))
      → IfReported (link_report written old before) (link_report written new text) (HasNotHeard limit fault)
  not-filled limit fault most long =
      report-then written old new before text text (HasNotHeard limit fault) remainder
      (λ w r s is same.
      record {
        same = ap (viewed w) same;
        long = λ f. subst (HasLongLine limit) same (long-line text s limit most (long f).0 (long f).1);
      })

  module _ (line : List ℕ) (after : Option (List ℕ)) (some : 0 < length text) (ends : HasLine text ⊎ IsAtEnd new)
      (first : line ≡ (cut_line text).0) (is : after ≡ (cut_line text).1) where
    next : (s : List ℕ) → new ≡ Some s → lines (text ++ s) ≡ line ∷ lines (unwrap_or after [] ++ s)
    next s known = next-line text s line after some (ending ends) first is
      where
        ending : HasLine text ⊎ IsAtEnd new → HasLine text ⊎ (s ≡ [])
        ending (inl has) = inl has
        ending (inr end) = inr (subst IsAtEnd known end)

    -- the line is too long for the room
    pub too-long : (limit : ℕ) → limit < length line
        → IfReported (link_report written old before) (link_report written new text) (HasNotHeard limit TooLong)
    too-long limit over =
        report-then written old new before text text (HasNotHeard limit TooLong) remainder
        (λ w r s known same.
        record {
          same = ap (viewed w) same;
          long = λ f. subst (HasLongLine limit) same (line, lines (unwrap_or after [] ++ s), next s known, over);
        })

    -- the line is heard
    pub line-heard : (last heard : List ℕ) → last ≡ drop (length text - length (unwrap_or after [])) text → heard ≡ line
        → IfReported (link_report written old before) (link_report written new last) (HasHeard false heard)
    line-heard last heard kept same_line =
        report-then written old new before text last (HasHeard false heard) remainder
        (λ w r s known same. record {
          talk = sym (append-nil w);
          remainder =
              ap lines (sym same) ∙ next s known
              ∙ ap (λ (l : List ℕ). l ∷ lines (unwrap_or after [] ++ s)) (sym same_line)
              ∙ ap (λ (l : List ℕ). heard ∷ lines (l ++ s)) (sym (kept ∙ rest-last text after is));
        })
