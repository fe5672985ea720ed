-- Texts that are put at places, over each other and one after another.
use Rattle.std.proofs.Common.{◌≡◌, ℕ, ◌+◌, ◌-◌, ◌≤◌, List, ◌++◌, length, take, drop, ap, sym, ◌∙◌, arith, append_assoc}
use Rattle.std.proofs.Common.{length-take-le, length-drop, take-add, take-take, take_at, drop_at, take_all}
use Rattle.std.{proofs.Common.{take-append-drop, append-nil, Option, None, Some, []}, specs.Io.KnownBytes.Appends}
use Rattle.trace_lines.specs.Pages.{IsPlaced, Puts}

-- of a text that is after others, some more bytes
take-after : (at more : ℕ) (text a : List ℕ) → at ≤ length a
    → take (at + more) (take at a ++ text) ≡ take at a ++ take more text
take-after at more text a within =
    let front = length-take-le at a within in
    take-add at more (take at a ++ text) ∙ (λ k. take_at (take at a) text at front k
    ++ take more (drop_at (take at a) text at front k))

-- Of a text that was put at a place, only its first bytes count.
pub placed-less : (at less : ℕ) (text a b : List ℕ) → at ≤ length a → less ≤ length text → IsPlaced at text a b
    → take (at + less) b ≡ take at a ++ take less text
placed-less at less text a b within few placed =
    sym (take-take (at + less) (at + length text) b (omega arith)) ∙ ap (take (at + less)) placed.text_is
    ∙ take-after at less text a within

-- if room was made on the page, and then it alone has grown by the text
pub puts-in-room : (written made : Option (List ℕ)) (page roomy more text : List ℕ) → Puts written page made roomy []
    → more ≡ roomy ++ text → Puts written page made more text
puts-in-room None made page roomy more text room is = tt
puts-in-room (Some xs) None page roomy more text room is = absurd room
puts-in-room (Some xs) (Some ys) page roomy more text room is =
    ap (λ (l : List ℕ). ys ++ l) is ∙ sym (append_assoc ys roomy text)
    ∙ ap (λ (l : List ℕ). l ++ text) (room ∙ append-nil (xs ++ page))

-- If a page that was empty at first has grown, and is written in the end, the text that was put on it is written.
pub written-out : (first grown last : Option (List ℕ)) (empty page text : List ℕ) → empty ≡ [] → Appends grown last page
    → Puts first empty grown page text → Appends first last text
written-out None grown last empty page text nothing out puts = tt
written-out (Some xs) None last empty page text nothing out puts = absurd puts
written-out (Some xs) (Some ys) None empty page text nothing out puts = absurd out
written-out (Some xs) (Some ys) (Some zs) empty page text nothing out puts =
    out ∙ puts ∙ ap (λ (e : List ℕ). (xs ++ e) ++ text) nothing ∙ ap (λ (l : List ℕ). l ++ text) (append-nil xs)

-- Of the first and the last `half` bytes of a text, laid over each other, the text is made.
pub placed-ends : (at half : ℕ) (text a b c : List ℕ) → at ≤ length a → half ≤ length text → length text ≤ half + half
    → IsPlaced at (take half text) a b → IsPlaced (at + (length text - half))
    (take half (drop (length text - half) text)) b c → IsPlaced at text a c
placed-ends at half text a b c within long short front end =
    let last = length text - half in
    let start = length-take-le half text long in
    let tail : take half (drop last text) ≡ drop last text =
    take_all half (drop last text) (omega (arith, length-drop last text)) in
    let before : take (at + last) b ≡ take at a ++ take last text =
    placed-less at last (take half text) a b within (omega (arith, start)) front
    ∙ ap (λ l. take at a ++ l) (take-take last half text (omega arith)) in
    record {
      text_is =
          ap (λ (n : ℕ). take n c) (omega (arith, ap length tail, length-drop last text))
          ∙ end.text_is
          ∙ (λ k. before k ++ tail k)
          ∙ append_assoc (take at a) (take last text) (drop last text)
          ∙ ap (λ l. take at a ++ l) (take-append-drop last text);
      size = end.size ∙ front.size;
    }
