-- What is appended to a packed report was told.
use Rattle.std.proofs.Common.{◌≡◌, ℕ, Bool, Option, Some, None, Result, Ok, Err, List, [], ◌∷◌, ◌++◌, length, take}
use Rattle.std.proofs.Common.{drop, refl, ap, sym, ◌∙◌, subst, append_assoc, append-nil, take_at, drop_at}
use Rattle.std.specs.{Prelude.option_map, Io.KnownBytes.{Appends, Keeps, WriteAppends, append_known}, Str.Lines.lines}
use Rattle.pinball_shell.specs.declared.fault.ShellFault.{ShellFault}
use Rattle.live_machine.specs.Talk.{LinkView, IfReported, HasTold, HasHeard, IsOver, HasNotHeard, Hears, Tells}
use Rattle.live_machine.specs.Wires.{pack, packed_report, with_told}

-- ---- what holds of reports, one after another

pub reported-then : (a b c : Option LinkView) (P Q R : LinkView → LinkView → Type 0)
    → ((u v w : LinkView) → P u v → Q v w → R u w) → IfReported a b P → IfReported b c Q → IfReported a c R
reported-then None b c P Q R both h k = tt
reported-then (Some u) None c P Q R both h k = absurd h
reported-then (Some u) (Some v) None P Q R both h k = absurd k
reported-then (Some u) (Some v) (Some w) P Q R both h k = both u v w h k

pub reported-same : (a : Option LinkView) (P : LinkView → LinkView → Type 0) → ((v : LinkView) → P v v)
    → IfReported a a P
reported-same None P same = tt
reported-same (Some v) P same = same v

pub reported-as : (a b : Option LinkView) (P Q : LinkView → LinkView → Type 0) → ((u v : LinkView) → P u v → Q u v)
    → IfReported a b P → IfReported a b Q
reported-as None b P Q step h = tt
reported-as (Some u) None P Q step h = absurd h
reported-as (Some u) (Some v) P Q step h = step u v h

-- ---- one list says what is left and what was talked

fronts : (a b x y : List ℕ) → length a ≡ length b → a ++ x ≡ b ++ y → a ≡ b
fronts a b x y count is = sym (take_at a x (length b) count) ∙ ap (take (length b)) is ∙ take_at b y (length b) refl

rests : (a b x y : List ℕ) → length a ≡ length b → a ++ x ≡ b ++ y → x ≡ y
rests a b x y count is = sym (drop_at a x (length b) count) ∙ ap (drop (length b)) is ∙ drop_at b y (length b) refl

first-same : (x y : ℕ) (xs ys : List ℕ) → x ∷ xs ≡ y ∷ ys → x ≡ y
first-same x y xs ys is = cc

later-same : (x y : ℕ) (xs ys : List ℕ) → x ∷ xs ≡ y ∷ ys → xs ≡ ys
later-same x y xs ys is = cc

view-told : (v w : LinkView) (x y text : List ℕ) → pack w ++ y ≡ (pack v ++ x) ++ text
    → HasTold text (with_told x v) (with_told y w)
view-told v w x y text is =
    let old = (v.remainder ++ v.talk) ++ x in
    let count = first-same (length w.remainder) (length v.remainder) ((w.remainder ++ w.talk) ++ y) (old ++ text) is in
    let later = later-same (length w.remainder) (length v.remainder) ((w.remainder ++ w.talk) ++ y) (old ++ text) is in
    let both : w.remainder ++ (w.talk ++ y) ≡ v.remainder ++ ((v.talk ++ x) ++ text) =
    sym (append_assoc w.remainder w.talk y) ∙ later ∙ ap (λ (l : List ℕ). l ++ text) (append_assoc v.remainder v.talk x)
    ∙ append_assoc v.remainder (v.talk ++ x) text in
    record {
      talk = rests w.remainder v.remainder (w.talk ++ y) ((v.talk ++ x) ++ text) count both;
      remainder = fronts w.remainder v.remainder (w.talk ++ y) ((v.talk ++ x) ++ text) count both;
    }

-- what was written has been told
pub packed-told : (a b : Option LinkView) (x y text : List ℕ)
    → Appends (append_known (packed_report a) x) (append_known (packed_report b) y) text
    → IfReported (option_map (with_told x) a) (option_map (with_told y) b) (HasTold text)
packed-told None b x y text h = tt
packed-told (Some v) None x y text h = absurd h
packed-told (Some v) (Some w) x y text h = view-told v w x y text h

-- what is kept stays
pub packed-kept : (a b : Option LinkView) (x y : List ℕ)
    → Keeps (append_known (packed_report a) x) (append_known (packed_report b) y)
    → IfReported (option_map (with_told x) a) (option_map (with_told y) b) (HasTold [])
packed-kept None b x y h = tt
packed-kept (Some v) None x y h = absurd h
packed-kept (Some v) (Some w) x y h = view-told v w x y [] (h ∙ sym (append-nil (pack v ++ x)))

-- ---- a text that is told is appended

told-packed : (a b : Option LinkView) (text : List ℕ) → IfReported a b (HasTold text)
    → Appends (packed_report a) (packed_report b) text
told-packed None b text h = tt
told-packed (Some v) None text h = absurd h
told-packed (Some v) (Some w) text h =
    (λ k. length (h.remainder k) ∷ (h.remainder k ++ h.talk k))
    ∙ sym (ap (λ (l : List ℕ). length v.remainder ∷ l) (append_assoc v.remainder v.talk text))

kept-packed : (a b : Option LinkView) → IfReported a b (λ v w. w ≡ v) → Keeps (packed_report a) (packed_report b)
kept-packed None b h = tt
kept-packed (Some v) None h = absurd h
kept-packed (Some v) (Some w) h = ap pack h

-- what telling does is what writing does
pub tells-written : {E : Type 0} (a b : Option LinkView) (text : List ℕ) (r : Result ℕ E) → Tells text a b r
    → WriteAppends (packed_report a) (packed_report b) r text
tells-written a b text (Ok n) h = told-packed a b (take n text) h
tells-written a b text (Err e) h = kept-packed a b h
