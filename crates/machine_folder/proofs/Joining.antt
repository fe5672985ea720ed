-- Texts that are joined one after another, and what lists modes.
use Rattle.std.proofs.Common.{◌≡◌, ℕ, ◌+◌, ◌<◌, ◌≤◌, Bool, true, false, ◌==◌, IsTrue, Option, Some, None, is_some, List}
use Rattle.std.proofs.Common.{[], ◌∷◌, ◌++◌, length, map, take, get_or, refl, ap, sym, ◌∙◌, subst, arith, codes}
use Rattle.std.{specs.Global.Vec, proofs.lemmas.{Bool.eqb-true, List.{map-append, take_more}}}
use Rattle.memchr.specs.Find.{OccursAt, FindsNeedle, IsFirstByte, is_byte}
use Rattle.machine_folder.specs.Bundles.{Known, IsModeJoined, AreJoined, MayListModes, word, escape}

-- one mode more
joined-push : (text_at : List ℕ → Known) (folder : List ℕ) (modes : List (List ℕ)) (mode a b c : List ℕ)
    → AreJoined text_at folder modes a b → IsModeJoined text_at folder mode b c
    → AreJoined text_at folder (modes ++ mode ∷ []) a c
joined-push text_at folder [] mode a b c h k = let P : List ℕ → Type 0 = λ x. IsModeJoined text_at folder mode x c
    in (c, subst P h k, refl)
joined-push text_at folder (first ∷ more) mode a b c h k =
    (h.0, h.1, joined-push text_at folder more mode h.0 b c h.2 k)

-- the next one of these
pub joined-more : (text_at : List ℕ → Known) (folder : List ℕ) (modes : List (Vec ℕ)) (n : ℕ) (mode : Vec ℕ)
    (name a b c : List ℕ) → n < length modes → mode ≡ get_or modes n mode → name ≡ mode.items
    → AreJoined text_at folder (map (λ m. m.items) (take n modes)) a b → IsModeJoined text_at folder name b c
    → AreJoined text_at folder (map (λ m. m.items) (take (n + 1) modes)) a c
joined-more text_at folder modes n mode name a b c within is same h k =
    let name_of : Vec ℕ → List ℕ = λ m. m.items in
    let more : map name_of (take (n + 1) modes) ≡ map name_of (take n modes) ++ name ∷ [] =
    ap (map name_of) (take_more modes n mode within) ∙ map-append name_of (take n modes) (get_or modes n mode ∷ [])
    ∙ ap (λ (l : List ℕ). map name_of (take n modes) ++ l ∷ []) (ap name_of (sym is) ∙ sym same) in
    subst (λ (ms : List (List ℕ)). AreJoined text_at folder ms a c) (sym more)
    (joined-push text_at folder (map name_of (take n modes)) name a b c h k)

-- ---- what lists modes

-- the word is there
pub by-word : (text : List ℕ) (found : Option ℕ) (b : Bool) → FindsNeedle text (codes "modes") 0 found
    → b ≡ is_some found → b ≡ true → (IsTrue b → MayListModes text) × (MayListModes text → IsTrue b)
by-word text (Some at) b finds is some = (λ yes. word at finds.1, λ may. some)
by-word text None b finds is some = let no : true ≡ false = sym some ∙ is in cc

-- the word is not there, so a backslash decides
pub by-escape : (text : List ℕ) (found place : Option ℕ) (b d : Bool) → FindsNeedle text (codes "modes") 0 found
    → b ≡ is_some found → b ≡ false → IsFirstByte (is_byte 92) text place → d ≡ is_some place
    → (IsTrue d → MayListModes text) × (MayListModes text → IsTrue d)
by-escape text (Some at) place b d finds is none first escaped = let no : true ≡ false = sym is ∙ none in cc
by-escape text None (Some at) b d finds is none first escaped =
    (λ yes. escape at first.0.high (eqb-true _ 92 first.1), λ may. escaped)
by-escape text None None b d finds is none first escaped =
    (λ yes. let no : true ≡ false = sym yes ∙ escaped in cc, λ may. absurd (not may))
  where
    not : MayListModes text → ⊥
    not (word at occurs) = let fits = occurs.fits in finds at (omega arith) (omega (arith, fits)) occurs
    not (escape at within is_it) = first at (omega arith) within (ap (λ (n : ℕ). n == 92) is_it)
