-- The spaces at the front of a text.
use Rattle.std.proofs.Common.{rules, ◌≡◌, ℕ, zero, suc, ◌==◌, false, List, [], ◌∷◌, ◌++◌, drop, replicate, refl, ap}
use Rattle.std.proofs.{Common.{◌∙◌, inl, inr}, lemmas.Bool.{cases_Bool, eqb-true}}
use Rattle.yaml_bytes.specs.{Bytes.begins_blank, Plain.AreBlank, Scanning.{behind_blanks, spaces_len}}
use Rattle.yaml_bytes.proofs.PlainTexts.{behind_blanks-is}

pub spaces_parts : (raw : List ℕ) → raw ≡ replicate (spaces_len raw) 32 ++ drop (spaces_len raw) raw
spaces_parts [] = refl
spaces_parts (b ∷ bs) =
    elim (cases_Bool (b == 32)) [
      | inl t ↦ let same : b ≡ 32 = eqb-true b 32 t
          in rw t (ap (λ (x : ℕ). x ∷ bs) same ∙ ap (λ (xs : List ℕ). 32 ∷ xs) (spaces_parts bs))
      | inr f ↦ rw f refl
    ]

spaces_are_blank : (n : ℕ) → AreBlank (replicate n 32)
spaces_are_blank zero = tt
spaces_are_blank (suc n) = (refl, spaces_are_blank n)

no_space : (text : List ℕ) → begins_blank text ≡ false → spaces_len text ≡ 0
no_space x1 h = search rules

pub spaces_len-is : (n : ℕ) (text : List ℕ) → begins_blank text ≡ false → spaces_len (replicate n 32 ++ text) ≡ n
spaces_len-is zero text h = no_space text h
spaces_len-is (suc n) text h = ap suc (spaces_len-is n text h)

pub drop_spaces : (n : ℕ) (text : List ℕ) → drop n (replicate n 32 ++ text) ≡ text
drop_spaces zero text = refl
drop_spaces (suc n) text = drop_spaces n text

-- behind the spaces is behind the blanks, if no tab follows them
pub blanks_are_spaces : (raw text : List ℕ) (n : ℕ) → raw ≡ replicate n 32 ++ text → begins_blank text ≡ false
    → behind_blanks raw ≡ text
blanks_are_spaces raw text n parts h = behind_blanks-is raw text
    (record { blanks = replicate n 32; are_blank = spaces_are_blank n; parts = parts; no_more = h })
