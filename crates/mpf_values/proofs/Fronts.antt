-- The bytes at the front of a text that pass a test, and what comes after them.
use Rattle.std.proofs.Common.{rules, ◌≡◌, ℕ, Bool, true, false, List, [], ◌∷◌, ◌++◌, length, take, drop, refl, ap, ◌∙◌}
use Rattle.std.{proofs.{Common.{arith, take-append-drop}, lemmas.Bool.cases_Bool}, specs.List.prefix_len}
use Rattle.yaml_bytes.specs.Plain.{Are}
use Rattle.mpf_values.specs.Reading.{front, behind}
use Rattle.yaml_subset.proofs.QuotedTexts.{len_yes, len_no}

-- whether a byte comes first that passes the test
abbrev pub begins : (ℕ → Bool) → List ℕ → Bool
begins p [] = false
begins p (b ∷ bs) = p b

front_yes : (p : ℕ → Bool) (x : ℕ) (xs : List ℕ) → p x ≡ true → front p (x ∷ xs) ≡ x ∷ front p xs
front_yes p x xs t = ap (λ n. take n (x ∷ xs)) (len_yes p x xs t)

front_no : (p : ℕ → Bool) (x : ℕ) (xs : List ℕ) → p x ≡ false → front p (x ∷ xs) ≡ []
front_no p x xs f = ap (λ n. take n (x ∷ xs)) (len_no p x xs f)

pub behind_yes : (p : ℕ → Bool) (x : ℕ) (xs : List ℕ) → p x ≡ true → behind p (x ∷ xs) ≡ behind p xs
behind_yes p x xs t = ap (λ n. drop n (x ∷ xs)) (len_yes p x xs t)

pub behind_no : (p : ℕ → Bool) (x : ℕ) (xs : List ℕ) → p x ≡ false → behind p (x ∷ xs) ≡ x ∷ xs
behind_no p x xs f = ap (λ n. drop n (x ∷ xs)) (len_no p x xs f)

pub parts : (p : ℕ → Bool) (xs : List ℕ) → front p xs ++ behind p xs ≡ xs
parts p xs = take-append-drop (prefix_len p xs) xs

pub are_front : (p : ℕ → Bool) (xs : List ℕ) → Are p (front p xs)
are_front p [] = tt
are_front p (x ∷ xs) = search (rules, cases_Bool, front_yes, front_no, are_front p xs)

pub stops : (p : ℕ → Bool) (xs : List ℕ) → begins p (behind p xs) ≡ false
stops p [] = refl
stops p (x ∷ xs) = search (rules, cases_Bool, behind_yes, behind_no, stops p xs)

pub front_is : (p : ℕ → Bool) (xs ys : List ℕ) → Are p xs → begins p ys ≡ false → front p (xs ++ ys) ≡ xs
front_is p [] [] h s = refl
front_is p [] (y ∷ ys) h s = front_no p y ys s
front_is p (x ∷ xs) ys h s = front_yes p x (xs ++ ys) h.0 ∙ ap (λ (zs : List ℕ). x ∷ zs) (front_is p xs ys h.1 s)

pub behind_is : (p : ℕ → Bool) (xs ys : List ℕ) → Are p xs → begins p ys ≡ false → behind p (xs ++ ys) ≡ ys
behind_is p [] [] h s = refl
behind_is p [] (y ∷ ys) h s = behind_no p y ys s
behind_is p (x ∷ xs) ys h s = behind_yes p x (xs ++ ys) h.0 ∙ behind_is p xs ys h.1 s

-- bytes of another kind in front of a text that begins with none that passes
pub begins_behind : (p q : ℕ → Bool) (xs ys : List ℕ) → ((b : ℕ) → p b ≡ true → q b ≡ false) → Are p xs
    → begins q ys ≡ false → begins q (xs ++ ys) ≡ false
begins_behind p q [] ys other h s = s
begins_behind p q (x ∷ xs) ys other h s = other x h.0

pub no_bytes : (text : List ℕ) → length text ≡ 0 → text ≡ []
no_bytes [] h = refl
no_bytes (b ∷ bs) h = absurd (omega arith)
