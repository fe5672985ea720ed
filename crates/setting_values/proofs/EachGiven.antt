-- What a call for each element gave, and what reading each element gives.
use Rattle.std.proofs.Common.{rules, ◌≡◌, ℕ, zero, suc, ◌+◌, ◌<◌, Bool, true, false, cond, List, [], ◌∷◌, ◌++◌, length}
use Rattle.std.proofs.Common.{take, drop, get_or, map, filter, Result, Ok, Err, refl, sym, ap, subst, ◌∙◌, inl, inr}
use Rattle.std.proofs.{Common.{arith, append-nil}, lemmas.List.{take_more, Elements.filter-append}}
use Rattle.std.specs.{List.AllZip, Borrow.Bor, Fn.{Shared, FnReturnsAt}, Global.Vec}
use Rattle.config_faults.specs.{declared.fault.ConfigFault.ConfigFault, Faults.{RowsFault, FailsRows, GivesRows}}
use Rattle.config_faults.specs.declared.fault.ConfigFault.TheVariants as faults
use Rattle.setting_values.specs.{Reading.each_read, GivenEach.{FailsFirst, GaveUpTo, GaveEach}}

pub zip_push : {A B : Type 0} (R : A → B → Type 0) (xs : List A) (ys : List B) (x : A) (y : B) → AllZip R xs ys → R x y
    → AllZip R (xs ++ x ∷ []) (ys ++ y ∷ [])
zip_push R [] [] x y h r = (r, tt)
zip_push R [] (b ∷ bs) x y h r = absurd h
zip_push R (a ∷ rest) [] x y h r = absurd h
zip_push R (a ∷ rest) (b ∷ bs) x y h r = (h.0, zip_push R rest bs x y h.1 r)

parts : {C : Type 0} (xs : List C) (i : ℕ) (x : C) → i < length xs → x ≡ get_or xs i x
    → xs ≡ take i xs ++ (x ∷ drop (i + 1) xs)
parts [] i x lt is = absurd (let no : i < 0 = lt in omega (arith, no))
parts (c ∷ cs) zero x lt is = ap (λ z. z ∷ cs) (sym is)
parts (c ∷ cs) (suc i) x lt is =
    let less : i < length cs = omega (arith, lt) in
    let one : suc i + 1 ≡ suc (i + 1) = omega arith in
    let inner = parts cs i x less is in
    rw one (ap (λ zs. c ∷ zs) inner)

module _ {A B : Type 0} (gave : A → Result B ConfigFault → Type 0) where
  after : (e : ConfigFault) (front rest : List A) (x : A) (ys : List B) → AllZip (λ a b. gave a (Ok b)) front ys
      → gave x (Err e) → FailsFirst gave e (front ++ x ∷ rest)
  after e [] rest x ys h f = inl f
  after e (a ∷ front) rest x [] h f = absurd h
  after e (a ∷ front) rest x (b ∷ ys) h f = inr (b, h.0, after e front rest x ys h.1 f)

  -- a call that failed, after those that did not
  pub fails_at : (e : ConfigFault) (xs : List A) (i : ℕ) (x : A) (ys : List B) → i < length xs → x ≡ get_or xs i x
      → AllZip (λ a b. gave a (Ok b)) (take i xs) ys → gave x (Err e) → FailsFirst gave e xs
  fails_at e xs i x ys lt is h f =
      subst (FailsFirst gave e) (sym (parts xs i x lt is)) (after e (take i xs) (drop (i + 1) xs) x ys h f)

  -- one more call that did not fail
  pub more : (xs : List A) (i : ℕ) (x : A) (ys : List B) (y : B) → i < length xs → x ≡ get_or xs i x
      → AllZip (λ a b. gave a (Ok b)) (take i xs) ys → gave x (Ok y)
      → AllZip (λ a b. gave a (Ok b)) (take (i + 1) xs) (ys ++ y ∷ [])
  more xs i x ys y lt is h g =
      let e : take (i + 1) xs ≡ take i xs ++ x ∷ [] = take_more xs i x lt ∙ ap (λ z. take i xs ++ z ∷ []) (sym is) in
      subst (λ zs. AllZip (λ a b. gave a (Ok b)) zs (ys ++ y ∷ [])) (sym e)
      (zip_push (λ a b. gave a (Ok b)) (take i xs) ys x y h g)

module _ {A B : Type 0} (gave : A → Result B ConfigFault → Type 0) (p : A → Bool) where
  passing : (xs : List A) (i : ℕ) (x : A) (b : Bool) → p x ≡ b → i < length xs → x ≡ get_or xs i x
      → filter p (take (i + 1) xs) ≡ filter p (take i xs) ++ cond b (x ∷ []) []
  passing xs i x b is_b lt is =
      let one : filter p (x ∷ []) ≡ cond b (x ∷ []) [] = rw is_b refl in
      ap (filter p) (take_more xs i x lt ∙ ap (λ z. take i xs ++ z ∷ []) (sym is))
      ∙ filter-append p (take i xs) (x ∷ []) ∙ ap (λ zs. filter p (take i xs) ++ zs) one

  -- a call that failed for one that passes the test, after those that did not
  pub passing_fails : (e : ConfigFault) (xs : List A) (i : ℕ) (x : A) (ys : List B) → p x ≡ true → i < length xs
      → x ≡ get_or xs i x → AllZip (λ a b. gave a (Ok b)) (filter p (take i xs)) ys → gave x (Err e)
      → FailsFirst gave e (filter p xs)
  passing_fails e xs i x ys so lt is h f =
      let rest = drop (i + 1) xs in
      let first : filter p (x ∷ rest) ≡ x ∷ filter p rest = rw so refl in
      let split = ap (filter p) (parts xs i x lt is) ∙ filter-append p (take i xs) (x ∷ rest)
      ∙ ap (λ zs. filter p (take i xs) ++ zs) first in
      subst (FailsFirst gave e) (sym split) (after gave e (filter p (take i xs)) (filter p rest) x ys h f)

  -- one more call that did not fail
  pub passing_more : (xs : List A) (i : ℕ) (x : A) (ys : List B) (y : B) → p x ≡ true → i < length xs
      → x ≡ get_or xs i x → AllZip (λ a b. gave a (Ok b)) (filter p (take i xs)) ys → gave x (Ok y)
      → AllZip (λ a b. gave a (Ok b)) (filter p (take (i + 1) xs)) (ys ++ y ∷ [])
  passing_more xs i x ys y so lt is h g =
      subst (λ zs. AllZip (λ a b. gave a (Ok b)) zs (ys ++ y ∷ [])) (sym (passing xs i x true so lt is))
      (zip_push (λ a b. gave a (Ok b)) (filter p (take i xs)) ys x y h g)

  -- no call for one that does not pass
  pub passed_over : (xs : List A) (i : ℕ) (x : A) (ys : List B) → p x ≡ false → i < length xs → x ≡ get_or xs i x
      → AllZip (λ a b. gave a (Ok b)) (filter p (take i xs)) ys
      → AllZip (λ a b. gave a (Ok b)) (filter p (take (i + 1) xs)) ys
  passed_over xs i x ys other lt is h =
      subst (λ zs. AllZip (λ a b. gave a (Ok b)) zs ys)
      (sym (passing xs i x false other lt is ∙ append-nil (filter p (take i xs)))) h

module _ {A B X Y : Type 0} (gave : A → Result B ConfigFault → Type 0) (seen : A → X) (view : B → Y)
    (f : X → Result Y RowsFault) (one : (x : A) (r : Result B ConfigFault) → gave x r
    → GivesRows view r (f (seen x))) where
  all_gave : (xs : List A) (ys : List B) → AllZip (λ a b. gave a (Ok b)) xs ys
      → each_read f (map seen xs) ≡ Ok (map view ys)
  unfolding each_read
  all_gave [] [] h = refl
  all_gave [] (y ∷ ys) h = absurd h
  all_gave (x ∷ xs) [] h = absurd h
  all_gave (x ∷ xs) (y ∷ ys) h = rw (one x (Ok y) h.0, all_gave xs ys h.1) refl

  one_failed : (e : ConfigFault) (xs : List A) → FailsFirst gave e xs → FailsRows e (each_read f (map seen xs))
  unfolding each_read
  one_failed faults.NoMemory xs h = tt
  one_failed (faults.Bundle g) [] h = absurd h
  one_failed (faults.Bundle g) (x ∷ xs) (inl h) = rw (one x (Err (faults.Bundle g)) h) refl
  one_failed (faults.Bundle g) (x ∷ xs) (inr h) = rw (one x (Ok h.0) h.1, one_failed (faults.Bundle g) xs h.2) refl

  gives_all : (xs : List A) (r : Result (Vec B) ConfigFault) → GaveUpTo gave xs r
      → GivesRows (λ ys. map view ys.items) r (each_read f (map seen xs))
  gives_all xs x2 x3 = search (rules, all_gave, one_failed)

-- what each call of a function gave is what reading each gives
pub gives_each : {F A B X Y : Type 0} {g : Shared F (Bor A × Unit {0}) (Result B ConfigFault)} {f : F} (seen : A → X)
    (view : B → Y) (read : X → Result Y RowsFault)
    (xs : List A) (r : Result (Vec B) ConfigFault) → GaveEach (FnReturnsAt g f) xs r
    → ((p : Bor A) (s : Result B ConfigFault) → g.post f (p, tt) s → GivesRows view s (read (seen p.now)))
    → GivesRows (λ ys. map view ys.items) r (each_read read (map seen xs))
gives_each {g = g} {f = f} seen view read xs r h one = search (rules, gives_all)
