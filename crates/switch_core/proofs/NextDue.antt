-- What is due next is what has the least moment, and of equal moments the least number.
use Rattle.std.proofs.Common.{rules, ◌≡◌, ℕ, suc, ◌+◌, ◌<◌, ◌≤◌, ◌⊎◌, false, Option, Some, None, option_map}
use Rattle.std.proofs.Common.{MatchOption, IfSome, IfNone, List, [], ◌∷◌, nat_le, slice_index_or, refl, sym, subst, ◌∙◌}
use Rattle.std.{proofs.Common.{inl, inr, arith}, specs.Option.option_map_or}
use Rattle.std.proofs.lemmas.{Bool.{cond_both, leb-true, leb-false}, Option.{none-some, same_Some}}
use Rattle.plan_tables.specs.{declared.entries.SwitchId.SwitchId, Due.sooner}
use Rattle.switch_core.specs.{SwitchStep.{SwitchState, idle}, Switches.{next_due_from, next_due}}
use Rattle.switch_core.specs.Switches.{SwitchesView, no_kind, due_of, IsNextDue, IsNothingDue, IsNothingDueBy}

-- ---- it is the least

abbrev due_in : List SwitchState → ℕ → Option ℕ
due_in states i = (slice_index_or states i (idle no_kind)).due

-- of states that are numbered from k on, the one that is due next
record IsFirst (k : ℕ) (states : List SwitchState) (at n : ℕ) : Type 0 where
  place : ℕ
  is_at : n ≡ k + place
  due : due_in states place ≡ Some at
  least : (j moment : ℕ) → due_in states j ≡ Some moment → (at < moment) ⊎ ((at ≡ moment) × (n ≤ k + j))

abbrev FirstIn : ℕ → List SwitchState → Option (ℕ × SwitchId) → Type 0
FirstIn k states o = MatchOption o ((j : ℕ) → due_in states j ≡ None) (λ d. IsFirst k states d.0 d.1.0)

absurd_due : {A : Type 0} (o : Option ℕ) (at : ℕ) → o ≡ None → o ≡ Some at → A
absurd_due o at none some = absurd (none-some at (sym none ∙ some))

none-cons : (x : SwitchState) (xs : List SwitchState) → x.due ≡ None → ((j : ℕ) → due_in xs j ≡ None) → (j : ℕ)
    → due_in (x ∷ xs) j ≡ None
none-cons x xs here rest j = search rules

module _ (k : ℕ) (x : SwitchState) (xs : List SwitchState) where
  -- the first of the rest is the first of all, if the state before them is not due or due later
  least-rest : (at n : ℕ) → ((moment : ℕ) → x.due ≡ Some moment → at < moment) → IsFirst (k + 1) xs at n
      → (j moment : ℕ) → due_in (x ∷ xs) j ≡ Some moment → (at < moment) ⊎ ((at ≡ moment) × (n ≤ k + j))
  least-rest at n later f j moment is = search rules

  first-rest : (at n : ℕ) → ((moment : ℕ) → x.due ≡ Some moment → at < moment) → IsFirst (k + 1) xs at n
      → IsFirst k (x ∷ xs) at n
  first-rest at n later f = let is = f.is_at
      in record { place = suc f.place; is_at = omega arith; due = f.due; least = least-rest at n later f }

  -- the state before the rest is the first, if none of them is due earlier
  least-here : (at : ℕ) → x.due ≡ Some at → ((j moment : ℕ) → due_in xs j ≡ Some moment → at ≤ moment) → (j moment : ℕ)
      → due_in (x ∷ xs) j ≡ Some moment → (at < moment) ⊎ ((at ≡ moment) × (k ≤ k + j))
  least-here at here later j moment is = search rules

  first-here : (at : ℕ) → x.due ≡ Some at → ((j moment : ℕ) → due_in xs j ≡ Some moment → at ≤ moment)
      → IsFirst k (x ∷ xs) at k
  first-here at here later = record { place = 0; is_at = omega arith; due = here; least = least-here at here later }

  first-cons : (o : Option ℕ) (r : Option (ℕ × SwitchId)) → x.due ≡ o → FirstIn (k + 1) xs r
      → FirstIn k (x ∷ xs) (sooner (option_map (λ at. (at, record { 0 = k })) o) r)
  first-cons None None here rest = none-cons x xs here rest
  first-cons None (Some d) here rest = first-rest d.0 d.1.0 (λ moment is. absurd_due x.due moment here is) rest
  first-cons (Some at) None here rest = first-here at here (λ j moment is. absurd_due (due_in xs j) moment (rest j) is)
  first-cons (Some at) (Some d) here rest =
      cond_both (nat_le at d.0) (Some (at, record { 0 = k })) (Some d) (λ o. FirstIn k (x ∷ xs) o)
      (λ le. let before = leb-true at d.0 le
      in first-here at here (λ j moment is. elim (rest.least j moment is)
      [ inl less ↦ omega arith | inr same ↦ let e = same.0 in omega arith ]))
      (λ gt. let after = leb-false at d.0 gt
      in first-rest d.0 d.1.0 (λ moment is. let same = same_Some at moment (sym here ∙ is) in omega arith) rest)

first : (k : ℕ) (states : List SwitchState) → FirstIn k states (next_due_from k states)
first k [] = λ j. refl
first k (x ∷ xs) = first-cons k x xs x.due (next_due_from (k + 1) xs) refl (first (k + 1) xs)

abbrev IsDueIn : SwitchesView → Option (ℕ × SwitchId) → Type 0
IsDueIn s o = MatchOption o (IsNothingDue s) (λ d. IsNextDue s d.0 d.1)

is_due : (s : SwitchesView) (o : Option (ℕ × SwitchId)) → FirstIn 0 s.states o → IsDueIn s o
is_due s o x1 = search rules

pub next_due-is_due : (s : SwitchesView) → MatchOption (next_due s) (IsNothingDue s) (λ d. IsNextDue s d.0 d.1)
next_due-is_due s = is_due s (next_due s) (first 0 s.states)

-- as the clauses of `due` say it
some_of : (s : SwitchesView) (o : Option (ℕ × SwitchId)) → IsDueIn s o → IfSome o (λ d. IsNextDue s d.0 d.1)
some_of s o is = search rules

none_of : (s : SwitchesView) (o : Option (ℕ × SwitchId)) → IsDueIn s o → IfNone o (IsNothingDue s)
none_of s o is = search rules

pub answer-least : (s : SwitchesView) (o : Option (ℕ × SwitchId)) → o ≡ next_due s → IfSome o (λ d. IsNextDue s d.0 d.1)
answer-least s o is = some_of s o (subst (IsDueIn s) (sym is) (next_due-is_due s))

pub answer-none : (s : SwitchesView) (o : Option (ℕ × SwitchId)) → o ≡ next_due s → IfNone o (IsNothingDue s)
answer-none s o is = none_of s o (subst (IsDueIn s) (sym is) (next_due-is_due s))

-- ---- there is one at most

is_next : (s : SwitchesView) (at : ℕ) (n : SwitchId) (o : Option (ℕ × SwitchId)) → IsDueIn s o → IsNextDue s at n
    → o ≡ Some (at, n)
is_next s at n o x1 a = search rules

pub next_due-is : (s : SwitchesView) (at : ℕ) (n : SwitchId) → IsNextDue s at n → next_due s ≡ Some (at, n)
next_due-is s at n a = is_next s at n (next_due s) (next_due-is_due s) a

-- ---- and the other way round

nothing_in : (s : SwitchesView) (o : Option (ℕ × SwitchId)) → IsNothingDue s → IsDueIn s o → o ≡ None
nothing_in s o none x1 = search rules

pub nothing_due-is : (s : SwitchesView) → IsNothingDue s → next_due s ≡ None
nothing_due-is s none = nothing_in s (next_due s) none (next_due-is_due s)

-- it follows from the due moments alone
module _ (s t : SwitchesView) (same : (n : SwitchId) → due_of t n ≡ due_of s n) where
  same_in : (o : Option (ℕ × SwitchId)) → IsDueIn s o → next_due t ≡ o
  same_in None none = nothing_due-is t (λ n. same n ∙ none n)
  same_in (Some d) next =
      next_due-is t d.0 d.1
      (record { due = same d.1 ∙ next.due; least = λ other moment is. next.least other moment (sym (same other) ∙ is) })

  pub next_due-same : next_due t ≡ next_due s
  next_due-same = same_in (next_due s) (next_due-is_due s)

pub next_due-least : (s : SwitchesView) (at : ℕ) (n : SwitchId) → next_due s ≡ Some (at, n) → IsNextDue s at n
next_due-least s at n is = subst (IsDueIn s) is (next_due-is_due s)

-- ---- nothing is due at or before a moment

quiet-where : (s : SwitchesView) (moment : ℕ) (o : Option (ℕ × SwitchId)) → IsDueIn s o
    → option_map_or (λ d. nat_le d.0 moment) o false ≡ false → IsNothingDueBy s moment
quiet-where s moment o x1 later = search rules

-- as what is due next says it
pub not_due-quiet : (s : SwitchesView) (moment : ℕ) → option_map_or (λ d. nat_le d.0 moment) (next_due s) false ≡ false
    → IsNothingDueBy s moment
not_due-quiet s moment = quiet-where s moment (next_due s) (next_due-is_due s)
