-- Tables by their places: what lies at the place of a table, and one of them changed.
use Rattle.std.proofs.Common.{rules, ◌≡◌, ℕ, zero, suc, ◌+◌, ◌<◌, ◌==◌, ◌⊎◌, Bool, true, ◌&&◌, List, [], ◌∷◌, ◌++◌}
use Rattle.std.proofs.Common.{length, get_or, set, Some, sym, ◌∙◌, ap, subst, arith}
use Rattle.std.{specs.Prelude.slice_get, proofs.lemmas.List.{length-set, get_or-set_same, get_or-set_other}}
use Rattle.std.proofs.lemmas.{Bool.cases_eq, Option.{none-some, same_Some, slice_get-get_or}}
use Rattle.plan_tables.specs.{declared.table.Table.{Table, TheVariants.Events}, Limits.{order_of, tables_in_order}}

-- a table stands at its place
pub table_at : (t : Table) → get_or tables_in_order (order_of t) Events ≡ t
table_at x1 = search rules

pub place_within : (t : Table) → order_of t < length tables_in_order
place_within x1 = search rules

-- whether tables stand at their places, from one on
abbrev pub in_place : ℕ → List Table → Bool
in_place n [] = true
in_place n (t ∷ ts) = (order_of t == n) && in_place (n + 1) ts

-- one item more at the end: what holds of each at its place holds of all
pub each_pushed : {X : Type 0} (P : ℕ → X → Type 0) (xs : List X) (x : X)
    → ((i : ℕ) (y : X) → slice_get xs i ≡ Some y → P i y) → P (length xs) x
    → (i : ℕ) (y : X) → slice_get (xs ++ x ∷ []) i ≡ Some y → P i y
each_pushed P [] x all here zero y is = subst (P 0) (same_Some x y is) here
each_pushed P [] x all here (suc i) y is = absurd (none-some y is)
each_pushed P (z ∷ xs) x all here zero y is = all zero y is
each_pushed P (z ∷ xs) x all here (suc i) y is = each_pushed (λ j. P (suc j)) xs x (λ j. all (suc j)) here i y is

-- the item of one table changed
module _ {X : Type 0} (P Q : Table → X → Type 0) (u : Table) (xs : List X) (old new : X)
    (count : length xs ≡ length tables_in_order) (at : old ≡ get_or xs (order_of u) old) where
  within : order_of u < length xs
  within = omega (arith, count, place_within u)

  was : (t : Table) → order_of t ≡ order_of u → slice_get xs (order_of t) ≡ Some old
  was t e = ap (slice_get xs) e ∙ slice_get-get_or xs (order_of u) old within ∙ ap Some (sym at)

  is : (t : Table) → order_of t ≡ order_of u → slice_get (set xs (order_of u) new) (order_of t) ≡ Some new
  is t e =
      ap (slice_get (set xs (order_of u) new)) e
      ∙ slice_get-get_or (set xs (order_of u) new) (order_of u) old
      (omega (arith, within, length-set xs (order_of u) new))
      ∙ ap Some (get_or-set_same xs (order_of u) new old within)

  stays : (t : Table) → (order_of t ≡ order_of u → ⊥)
      → slice_get (set xs (order_of u) new) (order_of t) ≡ slice_get xs (order_of t)
  stays t other =
      slice_get-get_or (set xs (order_of u) new) (order_of t) old
      (omega (arith, count, place_within t, length-set xs (order_of u) new))
      ∙ ap Some (get_or-set_other xs (order_of u) (order_of t) new old other)
      ∙ sym (slice_get-get_or xs (order_of t) old (omega (arith, count, place_within t)))

  pub each_changed : ((t : Table) → order_of t ≡ order_of u → P t old → Q t new)
      → ((t : Table) → (order_of t ≡ order_of u → ⊥) → (x : X) → P t x → Q t x)
      → ((t : Table) (x : X) → slice_get xs (order_of t) ≡ Some x → P t x) → (t : Table) (x : X)
      → slice_get (set xs (order_of u) new) (order_of t) ≡ Some x → Q t x
  each_changed here there all t x got = by (cases_eq (order_of t) (order_of u))
    where
      by : (order_of t ≡ order_of u) ⊎ (order_of t ≡ order_of u → ⊥) → Q t x
      by x1 = search (rules, same_Some, is, was, stays)
