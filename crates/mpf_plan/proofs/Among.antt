-- Each name that parts use is among their names, and stands there at its number.
use Rattle.std.proofs.Common.{rules, ◌≡◌, ℕ, suc, ◌+◌, ◌<◌, ◌≤◌, ◌⊎◌, inl, inr, Bool, true, false, cond, not, List}
use Rattle.std.proofs.Common.{[], ◌∷◌, ◌++◌, length, get_or, refl, sym, arith}
use Rattle.std.specs.{Str.bytes_eq, List.{All, flat_map, list_any, position_or_len}}
use Rattle.std.proofs.lemmas.{Bool.cases_lt, Slice.Eq.bytes_eq-Decides}
use Rattle.std.proofs.lemmas.List.{Folds.list_any_at, Elements.{All-nil, All-cons, All-head, All-tail}}
use Rattle.plan_parts.specs.Parts.{Part}
use Rattle.mpf_plan.specs.{Uses.{Names, number_among}, Drafting.names_by, Named.AreNamed}
use Rattle.mpf_plan.specs.PlanOf.{Use, part_uses, names_of}
use Rattle.mpf_plan.proofs.{Named.{position_within, named_within, are_named}, Apart.{AreApart, all_apart}}
use Rattle.yaml_bytes.proofs.Each.{All-from_flat_map}

-- ---- numbers

-- a name stands at its number
pub at_number : (names : List (List ℕ)) (n : List ℕ) → number_among names n < length names
    → get_or names (number_among names n) [] ≡ n
at_number [] n within = absurd (omega arith)
at_number (x ∷ xs) n within = by (at_number xs n) (bytes_eq n x) refl within
  where
    by : (position_or_len (bytes_eq n) xs < length xs → get_or xs (position_or_len (bytes_eq n) xs) [] ≡ n)
        → (b : Bool) → bytes_eq n x ≡ b
        → cond (not b) (1 + position_or_len (bytes_eq n) xs) 0 < suc (length xs)
        → get_or (x ∷ xs) (cond (not b) (1 + position_or_len (bytes_eq n) xs) 0) [] ≡ n
    by rest true same inside = sym ((bytes_eq-Decides n x).0 same)
    by rest false other inside = search rules

-- the name at a number is among the names
pub name_at : (names : List (List ℕ)) (k : ℕ) → k < length names
    → list_any (bytes_eq (get_or names k [])) names ≡ true
name_at names k inside =
    let n = get_or names k [] in
    list_any_at (bytes_eq n) names k [] inside ((bytes_eq-Decides n n).1 refl)

-- and this is its number, if no two names are the same
pub number_at : (names : List (List ℕ)) → AreApart names → (k : ℕ) → k < length names
    → number_among names (get_or names k []) ≡ k
number_at names apart k inside = by (cases_lt at k) (cases_lt k at)
  where
    at : ℕ
    at = number_among names (get_or names k [])

    known : at < length names
    known = position_within (bytes_eq (get_or names k [])) names (name_at names k inside)

    same : get_or names at [] ≡ get_or names k []
    same = at_number names (get_or names k []) known

    by : (at < k) ⊎ (k ≤ at) → (k < at) ⊎ (at ≤ k) → at ≡ k
    by (inl before) _ = absurd (all_apart names apart at k [] before inside same)
    by (inr from) (inl after) = absurd (all_apart names apart k at [] after known (sym same))
    by (inr from) (inr to) = omega (arith, from, to)

-- ---- the names that parts use

abbrev pub IsAmong : Names → Use → Type 0
IsAmong names u = number_among (names u.0) u.1 < length (names u.0)

among_by : (us more : List Use) → AreNamed us more → All (IsAmong (names_by us)) more
among_by us [] named = All-nil (IsAmong (names_by us))
among_by us (u ∷ more) named =
    All-cons (IsAmong (names_by us)) u more (named_within us u named.0) (among_by us more named.1)

pub uses_among : (ps : List Part) → All (λ p. All (IsAmong (names_of ps)) (part_uses p)) ps
unfolding names_of
uses_among ps =
    let us = flat_map part_uses ps in
    All-from_flat_map (IsAmong (names_by us)) part_uses ps (among_by us us (are_named [] us))
