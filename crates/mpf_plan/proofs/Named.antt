-- The names of uses: what comes later is put after what is there, so a name keeps its number.
use Rattle.std.proofs.Common.{rules, ◌≡◌, ℕ, suc, ◌+◌, ◌<◌, ◌≤◌, ◌==◌, ◌||◌, Bool, true, false, cond, not, List, []}
use Rattle.std.proofs.Common.{◌∷◌, ◌++◌, map, filter, fold, length, refl, sym, ap, ◌∙◌, subst, append_assoc, true≢false}
use Rattle.std.proofs.{Common.arith, lemmas.List.{Folds.list_any-append, Sums.fold-append}}
use Rattle.std.specs.{Str.bytes_eq, List.{flat_map, list_any, position_or_len}}
use Rattle.std.proofs.lemmas.{Bool.{eq-eqb, ne_eqb, or_left, or_right}, Slice.Eq.bytes_eq-Decides}
use Rattle.std.proofs.lemmas.List.{length-append, map-append, Elements.filter-append}
use Rattle.plan_tables.specs.{declared.table.Table.Table, Limits.order_of}
use Rattle.plan_parts.specs.Parts.{Part}
use Rattle.first_names.specs.FirstNames.{with_name}
use Rattle.mpf_plan.specs.{Uses.{first_uses, number_among}, PlanOf.{Use, in_table, part_uses, names_of}}
use Rattle.mpf_plan.specs.{Drafting.{names_by, AreWithin}, Named.{IsNamed, AreNamed}}
use Rattle.mpf_plan.proofs.Firsts.{with_names-all, later_uses, first_uses-more}

-- ---- the uses of one table

abbrev is_of : Table → Use → Bool
is_of t u = order_of u.0 == order_of t

pub in_table-append : (t : Table) (us vs : List Use) → in_table t (us ++ vs) ≡ in_table t us ++ in_table t vs
in_table-append t us vs =
    ap (map (λ (u : Use). u.1)) (filter-append (is_of t) us vs)
    ∙ map-append (λ (u : Use). u.1) (filter (is_of t) us) (filter (is_of t) vs)

-- one use, of this table or of another
pub in_table-same : (t : Table) (u : Use) → order_of t ≡ order_of u.0 → in_table t (u ∷ []) ≡ u.1 ∷ []
in_table-same t u same =
    ap (λ b. map (λ (v : Use). v.1) (cond b (u ∷ []) [])) (eq-eqb (order_of u.0) (order_of t) (sym same))

pub in_table-other : (t : Table) (u : Use) → (order_of t ≡ order_of u.0 → ⊥) → in_table t (u ∷ []) ≡ []
in_table-other t u other =
    ap (λ b. map (λ (v : Use). v.1) (cond b (u ∷ []) [])) (ne_eqb (order_of u.0) (order_of t) (λ e. other (sym e)))

-- ---- names, as they are noted

-- uses more are noted one by one
pub names_noted : (us vs : List Use) (t : Table)
    → names_by (us ++ vs) t ≡ fold with_name (names_by us t) (in_table t vs)
names_noted us vs t =
    ap first_uses (in_table-append t us vs)
    ∙ sym (with_names-all (in_table t us ++ in_table t vs))
    ∙ fold-append with_name [] (in_table t us) (in_table t vs)
    ∙ ap (λ names. fold with_name names (in_table t vs)) (with_names-all (in_table t us))

-- one use more, in its table and in the others
pub name_noted : (us : List Use) (u : Use) (t : Table) → order_of t ≡ order_of u.0
    → names_by (us ++ u ∷ []) t ≡ with_name (names_by us t) u.1
name_noted us u t same = names_noted us (u ∷ []) t ∙ ap (fold with_name (names_by us t)) (in_table-same t u same)

-- uses of other tables alone
pub none_noted : (us vs : List Use) (t : Table) → in_table t vs ≡ [] → names_by (us ++ vs) t ≡ names_by us t
none_noted us vs t none = names_noted us vs t ∙ ap (fold with_name (names_by us t)) none

pub others_noted : (us : List Use) (u : Use) (t : Table) → (order_of t ≡ order_of u.0 → ⊥)
    → names_by (us ++ u ∷ []) t ≡ names_by us t
others_noted us u t other = none_noted us (u ∷ []) t (in_table-other t u other)

-- ---- names, as they grow

-- the names that uses add to those before them
abbrev pub added_names : (us vs : List Use) → Table → List (List ℕ)
added_names us vs t = later_uses (in_table t us) (in_table t vs)

pub names_more : (us vs : List Use) (t : Table) → names_by (us ++ vs) t ≡ names_by us t ++ added_names us vs t
names_more us vs t = ap first_uses (in_table-append t us vs) ∙ first_uses-more (in_table t us) (in_table t vs)

pub names_grow : (us vs : List Use) (t : Table) → length (names_by us t) ≤ length (names_by (us ++ vs) t)
names_grow us vs t = omega (arith, ap length (names_more us vs t), length-append (names_by us t) (added_names us vs t))

-- so fewer uses are within the limits where more are
pub within_front : (us vs : List Use) → AreWithin (us ++ vs) → AreWithin us
within_front us vs within t has = omega (arith, names_grow us vs t, within t has)

-- ---- a name among the first uses

any_filter : (name x : List ℕ) → bytes_eq name x ≡ false → (ys : List (List ℕ))
    → list_any (bytes_eq name) (filter (λ y. not (bytes_eq x y)) ys) ≡ list_any (bytes_eq name) ys
any_filter name x other [] = refl
any_filter name x other (y ∷ ys) = search (rules, bytes_eq-Decides, any_filter name x other ys)

pub any_first : (name : List ℕ) (us : List (List ℕ))
    → list_any (bytes_eq name) (first_uses us) ≡ list_any (bytes_eq name) us
any_first name [] = refl
any_first name (x ∷ xs) = by (any_first name xs) (bytes_eq name x) refl
  where
    by : list_any (bytes_eq name) (first_uses xs) ≡ list_any (bytes_eq name) xs → (b : Bool) → bytes_eq name x ≡ b
        → (b || list_any (bytes_eq name) (filter (λ y. not (bytes_eq x y)) (first_uses xs)))
        ≡ (b || list_any (bytes_eq name) xs)
    by rest x2 is = search (rules, any_filter)

pub position_within : {X : Type 0} (p : X → Bool) (xs : List X) → list_any p xs ≡ true
    → position_or_len p xs < length xs
position_within p [] e = absurd (true≢false (sym e))
position_within p (x ∷ xs) e = by (p x) (position_within p xs) e
  where
    by : (b : Bool) → (list_any p xs ≡ true → position_or_len p xs < length xs) → (b || list_any p xs) ≡ true
        → cond (not b) (1 + position_or_len p xs) 0 < suc (length xs)
    by x1 rest there = search rules

-- a place within the front is the place
pub position_in_front : {X : Type 0} (p : X → Bool) (xs ys : List X) → position_or_len p xs < length xs
    → position_or_len p (xs ++ ys) ≡ position_or_len p xs
position_in_front p [] ys within = absurd (omega arith)
position_in_front p (x ∷ xs) ys within = by (p x) (position_in_front p xs ys) within
  where
    by : (b : Bool) → (position_or_len p xs < length xs → position_or_len p (xs ++ ys) ≡ position_or_len p xs)
        → cond (not b) (1 + position_or_len p xs) 0 < suc (length xs)
        → cond (not b) (1 + position_or_len p (xs ++ ys)) 0 ≡ cond (not b) (1 + position_or_len p xs) 0
    by x1 rest within = search rules

-- ---- a name keeps its number

-- so it stands among the names
pub named_within : (us : List Use) (u : Use) → IsNamed us u
    → number_among (names_by us u.0) u.1 < length (names_by us u.0)
named_within us u named = position_within (bytes_eq u.1) (names_by us u.0) (any_first u.1 (in_table u.0 us) ∙ named)

pub number_stays : (us vs : List Use) (u : Use) → IsNamed us u
    → number_among (names_by (us ++ vs) u.0) u.1 ≡ number_among (names_by us u.0) u.1
number_stays us vs u named =
    ap (λ ns. number_among ns u.1) (names_more us vs u.0)
    ∙ position_in_front (bytes_eq u.1) (names_by us u.0) (added_names us vs u.0) (named_within us u named)

-- a use is among those that begin with it
first_there : (u : Use) (rest : List Use) → list_any (bytes_eq u.1) (in_table u.0 (u ∷ rest)) ≡ true
first_there u rest =
    ap (λ b. list_any (bytes_eq u.1) (map (λ (v : Use). v.1)
    (cond b (u ∷ filter (is_of u.0) rest) (filter (is_of u.0) rest)))) (eq-eqb (order_of u.0) (order_of u.0) refl)
    ∙ or_left (bytes_eq u.1 u.1) (list_any (bytes_eq u.1) (in_table u.0 rest)) ((bytes_eq-Decides u.1 u.1).1 refl)

-- uses are among themselves, whatever comes before them
pub are_named : (us more : List Use) → AreNamed (us ++ more) more
are_named us [] = tt
are_named us (u ∷ more) = (
  ap (list_any (bytes_eq u.1)) (in_table-append u.0 us (u ∷ more))
      ∙ list_any-append (bytes_eq u.1) (in_table u.0 us) (in_table u.0 (u ∷ more))
      ∙ or_right (list_any (bytes_eq u.1) (in_table u.0 us)) (list_any (bytes_eq u.1) (in_table u.0 (u ∷ more)))
      (first_there u more),
  subst (λ l. AreNamed l more) (append_assoc us (u ∷ []) more) (are_named (us ++ u ∷ []) more),
)

-- ---- the names of parts

pub names_of-uses : (ps : List Part) → names_of ps ≡ names_by (flat_map part_uses ps)
unfolding names_of
names_of-uses ps = refl
