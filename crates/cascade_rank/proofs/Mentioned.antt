-- Which events are in a cost, and how often.
use Rattle.std.proofs.Common.{rules, ◌≡◌, ℕ, ◌+◌, ◌≤◌, min, Bool, true, false, cond, ◌||◌, ◌==◌, refl, sym, subst, inl}
use Rattle.std.proofs.{Common.{inr, arith}, lemmas.Bool.Decides.nat_tests}
use Rattle.std.proofs.lemmas.Bool.{and_parts, and_cases, or_left, or_right, or_cases, eq-eqb, false≢true}
use Rattle.plan_tables.{specs.declared.entries.EventId.EventId, proofs.Worked.number_same}
use Rattle.cascade_rank.specs.Cost.{Cost, Lines, Step, Weight, Both, Greater, price_at, mentions, all_mentioned}
use Rattle.cascade_rank.specs.Order.{unmet, occurrences}

-- what holds of each mentioned event, at one
pub all_mentioned_at : (p : EventId → Bool) (c : Cost) (e : EventId) → all_mentioned p c ≡ true → mentions e c ≡ true
    → p e ≡ true
all_mentioned_at p (Lines n) e h m = absurd (false≢true m)
all_mentioned_at p Step e h m = absurd (false≢true m)
all_mentioned_at p (Weight f) e h m = subst (λ (x : EventId). p x ≡ true) (sym (number_same e f m)) h
all_mentioned_at p (Both a b) e h m =
    let parts = and_parts (all_mentioned p a) (all_mentioned p b) h in
    elim (or_cases (mentions e a) (mentions e b) m) [
      | inl k ↦ all_mentioned_at p a e parts.0 k
      | inr k ↦ all_mentioned_at p b e parts.1 k
    ]
all_mentioned_at p (Greater a b) e h m =
    let parts = and_parts (all_mentioned p a) (all_mentioned p b) h in
    elim (or_cases (mentions e a) (mentions e b) m) [
      | inl k ↦ all_mentioned_at p a e parts.0 k
      | inr k ↦ all_mentioned_at p b e parts.1 k
    ]

-- a test that holds of each mentioned event of which another does
pub all_mentioned-weaker : (p q : EventId → Bool) (c : Cost)
    → ((e : EventId) → mentions e c ≡ true → p e ≡ true → q e ≡ true) → all_mentioned p c ≡ true
    → all_mentioned q c ≡ true
all_mentioned-weaker p q (Lines n) h y = refl
all_mentioned-weaker p q Step h y = refl
all_mentioned-weaker p q (Weight e) h y = h e (eq-eqb e.0 e.0 refl) y
all_mentioned-weaker p q (Both a b) h y =
    let parts = and_parts (all_mentioned p a) (all_mentioned p b) y in
    let l = all_mentioned-weaker p q a (λ e m. h e (or_left (mentions e a) (mentions e b) m)) parts.0 in
    let r = all_mentioned-weaker p q b (λ e m. h e (or_right (mentions e a) (mentions e b) m)) parts.1 in
    grind (arith, l, r)
all_mentioned-weaker p q (Greater a b) h y =
    let parts = and_parts (all_mentioned p a) (all_mentioned p b) y in
    let l = all_mentioned-weaker p q a (λ e m. h e (or_left (mentions e a) (mentions e b) m)) parts.0 in
    let r = all_mentioned-weaker p q b (λ e m. h e (or_right (mentions e a) (mentions e b) m)) parts.1 in
    grind (arith, l, r)

-- if it fails, it fails of a mentioned event
pub all_mentioned-fails : (p : EventId → Bool) (c : Cost) → all_mentioned p c ≡ false
    → (e : EventId) × (mentions e c ≡ true) × (p e ≡ false)
all_mentioned-fails p (Lines n) h = absurd (false≢true (sym h))
all_mentioned-fails p Step h = absurd (false≢true (sym h))
all_mentioned-fails p (Weight e) h = (e, eq-eqb e.0 e.0 refl, h)
all_mentioned-fails p (Both a b) h =
    elim (and_cases (all_mentioned p a) (all_mentioned p b) h) [
      | inl k ↦ let r = all_mentioned-fails p a k in (r.0, or_left (mentions r.0 a) (mentions r.0 b) r.1, r.2)
      | inr k ↦ let r = all_mentioned-fails p b k in (r.0, or_right (mentions r.0 a) (mentions r.0 b) r.1, r.2)
    ]
all_mentioned-fails p (Greater a b) h =
    elim (and_cases (all_mentioned p a) (all_mentioned p b) h) [
      | inl k ↦ let r = all_mentioned-fails p a k in (r.0, or_left (mentions r.0 a) (mentions r.0 b) r.1, r.2)
      | inr k ↦ let r = all_mentioned-fails p b k in (r.0, or_right (mentions r.0 a) (mentions r.0 b) r.1, r.2)
    ]

-- capped weights give the capped price
pub price-capped : (cap k : ℕ) (w : EventId → ℕ) (c : Cost)
    → min cap (price_at k (λ e. min cap (w e)) c) ≡ min cap (price_at k w c)
price-capped cap k w (Lines n) = refl
price-capped cap k w Step = refl
price-capped cap k w (Weight e) = omega arith
price-capped cap k w (Both a b) = omega (arith, price-capped cap k w a, price-capped cap k w b)
price-capped cap k w (Greater a b) = omega (arith, price-capped cap k w a, price-capped cap k w b)

-- all are met exactly if none is unmet
pub unmet-none : (p : EventId → Bool) (c : Cost) → all_mentioned p c ≡ (unmet p c == 0)
unmet-none p (Lines n) = refl
unmet-none p Step = refl
unmet-none p (Weight e) = search rules
unmet-none p (Both a b) = grind (arith, nat_tests, unmet-none p a, unmet-none p b)
unmet-none p (Greater a b) = grind (arith, nat_tests, unmet-none p a, unmet-none p b)

-- if one event more is met, its occurrences are no longer unmet
module _ (p q : EventId → Bool) (f : EventId) (fresh : p f ≡ false)
    (more : (e : EventId) → q e ≡ (p e || f.0 == e.0)) where
  one : (x y z : Bool) → y ≡ (x || z) → (z ≡ true → x ≡ false) → cond x 0 1 ≡ cond y 0 1 + cond z 1 0
  one x y z h k = search rules

  pub unmet_met : (c : Cost) → unmet p c ≡ unmet q c + occurrences f c
  unmet_met (Lines n) = refl
  unmet_met Step = refl
  unmet_met (Weight e) = one (p e) (q e) (f.0 == e.0) (more e)
      (λ same. subst (λ (x : EventId). p x ≡ false) (number_same f e same) fresh)
  unmet_met (Both a b) = omega (arith, unmet_met a, unmet_met b)
  unmet_met (Greater a b) = omega (arith, unmet_met a, unmet_met b)

-- the occurrences of an event that is not met are unmet
pub occurrences-unmet : (p : EventId → Bool) (f : EventId) (c : Cost) → p f ≡ false → occurrences f c ≤ unmet p c
occurrences-unmet p f c fresh = omega (arith, unmet_met p (λ e. p e || f.0 == e.0) f fresh (λ e. refl) c)
