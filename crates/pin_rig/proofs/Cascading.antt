-- The commands of a cascade are sent as its lines come.
use Rattle.std.proofs.Common.{◌≡◌, ℕ, zero, suc, ◌+◌, true, false, Option, None, Some, is_none, List, [], ◌∷◌, ◌++◌}
use Rattle.std.proofs.Common.{length, take, drop, slice_get, refl, ap, sym, ◌∙◌, subst, arith}
use Rattle.std.proofs.lemmas.List.{take-append-drop}
use Rattle.plan_tables.specs.PlanView.{PlanView}
use Rattle.written_machine.specs.{declared.line.Line.Line, Machine.Machine, PlanOrder.plan_steps}
use Rattle.written_machine.proofs.{Appends.steps-append, PlanSteps.plan_steps-add}
use Rattle.machine_core.specs.Core.{CoreView, HasSettled, follow}
use Rattle.coil_driver.{specs.Driver.{DriverView, HasSent, HasStopped, IsServed}, proofs.Serving.sent-append}

-- ---- a line among others

none : List Line
none = []

nothing : (k : ℕ) → take k none ≡ none
unfolding none
nothing zero = refl
nothing (suc k) = refl

there-more : (ls more : List Line) (k : ℕ) (l : Line) → slice_get ls k ≡ Some l → slice_get (ls ++ more) k ≡ Some l
there-more [] more k l is = cc
there-more (x ∷ ls) more zero l is = is
there-more (x ∷ ls) more (suc k) l is = there-more ls more k l is

first-more : (ls more : List Line) (k : ℕ) (l : Line) → slice_get ls k ≡ Some l → take k (ls ++ more) ≡ take k ls
first-more [] more k l is = cc
first-more (x ∷ ls) more zero l is = refl
first-more (x ∷ ls) more (suc k) l is = ap (λ xs. x ∷ xs) (first-more ls more k l is)

there-rest : (ls : List Line) (n k : ℕ) → slice_get ls (n + k) ≡ slice_get (drop n ls) k
there-rest ls zero k = let e : 0 + k ≡ k = omega arith in ap (slice_get ls) e
there-rest [] (suc n) k = let e : suc n + k ≡ suc (n + k) = omega arith in ap (slice_get []) e
there-rest (x ∷ ls) (suc n) k = let e : suc n + k ≡ suc (n + k) = omega arith in ap (slice_get (x ∷ ls)) e
    ∙ there-rest ls n k

first-rest : (ls : List Line) (n k : ℕ) → take (n + k) ls ≡ take n ls ++ take k (drop n ls)
unfolding none
first-rest ls zero k = let e : 0 + k ≡ k = omega arith in ap (λ m. take m ls) e
first-rest [] (suc n) k = let e : suc n + k ≡ suc (n + k) = omega arith in ap (λ m. take m []) e ∙ sym (nothing k)
first-rest (x ∷ ls) (suc n) k = let e : suc n + k ≡ suc (n + k) = omega arith in ap (λ m. take m (x ∷ ls)) e
    ∙ ap (λ xs. x ∷ xs) (first-rest ls n k)

-- ---- what was sent

-- lines that come later change nothing
pub stopped-more : (ls more : List Line) (place : ℕ) (a b : DriverView) → HasStopped ls place a b
    → HasStopped (ls ++ more) place a b
stopped-more ls more place a b is = record {
  line = is.line;
  there = there-more ls more place is.line is.there;
  mid = is.mid;
  earlier = subst (λ xs. HasSent xs a is.mid) (sym (first-more ls more place is.line is.there)) is.earlier;
  fault = is.fault;
}

-- the first lines, and then the rest of them
module _ (lines : List Line) (from : ℕ) (start mid new : DriverView) (first : HasSent (take from lines) start mid) where
  pub all-sent : HasSent (drop from lines) mid new → HasSent lines start new
  all-sent rest = subst (λ xs. HasSent xs start new) (take-append-drop from lines)
      (sent-append (take from lines) (drop from lines) start mid new first rest)

  pub rest-stopped : (place : ℕ) → HasStopped (drop from lines) place mid new
      → HasStopped lines (from + place) start new
  rest-stopped place is = record {
    line = is.line;
    there = there-rest lines from place ∙ is.there;
    mid = is.mid;
    earlier = subst (λ xs. HasSent xs start is.mid) (sym (first-rest lines from place))
        (sent-append (take from lines) (take place (drop from lines)) start mid is.mid first is.earlier);
    fault = is.fault;
  }

pub first-all : (ls more : List Line) → take (length ls) (ls ++ more) ≡ ls
first-all [] more = refl
first-all (x ∷ ls) more = ap (λ xs. x ∷ xs) (first-all ls more)

module _ (lines : List Line) (place : Option ℕ) (a b : DriverView) where
  pub whole-sent : is_none place ≡ true → IsServed lines place a b → HasSent lines a b
  whole-sent none served = by place none served
    where
      by : (p : Option ℕ) → is_none p ≡ true → IsServed lines p a b → HasSent lines a b
      by None is h = h
      by (Some k) is h = cc

  pub served-more : (more : List Line) → is_none place ≡ false → IsServed lines place a b
      → IsServed (lines ++ more) place a b
  served-more more some served = by place some served
    where
      by : (p : Option ℕ) → is_none p ≡ false → IsServed lines p a b → IsServed (lines ++ more) p a b
      by None is h = cc
      by (Some k) is h = stopped-more lines more k a b h

-- ---- after so many event steps

module _ (start now : CoreView) (count : ℕ) (is : now ≡ follow (plan_steps start.plan count) start) where
  plan-is : now.plan ≡ start.plan
  plan-is = ap (λ (c : CoreView). c.plan) is

  pub lines-are : (plan_steps start.plan count start.machine).lines ≡ now.machine.lines
  lines-are = sym (ap (λ (c : CoreView). c.machine.lines) is)

  -- more steps
  module _ (new : CoreView) (more : ℕ) (new_is : new ≡ follow (plan_steps now.plan more) now) where
    pub steps-join : new ≡ follow (plan_steps start.plan (count + more)) start
    steps-join =
        new_is ∙ ap (λ (plan : PlanView). follow (plan_steps plan more) now) plan-is
        ∙ ap (follow (plan_steps start.plan more)) is
        ∙ ap (λ (s : Machine). follow (λ m. s) start) (sym (plan_steps-add start.plan count more start.machine))

    pub lines-more : (rest : List Line) × (new.machine.lines ≡ now.machine.lines ++ rest)
    lines-more =
        let grown = steps-append now.plan more now.machine in
        (grown.0, ap (λ (c : CoreView). c.machine.lines) new_is ∙ grown.1)

  pub settled-join : (new : CoreView) → HasSettled now new → HasSettled start new
  settled-join new s = record { count = count + s.count; new_is = steps-join new s.count s.new_is; settles = s.settles }
