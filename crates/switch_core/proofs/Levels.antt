-- The accepted level after one more raw change.
use Rattle.std.proofs.Common.{rules, ◌≡◌, ℕ, ◌+◌, ◌≤◌, Bool, true, cond, ◌&&◌, Option, Some, List, [], ◌∷◌, ◌++◌}
use Rattle.std.proofs.{Common.{nat_le, refl, ap, sym, ◌∙◌, arith}, Math.Bool.and-true}
use Rattle.std.specs.List.{filter, list_all, last_or}
use Rattle.std.proofs.lemmas.{Bool.{le-leb, leb-true}, List.Folds.list_all-append}
use Rattle.plan_tables.specs.declared.entries.SwitchKind.{SwitchKind}
use Rattle.switch_core.specs.SwitchStep.{is_active}
use Rattle.switch_core.specs.AcceptedLevel.{RawChange, delay_of, standing, is_delay_over, accepted_level}

filter-cond : (f : RawChange → Bool) (b : Bool) (xs ys : List RawChange)
    → filter f (cond b xs ys) ≡ cond b (filter f xs) (filter f ys)
filter-cond f b xs ys = search rules

-- An older raw change stays among those that stand (b) exactly if it is over at the later one (n), and then it is over
-- afterwards, too (o).
kept : (p : RawChange) (fs gs end : List RawChange) (b n o : Bool) → fs ≡ gs ++ end → (n ≡ true → o ≡ true)
    → cond (b && n) (cond o (p ∷ fs) fs) fs ≡ cond b (cond n (p ∷ gs) gs) gs ++ end
kept p fs gs end b n o is over = search rules

-- Of those that stood, the ones that are over at the later change stand on, and it stands itself.
pub standing-push : (delay moment : ℕ) (past : List RawChange) (c : RawChange) → c.at ≤ moment
    → filter (is_delay_over delay moment) (standing delay (past ++ c ∷ []))
    ≡ filter (is_delay_over delay c.at) (standing delay past) ++ filter (is_delay_over delay moment) (c ∷ [])
standing-push delay moment [] c before = refl
standing-push delay moment (p ∷ later) c before =
    let near : RawChange → Bool = λ l. nat_le (p.at + delay) l.at in
    let f = is_delay_over delay moment in
    let g = is_delay_over delay c.at in
    let old = standing delay later in
    let new = standing delay (later ++ c ∷ []) in
    let rest : filter f new ≡ filter g old ++ filter f (c ∷ []) = standing-push delay moment later c before in
    let stays : list_all near (later ++ c ∷ []) ≡ (list_all near later && g p) = list_all-append near later (c ∷ [])
    ∙ ap (λ b. list_all near later && b) (and-true (near c)) in
    let over : g p ≡ true → f p ≡ true = λ is. le-leb (p.at + delay) moment
    (omega (arith, leb-true (p.at + delay) c.at is)) in
    filter-cond f (list_all near (later ++ c ∷ [])) (p ∷ new) new
    ∙ ap (λ b. cond b (cond (f p) (p ∷ filter f new) (filter f new)) (filter f new)) stays
    ∙ kept p (filter f new) (filter g old) (filter f (c ∷ [])) (list_all near later) (g p) (f p) rest over
    ∙ ap (λ xs. xs ++ filter f (c ∷ [])) (sym (filter-cond g (list_all near later) (p ∷ old) old))

last-push : (o : Option RawChange) (xs : List RawChange) (x : RawChange) → last_or o (xs ++ x ∷ []) ≡ Some x
last-push o [] x = refl
last-push o (y ∷ ys) x = last-push (Some y) ys x

-- The later change is accepted once its delay is over; until then the level is the one at its moment.
pub accepted-push : (kind : SwitchKind) (moment : ℕ) (past : List RawChange) (c : RawChange) → c.at ≤ moment
    → accepted_level kind moment (past ++ c ∷ [])
    ≡ cond (is_delay_over (delay_of kind) moment c) (is_active kind.contact c.level) (accepted_level kind c.at past)
accepted-push kind moment past c before = search (rules, standing-push, last-push)
