-- One more sending: what lasts after it, and what rests after it.
use Rattle.std.proofs.Common.{rules, ◌≡◌, ℕ, ◌≤◌, Bool, true, false, not, ◌&&◌, ◌||◌, List, [], ◌∷◌, ◌++◌, nat_lt, ap}
use Rattle.std.proofs.{Common.{ap₂, ◌∙◌}, Math.Bool.{and-true, and-false, or-false}}
use Rattle.std.{specs.List.{list_all, list_any}, proofs.lemmas.List.Folds.{list_all-append, list_any-append}}
use Rattle.coil_guard.specs.SentCommands.{Sending, lasts}

-- a: the first one begins; l: none of the later ones ends it; n: the new one does not; r: one of the later ones lasts;
-- b: the new one begins
regroup : (a l n r b : Bool) → ((a && (l && n)) || ((r && n) || b)) ≡ ((((a && l) || r) && n) || b)
regroup a l n r b = search rules

-- What lasted goes on unless the new one ends it, and the new one may begin it.
pub lasts-push : (begins ends : Sending → Bool) (sent : List Sending) (s : Sending)
    → lasts begins ends (sent ++ s ∷ []) ≡ ((lasts begins ends sent && not (ends s)) || begins s)
lasts-push begins ends [] s = or-false (begins s && true) ∙ and-true (begins s)
lasts-push begins ends (p ∷ later) s =
    let stays : Sending → Bool = λ l. not (ends l) in
    let all : list_all stays (later ++ s ∷ []) ≡ (list_all stays later && stays s) =
    list_all-append stays later (s ∷ []) ∙ ap (λ b. list_all stays later && b) (and-true (stays s)) in
    ap₂ (λ a b. (begins p && a) || b) all (lasts-push begins ends later s)
    ∙ regroup (begins p) (list_all stays later) (stays s) (lasts begins ends later) (begins s)

module _ (begins ends : Sending → Bool) (sent : List Sending) (s : Sending) where
  pub lasts-begun : (b : Bool) → begins s ≡ b → ends s ≡ false
      → lasts begins ends (sent ++ s ∷ []) ≡ (lasts begins ends sent || b)
  lasts-begun b begun stays = search (rules, lasts-push, and-true)

  pub lasts-kept : begins s ≡ false → ends s ≡ false → lasts begins ends (sent ++ s ∷ []) ≡ lasts begins ends sent
  lasts-kept none stays = lasts-begun false none stays ∙ or-false (lasts begins ends sent)

  pub lasts-ended : begins s ≡ false → ends s ≡ true → lasts begins ends (sent ++ s ∷ []) ≡ false
  lasts-ended none ended = search (rules, lasts-push, or-false, and-false)

pub any-push : (p : Sending → Bool) (sent : List Sending) (s : Sending) (b : Bool) → p s ≡ b
    → list_any p (sent ++ s ∷ []) ≡ (list_any p sent || b)
any-push p sent s b is = list_any-append p sent (s ∷ []) ∙ ap (λ c. list_any p sent || c) (or-false (p s) ∙ is)

-- before one of two moments is before the later one
pub lt-either : (t a b : ℕ) → a ≤ b → (nat_lt t a || nat_lt t b) ≡ nat_lt t b
lt-either t a b le = search rules
