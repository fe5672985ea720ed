-- What groups list, name by name.
use Rattle.std.proofs.Common.{rules, ◌≡◌, ℕ, Bool, List, [], ◌∷◌, ◌++◌, refl, sym, ap, ◌∙◌}
use Rattle.mpf_sections.specs.Rows.{WrittenName}
use Rattle.mpf_config.specs.Rows.{Rows}
use Rattle.row_faults.specs.ShotFaults.{ListedShot, taken_with, taken_after, kept_if, faulty_shots}

kept-append : (b : Bool) (w : WrittenName) (ws others : List WrittenName)
    → kept_if b w (ws ++ others) ≡ kept_if b w ws ++ others
kept-append x1 w ws others = search rules

-- names of two lists are taken one after the other
pub taken-append : (is_taken : List ℕ → Bool) (ls ms : List ListedShot)
    → taken_after is_taken (ls ++ ms) ≡ taken_after (taken_after is_taken ls) ms
taken-append is_taken [] ms = refl
taken-append is_taken (l ∷ ls) ms = taken-append (taken_with l is_taken) ls ms

module _ (rows : Rows) (is_own : List ℕ → Bool) where
  pub misplaced-append : (is_taken : List ℕ → Bool) (ls ms : List ListedShot)
      → faulty_shots rows is_own is_taken (ls ++ ms)
      ≡ faulty_shots rows is_own is_taken ls ++ faulty_shots rows is_own (taken_after is_taken ls) ms
  misplaced-append is_taken [] ms = refl
  misplaced-append is_taken (l ∷ ls) ms = search (rules, kept-append, misplaced-append (taken_with l is_taken) ls ms)

-- the same of the names that are taken
pub taken-more : (is_taken others : List ℕ → Bool) (ls ms : List ListedShot) → others ≡ taken_after is_taken ls
    → taken_after others ms ≡ taken_after is_taken (ls ++ ms)
taken-more is_taken others ls ms taken = ap (λ (test : List ℕ → Bool). taken_after test ms) taken
    ∙ sym (taken-append is_taken ls ms)
