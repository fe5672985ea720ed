-- The lines of a text, one after the other.
use Rattle.std.proofs.Common.{rules, ◌≡◌, ℕ, suc, ◌+◌, List, ◌∷◌, ◌++◌, length, Option, Some, None, Ok, Err}
use Rattle.std.{proofs.Common.append_assoc, specs.{Borrow.Bor, Option.option_to_list}}
use Rattle.yaml_subset.specs.{declared.place.PlacedFault.PlacedFault, TextLines.TextLine}
use Rattle.yaml_subset.specs.Reading.{content_at, blemish_at, contents_from}
use Rattle.yaml_bytes.specs.Lines.{lines_after}

-- ---- the lines so far, in front of those that are still read

abbrev pub in_front : List TextLine → List TextLine × Option PlacedFault → List TextLine × Option PlacedFault
in_front front r = (front ++ r.0, r.1)

-- how many lines there still may be
abbrev pub room : Option (Bor (List ℕ)) → ℕ
room None = 0
room (Some text) = suc (length text.now)

module _ (front : List TextLine) (n : ℕ) (rest : Option (List ℕ)) (raw : List ℕ) (after : Option (List ℕ))
    (total : List TextLine × Option PlacedFault) (lines : lines_after rest ≡ raw ∷ lines_after after)
    (so_far : in_front front (contents_from n (lines_after rest)) ≡ total) where
  pub goes_on : (found : Option TextLine) → content_at n raw ≡ Ok found → blemish_at n raw ≡ None
      → in_front (front ++ option_to_list found) (contents_from (n + 1) (lines_after after)) ≡ total
  unfolding contents_from
  goes_on found e b = search (rules, append_assoc)

  pub stops : (f : PlacedFault) → content_at n raw ≡ Err f → total ≡ (front, Some f)
  unfolding contents_from
  stops f e = search rules

  pub stops_behind : (found : Option TextLine) (f : PlacedFault) → content_at n raw ≡ Ok found
      → blemish_at n raw ≡ Some f → total ≡ (front ++ option_to_list found, Some f)
  unfolding contents_from
  stops_behind found f e b = search rules

pub all_read : (front : List TextLine) (n : ℕ) (rest : Option (List ℕ)) (total : List TextLine × Option PlacedFault)
    → rest ≡ None → in_front front (contents_from n (lines_after rest)) ≡ total → total ≡ (front, None)
unfolding contents_from
all_read front n rest total e so_far = search rules
