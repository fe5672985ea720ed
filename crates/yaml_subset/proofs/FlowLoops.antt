-- Reading parts one after the other, as a loop does.
use Rattle.std.proofs.Common.{◌≡◌, ℕ, suc, ◌-◌, ◌<◌, true, false, List, [], ◌∷◌, ◌++◌, length, Result, Ok, Err, refl}
use Rattle.std.proofs.Common.{sym, ap, ◌∙◌, arith}
use Rattle.yaml_subset.specs.{declared.place.{PlacedFault.PlacedFault, Halt.Halt}, Placed.HaltsAs}
use Rattle.yaml_subset.specs.declared.place.Halt.TheVariants as halts
use Rattle.yaml_subset.proofs.Groups.{fails_then}
use Rattle.yaml_subset.specs.Flow.{begins_with, start_at, behind_close_at, parted_at, parts_at, between_at}

-- The parts so far, after which the others are still read: with so many parts left to read, this gives what the whole
-- does.
pub record IsSoFar {A : Type 0} (n close : ℕ) (part : List A → List ℕ → Result (A × List ℕ) PlacedFault)
    (total : Result (List A × List ℕ) PlacedFault) (before : List A) (text : List ℕ) : Type 0 where
  pub left : ℕ
  pub room : length text < left
  pub gives : (parts_at n) close part left before text ≡ total

-- before the first part
pub begun : {A : Type 0} (n close : ℕ) (part : List A → List ℕ → Result (A × List ℕ) PlacedFault) (after text : List ℕ)
    → start_at n after ≡ Ok text → IsSoFar n close part (between_at n close part after) [] text
unfolding between_at
begun n close part after text e = record { left = suc (length text); room = omega arith; gives = rw e refl }

pub begin_fails : {A : Type 0} (n close : ℕ) (part : List A → List ℕ → Result (A × List ℕ) PlacedFault) (after : List ℕ)
    (e : Halt) → HaltsAs e (start_at n after) → HaltsAs e (between_at n close part after)
unfolding between_at
begin_fails n close part after e h = fails_then e (start_at n after)
    (λ body. parts_at n close part (suc (length body)) [] body) h

module _ {A : Type 0} (n close : ℕ) (part : List A → List ℕ → Result (A × List ℕ) PlacedFault)
    (total : Result (List A × List ℕ) PlacedFault) (before : List A) (text : List ℕ)
    (so_far : (IsSoFar n) close part total before text) where
  step : (parts_at n) close part (suc (so_far.left - 1)) before text ≡ total
  step =
      let e : suc (so_far.left - 1) ≡ so_far.left = omega (arith, so_far.room) in
      ap (λ k. parts_at n close part k before text) e ∙ so_far.gives

  module _ (ends : begins_with close text ≡ true) where
    pub closed : (rest : List ℕ) → behind_close_at n text ≡ Ok rest → total ≡ Ok (before, rest)
    unfolding parts_at
    closed rest e =
        let one : (parts_at n) close part (suc (so_far.left - 1)) before text ≡ Ok (before, rest) = rw (ends, e) refl in
        sym step ∙ one

    pub close_fails : (e : Halt) → HaltsAs e (behind_close_at n text) → HaltsAs e total
    unfolding parts_at
    close_fails halts.NoMemory h = tt
    close_fails (halts.At f) h =
        let one : (parts_at n) close part (suc (so_far.left - 1)) before text ≡ Err f = rw (ends, h) refl in
        sym step ∙ one

  module _ (more : begins_with close text ≡ false) where
    pub part_fails : (e : Halt) → HaltsAs e (part before text) → HaltsAs e total
    unfolding parts_at
    part_fails halts.NoMemory h = tt
    part_fails (halts.At f) h =
        let one : (parts_at n) close part (suc (so_far.left - 1)) before text ≡ Err f = rw (more, h) refl in
        sym step ∙ one

    module _ (x : A) (rest : List ℕ) (reads : part before text ≡ Ok (x, rest)) where
      pub parted_fails : (e : Halt) → HaltsAs e (parted_at n close rest) → HaltsAs e total
      unfolding parts_at
      parted_fails halts.NoMemory h = tt
      parted_fails (halts.At f) h =
          let one : (parts_at n) close part (suc (so_far.left - 1)) before text ≡ Err f = rw (more, reads, h) refl in
          sym step ∙ one

      pub goes_on : (next : List ℕ) → parted_at n close rest ≡ Ok next → length next < length text
          → IsSoFar n close part total (before ++ x ∷ []) next
      unfolding parts_at
      goes_on next h less =
          let one : (parts_at n) close part (suc (so_far.left - 1)) before text
          ≡ parts_at n close part (so_far.left - 1) (before ++ x ∷ []) next = rw (more, reads, h) refl in
          record { left = so_far.left - 1; room = omega (arith, so_far.room, less); gives = sym one ∙ step }
