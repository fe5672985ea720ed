-- The groups of lines are those that reading makes, and no others.
use Rattle.std.proofs.Common.{rules, ◌≡◌, ℕ, Bool, true, false, List, [], ◌∷◌, ◌++◌, refl, sym, ap, ◌∙◌}
use Rattle.std.specs.List.{AllByRecursion}
use Rattle.yaml_subset.specs.{TextLines.TextLine, TreeOf.{Group, Stands, AreGroups}}
use Rattle.yaml_subset.specs.Reading.{chunk_step, chunks, groups_of}

-- each group begins at the indentation
abbrev pub AllStand : (TextLine → Bool) → ℕ → List Group → Type 0
AllStand hangs i = AllByRecursion (λ g. Stands hangs i g.head)

abbrev pub AllHang : (TextLine → Bool) → List TextLine → Type 0
AllHang hangs = AllByRecursion (λ l. hangs l ≡ true)

-- lines that hang, and then a run
abbrev IsCut : (TextLine → Bool) → ℕ → List TextLine → List TextLine × List Group → Type 0
IsCut hangs i ls r = AllHang hangs r.0 × ((rest : List TextLine) × (ls ≡ r.0 ++ rest) × AreGroups hangs i rest r.1)

cut_step : (hangs : TextLine → Bool) (i : ℕ) (l : TextLine) (ls : List TextLine) (b : Bool) → hangs l ≡ b
    → (AllStand hangs i (chunks hangs ls).1 → IsCut hangs i ls (chunks hangs ls))
    → AllStand hangs i (chunk_step b l (chunks hangs ls)).1 → IsCut hangs i (l ∷ ls) (chunk_step b l (chunks hangs ls))
cut_step hangs i l ls true e ih h = search rules
cut_step hangs i l ls false e ih h = search rules

cut : (hangs : TextLine → Bool) (i : ℕ) (ls : List TextLine) → AllStand hangs i (chunks hangs ls).1
    → IsCut hangs i ls (chunks hangs ls)
cut hangs i [] h = (tt, ([], refl, refl))
cut hangs i (l ∷ ls) h = cut_step hangs i l ls (hangs l) refl (cut hangs i ls) h

pub groups_are_run : (hangs : TextLine → Bool) (i : ℕ) (ls : List TextLine) → AllStand hangs i (groups_of hangs ls)
    → AreGroups hangs i ls (groups_of hangs ls)
groups_are_run hangs i x3 h = search (rules, cut)

pub run_stands : (hangs : TextLine → Bool) (i : ℕ) (ls : List TextLine) (gs : List Group) → AreGroups hangs i ls gs
    → AllStand hangs i gs
run_stands hangs i ls [] h = tt
run_stands hangs i ls (g ∷ gs) h = (h.2, run_stands hangs i h.0 gs h.4)

chunks_of_run : (hangs : TextLine → Bool) (i : ℕ) (rest : List TextLine) (gs : List Group) → AreGroups hangs i rest gs
    → chunks hangs rest ≡ ([], groups_of hangs rest)
chunks_of_run hangs i rest [] h = rw h refl
chunks_of_run hangs i rest (g ∷ gs) h = rw (h.1, h.2.1) refl

chunks_append : (hangs : TextLine → Bool) (below rest : List TextLine) → AllHang hangs below
    → chunks hangs rest ≡ ([], groups_of hangs rest) → chunks hangs (below ++ rest) ≡ (below, groups_of hangs rest)
chunks_append hangs [] rest d h = h
chunks_append hangs (l ∷ ls) rest d h = rw (d.0, chunks_append hangs ls rest d.1 h) refl

pub run_is_groups : (hangs : TextLine → Bool) (i : ℕ) (ls : List TextLine) (gs : List Group) → AreGroups hangs i ls gs
    → gs ≡ groups_of hangs ls
run_is_groups hangs i ls [] h = rw h refl
run_is_groups hangs i ls (g ∷ gs) h =
    let c = chunks_append hangs g.below h.0 h.3 (chunks_of_run hangs i h.0 gs h.4) in
    let out : List TextLine × List Group → List Group = λ r. record { head = g.head; below = r.0 } ∷ r.1 in
    ap (λ (xs : List Group). g ∷ xs) (run_is_groups hangs i h.0 gs h.4) ∙ sym (ap (groups_of hangs) h.1 ∙ ap out c)
