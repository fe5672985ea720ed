-- The first setting of a table, if it is required: its value in a row is what a node says.
use Rattle.std.proofs.Common.{rules, ◌≡◌, ℕ, Bool, true, false, if◌then◌else◌, List, [], ◌∷◌, map}
use Rattle.std.{proofs.Common.{Option, Some, sym, subst}, specs.Str.bytes_eq}
use Rattle.yaml_subset.specs.Node.{Node, Pair}
use Rattle.setting_values.specs.{KeyRules.{behind_one, found_in}, ValueOf.{OverwritesAt, IsOverwritten, IsWhole, IsRow}}

-- this holds of the first value of a row
abbrev pub First : {V : Type 0} → (V → Type 0) → List V → Type 0
First P [] = ⊥
First P (v ∷ vs) = P v

module _ {T V : Type 0} (key_of : T → List ℕ) (IsOf : T → Node → V → Type 0) where
  module _ (t : T) (ts : List T) (P : V → Type 0) (so : (node : Node) (v : V) → IsOf t node v → P v) where
    -- another setting is at another place
    kept : (b : Bool) (p : Pair) (row next : List V) (o : Option (ℕ × T)) → First P row
        → OverwritesAt IsOf b p row next (behind_one o) → First P next
    kept b p x3 next x5 first h = search rules

    either : (b same : Bool) (p : Pair) (row next : List V) → First P row
        → OverwritesAt IsOf b p row next (if same then Some (0, t) else behind_one (found_in key_of p.key ts))
        → First P next
    either b x2 p x4 next first h = search (rules, kept)

    first_kept : (passes : List ℕ → Bool) (ps : List Pair) (row made : List V) → First P row
        → IsOverwritten key_of IsOf passes (t ∷ ts) ps row made → First P made
    first_kept passes [] row made first h = subst (First P) (sym h) first
    first_kept passes (p ∷ ps) row made first h =
        let same = bytes_eq (key_of t) p.key in
        first_kept passes ps h.0 made (either (passes p.key) same p row h.0 first h.1) h.2

  module _ (passes : List ℕ → Bool) (default_of : T → V) (lacks : T → V → Bool)
      (t : T) (ts : List T) (P : V → Type 0) where
    abbrev IfThere : V → Type 0
    IfThere v = lacks t v ≡ false → P v

    is_there : (row : List V) → First IfThere row → IsWhole lacks (t ∷ ts) row → First P row
    is_there x1 first whole = search rules

    -- What holds of each value that a node gives the first setting holds of its value in a row, if it is required.
    pub first_written : ((node : Node) (v : V) → IsOf t node v → P v) → lacks t (default_of t) ≡ true
        → (node : Node) (row : List V) → IsRow key_of IsOf passes default_of lacks (t ∷ ts) node row → First P row
    first_written so needed node row h =
        let first : First IfThere (map default_of (t ∷ ts)) = λ other. absurd (cc) in
        let kept = first_kept t ts IfThere (λ n v is _. so n v is) passes h.pairs (map default_of (t ∷ ts)) row in
        is_there row (kept first h.overwritten) h.whole
