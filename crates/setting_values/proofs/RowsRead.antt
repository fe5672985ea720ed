-- The row of a mapping by a table is the one that is read, and no other.
use Rattle.std.proofs.Common.{rules, ◌≡◌, ◌<◌, ℕ, Bool, List, [], ◌∷◌, length, map, Option, None, Result, Ok, refl, sym}
use Rattle.std.proofs.{Common.{ap, subst, ◌∙◌, inl, arith}, lemmas.List.length-map}
use Rattle.yaml_subset.specs.Node.{Node, Pair}
use Rattle.config_faults.specs.Faults.{RowsFault, Spot}
use Rattle.setting_values.specs.{KeyRules.found_in, Reading.{whole_from, row_at}}
use Rattle.setting_values.{specs.ValueOf.{OverwritesAt, IsOverwritten, IsWhole}, proofs.Outcomes.then_or}
use Rattle.setting_values.specs.Reading.{most_items, IsReadOrLong, key_spot, put_at, overwritten_at, lacking}
use Rattle.yaml_bytes.proofs.Steps.{bind_ok, ok_is}

-- ---- nothing lacks

module _ {T V : Type 0} (key_of : T → List ℕ) (lacks : T → V → Bool) where
  whole_by : (s : T) (ss : List T) (v : V) (vs : List V) (b : Bool) → lacks s v ≡ b
      → lacking key_of lacks (s ∷ ss) (v ∷ vs) ≡ None → (lacking key_of lacks ss vs ≡ None → IsWhole lacks ss vs)
      → IsWhole lacks (s ∷ ss) (v ∷ vs)
  whole_by s ss v vs x5 e h rest = search rules

  pub none_lacks : (table : List T) (row : List V) → length row ≡ length table → lacking key_of lacks table row ≡ None
      → IsWhole lacks table row
  none_lacks [] [] len h = tt
  none_lacks [] (v ∷ vs) len h = absurd (omega (arith, len))
  none_lacks (s ∷ ss) [] len h = absurd (omega (arith, len))
  none_lacks (s ∷ ss) (v ∷ vs) len h = whole_by s ss v vs (lacks s v) refl h (none_lacks ss vs (omega (arith, len)))

  pub is_whole : (table : List T) (row : List V) → IsWhole lacks table row → lacking key_of lacks table row ≡ None
  is_whole [] [] h = refl
  is_whole [] (v ∷ vs) h = absurd h
  is_whole (s ∷ ss) [] h = absurd h
  is_whole (s ∷ ss) (v ∷ vs) h = rw h.0 (is_whole ss vs h.1)

whole_sound : {V : Type 0} (spot : Spot) (row made : List V) (o : Option (List ℕ)) → whole_from spot row o ≡ Ok made
    → (o ≡ None) × (row ≡ made)
whole_sound spot row made x4 e = search rules

-- ---- overwritten

module _ {T V : Type 0} (key_of : T → List ℕ) (value_at : T → Spot → Node → Result V RowsFault)
    (IsOf : T → Node → V → Type 0) (passes : List ℕ → Bool) where
  keeps_length : (b : Bool) (p : Pair) (row next : List V) (o : Option (ℕ × T)) → OverwritesAt IsOf b p row next o
      → length next ≡ length row
  keeps_length b p row next x5 h = search rules

  pub same_length : (table : List T) (ps : List Pair) (row made : List V)
      → IsOverwritten key_of IsOf passes table ps row made → length made ≡ length row
  same_length table [] row made h = ap length h
  same_length table (p ∷ ps) row made h = same_length table ps h.0 made h.2
      ∙ keeps_length (passes p.key) p row h.0 (found_in key_of p.key table) h.1

  module _ (sound : (t : T) (spot : Spot) (node : Node) (v : V) → value_at t spot node ≡ Ok v → IsOf t node v) where
    put_sound : (b : Bool) (spot : Spot) (p : Pair) (row next : List V) (o : Option (ℕ × T))
        → put_at value_at b spot p.value row o ≡ Ok next → OverwritesAt IsOf b p row next o
    put_sound b spot p row next x6 e = search rules

    pub overwritten_sound : (text : List ℕ) (table : List T) (ps : List Pair) (row made : List V)
        → overwritten_at key_of value_at passes text table ps row ≡ Ok made
        → IsOverwritten key_of IsOf passes table ps row made
    overwritten_sound text table [] row made e = sym (ok_is row made e)
    overwritten_sound text table (p ∷ ps) row made e =
        let put = put_at value_at (passes p.key) (key_spot text p) p.value row (found_in key_of p.key table) in
        let a = bind_ok put (λ next. overwritten_at key_of value_at passes text table ps next) made e in (
          a.0,
          put_sound (passes p.key) (key_spot text p) p row a.0 (found_in key_of p.key table) a.1,
          overwritten_sound text table ps a.0 made a.2,
        )

    pub row_sound : (default_of : T → V) (lacks : T → V → Bool) (spot : Spot) (table : List T) (ps : List Pair)
        (row : List V) → row_at key_of value_at passes default_of lacks spot table ps ≡ Ok row
        → IsOverwritten key_of IsOf passes table ps (map default_of table) row × IsWhole lacks table row
    unfolding row_at
    row_sound default_of lacks spot table ps row e =
        let a = bind_ok (overwritten_at key_of value_at passes spot.text table ps (map default_of table))
        (λ made. whole_from spot made (lacking key_of lacks table made)) row e in
        let b = whole_sound spot a.0 row (lacking key_of lacks table a.0) a.2 in
        let made = overwritten_sound spot.text table ps (map default_of table) a.0 a.1 in
        let len : length a.0 ≡ length table = same_length table ps (map default_of table) a.0 made
        ∙ length-map table default_of in
        subst (λ r. IsOverwritten key_of IsOf passes table ps (map default_of table) r × IsWhole lacks table r) b.1
        (made, none_lacks key_of lacks table a.0 len b.0)

  module _ (longest : ℕ) (complete : (t : T) (spot : Spot) (node : Node) (v : V) → IsOf t node v
      → IsReadOrLong longest (value_at t spot node) v) where
    put_complete : (b : Bool) (spot : Spot) (p : Pair) (row next : List V) (o : Option (ℕ × T))
        → OverwritesAt IsOf b p row next o → IsReadOrLong longest (put_at value_at b spot p.value row o) next
    put_complete b spot p row next x6 h = search rules

    overwritten_complete : (text : List ℕ) (table : List T) (ps : List Pair) (row made : List V)
        → IsOverwritten key_of IsOf passes table ps row made
        → IsReadOrLong longest (overwritten_at key_of value_at passes text table ps row) made
    overwritten_complete text table [] row made h = inl (ap (λ (r : List V). Ok r) (sym h))
    overwritten_complete text table (p ∷ ps) row made h =
        let put = put_at value_at (passes p.key) (key_spot text p) p.value row (found_in key_of p.key table) in
        then_or (most_items < longest) put (λ next. overwritten_at key_of value_at passes text table ps next) h.0 made
        (put_complete (passes p.key) (key_spot text p) p row h.0 (found_in key_of p.key table) h.1)
        (overwritten_complete text table ps h.0 made h.2)

    pub row_complete : (default_of : T → V) (lacks : T → V → Bool) (spot : Spot) (table : List T) (ps : List Pair)
        (row : List V) → IsOverwritten key_of IsOf passes table ps (map default_of table) row → IsWhole lacks table row
        → IsReadOrLong longest (row_at key_of value_at passes default_of lacks spot table ps) row
    unfolding row_at
    row_complete default_of lacks spot table ps row made whole = search (rules, then_or, overwritten_complete, is_whole)
