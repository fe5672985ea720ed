-- A table of first names, one name more.
use Rattle.std.proofs.Common.{◌≡◌, ℕ, ◌+◌, ◌<◌, ◌≤◌, Bool, true, false, cond, inl, inr, List, [], ◌∷◌, ◌++◌, length}
use Rattle.std.proofs.Common.{Vec, Global, refl, sym, ◌∙◌, ap, subst, true≢false, arith}
use Rattle.std.specs.{Str.bytes_eq, List.{list_any, position, position_or_len}, Prelude.{Option, None, Some, unwrap_or}}
use Rattle.std.proofs.lemmas.{Bool.eq-eqb, Slice.Eq.bytes_eq-Decides}
use Rattle.std.proofs.lemmas.List.{map-append, length_push, length-map, Folds.position_or_len_push}
use Rattle.plan_tables.proofs.Places.{position_or_len-map, position-or_len}
use Rattle.plan_tables.specs.{declared.names.NameTable.NameTable, NamesKept.names_of}
use Rattle.first_names.specs.FirstNames.{with_name, IsNameTableOf}
use Rattle.yaml_bytes.proofs.Each.{any_mapped}

module _ (keys : List (Vec ℕ Global)) (name : List ℕ) where
  -- a name that is there stays where it is
  use_there : list_any (λ k. bytes_eq name k.items) keys ≡ true → with_name (names_of keys) name ≡ names_of keys
  use_there e = ap (λ b. cond b (names_of keys) (names_of keys ++ name ∷ []))
      (any_mapped (bytes_eq name) (λ v. v.items) keys ∙ e)

  -- a new one goes last
  use_new : list_any (λ k. bytes_eq name k.items) keys ≡ false
      → with_name (names_of keys) name ≡ names_of keys ++ name ∷ []
  use_new e = ap (λ b. cond b (names_of keys) (names_of keys ++ name ∷ []))
      (any_mapped (bytes_eq name) (λ v. v.items) keys ∙ e)

  length-use_new : list_any (λ k. bytes_eq name k.items) keys ≡ false
      → length (with_name (names_of keys) name) ≡ length keys + 1
  length-use_new e = ap length (use_new e) ∙ length_push (names_of keys) name
      ∙ ap (λ n. n + 1) (length-map keys (λ v. v.items))

  -- what an insert of the name leaves
  pub use_inserted : (v : Vec ℕ Global) (new : List (Vec ℕ Global)) → v.items ≡ name
      → new ≡ cond (list_any (λ k. bytes_eq v.items k.items) keys) keys (keys ++ v ∷ [])
      → names_of new ≡ with_name (names_of keys) name
  use_inserted v new same e =
      ap names_of e
      ∙ seen (list_any (λ k. bytes_eq v.items k.items) keys)
      ∙ ap (λ b. cond b (names_of keys) (names_of keys ++ v.items ∷ []))
      (sym (any_mapped (bytes_eq v.items) (λ k. k.items) keys))
      ∙ ap (λ n. with_name (names_of keys) n) same
    where
      seen : (b : Bool) → names_of (cond b keys (keys ++ v ∷ []))
          ≡ cond b (names_of keys) (names_of keys ++ v.items ∷ [])
      seen true = refl
      seen false = map-append (λ k. k.items) keys (v ∷ [])

module _ (all : List (List ℕ)) (name : List ℕ) where
  module _ (t : NameTable) (not_above : t.above ≡ false) where
    pub table_there : list_any (λ k. bytes_eq name k.items) t.set.keys ≡ true → IsNameTableOf all t
        → IsNameTableOf (with_name all name) t
    table_there there (inl (a, more)) = absurd (true≢false (sym a ∙ not_above))
    table_there there (inr (n, names, within)) =
        let same : with_name all name ≡ all = ap (λ a. with_name a name) (sym names) ∙ use_there t.set.keys name there
        ∙ names in
        inr (n, names ∙ sym same, subst (λ a. length a ≤ t.limit) (sym same) within)

    pub table_full : (new : NameTable) → new.limit ≡ t.limit → new.above ≡ true
        → list_any (λ k. bytes_eq name k.items) t.set.keys ≡ false → t.limit ≤ length t.set.keys → IsNameTableOf all t
        → IsNameTableOf (with_name all name) new
    table_full new limit is absent full (inl (a, more)) = absurd (true≢false (sym a ∙ not_above))
    table_full new limit is absent full (inr (n, names, within)) =
        let longer : length (with_name all name) ≡ length t.set.keys + 1 =
        ap (λ a. length (with_name a name)) (sym names) ∙ length-use_new t.set.keys name absent in
        inl (is, omega (arith, longer, full, limit))

    pub table_more : (new : NameTable) (v : Vec ℕ Global) → new.limit ≡ t.limit → new.above ≡ false → v.items ≡ name
        → list_any (λ k. bytes_eq name k.items) t.set.keys ≡ false → length t.set.keys < t.limit
        → new.set.keys ≡ cond (list_any (λ k. bytes_eq v.items k.items) t.set.keys) t.set.keys (t.set.keys ++ v ∷ [])
        → IsNameTableOf all t → IsNameTableOf (with_name all name) new
    table_more new v limit is same absent room added (inl (a, more)) = absurd (true≢false (sym a ∙ not_above))
    table_more new v limit is same absent room added (inr (n, names, within)) =
        let longer : length (with_name all name) ≡ length t.set.keys + 1 =
        ap (λ a. length (with_name a name)) (sym names) ∙ length-use_new t.set.keys name absent in
        inr (
          is,
          use_inserted t.set.keys name v new.set.keys same added
              ∙ ap (λ a. with_name a name) names,
          omega (arith, longer, room, limit),
        )

    -- ---- the number of the name

    abbrev is_it : Vec ℕ Global → Bool
    is_it k = bytes_eq name k.items

    found : (o : Option ℕ) → o ≡ position is_it t.set.keys
        → unwrap_or o (length t.set.keys) ≡ position_or_len (bytes_eq name) (names_of t.set.keys)
    found o is = ap (λ o. unwrap_or o (length t.set.keys)) is ∙ position-or_len is_it t.set.keys
        ∙ sym (position_or_len-map (λ k. k.items) (bytes_eq name) t.set.keys)

    pub number_there : (n : ℕ) (o : Option ℕ) → o ≡ position is_it t.set.keys → o ≡ Some n
        → list_any is_it t.set.keys ≡ true → IsNameTableOf all t
        → n ≡ position_or_len (bytes_eq name) (with_name all name)
    number_there n o is at there (inl (a, more)) = absurd (true≢false (sym a ∙ not_above))
    number_there n o is at there (inr (below, names, within)) =
        let same : names_of t.set.keys ≡ with_name all name = sym (use_there t.set.keys name there)
        ∙ ap (λ a. with_name a name) names in
        found (Some n) (sym at ∙ is) ∙ ap (position_or_len (bytes_eq name)) same

    pub number_full : (n : ℕ) → list_any is_it t.set.keys ≡ false → t.limit ≤ length t.set.keys → IsNameTableOf all t
        → length (with_name all name) ≤ t.limit → n ≡ position_or_len (bytes_eq name) (with_name all name)
    number_full n absent full (inl (a, more)) fits = absurd (true≢false (sym a ∙ not_above))
    number_full n absent full (inr (below, names, within)) fits =
        let longer : length (with_name all name) ≡ length t.set.keys + 1 =
        ap (λ a. length (with_name a name)) (sym names) ∙ length-use_new t.set.keys name absent in
        absurd (omega (arith, longer, full, fits))

    pub number_new : (n : ℕ) (o : Option ℕ) → o ≡ position is_it t.set.keys → o ≡ None
        → list_any is_it t.set.keys ≡ false → n ≡ length t.set.keys → IsNameTableOf all t
        → n ≡ position_or_len (bytes_eq name) (with_name all name)
    number_new n o is at absent last (inl (a, more)) = absurd (true≢false (sym a ∙ not_above))
    number_new n o is at absent last (inr (below, names, within)) =
        let kept : List (List ℕ) = names_of t.set.keys in
        let past : length kept ≡ position_or_len (bytes_eq name) kept = length-map t.set.keys (λ k. k.items)
        ∙ found None (sym at ∙ is) in
        let here : position_or_len (bytes_eq name) (kept ++ name ∷ []) ≡ length kept =
        position_or_len_push (bytes_eq name) kept name
        ∙ ap (λ b. cond b (length kept + cond (bytes_eq name name) 0 1) (position_or_len (bytes_eq name) kept))
        (eq-eqb (position_or_len (bytes_eq name) kept) (length kept) (sym past))
        ∙ ap (λ b. length kept + cond b 0 1) ((bytes_eq-Decides name name).1 refl)
        ∙ omega arith in
        last ∙ sym (length-map t.set.keys (λ k. k.items)) ∙ sym here
        ∙ ap (position_or_len (bytes_eq name))
        (sym (use_new t.set.keys name absent) ∙ ap (λ a. with_name a name) names)
