-- Lists that are read element by element, up to the first fault.
use Rattle.std.proofs.Common.{rules, ◌≡◌, List, [], ◌∷◌, ◌++◌, Result, Ok, Err, refl, ap, append_assoc}
use Rattle.config_faults.specs.declared.fault.ConfigFault.{ConfigFault}
use Rattle.mpf_config.specs.{Rows.RowsFault, View.FailsRows}
use Rattle.setting_values.specs.Reading.{◌>>=◌, each_read}

-- what was read before, and what is still read
abbrev pub with_front : {B : Type 0} → List B → Result (List B) RowsFault → Result (List B) RowsFault
with_front front read = read >>= λ ys. Ok (front ++ ys)

-- nothing was read before the whole
pub at_start : {B : Type 0} (read : Result (List B) RowsFault) → with_front [] read ≡ read
at_start read = search rules

regroup : {B : Type 0} (front : List B) (y : B) (read : Result (List B) RowsFault)
    → with_front front (read >>= λ ys. Ok (y ∷ ys)) ≡ with_front (front ++ y ∷ []) read
regroup {B} front y (Ok ys) = ap (λ (zs : List B). Ok zs) (simp append_assoc)
regroup front y (Err f) = refl

module _ {A B : Type 0} (f : A → Result B RowsFault) (front : List B) (x : A) (xs all : List A)
    (total : Result (List B) RowsFault) where
  -- an element that is read
  pub goes_on : (y : B) → all ≡ x ∷ xs → f x ≡ Ok y → with_front front (each_read f all) ≡ total
      → with_front (front ++ y ∷ []) (each_read f xs) ≡ total
  unfolding each_read
  goes_on y e h so_far = search (rules, regroup)

  -- an element that is not
  pub fails : (e : ConfigFault) → all ≡ x ∷ xs → FailsRows e (f x) → with_front front (each_read f all) ≡ total
      → FailsRows e total
  unfolding each_read
  fails e x1 h so_far = search rules

-- none is left
pub is_done : {A B : Type 0} (f : A → Result B RowsFault) (front : List B) (all : List A)
    (total : Result (List B) RowsFault)
    → all ≡ [] → with_front front (each_read f all) ≡ total → total ≡ Ok front
unfolding each_read
is_done {A} {B} f front all total none so_far = search rules
