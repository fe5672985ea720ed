-- What a table by keys says: where a key is, and what applies if a text is left out.
use Rattle.std.specs.Prelude.{ℕ, suc, ◌+◌, Bool, true, false, if◌then◌else◌, List, [], ◌∷◌, Option, Some, None}
use Rattle.std.specs.Str.{bytes_eq}
use Rattle.setting_values.specs.{Values.{Plain, nothing}, Kinds.{Absent, mandatory, default, Field}}

-- the place of the first row with this key, and the row
abbrev pub behind_one : {T : Type 0} → Option (ℕ × T) → Option (ℕ × T)
behind_one None = None
behind_one (Some p) = Some (suc p.0, p.1)

abbrev pub found_in : {T : Type 0} → (T → List ℕ) → List ℕ → List T → Option (ℕ × T)
found_in key_of key [] = None
found_in key_of key (s ∷ ss) = if bytes_eq (key_of s) key then Some (0, s) else behind_one (found_in key_of key ss)

-- what is found, if the first row has the number i
abbrev pub shift : {T : Type 0} → ℕ → Option (ℕ × T) → Option (ℕ × T)
shift i None = None
shift i (Some p) = Some (i + p.0, p.1)

abbrev pub field_key : Field → List ℕ
field_key f = f.key

-- what holds if nothing is written; nothing if something has to be
abbrev pub plain_default : Absent Plain → Plain
plain_default mandatory = nothing
plain_default (default x) = x

abbrev pub field_default : Field → Plain
field_default f = plain_default f.absent

-- whether nothing is written that has to be
abbrev pub plain_lacks : Absent Plain → Plain → Bool
plain_lacks mandatory nothing = true
plain_lacks _ _ = false

abbrev pub field_lacks : Field → Plain → Bool
field_lacks f = plain_lacks f.absent
