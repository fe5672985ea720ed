-- Kinds: what the value of a setting has to be, and what applies if a text is left out.
use Rattle.std.specs.Prelude.{ℕ, ℤ, Bool, nat_le, ◌&&◌, List}
use Rattle.setting_values.specs.Values.{Plain}

-- what a text is to be
pub data Scalar : Type 0 where
  a_flag : Scalar
  number_within : ℤ → ℤ → Scalar
  time_within : ℕ → ℕ → Scalar
  a_power : Scalar
  one_of : List (List ℕ) → Scalar
  a_name : Scalar
  an_event : Scalar

-- how many items a list is to have
pub data Bounds : Type 0 where
  at_least : ℕ → Bounds
  between : ℕ → ℕ → Bounds

abbrev pub fits : Bounds → ℕ → Bool
fits (at_least least) n = nat_le least n
fits (between least greatest) n = nat_le least n && nat_le n greatest

-- what holds if nothing is written, or that something has to be
pub data Absent (V : Type 0) : Type 0 where
  mandatory : Absent V
  default : V → Absent V

-- a line of a table: a key, of which kind its value is, and what holds without it
pub record KeyRule (K V : Type 0) : Type 0 where
  pub key : List ℕ
  pub kind : K
  pub absent : Absent V

-- a key of a map in a list, or of the map that belongs to a name
abbrev pub Field : Type 0
Field = KeyRule Scalar Plain

-- What the value of a setting is to be: a text; a list of names, of posted events or of handled events; steps, each a
-- list of handled events; a list of maps, in which other keys are ignored or not; such a list in which the first field
-- of each map is its name, and no two have the same one; or a map of names, each with a map, or with one text that
-- stands for the value of the field at this place.
pub data Kind : Type 0 where
  single : Scalar → Kind
  name_list : Bounds → Kind
  post_list : Bounds → Kind
  event_list : Bounds → Kind
  step_list : Bounds → Kind
  map_list : List Field → Bool → Bounds → Kind
  named_maps : List Field → Bool → Bounds → Kind
  keyed_maps : List Field → ℕ → Scalar → Kind
