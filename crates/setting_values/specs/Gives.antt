-- What the readers of values answer, by the kinds of the program.
use Rattle.std.specs.{Prelude.{ℕ, List, Result, ◌≡◌, Option}, Global.Vec}
use Rattle.yaml_subset.specs.{declared.tree.Tree.Tree, Node.Pair, View.node_view}
use Rattle.setting_values.specs.declared.{values.Name.Name, nodes.MapPairs.MapPairs}
use Rattle.setting_values.specs.{Values.{WrittenName, Plain, Value}, Below.pairs_below}
use Rattle.config_faults.specs.declared.{fault.ConfigFault.ConfigFault, spot.Spot.Spot}
use Rattle.config_faults.specs.Faults.{RowsFault, GivesRows, spot_view}
use Rattle.setting_values.specs.View.{names_view, plain_view, value_view, pairs_in_view}
use Rattle.setting_values.specs.declared.values.Plain as plains
use Rattle.setting_values.specs.declared.values.Value as values
use Rattle.setting_values.specs.declared.kinds.{Scalar.Scalar, Kind.Kind, Bounds.Bounds}
use Rattle.setting_values.specs.Reading.{expect, give, scalar_of, written_in, listed_at, value_at}
use Rattle.setting_values.specs.KindView.{scalar_view, bounds_view, kind_view}

-- ---- answers: what reading gives, which is a value or the first fault, unless memory ran out

-- the answer is the names that are read
abbrev pub GivesNames : Result (Vec Name) ConfigFault → Result (List WrittenName) RowsFault → Type 0
GivesNames answer read = GivesRows names_view answer read

-- the answer is the pairs of a mapping
abbrev pub GivesPairs : Result MapPairs ConfigFault → Result (List Pair) RowsFault → Type 0
GivesPairs answer read = GivesRows pairs_in_view answer read

-- the answer is the value of a setting that is read
abbrev pub GivesValue : Result values.Value ConfigFault → Result Value RowsFault → Type 0
GivesValue answer read = GivesRows value_view answer read

-- ---- nodes and items: what reading gives, whose faults stand at a spot

-- the pairs of a mapping
abbrev pub read_pairs : Spot → Tree → Result (List Pair) RowsFault
read_pairs spot tree = expect (spot_view spot) (pairs_below (node_view tree))

-- the names in a list
abbrev pub read_listed_names : Spot → ℕ → Bounds → Tree → Result (List WrittenName) RowsFault
read_listed_names spot most bounds value =
    listed_at written_in most (bounds_view bounds) (spot_view spot) (node_view value)

-- ---- texts

-- a value is what a text says, or nothing if it says nothing
abbrev pub IsPlainSaid : Option plains.Plain → Option Plain → Type 0
IsPlainSaid value value_read = give plain_view value ≡ value_read

-- what a text at a line says that is to be of this kind
abbrev pub scalar_said : Scalar → ℕ → List ℕ → Option Plain
scalar_said kind line text = scalar_of (scalar_view kind) line text

-- ---- settings

-- the value of a setting of this kind
abbrev pub read_value : Spot → Kind → Tree → Result Value RowsFault
read_value spot kind tree = value_at (kind_view kind) (spot_view spot) (node_view tree)
