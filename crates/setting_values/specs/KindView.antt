-- What contracts see of the code's kinds.
use Rattle.std.specs.Prelude.{Bool, true, false, map}
use Rattle.setting_values.specs.declared.kinds.Scalar as scalars
use Rattle.setting_values.specs.declared.kinds.Scalar.TheVariants as scalar
use Rattle.setting_values.specs.declared.kinds.Bounds as bounds_of
use Rattle.setting_values.specs.declared.kinds.Bounds.TheVariants as bounds
use Rattle.setting_values.specs.declared.kinds.Others as others_of
use Rattle.setting_values.specs.declared.kinds.Others.TheVariants as others
use Rattle.setting_values.specs.declared.kinds.Absent as absents
use Rattle.setting_values.specs.declared.kinds.Absent.TheVariants as absent
use Rattle.setting_values.specs.declared.kinds.Field as fields
use Rattle.setting_values.specs.declared.kinds.Kind as kinds
use Rattle.setting_values.specs.declared.kinds.Kind.TheVariants as kind
use Rattle.setting_values.specs.Values.{Plain, nothing, flag, number, time, power, word, name, written_at}
use Rattle.setting_values.specs.Kinds.{Scalar, a_flag, number_within, time_within, a_power, one_of, a_name, an_event}
use Rattle.setting_values.specs.Kinds.{Bounds, at_least, between, Absent, mandatory, default, Field, Kind, single}
use Rattle.setting_values.specs.Kinds.{name_list, post_list, event_list, step_list, map_list, named_maps, keyed_maps}

abbrev pub scalar_view : scalars.Scalar → Scalar
scalar_view scalar.Flag = a_flag
scalar_view (scalar.Number least greatest) = number_within least greatest
scalar_view (scalar.Time least greatest) = time_within least greatest
scalar_view scalar.Power = a_power
scalar_view (scalar.Word words) = one_of (map (λ w. w.now) words.now)
scalar_view scalar.Name = a_name
scalar_view scalar.Event = an_event

abbrev pub bounds_view : bounds_of.Bounds → Bounds
bounds_view (bounds.AtLeast least) = at_least least
bounds_view (bounds.Between least greatest) = between least greatest

abbrev pub others_view : others_of.Others → Bool
others_view others.Refused = false
others_view others.Ignored = true

abbrev pub absent_view : absents.Absent → Absent Plain
absent_view absent.Required = mandatory
absent_view absent.Nothing = default nothing
absent_view (absent.Flag b) = default (flag b)
absent_view (absent.Number n) = default (number n)
absent_view (absent.Time ms) = default (time ms)
absent_view (absent.Power n) = default (power n)
absent_view (absent.Word w) = default (word w.now)
absent_view (absent.Name n) = default (name (written_at 0 n.now))

abbrev pub field_view : fields.Field → Field
field_view f = record { key = f.key.now; kind = scalar_view f.kind; absent = absent_view f.absent }

abbrev pub kind_view : kinds.Kind → Kind
kind_view (kind.One k) = single (scalar_view k)
kind_view (kind.Names b) = name_list (bounds_view b)
kind_view (kind.Posts b) = post_list (bounds_view b)
kind_view (kind.Events b) = event_list (bounds_view b)
kind_view (kind.Steps b) = step_list (bounds_view b)
kind_view (kind.Maps table o b) = map_list (map field_view table.now) (others_view o) (bounds_view b)
kind_view (kind.NamedMaps table o b) = named_maps (map field_view table.now) (others_view o) (bounds_view b)
kind_view (kind.Keyed table place short) = keyed_maps (map field_view table.now) place (scalar_view short)
