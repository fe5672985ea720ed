-- Which rows name what nothing has, as the program looks for it: by what the machine text defines.
use Rattle.std.specs.{Prelude.{ℕ, Bool, true, false, not, ◌||◌, is_some, List, Option, None, Some}, List.list_any}
use Rattle.mpf_config.specs.Rows.{Rows}
use Rattle.mpf_sections.specs.Rows.{SectionRows}
use Rattle.machine_definitions.specs.Definitions.{coil_called, has_switch}
use Rattle.plan_tables.specs.declared.table.Table.{Table, TheVariants.{Events, Switches, Coils, Variables}}
use Rattle.plan_rows.specs.declared.rows.Row as written
use Rattle.plan_rows.specs.View.{row_list_view}
use Rattle.plan_parts.specs.{Effects.{Effect, works}, RowViews.{machine_text, parts_from}}
use Rattle.plan_parts.specs.Parts.{Part, handler, run, device, mention, unknown}

-- the parts of these rows, which begin with the machine's
abbrev pub parts_of_rows : Rows → List written.Row → List Part
parts_of_rows definitions rows = parts_from definitions.machine machine_text (row_list_view rows)

module _ (machine : List SectionRows) where
  -- whether a name of this table has to be given, and the machine text does not: it gives names of switches and of
  -- coils
  abbrev pub lacks : Table → List ℕ → Bool
  lacks Events name = false
  lacks Switches name = not (has_switch machine name)
  lacks Coils name = not (is_some (coil_called machine name))
  lacks Variables name = false
  lacks _ name = true

  abbrev pub lacks_mention : Option (List ℕ) → Bool
  lacks_mention None = false
  lacks_mention (Some name) = lacks Switches name

  -- whether something is done with a coil that it does not define
  abbrev pub lacks_coil : Effect → Bool
  lacks_coil (works name deed) = lacks Coils name
  lacks_coil _ = false

  -- Whether a part names what nothing has. A switch or a coil is an entry of the machine text, so its own name is
  -- defined.
  abbrev pub lacks_part : Part → Bool
  lacks_part unknown = true
  lacks_part (mention table name) = lacks table name
  lacks_part (handler whose e (run effects)) = list_any lacks_coil effects
  lacks_part (device whose d) = list_any (lacks Switches) d.listens || list_any (list_any lacks_coil) d.lists
  lacks_part _ = false
