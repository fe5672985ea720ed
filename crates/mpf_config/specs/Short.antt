-- What it means that no list in the rows of a bundle has more than 1,024 items. The coils of an entry of
-- `coil_player` are such a list, and so are the variables of one of `variable_player`.
use Rattle.std.specs.List.{All}
use Rattle.mpf_sections.specs.Short.{IsShortSection}
use Rattle.mpf_config.specs.Rows.{ModeRows, Rows}

abbrev pub IsShortMode : ModeRows → Type 0
IsShortMode m = All IsShortSection m.sections

abbrev pub AreListsShort : Rows → Type 0
AreListsShort rows = All IsShortSection rows.machine × All IsShortMode rows.modes
