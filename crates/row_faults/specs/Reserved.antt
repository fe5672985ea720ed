-- Events that no row may post, and what rows post.
use Rattle.std.specs.{Prelude.{ℕ, Bool, ◌||◌, List, [], ◌∷◌, ◌++◌, map, filter, codes}, List.flat_map}
use Rattle.yaml_subset.specs.Keys.{is_among}
use Rattle.section_tables.specs.Shapes.{Setting}
use Rattle.mpf_tables.specs.SectionTables as tables
use Rattle.mpf_sections.specs.Rows.{WrittenName, Switch, EventPlayer, BlockEvents, CounterEntry, StepBlock, SectionRows}
use Rattle.mpf_config.specs.Rows.{Rows}
use Rattle.machine_definitions.specs.GameEvents.{reserved_game_events}
use Rattle.mpf_sections.specs.Typed.{switches_in, event_players_in, counters_in, accruals_in, sequences_in}
use Rattle.mpf_sections.specs.Typed.{listed_modes}
use Rattle.row_faults.specs.AsWritten.{as_written}

-- ---- reserved events

-- the five events of a mode of this name
abbrev pub mode_events : List ℕ → List (List ℕ)
mode_events mode =
    (codes "mode_" ++ mode ++ codes "_will_start") ∷ (codes "mode_" ++ mode ++ codes "_starting")
    ∷ (codes "mode_" ++ mode ++ codes "_started") ∷ (codes "mode_" ++ mode ++ codes "_stopping")
    ∷ (codes "mode_" ++ mode ++ codes "_stopped") ∷ []

-- the events of modes of these names
abbrev pub events_of_modes : List (List ℕ) → List (List ℕ)
events_of_modes modes = flat_map mode_events modes

-- the names of the modes: of those that the machine text lists, whether they have a text or not, and of those that have
-- one
abbrev pub mode_names : Rows → List (List ℕ)
mode_names rows = map (λ w. w.text) (listed_modes rows.machine) ++ map (λ m. m.name) rows.modes

-- whether a name is one of an event of a game, or one of these events of modes
abbrev pub is_reserved_by : List (List ℕ) → List ℕ → Bool
is_reserved_by modes name = is_among reserved_game_events name || is_among modes name

-- The events of each mode are reserved.
abbrev pub is_reserved : Rows → List ℕ → Bool
is_reserved rows name = is_reserved_by (events_of_modes (mode_names rows)) name

-- ---- posts as written

-- what a switch posts besides its own events, when it becomes active and when it becomes inactive
abbrev pub switch_posts : Switch → List WrittenName
switch_posts s =
    as_written tables.switches s.order ((codes "events_when_activated", s.activation_events)
    ∷ (codes "events_when_deactivated", s.deactivation_events) ∷ [])

abbrev pub player_posts : EventPlayer → List WrittenName
player_posts p = p.posts

-- what a block posts in place of its own when it is hit, and when it completes
abbrev pub block_posts : List Setting → List ℕ → BlockEvents → List WrittenName
block_posts table order b = as_written table order
    ((codes "events_when_hit", b.hit) ∷ (codes "events_when_complete", b.complete) ∷ [])

abbrev pub counter_posts : CounterEntry → List WrittenName
counter_posts c = block_posts tables.counters c.order c.block

abbrev pub step_posts : StepBlock → List WrittenName
step_posts s = block_posts tables.step_blocks s.order s.block

-- what a section posts, entry by entry as written
abbrev pub posts_in : SectionRows → List WrittenName
posts_in s =
    flat_map switch_posts (switches_in s) ++ flat_map player_posts (event_players_in s)
    ++ flat_map counter_posts (counters_in s)
    ++ flat_map step_posts (accruals_in s) ++ flat_map step_posts (sequences_in s)

-- what the sections of a text post
abbrev pub posts_of : List SectionRows → List WrittenName
posts_of sections = flat_map posts_in sections

-- of these posts the reserved ones
abbrev pub reserved_among : List (List ℕ) → List WrittenName → List WrittenName
reserved_among modes posts = filter (λ w. is_reserved_by modes w.text) posts
