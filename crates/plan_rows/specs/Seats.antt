-- The row of each shot in the plan, and the row of each ball device.
use Rattle.std.specs.Prelude.{ℕ, suc, Bool, not, if◌then◌else◌, List, [], ◌∷◌, ◌++◌, map, fold, Option, None, Some}
use Rattle.std.specs.{List.{flat_map, list_any}, Str.bytes_eq}
use Rattle.yaml_subset.specs.Keys.{is_among}
use Rattle.mpf_sections.specs.Rows.{WrittenName, Entry, ShotGroup, SectionRows}
use Rattle.mpf_sections.specs.{CoilRules.coil_rule_sections, TypedSaves.{ball_saves_name, multiballs_name}}
use Rattle.mpf_sections.specs.Typed.{entries_in, counters_name, accruals_name, sequences_name, timers_name}
use Rattle.mpf_sections.specs.TypedShots.{shots_name, shot_groups_name, shot_group_of, shot_groups_in}
use Rattle.mpf_sections.specs.TypedBalls.{ball_devices_name, playfield, ball_device_of}
use Rattle.plan_rows.specs.declared.destination.Destination.{Destination, TheVariants.{Playfield, Device, Unknown}}
use Rattle.mpf_tables.specs.declared.tables.TextKind.{TextKind, TheVariants.{Machine, Mode}}

-- the entries of a section, each with the section's name, and those of a text
abbrev pub section_entries : SectionRows → List (List ℕ × Entry)
section_entries s = map (λ e. (s.name, e)) (entries_in s.content)

abbrev pub text_entries : List SectionRows → List (List ℕ × Entry)
text_entries sections = flat_map section_entries sections

-- whether a group lists a shot of this name, and whether one of the groups of a text does
abbrev pub lists_shot : List ℕ → ShotGroup → Bool
lists_shot name g = list_any (λ w. bytes_eq name w.text) g.shots

abbrev pub is_grouped : List SectionRows → List ℕ → Bool
is_grouped sections name = list_any (lists_shot name) (flat_map shot_groups_in sections)

-- the sections of a text of any kind whose entries each have a row; beside them there are shots
abbrev pub shared_row_sections : List (List ℕ)
shared_row_sections =
    counters_name ∷ accruals_name ∷ sequences_name ∷ timers_name ∷ ball_saves_name ∷ multiballs_name ∷ shot_groups_name
    ∷ []

-- those of a text of this kind
abbrev pub row_sections : TextKind → List (List ℕ)
row_sections Machine = coil_rule_sections ++ ball_devices_name ∷ shared_row_sections
row_sections Mode = shared_row_sections

-- Here `is_in_group` says of a name whether a group of the text lists the shot of this name.
module _ (place : TextKind) (is_in_group : List ℕ → Bool) where
  -- whether an entry of a text has a row: a shot has one of its own if no group of the text lists it
  abbrev pub has_row : List ℕ × Entry → Bool
  has_row e = if bytes_eq e.0 shots_name then not (is_in_group e.1.name.text) else is_among (row_sections place) e.0

  -- how many rows come before the entry after this one
  abbrev pub rows_after : ℕ → List ℕ × Entry → ℕ
  rows_after n e = if has_row e then suc n else n

  -- and after these
  abbrev pub rows_after_all : ℕ → List (List ℕ × Entry) → ℕ
  rows_after_all n es = fold rows_after n es

-- Here `give` says what an entry gives under which names, if so many rows come before it.
module _ {X : Type 0} (give : ℕ → List ℕ × Entry → List (List ℕ × X)) (place : TextKind)
    (is_in_group : List ℕ → Bool) where
  -- what these entries give, if so many rows come before them
  abbrev pub given_from : ℕ → List (List ℕ × Entry) → List (List ℕ × X)
  given_from n [] = []
  given_from n (e ∷ es) = give n e ++ given_from (rows_after place is_in_group n e) es

-- what is given under this name, or was found before; of two the later
abbrev pub latest : {X : Type 0} → List ℕ → Option X → List ℕ × X → Option X
latest name earlier x = if bytes_eq name x.0 then Some x.1 else earlier

-- what the entries of a text give under this name, if so many rows come before it
abbrev pub found_in : {X : Type 0} → (ℕ → List ℕ × Entry → List (List ℕ × X)) → TextKind → ℕ → List SectionRows → List ℕ
    → Option X
found_in give place n sections name =
    fold (latest name) None (given_from give place (is_grouped sections) n (text_entries sections))

-- ---- shots

-- The seat of a shot in a group: the number of the group's row, and that of the shot in the group.
pub record Seat : Type 0 where
  pub row : ℕ
  pub shot : ℕ

-- the seats in the row of this number that a group lists, from this seat on
abbrev pub seats_at : ℕ → ℕ → List WrittenName → List (List ℕ × Seat)
seats_at row i [] = []
seats_at row i (w ∷ ws) = (w.text, record { row = row; shot = i }) ∷ seats_at row (suc i) ws

-- the seats that an entry has, if so many rows come before it
abbrev pub entry_seats : ℕ → List ℕ × Entry → List (List ℕ × Seat)
entry_seats n e = if bytes_eq e.0 shot_groups_name then seats_at n 0 (shot_group_of e.1).shots else []

-- the seat of the shot of this name in a text, if it has one
abbrev pub seat_of : TextKind → ℕ → List SectionRows → List ℕ → Option Seat
seat_of = found_in entry_seats

-- ---- ball devices

-- the number of the row of a ball device, by its name
abbrev pub entry_ball_row : ℕ → List ℕ × Entry → List (List ℕ × ℕ)
entry_ball_row n e = if bytes_eq e.0 ball_devices_name then ((ball_device_of e.1).name.text, n) ∷ [] else []

-- the row of the ball device of this name in a text, if there is one
abbrev pub ball_row_of : TextKind → ℕ → List SectionRows → List ℕ → Option ℕ
ball_row_of = found_in entry_ball_row

abbrev pub row_or_unknown : Option ℕ → Destination
row_or_unknown None = Unknown
row_or_unknown (Some row) = Device row

-- where balls go that are ejected to what has this name: onto the playfield, or into the ball device of that name
abbrev pub destination_of : TextKind → ℕ → List SectionRows → List ℕ → Destination
destination_of place n sections name =
    if bytes_eq name playfield then Playfield else row_or_unknown (ball_row_of place n sections name)

-- ---- texts

-- how many rows come before the text after this one
abbrev pub rows_after_text : TextKind → ℕ → List SectionRows → ℕ
rows_after_text place n sections = rows_after_all place (is_grouped sections) n (text_entries sections)
