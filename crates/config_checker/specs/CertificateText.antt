-- The text of a certificate.
use Rattle.std.specs.Prelude.{◌≡◌, ◌⊎◌, ℕ, Option, None, Some, List, [], ◌∷◌, ◌++◌, codes}
use Rattle.std.specs.{List.{zip, flat_map}, Fmt.decimal}
use Rattle.plan_tables.specs.{declared.table.Table.TheVariants.Switches, Limits.entry_names}
use Rattle.cascade_rank.specs.{Events.weight_of, Weights.switch_costs}
use Rattle.written_machine.specs.CheckedView.{CheckedView}

-- names, each with a number
abbrev pub NumberedName : Type 0
NumberedName = List (List ℕ × ℕ)

-- A bound, and the events, by name, with their weights. Version 2 also states the switches, by name, with their costs;
-- version 1 has `None`.
pub record Certificate : Type 0 where
  pub bound : ℕ
  pub switches : Option NumberedName
  pub events : NumberedName

-- `WORD NAME NUMBER`, and LF
abbrev pub numbered_line : List ℕ → List ℕ × ℕ → List ℕ
numbered_line word s = word ++ codes " " ++ s.0 ++ codes " " ++ decimal s.1 ++ 10 ∷ []

-- such a line for each, in order
abbrev pub numbered_lines : List ℕ → NumberedName → List ℕ
numbered_lines word all = flat_map (numbered_line word) all

-- `bound N`, and LF
abbrev pub bound_line : ℕ → List ℕ
bound_line bound = codes "bound " ++ decimal bound ++ 10 ∷ []

-- the first line
abbrev pub heading_of : Option NumberedName → List ℕ
heading_of None = codes "pinball-certificate 1"
heading_of (Some switches) = codes "pinball-certificate 2"

-- the lines of the switches; version 1 has none
abbrev pub switch_lines : Option NumberedName → List ℕ
switch_lines None = []
switch_lines (Some switches) = numbered_lines (codes "switch") switches

-- the heading, the bound, the switches, and the events
abbrev pub text_of : Certificate → List ℕ
text_of c = heading_of c.switches ++ 10 ∷ [] ++ bound_line c.bound ++ switch_lines c.switches
    ++ numbered_lines (codes "event") c.events

-- the certificate of what was accepted: each switch of the plan with its cost at the weights, and each event with its
-- weight, in the order of their numbers
abbrev pub certificate_of : CheckedView → Certificate
certificate_of c = record {
  bound = c.bound;
  switches = Some (zip (entry_names c.plan Switches) (switch_costs c.plan (weight_of c.weights)));
  events = zip c.plan.events c.weights;
}

-- the lines of the switches with their costs, of what was accepted
abbrev pub cost_lines : CheckedView → List ℕ
cost_lines c = numbered_lines (codes "switch")
    (zip (entry_names c.plan Switches) (switch_costs c.plan (weight_of c.weights)))

-- the lines of the events with their weights
abbrev pub weight_lines : CheckedView → List ℕ
weight_lines c = numbered_lines (codes "event") (certificate_of c).events

-- a certificate as version 1 has it
abbrev pub as_version_1 : Certificate → Certificate
as_version_1 c = record { bound = c.bound; switches = None; events = c.events }

-- the text that is written, of version 2
abbrev pub certificate_text : CheckedView → List ℕ
certificate_text c = text_of (certificate_of c)

-- the text is that of the certificate, in version 2 or in version 1
abbrev pub IsCertificateText : CheckedView → List ℕ → Type 0
IsCertificateText c text = (text ≡ certificate_text c) ⊎ (text ≡ text_of (as_version_1 (certificate_of c)))
