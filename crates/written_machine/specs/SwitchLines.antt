-- What a trace says of switches: when each was accepted as active or inactive.
use Rattle.std.specs.{Prelude.{◌≡◌, ℕ, ◌==◌, Bool, not, if◌then◌else◌, List, [], ◌∷◌}, List.flat_map}
use Rattle.plan_tables.specs.declared.entries.SwitchId.{SwitchId}
use Rattle.written_machine.specs.declared.line.{Line.Line, Happening.Happening}
use Rattle.written_machine.specs.declared.line.Happening.TheVariants as lines

-- that a switch was accepted as active or inactive, and when
pub record LevelChange : Type 0 where
  pub at : ℕ
  pub active : Bool

abbrev pub change_at : SwitchId → ℕ → Happening → List LevelChange
change_at n moment (lines.Switch m active) = if m.0 == n.0 then record { at = moment; active = active } ∷ [] else []
change_at n moment _ = []

-- the changes of a switch that a trace has, in order
abbrev pub changes_of : SwitchId → List Line → List LevelChange
changes_of n trace = flat_map (λ l. change_at n l.moment l.happening) trace

-- Changes lead from one level to another: each is to the other level than the one before it.
abbrev pub LeadTo : Bool → List LevelChange → Bool → Type 0
LeadTo before [] now = now ≡ before
LeadTo before (c ∷ later) now = (c.active ≡ not before) × LeadTo c.active later now
