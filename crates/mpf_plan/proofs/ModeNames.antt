-- The names of the events of modes: no two events of modes have one name.
use Rattle.std.proofs.Common.{rules, ◌≡◌, ℕ, ◌+◌, ◌==◌, List, ◌++◌, cond, get_or, reverse, codes, sym, ◌∙◌, ap}
use Rattle.std.proofs.lemmas.List.{reverse-append, append_cancel_left, append_cancel_right}
use Rattle.plan_tables.specs.declared.entries.ModeEvent.{ModeEvent}
use Rattle.plan_tables.specs.declared.entries.ModeEvent.TheVariants.{WillStart, Starting, Started, Stopping, Stopped}
use Rattle.plan_parts.specs.Effects.{event_ending, mode_event_name}

-- The last byte of a name and the fourth from the end, added, differ for each of the five events.
abbrev mark_of : List ℕ → ℕ
mark_of name = get_or (reverse name) 0 0 + get_or (reverse name) 3 0

abbrev mark : ModeEvent → ℕ
mark WillStart = 232
mark Starting = 219
mark Started = 214
mark Stopping = 215
mark Stopped = 212

-- the event of a mark
abbrev marked : ℕ → ModeEvent
marked n =
    cond (n == 232) WillStart (cond (n == 219) Starting (cond (n == 214) Started (cond (n == 215) Stopping Stopped)))

ending_marked : (which : ModeEvent) → marked (mark which) ≡ which
ending_marked x1 = search rules

mark_by : (before : List ℕ) (which : ModeEvent) → mark_of (before ++ event_ending which) ≡ mark which
mark_by before x2 = search (rules, get_or, reverse-append)

module _ (which other : ModeEvent) (a b : List ℕ) (same : mode_event_name which a ≡ mode_event_name other b) where
  -- of one name there is one event
  pub same_which : which ≡ other
  same_which =
      sym (ending_marked which)
      ∙ ap marked (sym (mark_by (codes "mode_" ++ a) which) ∙ ap mark_of same ∙ mark_by (codes "mode_" ++ b) other)
      ∙ ending_marked other

  -- and one mode
  pub same_mode : a ≡ b
  same_mode = search (rules, append_cancel_left, append_cancel_right, same_which)
