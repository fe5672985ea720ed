-- What sound rows do with coils: each deed is within the limits of a coil that an entry defines.
use Rattle.std.{proofs.Common.{rules, ◌≡◌, ℕ, List, ap}, specs.Prelude.{Some, unwrap_or}}
use Rattle.mpf_sections.specs.{declared.words.CoilAction.CoilAction, Rows.{Coil, CoilItem, SectionRows}}
use Rattle.machine_definitions.specs.Definitions.{coil_called, no_coil}
use Rattle.plan_parts.specs.Effects.{Deed, pulse, enable, disable}
use Rattle.plan_parts.specs.CoilEntries.{Defaults, defaults_of_coil, defaults_called, deed_by}
use Rattle.row_faults.specs.Sound.{IsPulseWithin, IsHoldWithin, IsCoilSuch, IsActionWithin, IsItemSound}

-- what is done with a coil is within its limits
abbrev pub IsDeedWithin : Deed → Coil → Type 0
IsDeedWithin (pulse ms power) c = IsPulseWithin c ms power
IsDeedWithin (enable power) c = IsHoldWithin c power
IsDeedWithin disable c = Unit {0}

module _ (machine : List SectionRows) where
  -- so it is with the coil of this name
  abbrev pub IsDeedSound : List ℕ → Deed → Type 0
  IsDeedSound name deed = IsCoilSuch machine name (IsDeedWithin deed)

  -- what the coil of a name says, if it is defined
  named : (name : List ℕ) (c : Coil) → coil_called machine name ≡ Some c
      → defaults_called machine name ≡ defaults_of_coil c
  named name c is = ap (λ o. defaults_of_coil (unwrap_or o no_coil)) is

  -- what is done by what the coil says is sound, if it is so for that coil
  sound : (name : List ℕ) (P : Coil → Type 0) (deed : Defaults → Deed)
      → ((c : Coil) → P c → IsDeedWithin (deed (defaults_of_coil c)) c) → IsCoilSuch machine name P
      → IsDeedSound name (deed (defaults_called machine name))
  sound name P deed gives h = search (rules, named)

  action_within : (i : CoilItem) (action : CoilAction) (c : Coil) → IsActionWithin c i action
      → IsDeedWithin (deed_by (defaults_of_coil c) i action) c
  action_within i x2 c h = search rules

  pub item_deed : (i : CoilItem) → IsItemSound machine i
      → IsDeedSound i.coil.text (deed_by (defaults_called machine i.coil.text) i i.action)
  item_deed i h = sound i.coil.text (λ c. IsActionWithin c i i.action) (λ d. deed_by d i i.action)
      (λ c within. action_within i i.action c within) h
