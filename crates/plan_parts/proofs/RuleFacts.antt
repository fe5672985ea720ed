-- What holds of the device of a coil rule, and so of each device of the machine text that is no ball device.
use Rattle.std.proofs.{Common.{rules, ◌≡◌, ℕ, ◌≤◌, List, length}, lemmas.List.Elements.{All-nil, All-cons}}
use Rattle.std.specs.{Prelude.{Option, None, Some, IfSome}, List.All}
use Rattle.mpf_sections.specs.{declared.coil_rules.RuleKind.RuleKind, Rows.{WrittenName, Entry, SectionRows}}
use Rattle.mpf_sections.{specs.{Named.{IsName, IsNamedEntry}, Short.IsShortEntry}, proofs.CoilRows.coil_rule_named}
use Rattle.mpf_sections.specs.CoilRules.{CoilRule, coil_rule_of, IsNamedCoilRule}
use Rattle.plan_tables.specs.{Devices.{IsWithinLimits, list_count}, BallRows.IsNoBallDevice}
use Rattle.plan_parts.specs.{Effects.{disable, Effect, works}, Devices.Device, PartBounds.IsFew}
use Rattle.plan_parts.specs.{DeviceEntries.device_of, Parts.{Whose, first_of, machine_device}, PartBalls.IsOfNoBall}
use Rattle.plan_parts.specs.CoilEntries.{defaults_called, own_pulse, own_hold, rule_lists, rule_settings}
use Rattle.plan_parts.specs.CoilEntries.{named_switches, coil_rule_device, rule_device_of}
use Rattle.plan_parts.{specs.PartNames.{IsOfNames, IsFitEffect, IsFitDevice}, proofs.NamedFacts.{device_fit, fit_rule}}
use Rattle.plan_parts.proofs.DeviceFacts.{IsPlain, IsSound, IsShared, any_written, device_shared}

-- ---- coil rules

-- what holds of all that may be done with the coils of a coil rule holds of all its effects
module _ (Q : Effect → Type 0) (machine : List SectionRows) where
  pub all_of_rule : (coil : WrittenName) (hold : Option WrittenName) (kind : RuleKind)
      → (let c = defaults_called machine coil.text in
      Q (works coil.text (own_pulse c)) × Q (works coil.text (own_hold c)) × Q (works coil.text disable))
      → IfSome hold (λ w. Q (works w.text (own_hold (defaults_called machine w.text))))
      → IfSome hold (λ w. Q (works w.text disable)) → All (All Q) (rule_lists machine coil hold kind)
  all_of_rule coil x1 x2 own held disabled = search rules

-- what holds of its switch, if it has one, holds of all to which it listens
pub all_switches : (P : List ℕ → Type 0) (o : Option WrittenName) → IfSome o (λ w. P w.text) → All P (named_switches o)
all_switches P x1 h = search (rules, All-cons, All-nil)

-- the device of a coil rule has nothing to do with balls
plain_rule : (machine : List SectionRows) (r : CoilRule) → IsPlain (coil_rule_device machine r)
plain_rule machine r =
    record {
      settings = no_ball r.form.kind;
      lists = all_of_rule IsOfNoBall machine r.coil r.hold_coil r.form.kind (tt, tt, tt) (any_written r.hold_coil)
          (any_written r.hold_coil);
      listens = at_most_one r.switch;
    }
  where
    no_ball : (kind : RuleKind) → IsNoBallDevice (rule_settings kind)
    no_ball x1 = search rules

    at_most_one : (o : Option WrittenName) → length (named_switches o) ≤ 1
    at_most_one x1 = search rules

-- what holds of the device of a coil rule, or else of another, holds of the first of the two
first_such : (R : Device → Type 0) (machine : List SectionRows) (rule : Option CoilRule) (other : Option Device)
    → IfSome rule (λ r. R (coil_rule_device machine r)) → IfSome other R
    → IfSome (first_of (rule_device_of machine rule) other) R
first_such R machine None other h k = k
first_such R machine (Some r) other h k = h

module _ (S Short : Type 0) where
  -- what holds of each device of the machine text that is no ball device
  pub record IsRule (d : Device) : Type 0 where
    pub sound : IsSound S Short d
    pub plain : IsPlain d

  sound_rule : (machine : List SectionRows) (r : CoilRule) → IsSound S Short (coil_rule_device machine r)
  sound_rule machine r = record {
    count = λ s. count r.form.kind;
    lists = λ s. few r.hold_coil r.form.kind;
    limits = λ s. limits r.form.kind;
  }
    where
      count : (kind : RuleKind) → length (rule_lists machine r.coil r.hold_coil kind) ≡ list_count (rule_settings kind)
      count x1 = search rules

      few : (hold : Option WrittenName) (kind : RuleKind) → All IsFew (rule_lists machine r.coil hold kind)
      few x1 x2 = search (rules, All-cons, All-nil)

      limits : (kind : RuleKind) → IsWithinLimits (rule_settings kind)
      limits x1 = search rules

  is_rule : (machine : List SectionRows) (rule : Option CoilRule)
      → IfSome rule (λ r. IsRule (coil_rule_device machine r))
  is_rule machine None = tt
  is_rule machine (Some r) = record { sound = sound_rule machine r; plain = plain_rule machine r }

  of_any : (o : Option Device) → IfSome o (IsShared S Short) → IfSome o IsRule
  of_any None is = tt
  of_any (Some d) is = record { sound = is.sound; plain = is.plain }

  pub machine_rule : (e : Entry) → (Short → IsShortEntry 1024 e) → (machine : List SectionRows) (whose : Whose)
      (section : List ℕ) → IfSome (machine_device machine whose section e) IsRule
  machine_rule e short machine whose section =
      first_such IsRule machine (coil_rule_of section e) (device_of section e)
      (is_rule machine (coil_rule_of section e))
      (of_any (device_of section e) (device_shared S Short e short section))

module _ (P : List ℕ → Type 0) (of : IsOfNames P) where
  fit_coil_rule : (machine : List SectionRows) (r : CoilRule) → IsNamedCoilRule r
      → IsFitDevice P (coil_rule_device machine r)
  fit_coil_rule machine r h =
      record {
        listens = all_switches IsName r.switch h.switch;
        event_acts = fit_rule P of r.enables r.disables h.enables h.disables;
        other_mentions = All-nil P;
        lists = all_of_rule (IsFitEffect P) machine r.coil r.hold_coil r.form.kind (h.coil, h.coil, h.coil) h.hold_coil
            h.hold_coil;
      }

  fit_if : (machine : List SectionRows) (rule : Option CoilRule) → IfSome rule IsNamedCoilRule
      → IfSome rule (λ r. IsFitDevice P (coil_rule_device machine r))
  fit_if machine None h = tt
  fit_if machine (Some r) h = fit_coil_rule machine r h

  pub machine_fit : (e : Entry) → IsNamedEntry e → (machine : List SectionRows) (whose : Whose) (section : List ℕ)
      → IfSome (machine_device machine whose section e) (IsFitDevice P)
  machine_fit e h machine whose section =
      first_such (IsFitDevice P) machine (coil_rule_of section e) (device_of section e)
      (fit_if machine (coil_rule_of section e) (coil_rule_named section e h)) (device_fit P of e h section)
