-- Whether a ball counts at a ball switch follows from its changes alone.
use Rattle.std.proofs.Common.{rules, ◌≡◌, ℕ, zero, suc, ◌+◌, ◌<◌, ◌≤◌, Bool, true, false, not, cond, ◌&&◌, Option, Some}
use Rattle.std.proofs.Common.{None, List, [], ◌∷◌, ◌++◌, if◌then◌else◌, nat_le, refl, ◌∙◌, append-nil, arith}
use Rattle.std.{specs.List.{filter, last_or}, proofs.{lemmas.List.Folds.list_all-append, Math.Bool.and-true}}
use Rattle.plan_tables.specs.declared.devices.BallSettings.{BallSettings}
use Rattle.device_objects.specs.{declared.state.BallSwitch.BallSwitch, BallDevice.{empty, note_level}}
use Rattle.written_machine.specs.SwitchLines.{LevelChange}
use Rattle.written_machine.specs.Counted.{counts_from, is_late, not_undone, level_after, counted_level}

-- ---- one change more

filter-cond : (f : LevelChange → Bool) (b : Bool) (xs ys : List LevelChange)
    → filter f (cond b xs ys) ≡ cond b (filter f xs) (filter f ys)
filter-cond f b xs ys = search rules

-- An older change stays among those that stand (b) exactly if the later one is late (n), and then it counts (o).
kept : (p : LevelChange) (fs gs end : List LevelChange) (b n o : Bool) → fs ≡ gs ++ end → (n ≡ true → o ≡ true)
    → cond (b && n) (cond o (p ∷ fs) fs) fs ≡ cond b (cond n (p ∷ gs) gs) gs ++ end
kept p fs gs end b n o is over = search rules

last-push : (o : Option LevelChange) (xs : List LevelChange) (x : LevelChange) → last_or o (xs ++ x ∷ []) ≡ Some x
last-push o [] x = refl
last-push o (y ∷ ys) x = last-push (Some y) ys x

module _ (d : BallSettings) where
  late-over : (quick : Bool) (moment from : ℕ) (c : LevelChange) → c.at ≤ moment → is_late quick from c ≡ true
      → nat_le from moment ≡ true
  late-over quick moment from c before late = search rules

  -- Of those that stood, the ones for which the later change is late stand on, and it stands itself.
  not_undone-push : (quick : Bool) (moment : ℕ) (past : List LevelChange) (c : LevelChange) → c.at ≤ moment
      → filter (λ x. nat_le (counts_from d x) moment) (not_undone d quick (past ++ c ∷ []))
      ≡ filter (λ x. is_late quick (counts_from d x) c) (not_undone d quick past)
      ++ filter (λ x. nat_le (counts_from d x) moment) (c ∷ [])
  not_undone-push quick moment [] c before = refl
  not_undone-push quick moment (p ∷ later) c before =
      search (
        rules,
        nat_le,
        list_all-append,
        and-true,
        late-over,
        filter-cond,
        kept,
        not_undone-push quick moment later c before,
      )

  -- what counted when the later change came
  abbrev level_before : Bool → LevelChange → List LevelChange → Bool
  level_before quick c past = level_after (last_or None
      (filter (λ x. is_late quick (counts_from d x) c) (not_undone d quick past)))

  counted-push : (quick : Bool) (moment : ℕ) (past : List LevelChange) (c : LevelChange) → c.at ≤ moment
      → counted_level d quick moment (past ++ c ∷ [])
      ≡ cond (nat_le (counts_from d c) moment) c.active (level_before quick c past)
  counted-push quick moment past c before = search (rules, not_undone-push, last-push, append-nil, nat_le)

  before-normal : (c : LevelChange) (past : List LevelChange) (before : ℕ) → c.at ≡ before + 1
      → level_before false c past ≡ counted_level d false before past
  before-normal c past before is = search rules

  -- ---- a ball switch follows its changes

  -- whether a ball will count at a moment, if the level stays
  abbrev pub level_then : Bool → Option ℕ → ℕ → Bool
  level_then counted None moment = counted
  level_then counted (Some due) moment = if nat_le due moment then not counted else counted

  abbrev pub level_by : BallSwitch → ℕ → Bool
  level_by b moment = level_then b.counted b.due moment

  -- from this moment on it counts as its changes say
  pub record Follows (quick : Bool) (since : ℕ) (b : BallSwitch) (changes : List LevelChange) : Type 0 where
    pub level : (moment : ℕ) → since ≤ moment → counted_level d quick moment changes ≡ level_by b moment

  pub first-follows : (quick : Bool) → Follows quick 0 empty []
  first-follows quick = record { level = λ moment after. refl }

  -- it counts until it is due
  pub not_yet : (b : BallSwitch) (moment : ℕ) → ((due : ℕ) → b.due ≡ Some due → moment < due)
      → level_by b moment ≡ b.counted
  not_yet b moment quiet = search rules

  noted-level : (active counted : Bool) (from moment : ℕ)
      → cond (nat_le from moment) active counted
      ≡ level_then counted (if (if active then not counted else counted) then Some from else None) moment
  noted-level active counted from moment = search rules

  -- where a change comes in time: a quick switch changes when all that is due has come, a normal one before devices
  abbrev pub IsInTime : Bool → ℕ → ℕ → BallSwitch → Type 0
  IsInTime true since at b = (since ≤ at) × ((due : ℕ) → b.due ≡ Some due → at < due)
  IsInTime false since at b = (since < at) × ((due : ℕ) → b.due ≡ Some due → at ≤ due)

  counted-before : (quick : Bool) (since at : ℕ) (active : Bool) (b : BallSwitch) (past : List LevelChange)
      → IsInTime quick since at b
      → Follows quick since b past → level_before quick (record { at = at; active = active }) past ≡ b.counted
  counted-before true since at active b past in_time h = h.level at in_time.0 ∙ not_yet b at in_time.1
  counted-before false since zero active b past in_time h = absurd (let none = in_time.0 in omega arith)
  counted-before false since (suc before) active b past in_time h =
      before-normal (record { at = suc before; active = active }) past before (omega arith)
      ∙ (h.level before (let low = in_time.0 in omega arith)
      ∙ not_yet b before (λ due is. let later = in_time.1 due is in omega arith))

  pub noted-follows : (quick : Bool) (since at : ℕ) (active : Bool) (b : BallSwitch) (past : List LevelChange)
      → IsInTime quick since at b
      → Follows quick since b past → Follows quick at (note_level d active at b)
      (past ++ record { at = at; active = active } ∷ [])
  noted-follows quick since at active b past in_time h =
      search (rules, counted-push, nat_le, counted-before, noted-level)
