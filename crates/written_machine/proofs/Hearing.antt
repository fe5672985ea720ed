-- Whether a mode may be heard, read off the lines that were written and the events that wait.
use Rattle.std.proofs.Common.{◌≡◌, ℕ, ◌<◌, ◌⊎◌, inl, inr, Bool, true, false, ◌==◌, cond, List, [], ◌∷◌, ◌++◌, length}
use Rattle.std.proofs.{Common.{refl, ap, sym, subst, rules}, lemmas.List.Elements.All-from_recursion}
use Rattle.std.specs.List.{AllByRecursion}
use Rattle.plan_tables.{specs.{PlanView.{PlanView, mode_event, work_of}, Valid.IsValid}, proofs.Worked.work_found}
use Rattle.plan_tables.specs.declared.entries.{ModeId.ModeId, Owner.Owner, Work.{Work, TheVariants.{Nothing, Mode}}}
use Rattle.plan_tables.specs.declared.entries.ModeEvent.{ModeEvent, TheVariants.{WillStart, Started, Stopped}}
use Rattle.plan_tables.specs.declared.entries.Owner.TheVariants as owners
use Rattle.event_queue.specs.declared.queue.Posted.{Posted}
use Rattle.written_machine.specs.{declared.line.{Line.Line, Happening.Happening}, Silent.{IsLineOf, HasStarted}}
use Rattle.written_machine.specs.declared.line.Happening.TheVariants as lines

-- ---- what was written and what waits, as one list

-- an owner, and the work of its event
pub record Said : Type 0 where
  pub owner : Owner
  pub work : Work

abbrev pub work_written : PlanView → Happening → Work
work_written plan (lines.Event e) = work_of plan e
work_written plan _ = Nothing

abbrev pub written : PlanView → Line → Said
written plan l = record { owner = l.owner; work = work_written plan l.happening }

abbrev pub all_written : PlanView → List Line → List Said
all_written plan [] = []
all_written plan (l ∷ ls) = written plan l ∷ all_written plan ls

abbrev pub awaited : PlanView → Posted → Said
awaited plan p = record { owner = p.owner; work = work_of plan p.event }

abbrev pub all_awaited : PlanView → List Posted → List Said
all_awaited plan [] = []
all_awaited plan (p ∷ ps) = awaited plan p ∷ all_awaited plan ps

-- ---- whether a mode may be heard: from its event `started` on, and no more from `stopped` on

abbrev pub heard_at : ModeEvent → Bool → Bool
heard_at Started on = true
heard_at Stopped on = false
heard_at _ on = on

abbrev pub heard_after : ModeId → Bool → Work → Bool
heard_after m on (Mode k which) = cond (k.0 == m.0) (heard_at which on) on
heard_after m on _ = on

abbrev pub heard : ModeId → Bool → List Said → Bool
heard m on [] = on
heard m on (x ∷ xs) = heard m (heard_after m on x.work) xs

-- the mode is heard only when it may be
abbrev pub IsFine : ModeId → Bool → List Said → Type 0
IsFine m on [] = Unit {0}
IsFine m on (x ∷ xs) = (x.owner ≡ owners.Mode m → on ≡ true) × IsFine m (heard_after m on x.work) xs

pub written-push : (plan : PlanView) (ls : List Line) (l : Line)
    → all_written plan (ls ++ l ∷ []) ≡ all_written plan ls ++ written plan l ∷ []
written-push plan [] l = refl
written-push plan (k ∷ ls) l = ap (λ (xs : List Said). written plan k ∷ xs) (written-push plan ls l)

pub awaited-push : (plan : PlanView) (ps : List Posted) (p : Posted)
    → all_awaited plan (ps ++ p ∷ []) ≡ all_awaited plan ps ++ awaited plan p ∷ []
awaited-push plan [] p = refl
awaited-push plan (q ∷ ps) p = ap (λ (xs : List Said). awaited plan q ∷ xs) (awaited-push plan ps p)

pub heard-push : (m : ModeId) (on : Bool) (xs : List Said) (x : Said)
    → heard m on (xs ++ x ∷ []) ≡ heard_after m (heard m on xs) x.work
heard-push m on [] x = refl
heard-push m on (y ∷ xs) x = heard-push m (heard_after m on y.work) xs x

pub fine-push : (m : ModeId) (on : Bool) (xs : List Said) (x : Said) → IsFine m on xs
    → (x.owner ≡ owners.Mode m → heard m on xs ≡ true) → IsFine m on (xs ++ x ∷ [])
fine-push m on [] x h k = (k, tt)
fine-push m on (y ∷ xs) x h k = (h.0, fine-push m (heard_after m on y.work) xs x h.1 k)

-- ---- what a fine trace says

abbrev numbered : ℕ → ModeId
numbered n = record { 0 = n }

module _ (plan : PlanView) (valid : IsValid plan) (m : ModeId) (within : m.0 < length plan.modes) where
  -- the mode may be heard if a line of it is
  fine-at : (on : Bool) (before : List Line) (line : Line) (after : List Line)
      → IsFine m on (all_written plan (before ++ line ∷ after)) → line.owner ≡ owners.Mode m
      → heard m on (all_written plan before) ≡ true
  fine-at on [] line after h is = h.0 is
  fine-at on (l ∷ before) line after h is =
      fine-at (heard_after m on (work_written plan l.happening)) before line after h.1 is

  abbrev event_in : Work → ModeEvent
  event_in (Mode k which) = which
  event_in _ = WillStart

  abbrev number_in : Work → ℕ
  number_in (Mode k which) = k.0
  number_in _ = 0

  work-heard : (on : Bool) (w : Work) → heard_after m on w ≡ true
      → (w ≡ Mode m Started) ⊎ ((on ≡ true) × (w ≡ Mode m Stopped → ⊥))
  work-heard on w h = search rules

  started_line : (h : Happening) → work_written plan h ≡ Mode m Started → h ≡ lines.Event (mode_event plan m Started)
  started_line h is = search (rules, work_found)

  stopped_work : (h : Happening) → h ≡ lines.Event (mode_event plan m Stopped) → work_written plan h ≡ Mode m Stopped
  stopped_work h is = subst (λ (g : Happening). work_written plan g ≡ Mode m Stopped) (sym is)
      (valid.works m Stopped within)

  -- a mode that may be heard has started, or it could be heard at the beginning and has not stopped
  since : (on : Bool) (ls : List Line) → heard m on (all_written plan ls) ≡ true
      → HasStarted plan m ls ⊎ ((on ≡ true) × AllByRecursion (λ l. ¬ (IsLineOf plan m Stopped l)) ls)
  since on [] h = inr (h, tt)
  since on (l ∷ ls) h =
      elim (since (heard_after m on (work_written plan l.happening)) ls h) [
        | inl there ↦ inl
            (record {
              early = l ∷ there.early;
              start = there.start;
              late = there.late;
              parts = ap (λ (xs : List Line). l ∷ xs) there.parts;
              starts = there.starts;
              no_stop = there.no_stop;
            })
        | inr rest ↦
            elim (work-heard on (work_written plan l.happening) rest.0) [
              | inl is ↦
                  inl (record {
                    early = [];
                    start = l;
                    late = ls;
                    parts = refl;
                    starts = started_line l.happening is;
                    no_stop = All-from_recursion (λ (x : Line). ¬ (IsLineOf plan m Stopped x)) ls rest.1;
                  })
              | inr still ↦ inr (still.0, (λ is. still.1 (stopped_work l.happening is), rest.1))
            ]
      ]

  pub heard-started : (trace : List Line) → heard m false (all_written plan trace) ≡ true → HasStarted plan m trace
  heard-started trace h = search (rules, since)

  -- in a fine trace a line of a mode comes only after it has started
  pub fine-silent : (trace : List Line) → IsFine m false (all_written plan trace)
      → (before : List Line) (line : Line) (after : List Line) → trace ≡ before ++ line ∷ after
      → line.owner ≡ owners.Mode m → HasStarted plan m before
  fine-silent trace fine before line after is owner = search (rules, heard-started, fine-at)
