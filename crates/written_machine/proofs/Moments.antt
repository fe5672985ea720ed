-- In every run the lines since the latest stimulus have its moment.
use Rattle.std.{proofs.{Common.{rules, ◌≡◌, List, [], refl}, lemmas.List.Elements.{All-nil, All-push}}, specs.List.All}
use Rattle.plan_tables.specs.{PlanView.{PlanView, work_of}, declared.entries.Owner.Owner}
use Rattle.cascade_rank.specs.Cost.{Cost}
use Rattle.written_machine.specs.declared.line.{Happening.Happening, Line.Line}
use Rattle.written_machine.specs.declared.line.Happening.TheVariants as lines
use Rattle.written_machine.specs.{EventStep.{take_event, EventStep}, Machine.{Machine, initial, write}}
use Rattle.written_machine.specs.Moves.{Move, Wrote, Began, Ended, Asked, Booked as Books, do_move, Licence, MayDo}
use Rattle.written_machine.specs.Moves.{Does, TakesPart, Begins, ordinary, working}
use Rattle.written_machine.specs.Run.{Stimulus, IsAllowed, begin, moment_of, InEveryRun}
use Rattle.written_machine.proofs.Does.{start-by, stop-by, book-by, does-keeps}
use Rattle.written_machine.proofs.{Parts.{does-before, does-after, does-begin}, Keeps.{step-keeps, run-keeps}}

abbrev IsTimed : Machine → Type 0
IsTimed s = All (λ l. l.moment ≡ s.moment) s.lines

write-timed : (owner : Owner) (what : Happening) (s : Machine) → IsTimed s → IsTimed (write owner what s)
write-timed owner what s h = All-push (λ (l : Line). l.moment ≡ s.moment) s.lines
    (record { moment = s.moment; owner = owner; happening = what }) h refl

module _ (plan : PlanView) where
  timed-move : (licence : Licence) (x : Move) (s : Machine) → MayDo plan licence x → IsTimed s
      → IsTimed (do_move plan x s)
  timed-move licence (Wrote owner what) s may h = write-timed owner what s h
  timed-move licence (Began m) s may h = start-by plan m s IsTimed h h
  timed-move licence (Ended m) s may h = stop-by plan m s IsTimed h h
  timed-move licence (Asked owner command) s may h = search (rules, write-timed)
  timed-move licence (Books owner call) s may h = search (rules, book-by, write-timed)
  timed-move licence _ s may h = h

  timed-does : (licence : Licence) {c : Cost} {s t : Machine} → Does plan (MayDo plan licence) c s t → IsTimed s
      → IsTimed t
  timed-does licence d h = does-keeps plan (MayDo plan licence) IsTimed (timed-move licence) d h

  step-timed : (before : List Line) (s t : Machine) → EventStep plan s t → IsTimed s → IsTimed t
  step-timed before =
      step-keeps plan (λ earlier. IsTimed) (λ first earlier. IsTimed)
      (λ earlier first rest s is h.
      timed-does working (does-before plan (work_of plan first.event) (take_event first rest s))
      (write-timed first.owner (lines.Event first.event) (record s { waiting = rest }) h))
      (λ earlier first c s t d h. timed-does (ordinary plan (TakesPart s) ⊥) d h)
      (λ earlier first kept s h. timed-does working (does-after plan kept first.event s) h) before

  begin-timed : (before : List Line) (stimulus : Stimulus) (s : Machine) → IsAllowed plan s stimulus → s.waiting ≡ []
      → IsTimed s → IsTimed (begin plan stimulus s)
  begin-timed before stimulus s may empty h =
      timed-does (ordinary plan (Begins plan stimulus) (Unit {0})) (does-begin plan stimulus s)
      (All-nil (λ (l : Line). l.moment ≡ moment_of stimulus))

  pub timed-run : InEveryRun plan (λ stimuli trace s. All (λ l. l.moment ≡ s.moment) s.lines)
  timed-run stimuli trace s run =
      (run-keeps plan (λ before. IsTimed) step-timed begin-timed [] stimuli (initial plan) trace s run
      (All-nil (λ (l : Line). l.moment ≡ 0))).1
