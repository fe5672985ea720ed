-- One line, the end, and the whole of a live run.
use Rattle.std.proofs.Common.{rules, ◌≡◌, ◌⊎◌, ℕ, ◌+◌, ◌≤◌, ◌^◌, ◌-◌, Bool, true, false, Option, Some, None, Result, Ok}
use Rattle.std.proofs.Common.{Err, IfOk, IfErr, OnOk, take, min, List, [], ◌∷◌, ◌++◌, length, map, inl, inr, refl, ap}
use Rattle.std.proofs.{Common.{sym, ◌∙◌, subst, append_assoc, append-nil, option_map}, KnownBytes.Appends-trans}
use Rattle.std.specs.{Io.KnownBytes.{Appends, Keeps, append_known}, Result.is_err, Str.Lines.lines}
use Rattle.plan_tables.specs.{PlanView.PlanView, declared.entries.CoilId.CoilId}
use Rattle.written_machine.specs.{Machine.{Machine, initial}, CheckedView.CheckedView}
use Rattle.coil_driver.specs.{Board.{BoardView, commands_of, TellsMore}, ShutDown.ArePutOff}
use Rattle.pin_rig.specs.{Rig.RigView, Steps.at_rest}
use Rattle.trace_lines.{specs.LineText.off_texts, proofs.Pages.written-out}
use Rattle.pinball_shell.specs.declared.{fault.{ShellFault.ShellFault, Verdict.Verdict}, play.Stop.Stop}
use Rattle.pinball_shell.specs.declared.fault.ShellFault.TheVariants.{NoMemory, Read, Write, TooLong, WrongDevice}
use Rattle.pinball_shell.specs.declared.play.Stop.TheVariants as stops
use Rattle.pinball_shell.specs.declared.fault.Verdict.TheVariants as verdicts
use Rattle.pinball_shell.specs.{LogPlayers.board_refusal, LogText.meaning, RunOfLog.trace_in}
use Rattle.pinball_shell.specs.TraceText.{printed_texts, refused_text, log_verdict}
use Rattle.pinball_shell.specs.Played.{GoesOrHalts, IsLinePlayed, IsLinePlayedToFault, IsShutDown}
use Rattle.pinball_shell.specs.RunOfLog.{given_by_line, PrintedLine, Refused, printed_for_line, printed_for_lines}
use Rattle.pinball_shell.proofs.Serving.{served-tells, halted-tells, end-tells, traced-append}
use Rattle.live_machine.specs.Talk.{Talk, Told, LinkView, IfReported, HasTold, HasHeard, IsOver, HasNotHeard, Hears}
use Rattle.live_machine.specs.{Talk.{HasLongLine, longest_line}, Wires.{packed_report, with_told}}
use Rattle.live_machine.specs.Answers.{due_of, due_text, next_state, answer, answer_text}
use Rattle.live_machine.specs.Live.{AreAnswered, AreCutOff, HaveEnded, Answered, CutOff, AllAnswered, IfAllAnswered}
use Rattle.live_machine.specs.Live.{HasTalked, talk_of, IsLive, HasNoneLeft, IsTooLong, RunsLive, IsSent}
use Rattle.live_machine.specs.Going.{IsLineAnswered, AnswersLines, HaveGone, HaveGoneOut, HaveBroken, IsEnded}
use Rattle.live_machine.specs.Going.{HasRunLive, HasRunOut, HasRunBroken, RunsRig}
use Rattle.live_machine.proofs.Packing.{reported-then, reported-same, reported-as, packed-told, packed-kept}
use Rattle.live_machine.proofs.Going.{told-then, told-none, talked-after, talked-told}

-- ---- a line

-- a line that was played, and whose answer was told
pub line-answered : (plan : PlanView) (bound number : ℕ) (line : List ℕ) (old new : RigView) (a b : Option LinkView)
    (x y : List ℕ) (grown : Option (List ℕ)) (empty page : List ℕ) (due : Option ℕ) (v : Verdict) → empty ≡ []
    → IsLinePlayed plan bound number line old new (append_known (append_known (packed_report a) x) empty)
    (append_known grown page) v
    → Appends grown (append_known (packed_report b) y) (page ++ due_text due) → due ≡ due_of new.machine
    → IsLineAnswered plan bound number line old new (option_map (with_told x) a) (option_map (with_told y) b) v
line-answered plan bound number line old new a b x y grown empty page due v none h out next =
    let texts = printed_texts plan (printed_for_line plan bound number old.machine
    (given_by_line plan old.machine.moment (meaning line))) in
    let whole : Appends (append_known (packed_report a) x) (append_known (packed_report b) y) (texts ++ due_text due) =
    both (append_known (packed_report a) x) grown (append_known (packed_report b) y) texts empty page (due_text due)
    none h.output.text out in
    let due_is : due ≡ due_of (next_state plan bound old.machine line) = next ∙ ap due_of h.state in
    record {
      state = h.state;
      service = h.output.service;
      telling = packed-told a b x y (texts ++ due_text (due_of (next_state plan bound old.machine line)))
          (subst (λ (d : Option ℕ). Appends (append_known (packed_report a) x) (append_known (packed_report b) y)
          (texts ++ due_text d)) due_is whole);
      verdict_is = h.verdict_is;
    }
  where
    both : (first grown last : Option (List ℕ)) (text empty page more : List ℕ) → empty ≡ []
        → Appends (append_known first empty) (append_known grown page) text → Appends grown last (page ++ more)
        → Appends first last (text ++ more)
    both None grown last text empty page more nothing puts out = tt
    both (Some xs) None last text empty page more nothing puts out = absurd puts
    both (Some xs) (Some ys) None text empty page more nothing puts out = absurd out
    both (Some xs) (Some ys) (Some zs) text empty page more nothing puts out =
        out ∙ sym (append_assoc ys page more)
        ∙ ap (λ (l : List ℕ). l ++ more)
        (puts ∙ ap (λ (e : List ℕ). (xs ++ e) ++ text) nothing ∙ ap (λ (l : List ℕ). l ++ text) (append-nil xs))
        ∙ append_assoc xs text more

-- where a line was not played to its end, so it is with its answer
pub stop-goes : {T U : Type 0} (stop : Stop) (r : Result T Stop) (goes : T → Type 0) (next : U → Type 0)
    (halts : Type 0) → r ≡ Err stop → GoesOrHalts r goes halts → GoesOrHalts {T = U} (Err stop) next halts
stop-goes {T} {U} stop r goes next halts is h = by stop (subst (λ (q : Result T Stop). GoesOrHalts q goes halts) is h)
  where
    by : (s : Stop) → GoesOrHalts {T = T} (Err s) goes halts → GoesOrHalts {T = U} (Err s) next halts
    by stops.Board k = k
    by stops.Write k = tt

-- what was printed of a line up to a fault, and that it is refused, was told
pub fault-told : (plan : PlanView) (bound number : ℕ) (line : List ℕ) (old new : RigView) (a b : Option LinkView)
    (x y : List ℕ) (grown : Option (List ℕ)) (empty : List ℕ) → empty ≡ []
    → (k : IsLinePlayedToFault plan bound number line old new (append_known (append_known (packed_report a) x) empty)
    grown)
    → Appends grown (append_known (packed_report b) y) (refused_text number board_refusal)
    → IfReported (option_map (with_told x) a) (option_map (with_told y) b)
    (HasTold (printed_texts plan k.display ++ refused_text number board_refusal))
fault-told plan bound number line old new a b x y grown empty none k out =
    packed-told a b x y _ (Appends-trans (append_known (packed_report a) x) grown (append_known (packed_report b) y) _ _
    (empty-front (append_known (packed_report a) x) grown empty (printed_texts plan k.display) none k.earlier.text)
    out)
  where
    empty-front : (first last : Option (List ℕ)) (empty text : List ℕ) → empty ≡ []
        → Appends (append_known first empty) last text → Appends first last text
    empty-front None last empty text nothing h = tt
    empty-front (Some xs) None empty text nothing h = absurd h
    empty-front (Some xs) (Some ys) empty text nothing h = h ∙ ap (λ (e : List ℕ). (xs ++ e) ++ text) nothing
        ∙ ap (λ (l : List ℕ). l ++ text) (append-nil xs)

-- ---- what is heard

pub heard-line : (shows : Bool) (room line : List ℕ) (len : ℕ) (a b : Option LinkView)
    (r : Result (Option ℕ) ShellFault) (o : Option ℕ) → r ≡ Ok o → o ≡ Some len → line ≡ take len room
    → Hears shows room a b r → IfReported a b (HasHeard shows line)
heard-line shows room line len a b r o ok some is h =
    subst (λ (l : List ℕ). IfReported a b (HasHeard shows l)) (sym is)
    (subst (λ (q : Result (Option ℕ) ShellFault). Hears shows room a b q) (ok ∙ ap Ok some) h)

pub heard-none : (shows : Bool) (room : List ℕ) (a b : Option LinkView) (r : Result (Option ℕ) ShellFault)
    (o : Option ℕ) → r ≡ Ok o → o ≡ None → Hears shows room a b r → IfReported a b IsOver
heard-none shows room a b r o ok none h = subst (λ (q : Result (Option ℕ) ShellFault). Hears shows room a b q)
    (ok ∙ ap Ok none) h

pub broken-goes : (plan : PlanView) (shows : Bool) (old now : RigView) (a c : Option LinkView) (e : ShellFault)
    → (e ≡ Read) ⊎ (e ≡ TooLong) → HaveBroken plan old.checked.bound shows old now a c e
    → AnswersLines plan shows old now a c (Err e)
broken-goes plan shows old now a c e (inl is) h =
    subst (λ (f : ShellFault). AnswersLines plan shows old now a c (Err f)) (sym is)
    (subst (HaveBroken plan old.checked.bound shows old now a c) is h)
broken-goes plan shows old now a c e (inr is) h =
    subst (λ (f : ShellFault). AnswersLines plan shows old now a c (Err f)) (sym is)
    (subst (HaveBroken plan old.checked.bound shows old now a c) is h)

pub answered-same : (plan : PlanView) (first now next : RigView) (p : PlanView) → p ≡ plan → now.checked ≡ first.checked
    → (number : ℕ) (line : List ℕ) (a b : Option LinkView) (v : Verdict)
    → IsLineAnswered p now.checked.bound number line now next a b v
    → IsLineAnswered plan first.checked.bound number line now next a b v
answered-same plan first now next p same is number line a b v h =
    subst (λ (c : CheckedView). IsLineAnswered plan c.bound number line now next a b v) is
    (subst (λ (q : PlanView). IsLineAnswered q now.checked.bound number line now next a b v) same h)

-- the last line is refused, or the link has failed
pub refused-goes : (plan : PlanView) (shows : Bool) (old next : RigView) (a d : Option LinkView)
    (r : Result Verdict ShellFault) (done : Type 0)
    → (done → (v : Verdict) → v ≡ verdicts.Refused → HaveGoneOut plan old.checked.bound shows old next a d v)
    → OnOk r done → IfOk r (λ v. v ≡ verdicts.Refused) → IfErr r (λ e. e ≡ Write)
    → AnswersLines plan shows old next a d r
refused-goes plan shows old next a d (Ok v) done make written verdict failed = make written v verdict
refused-goes plan shows old next a d (Err e) done make written verdict failed =
    subst (λ (f : ShellFault). AnswersLines plan shows old next a d (Err f)) (sym failed) tt

-- ---- the end

pub machine-ended : (plan : PlanView) (rig : RigView) (last : BoardView) (a b d : Option LinkView) (x y z : List ℕ)
    → IsShutDown plan rig last (append_known (packed_report a) x) (append_known (packed_report b) y)
    → Keeps (append_known (packed_report b) y) (append_known (packed_report d) z)
    → IsEnded plan rig last (option_map (with_told x) a) (option_map (with_told z) d)
machine-ended plan rig last a b d x y z h kept = record {
  off = h.off;
  faults = h.faults;
  put_off = h.put_off;
  telling = told-none (option_map (with_told x) a) (option_map (with_told y) b) (option_map (with_told z) d) _
      (packed-told a b x y _ h.text) (packed-kept b d y z kept);
}

-- ---- the whole

module _ (plan : PlanView) (shows : Bool) (old rig : RigView) (last : BoardView) (a b c d : Option LinkView)
    (due : IfReported a b (HasTold (due_text (due_of (initial plan))))) (ending : IsEnded plan rig last c d) where
  abbrev run-of : HaveGone plan old.checked.bound shows old rig b c
      → HasRunLive plan old.checked.bound shows old last a d
  run-of course = record { rig = rig; mid = c; begun = b; due = due; course = course; ending = ending }

  none-left : (inputs : List (List ℕ)) (talk : List Talk) → IfReported b c (λ v w. lines w.remainder ≡ [])
      → HasNoneLeft a d
  none-left inputs talk none =
      reported-then a c d (λ u v. lines v.remainder ≡ []) (HasTold (off_texts plan rig.machine.moment ending.off))
      (λ u v. lines v.remainder ≡ [])
      (λ u v w p q. ap lines q.remainder ∙ p) (reported-then a b c (HasTold (due_text (due_of (initial plan))))
      (λ u v. lines v.remainder ≡ []) (λ u v. lines v.remainder ≡ []) (λ u v w p q. q) due none) ending.telling

  if-left : {inputs : List (List ℕ)} {talk : List Talk} {output : List PrintedLine}
      (end : HaveEnded plan old.checked.bound inputs old talk output rig) → IfAllAnswered end (HasNoneLeft b c)
      → IfAllAnswered end (HasNoneLeft a d)
  if-left {inputs} {talk} (Answered end) none = none-left inputs talk none
  if-left (CutOff end) none = tt

  still-long : (count : ℕ) → IsTooLong count b c → IsTooLong count a d
  still-long count (inr many) = inr many
  still-long count (inl long) =
      inl (reported-then a c d (λ u v. HasLongLine longest_line v.remainder)
      (HasTold (off_texts plan rig.machine.moment ending.off)) (λ u v. HasLongLine longest_line v.remainder)
      (λ u v w p q. subst (HasLongLine longest_line) (sym q.remainder) p)
      (reported-then a b c (HasTold (due_text (due_of (initial plan)))) (λ u v. HasLongLine longest_line v.remainder)
      (λ u v. HasLongLine longest_line v.remainder) (λ u v w p q. q) due long) ending.telling)

  broken-run : (fault : ShellFault) → HaveBroken plan old.checked.bound shows old rig b c fault
      → HasRunBroken plan old.checked.bound shows old last a d fault
  broken-run fault h =
      record {
        run = run-of h.course;
        answers_all = h.answers_all;
        long = λ is. still-long (length h.course.inputs) (h.long is);
      }

  pub rig-run : (r : Result Verdict ShellFault) → AnswersLines plan shows old rig b c r → RunsRig plan shows old a d r
  rig-run (Ok v) h =
      (last, record { run = run-of h.course; verdict_is = h.verdict_is; over = if-left h.course.end h.over })
  rig-run (Err NoMemory) h = h
  rig-run (Err WrongDevice) h = h
  rig-run (Err Read) h = (last, broken-run Read h)
  rig-run (Err TooLong) h = (last, broken-run TooLong h)
  rig-run (Err Write) h = tt

-- without memory, or with a wrong device, nothing was told
pub silent : (c : CheckedView) (shows : Bool) (board : BoardView) (a : Option LinkView) (r : Result Verdict ShellFault)
    (e : ShellFault) → r ≡ Err e → (e ≡ NoMemory) ⊎ (e ≡ WrongDevice) → RunsLive c shows board a a r
silent c shows board a r e is (inl why) = subst (RunsLive c shows board a a) (sym (is ∙ ap Err why))
    (reported-same a _ (λ v. refl))
silent c shows board a r e is (inr why) = subst (RunsLive c shows board a a) (sym (is ∙ ap Err why))
    (reported-same a _ (λ v. refl))

-- nothing is left on its way, whatever the answer is
pub is-sent : (r : Result Verdict ShellFault) (remainder : List ℕ) → remainder ≡ [] → IsSent r remainder
is-sent (Ok verdict) remainder none = none
is-sent (Err NoMemory) remainder none = tt
is-sent (Err WrongDevice) remainder none = tt
is-sent (Err Read) remainder none = none
is-sent (Err TooLong) remainder none = none
is-sent (Err Write) remainder none = tt

-- nothing was told
pub unsent : (r : Result Verdict ShellFault) (remainder : List ℕ) (e : ShellFault) → r ≡ Err e
    → (e ≡ NoMemory) ⊎ (e ≡ WrongDevice) → IsSent r remainder
unsent r remainder e is (inl why) = subst (λ (q : Result Verdict ShellFault). IsSent q remainder)
    (sym (is ∙ ap Err why)) tt
unsent r remainder e is (inr why) = subst (λ (q : Result Verdict ShellFault). IsSent q remainder)
    (sym (is ∙ ap Err why)) tt

-- no device is found to be wrong once the rig runs
pub never-wrong : (plan : PlanView) (shows : Bool) (rig : RigView) (a d : Option LinkView)
    (r : Result Verdict ShellFault) → r ≡ Err WrongDevice → RunsRig plan shows rig a d r → ⊥
never-wrong plan shows rig a d r is h = subst (RunsRig plan shows rig a d) is h

pub on-ok : {T E : Type 0} (r : Result T E) (holds : Type 0) → holds → OnOk r holds
on-ok (Ok x) holds h = h
on-ok (Err e) holds h = tt

pub was-told : {E : Type 0} (r : Result (Unit {0}) E) (done : Type 0) → is_err r ≡ false → OnOk r done → done
was-told (Ok x) done good h = h
was-told (Err e) done good h = let bad : true ≡ false = good in cc

-- the first due moment was told
pub due-told : (plan : PlanView) (s : Machine) (due : Option ℕ) (a b : Option LinkView) (x y : List ℕ) → due ≡ due_of s
    → s ≡ initial plan → Appends (append_known (packed_report a) x) (append_known (packed_report b) y) (due_text due)
    → IfReported (option_map (with_told x) a) (option_map (with_told y) b) (HasTold (due_text (due_of (initial plan))))
due-told plan s due a b x y is rest h =
    packed-told a b x y (due_text (due_of (initial plan)))
    (subst (λ (d : Option ℕ). Appends (append_known (packed_report a) x) (append_known (packed_report b) y)
    (due_text d)) (is ∙ ap due_of rest) h)

-- what a board tells once the lines have ended
gone-tells : (plan : PlanView) (bound : ℕ) (inputs : List (List ℕ)) (old : RigView) (talk : List Talk)
    (output : List PrintedLine) (new : RigView) → HaveEnded plan bound inputs old talk output new
    → TellsMore (commands_of (trace_in output)) old.board.command_list new.board.command_list
gone-tells plan bound inputs old talk output new (Answered end) = served-tells output old new end.service
gone-tells plan bound inputs old talk output new (CutOff end) =
    let display = printed_for_lines plan bound 1 end.earlier (initial plan) ++ end.display in
    subst (λ (ps : List PrintedLine). TellsMore (commands_of (trace_in ps)) old.board.command_list
    new.board.command_list)
    (sym end.printed_is)
    (subst (λ ls. TellsMore (commands_of ls) old.board.command_list new.board.command_list)
    (sym (traced-append display (Refused (length end.earlier + 1) board_refusal ∷ []) ∙ append-nil (trace_in display)))
    (halted-tells (commands_of (trace_in display)) end.command old.board end.mid new
    (served-tells display old end.mid end.service) end.halt))

module _ (c : CheckedView) (shows : Bool) (first : BoardView) (a d : Option LinkView) where
  abbrev whole : (last : BoardView) → HasRunLive c.plan c.bound shows (at_rest c first) last a d
      → IsLive c shows first last a d
  whole last h =
      let course = h.course in
      record {
        inputs = course.inputs;
        talk = course.talk;
        output = course.output;
        rig = h.rig;
        end = course.end;
        off = h.ending.off;
        faults = h.ending.faults;
        ending = h.ending.put_off;
        board = end-tells (commands_of (trace_in course.output)) _ h.ending.off h.ending.faults first h.rig.board last
            (gone-tells c.plan c.bound course.inputs (at_rest c first) course.talk course.output h.rig course.end)
            h.ending.put_off;
        talking =
            talked-told shows a h.mid d (off_texts c.plan h.rig.machine.moment h.ending.off) course.inputs
            (Told (due_text (due_of (initial c.plan))) ∷ course.talk)
            (talked-after shows a h.begun h.mid (due_text (due_of (initial c.plan))) course.inputs course.talk h.due
            course.talking) h.ending.telling;
      }

  at-rest : (r : Result Verdict ShellFault) → RunsRig c.plan shows (at_rest c first) a d r
      → RunsLive c shows first a d r
  at-rest (Ok v) (end, h) = (end, record { live = whole end h.run; verdict_is = h.verdict_is; over = h.over })
  at-rest (Err NoMemory) h = absurd h
  at-rest (Err WrongDevice) h = absurd h
  at-rest (Err Read) (end, h) = (end, record { live = whole end h.run; answers_all = h.answers_all; long = h.long })
  at-rest (Err TooLong) (end, h) = (end, record { live = whole end h.run; answers_all = h.answers_all; long = h.long })
  at-rest (Err Write) h = tt

-- a new rig with this board, of a plan that was accepted
pub new-run : (plan : PlanView) (c : CheckedView) (rig : RigView) (board : BoardView) (shows : Bool)
    (a d : Option LinkView) (r : Result Verdict ShellFault) → plan ≡ c.plan → rig ≡ at_rest c board
    → RunsRig plan shows rig a d r → RunsLive c shows board a d r
new-run plan c rig board shows a d r plan_is rest h =
    at-rest c shows board a d r
    (subst (λ (p : PlanView). RunsRig p shows (at_rest c board) a d r) plan_is
    (subst (λ (v : RigView). RunsRig plan shows v a d r) rest h))
