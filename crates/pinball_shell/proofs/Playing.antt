-- Alarms and lines of a log that are played one after another.
use Rattle.std.proofs.Common.{rules, ◌≡◌, ℕ, ◌+◌, ◌-◌, ◌<◌, ◌≤◌, Bool, false, ◌||◌, cond, Option, Some, None, Result}
use Rattle.std.proofs.Common.{Ok, List, [], ◌∷◌, ◌++◌, length, map, take, inr, refl, ap, sym, ◌∙◌, subst, arith}
use Rattle.std.proofs.Common.{append_assoc, append-nil, length-append}
use Rattle.std.specs.{List.list_any, Io.KnownBytes.{Appends, append_known}, Str.Lines.lines}
use Rattle.std.proofs.{Math.Seq.take-append_seam, KnownBytes.Appends-trans}
use Rattle.plan_tables.specs.{PlanView.PlanView, Valid.IsValid}
use Rattle.written_machine.specs.{declared.line.Line.Line, Machine.{Machine, initial}}
use Rattle.written_machine.specs.Run.{IsNoAlarmDueBy, Stimulus, Alarm, moment_of, IsReached}
use Rattle.written_machine.specs.{NextAlarm.most_alarms, PlanOrder.settle_all}
use Rattle.written_machine.proofs.{Alarms.settled-moment, AlarmsEnd.alarms_by-none}
use Rattle.pin_rig.specs.{declared.input.StepFault.TheVariants.BoardFault, Rig.RigView}
use Rattle.pinball_shell.specs.declared.{fault.Verdict.Verdict, refusal.LogRefusal.{LogRefusal, TheVariants.Step}}
use Rattle.pinball_shell.specs.declared.fault.Verdict.TheVariants as verdicts
use Rattle.pinball_shell.specs.{LogText.meaning, Ends.after_log_lines, Played.{IsLinePlayedToFault, IsLogPlayed}}
use Rattle.pinball_shell.specs.TraceText.{refused_text, is_refused, log_verdict}
use Rattle.pinball_shell.specs.RunOfLog.{given_by_line, trace_of, all_alarms_by, with_alarms, PrintedLine, Traced}
use Rattle.pinball_shell.specs.RunOfLog.{Refused, printed_for_line, after_line, printed_for_lines}
use Rattle.pinball_shell.specs.Played.{worse_of, IsPrinted, IsPrintedToFault, IsPlayed, IsPlayedToFault, IsLinePlayed}
use Rattle.pinball_shell.proofs.{Alarms.{ComesBy, all-first, all-fewer}, Printing.fault-first}
use Rattle.trace_lines.proofs.Pages.{written-out}
use Rattle.pinball_shell.proofs.Printing.{printed-then, texts-append, played-none, played-then, played-fault}

module _ (plan : PlanView) (bound : ℕ) where
  -- some alarms are played, and those that are left complete them
  pub record AreAlarmsGoing (until : ℕ) (old now : RigView) (before after : Option (List ℕ)) (all : List Stimulus) :
      Type 0 where
    pub done : List Stimulus
    pub play : IsPlayed plan bound done old now before after
    pub whole : done ++ all_alarms_by plan bound until now.machine ≡ all
    pub moment : now.machine.moment ≤ until

  pub alarms-start : (until : ℕ) (s : RigView) (a : Option (List ℕ)) → s.faulted_coil ≡ None → s.machine.moment ≤ until
      → AreAlarmsGoing until s s a a (all_alarms_by plan bound until s.machine)
  alarms-start until s a running forward =
      record { done = []; play = played-none plan bound s a running; whole = refl; moment = forward }

  -- the next alarm is played
  module _ (valid : IsValid plan) (until : ℕ) (trace : List Line) (s t : RigView) (b c : Option (List ℕ))
      (reach : IsReached plan trace s.machine) (next : ComesBy s.machine until) where
    abbrev alarm : Stimulus
    alarm = Alarm next.at next.source

    pub alarms-fewer : IsPlayed plan bound (alarm ∷ []) s t b c
        → length (all_alarms_by plan bound until t.machine) < length (all_alarms_by plan bound until s.machine)
    alarms-fewer played =
        subst (λ (m : Machine). length (all_alarms_by plan bound until m)
        < length (all_alarms_by plan bound until s.machine)) (sym played.state)
        (all-fewer plan bound until valid trace s.machine reach next)

    pub alarms-more : IsPlayed plan bound (alarm ∷ []) s t b c
        → (old : RigView) (a : Option (List ℕ)) (all : List Stimulus) → AreAlarmsGoing until old s a b all
        → AreAlarmsGoing until old t a c all
    alarms-more played old a all h =
        let by = next.by in
        let at : t.machine.moment ≡ next.at = ap (λ (m : Machine). m.moment) played.state
        ∙ settled-moment plan bound alarm s.machine in
        let going : all_alarms_by plan bound until s.machine ≡ alarm ∷ all_alarms_by plan bound until t.machine =
        all-first plan bound until valid trace s.machine reach next
        ∙ ap (λ (m : Machine). alarm ∷ all_alarms_by plan bound until m) (sym played.state) in
        record {
          done = h.done ++ alarm ∷ [];
          play = played-then plan bound h.done (alarm ∷ []) old s t a b c h.play played;
          whole = append_assoc h.done (alarm ∷ []) (all_alarms_by plan bound until t.machine)
              ∙ sym (ap (λ (xs : List Stimulus). h.done ++ xs) going) ∙ h.whole;
          moment = omega (arith, at, by);
        }

    -- or the board has not taken a command of it
    pub alarms-fault : IsPlayedToFault plan bound (alarm ∷ []) s t b c
        → (old : RigView) (a : Option (List ℕ)) (all : List Stimulus) → AreAlarmsGoing until old s a b all
        → IsPlayedToFault plan bound all old t a c
    alarms-fault fault old a all h =
        let more = all_alarms_by plan bound until (settle_all plan bound alarm s.machine) in
        let is : (h.done ++ alarm ∷ []) ++ more ≡ all = append_assoc h.done (alarm ∷ []) more
        ∙ sym (ap (λ (xs : List Stimulus). h.done ++ xs)
        (all-first plan bound until valid trace s.machine reach next)) ∙ h.whole in
        subst (λ (xs : List Stimulus). IsPlayedToFault plan bound xs old t a c) is
        (fault-first plan bound (h.done ++ alarm ∷ []) more old t a c
        (played-fault plan bound h.done (alarm ∷ []) old s t a b c h.play fault))

  -- no alarm is due any more
  pub alarms-stop : (until : ℕ) (old s : RigView) (a b : Option (List ℕ)) (all : List Stimulus)
      → AreAlarmsGoing until old s a b all → IsNoAlarmDueBy s.machine until → IsPlayed plan bound all old s a b
  alarms-stop until old s a b all h nothing =
      let over = alarms_by-none plan bound until (most_alarms plan until s.machine) s.machine nothing in
      let same : h.done ≡ all = sym (append-nil h.done) ∙ sym (ap (λ (xs : List Stimulus). h.done ++ xs) over) ∙ h.whole
      in
      subst (λ (xs : List Stimulus). IsPlayed plan bound xs old s a b) same h.play

  -- ---- a line

  none_refused : (ls : List Line) → list_any is_refused (map Traced ls) ≡ false
  none_refused [] = refl
  none_refused (l ∷ ls) = none_refused ls

  module _ (number : ℕ) (line : List ℕ) (s : RigView) where
    line-is : (given : Result (Option Stimulus) LogRefusal) (t : RigView) (a b : Option (List ℕ)) (v : Verdict)
        → given_by_line plan s.machine.moment (meaning line) ≡ given → t.machine ≡ after_line plan bound s.machine given
        → IsPrinted plan (printed_for_line plan bound number s.machine given) s t a b
        → v ≡ log_verdict (printed_for_line plan bound number s.machine given)
        → IsLinePlayed plan bound number line s t a b v
    line-is given t a b v is state output verdict = record {
      state = subst (λ (g : Result (Option Stimulus) LogRefusal). t.machine ≡ after_line plan bound s.machine g)
          (sym is) state;
      output = subst (λ (g : Result (Option Stimulus) LogRefusal). IsPrinted plan
          (printed_for_line plan bound number s.machine g) s t a b) (sym is) output;
      verdict_is = subst (λ (g : Result (Option Stimulus) LogRefusal). v
          ≡ log_verdict (printed_for_line plan bound number s.machine g)) (sym is) verdict;
    }

    module _ (stimulus : Stimulus) (until : ℕ) (t u : RigView) (a b c : Option (List ℕ))
        (is : given_by_line plan s.machine.moment (meaning line) ≡ Ok (Some stimulus))
        (same : until ≡ moment_of stimulus) where
      pub line-played : IsPlayed plan bound (all_alarms_by plan bound until s.machine) s t a b
          → IsPlayed plan bound (stimulus ∷ []) t u b c → IsLinePlayed plan bound number line s u a c verdicts.Yes
      line-played alarms one =
          let there = subst (λ (at : ℕ). IsPlayed plan bound (all_alarms_by plan bound at s.machine) s t a b) same
          alarms in
          let both = played-then plan bound (all_alarms_by plan bound (moment_of stimulus) s.machine) (stimulus ∷ []) s
          t u a b c there one in
          let played = trace_of plan bound (with_alarms plan bound stimulus s.machine) s.machine in
          line-is (Ok (Some stimulus)) u a c verdicts.Yes is both.state both.output
          (sym (ap (λ (b : Bool). cond b verdicts.Refused verdicts.Yes) (none_refused played)))

      fault-is : IsPlayedToFault plan bound (with_alarms plan bound stimulus s.machine) s u a c
          → IsLinePlayedToFault plan bound number line s u a c
      fault-is fault = subst (λ (g : Result (Option Stimulus) LogRefusal). IsPrintedToFault plan
          (printed_for_line plan bound number s.machine g) s u a c) (sym is) fault

      -- the board has not taken a command of the stimulus
      pub line-fault : IsPlayed plan bound (all_alarms_by plan bound until s.machine) s t a b
          → IsPlayedToFault plan bound (stimulus ∷ []) t u b c → IsLinePlayedToFault plan bound number line s u a c
      line-fault alarms one =
          let there = subst (λ (at : ℕ). IsPlayed plan bound (all_alarms_by plan bound at s.machine) s t a b) same
          alarms in
          fault-is (played-fault plan bound (all_alarms_by plan bound (moment_of stimulus) s.machine) (stimulus ∷ []) s
          t u a b c there one)

      -- or of an alarm before it
      pub line-alarm_fault : IsPlayedToFault plan bound (all_alarms_by plan bound until s.machine) s u a c
          → IsLinePlayedToFault plan bound number line s u a c
      line-alarm_fault alarms = search (rules, fault-is, fault-first)

  -- ---- the lines of a log

  any-append : (xs ys : List PrintedLine) → list_any is_refused (xs ++ ys)
      ≡ (list_any is_refused xs || list_any is_refused ys)
  any-append (Traced l ∷ xs) ys = any-append xs ys
  any-append _ ys = refl

  pub verdict-append : (xs ys : List PrintedLine) → worse_of (log_verdict xs) (log_verdict ys) ≡ log_verdict (xs ++ ys)
  verdict-append xs ys = search (rules, any-append)

  -- one line more
  pub after-push : (xs : List (List ℕ)) (line : List ℕ) (s : Machine)
      → after_log_lines plan bound (xs ++ line ∷ []) s
      ≡ after_line plan bound (after_log_lines plan bound xs s)
      (given_by_line plan (after_log_lines plan bound xs s).moment (meaning line))
  after-push [] line s = refl
  after-push (x ∷ xs) line s = after-push xs line (after_line plan bound s (given_by_line plan s.moment (meaning x)))

  pub printed-push : (xs : List (List ℕ)) (line : List ℕ) (n m : ℕ) (s t : Machine) → m ≡ length xs + n
      → t ≡ after_log_lines plan bound xs s
      → printed_for_lines plan bound n (xs ++ line ∷ []) s
      ≡ printed_for_lines plan bound n xs s
      ++ printed_for_line plan bound m t (given_by_line plan t.moment (meaning line))
  printed-push [] line n m s t is at =
      let here : m ≡ n = omega (arith, is) in
      append-nil (printed_for_line plan bound n s (given_by_line plan s.moment (meaning line)))
      ∙ sym (ap (λ (u : Machine). printed_for_line plan bound m u (given_by_line plan u.moment (meaning line))) at
      ∙ ap (λ (k : ℕ). printed_for_line plan bound k s (given_by_line plan s.moment (meaning line))) here)
  printed-push (x ∷ xs) line n m s t is at =
      let given = given_by_line plan s.moment (meaning x) in
      let next = after_line plan bound s given in
      let first = printed_for_line plan bound n s given in
      ap (λ (ps : List PrintedLine). first ++ ps) (printed-push xs line (n + 1) m next t (omega (arith, is)) at)
      ∙ sym (append_assoc first (printed_for_lines plan bound (n + 1) xs next)
      (printed_for_line plan bound m t (given_by_line plan t.moment (meaning line))))

  -- these lines were played
  pub record AreLinesGoing (log : List ℕ) (old : RigView) (before : Option (List ℕ)) (number : ℕ) (rest : List ℕ)
      (now : RigView) (after : Option (List ℕ)) (verdict : Verdict) : Type 0 where
    pub earlier : List (List ℕ)
    pub log_is : lines log ≡ earlier ++ lines rest
    pub number_is : number ≡ length earlier + 1
    pub state : now.machine ≡ after_log_lines plan bound earlier (initial plan)
    pub output : IsPrinted plan (printed_for_lines plan bound 1 earlier (initial plan)) old now before after
    pub verdict_is : verdict ≡ log_verdict (printed_for_lines plan bound 1 earlier (initial plan))
    pub few : number + length rest ≤ 1 + length log

  -- none at first
  pub lines-start : (log : List ℕ) (s : RigView) (a : Option (List ℕ)) → s.faulted_coil ≡ None
      → s.machine ≡ initial plan → AreLinesGoing log s a 1 log s a verdicts.Yes
  lines-start log s a running rest = record {
    earlier = [];
    log_is = refl;
    number_is = refl;
    state = rest;
    output = (played-none plan bound s a running).output;
    verdict_is = refl;
    few = omega arith;
  }

  module _ (log : List ℕ) (old : RigView) (number : ℕ) (rest line left : List ℕ) (s t : RigView)
      (a b c : Option (List ℕ)) (v : Verdict) (h : AreLinesGoing log old a number rest s b v)
      (is : lines rest ≡ line ∷ lines left) where
    abbrev push : List (List ℕ)
    push = h.earlier ++ line ∷ []

    log-push : lines log ≡ push ++ lines left
    log-push = h.log_is ∙ ap (λ (ls : List (List ℕ)). h.earlier ++ ls) is
        ∙ sym (append_assoc h.earlier (line ∷ []) (lines left))

    abbrev printed_now : List PrintedLine
    printed_now = printed_for_line plan bound number s.machine (given_by_line plan s.machine.moment (meaning line))

    all-push : printed_for_lines plan bound 1 push (initial plan)
        ≡ printed_for_lines plan bound 1 h.earlier (initial plan) ++ printed_now
    all-push = printed-push h.earlier line 1 number (initial plan) s.machine h.number_is h.state

    pub lines-more : (w x : Verdict) → length left < length rest → IsLinePlayed plan bound number line s t b c x
        → w ≡ worse_of v x → AreLinesGoing log old a (number + 1) left t c w
    lines-more w x shorter played next =
        let before = printed_for_lines plan bound 1 h.earlier (initial plan) in
        let few = h.few in
        let count = h.number_is in
        record {
          earlier = push;
          log_is = log-push;
          number_is = omega (arith, count, length-append h.earlier (line ∷ []));
          state = played.state ∙ ap (λ (m : Machine). after_line plan bound m
              (given_by_line plan m.moment (meaning line)))
              h.state ∙ sym (after-push h.earlier line (initial plan));
          output = subst (λ (ps : List PrintedLine). IsPrinted plan ps old t a c) (sym all-push)
              (printed-then plan before printed_now old s t a b c h.output played.output);
          verdict_is =
              next ∙ ap (λ (y : Verdict). worse_of y x) h.verdict_is
              ∙ ap (worse_of (log_verdict before)) played.verdict_is ∙ verdict-append before printed_now
              ∙ sym (ap log_verdict all-push);
          few = omega (arith, few, shorter);
        }

    worse_refused : (w : Verdict) → worse_of w verdicts.Refused ≡ verdicts.Refused
    worse_refused w = refl

    -- the board has not taken a command of this line
    pub lines-fault : (d : Option (List ℕ)) (w : Verdict) → IsLinePlayedToFault plan bound number line s t b c
        → Appends c d (refused_text number (Step BoardFault)) → w ≡ verdicts.Refused
        → IsLogPlayed plan bound log old t a d w
    lines-fault d w fault text verdict =
        let before = printed_for_lines plan bound 1 h.earlier (initial plan) in
        let display = before ++ fault.display in
        let last : List PrintedLine = Refused number (Step BoardFault) ∷ [] in
        let count = h.number_is in
        let first : take (number - 1) (lines log) ≡ h.earlier =
        ap (λ (n : ℕ). take n (lines log)) (omega (arith, count)) ∙ ap (take (length h.earlier)) h.log_is
        ∙ take-append_seam h.earlier (lines rest) in
        let to_line : take number (lines log) ≡ push =
        ap (λ (n : ℕ). take n (lines log)) (omega (arith, count, length-append h.earlier (line ∷ [])))
        ∙ ap (take (length push)) log-push ∙ take-append_seam push (lines left) in
        let to_fault = printed-then plan before fault.display old s fault.mid a b c h.output fault.earlier in
        record {
          output = display ++ last;
          end = inr (record {
            line = fault.line;
            command = fault.command;
            line_is = fault.line_is;
            number = number;
            display = display;
            before = record {
              begun = fault.display;
              later = fault.later;
              shown_is = ap (λ (ls : List (List ℕ)). printed_for_lines plan bound 1 ls (initial plan) ++ fault.display)
                  (sym first);
              next_is =
                  ap (λ (ls : List (List ℕ)). printed_for_lines plan bound 1 ls (initial plan)) to_line ∙ all-push
                  ∙ ap (λ (ps : List PrintedLine). before ++ ps) fault.whole
                  ∙ sym (append_assoc before fault.display (Traced fault.line ∷ fault.later));
            };
            printed_is = refl;
            moment_is = fault.moment_is;
            mid = fault.mid;
            service = to_fault.service;
            halt = fault.halt;
          });
          text = subst (Appends a d) (sym (texts-append plan display last))
              (Appends-trans a c d _ _ to_fault.text
              (subst (Appends c d) (sym (append-nil (refused_text number (Step BoardFault)))) text));
          verdict_is = verdict ∙ sym (worse_refused (log_verdict display)) ∙ verdict-append display last;
        }

  -- what is left on the page is written
  pub log-written : (log : List ℕ) (old s : RigView) (first grown last : Option (List ℕ)) (empty page : List ℕ)
      (v : Verdict) → empty ≡ [] → Appends grown last page
      → IsLogPlayed plan bound log old s (append_known first empty) (append_known grown page) v
      → IsLogPlayed plan bound log old s first last v
  log-written log old s first grown last empty page v nothing out h = record {
    output = h.output;
    end = h.end;
    text = written-out first grown last empty page _ nothing out h.text;
    verdict_is = h.verdict_is;
  }
