-- The laws of live runs.
use Rattle.std.proofs.Common.{rules, ◌≡◌, ◌⊎◌, ℕ, ◌+◌, ◌-◌, ◌≤◌, lit≤, Bool, true, false, cond, ◌&&◌, nat_lt, ◌==◌}
use Rattle.std.proofs.Common.{Option, Some, List, [], ◌∷◌, ◌++◌, length, take, map, inl, inr, refl, ap, sym, ◌∙◌, subst}
use Rattle.std.proofs.{Common.{arith, append_assoc, append-nil, length-append}, Math.Seq.take-append_seam}
use Rattle.std.specs.{List.{flat_map, list_all}, Io.KnownBytes.Appends, Str.Lines.lines}
use Rattle.std.proofs.lemmas.{Grind.flat_map-append, Bool.{and_parts, ltb-true, ne_eqb}}
use Rattle.plan_tables.specs.PlanView.{PlanView}
use Rattle.written_machine.specs.{Machine.{Machine, initial}, CheckedView.CheckedView}
use Rattle.coil_driver.specs.Board.{BoardView}
use Rattle.pin_rig.specs.{Rig.RigView, Steps.at_rest}
use Rattle.pinball_shell.specs.{LogText.meaning, TraceText.log_verdict, RunGiven.IsPlayOfLog}
use Rattle.pinball_shell.specs.Ends.{after_log_lines, IsEnd, IsPlayOn}
use Rattle.pinball_shell.specs.RunOfLog.{given_by_line, PrintedLine, Traced, Refused, printed_for_line}
use Rattle.pinball_shell.specs.RunOfLog.{printed_for_lines, printed_for_log, trace_in}
use Rattle.pinball_shell.proofs.{LogRuns.log_is_run, Playing.printed-push}
use Rattle.live_machine.specs.Talk.{Talk, Heard, Told, heard_text, transcript, LinkView}
use Rattle.live_machine.specs.Answers.{LineAnswer, next_state, answer, answers, answer_text, rounds}
use Rattle.live_machine.specs.Live.{AreAnswered, AreCutOff, HaveEnded, Answered, CutOff, AllAnswered, IsLive}
use Rattle.live_machine.specs.LiveLaws.{AnswersComeFirst, RoundsGoOn, AnswersArePlay, LiveIsPlay, LiveIsRun, by_lines}
use Rattle.live_machine.specs.LiveLaws.{is_of_bytes, TranscriptsLoseNothing}

-- ---- the first answers

pub answers_first : AnswersComeFirst
answers_first plan bound number [] more s = refl
answers_first plan bound number (line ∷ first) more s =
    ap (λ (xs : List LineAnswer). answer plan bound number s line ∷ xs)
    (answers_first plan bound (number + 1) first more (next_state plan bound s line))

pub rounds_go_on : RoundsGoOn
rounds_go_on plan bound number [] more s = ap (λ (n : ℕ). rounds plan bound n more s) (omega arith)
rounds_go_on plan bound number (line ∷ first) more s =
    let next = next_state plan bound s line in
    ap (λ (rs : List Talk). Heard line ∷ Told (answer_text plan (answer plan bound number s line)) ∷ rs)
    (rounds_go_on plan bound (number + 1) first more next
    ∙ ap (λ (n : ℕ). rounds plan bound (number + 1) first next
    ++ rounds plan bound n more (after_log_lines plan bound first next)) (omega arith))

-- ---- a live run is a play

pub answers_printed : (plan : PlanView) (bound number : ℕ) (ls : List (List ℕ)) (s : Machine)
    → flat_map (λ (a : LineAnswer). a.output) (answers plan bound number ls s)
    ≡ printed_for_lines plan bound number ls s
answers_printed plan bound number [] s = refl
answers_printed plan bound number (line ∷ more) s =
    ap (λ (ps : List PrintedLine). printed_for_line plan bound number s (given_by_line plan s.moment (meaning line))
    ++ ps)
    (answers_printed plan bound (number + 1) more (next_state plan bound s line))

pub answers_are_play : AnswersArePlay
answers_are_play c log = answers_printed c.plan c.bound 1 (lines log) (initial c.plan)

module _ (plan : PlanView) (bound : ℕ) (log : List ℕ) (inputs : List (List ℕ)) (is : lines log ≡ inputs) (old : RigView)
    (talk : List Talk) (output : List PrintedLine) (new : RigView) where
  answered-end : AreAnswered plan bound inputs old talk output new → IsEnd plan bound log old output new
  answered-end h = inl (record {
    printed_is = h.printed_is ∙ ap (λ (ls : List (List ℕ)). printed_for_lines plan bound 1 ls (initial plan)) (sym is);
    machine_is = h.machine_is ∙ ap (λ (ls : List (List ℕ)). after_log_lines plan bound ls (initial plan)) (sym is);
    service = h.service;
  })

  cut-end : AreCutOff plan bound inputs old talk output new → IsEnd plan bound log old output new
  cut-end h =
      let before = printed_for_lines plan bound 1 h.earlier (initial plan) in
      let all : lines log ≡ h.earlier ++ h.last ∷ [] = is ∙ h.heard_is in
      let count = length-append h.earlier (h.last ∷ []) in
      let first : take (length h.earlier + 1 - 1) (lines log) ≡ h.earlier =
      ap (λ (n : ℕ). take n (lines log)) (omega arith) ∙ ap (take (length h.earlier)) all
      ∙ take-append_seam h.earlier (h.last ∷ []) in
      let whole : take (length h.earlier + 1) (lines log) ≡ h.earlier ++ h.last ∷ [] =
      ap (take (length h.earlier + 1)) (all ∙ sym (append-nil (h.earlier ++ h.last ∷ [])))
      ∙ ap (λ (n : ℕ). take n ((h.earlier ++ h.last ∷ []) ++ [])) (omega (arith, count))
      ∙ take-append_seam (h.earlier ++ h.last ∷ []) [] in
      inr (record {
        line = h.line;
        command = h.command;
        line_is = h.line_is;
        number = length h.earlier + 1;
        display = before ++ h.display;
        before = record {
          begun = h.display;
          later = h.later;
          shown_is = ap (λ (ls : List (List ℕ)). printed_for_lines plan bound 1 ls (initial plan) ++ h.display)
              (sym first);
          next_is =
              ap (λ (ls : List (List ℕ)). printed_for_lines plan bound 1 ls (initial plan)) whole
              ∙ printed-push plan bound h.earlier h.last 1 (length h.earlier + 1) (initial plan)
              (after_log_lines plan bound h.earlier (initial plan)) refl refl
              ∙ ap (λ (ps : List PrintedLine). before ++ ps) h.whole
              ∙ sym (append_assoc before h.display (Traced h.line ∷ h.later));
        };
        printed_is = h.printed_is;
        moment_is = h.moment_is;
        mid = h.mid;
        service = h.service;
        halt = h.halt;
      })

  end-of : HaveEnded plan bound inputs old talk output new → IsEnd plan bound log old output new
  end-of (Answered end) = answered-end end
  end-of (CutOff end) = cut-end end

pub live_play : LiveIsPlay
live_play c shows board last old new log live is = record {
  output = live.output;
  rig = live.rig;
  end = end-of c.plan c.bound log live.inputs is (at_rest c board) live.talk live.output live.rig live.end;
  off = live.off;
  faults = live.faults;
  put_off = live.ending;
  telling = live.board;
  text = refl;
  verdict_is = refl;
}

-- what was printed for lines that were all answered is what a log of these lines prints
printed-all : (plan : PlanView) (bound : ℕ) (log : List ℕ) (inputs : List (List ℕ)) (old : RigView) (talk : List Talk)
    (output : List PrintedLine) (new : RigView) (end : HaveEnded plan bound inputs old talk output new)
    → lines log ≡ inputs → AllAnswered end → output ≡ printed_for_lines plan bound 1 (lines log) (initial plan)
printed-all plan bound log inputs old talk output new (Answered end) is all = end.printed_is
    ∙ ap (λ (ls : List (List ℕ)). printed_for_lines plan bound 1 ls (initial plan)) (sym is)
printed-all plan bound log inputs old talk output new (CutOff end) is all = absurd all

pub live_run : LiveIsRun
live_run c shows board last old new log live accepted is all =
    subst (λ (ps : List PrintedLine). IsPlayOfLog c.plan log (trace_in ps))
    (sym (printed-all c.plan c.bound log live.inputs (at_rest c board) live.talk live.output live.rig live.end is all))
    (log_is_run c accepted log)

-- ---- transcripts

-- what was read of a transcript from its end on: outside of a line, or within one
data Read : Type 0 where
  Outside : (told : List ℕ) (later : List (List ℕ × List ℕ)) → Read
  Within : (line : List ℕ) (told : List ℕ) (later : List (List ℕ × List ℕ)) → Read

abbrev before : ℕ → Read → Read
before x (Outside told later) = cond (x == 257) (Within [] told later) (Outside (x ∷ told) later)
before x (Within line told later) = cond (x == 256) (Outside [] ((line, told) ∷ later)) (Within (x ∷ line) told later)

abbrev read : List ℕ → Read
read [] = Outside [] []
read (x ∷ xs) = before x (read xs)

not_mark : (x mark : ℕ) → nat_lt x 256 ≡ true → 256 ≤ mark → (x == mark) ≡ false
not_mark x mark small above = let less = ltb-true x 256 small in ne_eqb x mark (λ is. omega (arith, less, above, is))

read-told : (text rest told : List ℕ) (later : List (List ℕ × List ℕ)) → list_all (λ b. nat_lt b 256) text ≡ true
    → read rest ≡ Outside told later → read (text ++ rest) ≡ Outside (text ++ told) later
read-told [] rest told later small is = is
read-told (x ∷ text) rest told later small is =
    let parts = and_parts (nat_lt x 256) (list_all (λ b. nat_lt b 256) text) small in
    ap (before x) (read-told text rest told later parts.1 is)
    ∙ ap (λ (b : Bool). cond b (Within [] (text ++ told) later) (Outside (x ∷ (text ++ told)) later))
    (not_mark x 257 parts.0 (lit≤ tt))

read-line : (line rest told : List ℕ) (later : List (List ℕ × List ℕ)) → list_all (λ b. nat_lt b 256) line ≡ true
    → read rest ≡ Within [] told later → read (line ++ rest) ≡ Within (line ++ []) told later
read-line [] rest told later small is = is
read-line (x ∷ line) rest told later small is =
    let parts = and_parts (nat_lt x 256) (list_all (λ b. nat_lt b 256) line) small in
    ap (before x) (read-line line rest told later parts.1 is)
    ∙ ap (λ (b : Bool). cond b (Outside [] ((line ++ [], told) ∷ later)) (Within (x ∷ (line ++ [])) told later))
    (not_mark x 256 parts.0 (lit≤ tt))

read-transcript : (talk : List Talk) → list_all is_of_bytes talk ≡ true
    → read (transcript true talk) ≡ Outside (by_lines talk).0 (by_lines talk).1
read-transcript [] small = refl
read-transcript (Told text ∷ more) small =
    let parts = and_parts (list_all (λ b. nat_lt b 256) text) (list_all is_of_bytes more) small in
    read-told text (transcript true more) (by_lines more).0 (by_lines more).1 parts.0 (read-transcript more parts.1)
read-transcript (Heard line ∷ more) small =
    let parts = and_parts (list_all (λ b. nat_lt b 256) line) (list_all is_of_bytes more) small in
    let rest = transcript true more in
    let opened : read (257 ∷ rest) ≡ Within [] (by_lines more).0 (by_lines more).1 =
    ap (before 257) (read-transcript more parts.1) in
    ap read (ap (λ (l : List ℕ). 256 ∷ l) (append_assoc line (257 ∷ []) rest))
    ∙ ap (before 256) (read-line line (257 ∷ rest) (by_lines more).0 (by_lines more).1 parts.0 opened)
    ∙ ap (λ (l : List ℕ). Outside [] ((l, (by_lines more).0) ∷ (by_lines more).1)) (append-nil line)

abbrev parts_of : Read → List ℕ × List (List ℕ × List ℕ)
parts_of (Outside told later) = (told, later)
parts_of (Within line told later) = (told, later)

pub transcripts_lose_nothing : TranscriptsLoseNothing
transcripts_lose_nothing one other small short is =
    ap parts_of (sym (read-transcript one small) ∙ ap read is ∙ read-transcript other short)
