-- Lines that are inputs and answered one after another.
use Rattle.std.proofs.Common.{rules, ◌≡◌, ◌⊎◌, ℕ, ◌+◌, ◌≤◌, ◌^◌, ◌-◌, Bool, Option, Some, None, Result, Ok, Err, List}
use Rattle.std.proofs.Common.{[], ◌∷◌, ◌++◌, length, inl, inr, refl, ap, sym, ◌∙◌, subst, arith, append_assoc}
use Rattle.std.proofs.{Common.{append-nil, length-append}, lemmas.Grind.flat_map-append}
use Rattle.std.specs.{List.flat_map, Io.KnownBytes.Appends, Str.Lines.lines}
use Rattle.plan_tables.specs.PlanView.{PlanView}
use Rattle.written_machine.specs.Machine.{Machine, initial}
use Rattle.pin_rig.specs.Rig.{RigView}
use Rattle.pinball_shell.specs.declared.fault.{ShellFault.{ShellFault, TheVariants.TooLong}, Verdict.Verdict}
use Rattle.pinball_shell.specs.declared.fault.Verdict.TheVariants as verdicts
use Rattle.pinball_shell.specs.{LogPlayers.board_refusal, LogText.meaning, Ends.{after_log_lines, IsServed}}
use Rattle.pinball_shell.specs.TraceText.{printed_texts, refused_text, log_verdict}
use Rattle.pinball_shell.specs.Played.{worse_of, IsPrinted, IsPrintedToFault, IsLinePlayedToFault}
use Rattle.pinball_shell.specs.RunOfLog.{given_by_line, PrintedLine, Refused, printed_for_line, printed_for_lines}
use Rattle.pinball_shell.proofs.{Serving.{served-none, served-then}, Playing.{after-push, printed-push, verdict-append}}
use Rattle.live_machine.specs.Talk.{Talk, Heard, Told, heard_text, talk_text, transcript, LinkView, IfReported, HasTold}
use Rattle.live_machine.specs.Talk.{HasHeard, IsOver, HasNotHeard, HasLongLine, longest_line}
use Rattle.live_machine.specs.Answers.{next_state, answer, answer_text, rounds}
use Rattle.live_machine.specs.Live.{AreAnswered, AreCutOff, Answered, CutOff, HasTalked, printed_after}
use Rattle.live_machine.specs.Going.{IsLineAnswered, AreGoing, HaveGone, HaveGoneOut, HaveBroken}
use Rattle.live_machine.proofs.Packing.{reported-then, reported-same, reported-as}

-- ---- transcripts

pub transcript-append : (shows : Bool) (xs ys : List Talk)
    → transcript shows (xs ++ ys) ≡ transcript shows xs ++ transcript shows ys
transcript-append shows xs ys = flat_map-append (talk_text shows) xs ys

pub told-then : (a b c : Option LinkView) (x y : List ℕ) → IfReported a b (HasTold x) → IfReported b c (HasTold y)
    → IfReported a c (HasTold (x ++ y))
told-then a b c x y h k =
    reported-then a b c (HasTold x) (HasTold y) (HasTold (x ++ y))
    (λ u v w p q.
    record {
      talk = q.talk ∙ ap (λ (l : List ℕ). l ++ y) p.talk ∙ append_assoc u.talk x y;
      remainder = q.remainder
          ∙ p.remainder;
    })
    h k

pub told-none : (a b c : Option LinkView) (x : List ℕ) → IfReported a b (HasTold x) → IfReported b c (HasTold [])
    → IfReported a c (HasTold x)
told-none a b c x h k = subst (λ (l : List ℕ). IfReported a c (HasTold l)) (append-nil x) (told-then a b c x [] h k)

module _ (shows : Bool) where
  pub talked-none : (a : Option LinkView) → IfReported a a (HasTalked shows [] [])
  talked-none a = reported-same a (HasTalked shows [] [])
      (λ v. record { talk = sym (append-nil v.talk); remainder = refl })

  -- a text is told before all
  pub talked-after : (a b c : Option LinkView) (text : List ℕ) (inputs : List (List ℕ)) (talk : List Talk)
      → IfReported a b (HasTold text) → IfReported b c (HasTalked shows inputs talk)
      → IfReported a c (HasTalked shows inputs (Told text ∷ talk))
  talked-after a b c text inputs talk h k =
      reported-then a b c (HasTold text) (HasTalked shows inputs talk) (HasTalked shows inputs (Told text ∷ talk))
      (λ u v w p q. record {
        talk = q.talk ∙ ap (λ (l : List ℕ). l ++ transcript shows talk) p.talk
            ∙ append_assoc u.talk text (transcript shows talk);
        remainder = sym (ap lines p.remainder) ∙ q.remainder;
      }) h k

  -- a text is told after all
  pub talked-told : (a b c : Option LinkView) (text : List ℕ) (inputs : List (List ℕ)) (talk : List Talk)
      → IfReported a b (HasTalked shows inputs talk) → IfReported b c (HasTold text)
      → IfReported a c (HasTalked shows inputs (talk ++ Told text ∷ []))
  talked-told a b c text inputs talk h k =
      reported-then a b c (HasTalked shows inputs talk) (HasTold text) (HasTalked shows inputs (talk ++ Told text ∷ []))
      (λ u v w p q. record {
        talk =
            q.talk ∙ ap (λ (l : List ℕ). l ++ text) p.talk ∙ append_assoc u.talk (transcript shows talk) text
            ∙ ap (λ (l : List ℕ). u.talk ++ l)
            (ap (λ (l : List ℕ). transcript shows talk ++ l) (sym (append-nil text))
            ∙ sym (transcript-append shows talk (Told text ∷ [])));
        remainder = p.remainder ∙ ap (λ (l : List ℕ). inputs ++ lines l) (sym q.remainder);
      }) h k

  -- a line is inputs after all
  pub talked-heard : (a b c : Option LinkView) (line : List ℕ) (inputs : List (List ℕ)) (talk : List Talk)
      → IfReported a b (HasTalked shows inputs talk) → IfReported b c (HasHeard shows line)
      → IfReported a c (HasTalked shows (inputs ++ line ∷ []) (talk ++ Heard line ∷ []))
  talked-heard a b c line inputs talk h k =
      reported-then a b c (HasTalked shows inputs talk) (HasHeard shows line)
      (HasTalked shows (inputs ++ line ∷ []) (talk ++ Heard line ∷ []))
      (λ u v w p q. record {
        talk =
            q.talk ∙ ap (λ (l : List ℕ). l ++ heard_text shows line) p.talk
            ∙ append_assoc u.talk (transcript shows talk) (heard_text shows line)
            ∙ ap (λ (l : List ℕ). u.talk ++ l)
            (ap (λ (l : List ℕ). transcript shows talk ++ l) (sym (append-nil (heard_text shows line)))
            ∙ sym (transcript-append shows talk (Heard line ∷ [])));
        remainder = p.remainder ∙ ap (λ (l : List (List ℕ)). inputs ++ l) q.remainder
            ∙ sym (append_assoc inputs (line ∷ []) (lines w.remainder));
      }) h k

  -- a line, and what is told to it
  pub talked-round : (a b c d : Option LinkView) (line text : List ℕ) (inputs : List (List ℕ)) (talk : List Talk)
      → IfReported a b (HasTalked shows inputs talk) → IfReported b c (HasHeard shows line)
      → IfReported c d (HasTold text)
      → IfReported a d (HasTalked shows (inputs ++ line ∷ []) (talk ++ Heard line ∷ Told text ∷ []))
  talked-round a b c d line text inputs talk h k m =
      subst (λ (t : List Talk). IfReported a d (HasTalked shows (inputs ++ line ∷ []) t))
      (append_assoc talk (Heard line ∷ []) (Told text ∷ []))
      (talked-told a c d text (inputs ++ line ∷ []) (talk ++ Heard line ∷ []) (talked-heard a b c line inputs talk h k)
      m)

-- ---- lines

module _ (plan : PlanView) (bound : ℕ) where
  pub rounds-push : (xs : List (List ℕ)) (line : List ℕ) (n m : ℕ) (s t : Machine) → m ≡ length xs + n
      → t ≡ after_log_lines plan bound xs s
      → rounds plan bound n (xs ++ line ∷ []) s
      ≡ rounds plan bound n xs s ++ Heard line ∷ Told (answer_text plan (answer plan bound m t line)) ∷ []
  rounds-push [] line n m s t is at =
      let here : m ≡ n = omega (arith, is) in
      sym (ap (λ (u : Machine). round m u) at ∙ ap (λ (k : ℕ). round k s) here)
    where
      round : ℕ → Machine → List Talk
      round k u = Heard line ∷ Told (answer_text plan (answer plan bound k u line)) ∷ []
  rounds-push (x ∷ xs) line n m s t is at =
      ap (λ (rs : List Talk). Heard x ∷ Told (answer_text plan (answer plan bound n s x)) ∷ rs)
      (rounds-push xs line (n + 1) m (next_state plan bound s x) t (omega (arith, is)) at)

  module _ (shows : Bool) where
    pub going-none : (old : RigView) (a : Option LinkView) → old.faulted_coil ≡ None → old.machine ≡ initial plan
        → AreGoing plan bound shows 1 old old a a verdicts.Yes
    going-none old a running rest = record {
      inputs = [];
      number_is = refl;
      state = rest;
      service = served-none old [] running refl;
      talking = talked-none shows a;
      verdict_is = refl;
    }

    module _ (number : ℕ) (old now : RigView) (a b c : Option LinkView) (v : Verdict) (line : List ℕ)
        (h : AreGoing plan bound shows number old now a b v) (heard : IfReported b c (HasHeard shows line)) where
      -- one line more
      pub going-more : (next : RigView) (d : Option LinkView) (w x : Verdict)
          → IsLineAnswered plan bound number line now next c d x → w ≡ worse_of v x
          → AreGoing plan bound shows (number + 1) old next a d w
      going-more next d w x k worse =
          let count = h.number_is in
          let before = printed_for_lines plan bound 1 h.inputs (initial plan) in
          let here = printed_for_line plan bound number now.machine
          (given_by_line plan now.machine.moment (meaning line))
          in
          let all = printed-push plan bound h.inputs line 1 number (initial plan) now.machine h.number_is h.state in
          record {
            inputs = h.inputs ++ line ∷ [];
            number_is = omega (arith, count, length-append h.inputs (line ∷ []));
            state = k.state ∙ ap (λ (m : Machine). next_state plan bound m line) h.state
                ∙ sym (after-push plan bound h.inputs line (initial plan));
            service = subst (λ (ps : List PrintedLine). IsServed ps old next) (sym all)
                (served-then before here old now next h.service k.service);
            talking =
                subst (λ (t : List Talk). IfReported a d (HasTalked shows (h.inputs ++ line ∷ []) t))
                (sym (rounds-push h.inputs line 1 number (initial plan) now.machine h.number_is h.state))
                (talked-round shows a b c d line (answer_text plan (answer plan bound number now.machine line)) h.inputs
                (rounds plan bound 1 h.inputs (initial plan)) h.talking heard k.telling);
            verdict_is =
                worse ∙ ap (λ (y : Verdict). worse_of y x) h.verdict_is
                ∙ ap (worse_of (log_verdict before)) k.verdict_is ∙ verdict-append plan bound before here
                ∙ sym (ap log_verdict all);
          }

      -- or the board has not taken a command of it
      pub going-fault : (next : RigView) (d : Option LinkView) (written grown : Option (List ℕ)) (w : Verdict)
          → (k : IsLinePlayedToFault plan bound number line now next written grown)
          → IfReported c d (HasTold (printed_texts plan k.display ++ refused_text number board_refusal))
          → w ≡ verdicts.Refused
          → HaveGoneOut plan bound shows old next a d w
      going-fault next d written grown w k told verdict =
          let before = printed_for_lines plan bound 1 h.inputs (initial plan) in
          let count = h.number_is in
          let at : number ≡ length h.inputs + 1 = count in
          record {
            course = record {
              inputs = h.inputs ++ line ∷ [];
              talk = rounds plan bound 1 h.inputs (initial plan) ++ Heard line
                  ∷ Told (printed_texts plan k.display ++ refused_text number board_refusal) ∷ [];
              output = (before ++ k.display) ++ Refused number board_refusal ∷ [];
              end = CutOff (record {
                earlier = h.inputs;
                last = line;
                heard_is = refl;
                display = k.display;
                line = k.line;
                command = k.command;
                line_is = k.line_is;
                later = k.later;
                whole = sym (printed-at number now.machine at h.state) ∙ k.whole;
                moment_is = k.moment_is;
                talk_is = ap (λ (n : ℕ). rounds plan bound 1 h.inputs (initial plan) ++ Heard line
                    ∷ Told (printed_texts plan k.display ++ refused_text n board_refusal) ∷ []) at;
                printed_is = ap (λ (n : ℕ). (before ++ k.display) ++ Refused n board_refusal ∷ []) at;
                mid = k.mid;
                service = served-then before k.display old now k.mid h.service k.earlier.service;
                halt = k.halt;
              });
              talking = talked-round shows a b c d line
                  (printed_texts plan k.display ++ refused_text number board_refusal)
                  h.inputs (rounds plan bound 1 h.inputs (initial plan)) h.talking heard told;
            };
            verdict_is = verdict ∙ sym (refused_last (before ++ k.display) number);
            over = tt;
          }
        where
          printed-at : (n : ℕ) (s : Machine) → n ≡ length h.inputs + 1
              → s ≡ after_log_lines plan bound h.inputs (initial plan)
              → printed_for_line plan bound n s (given_by_line plan s.moment (meaning line))
              ≡ printed_after plan bound h.inputs line
          printed-at n s is at =
              ap (λ (m : Machine). printed_for_line plan bound n m (given_by_line plan m.moment (meaning line))) at
              ∙ ap (λ (k : ℕ). printed_for_line plan bound k (after_log_lines plan bound h.inputs (initial plan))
              (given_by_line plan (after_log_lines plan bound h.inputs (initial plan)).moment (meaning line))) is

          refused_last : (ps : List PrintedLine) (n : ℕ)
              → log_verdict (ps ++ Refused n board_refusal ∷ []) ≡ verdicts.Refused
          refused_last ps n = sym (verdict-append plan bound ps (Refused n board_refusal ∷ []))

    module _ (number : ℕ) (old now : RigView) (a b c : Option LinkView) (v : Verdict)
        (h : AreGoing plan bound shows number old now a b v) where
      abbrev course : IfReported a c (HasTalked shows h.inputs (rounds plan bound 1 h.inputs (initial plan)))
          → HaveGone plan bound shows old now a c
      course talking = record {
        inputs = h.inputs;
        talk = rounds plan bound 1 h.inputs (initial plan);
        output = printed_for_lines plan bound 1 h.inputs (initial plan);
        end = Answered (record { talk_is = refl; printed_is = refl; machine_is = h.state; service = h.service });
        talking = talking;
      }

      -- nothing has changed since
      abbrev still : IfReported b c (λ u w. w ≡ u)
          → IfReported a c (HasTalked shows h.inputs (rounds plan bound 1 h.inputs (initial plan)))
      still same =
          reported-then a b c (HasTalked shows h.inputs (rounds plan bound 1 h.inputs (initial plan))) (λ u w. w ≡ u)
          (HasTalked shows h.inputs (rounds plan bound 1 h.inputs (initial plan)))
          (λ u w x p q. subst (HasTalked shows h.inputs (rounds plan bound 1 h.inputs (initial plan)) u) (sym q) p)
          h.talking same

      -- no line is left
      pub going-over : IfReported b c IsOver → HaveGoneOut plan bound shows old now a c v
      going-over over = record {
        course = course (still (reported-as b c IsOver (λ u w. w ≡ u) (λ u w o. o.same) over));
        verdict_is = h.verdict_is;
        over =
            reported-then a b c (HasTalked shows h.inputs (rounds plan bound 1 h.inputs (initial plan))) IsOver
            (λ u w. lines w.remainder ≡ [])
            (λ u w x p o. ap (λ (k : LinkView). lines k.remainder) o.same ∙ o.none) h.talking over;
      }

      -- a line could not be heard
      pub going-broken : (limit : ℕ) (fault : ShellFault) → limit ≡ longest_line
          → IfReported b c (HasNotHeard limit fault) → HaveBroken plan bound shows old now a c fault
      going-broken limit fault most not = record {
        course = course (still (reported-as b c (HasNotHeard limit fault) (λ u w. w ≡ u) (λ u w o. o.same) not));
        answers_all = tt;
        long = λ long.
            inl (reported-then a b c (HasTalked shows h.inputs (rounds plan bound 1 h.inputs (initial plan)))
            (HasNotHeard limit fault) (λ u w. HasLongLine longest_line w.remainder)
            (λ u w x p o. subst (λ (k : LinkView). HasLongLine longest_line k.remainder) (sym o.same)
            (subst (λ (n : ℕ). HasLongLine n w.remainder) most (o.long long))) h.talking not);
      }

      -- there are more lines than can be numbered
      pub going-many : 2 ^ 64 - 1 ≤ number → IfReported b c (λ u w. w ≡ u)
          → HaveBroken plan bound shows old now a c TooLong
      going-many many same = let count = h.number_is in record {
        course = course (still same);
        answers_all = tt;
        long = λ long. inr (omega (arith, many, count));
      }
