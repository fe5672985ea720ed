-- What is printed on a rig, one part after another.
use Rattle.std.proofs.Common.{rules, ◌≡◌, ℕ, Option, None, Result, Ok, List, [], ◌∷◌, ◌++◌, map, refl, ap, sym, ◌∙◌}
use Rattle.std.proofs.{Common.{subst, append_assoc, append-nil}, KnownBytes.{Appends-nil, Appends-trans}}
use Rattle.std.specs.{List.flat_map, Io.KnownBytes.Appends}
use Rattle.std.proofs.lemmas.{Grind.flat_map-append, List.{map-append, Folds.flat_map-map}}
use Rattle.plan_tables.specs.PlanView.{PlanView}
use Rattle.written_machine.specs.{declared.line.Line.Line, Machine.Machine, Run.Stimulus}
use Rattle.written_machine.specs.{AlarmsBy.state_after, PlanOrder.settle_all}
use Rattle.coil_driver.specs.Board.{commands_of, after_lines, HasTakenAll}
use Rattle.pin_rig.specs.declared.input.{Input.Input, StepFault.StepFault}
use Rattle.pin_rig.specs.{Rig.{RigView, RigStep, RigHalt}, Admission.Admits}
use Rattle.pinball_shell.specs.{RunOfLog.{trace_of, PrintedLine, Traced}, TraceText.{printed_text, printed_texts}}
use Rattle.trace_lines.specs.LineText.{line_text}
use Rattle.pinball_shell.specs.Played.{IsPrinted, IsPrintedToFault, IsPlayed, IsPlayedToFault}
use Rattle.pinball_shell.proofs.{LineMoments.line-moment, Stimuli.{state_after-append, trace_of-append}}
use Rattle.pinball_shell.proofs.Serving.{served-none, served-then, traced-lines}

module _ (plan : PlanView) where
  pub printed-none : (rig : RigView) (a : Option (List ℕ)) → rig.faulted_coil ≡ None → IsPrinted plan [] rig rig a a
  printed-none rig a running = record { service = served-none rig [] running refl; text = Appends-nil a }

  pub texts-append : (xs ys : List PrintedLine)
      → printed_texts plan (xs ++ ys) ≡ printed_texts plan xs ++ printed_texts plan ys
  texts-append xs ys = flat_map-append (printed_text plan) xs ys

  pub printed-then : (xs ys : List PrintedLine) (s t u : RigView) (a b c : Option (List ℕ)) → IsPrinted plan xs s t a b
      → IsPrinted plan ys t u b c → IsPrinted plan (xs ++ ys) s u a c
  printed-then xs ys s t u a b c h k = search (rules, served-then, texts-append, Appends-trans)

  -- a fault, after something was printed
  pub fault-after : (xs ys : List PrintedLine) (s t u : RigView) (a b c : Option (List ℕ)) → IsPrinted plan xs s t a b
      → IsPrintedToFault plan ys t u b c → IsPrintedToFault plan (xs ++ ys) s u a c
  fault-after xs ys s t u a b c h k = record {
    display = xs ++ k.display;
    line = k.line;
    command = k.command;
    line_is = k.line_is;
    later = k.later;
    whole = ap (λ (ps : List PrintedLine). xs ++ ps) k.whole
        ∙ sym (append_assoc xs k.display (Traced k.line ∷ k.later));
    moment_is = k.moment_is;
    mid = k.mid;
    earlier = printed-then xs k.display s t k.mid a b c h k.earlier;
    halt = k.halt;
  }

  -- or before something that would be printed
  pub fault-before : (xs ys : List PrintedLine) (s t : RigView) (a b : Option (List ℕ))
      → IsPrintedToFault plan xs s t a b → IsPrintedToFault plan (xs ++ ys) s t a b
  fault-before xs ys s t a b k = search (rules, append_assoc)

  -- ---- lines

  lines-printed : (ls : List Line) (s t : RigView) (a b : Option (List ℕ)) → t.checked ≡ s.checked
      → HasTakenAll (commands_of ls) s.board t.board → t.sent ≡ after_lines ls s.sent → t.faulted_coil ≡ None
      → Appends a b (flat_map (line_text plan) ls) → IsPrinted plan (map Traced ls) s t a b
  lines-printed ls s t a b checked_is taken sent_is running text = search (rules, traced-lines, flat_map-map)

-- ---- one step

is_ok : (a b : Stimulus) (r : Result Stimulus StepFault) → r ≡ Ok a → r ≡ Ok b → a ≡ b
is_ok a b r h k = let same : ◌≡◌ {A = Result Stimulus StepFault} (Ok a) (Ok b) = sym h ∙ k in cc

module _ (input : Input) (stimulus : Stimulus) (old new : RigView) (admits : Admits old input stimulus)
    (a b : Option (List ℕ)) where
  here-played : RigStep input old new → Appends a b (flat_map (line_text old.checked.plan) new.lines)
      → IsPlayed old.checked.plan old.checked.bound (stimulus ∷ []) old new a b
  here-played r text =
      let c = r.cascade in
      let plan = old.checked.plan in
      let next = settle_all plan old.checked.bound c.stimulus old.machine in
      let lines : new.lines ≡ next.lines ++ [] = r.lines_are ∙ ap (λ (m : Machine). m.lines) c.machine_is
      ∙ sym (append-nil next.lines) in
      let here : IsPlayed old.checked.plan old.checked.bound (c.stimulus ∷ []) old new a b =
      search (rules, lines-printed) in
      subst (λ (x : Stimulus). IsPlayed old.checked.plan old.checked.bound (x ∷ []) old new a b)
      (is_ok c.stimulus stimulus _ c.stimulus_is admits) here

  pub step-played : (plan : PlanView) → old.checked.plan ≡ plan → RigStep input old new
      → Appends a b (flat_map (line_text plan) new.lines) → IsPlayed plan old.checked.bound (stimulus ∷ []) old new a b
  step-played plan is r = subst (λ (p : PlanView). Appends a b (flat_map (line_text p) new.lines)
      → IsPlayed p old.checked.bound (stimulus ∷ []) old new a b) is (here-played r)

  here-halted : RigHalt input old new → Appends a b (flat_map (line_text old.checked.plan) new.lines)
      → IsPlayedToFault old.checked.plan old.checked.bound (stimulus ∷ []) old new a b
  here-halted r text =
      let c = r.cascade in
      let plan = old.checked.plan in
      let next = settle_all plan old.checked.bound c.stimulus old.machine in
      let mid : RigView =
      record {
        checked = old.checked;
        machine = old.machine;
        lines = new.lines;
        board = r.board;
        sent = new.sent;
        faulted_coil = None;
      } in
      let lines : next.lines ++ [] ≡ new.lines ++ r.line ∷ r.later = append-nil next.lines
      ∙ sym (ap (λ (m : Machine). m.lines) c.machine_is) ∙ r.lines_are in
      subst (λ (x : Stimulus). IsPlayedToFault old.checked.plan old.checked.bound (x ∷ []) old new a b)
      (is_ok c.stimulus stimulus _ c.stimulus_is admits)
      (record {
        display = map Traced new.lines;
        line = r.line;
        command = r.command;
        line_is = r.line_is;
        later = map Traced r.later;
        whole = ap (map Traced) lines ∙ map-append Traced new.lines (r.line ∷ r.later);
        moment_is = line-moment plan old.checked.bound c.stimulus old.machine new.machine new.lines r.line r.later
            c.machine_is r.lines_are;
        mid = mid;
        earlier = lines-printed plan new.lines old mid a b refl r.board_takes c.sent_is refl text;
        halt = record { checked_is = c.checked_is; not_taken = r.not_taken; sent_is = refl; halt = r.halt };
      })

  pub step-halted : (plan : PlanView) → old.checked.plan ≡ plan → RigHalt input old new
      → Appends a b (flat_map (line_text plan) new.lines)
      → IsPlayedToFault plan old.checked.bound (stimulus ∷ []) old new a b
  step-halted plan is r = subst (λ (p : PlanView). Appends a b (flat_map (line_text p) new.lines)
      → IsPlayedToFault p old.checked.bound (stimulus ∷ []) old new a b) is (here-halted r)

-- ---- stimuli

module _ (plan : PlanView) (bound : ℕ) where
  abbrev traces : List Stimulus → Machine → List PrintedLine
  traces xs s = map Traced (trace_of plan bound xs s)

  traces-then : (xs ys : List Stimulus) (s t : Machine) → t ≡ state_after plan bound xs s
      → traces (xs ++ ys) s ≡ traces xs s ++ traces ys t
  traces-then xs ys s t is = search (rules, trace_of-append, map-append)

  pub played-none : (s : RigView) (a : Option (List ℕ)) → s.faulted_coil ≡ None → IsPlayed plan bound [] s s a a
  played-none s a running = record { state = refl; output = printed-none plan s a running }

  pub played-then : (xs ys : List Stimulus) (s t u : RigView) (a b c : Option (List ℕ)) → IsPlayed plan bound xs s t a b
      → IsPlayed plan bound ys t u b c → IsPlayed plan bound (xs ++ ys) s u a c
  played-then xs ys s t u a b c h k = record {
    state = k.state ∙ ap (state_after plan bound ys) h.state ∙ sym (state_after-append plan bound xs ys s.machine);
    output = subst (λ (ps : List PrintedLine). IsPrinted plan ps s u a c)
        (sym (traces-then xs ys s.machine t.machine h.state))
        (printed-then plan (traces xs s.machine) (traces ys t.machine) s t u a b c h.output k.output);
  }

  pub played-fault : (xs ys : List Stimulus) (s t u : RigView) (a b c : Option (List ℕ))
      → IsPlayed plan bound xs s t a b → IsPlayedToFault plan bound ys t u b c
      → IsPlayedToFault plan bound (xs ++ ys) s u a c
  played-fault xs ys s t u a b c h k =
      subst (λ (ps : List PrintedLine). IsPrintedToFault plan ps s u a c)
      (sym (traces-then xs ys s.machine t.machine h.state))
      (fault-after plan (traces xs s.machine) (traces ys t.machine) s t u a b c h.output k)

  pub fault-first : (xs ys : List Stimulus) (s t : RigView) (a b : Option (List ℕ))
      → IsPlayedToFault plan bound xs s t a b → IsPlayedToFault plan bound (xs ++ ys) s t a b
  fault-first xs ys s t a b k =
      let later = traces ys (state_after plan bound xs s.machine) in
      subst (λ (ps : List PrintedLine). IsPrintedToFault plan ps s t a b)
      (sym (traces-then xs ys s.machine (state_after plan bound xs s.machine) refl))
      (fault-before plan (traces xs s.machine) later s t a b k)
