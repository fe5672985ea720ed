-- On a board that reports its answers there is one play of a log.
use Rattle.std.proofs.Common.{rules, ◌≡◌, ◌⊎◌, ℕ, zero, suc, ◌+◌, ◌-◌, ◌<◌, ◌≤◌, Bool, true, false, Option, Some}
use Rattle.std.proofs.Common.{IsSome, IfSome, List, [], ◌∷◌, ◌++◌, length, take, drop, inl, inr, refl, ap, sym, ◌∙◌}
use Rattle.std.proofs.{Common.{subst, arith, append_assoc, length-append}, lemmas.Bool.{cases_lt, false≢true}}
use Rattle.std.specs.{Str.Lines.lines, Io.KnownBytes.Appends}
use Rattle.plan_tables.specs.{PlanView.PlanView, declared.entries.CoilId.CoilId}
use Rattle.coil_guard.specs.{declared.command.Command.Command, SentCommands.coil_of}
use Rattle.coil_guard.specs.Boards.{Answers, takes_all, first_answer, IsAnswered}
use Rattle.written_machine.specs.{declared.line.Line.Line, CheckedView.CheckedView, Machine.{Machine, initial}}
use Rattle.written_machine.specs.declared.line.Happening.TheVariants as happenings
use Rattle.coil_driver.specs.{Board.{BoardView, HasTakenAll, HasNotTaken, commands_of, after_lines}, ShutDown.ArePutOff}
use Rattle.coil_driver.proofs.Serving.{commands-append}
use Rattle.pin_rig.specs.declared.input.StepFault.TheVariants.{BoardFault}
use Rattle.pin_rig.specs.{Rig.RigView, ShutDown.coils_to_put_off, Steps.at_rest}
use Rattle.pinball_shell.{specs.declared.refusal.LogRefusal.TheVariants.Step, proofs.Serving.traced-append}
use Rattle.pinball_shell.specs.{LogText.meaning, TraceText.{printed_texts, log_verdict}}
use Rattle.pinball_shell.specs.RunOfLog.{given_by_line, PrintedLine, Traced, Refused, printed_for_line}
use Rattle.pinball_shell.specs.RunOfLog.{printed_for_lines, printed_for_log, after_line, trace_in}
use Rattle.trace_lines.specs.LineText.{off_texts}
use Rattle.pinball_shell.specs.Ends.{printed_for_first, IsBefore, IsPlayedOut, IsCutOff, IsEnd}
use Rattle.pinball_shell.specs.FixedPlay.{TellsAll, TakenIsPlayedOut, AnswersFixThePlay}

-- ---- answers

answered-alike : (taken : Bool) (a b c d : BoardView) → a.answers ≡ b.answers → IsAnswered taken a.answers c.answers
    → IsAnswered taken b.answers d.answers → c.answers ≡ d.answers
answered-alike taken a b c d same h k = h.others
    ∙ ap (λ (x : Answers). record { next = drop 1 x.next; later = x.later }) same ∙ sym k.others

answered-tells : (taken : Bool) (a c : BoardView) → TellsAll a → IsAnswered taken a.answers c.answers → TellsAll c
answered-tells taken a c tells h = subst (λ (x : Answers). IsSome x.later) (sym h.others) tells

answered-takes : (taken : Bool) (a c : BoardView) → a.answers ≡ takes_all → IsAnswered taken a.answers c.answers
    → c.answers ≡ takes_all
answered-takes taken a c takes h = h.others
    ∙ ap (λ (x : Answers). record { next = drop 1 x.next; later = x.later }) takes

alike-tells : (a b : BoardView) → a.answers ≡ b.answers → TellsAll a → TellsAll b
alike-tells a b same tells = subst (λ (x : Answers). IsSome x.later) same tells

-- one answer is not both
both_ways : (a b : BoardView) → a.answers ≡ b.answers → TellsAll a
    → IfSome (first_answer a.answers.next a.answers.later) (λ t. t ≡ true)
    → IfSome (first_answer b.answers.next b.answers.later) (λ t. t ≡ false) → ⊥
both_ways a b same tells took refused =
    by a.answers.next a.answers.later tells took
    (subst (λ (x : Answers). IfSome (first_answer x.next x.later) (λ t. t ≡ false)) (sym same) refused)
  where
    by : (next : List Bool) (later : Option Bool) → IsSome later → IfSome (first_answer next later) (λ t. t ≡ true)
        → IfSome (first_answer next later) (λ t. t ≡ false) → ⊥
    by x1 x2 is took refused = search rules

-- a board that takes all commands takes the next one
no_fault : (a b : BoardView) → a.answers ≡ takes_all → HasNotTaken a b → ⊥
no_fault a b takes fault = false≢true (sym
    (subst (λ (x : Answers). IfSome (first_answer x.next x.later) (λ t. t ≡ false)) takes fault.answer.as_told))

-- boards that have taken the same commands still answer alike
all-alike : (commands : List Command) (a b c d : BoardView) → a.answers ≡ b.answers → HasTakenAll commands a c
    → HasTakenAll commands b d → c.answers ≡ d.answers
all-alike [] a b c d same h k = ap (λ (v : BoardView). v.answers) h ∙ same ∙ sym (ap (λ (v : BoardView). v.answers) k)
all-alike (x ∷ xs) a b c d same (m, one, more) (m', one', more') =
    all-alike xs m m' c d (answered-alike true a b m m' same one.answer one'.answer) more more'

all-tells : (commands : List Command) (a c : BoardView) → TellsAll a → HasTakenAll commands a c → TellsAll c
all-tells [] a c tells h = subst TellsAll (sym h) tells
all-tells (x ∷ xs) a c tells (m, one, more) = all-tells xs m c (answered-tells true a m tells one.answer) more

all-takes : (commands : List Command) (a c : BoardView) → a.answers ≡ takes_all → HasTakenAll commands a c
    → c.answers ≡ takes_all
all-takes [] a c takes h = ap (λ (v : BoardView). v.answers) h ∙ takes
all-takes (x ∷ xs) a c takes (m, one, more) = all-takes xs m c (answered-takes true a m takes one.answer) more

taken-split : (xs ys : List Command) (a c : BoardView) → HasTakenAll (xs ++ ys) a c
    → (m : BoardView) × HasTakenAll xs a m × HasTakenAll ys m c
taken-split [] ys a c h = (a, refl, h)
taken-split (x ∷ xs) ys a c (m, one, more) = let (n, first, rest) = taken-split xs ys m c more
    in (n, (m, one, first), rest)

-- of two boards that answer alike, not one takes a command that the other does not take
taken-refused : (xs ys : List Command) (x : Command) (a b c m n : BoardView) → a.answers ≡ b.answers → TellsAll a
    → HasTakenAll (xs ++ x ∷ ys) a c → HasTakenAll xs b m → HasNotTaken m n → ⊥
taken-refused xs ys x a b c m n same tells all some fault =
    let (p, first, (q, one, rest)) = taken-split xs (x ∷ ys) a c all in
    both_ways p m (all-alike xs a b p m same first some) (all-tells xs a p tells first) one.answer.as_told
    fault.answer.as_told

-- ---- coils that are turned off

off-same : (coils : List CoilId) (a b last other : BoardView) (off others : List CoilId) (f g : ℕ)
    → a.answers ≡ b.answers → TellsAll a → ArePutOff coils a off f last → ArePutOff coils b others g other
    → off ≡ others
off-same [] a b last other off others f g same tells h k = h.0 ∙ sym k.0
off-same (coil ∷ more) a b last other off others f g same tells (m, inl (one, (rest, is, later)))
    (m', inl (one', (rest', is', later'))) =
    search (
      rules,
      same,
      tells,
      rest,
      answered-alike,
      answered-tells,
      off-same more m m' last other rest rest' f g (answered-alike true a b m m' same one.answer one'.answer)
          (answered-tells true a m tells one.answer) later later',
    )
off-same (coil ∷ more) a b last other off others f g same tells (m, inr (fault, (n, is, later)))
    (m', inr (fault', (n', is', later'))) =
    search (
      rules,
      same,
      tells,
      answered-alike,
      answered-tells,
      off-same more m m' last other off others n n' (answered-alike false a b m m' same fault.answer fault'.answer)
          (answered-tells false a m tells fault.answer) later later',
    )
off-same (coil ∷ more) a b last other off others f g same tells (m, inl (one, rest)) (m', inr (fault, rest')) =
    search (rules, same, tells, rest, both_ways)
off-same (coil ∷ more) a b last other off others f g same tells (m, inr (fault, rest)) (m', inl (one, rest')) =
    search (rules, same, tells, rest, both_ways, alike-tells)

off-all : (coils : List CoilId) (a last : BoardView) (off : List CoilId) (f : ℕ) → a.answers ≡ takes_all
    → ArePutOff coils a off f last → off ≡ coils
off-all [] a last off f takes h = h.0
off-all (coil ∷ more) a last off f takes (m, inl (one, (rest, is, later))) =
    search (rules, rest, answered-takes, off-all more m last rest f (answered-takes true a m takes one.answer) later)
off-all (coil ∷ more) a last off f takes (m, inr (fault, rest)) = search (rules, rest, no_fault)

coils-same : (a b : RigView) → a.machine.moment ≡ b.machine.moment → a.sent ≡ b.sent → a.faulted_coil ≡ b.faulted_coil
    → a.checked ≡ b.checked → coils_to_put_off a ≡ coils_to_put_off b
coils-same a b moment sent faulted checked = search rules

-- ---- two places of one list

-- Two places are the same, or one comes after the other.
two-places : {X : Type 0} (xs ys later more : List X) (x y : X) → xs ++ x ∷ later ≡ ys ++ y ∷ more
    → ((xs ≡ ys) × (x ≡ y)) ⊎ (((zs : List X) × (ys ≡ xs ++ x ∷ zs)) ⊎ ((zs : List X) × (xs ≡ ys ++ y ∷ zs)))
two-places [] [] later more x y e = inl (refl, cc)
two-places {X} [] (b ∷ ys) later more x y e = inr (inl (ys, same e))
  where
    same : x ∷ later ≡ b ∷ (ys ++ y ∷ more) → b ∷ ys ≡ x ∷ ys
    same e = cc
two-places {X} (a ∷ xs) [] later more x y e = inr (inr (xs, same e))
  where
    same : a ∷ (xs ++ x ∷ later) ≡ y ∷ more → a ∷ xs ≡ y ∷ xs
    same e = cc
two-places {X} (a ∷ xs) (b ∷ ys) later more x y e =
    elim (two-places xs ys later more x y (rest e)) [
      | inl both ↦ inl (ap (λ (c : X). c ∷ xs) (first e) ∙ ap (λ (cs : List X). b ∷ cs) both.0, both.1)
      | inr (inl after) ↦ inr
          (inl
          (after.0, ap (λ (cs : List X). b ∷ cs) after.1 ∙ ap (λ (c : X). c ∷ (xs ++ x ∷ after.0)) (sym (first e))))
      | inr (inr after) ↦ inr
          (inr (after.0, ap (λ (cs : List X). a ∷ cs) after.1 ∙ ap (λ (c : X). c ∷ (ys ++ y ∷ after.0)) (first e)))
    ]
  where
    first : a ∷ (xs ++ x ∷ later) ≡ b ∷ (ys ++ y ∷ more) → a ≡ b
    first e = cc

    rest : a ∷ (xs ++ x ∷ later) ≡ b ∷ (ys ++ y ∷ more) → xs ++ x ∷ later ≡ ys ++ y ∷ more
    rest e = cc

-- ---- what is printed

commands-past : (display zs : List PrintedLine) (line : Line) (command : Command)
    → line.happening ≡ happenings.Coil command
    → commands_of (trace_in (display ++ Traced line ∷ zs))
    ≡ commands_of (trace_in display) ++ command ∷ commands_of (trace_in zs)
commands-past display zs line command is = search (rules, traced-append, commands-append)

-- A board does not take more than what comes before a line, if one that answers alike has not taken the line's command.
taken-past : (display zs longer : List PrintedLine) (line : Line) (command : Command) (a b c m n : BoardView)
    → a.answers ≡ b.answers → TellsAll a → line.happening ≡ happenings.Coil command
    → longer ≡ display ++ Traced line ∷ zs
    → HasTakenAll (commands_of (trace_in longer)) a c → HasTakenAll (commands_of (trace_in display)) b m
    → HasNotTaken m n
    → ⊥
taken-past display zs longer line command a b c m n same tells is whole all some fault =
    taken-refused (commands_of (trace_in display)) (commands_of (trace_in zs)) command a b c m n same tells
    (subst (λ (cs : List Command). HasTakenAll cs a c)
    (ap (λ (ps : List PrintedLine). commands_of (trace_in ps)) whole ∙ commands-past display zs line command is) all)
    some fault

module _ (plan : PlanView) (bound : ℕ) where
  -- what is printed for the first lines comes first
  first-begins : (n : ℕ) (ls : List (List ℕ)) (number : ℕ) (s : Machine)
      → (zs : List PrintedLine) × (printed_for_lines plan bound number ls s
      ≡ printed_for_lines plan bound number (take n ls) s ++ zs)
  first-begins zero ls number s = (printed_for_lines plan bound number ls s, refl)
  first-begins (suc n) [] number s = ([], refl)
  first-begins (suc n) (l ∷ ls) number s =
      let given = given_by_line plan s.moment (meaning l) in
      let next = after_line plan bound s given in
      let first = printed_for_line plan bound number s given in
      let (zs, is) = first-begins n ls (number + 1) next in (
        zs,
        ap (λ (ps : List PrintedLine). first ++ ps) is
            ∙ sym (append_assoc first (printed_for_lines plan bound (number + 1) (take n ls) next) zs),
      )

  -- of fewer lines no more
  fewer-shorter : (n m : ℕ) (ls : List (List ℕ)) (number : ℕ) (s : Machine) → n ≤ m
      → length (printed_for_lines plan bound number (take n ls) s)
      ≤ length (printed_for_lines plan bound number (take m ls) s)
  fewer-shorter zero m ls number s few = omega arith
  fewer-shorter (suc n) zero ls number s few = absurd (omega arith)
  fewer-shorter (suc n) (suc m) [] number s few = omega arith
  fewer-shorter (suc n) (suc m) (l ∷ ls) number s few =
      let given = given_by_line plan s.moment (meaning l) in
      let next = after_line plan bound s given in
      let first = printed_for_line plan bound number s given in
      let rest = fewer-shorter n m ls (number + 1) next (omega arith) in
      let one = length-append first (printed_for_lines plan bound (number + 1) (take n ls) next) in
      let two = length-append first (printed_for_lines plan bound (number + 1) (take m ls) next) in
      omega (arith, rest, one, two)

  module _ (log : List ℕ) where
    -- a line that is before comes in what is printed for the log
    before-within : (line : Line) (number : ℕ) (display : List PrintedLine)
        → IsBefore plan bound log line number display
        → (more : List PrintedLine) × (printed_for_log plan bound log ≡ display ++ Traced line ∷ more)
    before-within line number display h =
        let (zs, is) = first-begins number (lines log) 1 (initial plan) in (
          h.later ++ zs,
          is ∙ ap (λ (ps : List PrintedLine). ps ++ zs) h.next_is
              ∙ append_assoc display (Traced line ∷ h.later) zs,
        )

    -- what was printed before the line says of which line of the log it is
    number-below : (line other : Line) (n m : ℕ) (display : List PrintedLine) → IsBefore plan bound log line n display
        → IsBefore plan bound log other m display → n < m → ⊥
    number-below line other n m display h k below =
        let most = fewer-shorter n (m - 1) (lines log) 1 (initial plan) (omega (arith, below)) in
        let one = ap length h.next_is ∙ length-append display (Traced line ∷ h.later) in
        let two = ap length k.shown_is ∙ length-append (printed_for_first plan bound (m - 1) log) k.begun in
        omega (arith, most, one, two)

    number-same : (line other : Line) (n m : ℕ) (display : List PrintedLine) → IsBefore plan bound log line n display
        → IsBefore plan bound log other m display → n ≡ m
    number-same line other n m display h k =
        elim (cases_lt n m) [
          | inl below ↦ absurd (number-below line other n m display h k below)
          | inr above ↦
              elim (cases_lt m n) [
                | inl below ↦ absurd (number-below other line m n display k h below)
                | inr equal ↦ omega arith
              ]
        ]

-- ---- the end of a log

record IsSameEnd (output found : List PrintedLine) (a b : RigView) : Type 0 where
  printed_is : output ≡ found
  moment_is : a.machine.moment ≡ b.machine.moment
  coils_are : coils_to_put_off a ≡ coils_to_put_off b
  alike : a.board.answers ≡ b.board.answers
  tells : TellsAll a.board

module _ (c : CheckedView) (log : List ℕ) (board twin : BoardView) (same : board.answers ≡ twin.answers)
    (tells : TellsAll board) where
  module _ (output found : List PrintedLine) (a b : RigView) where
    out-out : IsPlayedOut c.plan c.bound log (at_rest c board) output a
        → IsPlayedOut c.plan c.bound log (at_rest c twin) found b → IsSameEnd output found a b
    out-out h k =
        let one : output ≡ found = h.printed_is ∙ sym k.printed_is in
        let moment : a.machine.moment ≡ b.machine.moment =
        ap (λ (s : Machine). s.moment) (h.machine_is ∙ sym k.machine_is) in
        let sent : a.sent ≡ b.sent = h.service.sent_is
        ∙ ap (λ (ps : List PrintedLine). after_lines (trace_in ps) (at_rest c board).sent) one
        ∙ sym k.service.sent_is in
        let taken = subst (λ (ps : List PrintedLine). HasTakenAll (commands_of (trace_in ps)) board a.board) one
        h.service.board_takes in
        record {
          printed_is = one;
          moment_is = moment;
          coils_are = coils-same a b moment sent (h.service.running ∙ sym k.service.running)
              (h.service.checked_is ∙ sym k.service.checked_is);
          alike = all-alike (commands_of (trace_in found)) board twin a.board b.board same taken k.service.board_takes;
          tells = all-tells (commands_of (trace_in found)) board a.board tells taken;
        }

    cut-cut : IsCutOff c.plan c.bound log (at_rest c board) output a
        → IsCutOff c.plan c.bound log (at_rest c twin) found b → IsSameEnd output found a b
    cut-cut h k =
        let (more, is) = before-within c.plan c.bound log h.line h.number h.display h.before in
        let (rest, too) = before-within c.plan c.bound log k.line k.number k.display k.before in
        elim (two-places h.display k.display more rest (Traced h.line) (Traced k.line) (sym is ∙ too)) [
          | inl both ↦ at_one h k both.0 both.1
          | inr (inl after) ↦
              absurd (taken-past h.display after.0 k.display h.line h.command twin board k.mid.board h.mid.board a.board
              (sym same) (alike-tells board twin same tells) h.line_is after.1
              k.service.board_takes h.service.board_takes h.halt.not_taken)
          | inr (inr after) ↦
              absurd (taken-past k.display after.0 h.display k.line k.command board twin h.mid.board k.mid.board b.board
              same tells k.line_is after.1 h.service.board_takes k.service.board_takes k.halt.not_taken)
        ]
      where
        at_one : (h : IsCutOff c.plan c.bound log (at_rest c board) output a)
            (k : IsCutOff c.plan c.bound log (at_rest c twin) found b) → h.display ≡ k.display
            → Traced h.line ≡ Traced k.line → IsSameEnd output found a b
        at_one h k shown_is traced_is =
            let line_is : h.line ≡ k.line = cc in
            let command_is : happenings.Coil h.command ≡ happenings.Coil k.command = sym h.line_is
            ∙ ap (λ (l : Line). l.happening) line_is ∙ k.line_is in
            let coil_is : a.faulted_coil ≡ b.faulted_coil = h.halt.halt
            ∙ ap (λ (x : Command). Some (coil_of x)) (of-coil command_is) ∙ sym k.halt.halt in
            let number_is : h.number ≡ k.number =
            number-same c.plan c.bound log h.line k.line h.number k.number k.display
            (subst (λ (ps : List PrintedLine). IsBefore c.plan c.bound log h.line h.number ps) shown_is h.before)
            k.before in
            let moment : a.machine.moment ≡ b.machine.moment = h.moment_is ∙ ap (λ (l : Line). l.moment) line_is
            ∙ sym k.moment_is in
            let sent : a.sent ≡ b.sent =
            h.halt.sent_is ∙ h.service.sent_is
            ∙ ap (λ (ps : List PrintedLine). after_lines (trace_in ps) (at_rest c board).sent) shown_is
            ∙ sym (k.halt.sent_is ∙ k.service.sent_is) in
            let taken = subst (λ (ps : List PrintedLine). HasTakenAll (commands_of (trace_in ps)) board h.mid.board)
            shown_is h.service.board_takes in
            let mid = all-alike (commands_of (trace_in k.display)) board twin h.mid.board k.mid.board same taken
            k.service.board_takes in
            let mid_tells = all-tells (commands_of (trace_in k.display)) board h.mid.board tells taken in
            record {
              printed_is =
                  h.printed_is ∙ ap (λ (ps : List PrintedLine). ps ++ Refused h.number (Step BoardFault) ∷ []) shown_is
                  ∙ ap (λ (n : ℕ). k.display ++ Refused n (Step BoardFault) ∷ []) number_is ∙ sym k.printed_is;
              moment_is = moment;
              coils_are = coils-same a b moment sent coil_is
                  (h.halt.checked_is ∙ h.service.checked_is ∙ sym (k.halt.checked_is ∙ k.service.checked_is));
              alike = answered-alike false h.mid.board k.mid.board a.board b.board mid h.halt.not_taken.answer
                  k.halt.not_taken.answer;
              tells = answered-tells false h.mid.board a.board mid_tells h.halt.not_taken.answer;
            }
          where
            of-coil : {x y : Command} → happenings.Coil x ≡ happenings.Coil y → x ≡ y
            of-coil e = cc

-- a log that is played out on one board is not cut off on the other
out-cut : (c : CheckedView) (log : List ℕ) (board twin : BoardView) (output found : List PrintedLine) (a b : RigView)
    → board.answers ≡ twin.answers → TellsAll board
    → IsPlayedOut c.plan c.bound log (at_rest c board) output a → IsCutOff c.plan c.bound log (at_rest c twin) found b
    → ⊥
out-cut c log board twin output found a b same tells h k =
    let (more, is) = before-within c.plan c.bound log k.line k.number k.display k.before in
    taken-past k.display more output k.line k.command board twin a.board k.mid.board b.board same tells k.line_is
    (h.printed_is ∙ is) h.service.board_takes k.service.board_takes k.halt.not_taken

same-end : (c : CheckedView) (log : List ℕ) (board twin : BoardView) (output found : List PrintedLine) (a b : RigView)
    → board.answers ≡ twin.answers → TellsAll board
    → IsEnd c.plan c.bound log (at_rest c board) output a → IsEnd c.plan c.bound log (at_rest c twin) found b
    → IsSameEnd output found a b
same-end c log board twin output found a b same tells (inl h) (inl k) =
    out-out c log board twin same tells output found a b h k
same-end c log board twin output found a b same tells (inr h) (inr k) =
    cut-cut c log board twin same tells output found a b h k
same-end c log board twin output found a b same tells (inl h) (inr k) =
    absurd (out-cut c log board twin output found a b same tells h k)
same-end c log board twin output found a b same tells (inr h) (inl k) =
    absurd (out-cut c log twin board found output b a (sym same) (alike-tells board twin same tells) k h)

-- ---- the laws

pub taken-played_out : TakenIsPlayedOut
taken-played_out c log board last before after verdict takes play =
    let out = played_out play.output play.rig play.end in (
      out,
      play.verdict_is ∙ ap log_verdict out.printed_is,
      off-all (coils_to_put_off play.rig) play.rig.board last play.off play.faults
          (all-takes (commands_of (trace_in play.output)) board play.rig.board takes out.service.board_takes)
          play.put_off,
    )
  where
    played_out : (output : List PrintedLine) (rig : RigView) → IsEnd c.plan c.bound log (at_rest c board) output rig
        → IsPlayedOut c.plan c.bound log (at_rest c board) output rig
    played_out output rig x3 = search (rules, all-takes, no_fault)

pub answers-fix_play : AnswersFixThePlay
answers-fix_play c log board twin last twin_last before after start end verdict found tells same play again =
    let one = same-end c log board twin play.output again.output play.rig again.rig same tells play.end again.end in
    let off =
    off-same (coils_to_put_off again.rig) play.rig.board again.rig.board last twin_last play.off again.off play.faults
    again.faults one.alike one.tells
    (subst (λ (cs : List CoilId). ArePutOff cs play.rig.board play.off play.faults last) one.coils_are play.put_off)
    again.put_off in
    let text =
    ap (λ (ps : List PrintedLine). printed_texts c.plan ps ++ off_texts c.plan play.rig.machine.moment play.off)
    one.printed_is
    ∙ ap (λ (m : ℕ). printed_texts c.plan again.output ++ off_texts c.plan m play.off) one.moment_is
    ∙ ap (λ (cs : List CoilId). printed_texts c.plan again.output ++ off_texts c.plan again.rig.machine.moment cs) off
    in (
      one.printed_is,
      off,
      play.verdict_is ∙ ap log_verdict one.printed_is
          ∙ sym again.verdict_is,
      (_, subst (λ (bs : List ℕ). Appends before after bs) text play.text, again.text),
    )
