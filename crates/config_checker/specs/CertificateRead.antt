-- What contracts see of a certificate that was read.
use Rattle.std.specs.Prelude.{◌≡◌, ℕ, Bool, Option, Some, MatchOption, option_map, Result, Ok, Err, List, [], map}
use Rattle.std.specs.{Borrow.Bor, Global.Vec}
use Rattle.plan_tables.specs.PlanView.{PlanView}
use Rattle.cascade_rank.specs.{Events.weight_of, Weights.switch_costs}
use Rattle.written_machine.specs.CheckedView.{CheckedView}
use Rattle.config_checker.specs.declared.certificate_reader.CertificateLines.{CertificateLines}
use Rattle.config_checker.specs.declared.certificate_reader.{CertificateLine.CertificateLine, ReadFault.ReadFault}
use Rattle.config_checker.specs.declared.certificate_reader.ReadFault.TheVariants as faults
use Rattle.config_checker.specs.{CertificateText.{NumberedName, Certificate}, Certified.judge, Checking.first_other}
use Rattle.config_checker.specs.CertificateOf.{lines, with_line, front, bound_at, body_at, certificate_at}
use Rattle.config_checker.specs.Checking.{CertificateFaultView, FaultView, names_of, numbers_of, wrong_names}

abbrev pub line_view : CertificateLine → List ℕ × ℕ
line_view line = (line.name.now, line.number)

abbrev pub lines_view : List CertificateLine → NumberedName
lines_view lines = map line_view lines

abbrev pub certificate_lines_view : CertificateLines → Certificate
certificate_lines_view c =
    record {
      bound = c.bound;
      switches = option_map (λ v. lines_view v.items) c.switches;
      events = lines_view c.events.items;
    }

-- An answer is what the text is, unless memory ran out.
abbrev pub GivesCertificate : Result CertificateLines ReadFault → Result Certificate ℕ → Type 0
GivesCertificate (Ok lines) certificate = certificate ≡ Ok (certificate_lines_view lines)
GivesCertificate (Err faults.NoMemory) certificate = Unit {0}
GivesCertificate (Err (faults.Line number)) certificate = certificate ≡ Err number

-- ---- the first two lines

-- whether the first line announces switches is found, and the text after it; or that line is bad
abbrev pub ReadsHeading : (text : List ℕ) → Option (Bool × Bor (List ℕ)) → Type 0
ReadsHeading text answer = MatchOption answer (certificate_at text ≡ Err 1)
    (λ x. certificate_at text ≡ bound_at x.0 (lines x.1.now))

-- the bound that the second line states is found, and the text after it; or that line is bad
abbrev pub ReadsBound : (text : List ℕ) → Option (ℕ × Bor (List ℕ)) → Type 0
ReadsBound text answer =
    (lists_switches : Bool) → MatchOption answer (bound_at lists_switches (lines text) ≡ Err 2)
    (λ x. bound_at lists_switches (lines text) ≡ body_at lists_switches x.0 (lines x.1.now))

-- ---- lines `WORD NAME NUMBER`

-- the line, if there is one, states this name with this number
abbrev pub States : Option CertificateLine → Option (List ℕ × ℕ) → Type 0
States line statement = option_map line_view line ≡ statement

-- the text has no such line with this word at its front
abbrev pub HasNoLeadingLine : (word text : List ℕ) → Type 0
HasNoLeadingLine word text = front word (lines text) ≡ ([], lines text)

-- at the front of the text is this line with the word, and then the text after it
abbrev pub HasLeadingLine : (word text : List ℕ) → CertificateLine × Bor (List ℕ) → Type 0
HasLeadingLine word text begun = front word (lines text)
    ≡ with_line (Some (line_view begun.0)) [] (front word (lines begun.1.now))

-- at the front of the text are just these lines with the word, and then the text after them
abbrev pub AreLeadingLines : (word text : List ℕ) → Vec CertificateLine × Bor (List ℕ) → Type 0
AreLeadingLines word text answer = front word (lines text) ≡ (lines_view answer.0.items, lines answer.1.now)

-- ---- what the lines state

-- the names of lines, and their numbers
abbrev pub stated_names : List CertificateLine → List (List ℕ)
stated_names lines = names_of (lines_view lines)

abbrev pub stated_numbers : List CertificateLine → List ℕ
stated_numbers lines = numbers_of (lines_view lines)

-- the switches that a certificate states with their costs, if it does
abbrev pub stated_switches : Option (Vec CertificateLine) → Option NumberedName
stated_switches switches = option_map (λ v. lines_view v.items) switches

-- what is wrong with the names of a certificate
abbrev pub wrong_stated_names : PlanView → CertificateLines → Option CertificateFaultView
wrong_stated_names plan c = wrong_names plan (certificate_lines_view c)

-- the first of the lines that states another cost than its switch has at these weights: the name, and the right cost
abbrev pub wrong_stated_cost : PlanView → (weights : List ℕ) → List CertificateLine → Option (List ℕ × ℕ)
wrong_stated_cost plan weights switches = first_other (lines_view switches) (switch_costs plan (weight_of weights))

-- this name with this cost, if there is one, is that
abbrev pub FindsNamedCost : Option (Bor (List ℕ) × ℕ) → Option (List ℕ × ℕ) → Type 0
FindsNamedCost answer cost = option_map (λ s. (s.0.now, s.1)) answer ≡ cost

-- a certificate, whose names are those of the plan, as it is judged
abbrev pub judged_lines : PlanView → CertificateLines → Result CheckedView FaultView
judged_lines plan c = judge plan (certificate_lines_view c)
