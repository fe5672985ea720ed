use Rattle.std.proofs.{Common.{ℕ, List, [], ◌∷◌, ◌++◌, OnOk, codes, refl, subst}, KnownBytes.Appends-trans}
use Rattle.std.specs.Io.KnownBytes.{Appends}
use Rattle.config_checker.specs.{View.certificate_fault_view, ReportText.certificate_fault_text}
use Rattle.config_checker.proofs.report_text.write_fault.Goals as goal
use Rattle.yaml_bytes.proofs.Writing.{last_piece}

pub returns-in-Limit : goal.returns-in-Limit
returns-in-Limit g c =
    let Writes : List ℕ → Type 0 = λ text. OnOk c.writeln.result
    (Appends (g.W.Write.contents c.args.writer.now) (g.W.Write.contents c.writeln.new.self) text) in
    rw c.in-Limit.is (subst (λ (name : List ℕ). Writes (codes "fault 7 Limit " ++ name ++ 10 ∷ [])) c.name.ensures
    c.writeln.ensures.bytes)

pub returns-in_ok-write_certificate_fault-in-Certificate :
    goal.returns-in_ok-write_certificate_fault-in-Certificate
returns-in_ok-write_certificate_fault-in-Certificate g c =
    rw c.in-Certificate.is
    (last_piece c.write_all-in-Certificate.result _ _ _ _ (10 ∷ []) _ refl
    (Appends-trans _ _ _ (codes "fault 10 Certificate ")
    (certificate_fault_text (certificate_fault_view c.in-Certificate.fault))
    c.in_ok-write_all-in-Certificate.ensures.bytes c.in_ok-write_certificate_fault-in-Certificate.ensures)
    c.write_all-in-Certificate.ensures.bytes)
