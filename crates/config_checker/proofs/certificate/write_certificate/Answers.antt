use Rattle.std.proofs.Common.{◌≡◌, ℕ, List, [], ◌∷◌, ◌++◌, Option, Some, Result, OnOk, codes, refl, subst}
use Rattle.std.{specs.Io.KnownBytes.Appends, proofs.KnownBytes.Appends-trans}
use Rattle.config_checker.specs.CertificateText.{NumberedName, bound_line, numbered_lines, text_of, certificate_of}
use Rattle.config_checker.proofs.certificate.write_certificate.Goals as goal
use Rattle.yaml_bytes.proofs.Writing.{last_piece}

written : {T E : Type 0} (r : Result T E) (b : ℕ) (switches events : NumberedName) (bound : ℕ)
    (w0 w1 w2 w3 w4 : Option (List ℕ)) → bound ≡ b
    → Appends w0 w1 (codes "pinball-certificate 2" ++ 10 ∷ []) → Appends w1 w2 (bound_line bound)
    → Appends w2 w3 (numbered_lines (codes "switch") switches)
    → OnOk r (Appends w3 w4 (numbered_lines (codes "event") events))
    → OnOk r (Appends w0 w4 (text_of (record { bound = b; switches = Some switches; events = events })))
written r b switches events bound w0 w1 w2 w3 w4 is_bound h k s rest =
    last_piece r w0 w3 w4 _ _ _ refl
    (Appends-trans w0 w2 w3 _ (numbered_lines (codes "switch") switches)
    (Appends-trans w0 w1 w2 (codes "pinball-certificate 2" ++ 10 ∷ []) (bound_line b) h
    (subst (λ (n : ℕ). Appends w1 w2 (bound_line n)) is_bound k)) s)
    rest

pub returns : goal.returns
returns g c =
    let checked = c.args.checked.now in
    written c.write_events.result checked.bound _ (certificate_of checked).events c.bound.result _ _ _ _ _
    c.bound.ensures.bound c.in_ok-writeln.ensures.bytes c.in_ok-writeln-2.ensures.bytes
    c.in_ok-write_switches.ensures c.write_events.ensures
