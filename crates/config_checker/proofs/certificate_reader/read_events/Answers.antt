use Rattle.std.proofs.Common.{rules, ◌≡◌, ℕ, ◌+◌, ◌==◌, false, List, length, Option, Err, option_map, codes}
use Rattle.std.proofs.lemmas.{Bool.cond-false, List.length-map}
use Rattle.config_checker.specs.{CertificateText.NumberedName, CertificateOf.{parts, front, first_event, end_of_lines}}
use Rattle.config_checker.proofs.CertificateLines.{ends_where_empty}
use Rattle.config_checker.proofs.certificate_reader.read_events.Goals as goal

-- something comes after the events
not_ended : (bound : ℕ) (switches : Option NumberedName) (text rest : List ℕ) (events : NumberedName)
    → front (codes "event") (parts 10 text) ≡ (events, parts 10 rest) → (length rest == 0) ≡ false
    → end_of_lines bound switches (front (codes "event") (parts 10 text)) ≡ Err (first_event switches + length events)
not_ended bound switches text rest events read some = search (rules, cond-false, ends_where_empty)

pub returns-then-not-is_empty : goal.returns-then-not-is_empty
returns-then-not-is_empty c = search (rules, option_map, length-map, not_ended)
