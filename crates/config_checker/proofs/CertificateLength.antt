-- How long the text of a certificate is.
use Rattle.std.proofs.Common.{rules, ◌≡◌, ℕ, ◌+◌, ◌*◌, ◌≤◌, ◌^◌, List, [], ◌∷◌, ◌++◌, length, get_or, Ok, sym, ap, ◌∙◌}
use Rattle.std.{proofs.Common.{subst, arith, codes}, specs.{List.{All, zip}, Fmt.decimal}}
use Rattle.std.proofs.lemmas.{Fmt.length-decimal-le, Slice.Zip.{firsts-zip, seconds-zip}}
use Rattle.std.proofs.lemmas.List.{length-append, length-map, Concat.length-flat_map, Sums.sum_by-le}
use Rattle.mpf_config.{specs.{Rows.Rows, Reading.rows_at}, proofs.RowNames.{rows_are_named, modes_are_named}}
use Rattle.mpf_config.proofs.{ShortRows.{rows_are_short, rows_are_few}, StateRows.rows_have_states}
use Rattle.plan_tables.specs.{PlanView.PlanView, declared.table.Table.TheVariants.Switches, Limits.entry_names}
use Rattle.cascade_rank.specs.{Events.weight_of, Weights.{greatest, switch_costs}}
use Rattle.written_machine.specs.{CheckedView.CheckedView, Accepted.IsAccepted}
use Rattle.config_checker.specs.CertificateText.{NumberedName, numbered_line, numbered_lines, bound_line}
use Rattle.config_checker.specs.{CertificateText.certificate_text, Checking.checked_at}
use Rattle.config_checker.proofs.CertificateMeaning.{length-names, costs_counted}
use Rattle.config_checker.proofs.{Names.all_seen, EventWords.events_are_few, SwitchWords.switches_are_few}
use Rattle.config_checker.proofs.ReadBack.{costs_within, found_is_accepted, found-plan}

-- a number of a certificate has at most six digits
digits-few : (n : ℕ) → n ≤ greatest → length (decimal n) ≤ 6
digits-few n low = length-decimal-le 6 n (omega arith) (omega (arith, low)) (omega (arith, low))

-- so a line with a word of six bytes, for a name of at most so many, has at most fifteen more than the name
line-few : (word : List ℕ) (most : ℕ) (s : List ℕ × ℕ) → length word ≤ 6 → length s.0 ≤ most → s.1 ≤ greatest
    → length (numbered_line word s) ≤ most + 15
line-few word most s short few low = search (rules, digits-few, length-append)

bound-few : (bound : ℕ) → bound ≤ greatest → length (bound_line bound) ≤ 13
bound-few bound low = search (rules, digits-few, length-append)

lines-few : (word : List ℕ) (most : ℕ) (names : List (List ℕ)) (numbers : List ℕ) → length word ≤ 6
    → length numbers ≡ length names → All (λ name. length name ≤ most) names → All (λ n. n ≤ greatest) numbers
    → length (numbered_lines word (zip names numbers)) ≤ length names * (most + 15)
lines-few word most names numbers short count few low =
    let all : NumberedName = zip names numbers in
    let firsts = firsts-zip names numbers count in
    let named = all_seen (λ (s : List ℕ × ℕ). s.0) (λ name. length name ≤ most) all
    (subst (All (λ name. length name ≤ most)) (sym firsts) few) in
    let numbered = all_seen (λ (s : List ℕ × ℕ). s.1) (λ n. n ≤ greatest) all
    (subst (All (λ n. n ≤ greatest)) (sym (seconds-zip names numbers count)) low) in
    let each : All (λ s. length (numbered_line word s) ≤ most + 15) all =
    λ i d within. line-few word most (get_or all i d) short (named i d within) (numbered i d within) in
    let whole = length-flat_map (numbered_line word) all in
    let few = sum_by-le (λ s. length (numbered_line word s)) (most + 15) all each in
    let many : length all ≡ length names = sym (length-map all (λ (s : List ℕ × ℕ). s.0)) ∙ ap length firsts in
    subst (λ (n : ℕ). length (numbered_lines word all) ≤ n * (most + 15)) many (omega (arith, whole, few))

-- Names of events of at most 198 bytes, and of switches of at most 64, make a text of at most 2^20.
text-few : (c : CheckedView) → IsAccepted c → All (λ name. length name ≤ 198) c.plan.events
    → All (λ name. length name ≤ 64) (entry_names c.plan Switches) → length (certificate_text c) ≤ 2 ^ 20
text-few c accepted few short =
    let costs : List ℕ = switch_costs c.plan (weight_of c.weights) in
    let switches = lines-few (codes "switch") 64 (entry_names c.plan Switches) costs (omega arith)
    (costs_counted c accepted.weights_fit) short (costs_within c accepted.weights_fit) in
    let events = lines-few (codes "event") 198 c.plan.events c.weights (omega arith) accepted.weights_fit.count few
    accepted.weights_fit.limit.weights_within in
    let switch_limit : length c.plan.switches ≤ 256 = accepted.valid.switch_limit in
    let event_limit : length c.plan.events ≤ 4096 = accepted.valid.event_limit in
    let below = accepted.weights_fit.limit.bound_within in
    let stated = bound-few c.bound (omega (arith, below, accepted.weights_fit.bound_is)) in
    let first : List ℕ = codes "pinball-certificate 2" ++ 10 ∷ [] in
    let second : List ℕ = first ++ bound_line c.bound in
    let third : List ℕ = second ++ numbered_lines (codes "switch") (zip (entry_names c.plan Switches) costs) in
    let heading = length-append first (bound_line c.bound) in
    let front = length-append second (numbered_lines (codes "switch") (zip (entry_names c.plan Switches) costs)) in
    let whole = length-append third (numbered_lines (codes "event") (zip c.plan.events c.weights)) in
    omega (arith, switches, events, length-names c.plan, switch_limit, event_limit, stated, heading, front, whole)

-- If the rows are those of a bundle, the certificate of what is accepted is not longer than that.
pub certificate-few : (rows : Rows) (bundle : List ℕ) (c : CheckedView) → rows_at bundle ≡ Ok rows
    → checked_at rows ≡ Ok c → length (certificate_text c) ≤ 2 ^ 20
certificate-few rows bundle c read is =
    let machine = rows_are_named bundle rows read in
    let modes = modes_are_named bundle rows read in
    let states = rows_have_states bundle rows read in
    let plan = found-plan rows states c is in
    text-few c (found_is_accepted rows (rows_are_short bundle rows read) states (rows_are_few bundle rows read) c is)
    (subst (λ (p : PlanView). All (λ name. length name ≤ 198) p.events) (sym plan) (events_are_few rows machine modes))
    (subst (λ (p : PlanView). All (λ name. length name ≤ 64) (entry_names p Switches)) (sym plan)
    (switches_are_few rows machine modes))
