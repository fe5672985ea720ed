use Rattle.std.{proofs.Common.{◌≡◌, ◌||◌, ℕ, List, [], ◌∷◌, map, option_map, drop, ◌+◌, ap, ◌∙◌}, specs.Str.bytes_eq}
use Rattle.mpf_sections.specs.View.{name_view, shot_view}
use Rattle.machine_definitions.{specs.Found.is_found, proofs.Finding.{took-name, next-is}}
use Rattle.row_faults.specs.declared.fault.RowFaultKind.TheVariants as kinds
use Rattle.row_faults.specs.{CoilFaults.fault_if, Collected.{with_faults, group_faults}}
use Rattle.row_faults.specs.ShotFaults.{ListedShot, listed_with, taken_with, taken_after, is_misplaced}
use Rattle.row_faults.proofs.{Collected.{group-more, fault-kept}, Listed.taken-more}
use Rattle.row_faults.proofs.shot_faults.add_listed.Goals as goal

pub loop-name-preserved : goal.loop-name-preserved
loop-name-preserved c =
    let l = c.loop-name in
    let f = l.faults in
    let own = is_found c.args.own.now in
    let first = option_map shot_view c.args.first in
    let name = name_view c.name-item.result in
    let it : ListedShot = record { first = first; shot = name } in
    let listed = λ (names : List _). listed_with first (map name_view names) in
    let rest = listed (drop (l.name-index + 1) c.args.group_names.now) in
    let judged = c.is_misplaced-is_fault.ensures name.line
    ∙ ap (λ (text : List ℕ). is_misplaced f.rows own (is_found l.shots_before)
    (record { first = first; shot = record { line = name.line; text = text } })) c.deref.ensures in
    let found : c.add_if.new.faults ≡ with_faults f (group_faults f own (is_found l.shots_before) (it ∷ [])) =
    c.in_ok-add_if.ensures
    ∙ (λ i. with_faults f (fault_if (judged i) kinds.Name f.text (c.at.ensures i)))
    ∙ ap (with_faults f) (fault-kept (is_misplaced f.rows own (is_found l.shots_before) it) f.text name) in
    let taken : is_found c.insert.new.self ≡ taken_with it (is_found l.shots_before) =
    λ i q. (took-name l.shots_before c.insert.new.self c.deref-in-loop-name.result c.in_ok-insert.ensures.updates q
    ∙ ap (λ key. is_found l.shots_before q || bytes_eq q key) c.deref-in-loop-name.ensures) i in
    record {
      found_faults =
          group-more f c.add_if.new.faults own (is_found l.shots_before) (is_found c.insert.new.self) (it ∷ []) rest
          found taken
          ∙ next-is (λ names. with_faults f (group_faults f own (is_found l.shots_before) (listed names)))
          c.args.group_names.now l.name-index c.name-item.result c.loop-name-test.true c.name-item.is
          ∙ l.invariant.found_faults;
      taken =
          taken-more (is_found l.shots_before) (is_found c.insert.new.self) (it ∷ []) rest taken
          ∙ next-is (λ names. taken_after (is_found l.shots_before) (listed names)) c.args.group_names.now l.name-index
          c.name-item.result c.loop-name-test.true c.name-item.is
          ∙ l.invariant.taken;
    }
