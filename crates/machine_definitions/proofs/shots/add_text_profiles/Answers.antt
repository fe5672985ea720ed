use Rattle.std.proofs.Common.{◌+◌, List, Option, fold, map, drop, sym, ap, ◌∙◌}
use Rattle.std.{specs.List.flat_map, proofs.lemmas.{Grind.fold-append, List.map-append}}
use Rattle.mpf_sections.specs.{TypedShots.{shot_profile_of, shot_profiles_in}, View.section_view}
use Rattle.machine_definitions.specs.{Shots.{Profile, profile_of, latest_profile}, Found.found_profile}
use Rattle.machine_definitions.proofs.Finding.{next-is}
use Rattle.mpf_sections.proofs.ShotRows.{shot_profiles_are}
use Rattle.machine_definitions.proofs.shots.add_text_profiles.Goals as goal

pub loop-section-preserved : goal.loop-section-preserved
loop-section-preserved c = λ name.
    let l = c.loop-section in
    let latest = fold (latest_profile name) in
    let profiles = λ (sections : List _). map profile_of (flat_map shot_profiles_in (map section_view sections)) in
    let rest = drop (l.section-index + 1) c.args.sections.now in
    let section = section_view c.section-item.result in
    let own = ap (λ es. map profile_of (map shot_profile_of es)) c.entries_of.ensures
    ∙ ap (map profile_of) (shot_profiles_are section) in
    ap (λ (o : Option Profile). latest o (profiles rest))
    (c.in_ok-add_profiles.ensures name ∙ ap (latest (found_profile l.profiles name)) own)
    ∙ sym (fold-append (latest_profile name) (found_profile l.profiles name) (map profile_of (shot_profiles_in section))
    (profiles rest))
    ∙ ap (latest (found_profile l.profiles name))
    (sym (map-append profile_of (shot_profiles_in section) (flat_map shot_profiles_in (map section_view rest))))
    ∙ next-is (λ sections. latest (found_profile l.profiles name) (profiles sections)) c.args.sections.now
    l.section-index c.section-item.result c.loop-section-test.true c.section-item.is
    ∙ l.invariant name
