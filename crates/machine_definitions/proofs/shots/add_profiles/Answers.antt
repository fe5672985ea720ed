use Rattle.std.proofs.Common.{List, fold, map, drop, ◌+◌, Option, refl, ap, ◌∙◌}
use Rattle.mpf_sections.specs.{TypedShots.shot_profile_of, View.entry_view}
use Rattle.machine_definitions.specs.{Shots.{Profile, profile_of, latest_profile}, Found.{profile_view, found_profile}}
use Rattle.machine_definitions.proofs.Finding.{took-value, next-is}
use Rattle.machine_definitions.proofs.shots.add_profiles.Goals as goal

pub loop-entry-preserved : goal.loop-entry-preserved
loop-entry-preserved c = λ name.
    let l = c.loop-entry in
    let profile = c.in_ok-profile.profile in
    let seen = λ (o : Option Profile) (entries : List _). fold (latest_profile name) o
    (map profile_of (map shot_profile_of (map entry_view entries))) in
    let took = took-value profile_view l.profiles c.insert.new.self profile.name profile (profile_view profile).name
    refl c.in_ok-before.ensures.updates name in
    ap (λ (o : Option Profile). seen o (drop (l.entry-index + 1) c.args.entries.now))
    (took ∙ ap (latest_profile name (found_profile l.profiles name)) c.in_ok-profile.ensures)
    ∙ next-is (seen (found_profile l.profiles name)) c.args.entries.now l.entry-index c.entry-item.result
    c.loop-entry-test.true c.entry-item.is
    ∙ l.invariant name
