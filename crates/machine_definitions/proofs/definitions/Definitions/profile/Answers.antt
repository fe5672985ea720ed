use Rattle.std.{proofs.Common.{rules, ◌≡◌, Option, option_map, unwrap_or, Bor}, specs.Option.option_copied}
use Rattle.machine_definitions.specs.declared.profile.Profile as profiles
use Rattle.machine_definitions.{specs.Found.profile_view, proofs.Finding.value-found}
use Rattle.machine_definitions.proofs.definitions.Definitions.profile.Goals as goal

-- the one that is found, or the other, as it is seen
seen : (o : Option (Bor profiles.Profile)) (other : Bor profiles.Profile)
    → profile_view (unwrap_or o other).now
    ≡ unwrap_or (option_map profile_view (option_copied o)) (profile_view other.now)
seen x1 other = search rules

pub returns : goal.returns
returns c = search (rules, unwrap_or, seen, option_map, value-found)
