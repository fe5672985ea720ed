use Rattle.std.proofs.Common.{rules, ◌≡◌, Option, option_map, is_some}
use Rattle.machine_definitions.specs.declared.profile.Profile as profiles
use Rattle.machine_definitions.{specs.Found.profile_view, proofs.Finding.value-found}
use Rattle.machine_definitions.proofs.definitions.Definitions.has_profile.Goals as goal

seen : (o : Option profiles.Profile) → is_some o ≡ is_some (option_map profile_view o)
seen x1 = search rules

pub returns-else-eq : goal.returns-else-eq
returns-else-eq c = search (rules, seen, is_some, value-found)
