use Rattle.std.proofs.Common.{rules, option_map}
use Rattle.config_checker.proofs.reporting.named_fault.Goals as goal

pub names_of-requires : goal.names_of-requires
names_of-requires c = search rules

pub returns-in_ok-names_of-in-Cycle : goal.returns-in_ok-names_of-in-Cycle
returns-in_ok-names_of-in-Cycle c = search (rules, option_map)
