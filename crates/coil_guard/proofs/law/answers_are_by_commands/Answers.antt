use Rattle.coil_guard.proofs.Lawful.{answers_are_by_commands, states_say_what_is_on, states_say_who_holds, lowest_is_on}
use Rattle.coil_guard.proofs.Lawful.{lowest_is_released}
use Rattle.coil_guard.proofs.law.answers_are_by_commands.Goals as goal

pub returns-clause-answers : goal.returns-clause-answers
returns-clause-answers c = answers_are_by_commands

pub returns-clause-on : goal.returns-clause-on
returns-clause-on c = states_say_what_is_on

pub returns-clause-holds : goal.returns-clause-holds
returns-clause-holds c = states_say_who_holds

pub returns-clause-next_on : goal.returns-clause-next_on
returns-clause-next_on c = lowest_is_on

pub returns-clause-release : goal.returns-clause-release
returns-clause-release c = lowest_is_released
