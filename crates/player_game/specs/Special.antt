-- The variables that have a meaning of their own.
use Rattle.std.specs.Prelude.{codes}
use Rattle.plan_tables.specs.PlanView.{PlanView, variable_named}
use Rattle.player_game.specs.declared.special.Special.{Special}

-- those of a plan
abbrev pub special_of : PlanView → Special
special_of plan = record {
  ball = variable_named plan (codes "ball");
  number = variable_named plan (codes "number");
  score = variable_named plan (codes "score");
}
