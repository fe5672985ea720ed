-- Texts that are handled events.
use Rattle.std.specs.Prelude.{◌≡◌, ℕ, List, [], ◌++◌, Option, Some, None, ℤ, codes}
use Rattle.mpf_values.specs.declared.handled.Comparison.{Comparison, TheVariants.GreaterOrEqual}
use Rattle.mpf_values.specs.{Integers.IsInteger, Names.IsName}
use Rattle.mpf_values.specs.declared.handled.Comparison.TheVariants.{Equal, NotEqual, Less, LessOrEqual, Greater}
use Rattle.yaml_bytes.specs.Plain.{AreBlank}

-- that a variable of the current player compares so with a number
pub record EventCondition : Type 0 where
  pub variable : List ℕ
  pub comparison : Comparison
  pub number : ℤ

-- an event, and the condition under which it is handled
pub record Event : Type 0 where
  pub name : List ℕ
  pub condition : Option EventCondition

-- the comparison that an operator means
pub data IsOperator : List ℕ → Comparison → Type 0 where
  equal : IsOperator (codes "==") Equal
  not_equal : IsOperator (codes "!=") NotEqual
  less : IsOperator (codes "<") Less
  less_or_equal : IsOperator (codes "<=") LessOrEqual
  greater : IsOperator (codes ">") Greater
  greater_or_equal : IsOperator (codes ">=") GreaterOrEqual

-- A condition in braces, with blanks directly inside them and around the operator.
pub record IsCondition (text : List ℕ) (c : EventCondition) : Type 0 where
  pub inside : List ℕ
  pub left : List ℕ
  pub operator : List ℕ
  pub right : List ℕ
  pub number : List ℕ
  pub after : List ℕ
  pub parts : text ≡ codes "{" ++ (inside ++ (codes "current_player."
      ++ (c.variable ++ (left ++ (operator ++ (right ++ (number ++ (after ++ codes "}"))))))))
  pub inside_blank : AreBlank inside
  pub left_blank : AreBlank left
  pub right_blank : AreBlank right
  pub after_blank : AreBlank after
  pub is_variable : IsName c.variable
  pub is_operator : IsOperator operator c.comparison
  pub is_number : IsInteger number c.number

-- what comes after the name of an event: a condition or nothing
abbrev pub IsUnder : List ℕ → Option EventCondition → Type 0
IsUnder text None = text ≡ []
IsUnder text (Some c) = IsCondition text c

-- the event that a text says is handled
pub record IsEvent (text : List ℕ) (e : Event) : Type 0 where
  pub rest : List ℕ
  pub parts : text ≡ e.name ++ rest
  pub is_name : IsName e.name
  pub is_under : IsUnder rest e.condition
