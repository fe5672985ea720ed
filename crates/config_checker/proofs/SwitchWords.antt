-- The names of a plan's switches are well formed, if every name in its rows is.
use Rattle.std.{proofs.{Common.{ℕ, ◌≤◌, List, length, ap, arith}, lemmas.List.Elements.All-weaker}, specs.List.All}
use Rattle.mpf_config.specs.{Rows.Rows, Named.IsNamedMode}
use Rattle.mpf_sections.specs.Named.{IsName, IsNamed}
use Rattle.plan_tables.specs.{declared.table.Table.TheVariants.Switches, Limits.entry_names}
use Rattle.mpf_plan.{specs.PlanOf.plan_of, proofs.EventNames.switch_names}
use Rattle.config_checker.{specs.CertificateOf.IsWord, proofs.EventWords.name-in_word}

name-word : (name : List ℕ) → IsName name → IsWord name
name-word name h = let some = h.some
    in record { some = λ none. omega (arith, some, ap length none); letters = name-in_word name h }

module _ (rows : Rows) (machine : All IsNamed rows.machine) (modes : All IsNamedMode rows.modes) where
  switches_are_named : All IsName (entry_names (plan_of rows) Switches)
  switches_are_named = switch_names rows machine modes

  pub switches_are_words : All IsWord (entry_names (plan_of rows) Switches)
  switches_are_words = All-weaker IsName IsWord name-word (entry_names (plan_of rows) Switches) switches_are_named

  pub switches_are_few : All (λ name. length name ≤ 64) (entry_names (plan_of rows) Switches)
  switches_are_few = All-weaker IsName (λ name. length name ≤ 64) (λ name h. h.few)
      (entry_names (plan_of rows) Switches) switches_are_named
