use Rattle.std.proofs.Common.{◌≡◌, true, false, List, ℕ, ap, sym, ◌∙◌, map}
use Rattle.machine_folder.specs.Bundles.{names_or_none}
use Rattle.machine_folder.proofs.modes.readable_mode_names.Goals as goal

pub returns-then-not-may_list_modes-clause-names : goal.returns-then-not-may_list_modes-clause-names
returns-then-not-may_list_modes-clause-names c = record {
  read = λ may. let no : false ≡ true = sym c.if-not-may_list_modes.true ∙ c.may_list_modes.ensures.1 may in cc;
  none = λ no. ap (map (λ name. name.items)) c.new.ensures.items;
}

pub returns-in-Ok-clause-names : goal.returns-in-Ok-clause-names
returns-in-Ok-clause-names c = record {
  read = λ may. sym (ap names_or_none c.in-Ok.ensures.exact);
  none = λ no. absurd (no (c.may_list_modes.ensures.0 c.if-not-may_list_modes.false));
}
