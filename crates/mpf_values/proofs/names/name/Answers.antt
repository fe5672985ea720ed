use Rattle.std.proofs.Common.{refl, sym, ◌∙◌}
use Rattle.mpf_values.proofs.NameTexts.{IsName-from_is_name, is_no_name}
use Rattle.mpf_values.proofs.names.name.Goals as goal

pub returns-then-not-is_name-clause-refused : goal.returns-then-not-is_name-clause-refused
returns-then-not-is_name-clause-refused c = is_no_name c.args.text.now (sym c.is_name.ensures ∙ c.if-not-is_name.true)

pub returns-clause-found : goal.returns-clause-found
returns-clause-found c = (refl, IsName-from_is_name c.args.text.now (sym c.is_name.ensures ∙ c.if-not-is_name.false))
