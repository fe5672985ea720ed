use Rattle.yaml_subset.proofs.Theorem.{is_found, is_only, is_refused}
use Rattle.yaml_subset.proofs.reader.read_hashed.Goals as goal

pub returns-clause-found : goal.returns-clause-found
returns-clause-found c = is_found c.args.text.now c.read_exactly.result c.read_exactly.ensures

pub returns-clause-only : goal.returns-clause-only
returns-clause-only c = is_only c.args.text.now c.read_exactly.result c.read_exactly.ensures

pub returns-clause-refused : goal.returns-clause-refused
returns-clause-refused c = is_refused c.args.text.now c.read_exactly.result c.read_exactly.ensures
