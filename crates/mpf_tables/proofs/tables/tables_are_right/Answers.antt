use Rattle.mpf_tables.proofs.TableNames.{shape_right}
use Rattle.mpf_tables.proofs.tables.tables_are_right.Goals as goal

pub returns : goal.returns
returns c = shape_right
