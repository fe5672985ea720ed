use Rattle.std.proofs.Common.{rules}
use Rattle.plan_parts.specs.View.{pieces_text}
use Rattle.mpf_plan.proofs.Noted.{noted, noted_number}
use Rattle.mpf_plan.proofs.numbering.note.Goals as goal

pub returns-clause-names : goal.returns-clause-names
returns-clause-names c =
    noted c.args.names.now (c.args.table, pieces_text c.args.name) c.index.result c.index_mut.result.now c.index.ensures
    c.index_mut.ensures.value _ c.note_pieces.new.table (search rules)
    c.in_ok-number.ensures.limit c.in_ok-number.ensures.names

pub returns-clause-number : goal.returns-clause-number
returns-clause-number c named =
    noted_number c.args.names.now (c.args.table, pieces_text c.args.name) c.index.result c.index_mut.result.now
    c.index.ensures c.index_mut.ensures.value
    c.in_ok-number.number c.as_kept.result c.in_ok-number.ensures.number c.as_kept.ensures named
