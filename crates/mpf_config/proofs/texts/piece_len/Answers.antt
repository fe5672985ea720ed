use Rattle.std.proofs.Common.{sym}
use Rattle.mpf_config.proofs.PieceSearch.{piece_ends, piece_is_whole}
use Rattle.mpf_config.proofs.texts.piece_len.Goals as goal

pub returns-in-None-clause-value : goal.returns-in-None-clause-value
returns-in-None-clause-value c = sym (piece_is_whole c.args.bundle.now c.in-None.ensures)

pub returns-in-Some-clause-value : goal.returns-in-Some-clause-value
returns-in-Some-clause-value c = sym (piece_ends c.args.bundle.now c.in-Some.end c.in-Some.ensures)
