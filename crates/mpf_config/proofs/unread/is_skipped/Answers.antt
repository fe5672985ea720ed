use Rattle.mpf_config.specs.Unread.{is_skipped}
use Rattle.mpf_config.proofs.unread.is_skipped.Goals as goal

pub returns : goal.returns
unfolding is_skipped
returns c = c.is_one_of.ensures
