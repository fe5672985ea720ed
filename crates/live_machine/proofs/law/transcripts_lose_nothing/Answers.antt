use Rattle.live_machine.proofs.Laws.{transcripts_lose_nothing}
use Rattle.live_machine.proofs.law.transcripts_lose_nothing.Goals as goal

pub returns : goal.returns
returns c = transcripts_lose_nothing
