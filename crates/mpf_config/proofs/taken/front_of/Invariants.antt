use Rattle.std.proofs.Common.{◌≡◌, ◌++◌, [], drop}
use Rattle.mpf_config.specs.Apart.{join_texts}
use Rattle.mpf_config.proofs.taken.front_of.Given as goal

abbrev pub invariant-loop-byte : goal.invariant-loop-byte
invariant-loop-byte l = l.front.items ++ join_texts (drop l.byte-index l.section) [] ≡ join_texts l.section []
