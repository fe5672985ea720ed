-- Where the hashers of keys and names start.
use Rattle.std.specs.{Prelude.{ℕ, List}, List.fold, declared.hash.FoldHasher.FoldHasher}
use Rattle.std.specs.Hash.FoldHasher as folding
use Rattle.std.specs.Hash.DefaultHasher as sip
use Rattle.std.specs.Hash as fed

-- a hasher that has hashed the SipHash of a text
abbrev pub start_after : List ℕ → FoldHasher
start_after text = fold folding.write folding.initial (fed.u64 (sip.finish (sip.write sip.initial text)))
