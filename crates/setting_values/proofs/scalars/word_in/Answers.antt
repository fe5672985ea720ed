use Rattle.std.{proofs.Common.{rules, ℕ, List, [], get_or}, specs.Borrow.Bor}
use Rattle.setting_values.{specs.Reading.is_one_of, proofs.Finding.any_here}
use Rattle.setting_values.proofs.scalars.word_in.Goals as goal
use Rattle.yaml_bytes.proofs.Words.{word_is}

-- the word that a place past the end would have
abbrev no_word : Bor (List ℕ)
no_word = record { ref_ptr = (0, 0); now = [] }

pub returns-then-eq : goal.returns-then-eq
unfolding is_one_of
returns-then-eq c = search (rules, get_or, any_here, word_is)
