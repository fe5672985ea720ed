-- What a search for a byte finds, as a length.
use Rattle.std.proofs.Common.{rules, ◌≡◌, ℕ, Bool, List, length, Option, Some, None, slice_index, sym, arith}
use Rattle.std.specs.{List.position_or_len, Option.unwrap_or}
use Rattle.std.proofs.lemmas.{List.Sums.position_or_len_is, Bool.false_from_ne_true}
use Rattle.memchr.specs.Find.{IsFirstByte}

-- how many bytes come before the first that passes
pub len_before : (test : ℕ → Bool) (text : List ℕ) (found : Option ℕ) → IsFirstByte test text found
    → unwrap_or found (length text) ≡ position_or_len test text
len_before test text None none =
    sym (position_or_len_is test text (length text) 0 (omega arith)
    (λ k less. false_from_ne_true (test (slice_index text k)) (none k (omega arith) less))
    (λ more. absurd (omega arith)))
len_before test text (Some at) first = search (rules, position_or_len_is, false_from_ne_true, slice_index)
