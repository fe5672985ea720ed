-- `bytes_eq` is true exactly of words that are the same.
use Rattle.std.{proofs.{Common.{◌≡◌, ℕ, true, List}, lemmas.Slice.Eq.bytes_eq-Decides}, specs.Str.bytes_eq}

pub word_is : (key word : List ℕ) → bytes_eq key word ≡ true → key ≡ word
word_is key word e = (bytes_eq-Decides key word).0 e

pub is_word : (key word : List ℕ) → key ≡ word → bytes_eq key word ≡ true
is_word key word e = (bytes_eq-Decides key word).1 e
