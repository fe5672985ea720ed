-- Texts on a page, and those that go from it to a writer.
use Rattle.std.specs.{Prelude.{◌≡◌, ℕ, ◌+◌, Option, List, ◌++◌, length, take}, Io.KnownBytes.{Appends, append_known}}

-- what was written, and then what is on the page, has grown by the text
abbrev pub Puts : Option (List ℕ) → List ℕ → Option (List ℕ) → List ℕ → List ℕ → Type 0
Puts written page written_after page_after text =
    Appends (append_known written page) (append_known written_after page_after) text

-- the text is at the place, after the bytes that were before it; what is after it may be anything
pub record IsPlaced (at : ℕ) (text old new : List ℕ) : Type 0 where
  pub text_is : take (at + length text) new ≡ take at old ++ text
  pub size : length new ≡ length old
