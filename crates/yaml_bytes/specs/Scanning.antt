-- What a pass over a line finds.
use Rattle.std.specs.Prelude.{ℕ, suc, ◌+◌, ◌-◌, Bool, List, [], ◌∷◌, length, take, drop, Option, Some, None, ◌&&◌}
use Rattle.std.specs.{Prelude.{if◌then◌else◌, ◌==◌}, List.prefix_len}
use Rattle.yaml_bytes.specs.{Bytes.{is_blank, begins_gap}, Plain.ends_word}

-- how many bytes a plain word has up to where it ends, the blanks at its end too; `before` is the byte in front
abbrev pub word_len : Bool → ℕ → List ℕ → ℕ
word_len flow before [] = 0
word_len flow before (b ∷ bs) = if ends_word flow before (b ∷ bs) then 0 else suc (word_len flow b bs)

-- a byte in front of a text; a blank in front of nothing is dropped
abbrev pub onto_trimmed : ℕ → List ℕ → List ℕ
onto_trimmed b [] = if is_blank b then [] else b ∷ []
onto_trimmed b (c ∷ cs) = b ∷ c ∷ cs

-- without the blanks at the end
abbrev pub trim_blanks : List ℕ → List ℕ
trim_blanks [] = []
trim_blanks (b ∷ bs) = onto_trimmed b (trim_blanks bs)

-- without the blanks at the front
abbrev pub behind_blanks : List ℕ → List ℕ
behind_blanks text = drop (prefix_len is_blank text) text

-- a plain word at the front, with the blanks at its end
abbrev pub word_front : Bool → List ℕ → List ℕ
word_front flow text = take (word_len flow 32 text) text

-- what follows that
abbrev pub word_rest : Bool → List ℕ → List ℕ
word_rest flow text = drop (word_len flow 32 text) text

-- how many spaces come first
abbrev pub spaces_len : List ℕ → ℕ
spaces_len [] = 0
spaces_len (b ∷ bs) = if b == 32 then suc (spaces_len bs) else 0

-- without the spaces at the front
abbrev pub behind_spaces : List ℕ → List ℕ
behind_spaces text = drop (spaces_len text) text

-- what comes after the `-` of an item
abbrev pub behind_dash : List ℕ → Option (List ℕ)
behind_dash [] = None
behind_dash (b ∷ after) = if (b == 45) && begins_gap after then Some after else None

-- A text without its last bytes, as many as `after` has and one more. If `after` is what comes after the colon of an
-- entry, this is what comes before the colon.
abbrev pub before_colon : List ℕ → List ℕ → List ℕ
before_colon text after = take (length text - (length after + 1)) text
