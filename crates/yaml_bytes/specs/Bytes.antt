-- What the bytes of a line are.
use Rattle.std.specs.Prelude.{ℕ, Bool, true, false, not, ◌&&◌, ◌||◌, List, [], ◌∷◌, nat_lt, nat_le, ◌==◌}
use Rattle.std.specs.List.{count_by}

-- a space or a tab
abbrev pub is_blank : ℕ → Bool
is_blank b = (b == 32) || (b == 9)

-- whether a blank comes first
abbrev pub begins_blank : List ℕ → Bool
begins_blank [] = false
begins_blank (b ∷ bs) = is_blank b

-- whether a blank comes first, or nothing
abbrev pub begins_gap : List ℕ → Bool
begins_gap [] = true
begins_gap (b ∷ bs) = is_blank b

-- `, [ ] { }`, which separate the parts of a list or mapping on one line
abbrev pub is_flow_indicator : ℕ → Bool
is_flow_indicator b = (b == 44) || (b == 91) || (b == 93) || (b == 123) || (b == 125)

-- whether one of these comes first
abbrev pub begins_flow_indicator : List ℕ → Bool
begins_flow_indicator [] = false
begins_flow_indicator (b ∷ bs) = is_flow_indicator b

-- whether a gap comes first, or in flow one of `, [ ] { }`
abbrev pub begins_break : Bool → List ℕ → Bool
begins_break flow text = (flow && begins_flow_indicator text) || begins_gap text

-- whether `:` comes first, and directly after it one of `, [ ] { }`
abbrev pub begins_bare_colon : List ℕ → Bool
begins_bare_colon [] = false
begins_bare_colon (b ∷ after) = (b == 58) && begins_flow_indicator after

-- whether nothing more comes but a comment
abbrev pub is_over : List ℕ → Bool
is_over [] = true
is_over (b ∷ bs) = b == 35

-- `, [ ] { } # & * ! | > ' " % @` and the backtick
abbrev pub is_indicator : ℕ → Bool
is_indicator b =
    (b == 44) || (b == 91) || (b == 93) || (b == 123) || (b == 125) || (b == 35) || (b == 38) || (b == 42)
    || (b == 33) || (b == 124) || (b == 62) || (b == 39) || (b == 34) || (b == 37) || (b == 64) || (b == 96)

-- `-`, `?` and `:`, which begin a plain word only if no gap follows, and in flow none of `, [ ] { }` either
abbrev pub is_mark : ℕ → Bool
is_mark b = (b == 45) || (b == 63) || (b == 58)

-- Whether a plain word may begin here: with no blank, no indicator, and no mark that a gap follows, nor in flow one of
-- `, [ ] { }`.
abbrev pub begins_word : Bool → List ℕ → Bool
begins_word flow [] = false
begins_word flow (b ∷ bs) = not (is_blank b) && (not (is_indicator b) && not (is_mark b && begins_break flow bs))

-- whether an item begins here: `-`, and a gap after it
abbrev pub begins_item : List ℕ → Bool
begins_item [] = false
begins_item (b ∷ after) = (b == 45) && begins_gap after

-- whether `---` or `...` comes first, and then a gap
abbrev pub is_document_marker : List ℕ → Bool
is_document_marker (a ∷ b ∷ c ∷ after) = (((a == 45) && ((b == 45) && (c == 45)))
    || ((a == 46) && ((b == 46) && (c == 46)))) && begins_gap after
is_document_marker _ = false

-- whether a byte begins a character: in UTF-8 each byte does but 128 to 191
abbrev pub begins_character : ℕ → Bool
begins_character b = nat_lt b 128 || nat_le 192 b

-- the number of characters of a text in UTF-8: of its bytes other than 128 to 191, which continue a character
abbrev pub characters : List ℕ → ℕ
characters = count_by begins_character

-- whether a character is allowed in no line: a control character other than tab, U+FEFF, U+FFFE and U+FFFF
abbrev pub is_forbidden : ℕ → Bool
is_forbidden c = (nat_lt c 32 && not (c == 9))
    || ((nat_le 127 c && nat_lt c 160) || ((c == 65279) || ((c == 65534) || (c == 65535))))
