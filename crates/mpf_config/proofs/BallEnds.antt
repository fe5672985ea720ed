-- A mode that holds the end of the ball starts at that alone: what the test of it means.
use Rattle.std.proofs.Common.{rules, ◌≡◌, ◌≢◌, ℕ, Bool, true, false, not, ◌||◌, List, [], ◌∷◌, length, ◌==◌, refl}
use Rattle.std.{proofs.Common.arith, specs.{List.{All, list_all}, Str.bytes_eq}}
use Rattle.std.proofs.lemmas.{Bool.{ne_eqb, and_parts}, List.Elements.{All-nil, All-cons, All-head, All-tail}}
use Rattle.mpf_sections.specs.{Rows.{HandledEvent, Content, ModeSettings}, Typed.{ball_ending, starts_at_ball_end}}
use Rattle.mpf_config.specs.{RowsOf.{StartsAtBallEnd, KeepsToBallEnd}, Reading.keeps_to_ball_end}
use Rattle.yaml_bytes.proofs.Words.{word_is, is_word}

-- ---- tests

implied : (a b : Bool) → not a || b ≡ true → a ≡ true → b ≡ true
implied a b e is = search rules

implies : (a b : Bool) → (a ≡ true → b ≡ true) → not a || b ≡ true
implies a b so = search rules

-- ---- the events that start a mode

abbrev IsBallEnding : HandledEvent → Type 0
IsBallEnding h = h.event.name ≡ ball_ending

abbrev is_ball_ending : HandledEvent → Bool
is_ball_ending h = bytes_eq h.event.name ball_ending

some_complete : (hs : List HandledEvent) → hs ≢ [] → length hs == 0 ≡ false
some_complete [] some = absurd (some refl)
some_complete (h ∷ hs) some = ne_eqb (length (h ∷ hs)) 0 (λ e. omega arith)

all_sound : (hs : List HandledEvent) → list_all is_ball_ending hs ≡ true → All IsBallEnding hs
all_sound [] e = All-nil IsBallEnding
all_sound (h ∷ hs) e =
    let a = and_parts (is_ball_ending h) (list_all is_ball_ending hs) e in
    All-cons IsBallEnding h hs (word_is h.event.name ball_ending a.0) (all_sound hs a.1)

all_complete : (hs : List HandledEvent) → All IsBallEnding hs → list_all is_ball_ending hs ≡ true
all_complete [] all = refl
all_complete (h ∷ hs) all =
    search (rules, is_word, All-head, All-tail, all_complete hs (All-tail IsBallEnding h hs all))

starts_sound : (s : ModeSettings) → starts_at_ball_end s ≡ true → StartsAtBallEnd s
unfolding starts_at_ball_end
starts_sound s e = search (rules, and_parts, all_sound)

starts_complete : (s : ModeSettings) → StartsAtBallEnd s → starts_at_ball_end s ≡ true
unfolding starts_at_ball_end
starts_complete s h = rw (some_complete s.starts h.some, all_complete s.starts h.all) refl

-- ---- sections

pub keeps_sound : (section : List ℕ) (content : Content) → keeps_to_ball_end section content ≡ true
    → KeepsToBallEnd section content
unfolding keeps_to_ball_end
keeps_sound section x2 e = search (rules, implied, is_word, starts_sound)

pub keeps_complete : (section : List ℕ) (content : Content) → KeepsToBallEnd section content
    → keeps_to_ball_end section content ≡ true
unfolding keeps_to_ball_end
keeps_complete section x2 h = search (rules, implies, starts_complete, word_is)
