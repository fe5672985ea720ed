-- The names of a plan's events are words of few bytes, if every name in its rows is well formed.
use Rattle.std.proofs.Common.{rules, ◌≡◌, ◌≢◌, ℕ, ◌+◌, ◌<◌, ◌≤◌, Bool, true, ◌&&◌, nat_lt, List, [], ◌∷◌, ◌++◌, length}
use Rattle.std.proofs.{Common.{refl, ap, arith, length-append, codes}, lemmas.List.Sums.AllPass-from_list_all}
use Rattle.std.{specs.List.{All, list_all}, proofs.lemmas.Bool.{ne_eqb, or_from, not_from_false, and_parts, ltb-true}}
use Rattle.std.proofs.lemmas.List.Elements.{All-nil, All-cons, All-append, All-weaker, All-from_recursion}
use Rattle.mpf_config.specs.{Rows.Rows, Named.IsNamedMode}
use Rattle.mpf_sections.{specs.Named.{IsName, IsNamed}, proofs.RowNames.name_bytes}
use Rattle.plan_tables.specs.declared.entries.ModeEvent.{ModeEvent}
use Rattle.machine_definitions.specs.{GameEvents.game_event_names, Players.player_event}
use Rattle.plan_parts.specs.{Effects.{event_ending, mode_event_name}, BallEntries.{ball_event, ball_endings}}
use Rattle.plan_parts.specs.DeviceEntries.{block_event, block_endings, timer_event, timer_endings}
use Rattle.plan_parts.specs.ShotEntries.{shot_events, group_events}
use Rattle.plan_parts.specs.SaveEntries.{save_event, save_endings, multiball_event, multiball_endings}
use Rattle.mpf_plan.{specs.PlanOf.plan_of, proofs.EventNames.event_names}
use Rattle.config_checker.specs.CertificateOf.{is_in_word, IsWord}

-- ---- names are words

byte-in_word : (b : ℕ) → (b ≢ 32) × (b ≢ 9) × (b ≢ 10) → is_in_word b ≡ true
byte-in_word b x2 = search (rules, or_from, ne_eqb, not_from_false)

abbrev pub AllInWord : List ℕ → Type 0
AllInWord text = All (λ b. is_in_word b ≡ true) text

pub name-in_word : (name : List ℕ) → IsName name → AllInWord name
name-in_word name h = All-weaker (λ b. (b ≢ 32) × (b ≢ 9) × (b ≢ 10)) (λ b. is_in_word b ≡ true) byte-in_word name
    (name_bytes name h)

-- what the name of an event is: a word of at most 198 bytes, as many as the names of a shot, of its profile and of a
-- state are, each of 64, with `_` before the second and the third, and `_hit`
record IsEventWord (text : List ℕ) : Type 0 where
  word : IsWord text
  few : length text ≤ 198

some-word : (text : List ℕ) → 0 < length text → length text ≤ 198 → AllInWord text → IsEventWord text
some-word text some few letters =
    record { word = record { some = λ none. omega (arith, some, ap length none); letters = letters }; few = few }

joined-word : (front behind : List ℕ) → 0 < length front → length front + length behind ≤ 198 → AllInWord front
    → AllInWord behind → IsEventWord (front ++ behind)
joined-word front behind some few first last =
    let both = length-append front behind in
    some-word (front ++ behind) (omega (arith, some, both)) (omega (arith, few, both))
    (All-append (λ b. is_in_word b ≡ true) front behind first last)

name-word : (name : List ℕ) → IsName name → IsEventWord name
name-word name h = some-word name h.some (omega (arith, h.few)) (name-in_word name h)

-- ---- what is made of names

active-word : (name : List ℕ) → IsName name → IsEventWord (name ++ codes "_active")
active-word name h =
    let few = h.few in
    joined-word name (codes "_active") h.some (omega (arith, few)) (name-in_word name h)
    (AllPass-from_list_all is_in_word (codes "_active") refl)

inactive-word : (name : List ℕ) → IsName name → IsEventWord (name ++ codes "_inactive")
inactive-word name h =
    let few = h.few in
    joined-word name (codes "_inactive") h.some (omega (arith, few)) (name-in_word name h)
    (AllPass-from_list_all is_in_word (codes "_inactive") refl)

tag-word : (name : List ℕ) → IsName name → IsEventWord (codes "sw_" ++ name)
tag-word name h =
    let few = h.few in
    joined-word (codes "sw_") name (omega arith) (omega (arith, few))
    (AllPass-from_list_all is_in_word (codes "sw_") refl) (name-in_word name h)

ending-word : (which : ModeEvent) → (length (event_ending which) ≤ 11) × AllInWord (event_ending which)
ending-word x1 = search (rules, AllPass-from_list_all)

mode-word : (which : ModeEvent) (name : List ℕ) → IsName name → IsEventWord (mode_event_name which name)
mode-word which name h =
    let few = h.few in
    let ending = ending-word which in
    let short = ending.0 in
    let both = length-append name (event_ending which) in
    joined-word (codes "mode_") (name ++ event_ending which) (omega arith) (omega (arith, few, short, both))
    (AllPass-from_list_all is_in_word (codes "mode_") refl)
    (All-append (λ b. is_in_word b ≡ true) name (event_ending which) (name-in_word name h) ending.1)

-- a name between what its kind of device begins with and an ending
own-word : (front ending name : List ℕ) → 0 < length front → length front + length ending ≤ 134 → AllInWord front
    → AllInWord ending → IsName name → IsEventWord (front ++ name ++ ending)
own-word front ending name some small first last h =
    let few = h.few in
    let both = length-append front name in
    joined-word (front ++ name) ending (omega (arith, some, both)) (omega (arith, few, small, both))
    (All-append (λ b. is_in_word b ≡ true) front name first (name-in_word name h)) last

block-words : (name : List ℕ) → IsName name → All (λ ending. IsEventWord (block_event name ending)) block_endings
block-words name h =
    (All-cons (λ ending. IsEventWord (block_event name ending)) (codes "_updated")
    (codes "_hit" ∷ codes "_complete" ∷ [])
    (of_block (codes "_updated") (omega arith) (AllPass-from_list_all is_in_word (codes "_updated") refl))
    (All-cons (λ ending. IsEventWord (block_event name ending)) (codes "_hit") (codes "_complete" ∷ [])
    (of_block (codes "_hit") (omega arith) (AllPass-from_list_all is_in_word (codes "_hit") refl))
    (All-cons (λ ending. IsEventWord (block_event name ending)) (codes "_complete") []
    (of_block (codes "_complete") (omega arith) (AllPass-from_list_all is_in_word (codes "_complete") refl))
    (All-nil (λ ending. IsEventWord (block_event name ending))))))
  where
    of_block : (ending : List ℕ) → length ending ≤ 9 → AllInWord ending → (IsEventWord (block_event name ending))
    of_block ending few letters = own-word (codes "logicblock_") ending name (omega arith) (omega (arith, few))
        (AllPass-from_list_all is_in_word (codes "logicblock_") refl) letters h

timer-words : (name : List ℕ) → IsName name → All (λ ending. IsEventWord (timer_event name ending)) timer_endings
timer-words name h =
    (All-cons (λ ending. IsEventWord (timer_event name ending)) (codes "_started")
    (codes "_stopped" ∷ codes "_paused" ∷ codes "_tick" ∷ codes "_complete" ∷ [])
    (of_timer (codes "_started") (omega arith) (AllPass-from_list_all is_in_word (codes "_started") refl))
    (All-cons (λ ending. IsEventWord (timer_event name ending)) (codes "_stopped")
    (codes "_paused" ∷ codes "_tick" ∷ codes "_complete" ∷ [])
    (of_timer (codes "_stopped") (omega arith) (AllPass-from_list_all is_in_word (codes "_stopped") refl))
    (All-cons (λ ending. IsEventWord (timer_event name ending)) (codes "_paused")
    (codes "_tick" ∷ codes "_complete" ∷ [])
    (of_timer (codes "_paused") (omega arith) (AllPass-from_list_all is_in_word (codes "_paused") refl))
    (All-cons (λ ending. IsEventWord (timer_event name ending)) (codes "_tick") (codes "_complete" ∷ [])
    (of_timer (codes "_tick") (omega arith) (AllPass-from_list_all is_in_word (codes "_tick") refl))
    (All-cons (λ ending. IsEventWord (timer_event name ending)) (codes "_complete") []
    (of_timer (codes "_complete") (omega arith) (AllPass-from_list_all is_in_word (codes "_complete") refl))
    (All-nil (λ ending. IsEventWord (timer_event name ending))))))))
  where
    of_timer : (ending : List ℕ) → length ending ≤ 9 → AllInWord ending → (IsEventWord (timer_event name ending))
    of_timer ending few letters = own-word (codes "timer_") ending name (omega arith) (omega (arith, few))
        (AllPass-from_list_all is_in_word (codes "timer_") refl) letters h

ball-words : (name : List ℕ) → IsName name → All (λ ending. IsEventWord (ball_event name ending)) ball_endings
ball-words name h =
    All-from_recursion (λ ending. IsEventWord (ball_event name ending)) ball_endings (
      of_ball (codes "_ball_enter") (omega arith) (AllPass-from_list_all is_in_word (codes "_ball_enter") refl),
      (
        of_ball (codes "_ball_eject_attempt") (omega arith)
            (AllPass-from_list_all is_in_word (codes "_ball_eject_attempt") refl),
        (
          of_ball (codes "_ejecting_ball") (omega arith)
              (AllPass-from_list_all is_in_word (codes "_ejecting_ball") refl),
          (
            of_ball (codes "_ball_eject_success") (omega arith)
                (AllPass-from_list_all is_in_word (codes "_ball_eject_success") refl),
            (
              of_ball (codes "_ball_eject_failed") (omega arith)
                  (AllPass-from_list_all is_in_word (codes "_ball_eject_failed") refl),
              tt,
            ),
          ),
        ),
      ),
    )
  where
    of_ball : (ending : List ℕ) → length ending ≤ 19 → AllInWord ending → IsEventWord (ball_event name ending)
    of_ball ending few letters = own-word (codes "balldevice_") ending name (omega arith) (omega (arith, few))
        (AllPass-from_list_all is_in_word (codes "balldevice_") refl) letters h

save-words : (name : List ℕ) → IsName name → All (λ ending. IsEventWord (save_event name ending)) save_endings
save-words name h =
    All-from_recursion (λ ending. IsEventWord (save_event name ending)) save_endings (
      of_save (codes "_enabled") (omega arith) (AllPass-from_list_all is_in_word (codes "_enabled") refl),
      (
        of_save (codes "_disabled") (omega arith) (AllPass-from_list_all is_in_word (codes "_disabled") refl),
        (
          of_save (codes "_saving_ball") (omega arith) (AllPass-from_list_all is_in_word (codes "_saving_ball") refl),
          tt,
        ),
      ),
    )
  where
    of_save : (ending : List ℕ) → length ending ≤ 12 → AllInWord ending → IsEventWord (save_event name ending)
    of_save ending few letters = own-word (codes "ball_save_") ending name (omega arith) (omega (arith, few))
        (AllPass-from_list_all is_in_word (codes "ball_save_") refl) letters h

multiball-words : (name : List ℕ) → IsName name
    → All (λ ending. IsEventWord (multiball_event name ending)) multiball_endings
multiball-words name h =
    All-from_recursion (λ ending. IsEventWord (multiball_event name ending)) multiball_endings (
      of_multiball (codes "_started") (omega arith) (AllPass-from_list_all is_in_word (codes "_started") refl),
      (of_multiball (codes "_ended") (omega arith) (AllPass-from_list_all is_in_word (codes "_ended") refl), tt),
    )
  where
    of_multiball : (ending : List ℕ) → length ending ≤ 8 → AllInWord ending → IsEventWord (multiball_event name ending)
    of_multiball ending few letters = own-word (codes "multiball_") ending name (omega arith) (omega (arith, few))
        (AllPass-from_list_all is_in_word (codes "multiball_") refl) letters h

player-word : (name : List ℕ) → IsName name → IsEventWord (player_event name)
player-word name h =
    let few = h.few in
    joined-word (codes "player_") name (omega arith) (omega (arith, few))
    (AllPass-from_list_all is_in_word (codes "player_") refl) (name-in_word name h)

-- ---- what is made of several names

-- what is in a word: some bytes, at most so many, and neither a blank nor a line end among them
record IsPart (most : ℕ) (text : List ℕ) : Type 0 where
  some : 0 < length text
  few : length text ≤ most
  letters : AllInWord text

name-part : (name : List ℕ) → IsName name → IsPart 64 name
name-part name h = record { some = h.some; few = h.few; letters = name-in_word name h }

underscore : IsPart 1 (codes "_")
underscore =
    record { some = omega arith; few = omega arith; letters = AllPass-from_list_all is_in_word (codes "_") refl }

hit : IsPart 4 (codes "_hit")
hit = record { some = omega arith; few = omega arith; letters = AllPass-from_list_all is_in_word (codes "_hit") refl }

complete : IsPart 9 (codes "_complete")
complete =
    record {
      some = omega arith;
      few = omega arith;
      letters = AllPass-from_list_all is_in_word (codes "_complete") refl;
    }

-- one part after the other
joined : {m n : ℕ} {front behind : List ℕ} → IsPart m front → IsPart n behind → IsPart (m + n) (front ++ behind)
joined {front = front} {behind = behind} first last =
    let both = length-append front behind in
    let some = first.some in
    let few = first.few in
    let more = last.few in
    record {
      some = omega (arith, some, both);
      few = omega (arith, few, more, both);
      letters = All-append (λ b. is_in_word b ≡ true) front behind first.letters last.letters;
    }

part-word : {most : ℕ} {text : List ℕ} → most ≤ 198 → IsPart most text → IsEventWord text
part-word {text = text} within part = let few = part.few
    in some-word text part.some (omega (arith, few, within)) part.letters

-- what a shot posts in a state of its profile
shot-words : (name profile state : List ℕ) → IsName name → IsName profile → IsName state
    → All IsEventWord (shot_events name profile state)
shot-words name profile state n p s =
    let own = name-part name n in
    let of_profile = joined (joined own underscore) (name-part profile p) in
    let of_both = joined (joined of_profile underscore) (name-part state s) in
    let of_state = joined (joined own underscore) (name-part state s) in
    All-from_recursion IsEventWord (shot_events name profile state) (
      part-word (omega arith) (joined own hit),
      (
        part-word (omega arith) (joined of_profile hit),
        (part-word (omega arith) (joined of_both hit), (part-word (omega arith) (joined of_state hit), tt)),
      ),
    )

-- what a group posts in a state, with an ending
group-words : (most : ℕ) (ending name state : List ℕ) → most ≤ 9 → IsPart most ending → IsName name → IsName state
    → All IsEventWord (group_events ending name state)
group-words most ending name state short end n s =
    let own = name-part name n in
    let of_state = joined (joined own underscore) (name-part state s) in
    All-from_recursion IsEventWord (group_events ending name state) (
      part-word (omega (arith, short)) (joined own end),
      (part-word (omega (arith, short)) (joined of_state end), tt),
    )

-- the events of the game, by looking at each
is_short_word : List ℕ → Bool
is_short_word text = (nat_lt 0 (length text) && nat_lt (length text) 199) && list_all is_in_word text

short-word : (text : List ℕ) → is_short_word text ≡ true → IsEventWord text
unfolding is_short_word
short-word text h =
    let parts = and_parts (nat_lt 0 (length text) && nat_lt (length text) 199) (list_all is_in_word text) h in
    let sizes = and_parts (nat_lt 0 (length text)) (nat_lt (length text) 199) parts.0 in
    let some : 0 < length text = ltb-true 0 (length text) sizes.0 in
    let few : length text < 199 = ltb-true (length text) 199 sizes.1 in
    some-word text some (omega (arith, few)) (AllPass-from_list_all is_in_word text parts.1)

game-words : All IsEventWord game_event_names
unfolding is_short_word
game-words = All-weaker (λ text. is_short_word text ≡ true) IsEventWord short-word game_event_names
    (AllPass-from_list_all is_short_word game_event_names refl)

-- ---- the events of the plan

module _ (rows : Rows) (machine : All IsNamed rows.machine) (modes : All IsNamedMode rows.modes) where
  events_are_named : All IsEventWord (plan_of rows).events
  events_are_named = event_names IsEventWord (record {
    name = name-word;
    active = active-word;
    inactive = inactive-word;
    tag = tag-word;
    mode = mode-word;
    ball = some-word (codes "ball_ending") (omega arith) (omega arith)
        (AllPass-from_list_all is_in_word (codes "ball_ending") refl);
    game = some-word (codes "game_ending") (omega arith) (omega arith)
        (AllPass-from_list_all is_in_word (codes "game_ending") refl);
    game_events = game-words;
    player = player-word;
    block = block-words;
    timer = timer-words;
    ball_device = ball-words;
    save = save-words;
    multiball = multiball-words;
    shot = shot-words;
    group =
        λ name state n s. (
          group-words 4 (codes "_hit") name state (omega arith) hit n s,
          group-words 9 (codes "_complete") name state (omega arith) complete n s,
        );
  }) rows machine modes

  pub events_are_words : All IsWord (plan_of rows).events
  events_are_words = All-weaker IsEventWord IsWord (λ name h. h.word) (plan_of rows).events events_are_named

  pub events_are_few : All (λ name. length name ≤ 198) (plan_of rows).events
  events_are_few = All-weaker IsEventWord (λ name. length name ≤ 198) (λ name h. h.few) (plan_of rows).events
      events_are_named
