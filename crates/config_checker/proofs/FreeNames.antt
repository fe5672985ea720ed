-- The events that switches, blocks, timers, ball devices, ball saves, multiballs, shots and groups of shots post by
-- their own names are not reserved.
use Rattle.std.proofs.Common.{rules, ◌≡◌, ℕ, ◌+◌, ◌*◌, ◌==◌, Bool, false, ◌||◌, List, [], ◌∷◌, ◌++◌, slice_index, codes}
use Rattle.std.proofs.{Common.refl, lemmas.{Bool.eq-eqb, List.Elements.All-from_recursion, Slice.Eq.bytes_eq-Decides}}
use Rattle.std.specs.{List.{All, list_any}, Str.bytes_eq}
use Rattle.yaml_subset.specs.Keys.{is_among}
use Rattle.mpf_config.specs.Rows.{Rows}
use Rattle.plan_parts.specs.{DeviceEntries.{block_event, timer_event}, SaveEntries.{save_event, multiball_event}}
use Rattle.plan_parts.specs.{BallEntries.ball_event, ShotEntries.{shot_events, group_events}}
use Rattle.machine_definitions.specs.GameEvents.{reserved_game_events}
use Rattle.row_faults.specs.Reserved.{events_of_modes, mode_names, is_reserved}

-- ---- the first and the last bytes of names

-- the first byte of a name
abbrev first_of : List ℕ → ℕ
first_of [] = 0
first_of (x ∷ xs) = x

-- the last two bytes of a text, as one number, where these two stand before it
abbrev last_two : ℕ → ℕ → List ℕ → ℕ
last_two x y [] = x * 256 + y
last_two x y (z ∷ zs) = last_two y z zs

-- those of a name
abbrev end_of : List ℕ → ℕ
end_of name = last_two 0 0 name

last_two-is : (front : List ℕ) (x y v w : ℕ) (ws : List ℕ) → last_two x y (front ++ v ∷ w ∷ ws) ≡ last_two v w ws
last_two-is [] x y v w ws = refl
last_two-is (z ∷ front) x y v w ws = last_two-is front y z v w ws

-- bytes that no event has there
not_among : (bytes_of : List ℕ → ℕ) (name : List ℕ) (events : List (List ℕ))
    → list_any (λ e. bytes_of e == bytes_of name) events ≡ false → is_among events name ≡ false
not_among bytes_of name [] h = refl
not_among bytes_of name (e ∷ es) h = by (bytes_of e == bytes_of name) (bytes_eq e name) refl refl
    (not_among bytes_of name es) h
  where
    by : (same equal : Bool) → bytes_of e == bytes_of name ≡ same → bytes_eq e name ≡ equal
        → (list_any (λ x. bytes_of x == bytes_of name) es ≡ false → is_among es name ≡ false)
        → (same || list_any (λ x. bytes_of x == bytes_of name) es) ≡ false → (equal || is_among es name) ≡ false
    by x1 x2 p q rest r = search (rules, eq-eqb, bytes_eq-Decides)

-- ---- names with a first byte of their own

-- a name that begins with a byte with which no event of a game begins, nor one of a mode
first-other : (byte : ℕ) → (109 == byte) ≡ false → (ws : List (List ℕ))
    → list_any (λ e. first_of e == byte) (events_of_modes ws) ≡ false
first-other byte other [] = refl
first-other byte other (w ∷ ws) = rw other (first-other byte other ws)

begins-free : (rows : Rows) (byte : ℕ) (rest : List ℕ) → list_any (λ e. first_of e == byte) reserved_game_events ≡ false
    → (109 == byte) ≡ false → is_reserved rows (byte ∷ rest) ≡ false
begins-free rows byte rest no_game no_mode =
    let game : is_among reserved_game_events (byte ∷ rest) ≡ false =
    not_among first_of (byte ∷ rest) reserved_game_events no_game in
    let mode : is_among (events_of_modes (mode_names rows)) (byte ∷ rest) ≡ false =
    not_among first_of (byte ∷ rest) (events_of_modes (mode_names rows))
    (first-other byte no_mode (mode_names rows)) in
    λ i. game i || mode i

-- the events of blocks, of timers and of tags
pub block-free : (name ending : List ℕ) (rows : Rows) → is_reserved rows (block_event name ending) ≡ false
block-free name ending rows = begins-free rows 108 _ refl refl

pub timer-free : (name ending : List ℕ) (rows : Rows) → is_reserved rows (timer_event name ending) ≡ false
timer-free name ending rows = begins-free rows 116 _ refl refl

pub tag-free : (name : List ℕ) (rows : Rows) → is_reserved rows (codes "sw_" ++ name) ≡ false
tag-free name rows = begins-free rows 115 _ refl refl

-- ---- names with a fifth byte of their own

abbrev fifth_of : List ℕ → ℕ
fifth_of name = slice_index name 4

-- `_` is the fifth byte of the events of modes
fifth-other : (ws : List (List ℕ)) → list_any (λ e. fifth_of e == 100) (events_of_modes ws) ≡ false
fifth-other [] = refl
fifth-other (w ∷ ws) = fifth-other ws

-- the events of ball devices
pub ball-free : (name ending : List ℕ) (rows : Rows) → is_reserved rows (ball_event name ending) ≡ false
ball-free name ending rows =
    let event = ball_event name ending in
    let game : is_among reserved_game_events event ≡ false = not_among fifth_of event reserved_game_events refl in
    let mode : is_among (events_of_modes (mode_names rows)) event ≡ false =
    not_among fifth_of event (events_of_modes (mode_names rows)) (fifth-other (mode_names rows)) in
    λ i. game i || mode i

-- ---- names with a seventh or a second byte of their own

abbrev seventh_of : List ℕ → ℕ
seventh_of name = slice_index name 6

abbrev second_of : List ℕ → ℕ
second_of name = slice_index name 1

-- `o` is the second byte of the events of modes
second-other : (ws : List (List ℕ)) → list_any (λ e. second_of e == 117) (events_of_modes ws) ≡ false
second-other [] = refl
second-other (w ∷ ws) = second-other ws

-- the events of ball saves
pub save-free : (name ending : List ℕ) (rows : Rows) → is_reserved rows (save_event name ending) ≡ false
save-free name ending rows =
    let event = save_event name ending in
    let game : is_among reserved_game_events event ≡ false = not_among seventh_of event reserved_game_events refl in
    let mode : is_among (events_of_modes (mode_names rows)) event ≡ false =
    not_among first_of event (events_of_modes (mode_names rows)) (first-other 98 refl (mode_names rows)) in
    λ i. game i || mode i

-- the events of multiballs
pub multiball-free : (name ending : List ℕ) (rows : Rows) → is_reserved rows (multiball_event name ending) ≡ false
multiball-free name ending rows =
    let event = multiball_event name ending in
    let game : is_among reserved_game_events event ≡ false = not_among second_of event reserved_game_events refl in
    let mode : is_among (events_of_modes (mode_names rows)) event ≡ false =
    not_among second_of event (events_of_modes (mode_names rows)) (second-other (mode_names rows)) in
    λ i. game i || mode i

-- ---- names with last bytes of their own

-- the events of modes end with `rt`, `ng` or `ed`
module _ (two : ℕ) (no_start : (end_of (codes "rt") == two) ≡ false) (no_ing : (end_of (codes "ng") == two) ≡ false)
    (no_ed : (end_of (codes "ed") == two) ≡ false) where
  last-other : (ws : List (List ℕ)) → list_any (λ e. end_of e == two) (events_of_modes ws) ≡ false
  last-other [] = refl
  last-other (w ∷ ws) = search (rules, last_two-is, last-other ws)

-- a name that ends with two bytes with which no event of a game ends, nor one of a mode
ends-free : (rows : Rows) (name ending : List ℕ) → end_of name ≡ end_of ending
    → list_any (λ e. end_of e == end_of ending) reserved_game_events ≡ false
    → (end_of (codes "rt") == end_of ending) ≡ false → (end_of (codes "ng") == end_of ending) ≡ false
    → (end_of (codes "ed") == end_of ending) ≡ false → is_reserved rows name ≡ false
ends-free rows name ending is no_game no_start no_ing no_ed =
    let game : is_among reserved_game_events name ≡ false = not_among end_of name reserved_game_events (rw is no_game)
    in
    let mode : is_among (events_of_modes (mode_names rows)) name ≡ false =
    not_among end_of name (events_of_modes (mode_names rows))
    (rw is (last-other (end_of ending) no_start no_ing no_ed (mode_names rows))) in
    λ i. game i || mode i

module _ (front : List ℕ) (rows : Rows) where
  -- the event of a switch that becomes active, or inactive
  pub active-free : is_reserved rows (front ++ codes "_active") ≡ false
  active-free = ends-free rows (front ++ codes "_active") (codes "ve") (last_two-is front 0 0 95 97 (codes "ctive"))
      refl refl refl refl

  pub inactive-free : is_reserved rows (front ++ codes "_inactive") ≡ false
  inactive-free = ends-free rows (front ++ codes "_inactive") (codes "ve")
      (last_two-is front 0 0 95 105 (codes "nactive")) refl refl refl refl

  -- the events of shots, and of groups of them
  pub hit-free : is_reserved rows (front ++ codes "_hit") ≡ false
  hit-free = ends-free rows (front ++ codes "_hit") (codes "it") (last_two-is front 0 0 95 104 (codes "it")) refl refl
      refl refl

  pub complete-free : is_reserved rows (front ++ codes "_complete") ≡ false
  complete-free = ends-free rows (front ++ codes "_complete") (codes "te")
      (last_two-is front 0 0 95 99 (codes "omplete")) refl refl refl refl

-- all that a shot posts in a state, and a group
module _ (rows : Rows) where
  abbrev IsFreeName : List ℕ → Type 0
  IsFreeName name = is_reserved rows name ≡ false

  pub shot-free : (name profile state : List ℕ) → All IsFreeName (shot_events name profile state)
  shot-free name profile state = search (rules, All-from_recursion, hit-free)

  pub group_hit-free : (name state : List ℕ) → All IsFreeName (group_events (codes "_hit") name state)
  group_hit-free name state = All-from_recursion IsFreeName (group_events (codes "_hit") name state)
      (hit-free name rows, (hit-free (name ++ codes "_" ++ state) rows, tt))

  pub group_complete-free : (name state : List ℕ) → All IsFreeName (group_events (codes "_complete") name state)
  group_complete-free name state = search (rules, All-from_recursion, complete-free)
