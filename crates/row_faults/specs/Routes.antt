-- Where ball devices send their balls and by what, and which ball switches they have. Here `devices` are the ball
-- devices of the machine text, in plan order.
use Rattle.std.specs.Prelude.{ℕ, zero, suc, Bool, false, not, ◌&&◌, ◌||◌, List, [], ◌∷◌, length, map, Option, None}
use Rattle.std.specs.{Prelude.Some, Option.is_none, Str.bytes_eq}
use Rattle.mpf_sections.specs.{Rows.BallDeviceEntry, TypedBalls.{playfield, is_trough}}
use Rattle.machine_definitions.specs.Definitions.{ball_device_among}

-- ---- targets

-- whether the target of a ball device leads on, where `leads` says which names do; a name that no entry defines leads
-- nowhere
abbrev pub target_leads : (leads : List ℕ → Bool) → Option BallDeviceEntry → Bool
target_leads leads None = false
target_leads leads (Some d) = leads d.target.text

-- whether a ball that is ejected to the place of this name comes to the playfield, by way of at most so many ball
-- devices
abbrev pub leads_by : List BallDeviceEntry → ℕ → List ℕ → Bool
leads_by devices zero name = bytes_eq name playfield
leads_by devices (suc n) name = bytes_eq name playfield
    || target_leads (leads_by devices n) (ball_device_among devices name)

-- Whether the balls that a ball device ejects come to the playfield. By way of more ball devices than there are they
-- come to one again, and so go round for ever.
abbrev pub leads_to_playfield : List BallDeviceEntry → BallDeviceEntry → Bool
leads_to_playfield devices d = leads_by devices (length devices) d.target.text

-- ---- eject coils

-- whether a ball device lacks a coil that ejects its balls: a trough needs one, and so does a ball device whose balls
-- do not leave by themselves
abbrev pub lacks_coil : BallDeviceEntry → Bool
lacks_coil d = is_none d.eject_coil && (not d.ejects.mechanical || is_trough d)

-- ---- ball switches

abbrev pub switch_names : BallDeviceEntry → List (List ℕ)
switch_names d = map (λ w. w.text) d.switches

-- the names that are taken, and this one
abbrev pub taken_too : List ℕ → (List ℕ → Bool) → List ℕ → Bool
taken_too name is_taken other = is_taken other || bytes_eq other name

-- the names that are taken, and all these
abbrev pub all_taken : List (List ℕ) → (List ℕ → Bool) → List ℕ → Bool
all_taken [] is_taken = is_taken
all_taken (name ∷ names) is_taken = all_taken names (taken_too name is_taken)

-- whether one of these names is taken, or stands before among them
abbrev pub is_one_taken : List (List ℕ) → (List ℕ → Bool) → Bool
is_one_taken [] is_taken = false
is_one_taken (name ∷ names) is_taken = is_taken name || is_one_taken names (taken_too name is_taken)
