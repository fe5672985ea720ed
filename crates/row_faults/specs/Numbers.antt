-- Ball devices by their places among them, from 0.
use Rattle.std.specs.Prelude.{◌≡◌, ℕ, zero, suc, ◌+◌, ◌<◌, if◌then◌else◌, List, length, get_or, Option, None, Some}
use Rattle.std.specs.{Prelude.{IfSome, unwrap_or, slice_get}, Str.bytes_eq, Borrow.Bor, HashMap.HashMap, Map.lookup}
use Rattle.mpf_sections.specs.{Rows.BallDeviceEntry, TypedBalls.playfield}
use Rattle.machine_definitions.specs.{Definitions.ball_device_among, Found.has_bytes}

-- the place that is found by a name
abbrev pub number_found : {S : Type 0} → HashMap (Bor (List ℕ)) ℕ S → List ℕ → Option ℕ
number_found numbers name = lookup (has_bytes name) numbers.entries

-- the ball device at a place
abbrev pub device_at : List BallDeviceEntry → Option ℕ → Option BallDeviceEntry
device_at devices None = None
device_at devices (Some n) = slice_get devices n

-- by each name the place is found of the ball device that has it
pub record IsNumbered (devices : List BallDeviceEntry) (index_of_name : List ℕ → Option ℕ) : Type 0 where
  pub within : (name : List ℕ) → IfSome (index_of_name name) (λ n. n < length devices)
  pub by_name : (name : List ℕ) → device_at devices (index_of_name name) ≡ ball_device_among devices name

-- the number of the place of this name, if there are so many ball devices: that of the playfield comes after theirs,
-- and then one for all names that nothing has
abbrev pub number_of : (index_of_name : List ℕ → Option ℕ) → (count : ℕ) → List ℕ → ℕ
number_of index_of_name count name = if bytes_eq name playfield then count else unwrap_or (index_of_name name)
    (count + 1)

-- where one comes to who goes on from a place so many times, each time to the target of the ball device there
abbrev pub after : (targets : List ℕ) → (times : ℕ) → ℕ → ℕ
after targets zero n = n
after targets (suc k) n = after targets k (get_or targets n n)
