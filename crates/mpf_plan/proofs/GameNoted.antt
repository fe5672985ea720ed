-- The events of the game are noted, one after the other.
use Rattle.std.proofs.Common.{◌≡◌, ℕ, ◌+◌, ◌<◌, ◌≤◌, List, [], ◌∷◌, length, map, take, set, get_or, refl, ap, ◌∙◌}
use Rattle.std.{proofs.{Common.{subst, arith}, lemmas.List.{length-set, take_all, take_more_set}}, specs.List.flat_map}
use Rattle.machine_definitions.specs.GameEvents.{game_event_names}
use Rattle.plan_tables.specs.declared.{entries.EventId.EventId, table.Table.TheVariants.Events}
use Rattle.mpf_plan.specs.declared.names.Names as held_names
use Rattle.mpf_plan.specs.{Uses.Names, ByNumber.event_of, PlanOf.{Use, uses_of}, Drafting.{IsNumbered, Notes}}
use Rattle.mpf_plan.proofs.{Numbered.event_stays, Noted.{notes_at, notes_none, numbers_at}}

abbrev pub one_event : List ℕ → List Use
one_event n = (Events, n) ∷ []

each_event : (ns : List (List ℕ)) → flat_map one_event ns ≡ uses_of Events ns
each_event [] = refl
each_event (n ∷ ns) = ap (λ us. (Events, n) ∷ us) (each_event ns)

-- events by number
abbrev numbered : List (List ℕ) → Names → List EventId
numbered names ns = map (event_of (ns Events)) names

-- the first names of the game's events
abbrev first_names : ℕ → List (List ℕ)
first_names k = take k game_event_names

abbrev first_used : ℕ → List Use
first_used k = flat_map one_event (first_names k)

-- so many of them are noted, and the places before have their numbers
pub record AreNoted (a b : held_names.Names) (k : ℕ) (events : List EventId) : Type 0 where
  pub count : length events ≡ length game_event_names
  pub names : Notes a b (first_used k)
  pub numbers : IsNumbered a (first_used k) (numbered (first_names k)) (take k events)

pub noted_none : (a : held_names.Names) (events : List EventId)
    → length events ≡ length game_event_names → AreNoted a a 0 events
noted_none a events count = record { count = count; names = notes_none a; numbers = λ us are within. refl }

-- the next of them has this name
pub noted_next : (a b c : held_names.Names) (k : ℕ) (events : List EventId) (e : EventId) (n : List ℕ)
    → n ≡ get_or game_event_names k [] → k < length game_event_names → AreNoted a b k events
    → Notes b c (one_event n) → IsNumbered b (one_event n) (λ ns. event_of (ns Events) n) e
    → AreNoted a c (k + 1) (set events k e)
noted_next a b c k events e n named within is next number = record {
  count = length-set events k e ∙ is.count;
  names =
      notes_at one_event game_event_names k [] within a b c is.names (subst (λ m. Notes b c (one_event m)) named next);
  numbers = λ us are fits.
      take_more_set events k e (omega (arith, within, is.count))
      ∙ numbers_at one_event game_event_names k [] within (λ ns m. event_of (ns Events) m) event_stays a b
      (take k events) e is.names is.numbers
      (subst (λ m. IsNumbered b (one_event m) (λ ns. event_of (ns Events) m) e) named number) us are fits;
}

-- all are noted
module _ (a b : held_names.Names) (k : ℕ) (events : List EventId)
    (past : length game_event_names ≤ k) (is : AreNoted a b k events) where
  all_used : first_used k ≡ uses_of Events game_event_names
  all_used = ap (flat_map one_event) (take_all k game_event_names past) ∙ each_event game_event_names

  pub noted_all : Notes a b (uses_of Events game_event_names)
  noted_all = subst (Notes a b) all_used is.names

  pub numbered_all : IsNumbered a (uses_of Events game_event_names) (numbered game_event_names) events
  numbered_all =
      subst (λ us. IsNumbered a us (numbered game_event_names) events) all_used
      (subst (λ l. IsNumbered a (first_used k) (numbered l) events) (take_all k game_event_names past)
      (subst (IsNumbered a (first_used k) (numbered (first_names k)))
      (take_all k events (omega (arith, past, is.count))) is.numbers))
