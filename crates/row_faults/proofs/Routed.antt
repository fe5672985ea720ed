-- If nothing is wrong with the ways of balls, they lead to the playfield, and each ball switch is of one device.
use Rattle.std.proofs.Common.{rules, ◌≡◌, ◌≢◌, ℕ, suc, ◌≤◌, Bool, false, List, [], ◌∷◌, ◌++◌, sym, ◌∙◌, true≢false}
use Rattle.std.proofs.{Common.arith, lemmas.{Slice.Eq.bytes_eq-Decides, Bool.or_parts}}
use Rattle.std.specs.{List.{All, AllPairs, flat_map}, Str.bytes_eq}
use Rattle.std.proofs.lemmas.List.{Elements.{All-nil, All-cons, All-weaker}, Kept.AllPairs-cons}
use Rattle.mpf_sections.specs.Rows.{BallDeviceEntry}
use Rattle.row_faults.specs.declared.fault.RowFaultKind.TheVariants.{BallRoute}
use Rattle.row_faults.specs.{CoilFaults.fault_if, Sound.{IsRouted, AreRouted}}
use Rattle.row_faults.specs.Routes.{switch_names, taken_too, all_taken, is_one_taken}
use Rattle.row_faults.specs.BallFaults.{is_route_wrong, rest_faults, is_free, route_faults}
use Rattle.row_faults.proofs.None.{fault_if-none, append-none}

-- ---- ball switches

-- no name of these is taken, and no two are the same
record AreFree (is_taken : List ℕ → Bool) (names : List (List ℕ)) : Type 0 where
  pub free : All (λ n. is_taken n ≡ false) names
  pub apart : AllPairs (λ v w. v ≢ w) names

other : (name q : List ℕ) → bytes_eq q name ≡ false → name ≢ q
other name q fails same = true≢false (sym ((bytes_eq-Decides q name).1 (sym same)) ∙ fails)

-- names of which none is taken nor stands before, and more names after them
free-more : (names more : List (List ℕ)) (is_taken : List ℕ → Bool) → is_one_taken names is_taken ≡ false
    → AreFree (all_taken names is_taken) more → AreFree is_taken (names ++ more)
free-more [] more is_taken e h = h
free-more (n ∷ ns) more is_taken e h =
    let both = or_parts (is_taken n) (is_one_taken ns (taken_too n is_taken)) e in
    let rest = free-more ns more (taken_too n is_taken) both.1 h in
    record {
      free = search rules;
      apart = AllPairs-cons (λ v w. v ≢ w) n (ns ++ more)
          (All-weaker (λ q. taken_too n is_taken q ≡ false) (λ q. n ≢ q)
          (λ q no. other n q (or_parts (is_taken q) (bytes_eq q n) no).1) (ns ++ more) rest.free)
          rest.apart;
    }

-- ---- the rest of the ball devices

module _ (devices : List BallDeviceEntry) (text : List ℕ) where
  record AreFine (is_taken : List ℕ → Bool) (ds : List BallDeviceEntry) : Type 0 where
    pub each : All (IsRouted devices) ds
    pub switches : AreFree is_taken (flat_map switch_names ds)

  routed : (is_taken : List ℕ → Bool) (d : BallDeviceEntry) → is_route_wrong devices is_taken d ≡ false
      → IsRouted devices d × (is_one_taken (switch_names d) is_taken ≡ false)
  routed is_taken d e = search rules

  rest-none : (is_taken : List ℕ → Bool) (ds : List BallDeviceEntry) → rest_faults devices is_taken text ds ≡ []
      → AreFine is_taken ds
  rest-none is_taken [] e =
      record {
        each = All-nil (IsRouted devices);
        switches =
            record { free = All-nil (λ n. is_taken n ≡ false); apart = λ i j d before within. absurd (none j within) };
      }
    where
      none : (j : ℕ) → suc j ≤ 0 → ⊥
      none j within = omega arith
  rest-none is_taken (d ∷ ds) e =
      let names = switch_names d in
      let here = fault_if (is_route_wrong devices is_taken d) BallRoute text d.name in
      let both = append-none here (rest_faults devices (all_taken names is_taken) text ds) e in
      let fine = routed is_taken d (fault_if-none (is_route_wrong devices is_taken d) BallRoute text d.name both.0) in
      let rest = rest-none (all_taken names is_taken) ds both.1 in
      record {
        each = All-cons (IsRouted devices) d ds fine.0 rest.each;
        switches = free-more names (flat_map switch_names ds) is_taken fine.1 rest.switches;
      }

pub route_faults-none : (text : List ℕ) (devices : List BallDeviceEntry) → route_faults text devices ≡ []
    → AreRouted devices
route_faults-none text devices e = let fine = rest-none devices text is_free devices e
    in record { each = fine.each; switches = fine.switches.apart }
