-- Banks are lawful.
use Rattle.std.proofs.Common.{rules, ◌≡◌, ◌≢◌, ◌⊎◌, inl, inr, ℕ, zero, ◌==◌, suc, ◌+◌, ◌-◌, ◌*◌, nat_lt, nat_le, ◌<◌}
use Rattle.std.proofs.Common.{◌≤◌, Bool, true, false, not, ◌&&◌, Option, Some, List, [], ◌∷◌, ◌++◌, length, replicate}
use Rattle.std.proofs.Common.{take, get_or, slice_get, slice_set, if◌then◌else◌, refl, sym, ap, ◌∙◌, arith}
use Rattle.std.specs.List.{All, list_all, range_with_len}
use Rattle.std.proofs.{Math.Nat.mul-le-mul_left, lemmas.List.{take-replicate, Folds.list_all_at}}
use Rattle.std.proofs.lemmas.{Option.{none-some, slice_get-get_or}, Bool.ne_eqb}
use Rattle.std.proofs.lemmas.Bool.{and_from, and_parts, cases_Bool, eq-eqb, eqb-false, false≢true, leb-true, ltb-true}
use Rattle.std.proofs.lemmas.List.{append-nil, get_or-replicate, get_or-set_other, get_or-set_same, get_or-take}
use Rattle.std.proofs.lemmas.List.{length-append, length-drop, length-replicate, length-set, length-take, set-set}
use Rattle.std.proofs.lemmas.List.Elements.{All-cons, All-append, All-drop, All-nil, All-replicate, All-set, All-take}
use Rattle.plan_tables.specs.declared.devices.{Act.Act, BankSettings.BankSettings, Settings.TheVariants.Bank}
use Rattle.plan_tables.specs.Devices.{IsWithinLimits, list_count, state_count}
use Rattle.plan_tables.specs.declared.devices.Act.TheVariants as acts
use Rattle.device_objects.specs.{declared.state.BankSlot.BankSlot, Laws.IsLawful, Kinds.moments_of}
use Rattle.device_objects.specs.{Bank.rotate_states, Outcomes.only_if}
use Rattle.device_objects.specs.Bank.{HasBankShape, advance_where, are_all_in, bank_slots, banks, can_complete}
use Rattle.device_objects.specs.Bank.{first_slot, gone_on, group_complete, hit, hit_completing, hit_lists, hit_where}
use Rattle.device_objects.specs.Bank.{is_complete, next_state, of_bank, of_hit, of_hit_in, slot_step, slots}
use Rattle.device_objects.proofs.Among.{In, here, there, at_last, in_range, in_flat_map, if_holds, by, either, one}
use Rattle.device_objects.proofs.{Among.{all_if, by_test}, Replicas.slice_get-replicate}
use Rattle.device_objects.proofs.Replicas.{All-flat_map_range, nat_lt-not_zero, not_below_one, one_below, set-replicate}
use Rattle.device_objects.proofs.SlotLaws.{All-at, Comes, one_of, slotted-lawful}
use Rattle.device_objects.specs.declared.state.DeviceState.TheVariants as states

-- ---- states keep their shape

-- each state of a bank's slots is one of the profile
module _ (b : BankSettings) where
  abbrev AreWithin : List ℕ → Type 0
  AreWithin states = All (λ s. s ≤ b.last_state) states

  next-within : (state : ℕ) → state ≤ b.last_state → next_state b state ≤ b.last_state
  next-within state l = search rules

  with_states : (slot : BankSlot) (states : List ℕ) → HasBankShape b slot → length states ≡ 16 → AreWithin states
      → HasBankShape b (record slot { states = states })
  with_states slot states shape long within = (shape.0, long, within)

  turned-length : (k : ℕ) (states : List ℕ) → length (rotate_states b.shots k states) ≡ length states
  turned-length k states = search (rules, length-append, length-drop, length-take)

  turned-shape : (slot : BankSlot) (k : ℕ) → HasBankShape b slot
      → HasBankShape b (record slot { states = rotate_states b.shots k slot.states })
  turned-shape slot k shape = search (rules, All-take, with_states, turned-length, All-append, All-drop)

  first_slot-shape : (game : ℕ) → HasBankShape b (first_slot b game)
  first_slot-shape game = (refl, refl, All-replicate (λ s. s ≤ b.last_state) 16 0 (omega arith))

  hit_where-shape : (i : ℕ) (slot : BankSlot) (enabled : Option Bool) (state : Option ℕ)
      → ((s : ℕ) → state ≡ Some s → s ≤ b.last_state) → HasBankShape b slot
      → HasBankShape b (hit_where b i enabled state slot).0
  hit_where-shape i slot enabled state within shape = search rules

  advance_where-shape : (i : ℕ) (slot : BankSlot) (state : Option ℕ) → ((s : ℕ) → state ≡ Some s → s ≤ b.last_state)
      → HasBankShape b slot → HasBankShape b (advance_where b i state slot)
  advance_where-shape i slot state within shape = search rules

  bank_slot-shape : (act : Act) (slot : BankSlot) → HasBankShape b slot → HasBankShape b (slot_step b act slot).0
  bank_slot-shape (acts.Hit i) slot shape =
      one_of (λ (a : BankSlot × List ℕ). HasBankShape b a.0) (nat_lt i b.shots)
      (hit_where b i (slice_get slot.enabled i) (slice_get slot.states i) slot) (slot, [])
      (hit_where-shape i slot (slice_get slot.enabled i) (slice_get slot.states i)
      (λ s is. All-at (λ n. n ≤ b.last_state) slot.states i s is shape.2) shape) shape
  bank_slot-shape (acts.Advance i) slot shape =
      one_of (HasBankShape b) (nat_lt i b.shots) (advance_where b i (slice_get slot.states i) slot) slot
      (advance_where-shape i slot (slice_get slot.states i)
      (λ s is. All-at (λ n. n ≤ b.last_state) slot.states i s is shape.2) shape) shape
  bank_slot-shape (acts.ResetShot i) slot shape = search rules
  bank_slot-shape (acts.EnableShot i) slot shape = search rules
  bank_slot-shape (acts.DisableShot i) slot shape = search rules
  bank_slot-shape acts.Reset slot shape = search rules
  bank_slot-shape acts.RotateRight slot shape = turned-shape slot (b.shots - 1) shape
  bank_slot-shape acts.RotateLeft slot shape = turned-shape slot 1 shape
  bank_slot-shape _ slot shape = shape

-- ---- answers are outcomes

-- the only shot of a group, when it has moved
only_shot : (shots i s next : ℕ) (states : List ℕ) → nat_lt i shots ≡ true → nat_lt 1 shots ≡ false
    → slice_get states i ≡ Some s
    → list_all (λ n. n == next) (take shots (slice_set states i next)) ≡ true
only_shot zero i s next states within one is = absurd (nat_lt-not_zero i within)
only_shot (suc zero) zero s next [] within one is = absurd (none-some s is)
only_shot (suc zero) zero s next (n ∷ states) within one is = and_from (next == next) true (eq-eqb next next refl) refl
only_shot (suc zero) (suc i) s next states within one is = absurd (not_below_one i within)
only_shot (suc (suc n)) i s next states within one is = absurd (one_below n one)

-- what a hit answers, by whether the shots are a group, advance, move and are then all in one state, and are several
hit-comes : {S : Type 0} (x y : S) (group advance moves all several : Bool) (hits : List ℕ) (done : ℕ)
    → (several ≡ false → all ≡ true)
    → In (if◌then◌else◌ {A = S × List ℕ} advance (x, hits ++ (if group && (moves && all) then done ∷ [] else []))
    (y, hits)).1
    (if group && (advance && moves) then only_if several (hits ∷ []) ++ (hits ++ done ∷ []) ∷ [] else hits ∷ [])
hit-comes x y false false moves all several hits done only = here
hit-comes x y true false moves all several hits done only = here
hit-comes x y true true true true several hits done only = at_last (only_if several (hits ∷ []))
hit-comes x y true true true false false hits done only = absurd (false≢true (only refl))
hit-comes x y _ true _ _ _ hits done only = by (append-nil hits) here

hit_now-in : (b : BankSettings) (i s : ℕ) (slot : BankSlot) → nat_lt i b.shots ≡ true → slice_get slot.states i ≡ Some s
    → In (hit b i s slot).1 (of_hit_in b i s)
hit_now-in b i s slot within is = search (rules, hit-comes, nat_lt, only_shot)

hit_where-in : (b : BankSettings) (i : ℕ) (slot : BankSlot) (enabled : Option Bool) (state : Option ℕ)
    → nat_lt i b.shots ≡ true → slice_get slot.states i ≡ state
    → In (hit_where b i enabled state slot).1 ([] ∷ only_if (nat_lt i b.shots) (of_hit b i))
hit_where-in b i slot (Some true) (Some s) within is =
    either (nat_le s b.last_state) (hit b i s slot) (slot, [])
    (λ known.
    let low = leb-true s b.last_state known in
    let at : In s (range_with_len 0 (state_count b)) = in_range 0 (state_count b) s (omega arith) (omega (arith, low))
    in
    there (if_holds (nat_lt i b.shots) within (in_flat_map (of_hit_in b i) at (hit_now-in b i s slot within is))))
    (λ unknown. here)
hit_where-in b i slot _ _ within is = here

bank_slot-in : (b : BankSettings) (act : Act) (slot : BankSlot) → In (slot_step b act slot).1 (of_bank b act)
bank_slot-in b (acts.Hit i) slot =
    let state = slice_get slot.states i in
    either (nat_lt i b.shots) (hit_where b i (slice_get slot.enabled i) state slot) (slot, [])
    (λ within. hit_where-in b i slot (slice_get slot.enabled i) state within refl) (λ not. here)
bank_slot-in b _ slot = here

none-in : (b : BankSettings) (act : Act) → true ≡ true → In [] (of_bank b act)
none-in b (acts.Hit i) is = here
none-in b _ is = here

-- ---- lists

-- each is one of so many
abbrev AreBelow : ℕ → List ℕ → Type 0
AreBelow n lists = All (λ k. k < n) lists

more : (n k : ℕ) (ks : List ℕ) → k < n → AreBelow n ks → AreBelow n (k ∷ ks)
more n k ks l h = All-cons (λ j. j < n) k ks l h

complete_if : (group : Bool) (n c s : ℕ) → group ≡ true → s < c
    → AreBelow (c * (n + (if group then 2 else 0))) ((suc n * c + s) ∷ [])
complete_if group n c s is low = search rules

module _ (b : BankSettings) where
  abbrev count : ℕ
  count = list_count (Bank b)

  abbrev of_group : ℕ
  of_group = if b.group then 2 else 0

  hits-below : (i s : ℕ) → i < b.shots → s ≤ b.last_state → AreBelow count (hit_lists b i s)
  hits-below i s within low = search (rules, more, mul-le-mul_left)

  completing-below : (i s : ℕ) → i < b.shots → s ≤ b.last_state → b.group ≡ true → AreBelow count (hit_completing b i s)
  completing-below i s within low is =
      let next-low : next_state b s ≤ b.last_state = next-within b s low in
      All-append (λ k. k < count) (hit_lists b i s) (group_complete b (next_state b s) ∷ []) (hits-below i s within low)
      (complete_if b.group b.shots (state_count b) (next_state b s) is (omega (arith, next-low)))

  hit_in-below : (i s : ℕ) → i < b.shots → s ≤ b.last_state → All (AreBelow count) (of_hit_in b i s)
  hit_in-below i s within low =
      search (rules, one, hits-below, by_test, nat_lt, All-append, all_if, completing-below, and_parts)

  bank_act-below : (act : Act) → All (AreBelow count) (of_bank b act)
  bank_act-below (acts.Hit i) =
      All-cons (AreBelow count) [] (only_if (nat_lt i b.shots) (of_hit b i)) (All-nil (λ k. k < count))
      (all_if (AreBelow count) (nat_lt i b.shots) (of_hit b i)
      (λ is. All-flat_map_range (AreBelow count) (of_hit_in b i) 0 (state_count b)
      (λ s low. hit_in-below i s (ltb-true i b.shots is) (omega (arith, low)))))
  bank_act-below _ = one (AreBelow count) [] (All-nil (λ k. k < count))

-- ---- answers are short

abbrev AreFew : List ℕ → Type 0
AreFew lists = length lists ≤ 4

hit_in-few : (b : BankSettings) (i s : ℕ) → All AreFew (of_hit_in b i s)
hit_in-few b i s = search (rules, All-nil, All-cons, All-append)

bank_act-few : (b : BankSettings) (act : Act) → All AreFew (of_bank b act)
bank_act-few b (acts.Hit i) =
    All-cons AreFew [] (only_if (nat_lt i b.shots) (of_hit b i)) (omega arith)
    (all_if AreFew (nat_lt i b.shots) (of_hit b i)
    (λ is. All-flat_map_range AreFew (of_hit_in b i) 0 (state_count b) (λ s low. hit_in-few b i s)))
bank_act-few b _ = one AreFew [] (omega arith)

-- ---- each outcome comes about

-- a bank of whose shots all are enabled
abbrev bank_slot : List ℕ → BankSlot
bank_slot shots = record { game = 0; enabled = replicate 16 true; states = shots }

bank_answer : (b : BankSettings) (act : Act) (lists : List ℕ) (shots : List ℕ) → HasBankShape b (bank_slot shots)
    → (slot_step b act (bank_slot shots)).1 ≡ lists → Comes (slots b) act lists
bank_answer b act lists shots shape answers =
    inl (record { now = 0; slot = bank_slot shots; shape = shape; answer = answers })

none_differs : (group moves all : Bool) → all ≡ false → (group && (moves && all)) ≡ false
none_differs group moves all is = search rules

quiet_hit : {S : Type 0} (x y : S) (advance complete : Bool) (hits done : List ℕ) → (advance ≡ true → complete ≡ false)
    → (if◌then◌else◌ {A = S × List ℕ} advance (x, hits ++ (if complete then done else [])) (y, hits)).1 ≡ hits
quiet_hit x y advance complete hits done is = search rules

full_hit : {S : Type 0} (x y : S) (advance complete : Bool) (hits done : List ℕ) → advance ≡ true → complete ≡ true
    → (if◌then◌else◌ {A = S × List ℕ} advance (x, hits ++ (if complete then done else [])) (y, hits)).1 ≡ hits ++ done
full_hit x y advance complete hits done on is = search rules

-- some shot, of several, but this one
another : ℕ → ℕ
another zero = 1
another (suc i) = 0

another-is : (i : ℕ) → (another i ≢ i) × (another i < 2)
unfolding another
another-is i = search rules

all_same : (n s : ℕ) → list_all (λ x. x == s) (replicate n s) ≡ true
all_same zero s = refl
all_same (suc n) s = and_from (s == s) (list_all (λ x. x == s) (replicate n s)) (eq-eqb s s refl) (all_same n s)

none_moves : (group all same : Bool) → same ≡ true → (group && (not same && all)) ≡ false
none_moves group all same is = search rules

-- of several shots that were in one state, one has moved
one_moved : (n i s next : ℕ) → nat_lt 1 n ≡ true → n ≤ 16 → (next ≡ s → ⊥)
    → list_all (λ x. x == next) (take n (slice_set (replicate 16 s) i next)) ≡ false
one_moved n i s next several few differ =
    let moved_one : List ℕ = slice_set (replicate 16 s) i next in
    let j : ℕ = another i in
    let two : 1 < n = ltb-true 1 n several in
    let low : j < 2 = (another-is i).1 in
    let long : length (take n moved_one) ≡ n =
    omega (arith, few, length-take n moved_one, length-set (replicate 16 s) i next, length-replicate 16 s) in
    let stays : get_or (take n moved_one) j 0 ≡ s =
    (get_or-take n moved_one j 0 (omega (arith, two, low))
    ∙ get_or-set_other (replicate 16 s) i j next 0 (another-is i).0
    ∙ get_or-replicate 16 j s 0 (omega (arith, low))) in
    list_all_at (λ x. x == next) (take n moved_one) j 0 (omega (arith, two, low, long))
    (ap (λ x. x == next) stays ∙ ne_eqb s next (λ same. differ (sym same)))

module _ (b : BankSettings) (limits : IsWithinLimits (Bank b)) where
  bank_shape : (shots : List ℕ) → length shots ≡ 16 → All (λ s. s ≤ b.last_state) shots
      → HasBankShape b (bank_slot shots)
  bank_shape shots long within = (sym limits.2, long, within)

  -- a hit of a shot in this state
  bank_hit : (i s : ℕ) (shots : List ℕ) → nat_lt i b.shots ≡ true → s ≤ b.last_state → slice_get shots i ≡ Some s
      → (slot_step b (acts.Hit i) (bank_slot shots)).1 ≡ (hit b i s (bank_slot shots)).1
  bank_hit i s shots within low is = search rules

  -- a shot is hit in this state, as all others are in
  stays-incomplete : (i s : ℕ) → (can_complete b s ≡ false) ⊎ (nat_lt 1 b.shots ≡ true) → b.advance_on_hit ≡ true
      → is_complete b s (gone_on b i s (replicate 16 s)) ≡ false
  stays-incomplete i s (inl cannot) on = search rules
  stays-incomplete i s (inr several) on =
      let next = next_state b s in
      let all = are_all_in b next (gone_on b i s (replicate 16 s)) in
      elim (cases_Bool (next == s)) [
        | inl same ↦ none_moves b.group all (next == s) same
        | inr other ↦ none_differs b.group (not (next == s)) all
            (one_moved b.shots i s next several limits.0 (eqb-false next s other))
      ]

  going_on-comes : (i s : ℕ) → nat_lt i b.shots ≡ true → s ≤ b.last_state
      → (can_complete b s ≡ false) ⊎ (nat_lt 1 b.shots ≡ true)
      → Comes (slots b) (acts.Hit i) (hit_lists b i s)
  going_on-comes i s within low how =
      let i-low : i < b.shots = ltb-true i b.shots within in
      let shots : List ℕ = replicate 16 s in
      let gone : List ℕ = gone_on b i s shots in
      bank_answer b (acts.Hit i) (hit_lists b i s) shots
      (bank_shape shots refl (All-replicate (λ x. x ≤ b.last_state) 16 s low))
      (bank_hit i s shots within low (slice_get-replicate 16 i s (omega (arith, limits.0, i-low)))
      ∙ quiet_hit (record (bank_slot shots) { states = gone }) (bank_slot shots) b.advance_on_hit
      (is_complete b s gone) (hit_lists b i s)
      (group_complete b (next_state b s) ∷ []) (stays-incomplete i s how))

  completing-comes : (i s : ℕ) → nat_lt i b.shots ≡ true → s ≤ b.last_state → can_complete b s ≡ true
      → Comes (slots b) (acts.Hit i) (hit_completing b i s)
  completing-comes i s within low can =
      let i-low : i < b.shots = ltb-true i b.shots within in
      let next : ℕ = next_state b s in
      let others : List ℕ = replicate 16 next in
      let shots : List ℕ = slice_set others i s in
      let there : i < length others = omega (arith, limits.0, i-low, length-replicate 16 next) in
      let is : slice_get shots i ≡ Some s =
      (slice_get-get_or shots i s (omega (arith, there, length-set others i s))
      ∙ ap Some (get_or-set_same others i s s there)) in
      let gone : gone_on b i s shots ≡ others = set-set others i s next ∙ set-replicate 16 i next in
      let all : are_all_in b next (gone_on b i s shots) ≡ true =
      (ap (λ xs. list_all (λ x. x == next) (take b.shots xs)) gone
      ∙ ap (list_all (λ x. x == next)) (take-replicate b.shots 16 next limits.0)
      ∙ all_same b.shots next) in
      let of_group = and_parts b.group (b.advance_on_hit && not (next == s)) can in
      let moves = and_parts b.advance_on_hit (not (next == s)) of_group.1 in
      bank_answer b (acts.Hit i) (hit_completing b i s) shots
      (bank_shape shots (length-set others i s)
      (All-set (λ x. x ≤ b.last_state) others i s low
      (All-replicate (λ x. x ≤ b.last_state) 16 next (next-within b s low))))
      (bank_hit i s shots within low is
      ∙ full_hit (record (bank_slot shots) { states = gone_on b i s shots }) (bank_slot shots) b.advance_on_hit
      (is_complete b s (gone_on b i s shots)) (hit_lists b i s) (group_complete b next ∷ []) moves.0
      (and_from b.group (not (next == s) && are_all_in b next (gone_on b i s shots)) of_group.0
      (and_from (not (next == s)) (are_all_in b next (gone_on b i s shots)) moves.1 all)))

  hit_in-comes : (i s : ℕ) → nat_lt i b.shots ≡ true → s ≤ b.last_state
      → All (Comes (slots b) (acts.Hit i)) (of_hit_in b i s)
  hit_in-comes i s within low =
      let Answer : List ℕ → Type 0 = Comes (slots b) (acts.Hit i) in
      by_test Answer (can_complete b s)
      (only_if (nat_lt 1 b.shots) (hit_lists b i s ∷ []) ++ hit_completing b i s ∷ [])
      (hit_lists b i s ∷ [])
      (λ can. All-append Answer (only_if (nat_lt 1 b.shots) (hit_lists b i s ∷ [])) (hit_completing b i s ∷ [])
      (all_if Answer (nat_lt 1 b.shots) (hit_lists b i s ∷ [])
      (λ several. one Answer (hit_lists b i s) (going_on-comes i s within low (inr several))))
      (one Answer (hit_completing b i s) (completing-comes i s within low can)))
      (λ cannot. one Answer (hit_lists b i s) (going_on-comes i s within low (inl cannot)))

  bank_acts : (act : Act) → All (Comes (slots b) act) (of_bank b act)
  bank_acts (acts.Hit i) =
      let Answer : List ℕ → Type 0 = Comes (slots b) (acts.Hit i) in
      All-cons Answer [] (only_if (nat_lt i b.shots) (of_hit b i)) (inr (refl, refl))
      (all_if Answer (nat_lt i b.shots) (of_hit b i)
      (λ within. All-flat_map_range Answer (of_hit_in b i) 0 (state_count b)
      (λ s l. hit_in-comes i s within (omega (arith, l)))))
  bank_acts act = one (Comes (slots b) act) [] (inr (refl, refl))

-- ---- the law

pub banks-lawful : (b : BankSettings) → IsLawful (banks b) moments_of (IsWithinLimits (Bank b)) (list_count (Bank b))
banks-lawful b =
    slotted-lawful states.Bank bank_slots (slots b) (IsWithinLimits (Bank b)) (list_count (Bank b)) (λ held. refl)
    (λ state held is. search rules) (λ held. refl) (first_slot-shape b) (λ act now. bank_slot-shape b act)
    (λ act now. bank_slot-in b act) (none-in b) (bank_acts b) (bank_act-below b) (bank_act-few b)
