-- The values of settings are those that are read, and no others.
use Rattle.std.proofs.Common.{rules, ◌≡◌, ◌<◌, ℕ, Bool, true, false, if◌then◌else◌, List, length, map, set, Option}
use Rattle.std.proofs.{Common.{Some, None, Result, Ok, refl, sym, ap, subst, inl, arith}, lemmas.Bool.le-leb}
use Rattle.yaml_subset.specs.{Node.{Node, Pair}, View.{line_of, text_in}}
use Rattle.mpf_values.proofs.NameTexts.{IsName-from_is_name, is_name-from_IsName}
use Rattle.config_faults.specs.declared.fault.BundleFaultKind.TheVariants.{BadValue}
use Rattle.setting_values.specs.Values.{HandledEvent, Plain, Fields, KeyedValues, Value, one, names, posts, events}
use Rattle.setting_values.specs.{Values.{steps, maps, by_key, written_at}, Below.pairs_below}
use Rattle.config_faults.specs.Faults.{RowsFault, Spot, rows_fault_at, refuse}
use Rattle.setting_values.specs.Kinds.{Scalar, Bounds, at_least, fits, Field, Kind, single, name_list, post_list}
use Rattle.setting_values.specs.Kinds.{event_list, step_list, map_list, named_maps, keyed_maps}
use Rattle.setting_values.specs.KeyRules.{field_key, field_default, field_lacks}
use Rattle.setting_values.specs.ValueOf.{IsWritten, IsHandled, AreNodes, IsField, pass, IsFieldRow, AreFields, own_name}
use Rattle.setting_values.specs.ValueOf.{HaveOwnNames, IsKeyedRow, IsKeyed, AreKeyed, IsStep, IsValue}
use Rattle.setting_values.specs.Reading.{most_items, IsReadOrLong, ◌>>=◌, key_spot, each_read, plain_at, written_in}
use Rattle.setting_values.specs.Reading.{handled_in, listed_at, nodes_at, field_at, fields_row_at, fields_at, are_apart}
use Rattle.setting_values.specs.Reading.{named_maps_at, keyed_row_at, keyed_at, few_pairs_at, keyed_list_at, value_at}
use Rattle.setting_values.proofs.{RowsRead.{row_sound, row_complete}, Apart.{apart_sound, apart_complete}}
use Rattle.setting_values.proofs.Outcomes.{then_or, each_sound, each_or}
use Rattle.setting_values.proofs.ListValues.{plain_sound, plain_complete, name_sound, name_complete, handled_sound}
use Rattle.setting_values.proofs.ListValues.{handled_complete, listed_sound, counted_sound, counted_complete}
use Rattle.setting_values.proofs.ListValues.{listed_complete, nodes_sound, nodes_complete}
use Rattle.yaml_bytes.proofs.Steps.{bind_ok, guard_true, ok_is}

-- ---- maps

field_sound : (f : Field) (spot : Spot) (node : Node) (v : Plain) → field_at f spot node ≡ Ok v → IsField f node v
field_sound f spot node v e = plain_sound f.kind spot node v e

field_row_sound : (table : List Field) (others : Bool) (spot : Spot) (node : Node) (pairs : List Pair)
    (row : List Plain) → pairs_below node ≡ Some pairs → fields_row_at others spot table pairs ≡ Ok row
    → IsFieldRow table others node row
field_row_sound table others spot node pairs row has e =
    let s = row_sound field_key field_at IsField (pass others) field_sound field_default field_lacks spot table pairs
    row e in
    record { pairs = pairs; has = has; overwritten = s.0; whole = s.1 }

field_row_complete : (longest : ℕ) (table : List Field) (others : Bool) (spot : Spot) (node : Node) (row : List Plain)
    (h : IsFieldRow table others node row) → IsReadOrLong longest (fields_row_at others spot table h.pairs) row
field_row_complete longest table others spot node row h = search (rules, row_complete, plain_complete)

abbrev fields_made : Node → List Plain → Fields
fields_made node row = record { line = line_of node; values = row }

fields_sound : (table : List Field) (others : Bool) (spot : Spot) (node : Node) (m : Fields)
    → fields_at table others spot node ≡ Ok m → AreFields table others node m
unfolding fields_at
fields_sound table others spot node m e = search (rules, bind_ok, ok_is, field_row_sound)

fields_complete : (longest : ℕ) (table : List Field) (others : Bool) (spot : Spot) (node : Node) (m : Fields)
    → AreFields table others node m → IsReadOrLong longest (fields_at table others spot node) m
unfolding fields_at
fields_complete longest table others spot node m h =
    let at : Spot = record { text = spot.text; line = line_of node; key = spot.key } in
    rw h.row.has
    (then_or (most_items < longest) (fields_row_at others at table h.row.pairs) (λ r. Ok (fields_made node r)) m.values
    m (field_row_complete longest table others at node m.values h.row)
    (inl (λ i. Ok (record { line = sym h.line i; values = m.values }))))

-- ---- maps with their own names

named_maps_sound : (table : List Field) (others : Bool) (bounds : Bounds) (spot : Spot) (node : Node) (ms : List Fields)
    → named_maps_at table others bounds spot node ≡ Ok ms
    → AreNodes (AreFields table others) bounds 1024 node ms × HaveOwnNames ms
unfolding named_maps_at
named_maps_sound table others bounds spot node ms e =
    let read = nodes_at (fields_at table others) bounds spot node in
    let a = bind_ok read (λ xs. if are_apart (map own_name xs) then Ok xs else refuse BadValue spot) ms e in
    let b = guard_true (are_apart (map own_name a.0)) (Ok a.0) (rows_fault_at BadValue spot) ms a.2 in
    subst (λ (xs : List Fields). AreNodes (AreFields table others) bounds 1024 node xs × HaveOwnNames xs)
    (ok_is a.0 ms b.1) (
      nodes_sound (fields_at table others) (AreFields table others) (fields_sound table others) bounds spot node a.0
          a.1,
      apart_sound (map own_name a.0) b.0,
    )

named_maps_complete : (longest : ℕ) (table : List Field) (others : Bool) (bounds : Bounds) (spot : Spot) (node : Node)
    (ms : List Fields) → AreNodes (AreFields table others) bounds longest node ms → HaveOwnNames ms
    → IsReadOrLong longest (named_maps_at table others bounds spot node) ms
unfolding named_maps_at
named_maps_complete longest table others bounds spot node ms h apart =
    then_or (most_items < longest) (nodes_at (fields_at table others) bounds spot node)
    (λ xs. if are_apart (map own_name xs) then Ok xs else refuse BadValue spot) ms ms
    (nodes_complete (fields_at table others) (AreFields table others) longest (fields_complete longest table others)
    bounds spot node ms h)
    (inl (rw (apart_complete (map own_name ms) apart) refl))

-- ---- maps of names

keyed_row_sound : (table : List Field) (place : ℕ) (short : Scalar) (spot : Spot) (node : Node) (row : List Plain)
    (o : Option (List ℕ)) → keyed_row_at table place short spot node o ≡ Ok row
    → IsKeyedRow table place short node row o
keyed_row_sound table place short spot node row x7 e = search (rules, bind_ok, plain_sound, ok_is, field_row_sound)

keyed_row_complete : (longest : ℕ) (table : List Field) (place : ℕ) (short : Scalar) (spot : Spot) (node : Node)
    (row : List Plain) (o : Option (List ℕ)) → IsKeyedRow table place short node row o
    → IsReadOrLong longest (keyed_row_at table place short spot node o) row
keyed_row_complete longest table place short spot node row (Some text) h =
    then_or (most_items < longest) (plain_at short spot node) (λ v. Ok (set (map field_default table) place v)) h.0 row
    (plain_complete longest short spot node h.0 h.1) (inl (ap (λ (r : List Plain). Ok r) (sym h.2)))
keyed_row_complete longest table place short spot node row None h =
    rw h.has (field_row_complete longest table false spot node row h)

abbrev keyed_made : Pair → List Plain → KeyedValues
keyed_made p row = record { name = written_at p.line p.key; values = row }

keyed_sound : (text : List ℕ) (table : List Field) (place : ℕ) (short : Scalar) (p : Pair) (k : KeyedValues)
    → keyed_at text table place short p ≡ Ok k → IsKeyed table place short p k
unfolding keyed_at
keyed_sound text table place short p k e =
    search (rules, guard_true, bind_ok, ok_is, IsName-from_is_name, keyed_row_sound)

keyed_complete : (longest : ℕ) (text : List ℕ) (table : List Field) (place : ℕ) (short : Scalar) (p : Pair)
    (k : KeyedValues) → IsKeyed table place short p k → IsReadOrLong longest (keyed_at text table place short p) k
unfolding keyed_at
keyed_complete longest text table place short p k h =
    let spot = key_spot text p in
    rw (is_name-from_IsName p.key h.is_name)
    (then_or (most_items < longest) (keyed_row_at table place short spot p.value (text_in p.value))
    (λ r. Ok (keyed_made p r)) k.values k
    (keyed_row_complete longest table place short spot p.value k.values (text_in p.value) h.row)
    (inl (λ i. Ok (record { name = sym h.name i; values = k.values }))))

keyed_list_sound : (table : List Field) (place : ℕ) (short : Scalar) (spot : Spot) (node : Node) (ks : List KeyedValues)
    → keyed_list_at table place short spot node ≡ Ok ks → AreKeyed table place short 1024 node ks
unfolding keyed_list_at few_pairs_at
keyed_list_sound table place short spot node ks e =
    let a = bind_ok (few_pairs_at spot node) (each_read (keyed_at spot.text table place short)) ks e in
    let k = counted_sound most_items (at_least 0) spot (pairs_below node) a.0 a.1 in
    record {
      pairs = a.0;
      has = k.0;
      few = k.1;
      each = each_sound (keyed_at spot.text table place short) (IsKeyed table place short)
          (keyed_sound spot.text table place short) a.0 ks a.2;
    }

keyed_list_complete : (longest : ℕ) (table : List Field) (place : ℕ) (short : Scalar) (spot : Spot) (node : Node)
    (ks : List KeyedValues) → AreKeyed table place short longest node ks
    → IsReadOrLong longest (keyed_list_at table place short spot node) ks
unfolding keyed_list_at few_pairs_at
keyed_list_complete longest table place short spot node ks h =
    let any : fits (at_least 0) (length h.pairs) ≡ true = le-leb 0 (length h.pairs) (omega arith) in
    then_or (most_items < longest) (few_pairs_at spot node) (each_read (keyed_at spot.text table place short)) h.pairs
    ks
    (counted_complete most_items (at_least 0) spot (pairs_below node) longest h.pairs h.has h.few any)
    (each_or (keyed_at spot.text table place short) (IsKeyed table place short) (most_items < longest)
    (keyed_complete longest spot.text table place short) h.pairs ks h.each)

-- ---- steps

step_sound : (spot : Spot) (node : Node) (step : List HandledEvent)
    → listed_at handled_in most_items (at_least 1) spot node ≡ Ok step → IsStep 1024 node step
step_sound spot node step e = listed_sound handled_in IsHandled handled_sound most_items (at_least 1) spot node step e

step_complete : (longest : ℕ) (spot : Spot) (node : Node) (step : List HandledEvent) → IsStep longest node step
    → IsReadOrLong longest (listed_at handled_in most_items (at_least 1) spot node) step
step_complete longest spot node step h = listed_complete handled_in IsHandled most_items longest
    (handled_complete (most_items < longest)) (at_least 1) spot node step h

-- ---- settings

-- a value that is read, and made into that of a setting
put_in : {A : Type 0} (r : Result A RowsFault) (made : A → Value) (v : Value) → (r >>= λ x. Ok (made x)) ≡ Ok v
    → (x : A) × (r ≡ Ok x) × (v ≡ made x)
put_in r made v e = search rules

pub value_sound : (kind : Kind) (spot : Spot) (node : Node) (v : Value) → value_at kind spot node ≡ Ok v
    → IsValue 1024 kind node v
unfolding value_at
value_sound (single kind) spot node v e = let a = put_in (plain_at kind spot node) one v e
    in (a.0, plain_sound kind spot node a.0 a.1, a.2)
value_sound (name_list bounds) spot node v e = search (rules, put_in, listed_sound, name_sound)
value_sound (post_list bounds) spot node v e = search (rules, put_in, listed_sound, name_sound)
value_sound (event_list bounds) spot node v e = search (rules, put_in, listed_sound, handled_sound)
value_sound (step_list bounds) spot node v e =
    let a = put_in (nodes_at (listed_at handled_in most_items (at_least 1)) bounds spot node) steps v e in (
      a.0,
      nodes_sound (listed_at handled_in most_items (at_least 1)) (IsStep 1024) step_sound bounds spot node a.0 a.1,
      a.2,
    )
value_sound (map_list table others bounds) spot node v e =
    let a = put_in (nodes_at (fields_at table others) bounds spot node) maps v e in (
      a.0,
      nodes_sound (fields_at table others) (AreFields table others) (fields_sound table others) bounds spot node a.0
          a.1,
      a.2,
    )
value_sound (named_maps table others bounds) spot node v e =
    let a = put_in (named_maps_at table others bounds spot node) maps v e in
    let b = named_maps_sound table others bounds spot node a.0 a.1 in
    (a.0, b.0, b.1, a.2)
value_sound (keyed_maps table place short) spot node v e = search (rules, put_in, keyed_list_sound)

then_put : {A : Type 0} (longest : ℕ) (r : Result A RowsFault) (made : A → Value) (x : A) (v : Value)
    → IsReadOrLong longest r x → v ≡ made x → IsReadOrLong longest (r >>= λ y. Ok (made y)) v
then_put longest r made x v h is = then_or (most_items < longest) r (λ y. Ok (made y)) x v h
    (inl (ap (λ (z : Value). Ok z) (sym is)))

pub value_complete : (longest : ℕ) (kind : Kind) (spot : Spot) (node : Node) (v : Value) → IsValue longest kind node v
    → IsReadOrLong longest (value_at kind spot node) v
unfolding value_at
value_complete longest (single kind) spot node v h =
    then_put longest (plain_at kind spot node) one h.0 v (plain_complete longest kind spot node h.0 h.1) h.2
value_complete longest (name_list bounds) spot node v h =
    then_put longest (listed_at written_in most_items bounds spot node) names h.0 v
    (listed_complete written_in IsWritten most_items longest (name_complete (most_items < longest)) bounds spot node
    h.0 h.1) h.2
value_complete longest (post_list bounds) spot node v h =
    then_put longest (listed_at written_in most_items bounds spot node) posts h.0 v
    (listed_complete written_in IsWritten most_items longest (name_complete (most_items < longest)) bounds spot node
    h.0 h.1) h.2
value_complete longest (event_list bounds) spot node v h =
    then_put longest (listed_at handled_in most_items bounds spot node) events h.0 v
    (listed_complete handled_in IsHandled most_items longest (handled_complete (most_items < longest)) bounds spot
    node h.0 h.1) h.2
value_complete longest (step_list bounds) spot node v h =
    then_put longest (nodes_at (listed_at handled_in most_items (at_least 1)) bounds spot node) steps h.0 v
    (nodes_complete (listed_at handled_in most_items (at_least 1)) (IsStep longest) longest (step_complete longest)
    bounds spot node h.0 h.1) h.2
value_complete longest (map_list table others bounds) spot node v h =
    then_put longest (nodes_at (fields_at table others) bounds spot node) maps h.0 v
    (nodes_complete (fields_at table others) (AreFields table others) longest (fields_complete longest table others)
    bounds spot node h.0 h.1) h.2
value_complete longest (named_maps table others bounds) spot node v h =
    then_put longest (named_maps_at table others bounds spot node) maps h.0 v
    (named_maps_complete longest table others bounds spot node h.0 h.1 h.2) h.3
value_complete longest (keyed_maps table place short) spot node v h =
    then_put longest (keyed_list_at table place short spot node) by_key h.0 v
    (keyed_list_complete longest table place short spot node h.0 h.1) h.2
