use Rattle.std.proofs.Common.{ℕ, ◌≤◌, List, [], ◌∷◌, ◌++◌, length, map, take, Vec, Global, Option, Result, OnOk, codes}
use Rattle.std.{proofs.{Common.refl, KnownBytes.Appends-trans}, specs.{List.flat_map, Io.KnownBytes.Appends}}
use Rattle.mpf_config.specs.FaultLine.{with_blank}
use Rattle.config_checker.proofs.Writing.{written-seen}
use Rattle.config_checker.proofs.report_text.write_cycle.Goals as goal
use Rattle.yaml_bytes.proofs.Writing.{last_piece, one_more_piece, all_pieces}

pub loop-event-preserved : goal.loop-event-preserved
loop-event-preserved g c =
    let name = Appends-trans _ _ _ (32 ∷ []) c.event-item.result.items c.in_ok-write_all-2.ensures.bytes
    (rw c.deref.ensures.value at c.in_ok-write_all-3.ensures.bytes) in
    one_more_piece (λ v. with_blank v.items) c.args.events.now c.loop-event.event-index c.event-item.result _ _ _
    c.loop-event-test.true c.loop-event.invariant
    (rw (← c.event-item.is) name)

names : {T E : Type 0} (r : Result T E) (events : List (Vec ℕ Global)) (i : ℕ) (w0 w1 w2 w3 : Option (List ℕ))
    → length events ≤ i → Appends w0 w1 (codes "fault 8 Cycle")
    → Appends w1 w2 (flat_map (λ v. with_blank v.items) (take i events)) → OnOk r (Appends w2 w3 (10 ∷ []))
    → OnOk r (Appends w0 w3 (codes "fault 8 Cycle" ++ flat_map with_blank (map (λ v. v.items) events) ++ 10 ∷ []))
names r events i w0 w1 w2 w3 whole h k last =
    last_piece r w0 w2 w3 _ _ _ refl (Appends-trans w0 w1 w2 (codes "fault 8 Cycle") _ h
    (written-seen with_blank (λ v. v.items) events w1 w2
    (all_pieces (λ v. with_blank v.items) events i w1 w2 whole k))) last

pub returns : goal.returns
returns g c =
    names c.write_all-2.result c.args.events.now c.loop-event.event-index _ _ _ _ c.loop-event-test.false
    c.in_ok-write_all.ensures.bytes c.loop-event.invariant c.write_all-2.ensures.bytes
