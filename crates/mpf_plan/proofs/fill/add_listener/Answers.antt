use Rattle.std.proofs.Common.{◌<◌, ◌≤◌, ℕ, List, length, refl, sym, ap, ◌∙◌, arith}
use Rattle.std.proofs.lemmas.List.{length-set, get_or_default, set_past}
use Rattle.plan_tables.specs.declared.entries.{Listener.Listener, SwitchEntry.SwitchEntry}
use Rattle.plan_tables.specs.{PlanView.PlanSwitch, PlanFields.{switch_entry_view, switches_view}}
use Rattle.mpf_plan.{specs.Drafting.with_listener, proofs.Slotted.{switch_set, view_short}}
use Rattle.mpf_plan.proofs.fill.add_listener.Goals as goal

pub returns-then-number-len : goal.returns-then-number-len
returns-then-number-len c =
    let items = c.args.switches.now.items in
    let past : length items ≤ c.args.number = omega (arith, c.len.ensures, c.args.switches.now.ok.0) in
    (refl, λ ns. sym (set_past (switches_view ns items) c.args.number _ (omega (arith, past, view_short ns items))))

pub returns : goal.returns
returns c =
    let items = c.args.switches.now.items in
    let k = c.args.number in
    let l = c.args.listener in
    let was = c.index_mut.result.now in
    let now : SwitchEntry =
    record {
      kind = was.kind;
      listeners = c.push.new.self;
      confirms_playfield = was.confirms_playfield;
      active = was.active;
      inactive = was.inactive;
    } in
    let within : k < length items = omega (arith, c.len.ensures, c.args.switches.now.ok.0) in
    let heard = λ (n : List ℕ) (ls : List Listener).
    (let s : PlanSwitch =
    record {
      name = n;
      kind = was.kind;
      listeners = ls;
      confirms_playfield = was.confirms_playfield;
      active = was.active.items;
      inactive = was.inactive.items;
    } in s) in (
      length-set items k now,
      λ ns. switch_set ns items k now (with_listener l) within
          (λ n. ap (heard n) c.in_ok-push.ensures.items
          ∙ ap (λ (x : SwitchEntry). with_listener l (switch_entry_view (n, x)))
          (c.index_mut.ensures.value ∙ get_or_default items k was now within)),
    )
