use Rattle.std.proofs.{Common.{[], ◌++◌, map, refl, sym, ap, ◌∙◌, ℕ, List}, lemmas.Result.on_ok_weaker}
use Rattle.std.specs.{Prelude.{not, option_map}, Borrow.Bor}
use Rattle.mpf_sections.specs.View.{shot_view}
use Rattle.machine_definitions.specs.Found.{profile_view}
use Rattle.plan_rows.specs.View.{seat_view}
use Rattle.plan_parts.specs.declared.row_parts.RowHead.TheVariants as kinds
use Rattle.plan_parts.specs.{Parts.{handler, act_on, with_seat}, RowViews.acts_view}
use Rattle.plan_parts.{specs.ShotEntries.{shot_acts, lone_device}, proofs.Gives.{parts_with_switch, head_of_device}}
use Rattle.plan_parts.proofs.collect_shots.collect_shot.Goals as goal

pub returns-in-Some : goal.returns-in-Some
returns-in-Some c =
    let row = shot_view c.args.row in
    let p = profile_view c.args.profile.now in
    let seat = c.in-Some.seat in
    let new = record c.args.parts.now {
      unknown = not c.args.is_known;
      mention = c.name_in-parts.result;
      head = kinds.Seat seat.row;
      event_acts = c.collect_shot_acts.new.event_acts;
    } in
    on_ok_weaker c.collect_shot_acts.result
    (λ acting whose none.
    let acts = acting ∙ ap (λ xs. acts_view xs ++ shot_acts seat.shot row) none.event_acts in
    parts_with_switch new c.args.is_known row.switch (with_seat [] whose p row (option_map seat_view c.args.seat)) refl
    c.name_in-parts.ensures
    ((λ i. map (λ h. handler (none.of i) h.0 (act_on (record { 0 = seat.row }) h.1)) (acts i))
    ∙ ap (λ o. with_seat [] whose p row (option_map seat_view o)) (sym c.in-Some.is)))
    c.collect_shot_acts.ensures

pub returns-in-None : goal.returns-in-None
returns-in-None c =
    let row = shot_view c.args.row in
    let p = profile_view c.args.profile.now in
    let mid = record c.args.parts.now { unknown = not c.args.is_known; mention = c.name_in-parts.result } in
    let new = c.collect_lone.new.parts in
    on_ok_weaker c.collect_lone.result
    (λ a whose none.
    parts_with_switch new c.args.is_known row.switch (with_seat [] whose p row (option_map seat_view c.args.seat))
    a.known
    (ap (option_map (λ (n : Bor (List ℕ)). n.now)) a.mentions ∙ c.name_in-parts.ensures)
    (head_of_device mid new whose (lone_device p row) a none.of none.listens none.event_acts none.other_mentions
    none.lists
    ∙ ap (λ o. with_seat [] whose p row (option_map seat_view o)) (sym c.in-None.is)))
    c.collect_lone.ensures
