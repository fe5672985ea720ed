use Rattle.std.proofs.Common.{true, false, sym, ◌∙◌}
use Rattle.setting_values.{specs.{ValueOf.own_name, View.fields_view}, proofs.Apart.apart_from}
use Rattle.setting_values.proofs.fields.are_apart.Goals as goal

pub returns-then-has_namesake : goal.returns-then-has_namesake
returns-then-has_namesake c =
    let again = sym c.has_namesake.ensures ∙ c.if-has_namesake.true in
    sym (apart_from fields_view own_name c.args.maps.now c.loop-at.at c.index-maps-at.result c.loop-at-test.true
    c.index-maps-at.is true again) ∙ c.loop-at.invariant

pub loop-at-preserved : goal.loop-at-preserved
loop-at-preserved c =
    let other = sym c.has_namesake.ensures ∙ c.if-has_namesake.false in
    sym (apart_from fields_view own_name c.args.maps.now c.loop-at.at c.index-maps-at.result c.loop-at-test.true
    c.index-maps-at.is false other) ∙ c.loop-at.invariant
