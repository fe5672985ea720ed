use Rattle.std.proofs.Common.{rules, ◌≡◌, suc, ◌-◌, take, get_or, slice_get, sym, ◌∙◌, subst, arith}
use Rattle.section_tables.specs.View.{with_written, row_values}
use Rattle.section_tables.proofs.WrittenRows.{found, passed, seen-at, seen-past, seen-same}
use Rattle.section_tables.proofs.rows.EntryRow.value.Goals as goal

pub returns-then-place-len : goal.returns-then-place-len
unfolding row_values
returns-then-place-len c = search (rules, seen-past)

pub returns-then-index-place : goal.returns-then-index-place
unfolding row_values
returns-then-index-place c =
    let self = c.args.self.now in
    let order = self.order.items in
    let written_values = self.written_values.items in
    let i = c.loop-at.at - 1 in
    let next : suc i ≡ c.loop-at.at = omega (arith, c.loop-at-test.true) in
    let at : get_or order i c.args.place ≡ c.args.place =
    subst (λ r. get_or order i r ≡ r) c.if-index-place.true (sym c.index.ensures) in
    let last = found self.bare.value.items order written_values c.args.place i c.args.place self.has_places
    (omega (arith, next, c.loop-at.invariant.1)) c.loop-at.invariant.0 at in
    let whole = subst (λ n. slice_get (with_written self.bare.value.items (take n order) (take n written_values))
    c.args.place
    ≡ slice_get written_values i) next last in
    seen-at written_values i c.get.result (rw c.deref-then-index-place.ensures.value at c.get.ensures.lookup)
    ∙ seen-same written_values (with_written self.bare.value.items order written_values) i c.args.place
    (sym whole ∙ c.loop-at.invariant.2)

pub loop-at-preserved : goal.loop-at-preserved
loop-at-preserved c =
    let self = c.args.self.now in
    let order = self.order.items in
    let written_values = self.written_values.items in
    let i = c.loop-at.at - 1 in
    let next : suc i ≡ c.loop-at.at = omega (arith, c.loop-at-test.true) in
    let same = passed self.bare.value.items order written_values c.args.place i c.index.result.now self.has_places
    (omega (arith, next, c.loop-at.invariant.1)) (λ e. c.if-index-place.false (c.index.ensures ∙ e)) in
    let here = subst (λ n. slice_get (with_written self.bare.value.items (take n order) (take n written_values))
    c.args.place
    ≡ slice_get (with_written self.bare.value.items (take i order) (take i written_values)) c.args.place) next same in
    (c.loop-at.invariant.0, omega (arith, c.loop-at.invariant.1), sym here ∙ c.loop-at.invariant.2)

pub returns : goal.returns
unfolding row_values
returns c =
    let self = c.args.self.now in
    let bare = self.bare.value.items in
    let none : c.loop-at.at ≡ 0 = omega (arith, c.loop-at-test.false) in
    let whole = subst (λ n. slice_get (with_written bare (take n self.order.items) (take n self.written_values.items))
    c.args.place ≡ slice_get (with_written bare self.order.items self.written_values.items) c.args.place) none
    c.loop-at.invariant.2 in
    seen-at bare c.args.place c.get-2.result (rw (c.deref-3.ensures.value, c.deref-2.ensures) at c.get-2.ensures.lookup)
    ∙ seen-same bare (with_written bare self.order.items self.written_values.items) c.args.place c.args.place whole
