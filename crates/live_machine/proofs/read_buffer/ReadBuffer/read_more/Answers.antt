use Rattle.std.proofs.Common.{rules, ◌≡◌, List, ℕ, ◌+◌, ◌-◌, ◌++◌, ◌≤◌, length, sym, ap, ◌∙◌, take, subst}
use Rattle.std.{specs.{Prelude.slice_range, Vec.with_items}, proofs.lemmas.List.{with_items_is, places}}
use borrow.Rule.Slice.PartMut.{post_of}
use Rattle.live_machine.{specs.LineLinks.read_ahead, proofs.Buffers.{front-more, front-same, read-on, still-held}}
use Rattle.live_machine.proofs.read_buffer.ReadBuffer.read_more.Goals as goal

pub returns-in-Ok-clause-keeps : goal.returns-in-Ok-clause-keeps
returns-in-Ok-clause-keeps g c =
    let after = c.move_to_front.new.self in
    let lent = c.deref_mut.result.now in
    let read = c.read.new.buf in
    let post = post_of after.end (length lent - after.end) lent in
    let all : List ℕ = take after.end lent ++ (read ++ post) in
    let items : (with_items after.room all).items ≡ all = with_items_is after.room all (search (rules, places)) in
    let within : after.end ≤ length lent =
    subst (λ (l : List ℕ). after.end ≤ length l) (sym c.deref_mut.ensures.value) after.ends in
    read-on (read_ahead c.args.self.now) (slice_range (with_items after.room all).items after.start
    (after.end + c.in-Ok.count)) (take c.in-Ok.count read) _ _
    (ap (λ (l : List ℕ). slice_range l after.start (after.end + c.in-Ok.count)) items
    ∙ front-more lent read post after.start after.end c.in-Ok.count c.move_to_front.ensures.front within
    c.in-Ok.ensures.bound.0
    ∙ ap (λ (l : List ℕ). slice_range l after.start after.end ++ take c.in-Ok.count read) c.deref_mut.ensures.value
    ∙ ap (λ (l : List ℕ). l ++ take c.in-Ok.count read) c.move_to_front.ensures.same)
    c.in-Ok.ensures.bytes.0

pub returns-in-Err-clause-keeps : goal.returns-in-Err-clause-keeps
returns-in-Err-clause-keeps g c =
    let after = c.move_to_front.new.self in
    let lent = c.deref_mut.result.now in
    let more : List ℕ = c.read.new.buf ++ post_of after.end (length lent - after.end) lent in
    let all : List ℕ = take after.end lent ++ more in
    let items : (with_items after.room all).items ≡ all = with_items_is after.room all (search (rules, places)) in
    let within : after.end ≤ length lent =
    subst (λ (l : List ℕ). after.end ≤ length l) (sym c.deref_mut.ensures.value) after.ends in
    still-held (read_ahead c.args.self.now) (slice_range (with_items after.room all).items after.start after.end) _ _
    (ap (λ (l : List ℕ). slice_range l after.start after.end) items
    ∙ front-same lent more after.start after.end c.move_to_front.ensures.front within
    ∙ ap (λ (l : List ℕ). slice_range l after.start after.end) c.deref_mut.ensures.value ∙ c.move_to_front.ensures.same)
    c.in-Err.ensures.bytes
