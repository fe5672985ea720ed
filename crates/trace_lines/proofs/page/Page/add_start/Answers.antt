use Rattle.std.proofs.Common.{◌≡◌, ◌+◌, ◌≤◌, ℕ, List, ◌++◌, length, take, ap, ◌∙◌, arith, rules, take-take}
use Rattle.std.proofs.{Common.length-take-le, lemmas.List.with_items_is}
use Rattle.trace_lines.proofs.Pages.{placed-less}
use Rattle.trace_lines.proofs.page.Page.add_start.Goals as goal

pub returns : goal.returns
returns g c =
    let text = c.args.text.now in
    let old = c.deref_mut.result.now in
    let count = c.args.len in
    let at = c.self.inside.len in
    let few : count ≤ length (take g.row.N text) =
    search (rules, c.requires.few, length-take-le g.row.N text c.requires.long) in
    let within : at ≤ length old =
    omega (arith, ap length c.deref_mut.ensures.value, c.self.invariant.0, c.self.invariant.1) in
    let all : take (at + count) c.place_start.new.bytes ≡ take at old ++ take count text =
    placed-less at count (take g.row.N text) old c.place_start.new.bytes within few c.place_start.ensures
    ∙ ap (λ l. take at old ++ l) (take-take count g.row.N text c.requires.few) in
    let kept = with_items_is c.self.inside.bytes c.place_start.new.bytes
    (omega (arith, c.place_start.ensures.size, c.deref_mut.ensures.len)) in
    ap (take (at + count)) kept ∙ all ∙ ap (λ (l : List ℕ). take at l ++ take count text) c.deref_mut.ensures.value
    ∙ ap (λ (l : List ℕ). l ++ take count text) c.self.view_is
