use Rattle.std.proofs.Common.{rules, ◌≡◌, ◌+◌, ◌||◌, ℕ, List, [], ◌∷◌, ◌++◌, not, drop, map, ap, ◌∙◌}
use Rattle.std.specs.Str.{bytes_eq}
use Rattle.yaml_subset.specs.Keys.{is_among}
use Rattle.mpf_config.{specs.{Apart.{join_texts, named_entry}, CodeViews.copies_view}, proofs.ListLoops.mapped_at}
use Rattle.mpf_sections.specs.View.{entry_view}
use Rattle.mpf_config.proofs.TakenEntries.{front_and_name, takes_entry, knows_entry, refuses_entry}
use Rattle.mpf_config.proofs.taken.take_section.Goals as goal

pub loop-entry-preserved : goal.loop-entry-preserved
loop-entry-preserved c =
    let entries = c.entries-entries.result.now in
    let i = c.loop-entry.entry-index in
    let entry = c.entry-item.result in
    let section = c.args.section.now.name.items in
    let name = entry.name.text.items in
    let named = named_entry section in
    let behind = map named (map entry_view (drop (i + 1) entries)) in
    let all = map named (map entry_view (drop i entries)) in
    let first : all ≡ named (entry_view entry) ∷ behind =
    ap (map named) (mapped_at entry_view entries i entry c.loop-entry-test.true c.entry-item.is) in
    let keys = copies_view c.loop-entry.known_keys in
    let more = copies_view c.take_entry.new.known_keys in
    let front : c.deref-in-loop-entry.result.now ≡ join_texts section [] = c.deref-in-loop-entry.ensures.value
    ∙ c.in_ok-front.ensures ∙ ap (λ s. join_texts s []) c.deref.ensures.value in
    let key : c.deref-in-loop-entry.result.now ++ c.deref-in-loop-entry-2.result.now ≡ join_texts section name =
    (λ j. front j ++ c.deref-in-loop-entry-2.ensures j) ∙ front_and_name section name in
    let fresh = c.in_ok-fresh.ensures.fresh ∙ ap (λ k. not (is_among keys k)) key in
    let known : (q : List ℕ) → is_among more q ≡ (bytes_eq (join_texts section name) q || is_among keys q) =
    λ q. c.in_ok-fresh.ensures.known q ∙ ap (λ k. bytes_eq k q || is_among keys q) key in
    record {
      so_far = takes_entry c.args.text.now keys more c.in_ok-fresh.fresh (named (entry_view entry)) behind all first
          fresh c.if-not-fresh.false known ∙ c.loop-entry.invariant.so_far;
      known = λ q. knows_entry keys more (named (entry_view entry)) behind all first known q
          ∙ c.loop-entry.invariant.known q;
    }

pub returns-then-not-fresh-clause-value : goal.returns-then-not-fresh-clause-value
returns-then-not-fresh-clause-value c = search (rules, mapped_at, front_and_name, refuses_entry)
