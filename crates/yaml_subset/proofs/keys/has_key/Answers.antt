use Rattle.std.proofs.{Common.{rules, tests, ◌∙◌}, lemmas.Iterator.{YieldsList-from_slice, Search.any_from_yields_List}}
use Rattle.std.specs.{Cow.cow_slice_items, Str.bytes_eq}
use Rattle.yaml_subset.{specs.declared.tree.{Key.Key, Tree.Tree}, proofs.KeySets.among_pairs}
use Rattle.yaml_subset.proofs.keys.has_key.Goals as goal

pub returns : goal.returns
returns c =
    let pairs = c.args.pairs.now in
    let key = c.args.key.now in
    any_from_yields_List (λ (p : Key × Tree). bytes_eq (cow_slice_items p.0.text) key) _ _ c.any.result
    c.any.ensures.ran (YieldsList-from_slice pairs cc) (λ x b q k. search (rules, tests))
    ∙ among_pairs pairs key
