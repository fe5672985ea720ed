use Rattle.std.{proofs.Common.{not, ap, ◌∙◌}, specs.Cow.cow_slice_items}
use Rattle.yaml_subset.proofs.KeySets.{hashed_key, hashed_key-among}
use Rattle.yaml_subset.proofs.keys.take_key.Goals as goal

pub returns-clause-fresh : goal.returns-clause-fresh
returns-clause-fresh c = c.in_ok-fresh.ensures.added
    ∙ ap not (hashed_key cow_slice_items c.args.keys.now.keys c.args.key)

pub returns-clause-known : goal.returns-clause-known
returns-clause-known c = λ q. rw c.in_ok-fresh.ensures.keys
    (hashed_key-among cow_slice_items c.args.keys.now.keys c.args.key q)
