use Rattle.std.proofs.{Common.{◌≡◌, ◌||◌, ◌⊎◌, ℕ, List, not, ap, ◌∙◌, inl, inr}, lemmas.List.Elements.same_from_all_zip}
use Rattle.std.specs.{Cow.cow_slice_items, List.AllZip, Str.bytes_eq}
use Rattle.yaml_subset.specs.Keys.{is_among, copies_view}
use Rattle.yaml_subset.proofs.keys.take_copy.Goals as goal

-- a copy has the bytes of the key
same_bytes : {R : ℕ → ℕ → Type 0} → ((x y : ℕ) → R x y → y ≡ x) → (key copy : List ℕ) → (copy ≡ key) ⊎ AllZip R key copy
    → copy ≡ key
same_bytes same key copy (inl e) = e
same_bytes {R} same key copy (inr all) = same_from_all_zip R key copy all same

pub returns-clause-fresh : goal.returns-clause-fresh
returns-clause-fresh c =
    c.in_ok-is_new.ensures.fresh
    ∙ ap (λ (key : List ℕ). not (is_among (copies_view c.args.keys.now) key))
    (same_bytes (λ x y e. e) (cow_slice_items c.args.key.now) (cow_slice_items c.in_ok-copy.copy)
    c.in_ok-copy.ensures.cases)

pub returns-clause-known : goal.returns-clause-known
returns-clause-known c = λ q.
    c.in_ok-is_new.ensures.known q
    ∙ ap (λ (key : List ℕ). bytes_eq key q || is_among (copies_view c.args.keys.now) q)
    (same_bytes (λ x y e. e) (cow_slice_items c.args.key.now) (cow_slice_items c.in_ok-copy.copy)
    c.in_ok-copy.ensures.cases)
