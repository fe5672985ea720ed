-- What a text is read as is its tree, and it has no other.
use Rattle.std.proofs.Common.{rules, ◌≡◌, ◌≢◌, ℕ, ◌≤◌, ◌^◌, ltb, List, length, Option, None, Result, Ok, Err, IfOk}
use Rattle.std.proofs.{Common.{IfErr, refl, sym, ap, subst, ◌∙◌, inl, inr}, lemmas.Bool.{cases_lt, le-ltb}}
use Rattle.yaml_subset.specs.declared.fault.{TextFault.TextFault, YamlFault.YamlFault}
use Rattle.yaml_subset.specs.declared.fault.TextFaultKind.TheVariants.{TooLong}
use Rattle.yaml_subset.specs.declared.{place.PlacedFault.PlacedFault, tree.Tree.Tree}
use Rattle.yaml_subset.specs.declared.fault.YamlFault.TheVariants as faults
use Rattle.yaml_subset.specs.{Node.Node, View.{node_view, GivesTree}, TreeOf.{IsTree, IsTreeOf, IsTextAbove}}
use Rattle.yaml_bytes.{specs.Lines.lines_of, proofs.Steps.guard_false}
use Rattle.yaml_subset.specs.Reading.{tree_at, contents_from, unless, without_place, read_at}
use Rattle.yaml_subset.proofs.{Meaning.tree_computes, Levels.{more_levels, one_tree}}
use Rattle.yaml_subset.proofs.LineContents.{contents_sound, contents_complete, one_content}

abbrev ok_node : Node → Result Node PlacedFault
ok_node t = Ok t

no_fault : (known : Option PlacedFault) (read : Result Node PlacedFault) (t : Node)
    → without_place (unless known read) ≡ Ok t → (known ≡ None) × (read ≡ Ok t)
no_fault x1 x2 t e = search rules

pub read_sound : (text : List ℕ) (t : Node) → read_at text ≡ Ok t → IsTreeOf 32 8 text t
unfolding read_at
read_sound text t e =
    let r = contents_from 1 (lines_of text) in
    let a = guard_false (ltb (2 ^ 20) (length text)) (without_place (unless r.1 (tree_at 32 8 None r.0)))
    (record { kind = TooLong; line = 1 }) t e in
    let b = no_fault r.1 (tree_at 32 8 None r.0) t a.1 in
    let whole : r ≡ (r.0, None) = ap (λ (f : Option PlacedFault). (r.0, f)) b.0 in
    record {
      lines = r.0;
      content = contents_sound 1 (lines_of text) r.0 whole;
      is_tree = (tree_computes 32 8 None).sound r.0 t b.1;
    }

pub read_complete : (text : List ℕ) (t : Node) → length text ≤ 2 ^ 20 → IsTreeOf 32 8 text t → read_at text ≡ Ok t
unfolding read_at
read_complete text t short h =
    rw (
      le-ltb (2 ^ 20) (length text) short,
      contents_complete 1 (lines_of text) h.lines h.content,
      (tree_computes 32 8 None).complete h.lines t h.is_tree,
    ) refl

pub is_found : (text : List ℕ) (r : Result Tree YamlFault) → GivesTree node_view r (read_at text)
    → IfOk r (λ tree. IsTreeOf 32 8 text (node_view tree))
is_found text x2 h = search (rules, read_sound)

pub is_only : (text : List ℕ) (r : Result Tree YamlFault) → GivesTree node_view r (read_at text)
    → IfOk r (λ tree. (levels depth : ℕ) (t : Node) → IsTreeOf levels depth text t → t ≡ node_view tree)
is_only text (Ok tree) h = λ levels depth t k.
    let s = read_sound text (node_view tree) h in
    let same = one_content 1 (lines_of text) k.lines s.lines k.content s.content in
    one_tree levels depth 32 8 s.lines t (node_view tree) (subst (λ ls. IsTree levels depth ls t) same k.is_tree)
    s.is_tree
is_only text (Err e) h = tt

-- a text that is refused has no tree within the limits
none_within : (text : List ℕ) (f : TextFault) → read_at text ≡ Err f → (levels depth : ℕ) (t : Node)
    → IsTreeOf levels depth text t → IsTextAbove levels depth text
none_within text f e levels depth t k =
    elim (cases_lt (2 ^ 20) (length text)) [
      | inl long ↦ inl long
      | inr short ↦ elim (cases_lt 32 levels) [
        | inl many ↦ inr (inl many)
        | inr few ↦ elim (cases_lt 8 depth) [
          | inl deep ↦ inr (inr deep)
          | inr within ↦
              let whole : IsTreeOf 32 8 text t =
              record {
                lines = k.lines;
                content = k.content;
                is_tree = more_levels levels depth 32 8 k.lines t few within k.is_tree;
              } in
              let r = sym e ∙ read_complete text t short whole in
              absurd cc
        ]
      ]
    ]

pub is_refused : (text : List ℕ) (r : Result Tree YamlFault) → GivesTree node_view r (read_at text)
    → IfErr r (λ e. e ≢ faults.NoMemory → (levels depth : ℕ) (t : Node) → IsTreeOf levels depth text t
    → IsTextAbove levels depth text)
is_refused text (Ok tree) h = tt
is_refused text (Err faults.NoMemory) h = λ other. absurd (other refl)
is_refused text (Err (faults.Text f)) h = λ _. none_within text f h
