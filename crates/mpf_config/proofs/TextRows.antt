-- What a text says is what is read of it, and no more.
use Rattle.std.proofs.Common.{rules, ◌≡◌, ℕ, true, List, Result, Ok, Err, refl, sym, ap, subst, inl, inr}
use Rattle.yaml_subset.specs.declared.fault.TextFault as yaml
use Rattle.yaml_subset.specs.declared.fault.YamlFault.TheVariants as yaml_faults
use Rattle.yaml_subset.specs.{Node.{Node, Pair}, TreeOf.{IsTree, IsTreeOf}, Reading.read_at}
use Rattle.yaml_bytes.{specs.Lines.lines_of, proofs.Steps.{bind_ok, ok_is}}
use Rattle.yaml_subset.proofs.{LineContents.one_content, Levels.one_tree, Theorem.{read_sound, is_refused as no_tree}}
use Rattle.mpf_tables.specs.declared.tables.TextKind.{TextKind}
use Rattle.setting_values.{specs.Reading.{IsReadOr, ◌>>=◌}, proofs.Outcomes.{weaker, then_or}}
use Rattle.mpf_sections.specs.Rows.{SectionRows}
use Rattle.mpf_config.specs.BundleText.{behind_first_line, has_version}
use Rattle.mpf_config.specs.RowsOf.{Sizes, within_limits, AreRowsOf, AreManyItems, IsTextOver}
use Rattle.mpf_config.specs.Reading.{TextRows, tree_from, text_tree_at, sections_in, sections_at, text_rows_at}
use Rattle.mpf_config.proofs.FirstLines.{version_sound, version_complete}
use Rattle.mpf_config.proofs.Meaning.{sections_sound, sections_or, pairs_sound, pairs_complete}

-- ---- the tree of a text

tree_parts : (name text : List ℕ) (t : Node) → text_tree_at name text ≡ Ok t
    → (has_version text ≡ true) × (read_at text ≡ Ok t)
unfolding text_tree_at
tree_parts name text t e = search rules

-- a text that is read has no other tree
only_tree : (text : List ℕ) (t u : Node) (levels depth : ℕ) → read_at text ≡ Ok t → IsTreeOf levels depth text u → u ≡ t
only_tree text t u levels depth e k =
    let s = read_sound text t e in
    let same = one_content 1 (lines_of text) k.lines s.lines k.content s.content in
    one_tree levels depth 32 8 s.lines u t (subst (λ ls. IsTree levels depth ls u) same k.is_tree) s.is_tree

module _ (sizes : Sizes) (name text : List ℕ) (tree : Node)
    (is_tree : IsTreeOf sizes.levels sizes.depth text tree) where
  tree_by : (r : Result Node yaml.TextFault) → read_at text ≡ r
      → IsReadOr (IsTextOver sizes text) (tree_from name r) tree
  tree_by (Ok t) e = inl (ap (λ (u : Node). Ok u) (sym (only_tree text t tree sizes.levels sizes.depth e is_tree)))
  tree_by (Err g) e =
      inr (inl (no_tree text (Err (yaml_faults.Text g)) e (λ same. cc) sizes.levels sizes.depth tree is_tree), refl)

  tree_or : has_version text ≡ true → IsReadOr (IsTextOver sizes text) (text_tree_at name text) tree
  unfolding text_tree_at
  tree_or version = rw version (tree_by (read_at text) refl)

-- ---- its rows

abbrev made : List Pair → List SectionRows → TextRows
made sections rows = record { sections = sections; rows = rows }

pub text_rows_sound : (kind : TextKind) (name text : List ℕ) (r : TextRows) → text_rows_at kind name text ≡ Ok r
    → AreRowsOf within_limits kind text r.sections r.rows
unfolding text_rows_at
text_rows_sound kind name text r e =
    let a = bind_ok (text_tree_at name text)
    (λ tree. sections_in name tree >>= λ sections. sections_at kind name sections >>= λ rows. Ok
    (made sections rows)) r e in
    let b = bind_ok (sections_in name a.0)
    (λ sections. sections_at kind name sections >>= λ rows. Ok (made sections rows)) r a.2 in
    let c = bind_ok (sections_at kind name b.0) (λ rows. Ok (made b.0 rows)) r b.2 in
    let t = tree_parts name text a.0 a.1 in
    subst (λ (x : TextRows). AreRowsOf within_limits kind text x.sections x.rows) (ok_is (made b.0 c.0) r c.2)
    (record {
      behind = behind_first_line text;
      version = version_sound text t.0;
      tree = a.0;
      is_tree = read_sound text a.0 t.1;
      has = pairs_sound name a.0 b.0 b.1;
      each = sections_sound kind name b.0 c.0 c.1;
    })

pub text_rows_or : (sizes : Sizes) (kind : TextKind) (name text : List ℕ) (sections : List Pair)
    (rows : List SectionRows) → AreRowsOf sizes kind text sections rows
    → IsReadOr (IsTextOver sizes text) (text_rows_at kind name text) (made sections rows)
unfolding text_rows_at
text_rows_or sizes kind name text sections rows h =
    let over = IsTextOver sizes text in
    let found = weaker (AreManyItems sizes) over (λ many. inr many) (sections_at kind name sections) rows
    (sections_or sizes kind name sections rows h.each) in
    let from_sections = then_or over (sections_at kind name sections) (λ rs. Ok (made sections rs)) rows
    (made sections rows) found (inl refl) in
    then_or over (text_tree_at name text) (λ tree. sections_in name tree >>= λ ps. sections_at kind name ps >>= λ rs. Ok
    (made ps rs)) h.tree (made sections rows)
    (tree_or sizes name text h.tree h.is_tree (version_complete text h.behind h.version))
    (rw (pairs_complete name h.tree sections h.has) from_sections)
