-- The line that a fault is printed as.
use Rattle.std.specs.{Prelude.{ℕ, List, [], ◌∷◌, ◌++◌, codes}, Fmt.decimal}
use Rattle.yaml_subset.specs.declared.fault.TextFaultKind as yaml
use Rattle.yaml_subset.specs.declared.fault.TextFaultKind.TheVariants as yaml_kinds
use Rattle.config_faults.specs.FaultNames.{number_of, kind_name}
use Rattle.mpf_config.specs.{Rows.RowsFault, Escaped.escape_bytes}

-- the name of a kind of the YAML reader, which is the key of such a fault
abbrev pub yaml_kind_name : yaml.TextFaultKind → List ℕ
yaml_kind_name yaml_kinds.NotUtf8 = codes "NotUtf8"
yaml_kind_name yaml_kinds.Tab = codes "Tab"
yaml_kind_name yaml_kinds.Indent = codes "Indent"
yaml_kind_name yaml_kinds.DuplicateKey = codes "DuplicateKey"
yaml_kind_name yaml_kinds.Quote = codes "Quote"
yaml_kind_name yaml_kinds.Flow = codes "Flow"
yaml_kind_name yaml_kinds.NotInSubset = codes "NotInSubset"
yaml_kind_name yaml_kinds.TooDeep = codes "TooDeep"
yaml_kind_name yaml_kinds.TooLong = codes "TooLong"

-- a word, and the space in front of it
abbrev pub with_blank : List ℕ → List ℕ
with_blank word = 32 ∷ word

-- `error NUMBER NAME TEXT LINE KEY`, and LF; no text or key makes a line of its own
abbrev pub fault_line : RowsFault → List ℕ
fault_line f =
    codes "error" ++ with_blank (decimal (number_of f.kind)) ++ with_blank (kind_name f.kind)
    ++ with_blank (escape_bytes f.text) ++ with_blank (decimal f.line) ++ with_blank (escape_bytes f.key) ++ 10 ∷ []
