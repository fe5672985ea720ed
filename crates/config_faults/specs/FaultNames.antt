-- What the kinds of faults are called.
use Rattle.std.specs.Prelude.{ℕ, List, codes}
use Rattle.config_faults.specs.declared.fault.BundleFaultKind.{BundleFaultKind}
use Rattle.config_faults.specs.declared.fault.BundleFaultKind.TheVariants.{Bundle, Version, Yaml, UnknownSection, Limit}
use Rattle.config_faults.specs.declared.fault.BundleFaultKind.TheVariants.{UnknownSetting, BadValue, Missing, Duplicate}

-- the number of a kind
abbrev pub number_of : BundleFaultKind → ℕ
number_of Bundle = 1
number_of Version = 2
number_of (Yaml kind) = 3
number_of UnknownSection = 4
number_of UnknownSetting = 5
number_of BadValue = 6
number_of Missing = 7
number_of Duplicate = 8
number_of Limit = 9

-- the name of a kind
abbrev pub kind_name : BundleFaultKind → List ℕ
kind_name Bundle = codes "Bundle"
kind_name Version = codes "Version"
kind_name (Yaml kind) = codes "Yaml"
kind_name UnknownSection = codes "UnknownSection"
kind_name UnknownSetting = codes "UnknownSetting"
kind_name BadValue = codes "BadValue"
kind_name Missing = codes "Missing"
kind_name Duplicate = codes "Duplicate"
kind_name Limit = codes "Limit"
