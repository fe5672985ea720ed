-- Faults of one text, by line and number, whose names differ if their lines and numbers are the same.
use Rattle.std.specs.{Prelude.{◌<◌, ◌^◌, nat_lt, nat_le, not, Bool, true, ◌&&◌, ◌||◌, List, [], ◌∷◌}, Str.bytes_eq}
use Rattle.row_faults.specs.{FaultView.RowFaultView, FaultText.row_fault_number}

-- whether a fault is of the text of the next one, and not behind it by line and number, if there is a next one
abbrev pub is_in_order : RowFaultView → List RowFaultView → Bool
is_in_order f [] = true
is_in_order f (g ∷ gs) =
    nat_le f.line g.line && ((nat_lt f.line g.line || nat_le (row_fault_number f.kind) (row_fault_number g.kind))
    && bytes_eq f.text g.text)

-- whether a fault is on an earlier line than another, or has a lower number
abbrev pub is_before : RowFaultView → RowFaultView → Bool
is_before f g = nat_lt f.line g.line || nat_lt (row_fault_number f.kind) (row_fault_number g.kind)

-- whether none of these has the name of a fault, up to the first that it is before
abbrev pub is_apart : RowFaultView → List RowFaultView → Bool
is_apart f [] = true
is_apart f (g ∷ gs) = is_before f g || (not (bytes_eq f.name g.name) && is_apart f gs)

-- whether each is in order, and apart from those behind it
abbrev pub are_apart : List RowFaultView → Bool
are_apart [] = true
are_apart (f ∷ fs) = is_in_order f fs && (is_apart f fs && are_apart fs)

-- a number of 64 bits says on which line each is
abbrev pub HaveLines : List RowFaultView → Type 0
HaveLines [] = Unit {0}
HaveLines (f ∷ fs) = (f.line < 2 ^ 64) × HaveLines fs
