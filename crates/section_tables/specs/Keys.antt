-- Keys that every entry takes.
use Rattle.std.specs.{Prelude.{ℕ, Bool, List, [], ◌∷◌, codes}, List.list_any, Str.bytes_eq}

-- the settings that every entry takes, and at whose values nothing looks if the section's table does not have them
abbrev pub ignored_names : List (List ℕ)
ignored_names =
    codes "number" ∷ codes "tags" ∷ codes "label" ∷ codes "debug" ∷ codes "platform" ∷ codes "platform_settings"
    ∷ codes "console_log"
    ∷ codes "file_log" ∷ codes "x" ∷ codes "y" ∷ codes "z" ∷ []

unfoldable pub is_ignored : List ℕ → Bool
is_ignored key = list_any (λ name. bytes_eq name key) ignored_names
