-- One more of what is held.
use Rattle.std.proofs.{Common.{◌≡◌, true, ℕ, List, [], ◌∷◌, ◌++◌, map, refl}, lemmas.{Bool.false≢true, List.map-append}}
use Rattle.std.specs.Borrow.{Bor}
use Rattle.setting_values.specs.declared.values.Name.{Name}
use Rattle.mpf_sections.specs.View.{name_view}
use Rattle.plan_tables.specs.declared.devices.Act.{Act}
use Rattle.plan_rows.specs.Members.{is_none}
use Rattle.plan_parts.specs.declared.row_parts.HandledName as held
use Rattle.plan_parts.specs.{declared.names.NamePieces.NamePieces, DeviceEntries.or_own, View.pieces_text}
use Rattle.plan_parts.specs.RowViews.{handled_event_view, acts_view, names_view, bytes_view}

pub acts_view-push : (hs : List (held.HandledName × Act)) (h : held.HandledName) (act : Act)
    → acts_view (hs ++ (h, act) ∷ []) ≡ acts_view hs ++ (handled_event_view h, act) ∷ []
acts_view-push hs h act = map-append (λ (x : held.HandledName × Act). (handled_event_view x.0, x.1)) hs ((h, act) ∷ [])

-- if no names are written, the block's own stands for them
pub own_name : (names : List Name) (own : List ℕ) → is_none names ≡ true → own ∷ [] ≡ or_own (map name_view names) own
own_name [] own none = refl
own_name (n ∷ ns) own none = absurd (false≢true none)

pub names_view-push : (ns : List NamePieces) (n : NamePieces)
    → names_view (ns ++ n ∷ []) ≡ names_view ns ++ pieces_text n ∷ []
names_view-push ns n = map-append pieces_text ns (n ∷ [])

pub bytes_view-push : (ns : List (Bor (List ℕ))) (n : Bor (List ℕ))
    → bytes_view (ns ++ n ∷ []) ≡ bytes_view ns ++ n.now ∷ []
bytes_view-push ns n = map-append (λ (x : Bor (List ℕ)). x.now) ns (n ∷ [])
