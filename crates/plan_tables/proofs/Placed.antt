-- Adding the place of one binding after the other to its event's list.
use Rattle.std.proofs.Common.{rules, ◌≡◌, ℕ, ◌+◌, ◌<◌, ◌==◌, cond, List, [], ◌∷◌, ◌++◌, length, map, get_or, set, take}
use Rattle.std.proofs.{Common.{Vec, Global, sym, ◌∙◌, ap, subst, arith}, lemmas.Bool.Decides.eqb_tells}
use Rattle.std.proofs.lemmas.List.{get_or-set_same, get_or-set_other, take_more, Elements.{All-map, All-get_or}}
use Rattle.std.specs.List.{All}
use Rattle.std.proofs.lemmas.List.{append-nil, get_or-map, length-map, length-set, map-set, length-take-le}
use Rattle.std.proofs.lemmas.List.FromFn.{fill_by_all, length-map-range_with_len, get_or-map-range_with_len}
use Rattle.plan_tables.specs.declared.entries.{EventId.EventId, BindingId.BindingId, Binding.Binding}
use Rattle.plan_tables.specs.{PlanView.{PlanView, places_of}, PlanFields.HasPlaces}
use Rattle.plan_tables.proofs.BoundTo.{places_among, places_among-more, places_of-among}

abbrev event : ℕ → EventId
event e = record { 0 = e }

-- each event has the places of the bindings on it
abbrev pub ArePlaced : List Binding → List (List BindingId) → Type 0
ArePlaced bindings places = (e : ℕ) → e < length places → get_or places e [] ≡ places_among bindings (record { 0 = e })

module _ (bindings : List Binding) (i : ℕ) (d : Binding) (within : i < length bindings) where
  abbrev at : ℕ
  at = (get_or bindings i d).event.0

  more : (e : ℕ) → places_among (take (i + 1) bindings) (event e)
      ≡ places_among (take i bindings) (event e) ++ cond (at == e) (record { 0 = i } ∷ []) []
  more e =
      let so_far : length (take i bindings) ≡ i = length-take-le i bindings (omega arith) in
      ap (λ bs. places_among bs (event e)) (take_more bindings i d within)
      ∙ places_among-more (take i bindings) (get_or bindings i d) (event e)
      ∙ ap (λ n. places_among (take i bindings) (event e) ++ cond (at == e) (record { 0 = n } ∷ []) []) so_far

  -- one binding more, whose place is added to the list of its event
  placed_more : (places : List (List BindingId)) → at < length places → ArePlaced (take i bindings) places
      → ArePlaced (take (i + 1) bindings) (set places at (get_or places at [] ++ record { 0 = i } ∷ []))
  placed_more places known placed e inside =
      search (rules, get_or, eqb_tells, get_or-set_same, places_among, more, get_or-set_other, length-set, append-nil)

  pub placed_pushed : (lists : List (Vec BindingId Global)) (old new : Vec BindingId Global) → at < length lists
      → old ≡ get_or lists at old → new.items ≡ old.items ++ record { 0 = i } ∷ []
      → ArePlaced (take i bindings) (map (λ v. v.items) lists)
      → ArePlaced (take (i + 1) bindings) (map (λ v. v.items) (set lists at new))
  placed_pushed lists old new known is pushed placed =
      let shown : Vec BindingId Global → List BindingId = λ v. v.items in
      let there : old.items ≡ get_or (map shown lists) at [] = ap shown is
      ∙ sym (get_or-map shown lists at old [] known) in
      let grown : map shown (set lists at new)
      ≡ set (map shown lists) at (get_or (map shown lists) at [] ++ record { 0 = i } ∷ []) =
      map-set shown lists at new ∙ ap (set (map shown lists) at) (pushed ∙ ap (λ ps. ps ++ record { 0 = i } ∷ []) there)
      in
      subst (ArePlaced (take (i + 1) bindings)) (sym grown)
      (placed_more (map shown lists) (omega (arith, known, length-map lists shown)) placed)

-- ---- from no binding to all

module _ (lists : List (Vec BindingId Global)) where
  -- if each list is empty, nothing is placed
  pub placed_none : All (λ v. v.items ≡ []) lists → ArePlaced [] (map (λ v. v.items) lists)
  placed_none empty e inside = All-get_or (λ ps. ps ≡ []) (map (λ v. v.items) lists) e [] inside
      (All-map (λ ps. ps ≡ []) (λ (v : Vec BindingId Global). v.items) lists empty)

  -- if all bindings of a plan are placed, the lists are its places
  pub placed_all : (plan : PlanView) (bindings : List Binding) → length lists ≡ length plan.events
      → plan.bindings ≡ bindings → ArePlaced bindings (map (λ v. v.items) lists) → HasPlaces plan lists
  placed_all plan bindings count same placed =
      let long : length (map (λ (v : Vec BindingId Global). v.items) lists) ≡ length lists =
      length-map lists (λ (v : Vec BindingId Global). v.items) in
      fill_by_all (λ e. places_of plan (event e)) (map (λ v. v.items) lists) (length plan.events) [] (long ∙ count)
      (λ e inside.
      placed e (omega (arith, inside, long, count))
      ∙ ap (λ bs. places_among bs (event e)) (sym same)
      ∙ sym (places_of-among plan (event e)))

-- ---- the places that stand

module _ (plan : PlanView) (lists : List (Vec BindingId Global)) where
  -- each event of the plan has a list
  pub places_count : HasPlaces plan lists → length lists ≡ length plan.events
  places_count has = search (rules, length-map, length-map-range_with_len)

  -- it is that of the event's places
  pub places_at : (e : EventId) (v : Vec BindingId Global) → HasPlaces plan lists → e.0 < length plan.events
      → v ≡ get_or lists e.0 v → v.items ≡ places_of plan e
  places_at e v has within at =
      ap (λ (w : Vec BindingId Global). w.items) at
      ∙ sym (get_or-map (λ (w : Vec BindingId Global). w.items) lists e.0 v []
      (omega (arith, within, places_count has)))
      ∙ ap (λ ls. get_or ls e.0 []) has
      ∙ get_or-map-range_with_len (λ n. places_of plan (event n)) 0 (length plan.events) e.0 e.0 [] within (omega arith)
