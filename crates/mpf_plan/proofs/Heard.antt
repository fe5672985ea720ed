-- A device listens to switches, one after the other: each slot gains those that listen under its name.
use Rattle.std.proofs.Common.{rules, ◌≡◌, ℕ, ◌+◌, ◌<◌, ◌≤◌, Bool, true, false, if◌then◌else◌, List, [], ◌∷◌, ◌++◌}
use Rattle.std.proofs.Common.{length, map, set, get_or, Vec, Global, refl, sym, ap, ap₂, ◌∙◌, subst, append-nil}
use Rattle.std.proofs.{Common.{append_assoc, arith}, Math.Seq.drop-length}
use Rattle.std.specs.{Str.bytes_eq, List.{All, list_any, zip}}
use Rattle.std.proofs.lemmas.List.{length_push, map-append, map-id, length-map}
use Rattle.std.proofs.lemmas.List.{Folds.list_any-append, Elements.All-weaker}
use Rattle.plan_tables.specs.declared.{table.Table.{Table, TheVariants.Switches}, devices.RowId.RowId}
use Rattle.plan_tables.specs.declared.entries.{Listener.Listener, SwitchEntry.SwitchEntry}
use Rattle.plan_tables.specs.{PlanView.{PlanSwitch, no_switch}, PlanFields.{switch_entry_view, switches_view}}
use Rattle.mpf_plan.specs.{declared.draft.Draft.Draft, Uses.number_among, Drafting.{AddsListeners, ListensTo}}
use Rattle.mpf_plan.specs.declared.names.Names as held_names
use Rattle.mpf_plan.specs.PlanOf.{Use, uses_of, in_table, listeners_among}
use Rattle.mpf_plan.specs.Drafting.{kept_names, names_by, AreNamesOf, AreWithin, HasOneEach, Notes, NotesSwitch}
use Rattle.mpf_plan.specs.Drafting.{IsNumbered, KeepsTables, named_switch, new_names, with_listeners, with_listener}
use Rattle.mpf_plan.proofs.{Named.{added_names, in_table-append}, Slots.{switch_names, slot_changed}}
use Rattle.mpf_plan.proofs.Noted.{kept_all, notes_none, notes_more, within_after, within_before}
use Rattle.mpf_plan.proofs.{Entries.{kept_more, news_more}, Apart.where_named}
use Rattle.mpf_plan.proofs.Called.{own_uses, right_false, none_heard, listeners_more}
use Rattle.mpf_plan.proofs.Grown.{switches_in, map_map, map_same, all_new, new-added}

-- ---- before any

pub heard_none : (row : RowId) (s : PlanSwitch) → with_listeners row [] s ≡ s
heard_none row s = ap (λ ls. record s { listeners = ls }) (append-nil s.listeners)

pub listeners_none : (d : Draft) (row : RowId) → AddsListeners d d row []
listeners_none d row = record {
  keeps = record { names = notes_none d.names; modes = refl; game = refl };
  coils = refl;
  lists = refl;
  bindings = refl;
  rows = refl;
  row_lists = refl;
  count = λ us are within has. has;
  listeners = λ us are within has.
      sym (map_same (with_listeners row []) (λ s. s)
      (switches_in d ++ map named_switch (new_names (kept_names d.names Switches) (kept_names d.names Switches)))
      (λ i x inside. heard_none row _)
      ∙ map-id (switches_in d ++ map named_switch
      (new_names (kept_names d.names Switches) (kept_names d.names Switches)))
      ∙ ap (λ ns. switches_in d ++ map named_switch ns) (drop-length (kept_names d.names Switches))
      ∙ append-nil (switches_in d));
}

-- ---- one more

-- a switch of this name has one more that listens, after those of the row
one_heard : (row : RowId) (ms : List (List ℕ)) (m : List ℕ) (s : PlanSwitch)
    → with_listeners row (ms ++ m ∷ []) s ≡ where_named (λ s. s.name) no_switch
    (with_listener (record { row = row; switch = length ms })) m (with_listeners row ms s)
one_heard row ms m s = ap (λ ls. record s { listeners = s.listeners ++ ls }) (listeners_more s.name row ms m)
    ∙ by (bytes_eq s.name m)
  where
    l : Listener
    l = record { row = row; switch = length ms }

    of : List Listener
    of = listeners_among s.name row ms

    by : (b : Bool) → record s { listeners = s.listeners ++ (of ++ (if b then l ∷ [] else [])) }
        ≡ (if b then with_listener l (with_listeners row ms s) else with_listeners row ms s)
    by true = ap (λ ls. record s { listeners = ls }) (sym (append_assoc s.listeners of (l ∷ [])))
    by false = ap (λ ls. record s { listeners = s.listeners ++ ls }) (append-nil of)

module _ (a b c : Draft) (row : RowId) (ms : List (List ℕ)) (m : List ℕ) (mid : Vec SwitchEntry Global) (number : ℕ)
    (first : AddsListeners a b row ms) (noted : NotesSwitch b.names c.names b.switches mid m)
    (numbered : IsNumbered b.names ((Switches, m) ∷ []) (λ ns. number_among (ns Switches) m) number)
    (listens : ListensTo mid c.switches number (record { row = row; switch = length ms })) where
  abbrev U : List Use
  U = uses_of Switches ms

  abbrev V : List Use
  V = (Switches, m) ∷ []

  abbrev l : Listener
  l = record { row = row; switch = length ms }

  uses : uses_of Switches (ms ++ m ∷ []) ≡ U ++ V
  uses = map-append (λ n. (Switches, n)) ms (m ∷ [])

  module _ (us : List Use) (are : AreNamesOf us a.names) (within : AreWithin (us ++ uses_of Switches (ms ++ m ∷ [])))
      (has : HasOneEach Switches a.names a.switches) where
    fits : AreWithin (us ++ (U ++ V))
    fits = subst (λ vs. AreWithin (us ++ vs)) uses within

    front : AreWithin (us ++ U)
    front = within_before us U V fits

    whole : AreWithin ((us ++ U) ++ V)
    whole = within_after us U V fits

    are_mid : AreNamesOf (us ++ U) b.names
    are_mid = first.keeps.names us are

    are_all : AreNamesOf ((us ++ U) ++ V) c.names
    are_all = noted.names (us ++ U) are_mid

    has_mid : HasOneEach Switches b.names b.switches
    has_mid = first.count us are front has

    each : length mid.items ≡ length (kept_names c.names Switches)
    each = noted.count (us ++ U) are_mid whole has_mid

    pub count_more : HasOneEach Switches c.names c.switches
    count_more = listens.0 ∙ each

    abbrev ka : List (List ℕ)
    ka = kept_names a.names Switches

    abbrev kb : List (List ℕ)
    kb = kept_names b.names Switches

    abbrev kc : List (List ℕ)
    kc = kept_names c.names Switches

    abbrev blanks : List (List ℕ) → List PlanSwitch
    blanks ns = map named_switch ns

    added : new_names kb kc ≡ added_names (us ++ U) V Switches
    added = ap₂ new_names (kept_all (us ++ U) b.names Switches are_mid (front Switches tt))
        (kept_all ((us ++ U) ++ V) c.names Switches are_all (whole Switches tt)) ∙ new-added (us ++ U) V Switches

    -- the row does not listen to a switch whose name is new
    unheard : (n : List ℕ) → list_any (bytes_eq n) (in_table Switches (us ++ U)) ≡ false
        → with_listeners row ms (named_switch n) ≡ named_switch n
    unheard n none =
        let own : in_table Switches (us ++ U) ≡ in_table Switches us ++ ms = in_table-append Switches us U
        ∙ ap (λ ns. in_table Switches us ++ ns) (own_uses Switches ms) in
        let split = sym (list_any-append (bytes_eq n) (in_table Switches us) ms) ∙ ap (list_any (bytes_eq n)) (sym own)
        ∙ none in
        ap (λ ls. record (named_switch n) { listeners = ls })
        (none_heard n row ms (right_false (list_any (bytes_eq n) (in_table Switches us)) (list_any (bytes_eq n) ms)
        split))

    blank_stays : map (with_listeners row ms) (blanks (new_names kb kc)) ≡ blanks (new_names kb kc)
    blank_stays =
        sym (map_map (with_listeners row ms) named_switch (λ n. with_listeners row ms (named_switch n)) (λ n. refl)
        (new_names kb kc))
        ∙ ap (map (λ n. with_listeners row ms (named_switch n))) added
        ∙ map_same (λ n. with_listeners row ms (named_switch n)) named_switch (added_names (us ++ U) V Switches)
        (All-weaker (λ n. list_any (bytes_eq n) (in_table Switches (us ++ U)) ≡ false)
        (λ n. with_listeners row ms (named_switch n) ≡ named_switch n) unheard (added_names (us ++ U) V Switches)
        (all_new (us ++ U) V Switches))
        ∙ ap blanks (sym added)

    -- before the listener
    before : switches_view kc mid.items ≡ map (with_listeners row ms) (switches_in a ++ blanks (new_names ka kc))
    before =
        noted.entries (us ++ U) are_mid whole has_mid
        ∙ ap₂ (λ xs ys. xs ++ ys) (first.listeners us are front has) (sym blank_stays)
        ∙ sym (map-append (with_listeners row ms) (switches_in a ++ blanks (new_names ka kb))
        (blanks (new_names kb kc)))
        ∙ ap (map (with_listeners row ms))
        (append_assoc (switches_in a) (blanks (new_names ka kb)) (blanks (new_names kb kc))
        ∙ ap (λ more. switches_in a ++ more)
        (news_more named_switch ka kb kc (added_names us U Switches) (added_names (us ++ U) V Switches)
        (kept_more a.names b.names us U Switches tt are are_mid front)
        (kept_more b.names c.names (us ++ U) V Switches tt are_mid are_all whole)))

    pub heard_more : switches_in c ≡ map (with_listeners row (ms ++ m ∷ [])) (switches_in a ++ blanks (new_names ka kc))
    heard_more =
        listens.1 kc
        ∙ slot_changed (λ s. s.name) no_switch Switches (us ++ U) m (switches_view kc mid.items) number
        (switch_names kc mid.items each ∙ kept_all ((us ++ U) ++ V) c.names Switches are_all (whole Switches tt))
        (numbered (us ++ U) are_mid whole) (with_listener l)
        ∙ ap (map (where_named (λ s. s.name) no_switch (with_listener l) m)) before
        ∙ sym (map_map (where_named (λ s. s.name) no_switch (with_listener l) m) (with_listeners row ms)
        (with_listeners row (ms ++ m ∷ [])) (one_heard row ms m) (switches_in a ++ blanks (new_names ka kc)))

  -- nothing else is changed
  module _ (modes : c.modes ≡ b.modes) (game : c.game ≡ b.game) (coils : c.coils ≡ b.coils) (lists : c.lists ≡ b.lists)
      (bindings : c.bindings ≡ b.bindings) (rows : c.rows ≡ b.rows) (row_lists : c.row_lists ≡ b.row_lists) where
    pub listeners_next : AddsListeners a c row (ms ++ m ∷ [])
    listeners_next = record {
      keeps = record {
        names = subst (Notes a.names c.names) (sym uses)
            (notes_more a.names b.names c.names U V first.keeps.names noted.names);
        modes = modes ∙ first.keeps.modes;
        game = game ∙ first.keeps.game;
      };
      coils = coils ∙ first.coils;
      lists = lists ∙ first.lists;
      bindings = bindings ∙ first.bindings;
      rows = rows ∙ first.rows;
      row_lists = row_lists ∙ first.row_lists;
      count = count_more;
      listeners = heard_more;
    }
