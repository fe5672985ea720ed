-- What a row gives when it has been filled.
use Rattle.std.proofs.Common.{◌≡◌, Bool, true, false, ℕ, Option, Result, List, [], ◌∷◌, ◌++◌, map, None, Some, codes}
use Rattle.std.proofs.Common.{◌∙◌, refl, sym, ap}
use Rattle.std.specs.{Prelude.{OnOk, option_map, not, if◌then◌else◌}, List.flat_map}
use Rattle.std.proofs.lemmas.{Result.on_ok_weaker, List.{append-nil, append_assoc, map-append}}
use Rattle.mpf_values.specs.Events.{Event}
use Rattle.mpf_sections.specs.{Rows.{WrittenName, ModeSettings}, View.block_view}
use Rattle.mpf_sections.specs.declared.blocks.BlockEvents as typed_blocks
use Rattle.plan_tables.specs.declared.{entries.ModeId.ModeId, table.Table.TheVariants.Switches}
use Rattle.plan_tables.specs.declared.devices.{Settings.Settings, Act.Act}
use Rattle.plan_parts.specs.declared.row_parts.ModeControl.{ModeControl, TheVariants.{Start, Stop}}
use Rattle.plan_parts.specs.declared.row_parts.RowParts as rows
use Rattle.plan_parts.specs.declared.row_parts.HandledName as held
use Rattle.plan_parts.specs.declared.row_parts.RowHead as heads
use Rattle.plan_parts.specs.declared.row_parts.RowHead.TheVariants as kinds
use Rattle.plan_parts.specs.{Effects.Effect, Lists.with_last, Devices.{Device, events, always}}
use Rattle.plan_parts.specs.DeviceEntries.{block_acts, block_mentions, block_lists}
use Rattle.plan_parts.specs.Parts.{Whose, Part, mode, handler, device, mention, unknown, run, start, stop, where_some}
use Rattle.plan_parts.specs.Parts.{where_true, unknown_unless, control, stops_at_ball_end, stops_at_game_end}
use Rattle.plan_parts.specs.{Parts.mode_parts, RowViews.parts_in, Gives.{Gives, AddsDevice, AddsBlock}}
use Rattle.plan_parts.specs.RowViews.{AreNoParts, whose_view, bytes_view, acts_view, names_view, handled_event_view}
use Rattle.plan_parts.specs.RowViews.{controlled_by, stops_where, control_part, control_parts, parts_by, head_parts}

-- ---- what a row is, and what else it gives

-- if nothing is unknown and no switch is named, what a row is is all that it gives
pub parts_of_head : (r : rows.RowParts) (h : heads.RowHead) → r.unknown ≡ false → r.mention ≡ None → r.head ≡ h
    → parts_in r ≡ parts_by r h
parts_of_head r h known mentions head =
    λ i. (if known i then unknown ∷ [] else []) ++ where_some (λ n. mention Switches n.now) (mentions i)
    ++ parts_by r (head i)

where_mapped : {X Y : Type 0} (part : Y → Part) (f : X → Y) (o : Option X)
    → where_some (λ x. part (f x)) o ≡ where_some part (option_map f o)
where_mapped part f None = refl
where_mapped part f (Some x) = refl

unknown_where : (known : Bool) → (if not known then unknown ∷ [] else []) ≡ unknown_unless known
unknown_where true = refl
unknown_where false = refl

-- what a setting names and nothing has, the switch, and the rest
pub parts_with_switch : (r : rows.RowParts) (known : Bool) (switch : Option WrittenName) (rest : List Part)
    → r.unknown ≡ not known
    → option_map (λ n. n.now) r.mention ≡ option_map (λ w. w.text) switch → head_parts r ≡ rest
    → parts_in r ≡ unknown_unless known ++ where_some (λ w. mention Switches w.text) switch ++ rest
parts_with_switch r known switch rest is names head =
    let unknown_is = ap (λ (b : Bool). if b then unknown ∷ [] else []) is ∙ unknown_where known in
    let switch_is =
    where_mapped (mention Switches) (λ n. n.now) r.mention ∙ ap (where_some (mention Switches)) names
    ∙ sym (where_mapped (mention Switches) (λ (w : WrittenName). w.text) switch) in
    λ i. unknown_is i ++ switch_is i ++ head i

pub parts_with_unknown : (r : rows.RowParts) (known : Bool) (rest : List Part) → r.unknown ≡ not known
    → r.mention ≡ None → head_parts r ≡ rest → parts_in r ≡ unknown_unless known ++ rest
parts_with_unknown r known rest is mentions head =
    let unknown_is = ap (λ (b : Bool). if b then unknown ∷ [] else []) is ∙ unknown_where known in
    (λ i. unknown_is i ++ where_some (λ n. mention Switches n.now) (mentions i) ++ head i)
    ∙ ap (λ ps. ps ++ rest) (append-nil (unknown_unless known))

-- ---- devices

-- a row that is a device
pub parts_of_device : (r : rows.RowParts) (whose : Whose) (d : Device) → whose_view r.whose ≡ whose
    → bytes_view r.listens.items ≡ d.listens → acts_view r.event_acts.items ≡ d.event_acts
    → names_view r.other_mentions.items ≡ d.other_mentions → r.lists ≡ d.lists
    → parts_by r (kinds.Device d.settings) ≡ device whose d ∷ []
parts_of_device r whose d of listens event_acts other_mentions lists =
    λ i. device (of i)
    (record {
      settings = d.settings;
      listens = listens i;
      event_acts = event_acts i;
      other_mentions = other_mentions i;
      lists = lists i;
    }) ∷ []

-- a device that is added where there was nothing is what the row is
pub head_of_device : (old new : rows.RowParts) (whose : Whose) (d : Device) → AddsDevice old new d
    → whose_view old.whose ≡ whose → old.listens.items ≡ [] → old.event_acts.items ≡ []
    → old.other_mentions.items ≡ [] → old.lists ≡ [] → head_parts new ≡ device whose d ∷ []
head_of_device old new whose d a of listens event_acts other_mentions lists =
    ap (parts_by new) a.head
    ∙ parts_of_device new whose d (ap whose_view a.of ∙ of) (a.listens ∙ ap (λ xs. bytes_view xs ++ d.listens) listens)
    (a.event_acts ∙ ap (λ xs. acts_view xs ++ d.event_acts) event_acts)
    (a.other_mentions ∙ ap (λ xs. names_view xs ++ d.other_mentions) other_mentions)
    (a.lists ∙ ap (λ ls. ls ++ d.lists) lists)

-- and all that it gives
pub gives_device : (old new : rows.RowParts) (d : Device) → AddsDevice old new d
    → Gives old new (λ whose. device whose d ∷ [])
gives_device old new d a whose none =
    parts_of_head new new.head (a.known ∙ none.known) (a.mentions ∙ none.mentions) refl
    ∙ head_of_device old new whose d a none.of none.listens none.event_acts none.other_mentions none.lists

-- a call that adds a device gives it
pub gives_added : {T E : Type 0} (r : Result T E) (old new : rows.RowParts) (d : Device) (more : Whose → List Part)
    → ((whose : Whose) → device whose d ∷ [] ≡ more whose)
    → OnOk r (AddsDevice old new d) → OnOk r (Gives old new more)
gives_added r old new d more is added =
    on_ok_weaker r (λ a whose none. gives_device old new d a whose none ∙ is whose) added

-- a call that adds the device of an entry, if it is one, gives it
pub gives_some : {T E : Type 0} (r : Result T E) (old new : rows.RowParts) (d : Device) (o : Option Device)
    → Some d ≡ o → OnOk r (AddsDevice old new d)
    → OnOk r (Gives old new (λ whose. where_some (device whose) o))
gives_some r old new d o is added =
    gives_added r old new d (λ whose. where_some (device whose) o) (λ whose. ap (where_some (device whose)) is) added

-- a device that listens to no switch, and names no other event
pub device_acting : {old new : rows.RowParts} (settings : Settings) (event_acts : List (Event × Act))
    (lists : List (List Effect)) → new.head ≡ kinds.Device settings → new.whose ≡ old.whose
    → new.unknown ≡ old.unknown → new.mention ≡ old.mention → new.listens ≡ old.listens
    → new.other_mentions ≡ old.other_mentions
    → acts_view new.event_acts.items ≡ acts_view old.event_acts.items ++ event_acts → new.lists ≡ old.lists ++ lists
    → AddsDevice old new
    (record { settings = settings; listens = []; event_acts = event_acts; other_mentions = []; lists = lists })
device_acting {old} {new} settings event_acts lists head of known mentions listening mentioning acting doing = record {
  head = head;
  of = of;
  known = known;
  mentions = mentions;
  listens = ap (λ v. bytes_view v.items) listening ∙ sym (append-nil (bytes_view old.listens.items));
  event_acts = acting;
  other_mentions = ap (λ v. names_view v.items) mentioning ∙ sym (append-nil (names_view old.other_mentions.items));
  lists = doing;
}

-- ---- logic blocks

-- a device that has what all kinds of blocks have, and handles these events before
pub block_device : {old mid new : rows.RowParts} {name : List ℕ} {block : typed_blocks.BlockEvents} (text : List ℕ)
    (settings : Settings) (first : List (Event × Act)) → name ≡ text
    → mid.head ≡ kinds.Device settings → mid.whose ≡ old.whose → mid.unknown ≡ old.unknown
    → mid.mention ≡ old.mention → mid.listens ≡ old.listens → mid.other_mentions ≡ old.other_mentions
    → mid.lists ≡ old.lists → acts_view mid.event_acts.items ≡ acts_view old.event_acts.items ++ first
    → AddsBlock mid new name block
    → AddsDevice old new (record {
      settings = settings;
      listens = [];
      event_acts = first ++ block_acts (block_view block);
      other_mentions = block_mentions (block_view block);
      lists = block_lists text (block_view block);
    })
block_device {old} {mid} {new} {name} {block} text settings first named head of known mentions listens other_mentions
    lists acting b =
    let acts = block_acts (block_view block) in
    record {
      head = b.head ∙ head;
      of = b.of ∙ of;
      known = b.known ∙ known;
      mentions = b.mentions ∙ mentions;
      listens = ap (λ v. bytes_view v.items) (b.listens ∙ listens) ∙ sym (append-nil (bytes_view old.listens.items));
      event_acts = b.event_acts ∙ ap (λ l. l ++ acts) acting ∙ append_assoc (acts_view old.event_acts.items) first acts;
      other_mentions = b.other_mentions ∙ ap (λ v. names_view v.items ++ block_mentions (block_view block))
          other_mentions;
      lists = b.lists ∙ (λ i. lists i ++ block_lists (named i) (block_view block));
    }

-- ---- nothing

pub gives_nothing : (r : rows.RowParts) (more : Whose → List Part) → ((whose : Whose) → more whose ≡ [])
    → Gives r r more
gives_nothing r more is whose none = parts_of_head r kinds.Nothing none.known none.mentions none.head ∙ sym (is whose)

-- ---- handlers

-- a row that is a handler of this event, with one list that does these things
pub gives_handler : (old new : rows.RowParts) (h : held.HandledName) (event : Event) (more : List Effect)
    (begun : List (List Effect)) → new.head ≡ kinds.Handler h → new.whose ≡ old.whose
    → new.unknown ≡ old.unknown → new.mention ≡ old.mention → handled_event_view h ≡ event
    → begun ≡ old.lists ++ [] ∷ [] → new.lists ≡ with_last more begun
    → Gives old new (λ whose. handler whose event (run more) ∷ [])
gives_handler old new h event more begun head of known mentions is began doing whose none =
    let owner = ap whose_view of ∙ none.of in
    let lists = doing ∙ ap (with_last more) (began ∙ ap (λ ls. ls ++ [] ∷ []) none.lists) in
    parts_of_head new (kinds.Handler h) (known ∙ none.known) (mentions ∙ none.mentions) head
    ∙ (λ i. handler (owner i) (is i) (run (flat_map (λ es. es) (lists i))) ∷ [])
    ∙ ap (λ es. handler whose event (run es) ∷ []) (append-nil more)

-- ---- modes

started : (whose : Whose) (m : ModeId) (es : List Event)
    → control_parts whose m (map (controlled_by Start) es) ≡ map (λ e. handler whose e (start m)) es
started whose m [] = refl
started whose m (e ∷ es) = ap (λ ps. handler whose e (start m) ∷ ps) (started whose m es)

stopped : (whose : Whose) (m : ModeId) (es : List Event)
    → control_parts whose m (map (controlled_by Stop) es) ≡ map (λ e. handler whose e (stop m)) es
stopped whose m [] = refl
stopped whose m (e ∷ es) = ap (λ ps. handler whose e (stop m) ∷ ps) (stopped whose m es)

stopped_where : (whose : Whose) (m : ModeId) (holds : Bool) (name : List ℕ)
    → control_parts whose m (stops_where holds name) ≡ where_true holds (handler whose (always name) (stop m))
stopped_where whose m true name = refl
stopped_where whose m false name = refl

-- what starts and stops a mode
abbrev pub controls_of_mode : ModeSettings → List (Event × ModeControl)
controls_of_mode s =
    map (controlled_by Start) (events s.starts) ++ map (controlled_by Stop) (events s.stops)
    ++ stops_where (stops_at_ball_end s) (codes "ball_ending")
    ++ stops_where (stops_at_game_end s) (codes "game_ending")

pub parts_of_mode : (m : ModeId) (name : List ℕ) (s : ModeSettings)
    → mode name s ∷ control_parts (control s) m (controls_of_mode s) ≡ mode_parts m name s
unfolding mode_parts
parts_of_mode m name s =
    let part = control_part (control s) m in
    let starts = map (controlled_by Start) (events s.starts) in
    let stops = map (controlled_by Stop) (events s.stops) in
    let ball = stops_where (stops_at_ball_end s) (codes "ball_ending") in
    let game = stops_where (stops_at_game_end s) (codes "game_ending") in
    ap (λ ps. mode name s ∷ ps)
    (map-append part (starts ++ stops ++ ball) game
    ∙ ap (λ ps. ps ++ map part game) (map-append part (starts ++ stops) ball
    ∙ ap (λ ps. ps ++ map part ball) (map-append part starts stops))
    ∙ (λ i. started (control s) m (events s.starts) i ++ stopped (control s) m (events s.stops) i
    ++ stopped_where (control s) m (stops_at_ball_end s) (codes "ball_ending") i
    ++ stopped_where (control s) m (stops_at_game_end s) (codes "game_ending") i))

-- ---- rows

-- a row of which this is known gives what is expected of its text
pub gave : {T E : Type 0} (r : Result T E) (old new : rows.RowParts) (whose : Whose) (more : Whose → List Part)
    (ps : List Part) → AreNoParts whose old → more whose ≡ ps
    → OnOk r (Gives old new more) → OnOk r (parts_in new ≡ ps)
gave r old new whose more ps none is given = on_ok_weaker r (λ g. g whose none ∙ is) given

-- what gives some parts gives those that are the same
pub gives_same : {T E : Type 0} (r : Result T E) (old new : rows.RowParts) (these those : Whose → List Part)
    → ((whose : Whose) → these whose ≡ those whose) → OnOk r (Gives old new these) → OnOk r (Gives old new those)
gives_same r old new these those same given = on_ok_weaker r (λ g whose none. g whose none ∙ same whose) given
