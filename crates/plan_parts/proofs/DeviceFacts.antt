-- What holds of each device, whatever rows there are: it has as many effect lists as its settings say, which are short,
-- its settings are within their limits, and all but ball devices have nothing to do with balls.
use Rattle.std.proofs.Common.{rules, ◌≡◌, ℕ, ◌+◌, ◌*◌, ◌≤◌, Bool, true, false, if◌then◌else◌, List, [], ◌∷◌, ◌++◌}
use Rattle.std.proofs.Common.{map, length, refl, sym, ◌∙◌, ap₂, codes, arith}
use Rattle.std.specs.{Prelude.{Option, None, Some, IfSome}, List.{flat_map, All}, Str.bytes_eq}
use Rattle.std.proofs.lemmas.List.{length-append, length-map, Elements.{All-nil, All-cons, All-map}}
use Rattle.mpf_sections.specs.Rows.{WrittenName, Entry, Shot, ShotGroup, BallDeviceEntry, BlockEvents, CounterEntry}
use Rattle.mpf_sections.specs.Rows.{StepBlock, TimerEntry, BallSaveEntry, MultiballEntry, SectionRows}
use Rattle.mpf_sections.{specs.Typed.{step_block_of, timer_of}, proofs.SaveRows.{ball_save_short, multiball_short}}
use Rattle.mpf_sections.specs.Typed.{counters_name, accruals_name, sequences_name, timers_name, counter_of}
use Rattle.mpf_sections.specs.TypedSaves.{ball_saves_name, multiballs_name, ball_save_of, multiball_of}
use Rattle.mpf_sections.specs.Short.{IsShortEntry, IsShortBlock, IsShortCounter, IsShortStepBlock, IsShortTimer}
use Rattle.mpf_sections.specs.Short.{IsShortBallDevice, IsShortBallSave, IsShortMultiball}
use Rattle.mpf_sections.proofs.DeviceRows.{counter_short, step_block_short, timer_in_range}
use Rattle.machine_definitions.specs.Shots.{Profile}
use Rattle.plan_tables.specs.{Devices.{IsWithinLimits, list_count}, BallRows.IsNoBallDevice}
use Rattle.plan_tables.specs.declared.{devices.Settings.Settings, entries.Owner.Owner}
use Rattle.plan_tables.specs.declared.devices.Settings.TheVariants as kinds
use Rattle.plan_rows.specs.{declared.destination.Destination.Destination, Members.{flags, is_enabled, Members}}
use Rattle.plan_parts.specs.{Effects.{Effect, posts}, PartBalls.IsOfNoBall}
use Rattle.plan_parts.specs.{ShotEntries.group_device, PartBounds.{IsFew, IsKindOf}}
use Rattle.plan_parts.specs.BallEntries.{attempt_effects, ball_device_from}
use Rattle.plan_parts.specs.ShotEntries.{shot_events, group_events, shot_lists, state_lists, group_lists, lone_device}
use Rattle.plan_parts.specs.SaveEntries.{save_device, multiball_device, save_device_of}
use Rattle.plan_parts.specs.DeviceEntries.{Device, texts, block_event, or_own, block_lists, counter_device, device_of}
use Rattle.plan_parts.specs.DeviceEntries.{step_device, step_settings, timer_event, timer_endings, timer_device}
use Rattle.plan_parts.proofs.{WordFacts.HasState, ShotFacts.{IsShortProfile, IsShortGroup, flags_of, bank_within}}
use Rattle.plan_parts.proofs.SaveFacts.{all_save, all_multiball, save_lists_few, multiball_lists_few}
use Rattle.plan_parts.proofs.ShotFacts.{posts_of_shot, posts_of_group, shot_lists_few, group_lists_few}

-- a device that is no ball device: it has nothing to do with balls, and listens to one switch at most
pub record IsPlain (d : Device) : Type 0 where
  pub settings : IsNoBallDevice d.settings
  pub lists : All (All IsOfNoBall) d.lists
  pub listens : length d.listens ≤ 1

-- a device that may stand in any text
pub record IsAnywhere (d : Device) : Type 0 where
  pub listens : d.listens ≡ []
  pub kind : (owner : Owner) → IsKindOf d.settings owner

-- Here `S` is what gives profiles of shots a state, and `Short` what makes the lists of rows short.
module _ (S Short : Type 0) where
  -- it has as many effect lists as its settings say, they are short, and its settings are within their limits
  pub record IsSound (d : Device) : Type 0 where
    pub count : S → length d.lists ≡ list_count d.settings
    pub lists : Short → All IsFew d.lists
    pub limits : Short → IsWithinLimits d.settings

-- what holds of each effect that posts holds of all effects of a block
pub all_block : (Q : Effect → Type 0) → ((n : List ℕ) → Q (posts n)) → (name : List ℕ) (b : BlockEvents)
    → All (All Q) (block_lists name b)
all_block Q each name b =
    let hit = or_own b.hit (block_event name (codes "_hit")) in
    let complete = or_own b.complete (block_event name (codes "_complete")) in
    All-cons (All Q) (map posts (block_event name (codes "_updated") ∷ [])) (map posts hit ∷ map posts complete ∷ [])
    (of (block_event name (codes "_updated") ∷ []))
    (All-cons (All Q) (map posts hit) (map posts complete ∷ []) (of hit)
    (All-cons (All Q) (map posts complete) [] (of complete) (All-nil (All Q))))
  where
    of : (ns : List (List ℕ)) → All Q (map posts ns)
    of [] = All-nil Q
    of (n ∷ ns) = All-cons Q (posts n) (map posts ns) (each n) (of ns)

short_lists : (name : List ℕ) (b : BlockEvents) → IsShortBlock b → All IsFew (block_lists name b)
short_lists name b h = search (rules, All-cons, length-map, All-nil)

shots_count : (p : Profile) (ns : List (List ℕ)) → length (flat_map (shot_lists p) ns) ≡ length ns * length p.states
shots_count p [] = omega arith
shots_count p (n ∷ ns) =
    omega (
      arith,
      length-append (shot_lists p n) (flat_map (shot_lists p) ns),
      length-map p.states (λ state. map posts (shot_events n p.name state)),
      shots_count p ns,
    )

group_count : (p : Profile) (name : List ℕ) (ns : List (List ℕ))
    → length (group_lists p name ns) ≡ length p.states * (length ns + 2)
group_count p name ns =
    let own = flat_map (shot_lists p) ns in
    let hit = state_lists (codes "_hit") p name in
    let complete = state_lists (codes "_complete") p name in
    omega (
      arith,
      length-append (own ++ hit) complete,
      length-append own hit,
      shots_count p ns,
      length-map p.states (λ state. map posts (group_events (codes "_hit") name state)),
      length-map p.states (λ state. map posts (group_events (codes "_complete") name state)),
    )

posts_nothing : (n : List ℕ) → IsOfNoBall (posts n)
posts_nothing n = tt

-- what holds of whatever is written
pub any_written : (o : Option WrittenName) → IfSome o (λ w. Unit {0})
any_written x1 = search rules

-- ---- devices that are no ball devices

plain_counter : (c : CounterEntry) → IsPlain (counter_device c)
plain_counter c =
    record { settings = tt; lists = all_block IsOfNoBall posts_nothing c.name.text c.block; listens = omega arith }

plain_steps : (settings : Settings) (b : StepBlock) → IsNoBallDevice settings → IsPlain (step_device settings b)
plain_steps settings b is =
    record { settings = is; lists = all_block IsOfNoBall posts_nothing b.name.text b.block; listens = omega arith }

plain_timer : (t : TimerEntry) → IsPlain (timer_device t)
plain_timer t = record { settings = tt; lists = search rules; listens = omega arith }

plain_save : (s : BallSaveEntry) → IsPlain (save_device s)
plain_save s =
    record { settings = tt; lists = all_save IsOfNoBall s.name.text (λ ending. tt) tt; listens = omega arith }

plain_multiball : (m : MultiballEntry) → IsPlain (multiball_device m)
plain_multiball m =
    record {
      settings = tt;
      lists = all_multiball IsOfNoBall m.name.text m.settings.balls (λ ending. tt) tt;
      listens = omega arith;
    }

pub plain_lone : (p : Profile) (s : Shot) → IsPlain (lone_device p s)
plain_lone p s =
    record { settings = tt; lists = posts_of_shot IsOfNoBall posts_nothing p s.name.text; listens = omega arith }

pub plain_group : (g : ShotGroup) (m : Members) → IsPlain (group_device g m)
plain_group g m =
    record {
      settings = tt;
      lists = posts_of_group IsOfNoBall posts_nothing m.profile g.name.text (texts g.shots);
      listens = omega arith;
    }

pub anywhere_lone : (p : Profile) (s : Shot) → IsAnywhere (lone_device p s)
anywhere_lone p s = record { listens = refl; kind = λ owner. tt }

pub anywhere_group : (g : ShotGroup) (m : Members) → IsAnywhere (group_device g m)
anywhere_group g m = record { listens = refl; kind = λ owner. tt }

-- ---- whatever rows there are

-- what holds of the device of an entry, if it is one of either kind
pub either : (R : Device → Type 0) (b : Bool) (x y : Option Device) → IfSome x R → IfSome y R
    → IfSome (if b then x else y) R
either R true x y first other = first
either R false x y first other = other

-- the seven lists of a ball device
pub seven : {A : Type 0} (R : A → Type 0) (a b c d e f g : A) → R a → R b → R c → R d → R e → R f → R g
    → All R (a ∷ b ∷ c ∷ d ∷ e ∷ f ∷ g ∷ [])
seven R a b c d e f g ra rb rc rd re rf rg = search rules

module _ (S Short : Type 0) where
  abbrev Sound : Device → Type 0
  Sound d = IsSound S Short d

  sound_counter : (c : CounterEntry) → (Short → IsShortCounter c) → Sound (counter_device c)
  sound_counter c h = record {
    count = λ s. refl;
    lists = λ s. short_lists c.name.text c.block (h s).block;
    limits = λ s. (h s).settings;
  }

  sound_steps : (settings : Settings) (b : StepBlock) → list_count settings ≡ 3 → (Short → IsWithinLimits settings)
      → (Short → IsShortStepBlock b)
      → Sound (step_device settings b)
  sound_steps settings b three limited h =
      record { count = λ s. sym three; lists = λ s. short_lists b.name.text b.block (h s).block; limits = limited }

  sound_timer : (t : TimerEntry) → IsShortTimer t → Sound (timer_device t)
  sound_timer t h = record {
    count = λ s. refl;
    lists =
        λ s. All-map IsFew (λ ending. posts (timer_event t.name.text ending) ∷ []) timer_endings
        (λ i d within. omega arith);
    limits = λ s. h;
  }

  sound_save : (s : BallSaveEntry) → (Short → IsShortBallSave s) → Sound (save_device s)
  sound_save s h = record { count = λ x. refl; lists = λ x. save_lists_few s.name.text; limits = h }

  sound_multiball : (m : MultiballEntry) → (Short → IsShortMultiball m) → Sound (multiball_device m)
  sound_multiball m h =
      record { count = λ x. refl; lists = λ x. multiball_lists_few m.name.text m.settings.balls; limits = h }

  pub sound_lone : (p : Profile) (s : Shot) → (S → HasState p) → IsShortProfile p → Sound (lone_device p s)
  sound_lone p s some short = record {
    count =
        λ holds. omega
        (arith, some holds, length-map p.states (λ state. map posts (shot_events s.name.text p.name state)));
    lists = λ x. shot_lists_few p s.name.text;
    limits =
        λ x. bank_within p 1 (flags (is_enabled s ∷ [])) false (omega arith) short (flags_of (is_enabled s ∷ []));
  }

  pub sound_group : (g : ShotGroup) (m : Members) → (S → HasState m.profile) → (Short → IsShortGroup g m)
      → Sound (group_device g m)
  sound_group g m some h = record {
    count = λ holds.
        group_count m.profile g.name.text (texts g.shots)
        ∙ ap₂ (λ n k. n * (k + 2)) (omega (arith, some holds)) (length-map g.shots (λ (w : WrittenName). w.text));
    lists = λ x. group_lists_few m.profile g.name.text (texts g.shots);
    limits =
        λ x. let short = h x in bank_within m.profile
        (length g.shots) m.enabled true short.shots short.states short.enabled;
  }

  pub sound_ball_device : (machine : List SectionRows) (d : BallDeviceEntry) (to : Destination)
      → (Short → IsShortBallDevice d) → Sound (ball_device_from machine d to)
  sound_ball_device machine d to h = record {
    count = λ s. refl;
    lists =
        λ s. seven IsFew _ _ _ _ _ _ _ (omega arith) (few d.eject_coil) (omega arith) (omega arith) (omega arith)
        (omega arith) (omega arith);
    limits = λ s. let short = h s in record { switches = short.switches; ejects = short.ejects };
  }
    where
      few : (o : Option WrittenName) → IsFew (attempt_effects machine d.name.text o)
      few x1 = search rules

  -- ---- entries

  -- the device of an entry of any text
  pub record IsShared (d : Device) : Type 0 where
    pub sound : Sound d
    pub plain : IsPlain d
    pub anywhere : IsAnywhere d

  shared_counter : (c : CounterEntry) → (Short → IsShortCounter c) → IsShared (counter_device c)
  shared_counter c h =
      record {
        sound = sound_counter c h;
        plain = plain_counter c;
        anywhere = record { listens = refl; kind = λ owner. tt };
      }

  shared_accrual : (b : StepBlock) → (Short → IsShortStepBlock b)
      → IsShared (step_device (kinds.Accrual (step_settings b)) b)
  shared_accrual b h = record {
    sound = sound_steps (kinds.Accrual (step_settings b)) b refl (λ s. (h s).steps) h;
    plain = plain_steps (kinds.Accrual (step_settings b)) b tt;
    anywhere = record { listens = refl; kind = λ owner. tt };
  }

  shared_sequence : (b : StepBlock) → (Short → IsShortStepBlock b)
      → IsShared (step_device (kinds.Sequence (step_settings b)) b)
  shared_sequence b h = record {
    sound = sound_steps (kinds.Sequence (step_settings b)) b refl (λ s. (h s).steps) h;
    plain = plain_steps (kinds.Sequence (step_settings b)) b tt;
    anywhere = record { listens = refl; kind = λ owner. tt };
  }

  shared_timer : (t : TimerEntry) → IsShortTimer t → IsShared (timer_device t)
  shared_timer t h =
      record {
        sound = sound_timer t h;
        plain = plain_timer t;
        anywhere = record { listens = refl; kind = λ owner. tt };
      }

  shared_save : (s : BallSaveEntry) → (Short → IsShortBallSave s) → IsShared (save_device s)
  shared_save s h =
      record { sound = sound_save s h; plain = plain_save s; anywhere = record { listens = refl; kind = λ owner. tt } }

  shared_multiball : (m : MultiballEntry) → (Short → IsShortMultiball m) → IsShared (multiball_device m)
  shared_multiball m h =
      record {
        sound = sound_multiball m h;
        plain = plain_multiball m;
        anywhere = record { listens = refl; kind = λ owner. tt };
      }

  module _ (e : Entry) (short : Short → IsShortEntry 1024 e) where
    save_shared : (section : List ℕ) → IfSome (save_device_of section e) IsShared
    unfolding save_device_of
    save_shared section =
        either IsShared (bytes_eq section ball_saves_name) _ _ (shared_save (ball_save_of e) (λ s. ball_save_short e))
        (either IsShared (bytes_eq section multiballs_name) _ _
        (shared_multiball (multiball_of e) (λ s. multiball_short e)) tt)

    pub device_shared : (section : List ℕ) → IfSome (device_of section e) IsShared
    unfolding device_of
    device_shared section =
        either IsShared (bytes_eq section counters_name) _ _
        (shared_counter (counter_of e) (λ s. counter_short e (short s)))
        (either IsShared (bytes_eq section accruals_name) _ _
        (shared_accrual (step_block_of e) (λ s. step_block_short e (short s)))
        (either IsShared (bytes_eq section sequences_name) _ _
        (shared_sequence (step_block_of e) (λ s. step_block_short e (short s)))
        (either IsShared (bytes_eq section timers_name) _ _ (shared_timer (timer_of e) (timer_in_range e))
        (save_shared section))))
