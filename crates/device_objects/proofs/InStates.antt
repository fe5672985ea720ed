-- A kind is lawful by the states of its devices, if it is by what they remember.
use Rattle.std.proofs.Common.{◌≡◌, ℕ, ◌<◌, ◌≤◌, ◌⊎◌, inl, Option, None, Some, IsSomeAnd, IfSome, refl, sym, ap, subst}
use Rattle.std.{specs.List.{All, Contains}, proofs.lemmas.{List.Elements.{All-nil, All-weaker}, Option.IfSome_then}}
use Rattle.device_objects.specs.declared.{device.Call.Call, state.{World.World, DeviceState.DeviceState}}
use Rattle.device_objects.specs.declared.device.Call.TheVariants as calls
use Rattle.device_objects.specs.{Kinds.moments_of, KindModel.{Kind, Moments, in_state, in_states, put_back}}
use Rattle.device_objects.specs.Laws.{MayComeAt, IsAnswerOf, IsDoneIn, FiresFirstPartOf, IsLawful}

-- the kind, its moments by what is remembered, and what a state holds
module _ {S : Type 0} (state_of : S → DeviceState) (held : DeviceState → Option S) (kind : Kind S)
    (moments : S → Moments) (IsWithin : Type 0) (lists : ℕ) (back : (s : S) → held (state_of s) ≡ Some s)
    (same : (state : DeviceState) (s : S) → held state ≡ Some s → state ≡ state_of s)
    (due : (s : S) → moments_of (state_of s) ≡ moments s) (laws : IsLawful kind moments IsWithin lists) where
  abbrev outer : Kind DeviceState
  outer = in_states state_of held kind

  -- what holds where something of the shape is held
  on_held : (P : DeviceState → Type 0) → ((s : S) → kind.IsShaped s → P (state_of s)) → (state : DeviceState)
      → outer.IsShaped state → P state
  on_held P each state shape = by (held state) refl shape
    where
      by : (o : Option S) → held state ≡ o → IsSomeAnd o kind.IsShaped → P state
      by None is at = elim at [ ]
      by (Some s) is at = subst P (sym (same state s is)) (each s at)

  answered : (call : Call) (now : ℕ) (world : World) (state : DeviceState) (o : Option S)
      → All (λ list. list < lists) (in_state state_of (kind.step call now world) state o).1
  answered call now world state None = All-nil (λ list. list < lists)
  answered call now world state (Some s) = laws.answers_of_row call now world s

  arms : IsWithin → (call : Call) (now : ℕ) (world : World) (state : DeviceState) (k t : ℕ) (o : Option S)
      → held state ≡ o → (moments_of (in_state state_of (kind.step call now world) state o).0).part k ≡ Some t
      → ((moments_of state).part k ≡ Some t) ⊎ (now < t)
  arms within call now world state k t None at is = inl is
  arms within call now world state k t (Some s) at is =
      subst (λ st. ((moments_of st).part k ≡ Some t) ⊎ (now < t)) (sym (same state s at))
      (rw (due s) (laws.arms within call now world s k t (rw (due (kind.step call now world s).0) at is)))

  pub in_states-lawful : IsLawful outer moments_of IsWithin lists
  in_states-lawful = record {
    first = rw (back kind.first) laws.first;
    step = λ call now world. on_held (λ state. outer.IsShaped (outer.step call now world state).0)
        (λ s at. rw (back s) (rw (back (kind.step call now world s).0) (laws.step call now world s at)));
    answers = λ call now world. on_held
        (λ state. MayComeAt call (moments_of state) → Contains (kind.outcomes call) (outer.step call now world state).1)
        (λ s at may. rw (back s) (laws.answers call now world s at (rw (due s) at may)));
    comes = λ within call. All-weaker (IsAnswerOf kind moments call) (IsAnswerOf outer moments_of call)
        (λ ls a. record {
          now = a.now;
          world = a.world;
          state = state_of a.state;
          shape = rw (back a.state) a.shape;
          may_come = rw (due a.state) a.may_come;
          answer = rw (back a.state) a.answer;
        }) (kind.outcomes call) (laws.comes within call);
    of_row = laws.of_row;
    answers_of_row = λ call now world state. answered call now world state (held state);
    short = laws.short;
    silent_stop = laws.silent_stop;
    quiet = rw (due kind.first) laws.quiet;
    stop = λ now world. on_held (λ state. (moments_of (outer.step calls.ModeStop now world state).0).due ≡ None)
        (λ s at. rw (back s) (rw (due (kind.step calls.ModeStop now world s).0) (laws.stop now world s at)));
    arms = λ within call now world state k t is. arms within call now world state k t (held state) refl is;
    fires = λ now world. on_held
        (λ state. IfSome (moments_of state).due (FiresFirstPartOf outer moments_of now world state))
        (λ s at. rw (due s) (IfSome_then (moments s).due (laws.fires now world s at) (λ t f. record {
          part = f.part;
          first = rw (due s) f.first;
          step = rw (back s) (ap (put_back state_of) f.step);
        })));
    later_part = λ within now world. on_held (λ state. IfSome (moments_of state).due
        (λ t. IsDoneIn now t (moments_of state) (moments_of (outer.step calls.Fire now world state).0)))
        (λ s at. rw (back s) (rw (due s) (rw (due (kind.step calls.Fire now world s).0)
        (laws.later_part within now world s at))));
    few = λ state k. on_held (λ st. 17 ≤ k → (moments_of st).part k ≡ None)
        (λ s at past. rw (due s) (laws.few s k at past)) state;
  }
