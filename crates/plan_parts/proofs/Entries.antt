-- The device of an entry, by the name of its section.
use Rattle.std.{proofs.Common.{◌≡◌, true, false, ℕ, List, refl}, specs.{Prelude.{Some, None}, Str.bytes_eq}}
use Rattle.mpf_sections.specs.{Rows.Entry, Typed.{step_block_of, timer_of}}
use Rattle.mpf_sections.specs.TypedSaves.{ball_saves_name, multiballs_name, ball_save_of, multiball_of}
use Rattle.mpf_sections.specs.Typed.{counters_name, accruals_name, sequences_name, timers_name, counter_of}
use Rattle.plan_tables.specs.declared.devices.Settings.TheVariants as kinds
use Rattle.plan_parts.specs.DeviceEntries.{counter_device, step_settings, step_device, timer_device, device_of}
use Rattle.plan_parts.specs.SaveEntries.{save_device, multiball_device, save_device_of}

module _ (section : List ℕ) (e : Entry) where
  pub ball_save_there : bytes_eq section ball_saves_name ≡ true
      → Some (save_device (ball_save_of e)) ≡ save_device_of section e
  unfolding save_device_of
  ball_save_there is = rw is refl

  module _ (other : bytes_eq section ball_saves_name ≡ false) where
    pub multiball_there : bytes_eq section multiballs_name ≡ true
        → Some (multiball_device (multiball_of e)) ≡ save_device_of section e
    unfolding save_device_of
    multiball_there is = rw (other, is) refl

    pub no_save_there : bytes_eq section multiballs_name ≡ false → save_device_of section e ≡ None
    unfolding save_device_of
    no_save_there is = rw (other, is) refl

  pub counter_there : bytes_eq section counters_name ≡ true
      → Some (counter_device (counter_of e)) ≡ device_of section e
  unfolding device_of
  counter_there is = rw is refl

  module _ (others : bytes_eq section counters_name ≡ false) where
    pub accrual_there : bytes_eq section accruals_name ≡ true
        → Some (step_device (kinds.Accrual (step_settings (step_block_of e))) (step_block_of e)) ≡ device_of section e
    unfolding device_of
    accrual_there is = rw (others, is) refl

    module _ (more : bytes_eq section accruals_name ≡ false) where
      pub sequence_there : bytes_eq section sequences_name ≡ true
          → Some (step_device (kinds.Sequence (step_settings (step_block_of e))) (step_block_of e))
          ≡ device_of section e
      unfolding device_of
      sequence_there is = rw (others, more, is) refl

      module _ (last : bytes_eq section sequences_name ≡ false) where
        pub timer_there : bytes_eq section timers_name ≡ true → Some (timer_device (timer_of e)) ≡ device_of section e
        unfolding device_of
        timer_there is = rw (others, more, last, is) refl

        pub save_there : bytes_eq section timers_name ≡ false → save_device_of section e ≡ device_of section e
        unfolding device_of
        save_there none = rw (others, more, last, none) refl
