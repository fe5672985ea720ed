-- What holds of the effects of ball saves and multiballs.
use Rattle.std.{proofs.Common.{rules, ℕ, List}, specs.List.All}
use Rattle.plan_parts.specs.Effects.{Effect, posts, requests, adds_balls}
use Rattle.plan_parts.specs.{SaveEntries.multiball_lists, PartBounds.IsFew}
use Rattle.plan_parts.specs.SaveEntries.{save_event, save_endings, save_lists, multiball_event, multiball_endings}

-- what holds of each post and of the request holds of all effects of a ball save
module _ (Q : Effect → Type 0) (name : List ℕ) where
  abbrev IsSaving : List ℕ → Type 0
  IsSaving ending = Q (posts (save_event name ending))

  pub all_save_by : All IsSaving save_endings → Q (requests 1) → All (All Q) (save_lists name)
  all_save_by each asked = search rules

  pub all_save : ((ending : List ℕ) → IsSaving ending) → Q (requests 1) → All (All Q) (save_lists name)
  all_save each asked = all_save_by (λ i d within. each _) asked

  -- and so with a multiball
  module _ (balls : ℕ) where
    abbrev IsPlaying : List ℕ → Type 0
    IsPlaying ending = Q (posts (multiball_event name ending))

    pub all_multiball_by : All IsPlaying multiball_endings → Q (adds_balls balls)
        → All (All Q) (multiball_lists name balls)
    all_multiball_by each added = search rules

    pub all_multiball : ((ending : List ℕ) → IsPlaying ending) → Q (adds_balls balls)
        → All (All Q) (multiball_lists name balls)
    all_multiball each added = all_multiball_by (λ i d within. each _) added

-- the lists are short
pub save_lists_few : (name : List ℕ) → All IsFew (save_lists name)
save_lists_few name = search rules

pub multiball_lists_few : (name : List ℕ) (balls : ℕ) → All IsFew (multiball_lists name balls)
multiball_lists_few name balls = search rules
