-- Which costs have the same measure, and a price as the code has it.
use Rattle.std.specs.Prelude.{◌≡◌, ℕ, ◌-◌, ◌^◌, min}
use Rattle.plan_tables.specs.declared.entries.EventId.{EventId}
use Rattle.cascade_rank.specs.{Cost.{Cost, price_at}, Mentions.weights_in}

-- Costs that no measure tells apart: whatever a step costs and events weigh, they have the same price, and they have
-- the same weights in the same order. So it is with `Both (Both a b) c` and `Both a (Both b c)`.
pub record AreAlike (a b : Cost) : Type 0 where
  pub price : (k : ℕ) (w : EventId → ℕ) → price_at k w a ≡ price_at k w b
  pub weights : weights_in a ≡ weights_in b

-- a price, or the greatest number of 128 bits if it is above that
abbrev pub saturate : ℕ → ℕ
saturate n = min n (2 ^ 128 - 1)
