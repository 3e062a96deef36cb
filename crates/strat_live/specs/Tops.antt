-- Intervals of numbers that have nothing in common, in order, and how one more comes among them.
use Rattle.std.specs.Prelude.{◌≡◌, ◌<◌, ◌≤◌, ℕ, List, length, slice_index, slice_index_or}
use Rattle.std.specs.List.{insert}
use Rattle.strat_tree.specs.Preorder.{Numbering}
use Rattle.strat_live.specs.declared.tops.Interval.{Interval}

-- the interval at a place
abbrev pub top_at : List Interval → ℕ → Interval
top_at tops k = slice_index_or tops k (record { start = 0; end = 0 })

-- the interval of a version
abbrev pub interval_of : Numbering → ℕ → Interval
interval_of order v = record {
  start = slice_index order.starts v;
  end = slice_index order.ends v;
}

-- each interval holds its start, and ends where the next ones begin or before
pub record AreApart (tops : List Interval) : Type 0 where
  pub some : (k : ℕ) → k < length tops → (top_at tops k).start < (top_at tops k).end
  pub gaps : (j k : ℕ) → j < k → k < length tops → (top_at tops j).end ≤ (top_at tops k).start

-- one of the intervals holds this number
abbrev pub IsCovered : List Interval → ℕ → Type 0
IsCovered tops x =
    (k : ℕ) × (k < length tops) × ((top_at tops k).start ≤ x) × (x < (top_at tops k).end)

-- the intervals before this place start at or before a number, and the others behind it
pub record IsPlaceAmong (tops : List Interval) (x at : ℕ) : Type 0 where
  pub low : (k : ℕ) → k < at → (top_at tops k).start ≤ x
  pub high : (k : ℕ) → at ≤ k → k < length tops → x < (top_at tops k).start

-- an interval came behind those that end at its start or before, and before those that start later
pub record IsAmong (before : List Interval) (interval : Interval) (after : List Interval)
    : Type 0 where
  pub at : ℕ
  pub within : at ≤ length before
  pub low : (k : ℕ) → k < at → (top_at before k).end ≤ interval.start
  pub high : (k : ℕ) → at ≤ k → k < length before → interval.start < (top_at before k).start
  pub is : after ≡ insert before at interval
