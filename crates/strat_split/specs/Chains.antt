-- Chains of the places in a list that have the same label.
use Rattle.std.specs.Prelude.{◌≡◌, ◌<◌, ◌≤◌, ℕ, ◌+◌, ◌-◌, ◌==◌, List, length, find, slice_index, slice_index_or, Option, None}
use Rattle.std.specs.List.{range_with_len}

-- the first place from i on with a label
abbrev pub first_labelled : List ℕ → ℕ → ℕ → Option ℕ
first_labelled labels label i =
    find (λ k. slice_index labels k == label) (range_with_len i (length labels - i))

-- from each label that has a chain, and from each place of such a label from i on, the next is known
pub record IsLinked (labels : List ℕ) (firsts nexts : List (Option ℕ)) (i : ℕ) : Type 0 where
  pub nexts_len : length labels ≤ length nexts
  pub first : (label : ℕ) → label < length firsts
      → slice_index_or firsts label None ≡ first_labelled labels label i
  pub next : (k : ℕ) → i ≤ k → k < length labels → slice_index labels k < length firsts
      → slice_index_or nexts k None ≡ first_labelled labels (slice_index labels k) (k + 1)
