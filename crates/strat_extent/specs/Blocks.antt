-- Which blocks of a file are used: all from the first up to an end, but for those in holes.
use Rattle.std.specs.Prelude.{ℕ, ◌+◌, ◌-◌, ◌<◌, ◌≤◌, nat_le, nat_lt, ◌==◌, Bool, ◌&&◌, not, if◌then◌else◌, List, [], ◌∷◌, ⊤}
use Rattle.strat_base.specs.declared.descriptors.Extent.{Extent}

-- the first block, one past the last that is used, and the runs of free blocks before that
pub record SpaceView : Type 0 where
  pub first : ℕ
  pub end : ℕ
  pub holes : List Extent

-- 1 for a number from low on and below high, and else 0
abbrev pub inside : ℕ → ℕ → ℕ → ℕ
inside low high b = if nat_le low b && nat_lt b high then 1 else 0

-- how often a block stands in extents
abbrev pub times_in : List Extent → ℕ → ℕ
times_in [] b = 0
times_in (x ∷ xs) b = inside x.start (x.start + x.len) b + times_in xs b

-- how many blocks extents have together
abbrev pub total_len : List Extent → ℕ
total_len [] = 0
total_len (x ∷ xs) = x.len + total_len xs

-- ascending runs of blocks from low on and below high, none of them empty, between two of which a block is left out
abbrev pub AreRuns : ℕ → List Extent → ℕ → Type 0
AreRuns low [] high = ⊤
AreRuns low (r ∷ rs) high = (low ≤ r.start) × (0 < r.len) × (r.start + r.len < high)
    × AreRuns (r.start + r.len + 1) rs high

-- a block is used
abbrev pub is_used : SpaceView → ℕ → Bool
is_used s b = (nat_le s.first b && nat_lt b s.end) && (times_in s.holes b == 0)

-- a block may be taken: it is one of the file's, at or above the first, and not used
abbrev pub is_free : SpaceView → ℕ → Bool
is_free s b = (nat_le s.first b && nat_lt b 4294967295) && not (is_used s b)

-- 1 for a block that is used, and else 0
abbrev pub uses : SpaceView → ℕ → ℕ
uses s b = if is_used s b then 1 else 0

-- how many blocks are used
abbrev pub used_count : SpaceView → ℕ
used_count s = (s.end - s.first) - total_len s.holes
