-- A tournament of runs: the one whose first entry stands first of all wins. Node 1 is the root, node k stands above the
-- nodes 2 k and 2 k + 1, and of n runs run i is the leaf n + i.
use Rattle.std.specs.Prelude.{◌≡◌, ◌≤◌, ◌<◌, ℕ, zero, suc, ◌+◌, ◌*◌, ◌/◌, Bool, true, false, if◌then◌else◌, List, length, slice_index, Option, Some, None}
use Rattle.std.specs.Ordering.{is_lt, nat_cmp, ordering_then}
use Rattle.strat_base.specs.Order.{entry_cmp}
use Rattle.strat_base.specs.Entries.{Entry}
use Rattle.strat_merge.specs.Runs.{RunView, head_at}

-- a run is ahead of another: its first entry stands before the other's, or at the same place and its number is less;
-- a run with nothing left is ahead of none
abbrev pub is_ahead : Option Entry → ℕ → Option Entry → ℕ → Bool
is_ahead None a other b = false
is_ahead (Some e) a None b = true
is_ahead (Some e) a (Some f) b =
    is_lt (ordering_then (entry_cmp e.key e.version f.key f.version) (nat_cmp a b))

-- which of two runs wins
abbrev pub winner_of : List RunView → ℕ → ℕ → ℕ
winner_of runs a b = if is_ahead (head_at runs b) b (head_at runs a) a then b else a

-- a node has the winner of the two below it
abbrev pub IsPlayed : List RunView → List ℕ → ℕ → Type 0
IsPlayed runs winners k =
    slice_index winners k
    ≡ winner_of runs (slice_index winners (2 * k)) (slice_index winners (2 * k + 1))

-- a list with a node for each, whose leaves are the runs
pub record IsBracket (runs : ℕ) (winners : List ℕ) : Type 0 where
  pub nodes : length winners ≡ 2 * runs
  pub low : (k : ℕ) → k < length winners → slice_index winners k < runs
  pub leaves : (i : ℕ) → i < runs → slice_index winners (runs + i) ≡ i

-- every node above the leaves is played
pub record IsTournament (runs : List RunView) (winners : List ℕ) : Type 0 where
  pub bracket : IsBracket (length runs) winners
  pub played : (k : ℕ) → 1 ≤ k → k < length runs → IsPlayed runs winners k

-- a node and those above it, the nearest first
unfoldable pub upward : ℕ → ℕ → ℕ
upward zero k = k
upward (suc n) k = upward n (k / 2)

-- node m is node k or stands above it
abbrev pub IsAbove : ℕ → ℕ → Type 0
IsAbove k m = (n : ℕ) × (upward n k ≡ m)

-- every node is played but perhaps k and those above it
abbrev pub PlayedBeside : List RunView → List ℕ → ℕ → Type 0
PlayedBeside runs winners k =
    (m : ℕ) → 1 ≤ m → m < length runs → (IsAbove k m → ⊥) → IsPlayed runs winners m
