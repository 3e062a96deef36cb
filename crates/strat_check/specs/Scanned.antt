-- Blocks of an array that are looked at in order.
use Rattle.std.specs.Prelude.{◌≡◌, ℕ, nat_lt, Bool, List, length, Option, Some, None, find, is_none}
use Rattle.std.specs.List.{list_all}
use Rattle.strat_base.specs.Entries.{Entry, is_ascending}
use Rattle.def_crash.specs.Image.{Image}
use Rattle.def_bytes.specs.Arrays.{block_on, entries_on}
use Rattle.strat_promote.specs.Leads.{comes_after, last_of}
use Rattle.strat_promote.specs.LeadRuns.{key_alone}
use Rattle.strat_check.specs.declared.scan.Scan.{Scan}

-- the versions of all entries are below a number
abbrev pub have_low_versions : ℕ → List Entry → Bool
have_low_versions n entries = list_all (λ e. nat_lt e.version n) entries

-- each of these blocks of an image holds entries, and it was told of all of them whether they ascend, how many they are,
-- and whether their versions are below a number
pub record IsScanned (c : Image) (blocks : List ℕ) (n : ℕ) (s : Scan) : Type 0 where
  pub entries : List Entry
  pub read : entries_on c blocks ≡ Some entries
  pub ascends : s.ascends ≡ is_ascending entries
  pub counted : s.entries ≡ length entries
  pub within : s.is_within ≡ have_low_versions n entries

-- the first of these blocks of an image that holds no entries
abbrev pub first_empty : Image → List ℕ → Option ℕ
first_empty c blocks = find (λ b. is_none (block_on c b)) blocks

-- a block holds entries; it was told whether they come after the last ones before, how many they are, whether their
-- versions are below a number, and which is the last of them
pub record ComesBehind (c : Image) (b n : ℕ) (before now : Option Entry) (s : Scan) : Type 0 where
  pub entries : List Entry
  pub here : block_on c b ≡ Some entries
  pub after : s.ascends ≡ comes_after before entries
  pub counted : s.entries ≡ length entries
  pub within : s.is_within ≡ have_low_versions n entries
  pub last : now ≡ key_alone (last_of None entries)
