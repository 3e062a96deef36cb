-- The walk over the entries of a key, the greatest version first, to the one that is live.
use Rattle.std.specs.Prelude.{◌≡◌, ℕ, ◌&&◌, Bool, List, find, IsTrue}
use Rattle.std.specs.List.{list_all}
use Rattle.strat_base.specs.Tree.{Parents, is_ancestor}
use Rattle.strat_base.specs.Entries.{Entry, is_of, is_ascending}
use Rattle.strat_array.specs.Left.{is_from}

-- an entry is of a key, at a version or one of its ancestors
abbrev pub is_seen_at : Parents → List ℕ → ℕ → Entry → Bool
is_seen_at parents key v e = is_of key e && is_ancestor parents e.version v

-- of these entries, in order and none below a key, the first that passes is that of others
pub record Going (p : Entry → Bool) (key : List ℕ) (first now : List Entry) : Type 0 where
  pub found : find p first ≡ find p now
  pub ascending : IsTrue (is_ascending now)
  pub from : IsTrue (list_all (is_from key) now)
