-- Levels of arrays, and when a level is stratified.
use Rattle.std.specs.Prelude.{ℕ, ◌*◌, ◌==◌, nat_lt, nat_le, ◌&&◌, ◌||◌, not, Bool, true, List, [], ◌∷◌, length, min, map, flat_map, IsTrue}
use Rattle.std.specs.List.{list_all, range_with_len}
use Rattle.strat_base.specs.Tree.{Parents}
use Rattle.strat_base.specs.Entries.{Entry, is_tagged, lead_entries, holds_entry, are_same, is_single}
use Rattle.def_state.specs.Live.{live}

-- an array: the versions that it is for, what its blocks hold, and the numbers in its descriptor
pub record TaggedArray : Type 0 where
  pub id : ℕ
  pub tag : List ℕ
  pub content : List Entry
  pub entries : ℕ
  pub leads : ℕ
  pub least : ℕ

-- a level: its number, the number of versions when it was made, and its arrays
pub record Level : Type 0 where
  pub number : ℕ
  pub horizon : ℕ
  pub arrays : List TaggedArray

-- the leads of an array
abbrev pub own_leads : TaggedArray → List Entry
own_leads a = lead_entries a.tag a.content

-- the least of some numbers, or 0 of none
abbrev pub least : List ℕ → ℕ
least [] = 0
least (n ∷ []) = n
least (n ∷ m ∷ rest) = min n (least (m ∷ rest))

-- the least number of keys live at a version of an array's tag
abbrev pub least_live : Parents → TaggedArray → ℕ
least_live parents a = least (map (λ v. length (live parents a.content v)) a.tag)

-- the density of an array: the least number live at a version of its tag, of all its entries
abbrev pub density : Parents → TaggedArray → ℕ × ℕ
density parents a = (least_live parents a, length a.content)

-- the lead fraction of an array: its leads, of all its entries
abbrev pub lead_fraction : TaggedArray → ℕ × ℕ
lead_fraction a = (length (own_leads a), length a.content)

-- the leads of a level: those of all its arrays
abbrev pub level_leads : Level → List Entry
level_leads level = flat_map own_leads level.arrays

-- the versions in the tags of a level
abbrev pub tagged_versions : Level → List ℕ
tagged_versions level = flat_map (λ a. a.tag) level.arrays

-- no version stands twice
abbrev pub is_distinct : List ℕ → Bool
is_distinct [] = true
is_distinct (v ∷ vs) = not (is_tagged vs v) && is_distinct vs

-- a: the tags are disjoint and hold versions below the horizon
abbrev pub has_disjoint_tags : Level → Bool
has_disjoint_tags level =
    is_distinct (tagged_versions level)
    && list_all (λ v. nat_lt v level.horizon) (tagged_versions level)

-- b: each version below the horizon at which a lead of the level is live is in a tag
abbrev pub has_live_tagged : Parents → Level → Bool
has_live_tagged parents level =
    list_all
    (λ v. is_tagged (tagged_versions level) v || (length (live parents (level_leads level) v) == 0))
    (range_with_len 0 level.horizon)

-- c: at each version of its tag the entries live in an array are those live among the level's leads
abbrev pub agrees : Parents → Level → TaggedArray → Bool
agrees parents level a =
    list_all (λ v. are_same (live parents a.content v) (live parents (level_leads level) v)) a.tag

-- d: at each version of its tag at least a third of an array is live
abbrev pub is_dense : Parents → TaggedArray → Bool
is_dense parents a =
    list_all (λ v. nat_le (length a.content) (3 * length (live parents a.content v))) a.tag

-- e: at least half of an array's entries are leads
abbrev pub is_led : TaggedArray → Bool
is_led a = nat_le (length a.content) (2 * length (own_leads a))

-- f: every entry of an array is a lead of the level
abbrev pub is_drawn : Level → TaggedArray → Bool
is_drawn level a = list_all (holds_entry (level_leads level)) a.content

-- g: the leads of the level have one entry per key and version
abbrev pub has_single_leads : Level → Bool
has_single_leads level = is_single (level_leads level)

-- a level is stratified
pub record IsStratified (parents : Parents) (level : Level) : Type 0 where
  pub disjoint : IsTrue (has_disjoint_tags level)  -- a
  pub tagged : IsTrue (has_live_tagged parents level)  -- b
  pub agreeing : IsTrue (list_all (agrees parents level) level.arrays)  -- c
  pub dense : IsTrue (list_all (is_dense parents) level.arrays)  -- d
  pub led : IsTrue (list_all is_led level.arrays)  -- e
  pub drawn : IsTrue (list_all (is_drawn level) level.arrays)  -- f
  pub single : IsTrue (has_single_leads level)  -- g
