-- Groups: entries of one key each, the keys ascending, and of one key the greater version first. Promotion sees one
-- group at a time; what a plan says of all entries is said here of each group.
use Rattle.std.specs.Prelude.{◌≡◌, ◌<◌, ℕ, ◌+◌, ◌==◌, ◌&&◌, nat_lt, not, Bool, true, List, [], ◌∷◌, length, map, filter, flat_map, IsTrue}
use Rattle.std.specs.List.{list_any, list_all, range_with_len}
use Rattle.strat_base.specs.Tree.{Parents}
use Rattle.strat_base.specs.Entries.{Entry, is_of, is_ascending}
use Rattle.def_state.specs.Counted.{own_at, keys_at}
use Rattle.def_state.specs.Level.{TaggedArray, Level}
use Rattle.def_split.specs.Plan.{Plan, horizon_of, part_at, members, IsSplit}
use Rattle.def_split.specs.Planned.{is_taken}

-- the entries of all groups, in their order
abbrev pub grouped_entries : List (List Entry) → List Entry
grouped_entries groups = flat_map (λ group. group) groups

-- all entries have the key of the first
abbrev pub has_one_key : List Entry → Bool
has_one_key [] = true
has_one_key (e ∷ entries) = list_all (is_of e.key) entries

-- no key stands in two groups
abbrev pub are_keyed_apart : List (List Entry) → Bool
are_keyed_apart [] = true
are_keyed_apart (group ∷ groups) =
    list_all (λ e. not (list_any (is_of e.key) (grouped_entries groups))) group
    && are_keyed_apart groups

-- each group has entries of one key, no key stands in two groups, and all ascend
pub record AreGroups (groups : List (List Entry)) : Type 0 where
  pub keyed : IsTrue (list_all has_one_key groups)
  pub apart : IsTrue (are_keyed_apart groups)
  pub ascending : IsTrue (is_ascending (grouped_entries groups))

-- the versions of each group's entries
abbrev pub group_versions : List (List Entry) → List (List ℕ)
group_versions groups = map (λ group. map (λ e. e.version) group) groups

-- how many of the entries are a version's own
abbrev pub own_of : List Entry → ℕ → ℕ
own_of entries v = length (filter (λ e. e.version == v) entries)

-- a plan splits the versions of groups, told how many leads each version has and how many keys it sees
pub record SplitsGroups (parents : Parents) (groups : List (List Entry)) (own live : ℕ → ℕ)
    (plan : Plan) : Type 0 where
  pub grouped : AreGroups groups
  pub low : IsTrue (list_all (λ e. nat_lt e.version (horizon_of plan)) (grouped_entries groups))
  pub own_is : (v : ℕ) → v < horizon_of plan → own v ≡ own_at (group_versions groups) v
  pub live_is : (v : ℕ) → v < horizon_of plan → live v ≡ keys_at parents (group_versions groups) v
  pub split : IsSplit parents own live plan

-- the array of a part, filled group by group
abbrev pub array_of_groups : Parents → List (List Entry) → Plan → ℕ → ℕ → TaggedArray
array_of_groups parents groups plan first q =
    record {
      id = first + q;
      tag = members plan q;
      content = flat_map (λ group. filter (is_taken parents plan group q) group) groups;
      entries = (part_at plan q).entries;
      leads = (part_at plan q).leads;
      least = (part_at plan q).least;
    }

-- the level whose arrays are filled group by group
abbrev pub level_of_groups : Parents → List (List Entry) → Plan → ℕ → ℕ → Level
level_of_groups parents groups plan number first =
    record {
      number = number;
      horizon = horizon_of plan;
      arrays =
          map (array_of_groups parents groups plan first) (range_with_len 0 (length plan.parts));
    }
