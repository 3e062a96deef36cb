-- The level that a plan gives.
use Rattle.std.specs.Prelude.{◌≡◌, ◌<◌, ◌≤◌, ℕ, ◌+◌, ◌*◌, ◌==◌, ◌||◌, Bool, false, List, length, map, filter, Option, None, Some, ◌⊎◌}
use Rattle.std.specs.List.{range_with_len}
use Rattle.std.specs.Option.{option_map_or}
use Rattle.strat_base.specs.Tree.{Parents, parent_of}
use Rattle.strat_base.specs.Entries.{Entry}
use Rattle.def_state.specs.Live.{is_live, live}
use Rattle.def_state.specs.Level.{TaggedArray, Level, least}
use Rattle.def_split.specs.Plan.{Plan, horizon_of, part_of, part_at, members}

-- the entries whose own version is in a part
abbrev pub part_leads : Plan → List Entry → ℕ → List Entry
part_leads plan entries q = filter (λ e. part_of plan e.version == q) entries

-- an entry is live where a part hangs
abbrev pub is_inherited : Parents → List Entry → Option ℕ → Entry → Bool
is_inherited parents entries above e = option_map_or (λ p. is_live parents entries p e) above false

-- the array of a part takes an entry: it is a lead of the part, or live where the part hangs
abbrev pub is_taken : Parents → Plan → List Entry → ℕ → Entry → Bool
is_taken parents plan entries q e =
    (part_of plan e.version == q) || is_inherited parents entries (part_at plan q).above e

-- how many entries are live where a part hangs
abbrev pub inherited : Parents → List Entry → Option ℕ → ℕ
inherited parents entries above = option_map_or (λ p. length (live parents entries p)) above 0

-- the array of a part
abbrev pub array_of_part : Parents → List Entry → Plan → ℕ → ℕ → TaggedArray
array_of_part parents entries plan first q =
    record {
      id = first + q;
      tag = members plan q;
      content = filter (is_taken parents plan entries q) entries;
      entries = (part_at plan q).entries;
      leads = (part_at plan q).leads;
      least = (part_at plan q).least;
    }

-- the level that a plan gives, with arrays numbered from first on
abbrev pub planned_level : Parents → List Entry → Plan → ℕ → ℕ → Level
planned_level parents entries plan number first =
    record {
      number = number;
      horizon = horizon_of plan;
      arrays =
          map (array_of_part parents entries plan first) (range_with_len 0 (length plan.parts));
    }

-- a plan splits the versions of these entries
pub record IsPlan (parents : Parents) (entries : List Entry) (plan : Plan) : Type 0 where
  pub root : (v : ℕ) → v < horizon_of plan → part_of plan v < length plan.parts
      → parent_of parents v ≡ None → (part_at plan (part_of plan v)).above ≡ None
  pub hangs : (v p : ℕ) → v < horizon_of plan → part_of plan v < length plan.parts
      → parent_of parents v ≡ Some p
      → (part_of plan p ≡ part_of plan v) ⊎ ((part_at plan (part_of plan v)).above ≡ Some p)
  pub served : (v : ℕ) → v < horizon_of plan → 0 < length (live parents entries v)
      → part_of plan v < length plan.parts
  pub leads : (q : ℕ) → q < length plan.parts
      → (part_at plan q).leads ≡ length (part_leads plan entries q)
  pub entries_are : (q : ℕ) → q < length plan.parts
      → (part_at plan q).entries
      ≡ (part_at plan q).leads + inherited parents entries (part_at plan q).above
  pub dense : (v : ℕ) → v < horizon_of plan → part_of plan v < length plan.parts
      → (part_at plan (part_of plan v)).entries ≤ 3 * length (live parents entries v)
  pub least_is : (q : ℕ) → q < length plan.parts
      → (part_at plan q).least ≡ least (map (λ v. length (live parents entries v)) (members plan q))
  pub led : (q : ℕ) → q < length plan.parts
      → (part_at plan q).entries ≤ 2 * (part_at plan q).leads
