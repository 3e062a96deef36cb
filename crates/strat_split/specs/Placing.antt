-- How far versions are placed in parts, while they are taken from the least up.
use Rattle.std.specs.Prelude.{◌≡◌, ◌<◌, ◌≤◌, ℕ, ◌+◌, ◌*◌, zero, suc, ◌==◌, cond, List, [], ◌∷◌, ◌++◌, length, slice_index, slice_index_or, slice_set, min, None, Some, ◌⊎◌}
use Rattle.std.specs.Option.{option_map_or}
use Rattle.def_split.specs.Plan.{in_no_part}
use Rattle.strat_tree.specs.Ancestor.{up}
use Rattle.strat_split.specs.Survey.{Told}
use Rattle.strat_split.specs.Greedy.{sums_from}
use Rattle.strat_split.specs.declared.parts.Part.{Part}

-- a part by its number
abbrev pub nth_part : List Part → ℕ → Part
nth_part parts q =
    slice_index_or parts q (record { above = None; leads = 0; entries = 0; least = 0 })

-- the part that begins with version c below version p, with so many leads
abbrev pub part_below : Told → ℕ → ℕ → ℕ → Part
part_below t p c leads = record {
  above = Some p;
  leads = leads;
  entries = leads + slice_index t.live p;
  least = slice_index t.live c;
}

-- the part of version 0, with so many leads
abbrev pub top_part : Told → ℕ → Part
top_part t leads =
    record { above = None; leads = leads; entries = leads; least = slice_index t.live 0 }

-- the numbers of those among the first n versions that have this label, summed up
abbrev pub part_sum : ℕ → List ℕ → List ℕ → ℕ → ℕ
part_sum q labels numbers zero = 0
part_sum q labels numbers (suc n) =
    part_sum q labels numbers n + cond (slice_index labels n == q) (slice_index numbers n) 0

-- a part's numbers fit each other
pub record IsFit (t : Told) (part : Part) : Type 0 where
  pub entries : part.entries ≡ part.leads + option_map_or (λ p. slice_index t.live p) part.above 0
  pub some : 1 ≤ part.entries
  pub led : part.entries ≤ 2 * part.leads
  pub placed : (p : ℕ) → part.above ≡ Some p → p < length t.own

-- a version may have this label: of a part that is dense there, or of none where no key is live
abbrev pub IsServed : Told → List Part → ℕ → ℕ → Type 0
IsServed t parts v label =
    ((label < length parts) × ((nth_part parts label).entries ≤ 3 * slice_index t.live v))
    ⊎ ((label ≡ in_no_part) × (slice_index t.live v ≡ 0))

-- labels of n versions, of which the first c are placed
pub record IsDrafted (n c : ℕ) (labels joins : List ℕ) (parts : List Part) : Type 0 where
  pub labels_len : length labels ≡ n
  pub joins_len : length joins ≡ n
  pub few : length parts ≤ c

-- version c is placed in a new part
pub record IsPlaced (c label : ℕ) (part : Part) (labels joins : List ℕ) (parts : List Part)
    (labels' joins' : List ℕ) (parts' : List Part) : Type 0 where
  pub labels_are : labels' ≡ slice_set labels c label
  pub joins_are : joins' ≡ slice_set joins c label
  pub parts_are : parts' ≡ parts ++ part ∷ []

-- the versions below c have labels, and what joins each of them is known; the leads of a part are those
-- of its versions and what still joins it
pub record IsSoFar (t : Told) (c : ℕ) (labels joins : List ℕ) (parts : List Part) : Type 0 where
  pub labels_len : length labels ≡ length t.own
  pub joins_len : length joins ≡ length t.own
  pub few : length parts ≤ c
  pub fit : (q : ℕ) → q < length parts → IsFit t (nth_part parts q)
  pub served : (v : ℕ) → v < c → IsServed t parts v (slice_index labels v)
  pub joins_served : (v : ℕ) → v < c → IsServed t parts v (slice_index joins v)
  pub root : slice_index labels 0 < length parts
      → (nth_part parts (slice_index labels 0)).above ≡ None
  pub hangs : (v : ℕ) → 0 < v → v < c → slice_index labels v < length parts
      → (slice_index labels (up t.parents v) ≡ slice_index labels v)
      ⊎ ((nth_part parts (slice_index labels v)).above ≡ Some (up t.parents v))
  pub joins_hang : (v : ℕ) → v < c → slice_index joins v < length parts
      → (slice_index labels v ≡ slice_index joins v)
      ⊎ ((nth_part parts (slice_index joins v)).above ≡ Some v)
  pub topmost : (q : ℕ) → q < length parts → (nth_part parts q).above ≡ None
      → slice_index labels 0 ≡ q
  pub met : (q : ℕ) → q < length parts
      → (v : ℕ) × (v < c) × (slice_index labels v ≡ q)
      × (slice_index t.live v ≡ (nth_part parts q).least)
  pub numbered : (q r v : ℕ) → q < r → r < length parts → v < c → slice_index labels v ≡ r
      → (u : ℕ) × (u < v) × (slice_index labels u ≡ q)
  pub leads : (q : ℕ) → q < length parts
      → part_sum q labels t.own c + part_sum q joins (sums_from t c) c ≡ (nth_part parts q).leads

-- a part with a version at which so many keys are live
abbrev pub lowered : Part → ℕ → Part
lowered part live = record {
  above = part.above;
  leads = part.leads;
  entries = part.entries;
  least = min part.least live;
}

-- each part's least number is the least number of live keys of its versions, if it was one of theirs
pub record IsLowered (labels live : List ℕ) (n : ℕ) (before after : List Part) : Type 0 where
  pub len : length after ≡ length before
  pub same : (q : ℕ) → q < length before
      → ((nth_part after q).above ≡ (nth_part before q).above)
      × ((nth_part after q).leads ≡ (nth_part before q).leads)
      × ((nth_part after q).entries ≡ (nth_part before q).entries)
  pub attained : (q : ℕ) → q < length before
      → ((nth_part after q).least ≡ (nth_part before q).least)
      ⊎ ((v : ℕ) × (v < n) × (slice_index labels v ≡ q)
      × (slice_index live v ≡ (nth_part after q).least))
  pub low : (v : ℕ) → v < n → slice_index labels v < length before
      → (nth_part after (slice_index labels v)).least ≤ slice_index live v

-- these labels and parts are what the passes over the versions leave
pub record IsDivided (t : Told) (labels : List ℕ) (parts : List Part) : Type 0 where
  pub joins : List ℕ
  pub before : List Part
  pub so_far : IsSoFar t (length t.own) labels joins before
  pub lowered : IsLowered labels t.live (length t.own) before parts
