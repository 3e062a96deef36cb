-- The greedy split: versions are taken from the greatest down, and each version's rest joins the open
-- group of its parent, until there are enough leads for a part.
use Rattle.std.specs.Prelude.{◌≡◌, ◌<◌, ℕ, ◌+◌, ◌-◌, zero, suc, nat_lt, nat_le, ◌&&◌, Bool, cond, List, length, replicate, slice_get, slice_index, slice_set, Some}
use Rattle.strat_tree.specs.Ancestor.{up}
use Rattle.strat_split.specs.Survey.{Told}
use Rattle.strat_split.specs.declared.gather.Fate.{Fate}
use Rattle.strat_split.specs.declared.gather.Fate.TheVariants.{Joins, Closes, Alone}

-- so many leads make a part below a version at which so many keys are live
abbrev pub is_enough : ℕ → ℕ → Bool
is_enough live leads = nat_lt 0 leads && nat_le live leads

-- what becomes of a rest, where the parent's open group has a sum and so many keys are live there
unfoldable pub fate_after : ℕ → ℕ → ℕ → Fate
fate_after rest sum live =
    cond (is_enough live rest) (Alone rest)
    (cond (is_enough live (sum + rest)) (Closes (sum + rest)) Joins)

-- the sum of the parent's open group afterwards
unfoldable pub open_after : ℕ → ℕ → ℕ → ℕ
open_after rest sum live =
    cond (is_enough live rest) sum (cond (is_enough live (sum + rest)) 0 (sum + rest))

-- the sums of the open groups once version c is taken too
abbrev pub sums_taken : Told → ℕ → List ℕ → List ℕ
sums_taken t c sums =
    slice_set sums (up t.parents c)
    (open_after (slice_index t.own c + slice_index sums c)
    (slice_index sums (up t.parents c)) (slice_index t.live (up t.parents c)))

-- the sums once the last k versions are taken
unfoldable pub sums_after : Told → ℕ → List ℕ
sums_after t zero = replicate (length t.own) 0
sums_after t (suc k) = sums_taken t (length t.own - suc k) (sums_after t k)

-- the sums once all versions from c on are taken
abbrev pub sums_from : Told → ℕ → List ℕ
sums_from t c = sums_after t (length t.own - c)

-- the leads of a version's rest
abbrev pub leads_of_rest : Told → ℕ → ℕ
leads_of_rest t c = slice_index t.own c + slice_index (sums_from t (c + 1)) c

-- what becomes of a version's rest
abbrev pub fate_of : Told → ℕ → Fate
fate_of t c =
    fate_after (leads_of_rest t c) (slice_index (sums_from t (c + 1)) (up t.parents c))
    (slice_index t.live (up t.parents c))

-- what becomes of the rest of each version but 0, and the leads of the rest of version 0
pub record IsGathered (t : Told) (first : ℕ) (fates : List Fate) : Type 0 where
  pub first_is : first ≡ leads_of_rest t 0
  pub fates_len : length fates ≡ length t.own
  pub fate_is : (v : ℕ) → 0 < v → v < length t.own → slice_get fates v ≡ Some (fate_of t v)
