-- A workload: changes that are drawn by a linear congruential generator, and their frames.
use Rattle.std.specs.Prelude.{ℕ, zero, suc, ◌+◌, ◌-◌, ◌*◌, ◌/◌, ◌%◌, ◌^◌, ◌==◌, nat_lt, nat_le, ◌&&◌, not, if◌then◌else◌, List, [], ◌∷◌, length, find, None, unwrap_or}
use Rattle.std.specs.Fmt.{decimal}
use Rattle.std.specs.List.{range_with_len}
use Rattle.strat_base.specs.Change.{Change, Put, Delete, Clone}
use Rattle.strat_base.specs.Tree.{Parents, has_child}
use Rattle.def_state.specs.State.{tree_after}
use Rattle.strat_model.specs.Spelling.{command_body}
use Rattle.strat_model.specs.Stream.{frame}
use Rattle.def_meaning.specs.StateTable.{request_for}

-- the generator's state after one more draw
abbrev pub next_draw : ℕ → ℕ
next_draw state = (state * 6364136223846793005 + 1442695040888963407) % 2 ^ 64

-- what a draw gives: the upper 31 bits of the generator's state
abbrev pub drawn : ℕ → ℕ
drawn state = state / 2 ^ 33

-- the first version from one on that has no child; the newest has none
abbrev pub leaf_from : Parents → ℕ → ℕ
leaf_from parents v =
    unwrap_or
    (find (λ u. not (has_child parents u)) (range_with_len v (length parents - v)))
    (length parents - 1)

-- the last decimal digit of a number
abbrev pub last_digit : ℕ → ℕ
last_digit n = 48 + n % 10

-- the letter k and three decimal digits
abbrev pub drawn_key : ℕ → List ℕ
drawn_key r = 107 ∷ last_digit (r / 100) ∷ last_digit (r / 10) ∷ last_digit r ∷ []

-- an update of a version without a child, the i-th change: a deletion in an eighth of the cases
abbrev pub drawn_update : ℕ → ℕ → ℕ → ℕ → Change
drawn_update i p v r =
    if nat_le 2 p && nat_le p 9 then Delete v (drawn_key r) else Put v (drawn_key r) (decimal i)

-- the i-th change, by what three draws gave: as long as there are fewer than 128 versions sometimes
-- a clone, of any version or of the newest, and else an update
abbrev pub drawn_change : Parents → ℕ → ℕ → ℕ → ℕ → Change
drawn_change parents i p q r =
    if p == 0 && nat_lt (length parents) 128 then Clone (q % length parents) else
    if p == 1 && nat_lt (length parents) 128 then Clone (length parents - 1) else
    drawn_update i p (leaf_from parents (q % length parents)) r

-- so many changes from the i-th on, with the generator in this state and the versions that there are
unfoldable pub changes_from : ℕ → ℕ → ℕ → Parents → List Change
changes_from zero i state parents = []
changes_from (suc n) i state parents =
    let first = next_draw state in
    let second = next_draw first in
    let third = next_draw second in
    let change = drawn_change parents i (drawn first % 64) (drawn second) (drawn third % 1000) in
    change ∷ changes_from n (suc i) third (tree_after parents change)

-- the changes of a workload on a new store
abbrev pub workload_changes : ℕ → ℕ → List Change
workload_changes seed count = changes_from count 1 seed (None ∷ [])

-- the frames of changes, each with its number as its tag
abbrev pub frames_from : ℕ → List Change → List (List ℕ)
frames_from i [] = []
frames_from i (change ∷ changes) =
    frame (command_body i (request_for change)) ∷ frames_from (suc i) changes

-- the frames of a workload
abbrev pub workload : ℕ → ℕ → List (List ℕ)
workload seed count = frames_from 1 (workload_changes seed count)
