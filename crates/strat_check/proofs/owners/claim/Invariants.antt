use Rattle.std.proofs.Common.{◌≡◌, ◌<◌, ℕ, length, take, get_or, cond}
use Rattle.strat_base.specs.Entries.{is_tagged}
use Rattle.strat_check.proofs.owners.claim.Given as goal

abbrev pub invariant-loop-v : goal.invariant-loop-v
invariant-loop-v l =
    (length l.owners ≡ length l.initial.owners)
    × ((u : ℕ) → u < length l.initial.owners → get_or l.owners u 0 ≡ cond (is_tagged (take l.v-index l.tag) u) l.place (get_or l.initial.owners u 0))
