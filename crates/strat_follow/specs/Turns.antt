-- Whether a change that comes with its number is next.
use Rattle.std.specs.Prelude.{ℕ, ◌==◌, nat_lt, if◌then◌else◌}
use Rattle.def_follow.specs.Following.{Fate}
use Rattle.def_follow.specs.Following as kept
use Rattle.strat_follow.specs.declared.receipts.Fate.{Fate as Told}
use Rattle.strat_follow.specs.declared.receipts.Fate.TheVariants as told
use Rattle.strat_follow.specs.declared.turns.Turn.{Turn}
use Rattle.strat_follow.specs.declared.turns.Turn.TheVariants as turn

-- it is the next one, was taken before, or comes too early
abbrev pub turn_of : ℕ → ℕ → Turn
turn_of next number =
    if number == next then turn.Take else if nat_lt number next then turn.Old else turn.Gap

-- what became of a body, as it is told
abbrev pub fate_seen : Told → Fate
fate_seen told.Taken = kept.Taken
fate_seen told.Old = kept.Old
fate_seen told.Gap = kept.Gap
fate_seen told.Malformed = kept.Malformed
fate_seen (told.Refused cause) = kept.Refused cause
