-- What a store says of a key.
use Rattle.std.specs.Prelude.{◌≡◌, ◌⊎◌, ℕ, Result, Ok, Err}
use Rattle.strat_array.specs.declared.seen.Seen.{Seen}
use Rattle.strat_array.specs.declared.seen.Seen.TheVariants as seen
use Rattle.strat_base.specs.declared.failures.Fault.{Fault}
use Rattle.strat_model.specs.Faults.{refusal_by}
use Rattle.strat_model.specs.declared.replies.Refusal.TheVariants as why
use Rattle.strat_model.specs.declared.replies.Reply.{Reply}
use Rattle.strat_model.specs.declared.replies.Reply.TheVariants as reply

-- what is told of a key after a look-up, or after the fault that ended it
abbrev pub reply_of_get : Result Seen Fault → Reply
reply_of_get (Ok seen.Put) = reply.Found
reply_of_get (Ok seen.Gone) = reply.Absent
reply_of_get (Ok seen.None) = reply.Absent
reply_of_get (Err fault) = reply.Refused (refusal_by fault)

-- what may be told of a key at a version that is there
abbrev pub MayTellOfKey : Reply → Type 0
MayTellOfKey told =
    (told ≡ reply.Found) ⊎ (told ≡ reply.Absent) ⊎ (told ≡ reply.Refused why.DeviceFault)
    ⊎ ((block : ℕ) × (told ≡ reply.Refused (why.Damaged block)))
