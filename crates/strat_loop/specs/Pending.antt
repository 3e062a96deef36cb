-- Replies of a serving run that are pending: they wait to be sent together.
use Rattle.std.specs.Prelude.{◌≡◌, ◌≤◌, ◌⊎◌, ℕ, ◌+◌, List, [], ◌++◌, length, take, drop, Option, Some, None}
use Rattle.def_crash.specs.Faults.{Rose}
use Rattle.strat_io.specs.Streams.{Appends}
use Rattle.strat_model.specs.declared.ended.Ended.{Ended}
use Rattle.strat_model.specs.declared.ended.Ended.TheVariants as ended
use Rattle.strat_loop.specs.Session.{SendsPrefix, WaitsForNone}
use Rattle.strat_loop.specs.Speech.{Said, said_bytes}

-- pending replies: their bytes, and how many they are
pub record Pending : Type 0 where
  pub bytes : List ℕ
  pub count : ℕ

abbrev pub none_pending : Pending
none_pending = record { bytes = []; count = 0 }

-- what a sink would hold with these bytes more
abbrev pub with_sent : Option (List ℕ) → List ℕ → Option (List ℕ)
with_sent None bytes = None
with_sent (Some held) bytes = Some (held ++ bytes)

-- of these answers the first went out, and the others are pending, sixteen at most; the last piece was read when each frame
-- that stood whole in front of it had an answer that went out
pub record ArePending (replies : Pending) (taken : List ℕ) (bodies : List (List ℕ))
    (answers : List Said) (before now : Option (List ℕ)) : Type 0 where
  pub sent : ℕ
  pub few : sent ≤ length answers
  pub most : length answers ≤ sent + replies.count
  pub room : replies.count ≤ 16
  pub appends : Appends before now (said_bytes (take sent answers))
  pub text : replies.bytes ≡ said_bytes (drop sent answers)
  pub ahead : WaitsForNone taken bodies sent

-- a sink was sent what was pending, and nothing is, or nothing was sent, and the same is pending
abbrev pub SendsOrKeeps : Option (List ℕ) → Option (List ℕ) → Pending → Pending → Type 0
SendsOrKeeps before now old new =
    ((now ≡ before) × (new ≡ old)) ⊎ (Appends before now old.bytes × (new ≡ none_pending))

-- a run that was to end so sent these bytes and did, or the sink failed at them, and it ended by that
abbrev pub SendsAtEnd :
    Ended → Ended → Option (List ℕ) → Option (List ℕ) → ℕ → ℕ → List ℕ → Type 0
SendsAtEnd how result before now was is bytes =
    ((result ≡ how) × Appends before now bytes × (is ≡ was))
    ⊎ ((result ≡ ended.Sink) × SendsPrefix before now bytes × Rose was is)
