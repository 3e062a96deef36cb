-- A serving run while it goes on.
use Rattle.std.specs.Prelude.{◌≡◌, ◌≤◌, ◌<◌, ℕ, true, false, List, [], ◌∷◌, ◌++◌, length, map, Contains, Some, None, Result, Ok, Err}
use Rattle.std.specs.List.{flat_map, AllByRecursion}
use Rattle.strat_base.specs.Numbers.{AreBytes}
use Rattle.strat_base.specs.declared.descriptors.ArrayDesc.{ArrayDesc}
use Rattle.def_crash.specs.Image.{Image}
use Rattle.def_crash.specs.Moments.{DiskView, Passes}
use Rattle.def_bytes.specs.SuperBlock.{Super}
use Rattle.strat_frame.specs.Deframing.{Deframing}
use Rattle.strat_frame.specs.declared.deframer.Next.{Next}
use Rattle.strat_frame.specs.declared.deframer.Next.TheVariants as next
use Rattle.strat_io.specs.Streams.{Appends}
use Rattle.strat_model.specs.Faults.{fault_told}
use Rattle.strat_model.specs.declared.ended.Ended.{Ended}
use Rattle.strat_model.specs.Batch.{tables_before}
use Rattle.strat_model.specs.Run.{Position, Exchange}
use Rattle.strat_model.specs.Stream.{frame, IsBody, is_partial, is_too_long}
use Rattle.strat_model.specs.Table.{Cursor, Table}
use Rattle.def_recovery.specs.Opening.{recover}
use Rattle.def_meaning.specs.StateTable.{table_of}
use Rattle.def_publish.specs.Contents.{Contents, contents_state}
use Rattle.def_publish.specs.Standing.{ShowsTable}
use Rattle.strat_open.specs.Following.{ChangesGateAlone, FollowsFrom}
use Rattle.strat_memory.specs.Held.{Held, IsConsistent, IsOnDisk, StandsAt, arrays_held, head_held, position_at}
use Rattle.strat_loop.specs.Pending.{Pending, ArePending, with_sent}
use Rattle.strat_loop.specs.Session.{Took, Begins, EndHasCause, WaitsForNone, WasPublished}
use Rattle.strat_loop.specs.Speech.{Said, Speech, IsSpokenRun, response_of, said_bytes}
use Rattle.strat_loop.specs.Spoken.{AreSaidTo, AreSaidCalmly, ServedBy}
use Rattle.strat_loop.specs.World.{World}

-- a serving run so far, where the disk exposes a content that shows a table: these bodies were answered so by the table, and
-- the store stands where that leads
pub record RunSoFar (speech : Speech) (start current : Held) (before now : DiskView) (f : Image)
    (t : Table) (bodies : List (List ℕ)) (answers : List Said) : Type 0 where
  pub from : Position
  pub begins : Begins f start.log.mem from
  pub table : from.table ≡ t
  pub contents : Contents
  pub rows : List Cursor
  pub exchanges : List Exchange
  pub run : IsSpokenRun speech start.log.mem from exchanges answers
      (position_at current contents rows)
  pub bodies_are : map (λ x. x.body) exchanges ≡ bodies
  pub answers_are : map response_of answers ≡ map (λ x. x.response) exchanges
  pub stands : StandsAt now current contents rows
  pub follows : FollowsFrom before now f
      (tables_before exchanges ++ table_of (contents_state contents) ∷ []) (length exchanges)

-- a serving run so far: all whole frames in front of the bytes held were answered, the replies sent, and the changes kept
pub record ServesSoFar (speech : Speech) (start current : Held) (count : ℕ) (held : List ℕ)
    (before now : World) : Type 0 where
  pub taken : List ℕ
  pub counted : length taken ≡ count
  pub took : Took before.left now.left taken
  pub bodies : List (List ℕ)
  pub answers : List Said
  pub answered : AreSaidTo speech bodies answers
  pub quiet : AllByRecursion (λ r. fault_told r.answer.reply ≡ None) answers
  pub parts : taken ≡ flat_map frame bodies ++ held
  pub each : AllByRecursion IsBody bodies
  pub ahead : WaitsForNone taken bodies (length bodies)
  pub sent : Appends before.held now.held (said_bytes answers)
  pub found : (f : Image) → before.disk.content ≡ Some f
      → recover f ≡ Ok (Some (head_held start))
  pub mem : current.log.mem ≡ start.log.mem
  pub lawful : IsConsistent current
  pub going : current.spent ≡ false
  pub calm : now.disk_faults ≡ before.disk_faults
  pub passes : Passes before.disk now.disk
  pub on_disk : (f : Image) → before.disk.content ≡ Some f → IsOnDisk now.disk current
  pub named : (f : Image) → before.disk.content ≡ Some f → (a : ArrayDesc)
      → Contains (arrays_held current.memory current.levels) a
      → WasPublished before.disk now.disk a
  pub still : AreSaidCalmly speech bodies answers → (f : Image) → before.disk.content ≡ Some f
      → (slot : ℕ) × (sb : Super) × ChangesGateAlone before.disk now.disk f slot sb
  pub runs : (f : Image) (t : Table) → before.disk.content ≡ Some f → ShowsTable f t
      → RunSoFar speech start current before.disk now.disk f t bodies answers

-- a world whose sink holds these bytes more
abbrev pub sent_also : World → List ℕ → World
sent_also now bytes = record now { held = with_sent now.held bytes }

-- a serving run so far whose last replies are pending: it is in progress as if the sink held these, too
pub record ServesPending (speech : Speech) (start current : Held) (count : ℕ) (held : List ℕ)
    (replies : Pending) (before now : World) : Type 0 where
  pub so_far : ServesSoFar speech start current count held before (sent_also now replies.bytes)
  pub pending :
      ArePending replies so_far.taken so_far.bodies so_far.answers before.held now.held

-- the bytes that wait where this was met: a frame in the buffer is among them until it is answered
abbrev pub waiting : Next → Deframing → List ℕ
waiting next.Frame d = frame d.body ++ d.held
waiting _ d = d.held

-- this is what the bytes that wait begin with
abbrev pub Meets : Next → Deframing → Type 0
Meets next.Frame d = IsBody d.body
Meets next.NotYet d = is_partial d.held ≡ true
Meets (next.TooLong length) d = is_too_long d.held ≡ true

-- a turn of a run that was so far in progress leaves it in progress in front of what was met next, with these replies
-- pending, or ended it
abbrev pub TurnsTo :
    Speech → Result Next Ended → Held → Held → ℕ → ℕ → Deframing → Pending → World → World → Type 0
TurnsTo speech (Ok met) start new count budget d replies before now =
    ServesPending speech start new count (waiting met d) replies before now
TurnsTo speech (Err how) start new count budget d replies before now =
    ServedBy speech budget how before now

-- what it leaves is fit for the next turn, with fewer bytes that wait
abbrev pub TurnGoesOn : Result Next Ended → Held → Deframing → Deframing → Type 0
TurnGoesOn (Ok met) new before after =
    (new.spent ≡ false) × IsConsistent new × Meets met after × AreBytes after.held
    × (length (waiting met after) < length (waiting next.Frame before))
TurnGoesOn (Err how) new before after = Unit {0}

-- no count of faults rose in a turn after which the run goes on; where it ends for a cause the one that this names did
abbrev pub TurnHasCause : Result Next Ended → World → World → Type 0
TurnHasCause (Ok met) before now =
    (now.sink_faults ≡ before.sink_faults) × (now.disk_faults ≡ before.disk_faults)
TurnHasCause (Err how) before now = EndHasCause how before now
