-- A run of a protocol: what it took, what it left on the disk, and why it ended.
use Rattle.std.specs.Prelude.{◌≡◌, ◌≢◌, ◌≤◌, ◌<◌, ◌⊎◌, ℕ, ◌+◌, true, List, [], ◌++◌, length, take, map, Contains, Option, Some, None, IsSome, Ok, Err}
use Rattle.std.specs.List.{flat_map}
use Rattle.strat_base.specs.declared.descriptors.ArrayDesc.{ArrayDesc}
use Rattle.strat_base.specs.declared.failures.Fault.{Fault}
use Rattle.strat_base.specs.declared.failures.Fault.TheVariants as fault
use Rattle.def_crash.specs.Blocks.{AgreeOn}
use Rattle.def_crash.specs.Faults.{Rose}
use Rattle.def_crash.specs.Image.{Image}
use Rattle.def_crash.specs.Moments.{DiskView, Exposes, Images, Passes}
use Rattle.def_bytes.specs.Chained.{Chained, manifest_at}
use Rattle.def_bytes.specs.SuperBlock.{Super, newest_in}
use Rattle.strat_io.specs.Streams.{Appends}
use Rattle.strat_model.specs.Faults.{fault_told}
use Rattle.strat_model.specs.declared.ended.Ended.{Ended}
use Rattle.strat_model.specs.declared.ended.Ended.TheVariants as ended
use Rattle.strat_model.specs.Stream.{frame, Whole, Rest, Long, ending_of, is_partial}
use Rattle.strat_model.specs.Run.{Position, Response, Exchange, Transcript, bodies_of}
use Rattle.strat_promote.specs.Job.{blocks_listed}
use Rattle.def_recovery.specs.Head.{descriptors}
use Rattle.def_recovery.specs.Opening.{recover}
use Rattle.def_publish.specs.Standing.{ShowsTable}
use Rattle.strat_publish.specs.Outcomes.{IsDamagedIn}
use Rattle.strat_open.specs.Following.{IsOpenedAs, IsUnchanged, LeavesOpening}
use Rattle.strat_memory.specs.Held.{Held, IsConsistent, IsOnDisk, arrays_held, head_held}
use Rattle.strat_loop.specs.World.{World}

-- these bytes were taken from the front of a source
pub record Took (before now : Option (List ℕ)) (bytes : List ℕ) : Type 0 where
  pub exposed : (left : List ℕ) → before ≡ Some left
      → (rest : List ℕ) × (left ≡ bytes ++ rest) × (now ≡ Some rest)
  pub hidden : before ≡ None → now ≡ None

-- a source has nothing left, as far as it tells
abbrev pub IsAtEnd : Option (List ℕ) → Type 0
IsAtEnd now = (left : List ℕ) → now ≡ Some left → left ≡ []

-- a sink took a prefix of what it was given, and not all of it
pub record SendsPrefix (before now : Option (List ℕ)) (all : List ℕ) : Type 0 where
  pub sent : List ℕ
  pub later : List ℕ
  pub parts : all ≡ sent ++ later
  pub some : 0 < length later
  pub appends : Appends before now sent

-- over a command a count of faults rises where it met a fault of the device, and stays elsewhere
pub record FailsAsMet (before now : ℕ) (met : Option Fault) : Type 0 where
  pub rose : met ≡ Some fault.Device → Rose before now
  pub same : met ≢ Some fault.Device → now ≡ before

-- an array was in a manifest on the disk at some moment since a run began: a crash at that moment
-- might have left an image whose newest superblock leads to a manifest that names it
pub record WasPublished (before now : DiskView) (a : ArrayDesc) : Type 0 where
  pub moment : ℕ
  pub since : before.moment ≤ moment
  pub till : moment ≤ now.moment
  pub image : Image
  pub was : now.images_at moment image
  pub slot : ℕ
  pub sb : Super
  pub newest : newest_in image ≡ Ok (Some (slot, sb))
  pub chained : Chained
  pub chain : manifest_at sb.format image sb.manifest sb.length ≡ Ok chained
  pub named : Contains (descriptors chained.manifest) a

-- recovery of each image finds what a store holds: superblock, manifest and journal
abbrev pub IsFoundAs : DiskView → Held → Type 0
IsFoundAs now store = (c : Image) → Images now c → recover c ≡ Ok (Some (head_held store))

-- a block is one of the arrays of a store whose superblock and manifest are those on the disk now, or
-- of those that it keeps for cursors, each of which was on the disk in this run; it is bad in the
-- content that the disk had, where that was exposed; and what it exposes now is the same in all blocks
-- of these arrays
pub record IsFoundDamaged (before now : DiskView) (block : ℕ) : Type 0 where
  pub store : Held
  pub lawful : IsConsistent store
  pub on_disk : (f : Image) → Exposes before f → IsOnDisk now store
  pub named : (f : Image) → Exposes before f → (a : ArrayDesc)
      → Contains (arrays_held store.memory store.levels) a → WasPublished before now a
  pub content : Option Image
  pub exposed : (f : Image) → Exposes before f → IsSome content
  pub listed : Contains (blocks_listed (arrays_held store.memory store.levels)) block
  pub bad : (f : Image) → Exposes before f → IsDamagedIn content store.memory store.levels block
  pub kept : (f g : Image) → content ≡ Some f → Exposes now g
      → AgreeOn (blocks_listed (arrays_held store.memory store.levels)) f g

-- a run begins where this image leads: at the table that it shows, with as many changes as its
-- journal has, of which a region takes so many
pub record Begins (f : Image) (mem : ℕ) (start : Position) : Type 0 where
  pub shows : ShowsTable f start.table
  pub fill : start.fill ≡ length shows.state.journal
  pub mem_is : mem ≡ shows.state.mem

-- the bytes that a serving run took, the bodies and the rest in them, the answers to the first of
-- the bodies, and the answer to the next one where that tells of a fault
pub record Session : Type 0 where
  pub taken : List ℕ
  pub bodies : List (List ℕ)
  pub rest : List ℕ
  pub answers : List Response
  pub broken : Option Response

-- when the last piece of these bytes was read, of at most 4,096 bytes, the frames of so many of the first
-- bodies stood in front of it, and behind them less than a frame: so no frame waited but these, of which
-- there are n at most
pub record WaitsForNone (taken : List ℕ) (bodies : List (List ℕ)) (n : ℕ) : Type 0 where
  pub read : ℕ
  pub few : read ≤ n
  pub held : List ℕ
  pub part : is_partial held ≡ true
  pub piece : List ℕ
  pub short : length piece ≤ 4096
  pub parts : taken ≡ flat_map frame (take read bodies) ++ (held ++ piece)

-- every body was answered, and none of them met a fault
pub record AnswersAll (s : Session) : Type 0 where
  pub all : length s.answers ≡ length s.bodies
  pub unbroken : s.broken ≡ None

-- there is a response, and it tells of this fault
abbrev pub EndsWithFault : Option Response → Fault → Type 0
EndsWithFault None f = ⊥
EndsWithFault (Some response) f = fault_told response.answer.reply ≡ Some f

-- what the bytes taken say where a run ends so
abbrev pub EndsFor : Ended → ℕ → Session → Option (List ℕ) → Type 0
EndsFor ended.Done budget s left =
    AnswersAll s × (ending_of s.rest ≡ Whole) × IsAtEnd left × (length s.taken < budget)
EndsFor ended.Truncated budget s left =
    AnswersAll s × (ending_of s.rest ≡ Rest) × IsAtEnd left × (length s.taken < budget)
EndsFor ended.FrameTooLong budget s left = AnswersAll s × (ending_of s.rest ≡ Long)
EndsFor ended.Budget budget s left =
    AnswersAll s × (ending_of s.rest ≢ Long) × (length s.taken ≡ budget)
EndsFor ended.Source budget s left = AnswersAll s × (ending_of s.rest ≢ Long)
EndsFor ended.Sink budget s left = Unit {0}
EndsFor ended.Device budget s left = EndsWithFault s.broken fault.Device
EndsFor (ended.Damaged block) budget s left = EndsWithFault s.broken (fault.Damaged block)
EndsFor _ budget s left = ⊥

-- the bodies of a run, and behind them those over which it is continued, are the first of these
abbrev pub AreNextIn : List (List ℕ) → Transcript → List Exchange → Type 0
AreNextIn bodies run more =
    take (length (bodies_of run) + length more) bodies ≡ bodies_of run ++ map (λ x. x.body) more

-- a store was opened, on a disk that did not fail
pub record HasOpened (before : DiskView) (before_faults : ℕ) (now : DiskView) (now_faults : ℕ)
    (s : Held) : Type 0 where
  pub opened : IsOpenedAs before now s
  pub passes : Passes before now
  pub calm : now_faults ≡ before_faults

-- how a run may end whose opening gave up
abbrev pub IsGivenUp : Ended → Type 0
IsGivenUp ended.NotAStore = Unit {0}
IsGivenUp ended.Device = Unit {0}
IsGivenUp (ended.Damaged block) = Unit {0}
IsGivenUp ended.NoMemory = Unit {0}
IsGivenUp _ = ⊥

-- a disk exposes a content in which recovery finds a damaged block
pub record ExposesDamage (v : DiskView) : Type 0 where
  pub content : Image
  pub exposed : Exposes v content
  pub block : ℕ
  pub damaged : recover content ≡ Err block

-- a run that ended so on this disk gave up before its first read
abbrev pub IsEarlyEnd : Ended → DiskView → Type 0
IsEarlyEnd ended.NotAStore before = Unit {0}
IsEarlyEnd ended.NoMemory before = Unit {0}
IsEarlyEnd (ended.Damaged block) before = ExposesDamage before
IsEarlyEnd _ before = ⊥

-- a serving run gave up before its first read
pub record GaveUp (how : Ended) (before now : World) : Type 0 where
  pub ends : IsGivenUp how
  -- nothing was read or sent
  pub source : now.left ≡ before.left
  pub sink : now.held ≡ before.held
  -- where the disk did not fail it is left as it was, and where it failed the opening did
  pub kept : how ≢ ended.Device → IsUnchanged before.disk now.disk
  pub failed : how ≡ ended.Device → (f : Image) → Exposes before.disk f
      → LeavesOpening before.disk now.disk f
  -- a block is called damaged where recovery finds it so
  pub damaged : (block : ℕ) → how ≡ ended.Damaged block → (f : Image) → Exposes before.disk f
      → recover f ≡ Err block

-- what the disk's bytes say where a run ends so for them: no slot of a store, or this block is
-- damaged, as an opening or a command found it
pub record RefusesFor (how : Ended) (before now : DiskView) : Type 0 where
  pub none : how ≡ ended.NotAStore → (f : Image) → Exposes before f → newest_in f ≡ Ok None
  pub damaged : (block : ℕ) → how ≡ ended.Damaged block → (f : Image) → Exposes before f
      → (recover f ≡ Err block) ⊎ IsFoundDamaged before now block

-- when a count of faults may have risen: that of the source, the sink or the disk where the end
-- names it, and no other; where the end is that of the sink, the disk may have failed too
pub record EndHasCause (how : Ended) (before now : World) : Type 0 where
  pub source : how ≡ ended.Source → Rose before.source_faults now.source_faults
  pub sink : how ≡ ended.Sink → Rose before.sink_faults now.sink_faults
  pub device : how ≡ ended.Device → Rose before.disk_faults now.disk_faults
  pub source_same : how ≢ ended.Source → now.source_faults ≡ before.source_faults
  pub sink_same : how ≢ ended.Sink → now.sink_faults ≡ before.sink_faults
  pub disk_same : how ≢ ended.Device → how ≢ ended.Sink → now.disk_faults ≡ before.disk_faults
