-- What a store says of a range, and of any look-up.
use Rattle.std.specs.Prelude.{◌≡◌, ◌≢◌, ◌⊎◌, ℕ, Bool, true, false, if◌then◌else◌, List, [], length, Contains, Option, None, Result, Ok, Err}
use Rattle.strat_base.specs.declared.limits.TheConstants.{CURSORS_MAX}
use Rattle.strat_base.specs.Entries.{Entry}
use Rattle.strat_base.specs.Tree.{Parents}
use Rattle.strat_base.specs.declared.descriptors.ArrayDesc.{ArrayDesc}
use Rattle.strat_base.specs.declared.descriptors.LevelDesc.{LevelDesc}
use Rattle.strat_base.specs.declared.failures.Fault.{Fault}
use Rattle.def_crash.specs.Image.{Image}
use Rattle.strat_cursor.specs.Cursors.{MayGoOn, arrays_of_number, is_opened, pairs_left}
use Rattle.strat_cursor.specs.Held.{HeldCursor, HeldCursors, IsMapHeld}
use Rattle.strat_cursor.specs.Looking.{AreCachedAs, AreInOrder, ReadsArrays, arrays_asked, levels_there}
use Rattle.strat_cursor.specs.Ranges.{FillsPage}
use Rattle.strat_model.specs.Answer.{Answer, plain, refusal}
use Rattle.strat_model.specs.Faults.{refusal_by}
use Rattle.strat_model.specs.Kept.{IsMap}
use Rattle.strat_model.specs.Pairs.{Pairs, value_of, range}
use Rattle.strat_model.specs.Request.{Request, Get, Scan, Info, OpenCursor, NextPairs, CloseCursor, Stat}
use Rattle.strat_model.specs.Step.{found, page}
use Rattle.strat_model.specs.declared.replies.Refusal.TheVariants as why
use Rattle.strat_model.specs.declared.replies.Reply.{Reply}
use Rattle.strat_model.specs.declared.replies.Reply.TheVariants as reply
use Rattle.def_recovery.specs.Asked.{asked}
use Rattle.strat_store.specs.Applying.{change_wanted}
use Rattle.strat_store.specs.Filtering.{arrays_unrefused, asked_filtered}
use Rattle.strat_store.specs.Getting.{MayTellOfKey}
use Rattle.strat_memory.specs.Held.{Held}
use Rattle.strat_memory.specs.Memory.{Memory, info_told, lists_in_memory, stat_told, has_version}

-- what is told of a range after a scan, or after the fault that ended it
abbrev pub reply_of_scan : Result Bool Fault → Reply
reply_of_scan (Ok more) = reply.Pairs more
reply_of_scan (Err fault) = reply.Refused (refusal_by fault)

-- these pairs are the map of a version, as look-ups find it in these lists of level 0, the newest first, and in an image
pub record IsMapAsked (f : Image) (parents : Parents) (zeros : List (List Entry))
    (levels : List (Option LevelDesc)) (v : ℕ) (m : Pairs) : Type 0 where
  pub ordered : IsMap m
  pub each : (key : List ℕ)
      → value_of m key ≡ asked f parents zeros (levels_there levels) v key

-- what may be told of a range of a version that is there
abbrev pub MayTellOfRange : Reply → Type 0
MayTellOfRange told =
    ((more : Bool) × (told ≡ reply.Pairs more)) ⊎ (told ≡ reply.Refused why.DeviceFault)
    ⊎ ((block : ℕ) × (told ≡ reply.Refused (why.Damaged block)))

-- how many pairs a page may have that a command asks for, and 0 where it asks for none
abbrev pub page_limit : Request → ℕ
page_limit (Scan version lo hi limit) = limit
page_limit (NextPairs number limit) = limit
page_limit _ = 0

-- beside a reply stand the one pair of a key that was found, those of a page, at most so many and just as many where others
-- are said to follow, or else none
abbrev pub HasPairs : ℕ → Reply → Pairs → Type 0
HasPairs limit reply.Found pairs = length pairs ≡ 1
HasPairs limit (reply.Pairs more) pairs = FillsPage limit (length pairs) more
HasPairs limit _ pairs = pairs ≡ []

-- an answer to a command has such pairs
abbrev pub HasPairsFor : Request → Answer → Type 0
HasPairsFor request answer = HasPairs (page_limit request) answer.reply answer.pairs

-- what is told of a version that is there is this, and of any other that there is none
abbrev pub TellsOfVersion : Memory → ℕ → Answer → Type 0 → Type 0
TellsOfVersion m version answer Told =
    (has_version m version ≡ false → answer ≡ refusal why.UnknownVersion)
    × (has_version m version ≡ true → Told)

-- a cursor was opened with the next number, or memory ran out, and 64 cursors are the most
abbrev pub TellsOfOpening : HeldCursors → Answer → Type 0
TellsOfOpening c answer =
    (length c.opened ≡ CURSORS_MAX → answer ≡ refusal why.CursorLimit)
    × (length c.opened ≢ CURSORS_MAX
    → (answer ≡ plain (reply.Opened c.next)) ⊎ (answer ≡ refusal why.NoMemory))

-- a page of an open cursor was told: its next pairs, as its lists and its arrays in an image have them
abbrev pub TellsOfCursor : Image → Held → ℕ → ℕ → Answer → Type 0
TellsOfCursor f s number limit answer =
    (is_opened number s.memory.cursors.opened ≡ false → answer ≡ refusal why.UnknownCursor)
    × (is_opened number s.memory.cursors.opened ≡ true
    → (more : Bool) × (answer.reply ≡ reply.Pairs more))
    × ((c : HeldCursor) (pairs : Pairs) → Contains s.memory.cursors.opened c → c.number ≡ number
    → MayGoOn f s.chained.manifest.next_array c s.cached
    → IsMapHeld f s.memory.parents c pairs → answer ≡ page (pairs_left pairs c) limit)

-- in an image the arrays that are asked at a version have entries in order, and their cached blocks are as they stand there;
-- of each level one is asked at most
pub record AreReadAs (f : Image) (s : Held) (v : ℕ) : Type 0 where
  pub ordered : AreInOrder f (arrays_asked s.memory.parents s.levels v)
  pub cached : AreCachedAs f (arrays_asked s.memory.parents s.levels v) s.cached

-- the arrays that are asked at a version, and none where it is not there
abbrev pub arrays_of_version : Held → ℕ → List ArrayDesc
arrays_of_version s version =
    if has_version s.memory version then arrays_asked s.memory.parents s.levels version else []

-- those of them whose filter does not refuse a key
abbrev pub arrays_of_key : Held → ℕ → List ℕ → List ArrayDesc
arrays_of_key s version key =
    if has_version s.memory version
    then arrays_unrefused s.filters s.memory.parents s.levels version key else []

-- the arrays that a look-up may read: those of its version, for a get without those that refuse its key, or those of its
-- cursor. No other command reads any
abbrev pub arrays_wanted : Held → Request → List ArrayDesc
arrays_wanted s (Get version key) = arrays_of_key s version key
arrays_wanted s (Scan version lo hi limit) = arrays_of_version s version
arrays_wanted s (NextPairs number limit) = arrays_of_number number s.memory.cursors.opened
arrays_wanted s _ = []

-- a command that asks for no change reads no more of its arrays than a search in each and each block once more
abbrev pub ReadsForLook : Held → Request → ℕ → ℕ → Type 0
ReadsForLook s request before now =
    change_wanted request ≡ None → ReadsArrays (arrays_wanted s request) before now

-- a command that asks for no change was answered as what is in memory says, and the arrays of its version or of its cursor where
-- they are read as an image has them, whatever is bad in others; of a key that its filter refuses an array has no entry for a get
abbrev pub TellsFrom : Image → Held → Request → Answer → Type 0
TellsFrom f s (Get version key) answer = TellsOfVersion s.memory version answer
    (MayTellOfKey answer.reply × (AreReadAs f s version
    → answer ≡ found key (asked_filtered f s.filters s.memory.parents (lists_in_memory s.memory)
    (levels_there s.levels) version key)))
TellsFrom f s (Scan version lo hi limit) answer = TellsOfVersion s.memory version answer
    (MayTellOfRange answer.reply × (AreReadAs f s version → (pairs : Pairs)
    → IsMapAsked f s.memory.parents (lists_in_memory s.memory) s.levels version pairs
    → answer ≡ page (range pairs lo hi) limit))
TellsFrom f s (Info version) answer =
    TellsOfVersion s.memory version answer (answer ≡ plain (info_told s.memory version))
TellsFrom f s (OpenCursor version lo hi) answer =
    TellsOfVersion s.memory version answer (TellsOfOpening s.memory.cursors answer)
TellsFrom f s (NextPairs number limit) answer = TellsOfCursor f s number limit answer
TellsFrom f s (CloseCursor number) answer = answer
    ≡ (if is_opened number s.memory.cursors.opened then plain reply.Done
    else refusal why.UnknownCursor)
TellsFrom f s Stat answer = answer ≡ plain (stat_told s.memory)
TellsFrom f s _ answer = Unit {0}
