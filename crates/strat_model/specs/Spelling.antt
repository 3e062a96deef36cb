-- The bytes of commands and replies. A body begins with the tag by which a client knows its reply.
use Rattle.std.specs.Prelude.{◌≡◌, ◌<◌, ◌≤◌, ℕ, ◌^◌, ◌&&◌, Bool, true, not, nat_le, if◌then◌else◌, List, [], ◌∷◌, ◌++◌, length, Option, Some, None}
use Rattle.std.specs.List.{flat_map, AllByRecursion}
use Rattle.strat_base.specs.Numbers.{be, number}
use Rattle.strat_base.specs.Sizes.{is_key, is_value}
use Rattle.strat_base.specs.declared.limits.TheConstants.{KEY_MAX, PAIRS_MAX}
use Rattle.strat_model.specs.declared.replies.Reply.{Reply}
use Rattle.strat_model.specs.declared.replies.Reply.TheVariants as reply
use Rattle.strat_model.specs.declared.replies.Refusal.{Refusal}
use Rattle.strat_model.specs.declared.replies.Refusal.TheVariants as why
use Rattle.strat_model.specs.Pairs.{Pairs}
use Rattle.strat_model.specs.Request.{Request, Put, Delete, Get, Clone, Scan, Info, OpenCursor, NextPairs, CloseCursor, Stat, DropVersion}
use Rattle.strat_model.specs.Answer.{Answer}

-- a length in two bytes, and so many bytes
abbrev pub counted : List ℕ → List ℕ
counted bytes = be 2 (length bytes) ++ bytes

-- the byte by which a command is known, and its fields
abbrev pub command_bytes : Request → List ℕ
command_bytes (Put version key value) = 1 ∷ be 4 version ++ counted key ++ counted value
command_bytes (Delete version key) = 2 ∷ be 4 version ++ counted key
command_bytes (Get version key) = 3 ∷ be 4 version ++ counted key
command_bytes (Clone version) = 4 ∷ be 4 version
command_bytes (Scan version lo hi limit) =
    5 ∷ be 4 version ++ counted lo ++ counted hi ++ be 2 limit
command_bytes (Info version) = 6 ∷ be 4 version
command_bytes (OpenCursor version lo hi) = 7 ∷ be 4 version ++ counted lo ++ counted hi
command_bytes (NextPairs cursor limit) = 8 ∷ be 8 cursor ++ be 2 limit
command_bytes (CloseCursor cursor) = 9 ∷ be 8 cursor
command_bytes Stat = 10 ∷ []
command_bytes (DropVersion version) = 11 ∷ be 4 version

-- the body of a command
abbrev pub command_body : ℕ → Request → List ℕ
command_body tag request = be 4 tag ++ command_bytes request

-- a bound of a range has a size as it may be
abbrev pub is_bound : List ℕ → Bool
is_bound bound = nat_le (length bound) KEY_MAX

-- as many pairs may be asked for
abbrev pub is_limit : ℕ → Bool
is_limit limit = nat_le 1 limit && nat_le limit PAIRS_MAX

-- the sizes of a command are as they may be
abbrev pub has_lawful_sizes : Request → Bool
has_lawful_sizes (Put version key value) = is_key key && is_value value
has_lawful_sizes (Delete version key) = is_key key
has_lawful_sizes (Get version key) = is_key key
has_lawful_sizes (Clone version) = true
has_lawful_sizes (DropVersion version) = true
has_lawful_sizes (Scan version lo hi limit) = is_bound lo && (is_bound hi && is_limit limit)
has_lawful_sizes (Info version) = true
has_lawful_sizes (OpenCursor version lo hi) = is_bound lo && is_bound hi
has_lawful_sizes (NextPairs cursor limit) = is_limit limit
has_lawful_sizes (CloseCursor cursor) = true
has_lawful_sizes Stat = true

-- the keys and bounds of a command have sizes as they may be
abbrev pub has_lawful_keys : Request → Bool
has_lawful_keys (Put version key value) = is_key key
has_lawful_keys (Delete version key) = is_key key
has_lawful_keys (Get version key) = is_key key
has_lawful_keys (Scan version lo hi limit) = is_bound lo && is_bound hi
has_lawful_keys (OpenCursor version lo hi) = is_bound lo && is_bound hi
has_lawful_keys _ = true

-- so has its value
abbrev pub has_lawful_value : Request → Bool
has_lawful_value (Put version key value) = is_value value
has_lawful_value _ = true

-- and as many pairs may be asked for as it asks for
abbrev pub has_lawful_limit : Request → Bool
has_lawful_limit (Scan version lo hi limit) = is_limit limit
has_lawful_limit (NextPairs cursor limit) = is_limit limit
has_lawful_limit _ = true

-- why a command is refused for its sizes, if it is: first for a key or a bound, then for a value, then
-- for a limit
abbrev pub size_refusal : Request → Option Refusal
size_refusal request =
    if not (has_lawful_keys request) then Some why.KeySize else
    if not (has_lawful_value request) then Some why.ValueSize else
    if not (has_lawful_limit request) then Some why.ScanSize else None

-- the length of these bytes fits its field
abbrev pub FitsCount : List ℕ → Type 0
FitsCount bytes = length bytes < 2 ^ 16

-- the numbers of a command and the lengths of its bytes fit their fields
abbrev pub FitsFields : Request → Type 0
FitsFields (Put version key value) = (version < 2 ^ 32) × FitsCount key × FitsCount value
FitsFields (Delete version key) = (version < 2 ^ 32) × FitsCount key
FitsFields (Get version key) = (version < 2 ^ 32) × FitsCount key
FitsFields (Clone version) = version < 2 ^ 32
FitsFields (DropVersion version) = version < 2 ^ 32
FitsFields (Scan version lo hi limit) =
    (version < 2 ^ 32) × FitsCount lo × FitsCount hi × (limit < 2 ^ 16)
FitsFields (Info version) = version < 2 ^ 32
FitsFields (OpenCursor version lo hi) = (version < 2 ^ 32) × FitsCount lo × FitsCount hi
FitsFields (NextPairs cursor limit) = (cursor < 2 ^ 64) × (limit < 2 ^ 16)
FitsFields (CloseCursor cursor) = cursor < 2 ^ 64
FitsFields Stat = Unit {0}

-- a body has the form of a command: a tag, its opcode and just its fields, whatever the sizes of these
pub record HasForm (body : List ℕ) (tag : ℕ) (request : Request) : Type 0 where
  pub text : body ≡ command_body tag request
  pub tag_fits : tag < 2 ^ 32
  pub fits : FitsFields request

-- a body is a command: it has its form, and no size of it is refused
pub record Spells (body : List ℕ) (tag : ℕ) (request : Request) : Type 0 where
  pub form : HasForm body tag request
  pub sizes : size_refusal request ≡ None

-- the tag of a body: its first four bytes, or 0 where it has fewer
abbrev pub tag_of : List ℕ → ℕ
tag_of body = if nat_le 4 (length body) then number 4 body else 0

-- a body has the form of no command, and this is the tag of its reply
pub record IsMalformed (body : List ℕ) (tag : ℕ) : Type 0 where
  pub tag_is : tag ≡ tag_of body
  pub none : (other : ℕ) (request : Request) → HasForm body other request → ⊥

-- a body has the form of a command under this tag, with a size that is refused so
pub record HasUnlawfulSize (body : List ℕ) (tag : ℕ) (refused : Refusal) : Type 0 where
  pub request : Request
  pub form : HasForm body tag request
  pub size : size_refusal request ≡ Some refused

-- a body that is no command is refused so, under this tag
abbrev pub IsRefusedAs : List ℕ → ℕ → Refusal → Type 0
IsRefusedAs body tag why.Malformed = IsMalformed body tag
IsRefusedAs body tag why.KeySize = HasUnlawfulSize body tag why.KeySize
IsRefusedAs body tag why.ValueSize = HasUnlawfulSize body tag why.ValueSize
IsRefusedAs body tag why.ScanSize = HasUnlawfulSize body tag why.ScanSize
IsRefusedAs body tag _ = ⊥

-- the byte by which a reply is known
abbrev pub status_byte : Reply → ℕ
status_byte reply.Done = 0
status_byte reply.Found = 1
status_byte reply.Absent = 2
status_byte (reply.Pairs more) = 3
status_byte (reply.Made version) = 4
status_byte (reply.Info parent depth frozen) = 5
status_byte (reply.Opened cursor) = 6
status_byte (reply.Stat versions updates changes cursors) = 7
status_byte (reply.Refused why.UnknownVersion) = 16
status_byte (reply.Refused why.Frozen) = 17
status_byte (reply.Refused why.UnknownCursor) = 18
status_byte (reply.Refused why.VersionLimit) = 19
status_byte (reply.Refused why.ChangeLimit) = 20
status_byte (reply.Refused why.CursorLimit) = 21
status_byte (reply.Refused why.Malformed) = 22
status_byte (reply.Refused why.KeySize) = 23
status_byte (reply.Refused why.ValueSize) = 24
status_byte (reply.Refused why.ScanSize) = 25
status_byte (reply.Refused why.FrameTooLong) = 26
status_byte (reply.Refused why.Root) = 27
status_byte (reply.Refused why.NoMemory) = 32
status_byte (reply.Refused why.DeviceFault) = 33
status_byte (reply.Refused (why.Damaged block)) = 34

-- a yes or no in one byte
abbrev pub flag : Bool → ℕ
flag b = if b then 1 else 0

-- the value of the pair that was found
abbrev pub found_bytes : Pairs → List ℕ
found_bytes [] = []
found_bytes (pair ∷ pairs) = counted pair.1

-- pairs one after the other
abbrev pub pair_bytes : Pairs → List ℕ
pair_bytes pairs = flat_map (λ pair. counted pair.0 ++ counted pair.1) pairs

-- a parent's number, or the greatest number where there is none
abbrev pub parent_bytes : Option ℕ → List ℕ
parent_bytes None = be 4 4294967295
parent_bytes (Some parent) = be 4 parent

-- what follows the status byte
abbrev pub reply_fields : Reply → Pairs → List ℕ
reply_fields reply.Found pairs = found_bytes pairs
reply_fields (reply.Pairs more) pairs = flag more ∷ be 2 (length pairs) ++ pair_bytes pairs
reply_fields (reply.Made version) pairs = be 4 version
reply_fields (reply.Info parent depth frozen) pairs =
    parent_bytes parent ++ be 4 depth ++ flag frozen ∷ []
reply_fields (reply.Opened cursor) pairs = be 8 cursor
reply_fields (reply.Stat versions updates changes cursors) pairs =
    be 4 versions ++ be 4 updates ++ be 4 changes ++ be 4 cursors
reply_fields (reply.Refused (why.Damaged block)) pairs = be 4 block
reply_fields _ pairs = []

-- the body of a reply
abbrev pub reply_body : ℕ → Answer → List ℕ
reply_body tag a = be 4 tag ++ status_byte a.reply ∷ reply_fields a.reply a.pairs

-- a parent's number fits its field, in which the greatest number stands for none
abbrev pub FitsParent : Option ℕ → Type 0
FitsParent None = Unit {0}
FitsParent (Some parent) = parent < 4294967295

-- the numbers of a reply fit their fields
abbrev pub FitsReply : Reply → Type 0
FitsReply (reply.Made version) = version < 2 ^ 32
FitsReply (reply.Info parent depth frozen) = FitsParent parent × (depth < 2 ^ 32)
FitsReply (reply.Opened cursor) = cursor < 2 ^ 64
FitsReply (reply.Stat versions updates changes cursors) =
    (versions < 2 ^ 32) × (updates < 2 ^ 32) × (changes < 2 ^ 32) × (cursors < 2 ^ 32)
FitsReply (reply.Refused (why.Damaged block)) = block < 2 ^ 32
FitsReply _ = Unit {0}

-- a pair has a key and a value of sizes as they may be
abbrev pub is_pair : List ℕ × List ℕ → Bool
is_pair pair = is_key pair.0 && is_value pair.1

-- the pairs of a reply as a client reads it: a page's, or the value that was found, with a question mark
-- for the key that was asked for
abbrev pub FitsPairs : Reply → Pairs → Type 0
FitsPairs reply.Found pairs =
    (value : List ℕ) × (pairs ≡ (63 ∷ [], value) ∷ []) × (is_value value ≡ true)
FitsPairs (reply.Pairs more) pairs =
    (length pairs ≤ PAIRS_MAX) × AllByRecursion (λ pair. is_pair pair ≡ true) pairs
FitsPairs _ pairs = pairs ≡ []

-- a body is a reply
pub record SpellsReply (body : List ℕ) (tag : ℕ) (a : Answer) : Type 0 where
  pub text : body ≡ reply_body tag a
  pub tag_fits : tag < 2 ^ 32
  pub fits : FitsReply a.reply
  pub pairs_fit : FitsPairs a.reply a.pairs
