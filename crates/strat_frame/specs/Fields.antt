-- Reading the fields of a body from left to right.
use Rattle.std.specs.Prelude.{ℕ, zero, suc, ◌==◌, nat_le, if◌then◌else◌, Bool, true, false, List, [], ◌∷◌, length, take, drop, Option, Some, None}
use Rattle.std.specs.Option.{option_and_then, option_map}
use Rattle.strat_base.specs.Numbers.{number}
use Rattle.strat_model.specs.Request.{Request, Put, Delete, Get, Clone, Scan, Info, OpenCursor, NextPairs, CloseCursor, Stat, DropVersion}
use Rattle.strat_base.specs.Sizes.{is_value}
use Rattle.strat_base.specs.declared.limits.TheConstants.{PAIRS_MAX}
use Rattle.strat_model.specs.declared.replies.Reply.{Reply}
use Rattle.strat_model.specs.declared.replies.Reply.TheVariants as reply
use Rattle.strat_model.specs.declared.replies.Refusal.{Refusal}
use Rattle.strat_model.specs.declared.replies.Refusal.TheVariants as why
use Rattle.strat_model.specs.Pairs.{Pair, Pairs}
use Rattle.strat_model.specs.Spelling.{is_pair}
use Rattle.strat_model.specs.Answer.{Answer, plain, as_told}

-- how a field is read: its value, and what follows it, where the bytes begin with one
abbrev pub Reader : Type 0 → Type 0
Reader A = List ℕ → Option (A × List ℕ)

-- a number of k bytes
abbrev pub number_then : ℕ → Reader ℕ
number_then k bytes = if nat_le k (length bytes) then Some (number k bytes, drop k bytes) else None

-- as many bytes as a length in front of them says
unfoldable pub counted_then : Reader (List ℕ)
counted_then bytes = option_and_then
    (λ n. if nat_le n.0 (length n.1) then Some (take n.0 n.1, drop n.0 n.1) else None)
    (number_then 2 bytes)

-- two fields, one after the other
unfoldable pub both : {A B : Type 0} → Reader A → Reader B → Reader (A × B)
both first second bytes =
    option_and_then (λ a.
    option_and_then (λ b. Some ((a.0, b.0), b.1)) (second a.1)) (first bytes)

-- fields behind which nothing follows
unfoldable pub all_of : {A : Type 0} → Reader A → List ℕ → Option A
all_of read bytes =
    option_and_then (λ x. if length x.1 == 0 then Some x.0 else None) (read bytes)

-- a number in four bytes and no others
unfoldable pub sole_number : List ℕ → Option ℕ
sole_number = all_of (number_then 4)

-- a number in eight bytes and no others
unfoldable pub sole_long : List ℕ → Option ℕ
sole_long = all_of (number_then 8)

-- a cursor and a limit
unfoldable pub cursor_limit_in : List ℕ → Option (ℕ × ℕ)
cursor_limit_in = all_of (both (number_then 8) (number_then 2))

-- a version and a key
unfoldable pub version_key_in : List ℕ → Option (ℕ × List ℕ)
version_key_in = all_of (both (number_then 4) counted_then)

-- a version and two fields of bytes
unfoldable pub version_pair_in : List ℕ → Option ((ℕ × List ℕ) × List ℕ)
version_pair_in = all_of (both (both (number_then 4) counted_then) counted_then)

-- a version, two bounds and a limit
unfoldable pub version_range_in : List ℕ → Option (((ℕ × List ℕ) × List ℕ) × ℕ)
version_range_in =
    all_of (both (both (both (number_then 4) counted_then) counted_then) (number_then 2))

-- the command of an opcode and its fields
unfoldable pub request_in : ℕ → List ℕ → Option Request
request_in opcode fields =
    if opcode == 1 then option_map (λ x. Put x.0.0 x.0.1 x.1) (version_pair_in fields) else
    if opcode == 2 then option_map (λ x. Delete x.0 x.1) (version_key_in fields) else
    if opcode == 3 then option_map (λ x. Get x.0 x.1) (version_key_in fields) else
    if opcode == 4 then option_map Clone (sole_number fields) else
    if opcode == 5 then
    option_map (λ x. Scan x.0.0.0 x.0.0.1 x.0.1 x.1) (version_range_in fields) else
    if opcode == 6 then option_map Info (sole_number fields) else
    if opcode == 7 then option_map (λ x. OpenCursor x.0.0 x.0.1 x.1) (version_pair_in fields) else
    if opcode == 8 then option_map (λ x. NextPairs x.0 x.1) (cursor_limit_in fields) else
    if opcode == 9 then option_map CloseCursor (sole_long fields) else
    if opcode == 10 then (if length fields == 0 then Some Stat else None) else
    if opcode == 11 then option_map DropVersion (sole_number fields) else None

-- a tag and a command, all of the bytes
unfoldable pub command_in : List ℕ → Option (ℕ × Request)
command_in body =
    option_and_then (λ tag.
    option_and_then (λ opcode.
    option_and_then (λ request. Some (tag.0, request))
    (request_in opcode.0 opcode.1)) (number_then 1 tag.1)) (number_then 4 body)

-- a refusal without fields, by its status byte
unfoldable pub refusal_in : ℕ → Option Refusal
refusal_in status =
    if status == 16 then Some why.UnknownVersion else
    if status == 17 then Some why.Frozen else
    if status == 18 then Some why.UnknownCursor else
    if status == 19 then Some why.VersionLimit else
    if status == 20 then Some why.ChangeLimit else
    if status == 21 then Some why.CursorLimit else
    if status == 22 then Some why.Malformed else
    if status == 23 then Some why.KeySize else
    if status == 24 then Some why.ValueSize else
    if status == 25 then Some why.ScanSize else
    if status == 26 then Some why.FrameTooLong else
    if status == 27 then Some why.Root else
    if status == 32 then Some why.NoMemory else
    if status == 33 then Some why.DeviceFault else None

-- a reply without fields, by its status byte
unfoldable pub simple_reply : ℕ → Option Reply
simple_reply status =
    if status == 0 then Some reply.Done else
    if status == 2 then Some reply.Absent else option_map reply.Refused (refusal_in status)

-- a parent by its number, or none where it is the greatest
abbrev pub parent_for : ℕ → Option ℕ
parent_for n = if n == 4294967295 then None else Some n

-- a parent, if there is one
unfoldable pub parent_then : Reader (Option ℕ)
parent_then bytes = option_map (λ n. (parent_for n.0, n.1)) (number_then 4 bytes)

-- a yes or no in one byte
unfoldable pub flag_then : Reader Bool
flag_then bytes = option_and_then
    (λ n. if n.0 == 0 then Some (false, n.1) else if n.0 == 1 then Some (true, n.1) else None)
    (number_then 1 bytes)

-- a version's place in the tree
unfoldable pub info_in : List ℕ → Option ((Option ℕ × ℕ) × Bool)
info_in = all_of (both (both parent_then (number_then 4)) flag_then)

-- the numbers of a store
unfoldable pub stat_in : List ℕ → Option (((ℕ × ℕ) × ℕ) × ℕ)
stat_in = all_of
    (both (both (both (number_then 4) (number_then 4)) (number_then 4)) (number_then 4))

-- a reply without pairs, by its status byte and fields
unfoldable pub plain_reply_in : ℕ → List ℕ → Option Reply
plain_reply_in status fields =
    if status == 4 then option_map (λ n. reply.Made n) (sole_number fields) else
    if status == 5 then option_map (λ x. reply.Info x.0.0 x.0.1 x.1) (info_in fields) else
    if status == 6 then option_map (λ n. reply.Opened n) (sole_long fields) else
    if status == 7 then
    option_map (λ x. reply.Stat x.0.0.0 x.0.0.1 x.0.1 x.1) (stat_in fields) else
    if status == 34 then
    option_map (λ n. reply.Refused (why.Damaged n)) (sole_number fields) else
    if length fields == 0 then simple_reply status else None

-- the value of a reply to a look-up, all of the fields
unfoldable pub reply_value_in : List ℕ → Option (List ℕ)
reply_value_in fields = option_and_then
    (λ value. if is_value value then Some value else None) (all_of counted_then fields)

-- a pair of a page
unfoldable pub pair_then : Reader Pair
pair_then bytes = option_and_then
    (λ x. if is_pair x.0 then Some x else None) (both counted_then counted_then bytes)

-- so many pairs, one after the other
unfoldable pub pairs_then : ℕ → Reader Pairs
pairs_then zero bytes = Some ([], bytes)
pairs_then (suc n) bytes =
    option_and_then (λ x.
    option_and_then (λ xs. Some (x.0 ∷ xs.0, xs.1)) (pairs_then n x.1)) (pair_then bytes)

-- a number of pairs, no greater than it may be, and so many pairs
unfoldable pub listed_then : Reader Pairs
listed_then bytes = option_and_then
    (λ n. if nat_le n.0 PAIRS_MAX then pairs_then n.0 n.1 else None) (number_then 2 bytes)

-- a page: whether others follow, and its pairs
unfoldable pub page_in : List ℕ → Option (Bool × Pairs)
page_in = all_of (both flag_then listed_then)

-- a reply with its pairs, by its status byte and fields
unfoldable pub answer_in : ℕ → List ℕ → Option Answer
answer_in status fields =
    if status == 1 then
    option_map (λ value. as_told reply.Found ((63 ∷ [], value) ∷ [])) (reply_value_in fields) else
    if status == 3 then option_map (λ x. as_told (reply.Pairs x.0) x.1) (page_in fields) else
    option_map plain (plain_reply_in status fields)

-- a tag and a reply, all of the bytes
unfoldable pub reply_in : List ℕ → Option (ℕ × Answer)
reply_in body =
    option_and_then (λ tag.
    option_and_then (λ status.
    option_and_then (λ a. Some (tag.0, a))
    (answer_in status.0 status.1)) (number_then 1 tag.1)) (number_then 4 body)
