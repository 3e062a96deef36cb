-- What a table answers to a few commands, one after the other.
use Rattle.std.specs.Prelude.{ℕ, Bool, true, false, List, [], ◌∷◌, Some, None, codes}
use Rattle.strat_model.specs.declared.replies.Reply.TheVariants as reply
use Rattle.strat_model.specs.declared.replies.Refusal.TheVariants as why
use Rattle.strat_model.specs.Pairs.{Pair, Pairs}
use Rattle.strat_model.specs.Request.{Request, Put, Delete, Get, Clone, Scan, Info, OpenCursor, NextPairs, CloseCursor, Stat}
use Rattle.strat_model.specs.Table.{Table, fresh}
use Rattle.strat_model.specs.Answer.{Answer, plain, refusal}
use Rattle.strat_model.specs.Step.{step}

-- the answers to commands, one after the other
abbrev pub answers : Table → List Request → List Answer
answers t [] = []
answers t (request ∷ requests) = (step t request).answer ∷ answers (step t request).table requests

-- the change was made
abbrev pub done : Answer
done = plain reply.Done

-- the key has a value
abbrev pub has : Pair → Answer
has pair = record { reply = reply.Found; pairs = pair ∷ [] }

-- these pairs, and whether others follow
abbrev pub exposed : Bool → Pairs → Answer
exposed more pairs = record { reply = reply.Pairs more; pairs = pairs }

-- keys a, b and c with the values 1, 2 and 3
abbrev pub abc : Pairs
abc = (codes "a", codes "1") ∷ (codes "b", codes "2") ∷ (codes "c", codes "3") ∷ []

-- a put at a version, a clone of it, and puts at both
abbrev pub branching : List Request
branching =
    Put 0 (codes "a") (codes "1") ∷ Get 0 (codes "a") ∷ Get 0 (codes "b") ∷ Clone 0
    ∷ Put 0 (codes "b") (codes "1")
    ∷ Put 1 (codes "a") (codes "2") ∷ Get 0 (codes "a") ∷ Get 1 (codes "a") ∷ Get 5 (codes "a") ∷ []

-- the clone has a map of its own, and its parent takes no more updates
abbrev pub branched : List Answer
branched =
    done ∷ has (codes "a", codes "1") ∷ plain reply.Absent ∷ plain (reply.Made 1)
    ∷ refusal why.Frozen ∷ done ∷ has (codes "a", codes "1") ∷ has (codes "a", codes "2")
    ∷ refusal why.UnknownVersion ∷ []

-- three puts in another order than that of their keys, and scans
abbrev pub scanning : List Request
scanning =
    Put 0 (codes "b") (codes "2") ∷ Put 0 (codes "c") (codes "3") ∷ Put 0 (codes "a") (codes "1")
    ∷ Scan 0 [] [] 2 ∷ Scan 0 [] [] 3 ∷ Scan 0 (codes "b") (codes "c") 1 ∷ []

-- pairs come in the order of their keys, without the upper bound, and `more` says if others follow
abbrev pub scanned : List Answer
scanned =
    done ∷ done ∷ done ∷ exposed true ((codes "a", codes "1") ∷ (codes "b", codes "2") ∷ [])
    ∷ exposed false abc ∷ exposed false ((codes "b", codes "2") ∷ []) ∷ []

-- a clone, and what is pruned of the tree before and after
abbrev pub growing : List Request
growing = Info 0 ∷ Stat ∷ Clone 0 ∷ Info 0 ∷ Info 1 ∷ Stat ∷ []

-- a version with a child is frozen, and its child is one step deeper
abbrev pub grown : List Answer
grown =
    plain (reply.Info None 0 false) ∷ plain (reply.Stat 1 0 0 0) ∷ plain (reply.Made 1)
    ∷ plain (reply.Info None 0 true) ∷ plain (reply.Info (Some 0) 1 false)
    ∷ plain (reply.Stat 2 0 1 0) ∷ []

-- commands at a table for two changes and two versions
abbrev pub filling : List Request
filling =
    Put 0 (codes "a") (codes "1") ∷ Clone 0 ∷ Put 1 (codes "a") (codes "2") ∷ Clone 1
    ∷ Put 0 (codes "a") (codes "2") ∷ []

-- the first of several reasons is given: a frozen version, then too many versions, then changes
abbrev pub filled : List Answer
filled =
    done ∷ plain (reply.Made 1) ∷ refusal why.ChangeLimit ∷ refusal why.VersionLimit
    ∷ refusal why.Frozen ∷ []

-- a cursor is opened, and then the version is changed
abbrev pub paging : List Request
paging =
    Put 0 (codes "a") (codes "1") ∷ Put 0 (codes "b") (codes "2") ∷ OpenCursor 0 [] []
    ∷ Put 0 (codes "a") (codes "9") ∷ Delete 0 (codes "b") ∷ Put 0 (codes "c") (codes "3")
    ∷ NextPairs 1 1 ∷ NextPairs 1 256 ∷ NextPairs 1 256 ∷ CloseCursor 1 ∷ CloseCursor 1 ∷ []

-- the cursor gives each pair of its moment once, and is gone when it was closed
abbrev pub paged : List Answer
paged =
    done ∷ done ∷ plain (reply.Opened 1) ∷ done ∷ done ∷ done
    ∷ exposed true ((codes "a", codes "1") ∷ []) ∷ exposed false ((codes "b", codes "2") ∷ [])
    ∷ exposed false []
    ∷ done ∷ refusal why.UnknownCursor ∷ []

-- settings, two clones of them, and a change in each
abbrev pub staging : List Request
staging =
    Put 0 (codes "user/1/name") (codes "Ann") ∷ Put 0 (codes "user/2/name") (codes "Bob")
    ∷ Clone 0 ∷ Clone 0
    ∷ Put 1 (codes "user/2/name") (codes "Rob") ∷ Delete 2 (codes "user/1/name")
    ∷ Scan 1 (codes "user/") (codes "user0") 100 ∷ Scan 2 (codes "user/") (codes "user0") 100
    ∷ Scan 0 (codes "user/") (codes "user0") 100 ∷ Stat ∷ []

-- each clone has its own change, and the settings that were cloned have neither
abbrev pub staged : List Answer
staged =
    done ∷ done ∷ plain (reply.Made 1) ∷ plain (reply.Made 2) ∷ done ∷ done
    ∷ exposed false ((codes "user/1/name", codes "Ann") ∷ (codes "user/2/name", codes "Rob") ∷ [])
    ∷ exposed false ((codes "user/2/name", codes "Bob") ∷ [])
    ∷ exposed false ((codes "user/1/name", codes "Ann") ∷ (codes "user/2/name", codes "Bob") ∷ [])
    ∷ plain (reply.Stat 3 4 6 0) ∷ []

-- a table for so many changes, with version 1 below version 0, and version 2 below that
abbrev pub chained : ℕ → Table
chained changes_max = (step (step (fresh changes_max 10) (Clone 0)).table (Clone 1)).table

-- what is pruned of it once version 2 was dropped
abbrev pub pruning : List Request
pruning =
    Get 2 (codes "a") ∷ Clone 2 ∷ Info 1 ∷ Put 1 (codes "a") (codes "1") ∷ Info 0 ∷ Stat ∷ []

-- version 2 is unknown, version 1 takes updates again, and the dropped one still counts
abbrev pub pruned : List Answer
pruned =
    refusal why.UnknownVersion ∷ refusal why.UnknownVersion
    ∷ plain (reply.Info (Some 0) 1 false) ∷ done ∷ plain (reply.Info None 0 true)
    ∷ plain (reply.Stat 3 1 4 0) ∷ []
