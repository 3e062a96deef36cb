-- What each command answers at a table, and the table after it.
use Rattle.std.specs.Prelude.{ℕ, ◌+◌, ◌==◌, ◌&&◌, nat_lt, Bool, true, false, not, if◌then◌else◌, List, [], ◌∷◌, ◌++◌, length, map, filter, find, take, drop, Option, Some, None, slice_index_or, slice_set}
use Rattle.std.specs.List.{list_any}
use Rattle.std.specs.Option.{option_map_or}
use Rattle.strat_base.specs.Tree.{parent_of, depth}
use Rattle.strat_base.specs.Marks.{is_dropped, has_living_child}
use Rattle.strat_base.specs.declared.limits.TheConstants.{CURSORS_MAX}
use Rattle.strat_model.specs.declared.replies.Reply.TheVariants as reply
use Rattle.strat_model.specs.declared.replies.Refusal.{Refusal}
use Rattle.strat_model.specs.declared.replies.Refusal.TheVariants as why
use Rattle.strat_model.specs.Pairs.{Pairs, value_of, set, unset, range}
use Rattle.strat_model.specs.Request.{Request, Put, Delete, Get, Clone, Scan, Info, OpenCursor, NextPairs, CloseCursor, Stat, DropVersion}
use Rattle.strat_model.specs.Table.{Row, Cursor, Table, parents_of, marks_in}
use Rattle.strat_model.specs.Answer.{Answer, plain, refusal}

-- an answer, and the table after it
pub record Outcome : Type 0 where
  pub answer : Answer
  pub table : Table

-- an answer that leaves the table as it was
abbrev pub replies_with : Table → Answer → Outcome
replies_with t a = record { answer = a; table = t }

-- a refusal, which leaves the table as it was
abbrev pub refuses : Table → Refusal → Outcome
refuses t r = replies_with t (refusal r)

-- the table has this version, and it was not dropped
abbrev pub has_row : Table → ℕ → Bool
has_row t v = nat_lt v (length t.rows) && not (is_dropped (marks_in t) v)

-- a version has a child that was not dropped, and takes no updates
abbrev pub is_frozen : Table → ℕ → Bool
is_frozen t v = has_living_child (parents_of t) (marks_in t) v

-- a row without parent and pairs
abbrev pub no_row : Row
no_row = record { parent = None; dropped = false; pairs = [] }

-- the map of a version
abbrev pub pairs_at : Table → ℕ → Pairs
pairs_at t v = (slice_index_or t.rows v no_row).pairs

-- the rows with another map at a version
abbrev pub with_pairs : List Row → ℕ → Pairs → List Row
with_pairs rows v pairs =
    slice_set rows v (record (slice_index_or rows v no_row) { pairs = pairs })

-- an update of one version's map
abbrev pub update : Table → ℕ → Pairs → Outcome
update t v pairs =
    if not (has_row t v) then refuses t why.UnknownVersion else
    if is_frozen t v then refuses t why.Frozen else
    if t.changes == t.changes_max then refuses t why.ChangeLimit else
    record {
      answer = plain reply.Done;
      table = record t {
        rows = with_pairs t.rows v pairs;
        updates = t.updates + 1;
        changes = t.changes + 1;
      };
    }

-- the answer to a look-up
abbrev pub found : List ℕ → Option (List ℕ) → Answer
found key None = plain reply.Absent
found key (Some value) = record { reply = reply.Found; pairs = (key, value) ∷ [] }

-- the first pairs of a list, and whether others follow
abbrev pub page : Pairs → ℕ → Answer
page pairs limit =
    record { reply = reply.Pairs (nat_lt limit (length pairs)); pairs = take limit pairs }

-- a child of a version, with that version's map
abbrev pub clone : Table → ℕ → Outcome
clone t v =
    if not (has_row t v) then refuses t why.UnknownVersion else
    if length t.rows == t.versions_max then refuses t why.VersionLimit else
    if t.changes == t.changes_max then refuses t why.ChangeLimit else
    record {
      answer = plain (reply.Made (length t.rows));
      table = record t {
        rows = t.rows ++ record { parent = Some v; dropped = false; pairs = pairs_at t v } ∷ [];
        changes = t.changes + 1;
      };
    }

-- the rows with a version dropped, which has no pairs then
abbrev pub with_dropped : List Row → ℕ → List Row
with_dropped rows v =
    slice_set rows v (record (slice_index_or rows v no_row) { dropped = true; pairs = [] })

-- a version is dropped, which leaves it without pairs; version 0 never is
abbrev pub drop_version : Table → ℕ → Outcome
drop_version t v =
    if not (has_row t v) then refuses t why.UnknownVersion else
    if v == 0 then refuses t why.Root else
    if is_frozen t v then refuses t why.Frozen else
    if t.changes == t.changes_max then refuses t why.ChangeLimit else
    record {
      answer = plain reply.Done;
      table = record t { rows = with_dropped t.rows v; changes = t.changes + 1 };
    }

-- a cursor over a range as it is now
abbrev pub start_cursor : Table → ℕ → List ℕ → List ℕ → Outcome
start_cursor t v lo hi =
    if not (has_row t v) then refuses t why.UnknownVersion else
    if length t.cursors == CURSORS_MAX then refuses t why.CursorLimit else
    record {
      answer = plain (reply.Opened t.next_cursor);
      table = record t {
        cursors =
            t.cursors ++ record { number = t.next_cursor; left = range (pairs_at t v) lo hi } ∷ [];
        next_cursor = t.next_cursor + 1;
      };
    }

-- the cursors with the next pairs of one of them taken
abbrev pub advanced : List Cursor → ℕ → ℕ → List Cursor
advanced cursors n limit =
    map {A = Cursor}
    (λ c. if c.number == n then record c { left = drop limit c.left } else c)
    cursors

-- the next pairs of a cursor
abbrev pub next_pairs : Table → ℕ → ℕ → Outcome
next_pairs t n limit = option_map_or
    (λ c. record {
      answer = page c.left limit;
      table = record t { cursors = advanced t.cursors n limit };
    })
    (find (λ c. c.number == n) t.cursors)
    (refuses t why.UnknownCursor)

-- what a command answers at a table, and the table after it
abbrev pub step : Table → Request → Outcome
step t (Put v key value) = update t v (set key value (pairs_at t v))
step t (Delete v key) = update t v (unset key (pairs_at t v))
step t (Get v key) =
    if has_row t v then replies_with t (found key (value_of (pairs_at t v) key))
    else refuses t why.UnknownVersion
step t (Clone v) = clone t v
step t (DropVersion v) = drop_version t v
step t (Scan v lo hi limit) =
    if has_row t v then replies_with t (page (range (pairs_at t v) lo hi) limit)
    else refuses t why.UnknownVersion
step t (Info v) =
    if has_row t v then
    replies_with t
    (plain (reply.Info (parent_of (parents_of t) v) (depth (parents_of t) v) (is_frozen t v)))
    else refuses t why.UnknownVersion
step t (OpenCursor v lo hi) = start_cursor t v lo hi
step t (NextPairs n limit) = next_pairs t n limit
step t (CloseCursor n) =
    if list_any (λ c. c.number == n) t.cursors then
    record {
      answer = plain reply.Done;
      table = record t { cursors = filter (λ c. not (c.number == n)) t.cursors };
    }
    else refuses t why.UnknownCursor
step t Stat =
    replies_with t (plain (reply.Stat (length t.rows) t.updates t.changes (length t.cursors)))
