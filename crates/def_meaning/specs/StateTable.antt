-- The table that a state of the store means.
use Rattle.std.specs.Prelude.{[], length}
use Rattle.strat_base.specs.Change.{Change}
use Rattle.strat_base.specs.Change as change
use Rattle.def_state.specs.State.{State, versions_of, marks_of, map_at, updates_of, changes_of}
use Rattle.strat_model.specs.Request.{Request, Put, Delete, Clone, DropVersion}
use Rattle.strat_model.specs.Table.{Table}
use Rattle.strat_model.specs.declared.replies.Reply.TheVariants as reply
use Rattle.strat_model.specs.Answer.{Answer, plain}
use Rattle.def_meaning.specs.TableOver.{rows_from}

-- the table of a state: its versions with their maps, what was accepted, and no cursors
abbrev pub table_of : State → Table
table_of s = record {
  changes_max = s.changes_max;
  versions_max = s.versions_max;
  rows = rows_from (map_at s) (marks_of s) 0 (versions_of s);
  updates = updates_of s;
  changes = changes_of s;
  cursors = [];
  next_cursor = 1;
}

-- the command that asks for a change
abbrev pub request_for : Change → Request
request_for (change.Put version key value) = Put version key value
request_for (change.Delete version key) = Delete version key
request_for (change.Clone version) = Clone version
request_for (change.DropVersion version) = DropVersion version

-- what a table answers to a change that it takes: that it is done, or the number of the new version
abbrev pub answer_for : State → Change → Answer
answer_for s (change.Put version key value) = plain reply.Done
answer_for s (change.Delete version key) = plain reply.Done
answer_for s (change.DropVersion version) = plain reply.Done
answer_for s (change.Clone version) = plain (reply.Made (length (versions_of s)))
