-- The table that a tree of versions, their marks and a list of entries mean, and what commands do to it.
use Rattle.std.specs.Prelude.{◌≡◌, ℕ, suc, ◌+◌, ◌==◌, Bool, true, false, not, if◌then◌else◌, List, [], ◌∷◌, ◌++◌, length, slice_set, IsTrue}
use Rattle.std.specs.List.{list_all}
use Rattle.strat_base.specs.Tree.{Parents, is_known, parent_of, depth, with_child, IsTree}
use Rattle.strat_base.specs.Marks.{Marks, is_dropped, has_living_child, ArePruned}
use Rattle.strat_base.specs.Entries.{Entry}
use Rattle.def_state.specs.Maps.{value_over, map_over}
use Rattle.def_state.specs.Setting.{set_entry}
use Rattle.def_state.specs.Sound.{is_there}
use Rattle.strat_model.specs.Pairs.{Pairs}
use Rattle.strat_model.specs.Table.{Row, Table}
use Rattle.strat_model.specs.declared.replies.Reply.TheVariants as reply
use Rattle.strat_model.specs.declared.replies.Refusal.TheVariants as why
use Rattle.strat_model.specs.Answer.{plain}
use Rattle.strat_model.specs.Step.{Outcome, refuses, replies_with, found}

-- a row for each of these versions, which are numbered from v on, with the marks and maps that they have
abbrev pub rows_from : (ℕ → Pairs) → Marks → ℕ → Parents → List Row
rows_from maps marks v [] = []
rows_from maps marks v (parent ∷ parents) =
    record { parent = parent; dropped = is_dropped marks v; pairs = maps v }
    ∷ rows_from maps marks (suc v) parents

-- the pairs of a version: the map that entries give it, and none once it was dropped
abbrev pub pairs_over : Parents → Marks → List Entry → ℕ → Pairs
pairs_over parents marks entries v =
    if not (is_dropped marks v) then map_over parents entries v else []

-- a row for each version: its parent, its mark, and its pairs
abbrev pub rows_over : Parents → Marks → List Entry → List Row
rows_over parents marks entries = rows_from (pairs_over parents marks entries) marks 0 parents

-- each of these entries is at a version of the tree
abbrev pub are_known : Parents → List Entry → Bool
are_known parents entries = list_all (λ e. is_known parents e.version) entries

-- a table has the rows of a tree, of its marks and of entries at its versions
pub record IsTableOver (parents : Parents) (marks : Marks) (entries : List Entry) (t : Table)
    : Type 0 where
  pub tree : IsTree parents
  pub pruned : ArePruned parents marks
  pub known : IsTrue (are_known parents entries)
  pub rows : t.rows ≡ rows_over parents marks entries

-- the refusals of an update, and else the table with its entry set
abbrev pub update_over : Parents → Marks → List Entry → Table → Entry → Outcome
update_over parents marks entries t e =
    if not (is_there parents marks e.version) then refuses t why.UnknownVersion else
    if has_living_child parents marks e.version then refuses t why.Frozen else
    if t.changes == t.changes_max then refuses t why.ChangeLimit else
    record {
      answer = plain reply.Done;
      table = record t {
        rows = rows_over parents marks (set_entry e entries);
        updates = t.updates + 1;
        changes = t.changes + 1;
      };
    }

-- the refusals of a clone, and else the table of the same entries in the tree with one more child, which is living
abbrev pub clone_over : Parents → Marks → List Entry → Table → ℕ → Outcome
clone_over parents marks entries t p =
    if not (is_there parents marks p) then refuses t why.UnknownVersion else
    if length parents == t.versions_max then refuses t why.VersionLimit else
    if t.changes == t.changes_max then refuses t why.ChangeLimit else
    record {
      answer = plain (reply.Made (length parents));
      table = record t {
        rows = rows_over (with_child parents p) (marks ++ false ∷ []) entries;
        changes = t.changes + 1;
      };
    }

-- the refusals of a drop, and else the table of the same tree and entries with one more mark
abbrev pub drop_over : Parents → Marks → List Entry → Table → ℕ → Outcome
drop_over parents marks entries t v =
    if not (is_there parents marks v) then refuses t why.UnknownVersion else
    if v == 0 then refuses t why.Root else
    if has_living_child parents marks v then refuses t why.Frozen else
    if t.changes == t.changes_max then refuses t why.ChangeLimit else
    record {
      answer = plain reply.Done;
      table = record t {
        rows = rows_over parents (slice_set marks v true) entries;
        changes = t.changes + 1;
      };
    }

-- the answer to a look-up: the value of the entry that decides the key
abbrev pub get_over : Parents → Marks → List Entry → Table → ℕ → List ℕ → Outcome
get_over parents marks entries t v key =
    if is_there parents marks v then
    replies_with t (found key (value_over parents entries v key))
    else refuses t why.UnknownVersion

-- what is told of a version, of which the entries say nothing
abbrev pub info_over : Parents → Marks → Table → ℕ → Outcome
info_over parents marks t v =
    if is_there parents marks v then replies_with t
    (plain (reply.Info (parent_of parents v) (depth parents v) (has_living_child parents marks v)))
    else refuses t why.UnknownVersion

-- what is told of the whole table, which counts the dropped versions too
abbrev pub stat_over : Parents → Table → Outcome
stat_over parents t = replies_with t
    (plain (reply.Stat (length parents) t.updates t.changes (length t.cursors)))
