-- What a table that takes memory for each change as it comes answers to a command.
use Rattle.std.specs.Prelude.{◌≡◌, ℕ, ◌==◌, ◌&&◌, Bool, true, false, not, if◌then◌else◌, length, Option, Some, None, ◌⊎◌}
use Rattle.std.specs.Option.{option_map_or}
use Rattle.strat_base.specs.declared.limits.TheConstants.{CURSORS_MAX}
use Rattle.strat_model.specs.declared.replies.Reply.{Reply}
use Rattle.strat_model.specs.declared.replies.Refusal.{Refusal}
use Rattle.strat_model.specs.declared.replies.Refusal.TheVariants as why
use Rattle.strat_model.specs.Pairs.{Pairs}
use Rattle.strat_model.specs.Request.{Request, Put, Clone, OpenCursor}
use Rattle.strat_model.specs.Table.{Row, Table}
use Rattle.strat_model.specs.Answer.{refusal, accepts}
use Rattle.strat_model.specs.Step.{step, has_row, is_frozen}
use Rattle.strat_model.specs.Run.{takes_memory}

-- a command makes a table larger
abbrev pub grows : Request → Bool
grows (Put version key value) = true
grows (Clone version) = true
grows (OpenCursor version lo hi) = true
grows _ = false

-- a command was answered, and the table changed, as its step says
pub record IsStep (before : Table) (request : Request) (reply : Reply) (pairs : Pairs)
    (after : Table) : Type 0 where
  pub answer : record { reply = reply; pairs = pairs } ≡ (step before request).answer
  pub table : after ≡ (step before request).table

-- memory ran out for a command that the step accepts, and nothing changed
pub record IsShort (before : Table) (request : Request) (reply : Reply) (pairs : Pairs)
    (after : Table) : Type 0 where
  pub takes : takes_memory request ≡ true
  pub accepted : accepts (step before request).answer.reply ≡ true
  pub answer : record { reply = reply; pairs = pairs } ≡ refusal why.NoMemory
  pub same : after ≡ before

-- a command went as its step says, or memory ran out
abbrev pub IsStepOrShort : Table → Request → Reply → Pairs → Table → Type 0
IsStepOrShort before request reply pairs after =
    IsStep before request reply pairs after ⊎ IsShort before request reply pairs after

-- a row is that of a child of this version, and was not dropped
abbrev pub is_living_row_under : ℕ → Row → Bool
is_living_row_under v row = option_map_or (λ p. p == v) row.parent false && not row.dropped

-- why an update of a version is refused, if it is
abbrev pub update_refusal : Table → ℕ → Option Refusal
update_refusal t v =
    if not (has_row t v) then Some why.UnknownVersion else
    if is_frozen t v then Some why.Frozen else
    if t.changes == t.changes_max then Some why.ChangeLimit else None

-- why a drop of a version is refused, if it is
abbrev pub drop_refusal : Table → ℕ → Option Refusal
drop_refusal t v =
    if not (has_row t v) then Some why.UnknownVersion else
    if v == 0 then Some why.Root else
    if is_frozen t v then Some why.Frozen else
    if t.changes == t.changes_max then Some why.ChangeLimit else None

-- why a clone of a version is refused, if it is
abbrev pub clone_refusal : Table → ℕ → Option Refusal
clone_refusal t v =
    if not (has_row t v) then Some why.UnknownVersion else
    if length t.rows == t.versions_max then Some why.VersionLimit else
    if t.changes == t.changes_max then Some why.ChangeLimit else None

-- why a cursor over a version is refused, if it is
abbrev pub cursor_refusal : Table → ℕ → Option Refusal
cursor_refusal t v =
    if not (has_row t v) then Some why.UnknownVersion else
    if length t.cursors == CURSORS_MAX then Some why.CursorLimit else None
