-- Changes that become durable together, and a run that is continued over those of them that no reply tells of.
use Rattle.std.specs.Prelude.{◌≡◌, ◌≤◌, ◌⊎◌, ℕ, true, List, [], ◌∷◌, ◌++◌, length, map, Option, None, Some, IfSome}
use Rattle.std.specs.List.{AllByRecursion}
use Rattle.strat_model.specs.declared.replies.Refusal.TheVariants as why
use Rattle.strat_model.specs.Answer.{refusal}
use Rattle.strat_model.specs.Request.{Request}
use Rattle.strat_model.specs.Run.{Position, Exchange, Interruption, Response, Transcript, IsRun, AnswersByTable, is_carried_out}
use Rattle.strat_model.specs.Spelling.{Spells}
use Rattle.strat_model.specs.Table.{Table, bare}

-- a body was answered as the table says, and is a change that was carried out
pub record IsChangeMade (mem : ℕ) (x : Exchange) : Type 0 where
  pub after : Position
  pub by : AnswersByTable mem x.at x.body x.response after
  pub made : is_carried_out x.at by.request ≡ true

-- a batch: such changes, one after the other, at most so many
pub record IsBatch (mem most : ℕ) (at : Position) (changes : List Exchange) (end : Position)
    : Type 0 where
  pub few : length changes ≤ most
  pub run : IsRun mem at changes end
  pub each : AllByRecursion (IsChangeMade mem) changes

-- the tables without cursors before each of these
abbrev pub tables_before : List Exchange → List Table
tables_before exchanges = map (λ x. bare x.at.table) exchanges

-- the device failed at the body of an interruption
abbrev pub IsDeviceFault : Option Interruption → Type 0
IsDeviceFault None = ⊥
IsDeviceFault (Some h) = h.response.answer ≡ refusal why.DeviceFault

-- a command is a change that was carried out at this position, or would have been but for a fault
pub record AsksForChange (at : Position) (body : List ℕ) (response : Response) : Type 0 where
  pub request : Request
  pub spelled : Spells body response.tag request
  pub made : is_carried_out at request ≡ true

-- a run is continued behind its interruption over the other changes of a batch, of 16 at most, each to be made durable in one
-- step with the change that was interrupted; over nothing where that is no change, or the device did not fail
pub record Continuation (mem : ℕ) (transcript : Transcript) : Type 0 where
  pub more : List Exchange
  pub end : Position
  pub none : (IsDeviceFault transcript.interruption → ⊥) → more ≡ []
  pub batch : IfSome transcript.interruption (λ h. IsBatch mem 15 h.done more end)
  pub change : IfSome transcript.interruption
      (λ h. (more ≡ []) ⊎ AsksForChange transcript.after h.body h.response)

-- the table behind an interruption that counts as carried out: the one after all of its batch
abbrev pub tables_behind : Option Interruption → Position → List Table
tables_behind None end = []
tables_behind (Some h) end = bare end.table ∷ []

-- the tables of a run that is continued: those before each body that was answered otherwise than by a fault, the one after
-- them, and that after its continuation; none of those amid the batch that was interrupted
abbrev pub tables_continued : Transcript → Position → List Table
tables_continued transcript end =
    tables_before transcript.exchanges
    ++ (bare transcript.after.table ∷ tables_behind transcript.interruption end)
