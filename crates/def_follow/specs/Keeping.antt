-- What a follower keeps whose frames hold the changes of one log.
use Rattle.std.specs.Prelude.{◌≡◌, ◌≤◌, ◌<◌, ℕ, List}
use Rattle.strat_base.specs.Change.{Change}
use Rattle.strat_model.specs.declared.replies.Refusal.{Refusal}
use Rattle.strat_model.specs.declared.replies.Refusal.TheVariants as why
use Rattle.strat_model.specs.Run.{Position}
use Rattle.def_follow.specs.Following.{Delivery, Taken, Refused}
use Rattle.def_follow.specs.Log.{IsOfLog}
use Rattle.def_follow.specs.Numbered.{Numbered, SpellsNumbered, IsInLog}

-- a body that spells a numbered change spells that of a log at its number; an empty one spells none
abbrev pub IsOfLogAt : List Change → List ℕ → Type 0
IsOfLogAt log body = (n : Numbered) → SpellsNumbered body n → IsInLog log n

-- what the answer to one body that spells no other change than a log comes to, at once
pub record IsRightAt (changes_max versions_max : ℕ) (log : List Change) (x : Delivery)
    (after : Position) : Type 0 where
  pub of_log : IsOfLog changes_max versions_max log after.table
  pub rises : x.at.table.changes ≤ after.table.changes
  -- it is refused for want of memory alone
  pub free : (cause : Refusal) → x.receipt.fate ≡ Refused cause → cause ≡ why.NoMemory
  -- and the table holds it where it is taken
  pub holds : x.receipt.fate ≡ Taken → x.receipt.number < after.table.changes

-- what the answer to one body of a run comes to, after which the table is this one
pub record IsKeptOf (changes_max versions_max : ℕ) (log : List Change) (after : Position)
    (x : Delivery) : Type 0 where
  pub before : IsOfLog changes_max versions_max log x.at.table
  pub free : (cause : Refusal) → x.receipt.fate ≡ Refused cause → cause ≡ why.NoMemory
  pub holds : x.receipt.fate ≡ Taken → x.receipt.number < after.table.changes
