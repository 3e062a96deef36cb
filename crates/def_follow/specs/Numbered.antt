-- Changes with their numbers, as a leader sends them to a follower.
use Rattle.std.specs.Prelude.{◌≡◌, ◌<◌, ℕ, ◌^◌, List, ◌++◌, Some, IsTrue, slice_get}
use Rattle.strat_base.specs.Change.{Change, change_bytes, is_lawful}
use Rattle.strat_base.specs.Numbers.{be}
use Rattle.strat_model.specs.Stream.{frame}

-- a change, and how many changes a store accepted before it
pub record Numbered : Type 0 where
  pub number : ℕ
  pub change : Change

-- the body of its frame
abbrev pub numbered_body : Numbered → List ℕ
numbered_body n = be 4 n.number ++ change_bytes n.change

-- its frame
abbrev pub change_frame : Numbered → List ℕ
change_frame n = frame (numbered_body n)

-- a body is a number and one whole change of lawful sizes
pub record SpellsNumbered (body : List ℕ) (n : Numbered) : Type 0 where
  pub text : body ≡ numbered_body n
  pub fits : n.number < 2 ^ 32
  pub lawful : IsTrue (is_lawful n.change)

-- a numbered change is that of a log at its number
abbrev pub IsInLog : List Change → Numbered → Type 0
IsInLog log n = slice_get log n.number ≡ Some n.change
