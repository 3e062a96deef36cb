-- Workloads as streams.
use Rattle.std.specs.Prelude.{◌≤◌, ◌<◌, ℕ, suc, ◌-◌, Bool, true, false, List, [], ◌∷◌, ◌++◌, length, drop}
use Rattle.std.specs.Fmt.{decimal}
use Rattle.std.specs.List.{flat_map}
use Rattle.strat_base.specs.Change.{Change, Put, Delete, Clone}
use Rattle.strat_base.specs.Tree.{Parents}
use Rattle.strat_model.specs.Spelling.{command_body, Spells}
use Rattle.def_meaning.specs.StateTable.{request_for}
use Rattle.def_texts.specs.Workload.{drawn_key, changes_from, workload_changes, frames_from, workload}
use Rattle.strat_serve.specs.declared.drawing.Pick.{Pick}
use Rattle.strat_serve.specs.declared.drawing.Pick.TheVariants as pick

-- the i-th change, as it was drawn
abbrev pub picked_change : ℕ → Pick → Change
picked_change i (pick.Put version key) = Put version (drawn_key key) (decimal i)
picked_change i (pick.Delete version key) = Delete version (drawn_key key)
picked_change i (pick.Clone version) = Clone version

-- a change that was drawn makes a version
abbrev pub makes_version : Pick → Bool
makes_version (pick.Clone version) = true
makes_version _ = false

-- the bytes of the frames of changes, which are numbered from i on
abbrev pub frame_bytes_from : ℕ → List Change → List ℕ
frame_bytes_from i changes = flat_map (λ bytes. bytes) (frames_from i changes)

-- the bytes of a workload
abbrev pub workload_bytes : ℕ → ℕ → List ℕ
workload_bytes seed count = flat_map (λ bytes. bytes) (workload seed count)

-- the bodies of the frames of changes, which are numbered from i on
abbrev pub bodies_from : ℕ → List Change → List (List ℕ)
bodies_from i [] = []
bodies_from i (change ∷ changes) = command_body i (request_for change) ∷ bodies_from (suc i) changes

-- the bodies of a workload
abbrev pub workload_bodies : ℕ → ℕ → List (List ℕ)
workload_bodies seed count = bodies_from 1 (workload_changes seed count)

-- these bodies are commands that ask for these changes, each with its number as its tag
abbrev pub AskFor : ℕ → List (List ℕ) → List Change → Type 0
AskFor i [] [] = Unit {0}
AskFor i (body ∷ bodies) (change ∷ changes) =
    Spells body i (request_for change) × AskFor (suc i) bodies changes
AskFor i _ _ = ⊥

-- the bytes left of a workload of so many changes: of the frame of the last of those drawn, of which
-- so many bytes were given, and all of the frames of the changes still to be drawn
abbrev pub bytes_left : ℕ → ℕ → ℕ → Parents → List ℕ → ℕ → List ℕ
bytes_left count drawn state parents frame given =
    drop given frame
    ++ frame_bytes_from (suc drawn) (changes_from (count - drawn) (suc drawn) state parents)

-- a frame was given in part, and at most all changes were drawn
pub record IsGenerating (count drawn : ℕ) (parents : Parents) (frame : List ℕ) (given : ℕ)
    : Type 0 where
  pub fits : drawn ≤ count
  pub some : 0 < length parents
  pub within : given ≤ length frame
