-- An advance of a store whose journal is full: one slice of the promotion of what fills its active region, and its
-- publication after the last one.
use Rattle.std.specs.Prelude.{◌≡◌, ◌≤◌, ◌<◌, ◌⊎◌, ℕ, ◌+◌, ◌-◌, ◌*◌, List, length, drop, Option, None, Some, option_map}
use Rattle.def_crash.specs.Image.{Image}
use Rattle.def_crash.specs.Moments.{DiskView}
use Rattle.strat_level.specs.Target.{IsTarget}
use Rattle.strat_promote.specs.Promotions.{target_of}
use Rattle.strat_promote.specs.StateInputs.{job_of_state}
use Rattle.def_slice.specs.Budget.{SliceNumbers, KeepsToBudget}
use Rattle.def_slice.specs.Opened.{OpenPromotion, AreNumbersOf, IsMostOfKey, slice_numbers}
use Rattle.def_publish.specs.Contents.{Contents, sealed_state}
use Rattle.def_state.specs.Sound.{journal_max}
use Rattle.strat_memory.specs.Held.{Held, IsOpenAt, StandsWith}
use Rattle.strat_memory.specs.Memory.{IsReadyFrom, emptied, unsealed}
use Rattle.strat_publish.specs.Counting.{CountsWritten}
use Rattle.strat_publish.specs.Outcomes.{IsPublishedAs}
use Rattle.strat_publish.specs.Promoting.{leads_in_memory}
use Rattle.strat_publish.specs.Settling.{HasPublished}

-- the level that a promotion fills, the open one, or the one that begins next over these leads
abbrev pub FillsLevel : ℕ → List ℕ → Option OpenPromotion → ℕ → Type 0
FillsLevel mem leads (Some o) target = target ≡ target_of o.promotion
FillsLevel mem leads None target = IsTarget leads mem target

-- no key has more entries among those that the promotion of a store merges, the open one or the one that begins next
abbrev pub HasMostOfKey : Image → Held → Contents → ℕ → Type 0
HasMostOfKey f s x most = (target : ℕ)
    → FillsLevel s.sb.mem (leads_in_memory s.memory s.levels) s.promoting target
    → IsMostOfKey f (job_of_state (sealed_state x) s.levels target) most

-- the promotion of a store keeps to its budget, the open one or the one that begins next: it stays open with the same budget
-- and so many entries more taken, or it ends, and not early
abbrev pub SlicesInBudget : Image → Held → Contents → Option OpenPromotion → Type 0
SlicesInBudget f s x now = (n : SliceNumbers) (most : ℕ)
    → AreNumbersOf s.sb.mem (length s.log.list) (leads_in_memory s.memory s.levels) s.promoting n
    → HasMostOfKey f s x most
    → KeepsToBudget n most (option_map slice_numbers now)

-- a store has a promotion open and holds what it held, but that level 0 is sealed and that memory is made ready; and its
-- journal has room for a change
pub record StaysOpen (old new : Held) : Type 0 where
  pub promotion : OpenPromotion
  pub open_is : new.promoting ≡ Some promotion
  pub full : old.log.mem ≤ length old.log.list
  pub room : length old.log.list < journal_max old.sb.mem
  pub ready : IsReadyFrom old.sb.mem old.memory new.memory
  pub held : new ≡ record old { memory = new.memory; promoting = new.promoting }

-- what filled the active region of a store was published: the journal has what was behind it, and nothing is sealed
pub record HasEmptied (old new : Held) : Type 0 where
  pub published : HasPublished old new
  pub journal : new.log.list ≡ drop old.sb.mem old.log.list
  pub memory : new.memory ≡ record (unsealed old.memory) {
    entries = new.memory.entries;
    spare = new.memory.spare;
    ready = new.memory.ready;
    cursors = new.memory.cursors;
  }
  pub whole : old.memory.sealed ≡ None
      → new.memory ≡ record (emptied old.sb.mem old.memory) { cursors = new.memory.cursors }

-- a store stands with these contents and a promotion that is open over them, on time for one change more, for which the
-- journal has room
pub record StandsForMore (now : DiskView) (new : Held) (x : Contents) : Type 0 where
  pub stands : StandsWith now new x
  pub promotion : OpenPromotion
  pub open_is : new.promoting ≡ Some promotion
  pub next : IsOpenAt stands.stands.content new x (length new.log.list + 1) promotion
  pub room : length new.log.list + 1 ≤ 2 * new.sb.mem - 2

-- a store that stood with these contents advanced: it stands with them and an open promotion, or contents of the same table
-- were published, and none is open
abbrev pub HasAdvanced : DiskView → Held → Contents → Held → Type 0
HasAdvanced now old x new = StandsForMore now new x
    ⊎ ((new.promoting ≡ None) × IsPublishedAs now x new
    × CountsWritten old.chained.manifest new.chained.manifest)
