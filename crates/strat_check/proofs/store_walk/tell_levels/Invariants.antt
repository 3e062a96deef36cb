use Rattle.std.proofs.Common.{◌≡◌, ◌*◌, [], length, map, take, Some}
use Rattle.def_bytes.specs.Arrays.{all_some}
use Rattle.def_crash.specs.Faults.{ReadsAtMost}
use Rattle.def_crash.specs.Image.{Image}
use Rattle.def_crash.specs.Moments.{Exposes, OnlyReads}
use Rattle.def_publish.specs.Occupied.{arrays_in}
use Rattle.def_recovery.specs.Opened.{level_on}
use Rattle.def_state.specs.State.{State, versions_of}
use Rattle.strat_promote.specs.Job.{blocks_listed}
use Rattle.strat_check.specs.StoreScans.{scans_of}
use Rattle.strat_check.specs.Walked.{HaveRoomFor, AreFirstChildren, MayBeTold, IsFound}
use Rattle.strat_check.proofs.store_walk.tell_levels.Given as goal

abbrev pub invariant-loop-i : goal.invariant-loop-i
invariant-loop-i g l =
    record {
      told : (f : Image) (s : State) → Exposes (g.D.Disk.view l.initial.disk) f → versions_of s ≡ l.tree.parents → s.mem ≡ l.mem → AreFirstChildren s l.initial.tables.first.items
          → all_some (level_on f) l.levels ≡ Some s.levels → MayBeTold s → l.scans ≡ map (scans_of (length (versions_of s))) s.levels → IsFound s [] l.fn.begin → IsFound s (take l.i s.levels) l.found;
      room : HaveRoomFor l.tree.parents l.tables;
      first : l.tables.first ≡ l.initial.tables.first;
      same : OnlyReads (g.D.Disk.view l.initial.disk) (g.D.Disk.view l.disk);
      faults : g.D.Disk.faults l.disk ≡ g.D.Disk.faults l.initial.disk;
      reads : ReadsAtMost (2 * length (blocks_listed (arrays_in (take l.i l.levels)))) (g.D.Disk.reads l.initial.disk) (g.D.Disk.reads l.disk);
    }
