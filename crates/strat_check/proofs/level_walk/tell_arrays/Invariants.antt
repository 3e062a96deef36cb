use Rattle.std.proofs.Common.{◌≡◌, List, length, take, Some}
use Rattle.def_crash.specs.Faults.{ReadsAtMost}
use Rattle.def_crash.specs.Image.{Image}
use Rattle.def_crash.specs.Moments.{Exposes, OnlyReads}
use Rattle.def_recovery.specs.Opened.{level_on}
use Rattle.def_state.specs.Level.{Level}
use Rattle.def_state.specs.State.{State, versions_of}
use Rattle.strat_base.specs.Entries.{Entry}
use Rattle.strat_promote.specs.Job.{blocks_listed}
use Rattle.strat_check.specs.Walked.{AreArraysLooked, AreArraysTold}
use Rattle.strat_check.proofs.level_walk.tell_arrays.Given as goal

abbrev pub invariant-loop-i : goal.invariant-loop-i
invariant-loop-i g l =
    record {
      told : (f : Image) (s : State) (on : Level) (groups : List (List Entry)) → Exposes (g.D.Disk.view l.initial.disk) f → versions_of s ≡ l.tree.parents → level_on f l.level ≡ Some on
          → AreArraysLooked s on groups l.scans l.strays l.leads → AreArraysTold s on (take l.i on.arrays) l.told;
      size : length l.array.own ≡ length l.initial.array.own;
      placed : l.array.order ≡ l.initial.array.order;
      same : OnlyReads (g.D.Disk.view l.initial.disk) (g.D.Disk.view l.disk);
      faults : g.D.Disk.faults l.disk ≡ g.D.Disk.faults l.initial.disk;
      reads : ReadsAtMost (length (blocks_listed (take l.i l.level.arrays))) (g.D.Disk.reads l.initial.disk) (g.D.Disk.reads l.disk);
    }
