use Rattle.std.proofs.Common.{◌≡◌, List, length, map}
use Rattle.strat_base.specs.Entries.{Entry}
use Rattle.strat_base.specs.declared.descriptors.ArrayDesc.{ArrayDesc}
use Rattle.def_crash.specs.Image.{Image}
use Rattle.def_crash.specs.Moments.{Exposes}
use Rattle.strat_merge.specs.MergerFields.{runs_merged, views_of}
use Rattle.strat_merge.specs.Runs.{lefts}
use Rattle.strat_check.specs.LevelPasses.{IsLevelPass, IsCountingLevel}
use Rattle.strat_check.specs.MarkedRuns.{marked_seen}
use Rattle.strat_check.specs.Owners.{AreOwners}
use Rattle.strat_check.proofs.ArrayCountLemmas.{HaveRead, AreTaken}
use Rattle.strat_check.proofs.level_count.count_groups.Given as goal

abbrev pub invariant-loop : goal.invariant-loop
invariant-loop g l =
    record {
      kept : IsLevelPass (length l.tree.parents) (length l.arrays) l.pass;
      owners : l.pass.owners.items ≡ l.initial.pass.owners.items;
      len : length l.sights.own ≡ length l.initial.sights.own;
      placed : l.sights.order ≡ l.initial.sights.order;
      reads : HaveRead marked_seen (g.D.Disk.view l.initial.disk) (g.D.Disk.view l.disk) (g.D.Disk.faults l.initial.disk) (g.D.Disk.faults l.disk)
          (g.D.Disk.reads l.initial.disk) (g.D.Disk.reads l.disk) (runs_merged l.initial.pass.merging.merger) (runs_merged l.pass.merging.merger);
      taken : (f : Image) (runs : List (List Entry)) → Exposes (g.D.Disk.view l.initial.disk) f → lefts f (views_of marked_seen l.initial.pass.merging.merger) ≡ runs
          → AreTaken runs (lefts f (views_of marked_seen l.pass.merging.merger)) l.counter;
      counted : (f : Image) (runs : List (List Entry)) → Exposes (g.D.Disk.view l.initial.disk) f → AreOwners (map (λ (a : ArrayDesc). a.versions) l.arrays) l.initial.pass.owners.items
          → IsCountingLevel l.tree.parents (map (λ (a : ArrayDesc). a.versions) l.arrays) runs (lefts f (views_of marked_seen l.initial.pass.merging.merger)) l.initial.pass.found.items l.initial.sights
          → IsCountingLevel l.tree.parents (map (λ (a : ArrayDesc). a.versions) l.arrays) runs (lefts f (views_of marked_seen l.pass.merging.merger)) l.pass.found.items l.sights;
    }
