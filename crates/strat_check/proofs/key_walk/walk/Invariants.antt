use Rattle.std.proofs.Common.{◌≡◌, ◌≤◌, ◌+◌, ◌^◌, ℕ, List, [], ◌∷◌, length}
use Rattle.def_crash.specs.Image.{Image}
use Rattle.def_crash.specs.Moments.{Exposes}
use Rattle.strat_check.specs.KeyWalks.{IsAtHand, IsWalking}
use Rattle.strat_check.specs.MarkedRuns.{unmarked_seen}
use Rattle.strat_check.specs.Sightings.{versions_added}
use Rattle.strat_check.proofs.ArrayCountLemmas.{HaveRead}
use Rattle.strat_check.proofs.key_walk.walk.Given as goal

abbrev pub invariant-loop : goal.invariant-loop
invariant-loop g l =
    record {
      kept : IsAtHand (length l.tree.parents) l.run l.group;
      len : length l.sights.own ≡ length l.initial.sights.own;
      placed : l.sights.order ≡ l.initial.sights.order;
      reads : HaveRead unmarked_seen (g.D.Disk.view l.initial.disk) (g.D.Disk.view l.disk) (g.D.Disk.faults l.initial.disk) (g.D.Disk.faults l.disk)
          (g.D.Disk.reads l.initial.disk) (g.D.Disk.reads l.disk) (l.initial.run ∷ []) (l.run ∷ []);
      fewer : (f : Image) → Exposes (g.D.Disk.view l.initial.disk) f → l.counter + length ((unmarked_seen l.run).left f) ≤ length ((unmarked_seen l.initial.run).left f);
      walked : (f : Image) (all : List (List ℕ)) → Exposes (g.D.Disk.view l.initial.disk) f → versions_added all ≤ 2 ^ 48
          → IsWalking l.tree.parents all ((unmarked_seen l.initial.run).left f) l.initial.group l.initial.sights
          → IsWalking l.tree.parents all ((unmarked_seen l.run).left f) l.group l.sights;
    }
