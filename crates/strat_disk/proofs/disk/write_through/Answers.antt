use Rattle.def_crash.proofs.MomentLemmas.{passes_trans, tears_then_leaves, through_err}
use Rattle.strat_disk.proofs.disk.write_through.Goals as goal

pub returns-in_err-sync-clause-ok : goal.returns-in_err-sync-clause-ok
returns-in_err-sync-clause-ok g c =
    through_err _ _ _ _ _ (tears_then_leaves _ _ _ _ _ c.write_at.ensures.time c.sync.ensures.time c.write_at.ensures.images.only c.sync.ensures.images)
    (passes_trans c.write_at.ensures.time c.sync.ensures.time) c.from_residual-in_err-sync.ensures.0

pub returns-clause-ok : goal.returns-clause-ok
returns-clause-ok g c = record {
  images = tears_then_leaves _ _ _ _ _ c.write_at.ensures.time c.sync.ensures.time c.write_at.ensures.images.only c.sync.ensures.images;
  time = passes_trans c.write_at.ensures.time c.sync.ensures.time;
  content = rw c.sync.ensures.same c.in_ok-write_at.ensures.ok;
  settled = c.in_ok-sync.ensures.ok;
}
