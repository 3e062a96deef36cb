use Rattle.std.proofs.Common.{sym, ◌∙◌, ap, subst}
use Rattle.def_crash.specs.Image.{Image}
use Rattle.strat_disk.specs.Medium.{Medium, Leaves}
use Rattle.strat_disk.specs.PlaneView.{plane_of}
use Rattle.strat_disk.proofs.MemoryLemmas.{crashed_leaves, from_now}
use Rattle.strat_disk.proofs.memory.MemDisk.crash.Goals as goal

pub returns-clause-images : goal.returns-clause-images
returns-clause-images c =
    let log = c.args.self.now.log in
    let is = ap (λ (m : Medium). m.content) c.in_ok-log.ensures.ok ∙ c.in_ok-bytes.ensures.ok in
    from_now log _ (subst (λ (d : Image). Leaves (plane_of log.present) d) (sym is) (crashed_leaves c.args.choice (plane_of log.present) log.present.whole))
