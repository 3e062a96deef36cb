use Rattle.std.proofs.Common.{◌≡◌, length, ap, subst, sym}
use Rattle.def_crash.specs.Image.{Image, Outside}
use Rattle.def_crash.proofs.ImageLemmas.{outside_refl}
use Rattle.def_crash.proofs.MomentLemmas.{leaves_tears}
use Rattle.strat_disk.specs.Medium.{Medium}
use Rattle.strat_disk.specs.PlaneView.{plane_of}
use Rattle.strat_disk.proofs.MemoryLemmas.{tears, may_tear, leaves_same}
use Rattle.strat_disk.proofs.memory.MemDiskDisk.write_at.Goals as goal

pub returns-in-Ok-clause-images : goal.returns-in-Ok-clause-images
returns-in-Ok-clause-images c = record {
  only = tears c.args.self.now.log c.write.new.self c.write.ensures.time c.args.at c.args.bytes.now c.in-Ok.ensures.ok;
  may = may_tear c.args.self.now.log c.write.new.self c.write.ensures.time c.args.at c.args.bytes.now c.in-Ok.ensures.ok;
}

pub returns-in-Err-clause-images : goal.returns-in-Err-clause-images
returns-in-Err-clause-images c = record {
  only = leaves_tears _ _ _ _ (leaves_same c.args.self.now.log c.write.new.self c.write.ensures.time c.in-Err.ensures.err);
  may = tt;
}

pub returns-in-Err-clause-err : goal.returns-in-Err-clause-err
returns-in-Err-clause-err c =
    let n = length c.args.bytes.now in
    let before = (plane_of c.args.self.now.log.present).content in
    let content : (plane_of c.write.new.self.present).content ≡ before = ap (λ (m : Medium). m.content) c.in-Err.ensures.err in
    subst (λ (d : Image). Outside c.args.at n before d) (sym content) (outside_refl c.args.at n before)
