use Rattle.std.proofs.Common.{◌≡◌, ◌++◌}
use Rattle.strat_base.proofs.PairLemmas.{pushed}
use Rattle.strat_base.proofs.pairs.PairBuf.push.Goals as goal

pub returns : goal.returns
returns c =
    let bytes = c.self.inside.bytes.items in
    let keyed : c.extend_from_slice.new.self.items ≡ bytes ++ c.args.key.now = rw c.unwrap.ensures at c.extend_from_slice.ensures.items in
    let valued : c.extend_from_slice-2.new.self.items ≡ c.extend_from_slice.new.self.items ++ c.args.value.now = rw c.unwrap-2.ensures at c.extend_from_slice-2.ensures.items in
    let placed = rw c.unwrap-3.ensures at c.push.ensures.items in
    record { ok = rw (placed, valued, keyed, ← c.self.view_is) (pushed bytes c.args.key.now c.args.value.now c.self.inside.places.items c.len.result (Prim.search c.len.ensures) c.self.invariant.each) }
