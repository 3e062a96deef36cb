use Rattle.std.proofs.Common.{◌≡◌, ◌∙◌, ◌-◌, ◌<◌, ℕ, get_or, length, ap, arith}
use Rattle.def_bytes.specs.Arrays.{blocks_of}
use Rattle.strat_manifest.proofs.ChainSeenLemmas.{block_joined}
use Rattle.strat_manifest.proofs.chain.push_block.Goals as goal

pub returns-in-Some : goal.returns-in-Some
returns-in-Some c =
    let n : c.len-n.result ≡ length c.args.extents.now = c.len-n.ensures.ok in
    let some : 0 < length c.args.extents.now = omega (arith, n, c.if-n-gt0.true) in
    let last = c.get.ensures.ok ∙ ap (λ (k : ℕ). get_or c.args.extents.now (k - 1) c.get.result.now) n in
    let e = c.in-Some.ensures.found in
    record { ok = ap blocks_of c.replace_last.ensures.ok ∙ block_joined c.args.extents.now c.get.result.now c.in-Some.joined c.args.block some last e.0 e.1 e.2 }
