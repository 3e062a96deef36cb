use Rattle.std.proofs.Common.{◌+◌, ◌<◌, ◌≤◌, ◌^◌, [], ◌∷◌, length, Contains, sym, subst, arith}
use Rattle.strat_base.specs.declared.descriptors.ArrayDesc.{ArrayDesc}
use Rattle.strat_cursor.proofs.PickLemmas.{only}
use Rattle.def_bytes.specs.Arrays.{blocks_of}
use Rattle.strat_store_pins.specs.Examples.{array_in}
use Rattle.strat_store_pins.proofs.reading.an_array_of_one_block_takes_six_reads.Goals as goal

one_block_each : (a : ArrayDesc) → Contains (array_in 5 1 7 ∷ []) a → length (blocks_of a.extents) < 2 ^ 1
one_block_each a among = subst (λ (b : ArrayDesc). length (blocks_of b.extents) < 2 ^ 1) (sym (only (array_in 5 1 7) a among)) (let less : 1 < 2 = omega arith in less)

pub returns-clause-ok : goal.returns-clause-ok
returns-clause-ok c = λ before now reads.
    let most = reads 1 one_block_each in
    (most.later, most.bound)

pub returns-clause-none : goal.returns-clause-none
returns-clause-none c = λ before now reads.
    let most = reads 0 (λ a among. absurd (omega (arith, among.1))) in
    let le : now ≤ before + 0 = most.bound in omega (arith, le)
