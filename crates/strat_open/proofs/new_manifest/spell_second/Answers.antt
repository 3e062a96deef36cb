use Rattle.std.proofs.Common.{◌≡◌, ℕ, ◌∙◌, List, length, ap, arith}
use Rattle.strat_base.specs.Numbers.{be, placed}
use Rattle.strat_base.proofs.PlacedLemmas.{length-placed}
use Rattle.strat_base.proofs.NumberLemmas.{length-be}
use Rattle.def_bytes.proofs.SuperBlockLemmas.{length-zeros}
use Rattle.strat_open.proofs.NewBlockLemmas.{second_block_spelled}
use Rattle.strat_open.proofs.new_manifest.spell_second.Goals as goal

pub put_u64-requires : goal.put_u64-requires
put_u64-requires c = omega (arith, ap length c.requires, length-zeros 4096)

pub put_u32-requires : goal.put_u32-requires
put_u32-requires c =
    let whole : length c.args.into.now ≡ 4096 = ap length c.requires ∙ length-zeros 4096 in
    let width : length (be 8 1) ≡ 8 = length-be 8 1 in
    omega (arith, ap length c.put_u64.ensures, length-placed c.args.into.now (be 8 1) 28 (omega arith))

pub returns : goal.returns
returns c = c.put_u32.ensures ∙ ap (λ (l : List ℕ). placed l 36 (be 4 1)) c.put_u64.ensures ∙ second_block_spelled c.args.into.now c.requires
