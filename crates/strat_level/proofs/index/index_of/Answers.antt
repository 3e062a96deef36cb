use Rattle.std.proofs.Common.{arith, rules}
use Rattle.strat_level.proofs.IndexLemmas.{indexed_next, stands_in_two, disjoint_from}
use Rattle.strat_level.proofs.index.index_of.Goals as goal

pub loop-i-preserved : goal.loop-i-preserved
loop-i-preserved c =
    indexed_next c.loop-i.index.items c.args.arrays.now c.loop-i.i c.index-arrays-i.result c.loop-i-test.true c.loop-i.invariant c.add_tag.new.index.items c.in-Ok.number c.as_slice.result.now (omega (arith, c.in-Ok.ensures)) c.as_slice.ensures.ok c.in_ok-add_tag.ensures.ok

pub returns-clause-kept : goal.returns-clause-kept
returns-clause-kept c = disjoint_from c.loop-i.index.items c.args.arrays.now c.loop-i.i c.loop-i-test.false c.loop-i.invariant

pub returns-in_err-add_tag-clause-err : goal.returns-in_err-add_tag-clause-err
returns-in_err-add_tag-clause-err c =
    let k = (stands_in_two c.loop-i.index.items c.args.arrays.now c.loop-i.i c.index-arrays-i.result c.loop-i-test.true c.loop-i.invariant c.as_slice.result.now c.as_slice.ensures.ok c.in_err-add_tag.field-0.0 c.in_err-add_tag.ensures.err) in search rules
