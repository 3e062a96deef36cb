use Rattle.std.proofs.Common.{sym, ◌∙◌, option_map, arith}
use Rattle.strat_base.specs.EntryView.{entry_of}
use Rattle.strat_block.proofs.ChainLemmas.{chain_on, chain_broken, chain_over}
use Rattle.strat_block.proofs.check.last_end.Goals as goal

pub returns-in_err-entry-clause-ok : goal.returns-in_err-entry-clause-ok
returns-in_err-entry-clause-ok c =
    rw c.from_residual.ensures
    (sym (chain_broken c.args.bytes.now c.args.n c.loop-i.i c.loop-i.at (option_map entry_of c.loop-i.before) (omega arith) c.in_err-entry.ensures.ok)
    ∙ c.loop-i.invariant.chain)

pub loop-i-preserved : goal.loop-i-preserved
loop-i-preserved c = record {
  chain =
      sym (chain_on c.args.bytes.now c.args.n c.loop-i.i c.loop-i.at (option_map entry_of c.loop-i.before) (entry_of c.in_ok-entry.entry, c.in_ok-entry.next) (omega arith) c.in_ok-entry.ensures.ok)
      ∙ c.loop-i.invariant.chain;
  within = c.in_ok-entry.ensures.end;
}

pub returns-clause-ok : goal.returns-clause-ok
returns-clause-ok c =
    sym (chain_over c.args.bytes.now c.args.n c.loop-i.i c.loop-i.at (option_map entry_of c.loop-i.before) (omega arith)) ∙ c.loop-i.invariant.chain
