use Rattle.std.proofs.Common.{arith}
use Rattle.strat_base.specs.Change.{change_bytes}
use Rattle.strat_base.specs.ChangeView.{change_of}
use Rattle.strat_journal.proofs.TextLemmas.{gate_text_gate}
use Rattle.strat_journal.proofs.text.put_record.Goals as goal

pub returns-clause-ok : goal.returns-clause-ok
returns-clause-ok c =
    gate_text_gate c.args.bytes.now.items (change_bytes (change_of c.args.change.now)) c.put_change-end.new.into _ c.args.at _ _
    (omega (arith, c.requires.room, c.args.bytes.now.ok.0)) c.put_change-end.ensures.end c.args.bytes.now.ok.0 c.deref_mut.ensures.value c.put_change-end.ensures.ok
