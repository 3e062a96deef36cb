use Rattle.std.proofs.Common.{◌+◌, length, arith}
use Rattle.strat_base.proofs.PlacedLemmas.{rest_of}
use Rattle.strat_base.proofs.EntryFieldLemmas.{entry_found}
use Rattle.strat_base.proofs.entry_fields.entry_from.Goals as goal

pub returns : goal.returns
returns c =
    rw (entry_found c.args.bytes.now c.in_ok-key.key.now (1 + length c.in_ok-key.key.now) c.in_ok-key.ensures.found (omega arith), ← rest_of c.args.bytes.now (1 + length c.in_ok-key.key.now))
    c.of_key.ensures
