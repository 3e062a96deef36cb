use Rattle.std.proofs.Common.{drop, None, sym, ap, ◌∙◌, arith}
use Rattle.strat_base.specs.EntryBytes.{entry_in, BeginsWithEntry}
use Rattle.strat_base.specs.EntryView.{entry_of}
use Rattle.strat_base.proofs.NumberLemmas.{AreBytes-drop}
use Rattle.strat_base.proofs.EntryBytesLemmas.{entry_in-some}
use Rattle.strat_base.proofs.PlacedLemmas.{rest_of}
use Rattle.strat_base.proofs.EntryFieldLemmas.{entry_at-is, entry_in-past, no_entry_begins}
use Rattle.strat_base.proofs.entry_fields.get_entry.Goals as goal
use Rattle.strat_base.proofs.entry_fields.get_entry.Goals.{In_ok-entry}

begins : (c : In_ok-entry) → BeginsWithEntry (drop c.args.at c.args.bytes.now) (entry_of c.in_ok-entry.entry)
begins c =
    entry_in-some (drop c.args.at c.args.bytes.now) _
    (AreBytes-drop c.args.at c.args.bytes.now (λ i. omega (arith, c.type_inv.bytes i)))
    (ap entry_in (sym (rest_of c.args.bytes.now c.args.at)) ∙ c.in_ok-entry.ensures)

pub returns-then-at-bytes-clause-ok : goal.returns-then-at-bytes-clause-ok
returns-then-at-bytes-clause-ok c = entry_at-is c.args.bytes.now c.args.at None (entry_in-past c.args.bytes.now c.args.at (omega arith))

pub returns-in_err-entry-clause-none : goal.returns-in_err-entry-clause-none
returns-in_err-entry-clause-none c = λ entry there.
    absurd (no_entry_begins (drop c.args.at c.args.bytes.now) entry (ap entry_in (sym (rest_of c.args.bytes.now c.args.at)) ∙ c.in_err-entry.ensures) there)

pub entry_size-requires : goal.entry_size-requires
entry_size-requires c = (begins (goal.at.entry_size-requires c).In_ok-entry).lawful

pub returns-clause-found : goal.returns-clause-found
returns-clause-found c = begins (goal.at.returns-clause-found c).In_ok-entry
