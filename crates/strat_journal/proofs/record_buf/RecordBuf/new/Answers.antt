use Rattle.std.proofs.Common.{refl}
use Rattle.strat_journal.specs.Buffered.{room_for}
use Rattle.strat_journal.proofs.KeepLemmas.{none_kept, same_buffered, none_in}
use Rattle.strat_journal.proofs.record_buf.RecordBuf.new.Goals as goal

pub invariant_of-result : goal.invariant_of-result
invariant_of-result c =
    none_kept _ c.args.mem (room_for c.args.mem) (c.in_ok-vec.ensures.items_if_clones_equal (λ y same. same)) refl c.requires.fits.0 c.requires.fits.1

pub returns : goal.returns
returns c = record { ok = same_buffered c.args.mem _ _ _ _ (none_in _) (none_in _) }
