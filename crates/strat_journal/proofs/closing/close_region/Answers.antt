use Rattle.strat_journal.proofs.LaidLemmas.{journal_kept}
use Rattle.strat_journal.proofs.ClosingLemmas.{closed_shut}
use Rattle.strat_journal.proofs.closing.close_region.Goals as goal

pub returns-in_err-gate_ensure_shut-clause-kept : goal.returns-in_err-gate_ensure_shut-clause-kept
returns-in_err-gate_ensure_shut-clause-kept g c = λ logged short given image since.
    let tears = rw c.region_at.ensures.ok at c.gate_ensure_shut.ensures.images in
    let torn = tears.each image since in
    journal_kept torn.0 image c.args.mem c.args.region logged (g.met.D.Disk.leaves_bytes c.args.disk.now _ torn.0 torn.1) c.requires.fits.1.region_most c.requires.fits.0 short torn.2 (given torn.0 torn.1)

pub returns-clause-kept : goal.returns-clause-kept
returns-clause-kept g c = λ logged short given image since.
    let tears = rw c.region_at.ensures.ok at c.gate_ensure_shut.ensures.images in
    let torn = tears.each image since in
    journal_kept torn.0 image c.args.mem c.args.region logged (g.met.D.Disk.leaves_bytes c.args.disk.now _ torn.0 torn.1) c.requires.fits.1.region_most c.requires.fits.0 short torn.2 (given torn.0 torn.1)

pub returns-clause-durable : goal.returns-clause-durable
returns-clause-durable g c = λ f exposed settled.
    let closed = rw c.region_at.ensures.ok at c.in_ok-gate_ensure_shut.ensures.ok in
    closed_shut _ _ f _ c.gate_ensure_shut.ensures.time (closed f exposed) exposed settled
