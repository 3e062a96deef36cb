use Rattle.std.proofs.Common.{◌≤◌, ◌*◌}
use Rattle.def_crash.specs.Blocks.{TearsBlocks}
use Rattle.def_crash.specs.Moments.{OnlyReads, IsDurable}
use Rattle.def_crash.proofs.BlockLemmas.{reads_tear_none, blocks_trans}
use Rattle.def_bytes.specs.Layout.{region_at}
use Rattle.strat_publish.specs.Publishing.{is_in_front}
use Rattle.strat_publish.proofs.LaidLemmas.{laid_superblock}
use Rattle.strat_publish.proofs.PublishingLemmas.{synced_trail, synced_paid, synced_either, next_of, lay_trail, lay_paid, lay_either, turn_trail, turn_paid, turn_either, turn_stands, torn_in_front, gate_in_front, slot_in_front}
use Rattle.strat_publish.proofs.lay.lay_next.Given.{Over}
use Rattle.strat_publish.proofs.lay.lay_next.Goals.{After-sync_written, After-lay, After-turn}
use Rattle.strat_publish.proofs.lay.lay_next.Goals as goal

-- the sync only reads
synced : (g : Over) (c : After-sync_written g) → OnlyReads (g.D.Disk.view c.args.disk.now) (g.D.Disk.view c.sync_written.new.disk)
synced g c = c.sync_written.ensures.same

-- up to the laying blocks in front alone are torn
laid : (g : Over) (c : After-lay g) → OnlyReads (g.D.Disk.view c.args.disk.now) (g.D.Disk.view c.sync_written.new.disk) → IsDurable (g.D.Disk.view c.sync_written.new.disk) → TearsBlocks (is_in_front c.args.journal.now.mem) (g.D.Disk.view c.args.disk.now) (g.D.Disk.view c.lay.new.disk)
laid g c reads durable =
    blocks_trans (is_in_front c.args.journal.now.mem) _ (g.D.Disk.view c.sync_written.new.disk) _
    (reads_tear_none (is_in_front c.args.journal.now.mem) _ _ reads)
    (torn_in_front _ _ c.args.journal.now.mem (4096 * c.args.slot) 4096 (slot_in_front c.args.journal.now.mem c.args.slot c.requires.fits.0) durable
    (g.met.D.Disk.leaves_content c.lay.new.disk) c.lay.ensures.images c.lay.ensures.time)

turned : (g : Over) (c : After-turn g) → TearsBlocks (is_in_front c.args.journal.now.mem) (g.D.Disk.view c.args.disk.now) (g.D.Disk.view c.lay.new.disk) → IsDurable (g.D.Disk.view c.lay.new.disk) → c.args.journal.now.active ≤ 1
    → TearsBlocks (is_in_front c.args.journal.now.mem) (g.D.Disk.view c.args.disk.now) (g.D.Disk.view c.turn.new.disk)
turned g c torn settled few =
    blocks_trans (is_in_front c.args.journal.now.mem) _ (g.D.Disk.view c.lay.new.disk) _ torn
    (torn_in_front _ _ c.args.journal.now.mem (region_at c.args.journal.now.mem c.args.journal.now.active) 1 (gate_in_front c.args.journal.now.mem c.args.journal.now.active few) settled
    (g.met.D.Disk.leaves_content c.turn.new.disk) c.turn.ensures.images c.turn.ensures.time)

pub returns-in_err-lay-clause-trail : goal.returns-in_err-lay-clause-trail
returns-in_err-lay-clause-trail g c old new computed =
    let reads = synced g (goal.at.returns-in_err-lay-clause-trail g c).After-sync_written in (
      lay_trail _ (g.D.Disk.view c.sync_written.new.disk) _ _ _ old new computed reads c.in_ok-sync_written.ensures.ok (g.met.D.Disk.leaves_content c.sync_written.new.disk)
          _ c.lay.ensures.images c.lay.ensures.time c.lay.ensures.trail,
      lay_paid _ (g.D.Disk.view c.sync_written.new.disk) _ _ _ old new computed reads c.in_ok-sync_written.ensures.ok (g.met.D.Disk.leaves_content c.sync_written.new.disk)
          _ c.lay.ensures.images c.lay.ensures.time c.lay.ensures.trail,
      lay_either _ (g.D.Disk.view c.sync_written.new.disk) _ _ _ old new computed reads c.in_ok-sync_written.ensures.ok (g.met.D.Disk.leaves_content c.sync_written.new.disk)
          _ c.lay.ensures.images c.lay.ensures.time c.lay.ensures.trail,
    )

pub returns-in_err-lay-clause-images : goal.returns-in_err-lay-clause-images
returns-in_err-lay-clause-images g c few = laid g (goal.at.returns-in_err-lay-clause-images g c).After-lay (synced g (goal.at.returns-in_err-lay-clause-images g c).After-sync_written) c.in_ok-sync_written.ensures.ok

pub returns-in_err-turn-clause-trail : goal.returns-in_err-turn-clause-trail
returns-in_err-turn-clause-trail g c old new computed =
    let reads = synced g (goal.at.returns-in_err-turn-clause-trail g c).After-sync_written in (
      turn_trail _ (g.D.Disk.view c.sync_written.new.disk) _ _ _ old new computed reads c.in_ok-sync_written.ensures.ok (g.met.D.Disk.leaves_content c.sync_written.new.disk)
          (g.D.Disk.view c.lay.new.disk) c.lay.ensures.images c.lay.ensures.time c.lay.ensures.trail c.in_ok-lay.ensures.durable c.in_ok-lay.ensures.found _ c.turn.ensures.images c.turn.ensures.time,
      turn_paid _ (g.D.Disk.view c.sync_written.new.disk) _ _ _ old new computed reads c.in_ok-sync_written.ensures.ok (g.met.D.Disk.leaves_content c.sync_written.new.disk)
          (g.D.Disk.view c.lay.new.disk) c.lay.ensures.images c.lay.ensures.time c.lay.ensures.trail c.in_ok-lay.ensures.durable c.in_ok-lay.ensures.found _ c.turn.ensures.images c.turn.ensures.time,
      turn_either _ (g.D.Disk.view c.sync_written.new.disk) _ _ _ old new computed reads c.in_ok-sync_written.ensures.ok (g.met.D.Disk.leaves_content c.sync_written.new.disk)
          (g.D.Disk.view c.lay.new.disk) c.lay.ensures.images c.lay.ensures.time c.lay.ensures.trail c.in_ok-lay.ensures.durable c.in_ok-lay.ensures.found _ c.turn.ensures.images c.turn.ensures.time,
    )

pub returns-in_err-turn-clause-images : goal.returns-in_err-turn-clause-images
returns-in_err-turn-clause-images g c few =
    turned g (goal.at.returns-in_err-turn-clause-images g c).After-turn (laid g (goal.at.returns-in_err-turn-clause-images g c).After-lay (synced g (goal.at.returns-in_err-turn-clause-images g c).After-sync_written) c.in_ok-sync_written.ensures.ok) c.in_ok-lay.ensures.durable few

pub returns-clause-trail : goal.returns-clause-trail
returns-clause-trail g c old new computed =
    let reads = synced g (goal.at.returns-clause-trail g c).After-sync_written in (
      turn_trail _ (g.D.Disk.view c.sync_written.new.disk) _ _ _ old new computed reads c.in_ok-sync_written.ensures.ok (g.met.D.Disk.leaves_content c.sync_written.new.disk)
          (g.D.Disk.view c.lay.new.disk) c.lay.ensures.images c.lay.ensures.time c.lay.ensures.trail c.in_ok-lay.ensures.durable c.in_ok-lay.ensures.found _ c.turn.ensures.images c.turn.ensures.time,
      turn_paid _ (g.D.Disk.view c.sync_written.new.disk) _ _ _ old new computed reads c.in_ok-sync_written.ensures.ok (g.met.D.Disk.leaves_content c.sync_written.new.disk)
          (g.D.Disk.view c.lay.new.disk) c.lay.ensures.images c.lay.ensures.time c.lay.ensures.trail c.in_ok-lay.ensures.durable c.in_ok-lay.ensures.found _ c.turn.ensures.images c.turn.ensures.time,
      turn_either _ (g.D.Disk.view c.sync_written.new.disk) _ _ _ old new computed reads c.in_ok-sync_written.ensures.ok (g.met.D.Disk.leaves_content c.sync_written.new.disk)
          (g.D.Disk.view c.lay.new.disk) c.lay.ensures.images c.lay.ensures.time c.lay.ensures.trail c.in_ok-lay.ensures.durable c.in_ok-lay.ensures.found _ c.turn.ensures.images c.turn.ensures.time,
    )

pub returns-clause-kept : goal.returns-clause-kept
returns-clause-kept g c old new computed = (
  turn_stands _ (g.D.Disk.view c.sync_written.new.disk) _ _ _ old new computed (synced g (goal.at.returns-clause-kept g c).After-sync_written) c.in_ok-sync_written.ensures.ok (g.met.D.Disk.leaves_content c.sync_written.new.disk)
      (g.D.Disk.view c.lay.new.disk) c.lay.ensures.images c.lay.ensures.time c.lay.ensures.trail c.in_ok-lay.ensures.durable c.in_ok-lay.ensures.found _ c.turn.ensures.images c.turn.ensures.time
      (g.met.D.Disk.leaves_content c.lay.new.disk) (g.met.D.Disk.leaves_content c.turn.new.disk) c.in_ok-turn.ensures.durable,
  next_of _ (g.D.Disk.view c.sync_written.new.disk) _ _ _ old new computed (synced g (goal.at.returns-clause-kept g c).After-sync_written) c.in_ok-sync_written.ensures.ok (g.met.D.Disk.leaves_content c.sync_written.new.disk) c.turn.new.self c.in_ok-turn.ensures.ok,
)

pub returns-clause-images : goal.returns-clause-images
returns-clause-images g c few =
    turned g (goal.at.returns-clause-images g c).After-turn (laid g (goal.at.returns-clause-images g c).After-lay (synced g (goal.at.returns-clause-images g c).After-sync_written) c.in_ok-sync_written.ensures.ok) c.in_ok-lay.ensures.durable few

pub returns-in_err-sync_written-clause-trail : goal.returns-in_err-sync_written-clause-trail
returns-in_err-sync_written-clause-trail g c old new computed =
    let reads = synced g (goal.at.returns-in_err-sync_written-clause-trail g c).After-sync_written in (
      synced_trail _ (g.D.Disk.view c.sync_written.new.disk) _ _ _ old new computed reads,
      λ was is. synced_paid _ (g.D.Disk.view c.sync_written.new.disk) _ _ _ old new computed reads was,
      synced_either _ (g.D.Disk.view c.sync_written.new.disk) _ _ _ old new computed reads,
    )

pub returns-clause-disk : goal.returns-clause-disk
returns-clause-disk g c few =
    laid_superblock _ (g.D.Disk.view c.sync_written.new.disk) (g.D.Disk.view c.lay.new.disk) _ c.args.slot _ c.args.journal.now.mem c.args.journal.now.active c.requires.fits.0
    (synced g (goal.at.returns-clause-disk g c).After-sync_written) c.in_ok-sync_written.ensures.ok c.lay.ensures.images c.lay.ensures.time c.in_ok-lay.ensures.found c.turn.ensures.images c.turn.ensures.time few
