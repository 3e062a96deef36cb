use Rattle.std.proofs.Common.{sym, subst, ◌∙◌, arith}
use Rattle.strat_array.specs.Kept.{Blocks}
use Rattle.strat_open.specs.Following.{IsOpenedAs}
use Rattle.strat_cursor.specs.Looking.{AreOfOldArrays}
use Rattle.strat_memory.specs.Admitting.{chained_of}
use Rattle.strat_memory.specs.RecoveredFields.{held_of}
use Rattle.def_crash.proofs.MomentLemmas.{since_now}
use Rattle.strat_store.proofs.StagingLemmas.{ever_joined, fits_none, replies_none}
use Rattle.strat_store.proofs.store.Store.attach.Goals as goal

pub returns-in-Ok-clause-ok : goal.returns-in-Ok-clause-ok
returns-in-Ok-clause-ok g c = (
  subst (λ (cached : Blocks). IsOpenedAs (g.D.Disk.view c.args.disk.now) (g.D.Disk.view c.open.new.disk) (held_of c.in-Ok.held cached)) (sym c.in_ok-cache.ensures.ok) (c.in-Ok.ensures.ok 256),
  c.in_ok-cache.ensures.ok,
  c.in-Ok.ensures.kept c.in_ok-cache.cache,
)

pub returns-in_err-cache-clause-trail : goal.returns-in_err-cache-clause-trail
returns-in_err-cache-clause-trail g c = λ f exposed each image since.
    let left = since_now _ image since in
    let shown = each image left in
    record { table = shown.0; shows = shown.1; image = image; left = left; same = shown.1 }

pub invariant_of-result : goal.invariant_of-result
invariant_of-result g c calm = (
  ever_joined c.in-Ok.held c.in-Ok.ensures.kept,
  subst (λ (cached : Blocks). AreOfOldArrays (chained_of c.in-Ok.held.published).manifest.next_array cached) (sym c.in_ok-cache.ensures.ok) (λ k x there. absurd (omega (arith, there.1))),
  c.new.ensures.ok ∙ sym (replies_none (held_of c.in-Ok.held c.in_ok-cache.cache) (c.in-Ok.ensures.kept c.in_ok-cache.cache).log.batch),
  fits_none c.in-Ok.held.journal (c.in-Ok.ensures.kept c.in_ok-cache.cache).log.batch,
)
