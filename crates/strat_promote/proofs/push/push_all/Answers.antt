use Rattle.std.proofs.Common.{◌≡◌, ◌++◌, ◌+◌, ℕ, inl, inr, List, take, ap, ◌∙◌, subst, arith}
use Rattle.std.specs.Prelude.{MatchResult}
use Rattle.std.proofs.lemmas.List.{length-map, take_all}
use Rattle.strat_arena.specs.Items.{entry_of_item, entries_of}
use Rattle.strat_base.specs.Entries.{Entry}
use Rattle.strat_base.specs.EntryBytes.{fits_fields}
use Rattle.strat_base.specs.EntryView.{entry_of}
use Rattle.strat_array.specs.Pushed.{IsPushed}
use Rattle.strat_base.proofs.ResultFacts.{err_of}
use Rattle.strat_promote.proofs.ObstacleLemmas.{gives_kept}
use Rattle.strat_promote.specs.Obstacles.{MeetsObstacle}
use Rattle.strat_promote.proofs.PushingLemmas.{item_next, pending_rises, one_more_pushed}
use Rattle.strat_promote.proofs.SpacesLemmas.{takes_trans, torn_on}
use Rattle.strat_promote.proofs.ZeroLemmas.{passes_at}
use Rattle.strat_promote.proofs.push.push_all.Goals as goal

pub push_one-requires-clause-fits : goal.push_one-requires-clause-fits
push_one-requires-clause-fits g c =
    ap fits_fields c.entry.ensures ∙ passes_at fits_fields c.args.arena.now.pairs c.args.items.now c.loop-item.item-index _ c.requires.fits c.loop-item-test.true

pub push_one-requires-clause-kept : goal.push_one-requires-clause-kept
push_one-requires-clause-kept g c =
    pending_rises c.loop-item.writer.pending c.args.writer.now.pending (entries_of c.args.arena.now.pairs c.args.items.now) c.loop-item.item-index (entry_of c.entry.result) c.requires.kept
    (item_next c.args.arena.now.pairs c.args.items.now c.loop-item.item-index _ (entry_of c.entry.result) c.loop-item-test.true c.entry.ensures)
    c.loop-item.invariant.0.end

pub returns-in_err-push_one-clause-room : goal.returns-in_err-push_one-clause-room
returns-in_err-push_one-clause-room g c =
    takes_trans c.args.space.now c.loop-item.space c.push_one.new.space c.args.writer.now.extents c.loop-item.writer.extents c.push_one.new.writer.extents c.loop-item.invariant.0.takes c.push_one.ensures.room

pub returns-in_err-push_one-clause-same : goal.returns-in_err-push_one-clause-same
returns-in_err-push_one-clause-same g c =
    let before = c.loop-item.invariant.0 in (
      torn_on c.args.space.now c.loop-item.space c.args.writer.now.extents c.loop-item.writer.extents (g.D.Disk.view c.args.disk.now) (g.D.Disk.view c.loop-item.disk) (g.D.Disk.view c.push_one.new.disk)
          before.takes before.torn c.push_one.ensures.same.0,
      c.push_one.ensures.same.1 ∙ before.id,
    )

pub returns-in_err-push_one-clause-fits : goal.returns-in_err-push_one-clause-fits
returns-in_err-push_one-clause-fits g c = λ unfit.
    let before = c.loop-item.invariant in
    let count = before.3 in
    let most = before.4 in
    let first = before.0.takes.first in
    elim (c.in_err-push_one.ensures.fits (err_of c.from_residual.result _ _ c.from_residual.ensures.1 unfit)) [
      | inl full ↦ inl (omega (arith, full, count, c.loop-item-test.true))
      | inr none ↦ inr (omega (arith, none, most, first))
    ]

pub returns-in_err-push_one-clause-used : goal.returns-in_err-push_one-clause-used
returns-in_err-push_one-clause-used g c = let one = c.push_one.ensures.used in let most = c.loop-item.invariant.4 in omega (arith, one, most, c.loop-item-test.true)

pub returns-in_err-push_one-clause-cause : goal.returns-in_err-push_one-clause-cause
returns-in_err-push_one-clause-cause g c =
    let same = c.loop-item.invariant.1 in
    subst (λ (n : ℕ). MatchResult c.from_residual.result (λ u. g.D.Disk.faults c.push_one.new.disk ≡ n) (λ e. MeetsObstacle e n (g.D.Disk.faults c.push_one.new.disk))) same
    (gives_kept c.from_residual.result _ _ _ c.from_residual.ensures.1 c.in_err-push_one.ensures.cause)

pub loop-item-preserved : goal.loop-item-preserved
loop-item-preserved g c = (
  one_more_pushed (g.D.Disk.view c.args.disk.now) (g.D.Disk.view c.loop-item.disk) (g.D.Disk.view c.push_one.new.disk) c.args.space.now c.loop-item.space c.push_one.new.space
      c.args.writer.now c.loop-item.writer c.push_one.new.writer (take c.loop-item.item-index (entries_of c.args.arena.now.pairs c.args.items.now))
      (take (c.loop-item.item-index + 1) (entries_of c.args.arena.now.pairs c.args.items.now)) (entry_of c.entry.result) c.loop-item.invariant.0
      (item_next c.args.arena.now.pairs c.args.items.now c.loop-item.item-index _ (entry_of c.entry.result) c.loop-item-test.true c.entry.ensures)
      c.push_one.ensures.same.1 c.push_one.ensures.room c.push_one.ensures.same.0 c.in_ok-push_one.ensures.state c.in_ok-push_one.ensures.ok,
  c.in_ok-push_one.ensures.cause ∙ c.loop-item.invariant.1,
  c.push_one.ensures.reads ∙ c.loop-item.invariant.2,
  (let one = c.in_ok-push_one.ensures.len in let before = c.loop-item.invariant.3 in omega (arith, one, before)),
  (let one = c.push_one.ensures.used in let most = c.loop-item.invariant.4 in omega (arith, one, most, c.loop-item-test.true)),
)

pub returns-clause-ok : goal.returns-clause-ok
returns-clause-ok g c = λ f h es told tells pushed.
    subst (λ (l : List Entry). IsPushed h c.loop-item.writer (es ++ l))
    (take_all c.loop-item.item-index (entries_of c.args.arena.now.pairs c.args.items.now) (omega (arith, c.loop-item-test.false, length-map c.args.items.now (entry_of_item c.args.arena.now.pairs))))
    (c.loop-item.invariant.0.pushed f h es told tells pushed)

pub returns-clause-used : goal.returns-clause-used
returns-clause-used g c = let most = c.loop-item.invariant.4 in omega (arith, most)
