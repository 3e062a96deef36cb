use Rattle.std.proofs.Common.{◌≡◌, length, List, Some, sym, ap, ◌∙◌, subst, arith}
use Rattle.std.specs.List.{slice_get}
use Rattle.std.proofs.lemmas.List.{take_all}
use Rattle.std.proofs.lemmas.Option.{slice_get-get_or}
use Rattle.def_crash.proofs.MomentLemmas.{reads_trans}
use Rattle.def_recovery.specs.Opened.{array_on}
use Rattle.def_state.specs.Level.{TaggedArray}
use Rattle.strat_check.specs.Walked.{AreArraysTold}
use Rattle.strat_check.proofs.WalkLemmas.{array_of, level_of, all_some_at, one_looked, arrays_more, slice_at, contained_in, reads_more, reads_front, length_arrays}
use Rattle.strat_check.proofs.level_walk.tell_arrays.Goals as goal

pub tell_one-requires-clause-fits : goal.tell_one-requires-clause-fits
tell_one-requires-clause-fits g c =
    c.requires.fits c.index-descs-i.result (contained_in c.args.level.now.arrays c.loop-i.i c.index-descs-i.result (slice_at c.args.level.now.arrays c.as_slice-descs.result.now c.loop-i.i c.index-descs-i.result c.as_slice-descs.ensures.ok c.loop-i-test.true c.index-descs-i.is))

pub tell_one-requires-clause-kept : goal.tell_one-requires-clause-kept
tell_one-requires-clause-kept g c =
    c.requires.kept c.index-descs-i.result (contained_in c.args.level.now.arrays c.loop-i.i c.index-descs-i.result (slice_at c.args.level.now.arrays c.as_slice-descs.result.now c.loop-i.i c.index-descs-i.result c.as_slice-descs.ensures.ok c.loop-i-test.true c.index-descs-i.is))

pub returns-in_err-one-clause-same : goal.returns-in_err-one-clause-same
returns-in_err-one-clause-same g c = reads_trans c.loop-i.invariant.same c.tell_one.ensures.same

pub returns-in_err-one-clause-reads : goal.returns-in_err-one-clause-reads
returns-in_err-one-clause-reads g c =
    reads_front c.args.level.now.arrays _ _ _
    (reads_more c.args.level.now.arrays c.loop-i.i c.index-descs-i.result _ _ _ (slice_at c.args.level.now.arrays c.as_slice-descs.result.now c.loop-i.i c.index-descs-i.result c.as_slice-descs.ensures.ok c.loop-i-test.true c.index-descs-i.is)
    c.loop-i.invariant.reads c.tell_one.ensures.reads)

pub loop-i-preserved : goal.loop-i-preserved
loop-i-preserved g c =
    let inv = c.loop-i.invariant in
    let desc_at : slice_get c.args.level.now.arrays c.loop-i.i ≡ Some c.index-descs-i.result = slice_at c.args.level.now.arrays c.as_slice-descs.result.now c.loop-i.i c.index-descs-i.result c.as_slice-descs.ensures.ok c.loop-i-test.true c.index-descs-i.is in
    let few = ap (λ xs. length xs) c.as_slice-descs.ensures.ok in
    record {
      told = λ f s on groups exposed same at looked.
          let its = level_of f c.args.level.now on at in
          let a = all_some_at (array_on f) c.args.level.now.arrays on.arrays c.loop-i.i c.index-descs-i.result its.arrays desc_at in
          let one = one_looked s on groups c.args.scans.now c.args.strays.now c.args.leads.now c.loop-i.i a.0 _ _ looked a.1
          (slice_get-get_or c.args.scans.now c.loop-i.i _ (omega (arith, c.requires.room.0, few, c.loop-i-test.true))) (slice_get-get_or c.args.strays.now c.loop-i.i _ (omega (arith, c.requires.room.1, few, c.loop-i-test.true))) in
          arrays_more s on c.loop-i.told c.with-told.result c.loop-i.i a.0 c.args.level.now.number c.index-descs-i.result.id c.in_ok-one.one (sym its.number) (sym (array_of f c.index-descs-i.result a.0 a.2).id) a.1
          (inv.told f s on groups exposed same at looked) (c.in_ok-one.ensures.ok f s on a.0 groups (inv.same.same ∙ exposed) same a.2 one) c.with-told.ensures.ok c.with-told.ensures.len;
      size = c.tell_one.ensures.len ∙ inv.size;
      placed = c.tell_one.ensures.state ∙ inv.placed;
      same = reads_trans inv.same c.tell_one.ensures.same;
      faults = c.in_ok-one.ensures.cause.ok ∙ inv.faults;
      reads = reads_more c.args.level.now.arrays c.loop-i.i c.index-descs-i.result _ _ _ desc_at inv.reads c.tell_one.ensures.reads;
    }

pub returns-clause-ok : goal.returns-clause-ok
returns-clause-ok g c = λ f s on groups exposed same at looked.
    let count = length_arrays f c.args.level.now on at in
    let few = ap (λ xs. length xs) c.as_slice-descs.ensures.ok in
    subst (λ (xs : List TaggedArray). AreArraysTold s on xs c.loop-i.told) (take_all c.loop-i.i on.arrays (omega (arith, count, few, c.loop-i-test.false))) (c.loop-i.invariant.told f s on groups exposed same at looked)
