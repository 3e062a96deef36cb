use Rattle.std.proofs.Common.{◌≡◌, ◌∙◌, ℕ, true, ltb, List, [], length, map, sym, ap, subst, arith, IsTrue}
use Rattle.std.specs.List.{list_all, flat_map, Contains}
use Rattle.strat_base.specs.declared.descriptors.ArrayDesc.{ArrayDesc}
use Rattle.strat_base.proofs.ResultFacts.{err_of}
use Rattle.def_crash.proofs.MomentLemmas.{reads_trans}
use Rattle.def_state.specs.Level.{TaggedArray, is_distinct}
use Rattle.def_check.specs.Marked.{marked_runs, kept_below}
use Rattle.strat_merge.specs.Runs.{lefts, blocks_left, IsBadFor}
use Rattle.strat_merge.specs.MergerFields.{views_of}
use Rattle.strat_promote.specs.Opening.{IsBlamed}
use Rattle.strat_check.specs.LevelPasses.{AreGroupsCounted, IsCountingLevel}
use Rattle.strat_check.specs.LevelRuns.{is_in_order, kept_on}
use Rattle.strat_check.specs.MarkedRuns.{marked_seen}
use Rattle.strat_check.specs.declared.marked_run.MarkedRun.{MarkedRun}
use Rattle.strat_check.proofs.LevelPassLemmas.{counted_none, level_counted}
use Rattle.strat_check.proofs.LevelOnLemmas.{level_is, tags_apart}
use Rattle.strat_check.proofs.LevelRunLemmas.{pass_blamed}
use Rattle.strat_check.proofs.level_count.count_level.Goals as goal

pub owners_of-requires-clause-fits : goal.owners_of-requires-clause-fits
owners_of-requires-clause-fits g c =
    let low : (a : ArrayDesc) → Contains c.as_slice-arrays.result.now a → IsTrue (list_all (λ v. ltb v c.count-versions.result) a.versions) =
    λ a here. subst (λ (n : ℕ). IsTrue (list_all (λ v. ltb v n) a.versions)) (sym c.count-versions.ensures.ok) (c.requires.kept a (subst (λ (xs : List ArrayDesc). Contains xs a) c.as_slice-arrays.ensures.ok here)) in
    low

pub open_runs-requires-clause-fits : goal.open_runs-requires-clause-fits
open_runs-requires-clause-fits g c = λ a here. c.requires.fits a (subst (λ (xs : List ArrayDesc). Contains xs a) c.as_slice-arrays.ensures.ok here)

pub count_groups-requires-clause-fits : goal.count_groups-requires-clause-fits
count_groups-requires-clause-fits g c =
    let low : (a : ArrayDesc) → Contains c.as_slice-arrays.result.now a → IsTrue (list_all (λ v. ltb v (length c.args.tree.now.parents)) a.versions) =
    λ a here. c.requires.kept a (subst (λ (xs : List ArrayDesc). Contains xs a) c.as_slice-arrays.ensures.ok here) in
    low

pub returns-in_err-count_groups-clause-damaged : goal.returns-in_err-count_groups-clause-damaged
returns-in_err-count_groups-clause-damaged g c = λ b torn.
    let reads = c.in_err-count_groups.ensures.reads in
    let is = err_of c.from_residual-in_err-count_groups.result _ _ c.from_residual-in_err-count_groups.ensures.1 torn in
    subst (λ (xs : List ArrayDesc). IsBlamed (g.D.Disk.view c.args.disk.now) xs b) c.as_slice-arrays.ensures.ok
    (pass_blamed c.count-versions.result (g.D.Disk.view c.args.disk.now) (g.D.Disk.view c.open_runs.new.disk) c.as_slice-arrays.result.now (map marked_seen c.in_ok-runs.runs.items) _ _ c.in_ok-runs.ensures.ok
    c.open_runs.ensures.same b (subst (λ (runs : List MarkedRun). Contains (blocks_left (map marked_seen runs)) b) c.in_ok-merging.ensures.ok (reads.named b is))
    (λ f told. subst (λ (runs : List MarkedRun). IsBadFor (map marked_seen runs) f b) c.in_ok-merging.ensures.ok (reads.blamed b is f told)))

pub returns-in_err-count_groups-clause-same : goal.returns-in_err-count_groups-clause-same
returns-in_err-count_groups-clause-same g c = reads_trans c.open_runs.ensures.same c.count_groups.ensures.reads.same

pub returns-clause-same : goal.returns-clause-same
returns-clause-same g c = reads_trans c.open_runs.ensures.same c.count_groups.ensures.reads.same

pub returns-clause-ok : goal.returns-clause-ok
returns-clause-ok g c = λ f on told is may old total.
    let tree = c.args.tree.now.parents in
    let arrays = c.as_slice-arrays.ensures.ok in
    let n = c.count-versions.ensures.ok in
    let are = level_is f c.args.level.now on is in
    let tags : map (λ (a : ArrayDesc). a.versions) c.as_slice-arrays.result.now ≡ map (λ (a : TaggedArray). a.tag) on.arrays = ap (map (λ (a : ArrayDesc). a.versions)) arrays ∙ are.tags in
    let runs = marked_runs 0 (map (λ (a : TaggedArray). a.content) (map (kept_below (length tree)) on.arrays)) in
    let order : list_all (is_in_order f) c.as_slice-arrays.result.now ≡ true = ap (list_all (is_in_order f)) arrays ∙ are.ordered may.ascending in
    let left : lefts f (views_of marked_seen c.in_ok-merging.merging.merger) ≡ runs =
    ap (λ (rs : List MarkedRun). lefts f (map marked_seen rs)) c.in_ok-merging.ensures.ok
    ∙ c.in_ok-runs.ensures.ok.left f told order
    ∙ (λ j. marked_runs 0 (map (kept_on f (n j)) (arrays j)))
    ∙ ap (marked_runs 0) (are.kept (length tree)) in
    let apart : is_distinct (flat_map (λ (a : ArrayDesc). a.versions) c.as_slice-arrays.result.now) ≡ true = ap (λ (xs : List ArrayDesc). is_distinct (flat_map (λ (a : ArrayDesc). a.versions) xs)) arrays ∙ tags_apart f c.args.level.now on is may in
    let counting : IsCountingLevel tree (map (λ (a : ArrayDesc). a.versions) c.as_slice-arrays.result.now) runs (lefts f (views_of marked_seen c.in_ok-merging.merging.merger)) c.in_ok-found.found.items c.clear.new.self =
    record { groups = []; merged = left; counted = counted_none tree (map (λ (a : ArrayDesc). a.versions) c.as_slice-arrays.result.now) c.in_ok-found.found.items c.clear.new.self (c.clear.ensures.ok tree c.requires.len.0 c.requires.len.1) c.in_ok-found.ensures.ok } in
    let counted = c.in_ok-count_groups.ensures.ok c.if-not-branch.false f runs (c.open_runs.ensures.same.same ∙ told) (c.in_ok-owners.ensures.ok apart) counting in
    level_counted tree c.count-versions.ensures.kept on may old (omega (arith, are.len, c.requires.room)) counted.groups counted.merged c.count_groups.new.pass.found.items c.count_groups.new.sights c.finish.new.self
    (subst (λ (ts : List (List ℕ)). AreGroupsCounted tree ts counted.groups c.count_groups.new.pass.found.items c.count_groups.new.sights) tags counted.counted) total c.finish.ensures.ok

pub returns-then-not-branch-clause-same : goal.returns-then-not-branch-clause-same
returns-then-not-branch-clause-same g c = reads_trans c.open_runs.ensures.same c.count_groups.ensures.reads.same
