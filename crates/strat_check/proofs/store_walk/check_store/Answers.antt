use Rattle.std.proofs.Common.{◌≡◌, ◌≤◌, ◌^◌, true, length, List, map, sym, ap, ◌∙◌, subst, arith, true≢false}
use Rattle.std.specs.List.{find, sum_by}
use Rattle.strat_base.proofs.ResultFacts.{err_of, if_ok_then}
use Rattle.strat_base.specs.Tree.{Parents}
use Rattle.strat_base.specs.declared.descriptors.LevelDesc.{LevelDesc}
use Rattle.strat_base.specs.declared.failures.Trouble.TheVariants as trouble
use Rattle.def_bytes.specs.Arrays.{all_some}
use Rattle.def_bytes.specs.Manifest.{Manifest}
use Rattle.def_check.specs.Checked.{is_unread}
use Rattle.def_crash.proofs.MomentLemmas.{reads_trans}
use Rattle.def_publish.specs.Occupied.{arrays_in}
use Rattle.def_recovery.proofs.HeadLemmas.{counts_said}
use Rattle.def_recovery.specs.Opened.{level_on}
use Rattle.def_state.specs.Level.{Level}
use Rattle.def_state.specs.Sound.{has_ascending_entries}
use Rattle.strat_promote.specs.Job.{blocks_listed}
use Rattle.strat_check.specs.Fit.{are_fit}
use Rattle.strat_check.specs.Places.{first_in_arrays}
use Rattle.strat_check.specs.StoreScans.{scans_of, content_scanned}
use Rattle.strat_check.specs.declared.store_walk.StoreScans.{StoreScans}
use Rattle.strat_check.proofs.BeginLemmas.{all_ascend, unordered_first}
use Rattle.def_recovery.specs.Head.{head_versions}
use Rattle.strat_check.proofs.FitFound.{found_fit}
use Rattle.strat_check.proofs.FitLemmas.{all_within, blocks_few}
use Rattle.strat_check.proofs.HeadLemmas.{state_made, may_be_told, none_bad, blamed_head}
use Rattle.strat_check.proofs.StoreLemmas.{reads_few, reads_thrice}
use Rattle.strat_check.proofs.store_walk.check_store.Given.{Over}
use Rattle.strat_check.proofs.store_walk.check_store.Goals as goal
use Rattle.strat_check.proofs.store_walk.check_store.Goals.{After-scan_levels}

levels_same : (g : Over) (c : After-scan_levels g) → c.as_slice-levels.result.now ≡ c.args.store.now.manifest.levels
levels_same g c = c.as_slice-levels.ensures.ok ∙ ap (λ (m : Manifest). m.levels) c.manifest.ensures.ok

fit : (g : Over) (c : After-scan_levels g) → are_fit c.versions.result c.as_slice-levels.result.now ≡ true
fit g c = sym c.are_fit.ensures.ok ∙ c.if-not-are_fit.false

pub scan_levels-requires : goal.scan_levels-requires
scan_levels-requires g c = record { fits = all_within c.versions.result c.as_slice-levels.result.now (sym c.are_fit.ensures.ok ∙ c.if-not-are_fit.false) }

pub returns-then-not-are_fit-clause-damaged : goal.returns-then-not-are_fit-clause-damaged
returns-then-not-are_fit-clause-damaged g c = λ b torn f exposed found.
    let sound : are_fit (length (head_versions c.args.store.now)) c.args.store.now.manifest.levels ≡ true = found_fit f c.args.store.now found in
    let here : c.are_fit.result ≡ true =
    c.are_fit.ensures.ok ∙ (λ i. are_fit (c.versions.ensures.ok i) ((c.as_slice-levels.ensures.ok ∙ ap (λ (m : Manifest). m.levels) c.manifest.ensures.ok) i)) ∙ sound in
    absurd (true≢false (sym here ∙ c.if-not-are_fit.true))

pub tell_store-requires-clause-fits : goal.tell_store-requires-clause-fits
tell_store-requires-clause-fits g c =
    let same = c.as_slice-levels.ensures.ok ∙ ap (λ (m : Manifest). m.levels) c.manifest.ensures.ok in
    all_within c.versions.result c.args.store.now.manifest.levels (subst (λ (ls : List LevelDesc). are_fit c.versions.result ls ≡ true) same (sym c.are_fit.ensures.ok ∙ c.if-not-are_fit.false))

pub returns-in_err-scanned-clause-damaged : goal.returns-in_err-scanned-clause-damaged
returns-in_err-scanned-clause-damaged g c = λ b torn f exposed found.
    let bad = c.in_err-scanned.ensures.damaged b (err_of {U = StoreScans} c.from_residual.result c.in_err-scanned.field-0.0 (trouble.Damaged b) c.from_residual.ensures.1 torn) f exposed in
    blamed_head f c.args.store.now b (ap (λ (ls : List LevelDesc). find (is_unread f) (blocks_listed (arrays_in ls))) (sym (levels_same g (goal.at.returns-in_err-scanned-clause-damaged g c).After-scan_levels)) ∙ bad)

pub returns-in_err-scanned-clause-reads : goal.returns-in_err-scanned-clause-reads
returns-in_err-scanned-clause-reads g c =
    let after = (goal.at.returns-in_err-scanned-clause-reads g c).After-scan_levels in
    let few = blocks_few c.versions.result c.as_slice-levels.result.now (fit g after) in
    let same = ap (λ (ls : List LevelDesc). length (blocks_listed (arrays_in ls))) (levels_same g after) in
    (reads_few _ _ _ _ c.scan_levels.ensures.reads (omega (arith, few)), reads_few _ _ _ _ c.scan_levels.ensures.reads (omega (arith, same)))

pub returns-then-is_some-clause-reads : goal.returns-then-is_some-clause-reads
returns-then-is_some-clause-reads g c =
    let after = (goal.at.returns-then-is_some-clause-reads g c).After-scan_levels in
    let few = blocks_few c.versions.result c.as_slice-levels.result.now (fit g after) in
    let same = ap (λ (ls : List LevelDesc). length (blocks_listed (arrays_in ls))) (levels_same g after) in
    (reads_few _ _ _ _ c.scan_levels.ensures.reads (omega (arith, few)), reads_few _ _ _ _ c.scan_levels.ensures.reads (omega (arith, same)))

pub returns-then-is_some-clause-ok : goal.returns-then-is_some-clause-ok
returns-then-is_some-clause-ok g c = λ f exposed found.
    let are = c.in_ok-scanned.ensures.ok f exposed in
    let same = levels_same g (goal.at.returns-then-is_some-clause-ok g c).After-scan_levels in
    let made = state_made f c.args.store.now are.levels (ap (all_some (level_on f)) (sym same) ∙ are.on_disk) in (
      made.0,
      made.1,
      unordered_first made.0 c.in_ok-scanned.scanned.unordered (are.first ∙ ap (first_in_arrays 109 (λ level. has_ascending_entries)) (sym made.2)) (sym c.is_some.ensures ∙ c.if-is_some.true),
    )

pub returns-clause-ok : goal.returns-clause-ok
returns-clause-ok g c =
    let after = (goal.at.returns-clause-ok g c).After-scan_levels in
    if_ok_then c.tell_store.result c.tell_store.ensures.ok (λ broken told f exposed found.
    let are = c.in_ok-scanned.ensures.ok f exposed in
    let same = levels_same g after in
    let made = state_made f c.args.store.now are.levels (ap (all_some (level_on f)) (sym same) ∙ are.on_disk) in
    let ascend = all_ascend made.0 c.in_ok-scanned.scanned.unordered (are.first ∙ ap (first_in_arrays 109 (λ level. has_ascending_entries)) (sym made.2)) (sym c.is_some.ensures ∙ c.if-is_some.false) in
    let most = blocks_few c.versions.result c.as_slice-levels.result.now (fit g after) in
    let content = are.few in
    let there = ap (λ (ls : List Level). sum_by content_scanned ls) made.2 in
    let few : sum_by content_scanned made.0.levels ≤ 2 ^ 48 = omega (arith, most, content, there) in
    let may = may_be_told f c.args.store.now made.0 found made.1 ascend few in
    let n = c.versions-2.ensures.ok ∙ ap (λ (ps : Parents). length ps) (counts_said f c.args.store.now made.0 made.1).0 in
    (made.0, made.1, told f made.0 (c.scan_levels.ensures.same.same ∙ exposed) found made.1 may ascend (c.deref.ensures.value ∙ are.scanned ∙ (λ i. map (scans_of (n i)) (sym made.2 i)))))

pub returns-clause-damaged : goal.returns-clause-damaged
returns-clause-damaged g c = λ b torn f exposed found.
    let after = (goal.at.returns-clause-damaged g c).After-scan_levels in
    let are = c.in_ok-scanned.ensures.ok f exposed in
    let same = levels_same g after in
    let made = state_made f c.args.store.now are.levels (ap (all_some (level_on f)) (sym same) ∙ are.on_disk) in
    let ascend = all_ascend made.0 c.in_ok-scanned.scanned.unordered (are.first ∙ ap (first_in_arrays 109 (λ level. has_ascending_entries)) (sym made.2)) (sym c.is_some.ensures ∙ c.if-is_some.false) in
    absurd (none_bad f c.args.store.now made.0 b made.1 ascend (c.tell_store.ensures.damaged b torn f (c.scan_levels.ensures.same.same ∙ exposed)))

pub returns-clause-same : goal.returns-clause-same
returns-clause-same g c = reads_trans c.scan_levels.ensures.same c.tell_store.ensures.same

pub returns-clause-reads : goal.returns-clause-reads
returns-clause-reads g c =
    let after = (goal.at.returns-clause-reads g c).After-scan_levels in
    let few = blocks_few c.versions.result c.as_slice-levels.result.now (fit g after) in
    let same = ap (λ (ls : List LevelDesc). length (blocks_listed (arrays_in ls))) (levels_same g after) in
    let reads = reads_thrice _ _ _ _ _ c.scan_levels.ensures.reads c.tell_store.ensures.reads same in
    (reads_few _ _ _ _ reads (omega (arith, few, same)), reads)
