use Rattle.std.proofs.Common.{◌≡◌, Some, inl, inr, arith}
use Rattle.def_crash.specs.Image.{Image}
use Rattle.def_bytes.specs.Layout.{region_at}
use Rattle.def_crash.proofs.MomentLemmas.{passes_trans}
use Rattle.strat_open.specs.Format.{IsBlank, KeepsOthers}
use Rattle.strat_open.proofs.OtherLemmas.{tears_keep, keep_trans}
use Rattle.strat_open.proofs.ShutLemmas.{StaysBlank, Shuts, shuts, blank_first, blank_second, blank_behind, blank_then, all_shut}
use Rattle.strat_open.proofs.formatting.shut_all.Given.{Over}
use Rattle.strat_open.proofs.formatting.shut_all.Goals as goal
use Rattle.strat_open.proofs.formatting.shut_all.Goals.{After-gate_ensure_shut, After-gate_ensure_shut-2, After-gate_ensure_shut-3, After-gate_ensure_shut-4}

pub returns-in_err-gate_ensure_shut-clause-images : goal.returns-in_err-gate_ensure_shut-clause-images
returns-in_err-gate_ensure_shut-clause-images g c = λ f exposed blank.
    (blank_first _ _ f (g.met.D.Disk.leaves_content c.args.disk.now) exposed (c.gate_ensure_shut.ensures.same f exposed) blank).each

-- up to the second gate
second : (g : Over) (c : After-gate_ensure_shut-2 g) (f : Image) → (g.D.Disk.view c.args.disk.now).content ≡ Some f → IsBlank (g.D.Disk.view c.args.disk.now)
    → StaysBlank (g.D.Disk.view c.args.disk.now) (g.D.Disk.view c.gate_ensure_shut-2.new.disk)
second g c f exposed blank =
    let first : Shuts f 0 (g.D.Disk.view c.gate_ensure_shut.new.disk) = shuts f 0 _ _ (c.in_ok-gate_ensure_shut.ensures.ok f exposed) in
    blank_then _ _ _ c.gate_ensure_shut.ensures.time c.gate_ensure_shut-2.ensures.time
    (blank_first _ _ f (g.met.D.Disk.leaves_content c.args.disk.now) exposed (c.gate_ensure_shut.ensures.same f exposed) blank)
    (blank_second _ _ first.content (g.met.D.Disk.leaves_content c.gate_ensure_shut.new.disk) first.exposed (c.gate_ensure_shut-2.ensures.same first.content first.exposed))

pub returns-in_err-gate_ensure_shut-2-clause-images : goal.returns-in_err-gate_ensure_shut-2-clause-images
returns-in_err-gate_ensure_shut-2-clause-images g c = λ f exposed blank.
    (second g (goal.at.returns-in_err-gate_ensure_shut-2-clause-images g c).After-gate_ensure_shut-2 f exposed blank).each

-- up to the third gate, and to the fourth
third : (g : Over) (c : After-gate_ensure_shut-3 g) → StaysBlank (g.D.Disk.view c.args.disk.now) (g.D.Disk.view c.gate_ensure_shut-2.new.disk)
    → StaysBlank (g.D.Disk.view c.args.disk.now) (g.D.Disk.view c.gate_ensure_shut-3.new.disk)
third g c slots =
    blank_then _ _ _ (passes_trans c.gate_ensure_shut.ensures.time c.gate_ensure_shut-2.ensures.time) c.gate_ensure_shut-3.ensures.time slots
    (λ mid. blank_behind _ _ c.region_at.result 1 (omega (arith, c.region_at.ensures.ok)) mid c.gate_ensure_shut-3.ensures.images)

fourth : (g : Over) (c : After-gate_ensure_shut-4 g) → StaysBlank (g.D.Disk.view c.args.disk.now) (g.D.Disk.view c.gate_ensure_shut-3.new.disk)
    → StaysBlank (g.D.Disk.view c.args.disk.now) (g.D.Disk.view c.gate_ensure_shut-4.new.disk)
fourth g c before =
    blank_then _ _ _ (passes_trans (passes_trans c.gate_ensure_shut.ensures.time c.gate_ensure_shut-2.ensures.time) c.gate_ensure_shut-3.ensures.time) c.gate_ensure_shut-4.ensures.time before
    (λ mid. blank_behind _ _ c.region_at-2.result 1 (omega (arith, c.region_at-2.ensures.ok)) mid c.gate_ensure_shut-4.ensures.images)

pub returns-in_err-gate_ensure_shut-3-clause-images : goal.returns-in_err-gate_ensure_shut-3-clause-images
returns-in_err-gate_ensure_shut-3-clause-images g c = λ f exposed blank.
    let at = goal.at.returns-in_err-gate_ensure_shut-3-clause-images g c in
    (third g at.After-gate_ensure_shut-3 (second g at.After-gate_ensure_shut-2 f exposed blank)).each

pub returns-in_err-gate_ensure_shut-4-clause-images : goal.returns-in_err-gate_ensure_shut-4-clause-images
returns-in_err-gate_ensure_shut-4-clause-images g c = λ f exposed blank.
    let at = goal.at.returns-in_err-gate_ensure_shut-4-clause-images g c in
    (fourth g at.After-gate_ensure_shut-4 (third g at.After-gate_ensure_shut-3 (second g at.After-gate_ensure_shut-2 f exposed blank))).each

pub returns-clause-images : goal.returns-clause-images
returns-clause-images g c = λ f exposed blank.
    let at = goal.at.returns-clause-images g c in
    (fourth g at.After-gate_ensure_shut-4 (third g at.After-gate_ensure_shut-3 (second g at.After-gate_ensure_shut-2 f exposed blank))).each

pub returns-clause-ok : goal.returns-clause-ok
returns-clause-ok g c = λ f exposed.
    let active_closes = rw c.region_at.ensures.ok at c.in_ok-gate_ensure_shut-3.ensures.ok in
    let other_closes = rw c.region_at-2.ensures.ok at c.in_ok-gate_ensure_shut-4.ensures.ok in
    let first : Shuts f 0 (g.D.Disk.view c.gate_ensure_shut.new.disk) = shuts f 0 _ _ (c.in_ok-gate_ensure_shut.ensures.ok f exposed) in
    let second : Shuts first.content 4096 (g.D.Disk.view c.gate_ensure_shut-2.new.disk) = shuts first.content 4096 _ _ (c.in_ok-gate_ensure_shut-2.ensures.ok first.content first.exposed) in
    let active : Shuts second.content (region_at c.args.mem 0) (g.D.Disk.view c.gate_ensure_shut-3.new.disk) = shuts second.content (region_at c.args.mem 0) _ _ (active_closes second.content second.exposed) in
    let other : Shuts active.content (region_at c.args.mem 1) (g.D.Disk.view c.gate_ensure_shut-4.new.disk) = shuts active.content (region_at c.args.mem 1) _ _ (other_closes active.content active.exposed) in
    all_shut c.args.mem f _ _ _ _ first second active other

-- what each gate that is shut leaves alone
kept_first : (g : Over) (c : After-gate_ensure_shut g) → KeepsOthers c.args.mem (g.D.Disk.view c.args.disk.now) (g.D.Disk.view c.gate_ensure_shut.new.disk)
kept_first g c = tears_keep c.args.mem 0 1 _ _ (λ i from to. inl (omega arith)) c.gate_ensure_shut.ensures.images

kept_second : (g : Over) (c : After-gate_ensure_shut-2 g) → KeepsOthers c.args.mem (g.D.Disk.view c.args.disk.now) (g.D.Disk.view c.gate_ensure_shut-2.new.disk)
kept_second g c =
    keep_trans c.args.mem _ _ _ c.gate_ensure_shut.ensures.time c.gate_ensure_shut-2.ensures.time
    (tears_keep c.args.mem 0 1 _ _ (λ i from to. inl (omega arith)) c.gate_ensure_shut.ensures.images)
    (tears_keep c.args.mem 4096 1 _ _ (λ i from to. inl (omega arith)) c.gate_ensure_shut-2.ensures.images)

kept_third : (g : Over) (c : After-gate_ensure_shut-3 g) → KeepsOthers c.args.mem (g.D.Disk.view c.args.disk.now) (g.D.Disk.view c.gate_ensure_shut-3.new.disk)
kept_third g c =
    keep_trans c.args.mem _ _ _ (passes_trans c.gate_ensure_shut.ensures.time c.gate_ensure_shut-2.ensures.time) c.gate_ensure_shut-3.ensures.time
    (kept_second g (goal.at.After-gate_ensure_shut-3 g c).After-gate_ensure_shut-2)
    (tears_keep c.args.mem c.region_at.result 1 _ _ (λ i from to. inr (inl (omega (arith, c.region_at.ensures.ok)))) c.gate_ensure_shut-3.ensures.images)

kept_fourth : (g : Over) (c : After-gate_ensure_shut-4 g) → KeepsOthers c.args.mem (g.D.Disk.view c.args.disk.now) (g.D.Disk.view c.gate_ensure_shut-4.new.disk)
kept_fourth g c =
    keep_trans c.args.mem _ _ _ (passes_trans (passes_trans c.gate_ensure_shut.ensures.time c.gate_ensure_shut-2.ensures.time) c.gate_ensure_shut-3.ensures.time) c.gate_ensure_shut-4.ensures.time
    (kept_third g (goal.at.After-gate_ensure_shut-4 g c).After-gate_ensure_shut-3)
    (tears_keep c.args.mem c.region_at-2.result 1 _ _ (λ i from to. inr (inr (inl (omega (arith, c.region_at-2.ensures.ok))))) c.gate_ensure_shut-4.ensures.images)

pub returns-in_err-gate_ensure_shut-clause-kept : goal.returns-in_err-gate_ensure_shut-clause-kept
returns-in_err-gate_ensure_shut-clause-kept g c = kept_first g (goal.at.returns-in_err-gate_ensure_shut-clause-kept g c).After-gate_ensure_shut

pub returns-in_err-gate_ensure_shut-2-clause-kept : goal.returns-in_err-gate_ensure_shut-2-clause-kept
returns-in_err-gate_ensure_shut-2-clause-kept g c = kept_second g (goal.at.returns-in_err-gate_ensure_shut-2-clause-kept g c).After-gate_ensure_shut-2

pub returns-in_err-gate_ensure_shut-3-clause-kept : goal.returns-in_err-gate_ensure_shut-3-clause-kept
returns-in_err-gate_ensure_shut-3-clause-kept g c = kept_third g (goal.at.returns-in_err-gate_ensure_shut-3-clause-kept g c).After-gate_ensure_shut-3

pub returns-in_err-gate_ensure_shut-4-clause-kept : goal.returns-in_err-gate_ensure_shut-4-clause-kept
returns-in_err-gate_ensure_shut-4-clause-kept g c = kept_fourth g (goal.at.returns-in_err-gate_ensure_shut-4-clause-kept g c).After-gate_ensure_shut-4

pub returns-clause-kept : goal.returns-clause-kept
returns-clause-kept g c = kept_fourth g (goal.at.returns-clause-kept g c).After-gate_ensure_shut-4
