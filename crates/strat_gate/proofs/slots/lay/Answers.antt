use Rattle.std.proofs.Common.{◌≡◌, ◌*◌, ◌+◌, [], ◌∷◌, Some, length, inl, arith}
use Rattle.def_crash.specs.Image.{Image, patch}
use Rattle.def_crash.specs.Moments.{Since, TearsOnly}
use Rattle.def_bytes.specs.SuperBlock.{body}
use Rattle.def_crash.proofs.MomentLemmas.{at_told, passes_trans, tears_trans, tears_wider}
use Rattle.def_bytes.proofs.SuperBlockLemmas.{length-body}
use Rattle.strat_gate.specs.SuperView.{super_of}
use Rattle.strat_gate.specs.Laying.{LaysOver, OldOrNew}
use Rattle.strat_gate.proofs.LayingLemmas.{closing, closed, bodied, raised, to_second, to_third, content_laid}
use Rattle.strat_gate.proofs.slots.lay.Given.{Over}
use Rattle.strat_gate.proofs.slots.lay.Goals as goal
use Rattle.strat_gate.proofs.slots.lay.Goals.{After-gate_raise}

pub returns-in_err-gate_ensure_shut-clause-trail : goal.returns-in_err-gate_ensure_shut-clause-trail
returns-in_err-gate_ensure_shut-clause-trail g c = λ f lays d since.
    inl (closing f c.args.slot (super_of c.args.sb.now) c.requires.fits.0 c.requires.fits.1 _ lays _ c.gate_ensure_shut.ensures.images (c.gate_ensure_shut.ensures.same f lays.content) d since)

pub returns-in_err-gate_ensure_shut-clause-images : goal.returns-in_err-gate_ensure_shut-clause-images
returns-in_err-gate_ensure_shut-clause-images g c = tears_wider _ _ _ _ _ _ (omega arith) (omega arith) c.gate_ensure_shut.ensures.images

pub returns-in_err-write_body-clause-trail : goal.returns-in_err-write_body-clause-trail
returns-in_err-write_body-clause-trail g c = λ f lays.
    let shut = closed f c.args.slot (super_of c.args.sb.now) c.requires.fits.0 c.requires.fits.1 _ lays _ c.gate_ensure_shut.ensures.time (c.in_ok-gate_ensure_shut.ensures.ok f lays.content) in
    to_second f c.args.slot (super_of c.args.sb.now) c.requires.fits.0 c.requires.fits.1 _ lays _ _
    c.write_body.ensures.ok.time c.gate_ensure_shut.ensures.images (c.gate_ensure_shut.ensures.same f lays.content) shut c.write_body.ensures.ok.images

pub returns-in_err-write_body-clause-images : goal.returns-in_err-write_body-clause-images
returns-in_err-write_body-clause-images g c =
    let len : length (body (super_of c.args.sb.now)) ≡ 4095 = length-body (super_of c.args.sb.now) in
    tears_trans _ _ _ _ _ c.gate_ensure_shut.ensures.time c.write_body.ensures.ok.time
    (tears_wider _ _ _ _ _ _ (omega arith) (omega arith) c.gate_ensure_shut.ensures.images)
    (tears_wider _ _ _ _ _ _ (omega arith) (omega arith) c.write_body.ensures.ok.images)

-- what each phase left, up to the third
third : (g : Over) (c : After-gate_raise g) (f : Image) → LaysOver (g.D.Disk.view c.args.disk.now) f c.args.slot (super_of c.args.sb.now)
    → (d : Image) → Since (g.D.Disk.view c.gate_raise.new.disk) (g.D.Disk.view c.args.disk.now).moment d → OldOrNew f c.args.slot (super_of c.args.sb.now) d
third g c f lays =
    let shut = closed f c.args.slot (super_of c.args.sb.now) c.requires.fits.0 c.requires.fits.1 _ lays _ c.gate_ensure_shut.ensures.time (c.in_ok-gate_ensure_shut.ensures.ok f lays.content) in
    let behind = bodied f c.args.slot (super_of c.args.sb.now) c.requires.fits.0 c.requires.fits.1 _ lays _ _ shut
    (at_told _ (λ (g : Image). _ ≡ Some (patch g (4096 * c.args.slot + 1) (body (super_of c.args.sb.now)))) shut.content shut.exposed c.in_ok-write_body.ensures.ok.content)
    c.in_ok-write_body.ensures.ok.settled in
    to_third f c.args.slot (super_of c.args.sb.now) c.requires.fits.0 c.requires.fits.1 _ lays _ _ _
    c.write_body.ensures.ok.time c.gate_raise.ensures.ok.time c.gate_ensure_shut.ensures.images (c.gate_ensure_shut.ensures.same f lays.content) shut
    c.write_body.ensures.ok.images behind c.gate_raise.ensures.ok.images

all_images : (g : Over) (c : After-gate_raise g) → TearsOnly (g.D.Disk.view c.args.disk.now) (g.D.Disk.view c.gate_raise.new.disk) (4096 * c.args.slot) 4096
all_images g c =
    let len : length (body (super_of c.args.sb.now)) ≡ 4095 = length-body (super_of c.args.sb.now) in
    tears_trans _ _ _ _ _ (passes_trans c.gate_ensure_shut.ensures.time c.write_body.ensures.ok.time) c.gate_raise.ensures.ok.time
    (tears_trans _ _ _ _ _ c.gate_ensure_shut.ensures.time c.write_body.ensures.ok.time
    (tears_wider _ _ _ _ _ _ (omega arith) (omega arith) c.gate_ensure_shut.ensures.images)
    (tears_wider _ _ _ _ _ _ (omega arith) (omega arith) c.write_body.ensures.ok.images))
    (tears_wider _ _ _ _ _ _ (omega arith) (omega arith) c.gate_raise.ensures.ok.images)

pub returns-in_err-gate_raise-clause-trail : goal.returns-in_err-gate_raise-clause-trail
returns-in_err-gate_raise-clause-trail g c = third g (goal.at.returns-in_err-gate_raise-clause-trail g c).After-gate_raise

pub returns-in_err-gate_raise-clause-images : goal.returns-in_err-gate_raise-clause-images
returns-in_err-gate_raise-clause-images g c = all_images g (goal.at.returns-in_err-gate_raise-clause-images g c).After-gate_raise

pub returns-clause-trail : goal.returns-clause-trail
returns-clause-trail g c = third g (goal.at.returns-clause-trail g c).After-gate_raise

pub returns-clause-images : goal.returns-clause-images
returns-clause-images g c = all_images g (goal.at.returns-clause-images g c).After-gate_raise

pub returns-clause-found : goal.returns-clause-found
returns-clause-found g c = λ f lays.
    let sb = super_of c.args.sb.now in
    let v2 = g.D.Disk.view c.write_body.new.disk in
    let shut = closed f c.args.slot sb c.requires.fits.0 c.requires.fits.1 _ lays _ c.gate_ensure_shut.ensures.time (c.in_ok-gate_ensure_shut.ensures.ok f lays.content) in
    let behind = bodied f c.args.slot sb c.requires.fits.0 c.requires.fits.1 _ lays (g.D.Disk.view c.gate_ensure_shut.new.disk) v2 shut
    (at_told _ (λ (g : Image). _ ≡ Some (patch g (4096 * c.args.slot + 1) (body sb))) shut.content shut.exposed c.in_ok-write_body.ensures.ok.content)
    c.in_ok-write_body.ensures.ok.settled in
    raised f c.args.slot sb c.requires.fits.0 c.requires.fits.1 _ lays v2 behind (g.D.Disk.view c.gate_raise.new.disk)
    (at_told _ (λ (h : Image). _ ≡ Some (patch h (4096 * c.args.slot) (0xa7 ∷ []))) behind.content behind.exposed c.in_ok-gate_raise.ensures.ok.content)
    c.in_ok-gate_raise.ensures.ok.settled

pub returns-clause-ok : goal.returns-clause-ok
returns-clause-ok g c = λ f exposed.
    content_laid f (4096 * c.args.slot) (body (super_of c.args.sb.now))
    _ (g.D.Disk.view c.gate_ensure_shut.new.disk) (g.D.Disk.view c.write_body.new.disk) (g.D.Disk.view c.gate_raise.new.disk) (c.in_ok-gate_ensure_shut.ensures.ok f exposed)
    c.in_ok-write_body.ensures.ok.content c.in_ok-gate_raise.ensures.ok.content
