use Rattle.def_crash.specs.Image.{Image}
use Rattle.def_crash.specs.Moments.{Images}
use Rattle.def_crash.proofs.MomentLemmas.{at_told}
use Rattle.strat_journal.proofs.TakingLemmas.{append_images, append_moment, append_stands, append_content}
use Rattle.strat_journal.proofs.journal.Journal.append.Given.{Over}
use Rattle.strat_journal.proofs.journal.Journal.append.Goals.{After-gate_commit}
use Rattle.strat_journal.proofs.journal.Journal.append.Goals as goal

pub returns-in_err-gate_commit-clause-images : goal.returns-in_err-gate_commit-clause-images
returns-in_err-gate_commit-clause-images g c =
    append_images c.args.self.now c.gate-gate.ensures.room c.requires c.behind_gate.result.now c.behind_gate.ensures.ok _ _ (rw c.gate-gate.ensures.ok at c.gate_commit.ensures.ok.images)

pub returns-in_err-gate_commit-clause-trail : goal.returns-in_err-gate_commit-clause-trail
returns-in_err-gate_commit-clause-trail g c = λ f exposed stands image since.
    append_moment c.args.self.now c.gate-gate.ensures.room c.requires c.behind_gate.result.now c.behind_gate.ensures.ok (g.D.Disk.view c.args.disk.now) f
    (at_told _ (λ (f : Image). Images (g.D.Disk.view c.args.disk.now) f) f exposed (g.met.D.Disk.leaves_content c.args.disk.now)) (λ d left. g.met.D.Disk.leaves_bytes c.args.disk.now _ d left) stands
    image ((rw c.gate-gate.ensures.ok at c.gate_commit.ensures.ok.any_moment) f exposed image since)

pub returns-clause-images : goal.returns-clause-images
returns-clause-images g c =
    append_images c.args.self.now c.gate-gate.ensures.room c.requires c.behind_gate.result.now c.behind_gate.ensures.ok _ _ (rw c.gate-gate.ensures.ok at c.gate_commit.ensures.ok.images)

pub returns-clause-trail : goal.returns-clause-trail
returns-clause-trail g c = λ f exposed stands image since.
    append_moment c.args.self.now c.gate-gate.ensures.room c.requires c.behind_gate.result.now c.behind_gate.ensures.ok (g.D.Disk.view c.args.disk.now) f
    (at_told _ (λ (f : Image). Images (g.D.Disk.view c.args.disk.now) f) f exposed (g.met.D.Disk.leaves_content c.args.disk.now)) (λ d left. g.met.D.Disk.leaves_bytes c.args.disk.now _ d left) stands
    image ((rw c.gate-gate.ensures.ok at c.gate_commit.ensures.ok.any_moment) f exposed image since)

pub returns-clause-kept : goal.returns-clause-kept
returns-clause-kept g c = rw c.join.ensures.ok
    (λ f exposed stands.
    append_stands c.args.self.now c.gate-gate.ensures.room c.requires c.behind_gate.result.now c.behind_gate.ensures.ok (g.D.Disk.view c.args.disk.now) f
    (at_told _ (λ (f : Image). Images (g.D.Disk.view c.args.disk.now) f) f exposed (g.met.D.Disk.leaves_content c.args.disk.now)) (λ d left. g.met.D.Disk.leaves_bytes c.args.disk.now _ d left) stands
    (g.D.Disk.view c.gate_commit.new.disk) ((rw c.gate-gate.ensures.ok at c.in_ok-gate_commit.ensures.ok.content) f exposed) c.in_ok-gate_commit.ensures.ok.settled)

pub returns-clause-durable : goal.returns-clause-durable
returns-clause-durable g c =
    record {
      content = λ f exposed.
          append_content c.args.self.now c.gate-gate.ensures.room c.requires c.behind_gate.result.now c.behind_gate.ensures.ok f (g.D.Disk.view c.gate_commit.new.disk)
          ((rw c.gate-gate.ensures.ok at c.in_ok-gate_commit.ensures.ok.content) f exposed);
      settled = c.in_ok-gate_commit.ensures.ok.settled;
    }
