use Rattle.std.proofs.Common.{◌≡◌, length, map, ap, ◌∙◌, arith}
use Rattle.std.proofs.lemmas.List.{length-map}
use Rattle.strat_merge.proofs.PassLemmas.{replay_after}
use Rattle.strat_merge.proofs.merger.pass.Goals as goal

pub replay-requires-clause-same : goal.replay-requires-clause-same
replay-requires-clause-same g c =
    let held = c.contest_of.ensures.ok ∙ c.deref.ensures.value in
    let size : length (map g.R.Run.view c.contest_of.result.runs.now) ≡ length c.contest_of.result.runs.now = length-map c.contest_of.result.runs.now g.R.Run.view in
    let many : length c.contest_of.result.runs.now ≡ length c.advance_at.new.runs.items = ap (λ rs. length rs) held in
    replay_after (g.D.Disk.view c.args.disk.now) (map g.R.Run.view c.args.merger.now.runs.items) (map g.R.Run.view c.advance_at.new.runs.items) (map g.R.Run.view c.contest_of.result.runs.now) c.args.run c.len.result c.deref_mut.result.now c.args.merger.now.winners.items
    c.in-Ok.ensures.ok (ap (λ rs. map g.R.Run.view rs) held) (omega (arith, size, many)) c.deref_mut.ensures.value c.requires.kept
