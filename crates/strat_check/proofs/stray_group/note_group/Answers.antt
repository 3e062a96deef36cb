use Rattle.std.proofs.Common.{◌∙◌, ◌<◌, [], length, map, get_or, arith}
use Rattle.strat_base.proofs.ResultFacts.{on_ok_then}
use Rattle.strat_base.specs.declared.descriptors.ArrayDesc.{ArrayDesc}
use Rattle.strat_check.specs.MarkedGroups.{is_owned}
use Rattle.strat_check.specs.StrayGroups.{group_entries}
use Rattle.strat_check.specs.Strays.{strays_at}
use Rattle.strat_check.proofs.SettledLemmas.{any_noted, live_noted, none_left, settled_at, settled_from}
use Rattle.strat_check.proofs.stray_group.note_group.Goals as goal

pub returns-clause-ok : goal.returns-clause-ok
returns-clause-ok c =
    on_ok_then c.settle_all.result c.settle_all.ensures.ok (λ each. record {
      len = c.settle_all.ensures.len ∙ c.note_all.ensures.len;
      any = λ i low. any_noted c.args.tree.now.parents (is_owned c.args.g.now.owners.now) (get_or (map (λ (a : ArrayDesc). a.versions) c.args.arrays.now) i []) i (group_entries c.args.g.now)
          (strays_at c.args.found.now i) (strays_at c.note_all.new.found i) (strays_at c.settle_all.new.found i) (settled_at c.args.found.now c.requires.state i) (c.note_all.ensures.ok i low)
          (each i (omega (arith, low, c.note_all.ensures.len)));
      live = λ i low. live_noted c.args.tree.now.parents (is_owned c.args.g.now.owners.now) (get_or (map (λ (a : ArrayDesc). a.versions) c.args.arrays.now) i []) i (group_entries c.args.g.now)
          (strays_at c.args.found.now i) (strays_at c.note_all.new.found i) (strays_at c.settle_all.new.found i) (settled_at c.args.found.now c.requires.state i) (c.note_all.ensures.ok i low)
          (each i (omega (arith, low, c.note_all.ensures.len)));
    })

pub returns-clause-state : goal.returns-clause-state
returns-clause-state c =
    on_ok_then c.settle_all.result c.settle_all.ensures.ok (λ each. settled_from c.settle_all.new.found (λ i low.
    let known : i < length c.args.found.now = omega (arith, low, c.settle_all.ensures.len, c.note_all.ensures.len) in
    none_left c.args.tree.now.parents (is_owned c.args.g.now.owners.now) (get_or (map (λ (a : ArrayDesc). a.versions) c.args.arrays.now) i []) i (group_entries c.args.g.now)
    (strays_at c.args.found.now i) (strays_at c.note_all.new.found i) (strays_at c.settle_all.new.found i) (settled_at c.args.found.now c.requires.state i) (c.note_all.ensures.ok i known)
    (each i (omega (arith, known, c.note_all.ensures.len)))))
