use Rattle.std.proofs.Common.{◌≡◌, ℕ, true, ltb, length, List, refl, sym, ◌∙◌, subst}
use Rattle.std.specs.List.{list_all}
use Rattle.strat_base.specs.EntryView.{entry_of}
use Rattle.strat_base.specs.Order.{descends}
use Rattle.strat_base.proofs.EntryLemmas.{is_of_key, same_bytes}
use Rattle.std.proofs.lemmas.Bool.{lt-ltb}
use Rattle.strat_check.proofs.KeyWalkLemmas.{descends_more, all_more, follows, walked_same}
use Rattle.strat_check.proofs.key_walk.gather.Goals as goal

pub returns-clause-kept : goal.returns-clause-kept
returns-clause-kept c =
    let n : ℕ = length c.args.tree.now.parents in
    let versions : List ℕ = c.turn.new.group.versions.items in
    let turned = c.in_ok-turn.ensures in
    record {
      descending = subst (λ (vs : List ℕ). descends vs ≡ true) (sym c.in_ok-push.ensures.items) (descends_more versions c.args.e.now.version turned.kept.descending turned.state);
      low = subst (λ (vs : List ℕ). list_all (λ v. ltb v n) vs ≡ true) (sym c.in_ok-push.ensures.items)
          (all_more (λ v. ltb v n) versions c.args.e.now.version turned.kept.low (lt-ltb c.args.e.now.version n c.requires.fits));
    }

pub returns-clause-state : goal.returns-clause-state
returns-clause-state c = λ d less of_key.
    let turned = c.in_ok-turn.ensures in
    subst (λ (vs : List ℕ). list_all (λ v. ltb d.version v) vs ≡ true) (sym c.in_ok-push.ensures.items)
    (follows (entry_of c.args.e.now) d c.turn.new.group.versions.items turned.state less (is_of_key c.turn.new.group.key.items d of_key ∙ turned.found))

pub returns-clause-ok : goal.returns-clause-ok
returns-clause-ok c = λ all left few walking.
    let turned = c.in_ok-turn.ensures in
    walked_same c.args.tree.now.parents all c.turn.new.sights c.turn.new.sights (entry_of c.args.e.now) left c.turn.new.group (record { key = c.turn.new.group.key; versions = c.push.new.self })
    (same_bytes (entry_of c.args.e.now).key c.turn.new.group.key.items (sym turned.found)) refl c.in_ok-push.ensures.items (turned.ok all left few walking)
