use Rattle.std.proofs.Common.{◌≤◌, ◌^◌, ℕ, List, ◌++◌, sym, ◌∙◌, subst}
use Rattle.strat_base.specs.EntryView.{entry_of}
use Rattle.strat_base.proofs.ResultFacts.{on_ok_then}
use Rattle.strat_check.specs.KeyWalks.{gathered}
use Rattle.strat_check.specs.Sightings.{versions_added, IsSighting}
use Rattle.strat_check.proofs.KeyWalkLemmas.{walked_other}
use Rattle.strat_check.proofs.key_walk.turn.Goals as goal

pub returns-clause-ok : goal.returns-clause-ok
returns-clause-ok c =
    let parents = c.args.tree.now.parents in
    let adds : (groups : List (List ℕ)) → IsSighting parents groups c.args.sights.now → versions_added (groups ++ gathered c.args.group.now.versions.items) ≤ 2 ^ 48
    → IsSighting parents (groups ++ gathered c.args.group.now.versions.items) c.add_gathered.new.sights =
    subst (λ (vs : List ℕ). (groups : List (List ℕ)) → IsSighting parents groups c.args.sights.now → versions_added (groups ++ gathered vs) ≤ 2 ^ 48
    → IsSighting parents (groups ++ gathered vs) c.add_gathered.new.sights) c.deref.ensures.value c.add_gathered.ensures.ok in
    on_ok_then c.begin.result c.begin.ensures.ok (λ is all left few walking.
    walked_other parents all c.args.sights.now c.add_gathered.new.sights (entry_of c.args.e.now) left c.args.group.now c.begin.new.self
    (sym c.has.ensures.ok ∙ c.if-has.false) is.0 is.1 few adds walking)
