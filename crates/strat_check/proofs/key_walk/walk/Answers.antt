use Rattle.std.proofs.Common.{◌≡◌, ◌≤◌, ◌^◌, ℕ, List, [], ◌++◌, sym, ◌∙◌, subst, arith}
use Rattle.strat_base.specs.Tree.{Parents}
use Rattle.strat_check.specs.KeyWalks.{gathered, IsWalking}
use Rattle.strat_check.specs.MarkedRuns.{unmarked_seen}
use Rattle.strat_check.specs.Sightings.{Sightings, versions_added, IsSighting}
use Rattle.strat_check.proofs.ArrayCountLemmas.{read_on, read_well, read_failed}
use Rattle.strat_check.proofs.KeyWalkLemmas.{walked_out}
use Rattle.strat_check.proofs.key_walk.walk.Goals as goal

pub returns-in_err-take_entry-clause-reads : goal.returns-in_err-take_entry-clause-reads
returns-in_err-take_entry-clause-reads g c =
    read_on unmarked_seen _ _ _ _ _ _ _ _ _ _ _ _ c.from_residual.result c.loop.invariant.reads
    (read_failed unmarked_seen c.from_residual.result _ c.from_residual.ensures.1 _ _ _ _ _ _ _ _ c.in_err-take_entry.ensures.reads)

pub returns-then-not-branch-clause-ok : goal.returns-then-not-branch-clause-ok
returns-then-not-branch-clause-ok g c = λ _ f all exposed few walking.
    let inv = c.loop.invariant in
    let parents : Parents = c.args.tree.now.parents in
    let here : IsWalking parents all ((unmarked_seen c.loop.run).left f) c.loop.group c.loop.sights = inv.walked f all exposed few walking in
    let same = c.in_ok-take_entry.ensures.same c.if-not-branch.true in
    let none : (unmarked_seen c.loop.run).left f ≡ [] =
    (λ i. (unmarked_seen (sym same.0 i)).left f) ∙ c.in_ok-take_entry.ensures.none c.if-not-branch.true f in
    let adds : (groups : List (List ℕ)) → IsSighting parents groups c.loop.sights → versions_added (groups ++ gathered c.loop.group.versions.items) ≤ 2 ^ 48
    → IsSighting parents (groups ++ gathered c.loop.group.versions.items) c.add_gathered.new.sights =
    subst (λ (s : Sightings). (groups : List (List ℕ)) → IsSighting parents groups s → versions_added (groups ++ gathered c.loop.group.versions.items) ≤ 2 ^ 48
    → IsSighting parents (groups ++ gathered c.loop.group.versions.items) c.add_gathered.new.sights) same.2
    (subst (λ (vs : List ℕ). (groups : List (List ℕ)) → IsSighting parents groups c.take_entry.new.sights → versions_added (groups ++ gathered vs) ≤ 2 ^ 48
    → IsSighting parents (groups ++ gathered vs) c.add_gathered.new.sights) (c.deref.ensures.value ∙ (λ i. (same.1 i).versions.items)) c.add_gathered.ensures.ok) in
    c.finish.ensures.ok all (walked_out parents all c.loop.sights c.add_gathered.new.sights ((unmarked_seen c.loop.run).left f) c.loop.group none few adds here) few

pub returns-then-not-branch-clause-reads : goal.returns-then-not-branch-clause-reads
returns-then-not-branch-clause-reads g c =
    read_on unmarked_seen _ _ _ _ _ _ _ _ _ _ _ _ _ c.loop.invariant.reads (read_well unmarked_seen _ _ _ _ _ _ _ _ _ _ c.in_ok-take_entry.ensures.reads)

pub loop-preserved : goal.loop-preserved
loop-preserved g c =
    let inv = c.loop.invariant in
    let next = c.in_ok-take_entry.ensures in
    let more = c.if-not-branch.false in
    record {
      kept = next.kept;
      len = next.len ∙ inv.len;
      placed = next.state ∙ inv.placed;
      reads = read_on unmarked_seen _ _ _ _ _ _ _ _ _ _ _ _ _ inv.reads (read_well unmarked_seen _ _ _ _ _ _ _ _ _ _ next.reads);
      fewer = λ f exposed. let one = next.end more f (inv.reads.same.same ∙ exposed) in let before = inv.fewer f exposed in omega (arith, one, before);
      walked = λ f all exposed few walking. next.ok more f all (inv.reads.same.same ∙ exposed) few (inv.walked f all exposed few walking);
    }
