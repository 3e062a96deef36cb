use Rattle.std.proofs.Common.{◌≡◌, Option, Some, sym, ap, refl, ◌∙◌, subst}
use Rattle.std.specs.Option.{option_to_list}
use Rattle.strat_base.proofs.ResultFacts.{if_ok_then}
use Rattle.strat_array.specs.Told.{TellsFound}
use Rattle.strat_base.specs.Tree.{Parents}
use Rattle.strat_base.specs.declared.descriptors.ArrayDesc.{ArrayDesc}
use Rattle.def_crash.specs.Faults.{ReadsAtMost}
use Rattle.strat_cursor.specs.Looking.{arrays_there, asked_of_level, HaveFewBlocks, reads_of_arrays}
use Rattle.strat_store.specs.Filtering.{filtered_says}
use Rattle.strat_store.proofs.LookLemmas.{one_read, refused_one, tell_passed, unrefused_is}
use Rattle.strat_store.proofs.level_lookup.ask_level.Goals as goal
use Rattle.strat_cursor.proofs.PickLemmas.{asked_there}
use Rattle.strat_cursor.proofs.ThroughLemmas.{only_one, through_one, names_one}

pub find-requires-clause-fits : goal.find-requires-clause-fits
find-requires-clause-fits g c =
    let is = subst (λ (ps : Parents). asked_of_level ps c.args.held.now.published.levels c.args.number c.args.v ≡ Some c.in-Some.desc.now) c.parts.ensures.found.0 (sym (rw c.in-Some.is at c.array_for.ensures.ok)) in
    c.requires.fits.each c.in-Some.desc.now
    (asked_there c.args.held.now.memory.parents c.args.held.now.published.levels c.args.number c.args.v c.in-Some.desc.now is)

pub returns-clause-found : goal.returns-clause-found
returns-clause-found g c =
    let is = subst (λ (ps : Parents). asked_of_level ps c.args.held.now.published.levels c.args.number c.args.v ≡ Some c.in-Some.desc.now) c.parts.ensures.found.0 (sym (rw c.in-Some.is at c.array_for.ensures.ok)) in
    if_ok_then c.find.result c.find.ensures.found (λ told answers f exposed may.
    subst (λ (o : Option ArrayDesc). TellsFound (filtered_says f c.args.held.now.filters c.args.held.now.memory.parents c.args.number c.args.v c.args.key.now o) c.args.key.now c.args.out.now c.find.new.out told) (sym is)
    (tell_passed _ f c.args.held.now.filters c.in-Some.desc.now c.args.cache.now c.args.held.now.memory.parents c.parts.result.2.now.parents c.args.number c.args.key.now c.args.v c.args.out.now c.find.new.out told c.parts.ensures.found.0
    (sym c.refuses.ensures.ok ∙ c.if-refuses.false) exposed (may c.in-Some.desc.now is) answers))

pub returns-clause-same : goal.returns-clause-same
returns-clause-same g c =
    let is = subst (λ (ps : Parents). asked_of_level ps c.args.held.now.published.levels c.args.number c.args.v ≡ Some c.in-Some.desc.now) c.parts.ensures.found.0 (sym (rw c.in-Some.is at c.array_for.ensures.ok)) in
    through_one _ _ _ c.in-Some.desc.now _ _ _ _
    (asked_there c.args.held.now.memory.parents c.args.held.now.published.levels c.args.number c.args.v c.in-Some.desc.now is)
    c.find.ensures.same

pub returns-clause-damaged : goal.returns-clause-damaged
returns-clause-damaged g c = λ b torn.
    let is = subst (λ (ps : Parents). asked_of_level ps c.args.held.now.published.levels c.args.number c.args.v ≡ Some c.in-Some.desc.now) c.parts.ensures.found.0 (sym (rw c.in-Some.is at c.array_for.ensures.ok)) in
    names_one _ (arrays_there c.args.held.now.published.levels) c.in-Some.desc.now b
    (asked_there c.args.held.now.memory.parents c.args.held.now.published.levels c.args.number c.args.v c.in-Some.desc.now is)
    (c.find.ensures.damaged b torn)

pub returns-clause-reads : goal.returns-clause-reads
returns-clause-reads g c =
    let is = subst (λ (ps : Parents). asked_of_level ps c.args.held.now.published.levels c.args.number c.args.v ≡ Some c.in-Some.desc.now) c.parts.ensures.found.0 (sym (rw c.in-Some.is at c.array_for.ensures.ok)) in
    let read = unrefused_is c.args.held.now.filters c.args.held.now.memory.parents c.args.held.now.published.levels c.args.number c.args.v c.args.key.now c.in-Some.desc.now is (sym c.refuses.ensures.ok ∙ c.if-refuses.false) in
    λ n few.
    let here = subst (λ (o : Option ArrayDesc). HaveFewBlocks n (option_to_list o)) read few in
    subst (λ (o : Option ArrayDesc). ReadsAtMost (reads_of_arrays n (option_to_list o)) (g.D.Disk.reads c.args.disk.now) (g.D.Disk.reads c.find.new.disk)) (sym read)
    (one_read n c.in-Some.desc.now _ _ (c.find.ensures.reads n (here c.in-Some.desc.now (only_one c.in-Some.desc.now))))

pub returns-then-refuses-clause-found : goal.returns-then-refuses-clause-found
returns-then-refuses-clause-found g c =
    let is = subst (λ (ps : Parents). asked_of_level ps c.args.held.now.published.levels c.args.number c.args.v ≡ Some c.in-Some.desc.now) c.parts.ensures.found.0 (sym (rw c.in-Some.is at c.array_for.ensures.ok)) in
    λ f exposed may. (
      ap (λ (o : Option ArrayDesc). filtered_says f c.args.held.now.filters c.args.held.now.memory.parents c.args.number c.args.v c.args.key.now o) is
          ∙ refused_one f c.args.held.now.filters c.args.held.now.memory.parents c.args.number c.args.v c.args.key.now c.in-Some.desc.now (sym c.refuses.ensures.ok ∙ c.if-refuses.true),
      refl,
    )
