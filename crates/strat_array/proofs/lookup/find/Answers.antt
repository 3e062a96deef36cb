use Rattle.def_bytes.specs.Arrays.{blocks_of}
use Rattle.strat_array.specs.Left.{all_in}
use Rattle.strat_array.specs.Steps.{left_from}
use Rattle.strat_array.proofs.KeptLemmas.{looks_trans, stands_after}
use Rattle.strat_array.proofs.FoundLemmas.{answers_live}
use Rattle.strat_base.proofs.ResultFacts.{err_of, if_ok_then}
use Rattle.strat_array.proofs.SearchLemmas.{no_block_same}
use Rattle.strat_array.proofs.lookup.find.Goals as goal

pub returns-in_err-place-clause-damaged : goal.returns-in_err-place-clause-damaged
returns-in_err-place-clause-damaged g c = λ b torn. c.in_err-place.ensures.damaged b (err_of c.from_residual.result _ _ c.from_residual.ensures.1 torn)

pub returns-clause-found : goal.returns-clause-found
returns-clause-found g c =
    if_ok_then c.live_from.result c.live_from.ensures.found (λ told answers lists stands up.
    answers_live c.args.tree.now.parents c.args.key.now c.args.v c.count-versions.ensures.kept (all_in lists) (left_from lists c.in_ok-place.place) up (c.in_ok-place.ensures.ok lists stands up)
    c.args.out.now c.live_from.new.out told (answers lists (stands_after _ _ _ _ _ _ _ _ lists c.in_ok-place.ensures.same stands)))

pub returns-clause-damaged : goal.returns-clause-damaged
returns-clause-damaged g c = λ b torn.
    no_block_same (g.D.Disk.view c.args.disk.now).content (g.D.Disk.view c.seek.new.disk).content (blocks_of c.args.desc.now.extents) b c.in_ok-place.ensures.same.disk.same
    (c.live_from.ensures.damaged b torn)

pub returns-clause-same : goal.returns-clause-same
returns-clause-same g c = looks_trans _ _ _ _ _ _ _ _ _ _ _ c.in_ok-place.ensures.same c.live_from.ensures.same
