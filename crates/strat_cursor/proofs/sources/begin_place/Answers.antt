use Rattle.std.proofs.Common.{List, [], subst}
use Rattle.strat_base.specs.Entries.{Entry}
use Rattle.def_bytes.specs.Arrays.{blocks_of}
use Rattle.strat_array.proofs.KeptLemmas.{looks_trans, stands_after}
use Rattle.strat_base.proofs.ResultFacts.{err_of, if_ok_then}
use Rattle.strat_array.proofs.SearchLemmas.{no_block_same}
use Rattle.strat_cursor.specs.Sources.{PassesUndue, left_behind}
use Rattle.strat_cursor.proofs.sources.begin_place.Goals as goal

pub returns-in_err-place-clause-damaged : goal.returns-in_err-place-clause-damaged
returns-in_err-place-clause-damaged g c = λ b torn. c.in_err-place.ensures.damaged b (err_of c.from_residual.result _ _ c.from_residual.ensures.1 torn)

pub returns-clause-ok : goal.returns-clause-ok
returns-clause-ok g c =
    if_ok_then c.stand_place.result c.stand_place.ensures.ok (λ r answers lists stands up.
    subst (λ (l : List Entry). PassesUndue c.args.query.now.view.now.tree.now.parents c.args.query.now.version [] l (left_behind lists r)) (c.in_ok-place.ensures.ok lists stands up)
    (answers lists (stands_after _ _ _ _ _ _ _ _ lists c.in_ok-place.ensures.same stands)))

pub returns-clause-damaged : goal.returns-clause-damaged
returns-clause-damaged g c = λ b torn.
    no_block_same (g.D.Disk.view c.args.disk.now).content (g.D.Disk.view c.place_from.new.disk).content (blocks_of c.args.desc.now.extents) b c.in_ok-place.ensures.same.disk.same
    (c.stand_place.ensures.damaged b torn)

pub returns-clause-same : goal.returns-clause-same
returns-clause-same g c = looks_trans _ _ _ _ _ _ _ _ _ _ _ c.in_ok-place.ensures.same c.stand_place.ensures.same
