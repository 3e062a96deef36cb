use Rattle.std.proofs.Common.{sym}
use Rattle.strat_base.proofs.SizeLemmas.{length-put, length-delete, length-clone, length-drop_version}
use Rattle.strat_base.proofs.changes.change_size.Goals as goal

pub returns-in-Put-clause-ok : goal.returns-in-Put-clause-ok
returns-in-Put-clause-ok c = rw c.in-Put.is (sym (length-put _ c.in-Put.key.now c.in-Put.value.now))

pub returns-in-Delete-clause-ok : goal.returns-in-Delete-clause-ok
returns-in-Delete-clause-ok c = rw c.in-Delete.is (sym (length-delete _ c.in-Delete.key.now))

pub returns-in-Clone-clause-ok : goal.returns-in-Clone-clause-ok
returns-in-Clone-clause-ok c = rw c.in-Clone.is (sym (length-clone _))

pub returns-in-DropVersion-clause-ok : goal.returns-in-DropVersion-clause-ok
returns-in-DropVersion-clause-ok c = rw c.in-DropVersion.is (sym (length-drop_version _))
