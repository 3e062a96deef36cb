use Rattle.strat_store.proofs.RangingLemmas.{read_sound, read_whole}
use Rattle.strat_store.proofs.export_laws.a_version_is_read_from_its_arrays.Goals as goal

pub returns-clause-ok : goal.returns-clause-ok
returns-clause-ok g c = λ d s x f v whole stands exposed is. read_whole (g.D.Disk.view d) s x f v whole stands exposed is

pub returns-clause-damaged : goal.returns-clause-damaged
returns-clause-damaged g c = λ d s x f v b whole stands exposed. read_sound (g.D.Disk.view d) s x f v b whole stands exposed
