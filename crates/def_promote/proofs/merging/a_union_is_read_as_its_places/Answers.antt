use Rattle.std.proofs.lemmas.Bool.{not-true}
use Rattle.strat_base.specs.Marks.{is_dropped}
use Rattle.def_state.specs.State.{marks_of}
use Rattle.def_promote.proofs.ReadLemmas.{union_reads}
use Rattle.def_promote.proofs.merging.a_union_is_read_as_its_places.Goals as goal

pub returns : goal.returns
returns c = λ s taken kept entries v key sound parts union known living. union_reads s sound taken kept parts entries union v key known (not-true (is_dropped (marks_of s) v) living)
