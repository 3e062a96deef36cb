use Rattle.def_publish.proofs.PublishLemmas.{laying_reads, laid_reads, shutting_reads}
use Rattle.def_publish.proofs.publication.a_publication_leaves_the_old_contents_or_the_new.Goals as goal

pub returns : goal.returns
returns g c = record {
  laying = λ mid lay x y p. laying_reads _ x y p _;
  laid = λ mid lay x y p. laid_reads _ x y p _;
  shutting = λ mid lay end x y p lays laid. shutting_reads _ x y p _ lays laid _;
}
