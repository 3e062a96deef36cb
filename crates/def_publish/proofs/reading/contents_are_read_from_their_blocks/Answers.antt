use Rattle.def_publish.specs.Contents.{named_blocks}
use Rattle.def_publish.proofs.LocalLemmas.{same_on, lies_local}
use Rattle.def_publish.proofs.PartsLemmas.{reads_same, reads_as_local}
use Rattle.def_publish.proofs.PlaceLemmas.{newest_local}
use Rattle.def_publish.proofs.reading.contents_are_read_from_their_blocks.Goals as goal

pub returns : goal.returns
returns c = record {
  reads = reads_same;
  same = reads_as_local;
  lies = λ f c x lies agree. lies_local f c x lies (same_on f c (named_blocks x) agree);
  newest = newest_local;
}
