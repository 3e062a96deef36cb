use Rattle.def_bytes.proofs.ManifestLemmas.{manifest_in-some, manifest_in-bytes}
use Rattle.def_bytes.proofs.spellings.manifests_are_read_as_written.Goals as goal

pub returns : goal.returns
returns c = λ format bytes m. (manifest_in-some format m bytes, manifest_in-bytes format m bytes)
