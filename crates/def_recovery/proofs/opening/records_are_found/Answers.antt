use Rattle.std.proofs.Common.{refl}
use Rattle.strat_base.specs.Numbers.{number, be}
use Rattle.def_crash.specs.Image.{window, over}
use Rattle.def_bytes.specs.SuperBlock.{slot_of, slot_in, zeros}
use Rattle.strat_base.specs.Change.{change_in}
use Rattle.def_bytes.specs.Manifest.{all_pass, read_number, read_items, read_extent, read_array, read_level, read_mark, read_only, read_manifest, manifest_in, manifest_bytes}
use Rattle.def_bytes.specs.Chained.{chain_from}
use Rattle.def_bytes.specs.Records.{records}
use Rattle.def_recovery.proofs.opening.records_are_found.Goals as goal

pub returns : goal.returns
unfolding number be window over slot_of slot_in zeros change_in all_pass read_number read_items read_extent read_array read_level read_mark read_only read_manifest manifest_in manifest_bytes chain_from records
returns c = record { ok = refl; drop = refl }
