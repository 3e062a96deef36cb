use Rattle.std.proofs.Common.{refl}
use Rattle.strat_base.specs.Numbers.{number, be}
use Rattle.def_crash.specs.Image.{window, over}
use Rattle.def_bytes.specs.SuperBlock.{slot_of, slot_in, zeros}
use Rattle.strat_base.specs.Change.{change_in}
use Rattle.def_bytes.specs.Manifest.{all_pass, read_number, read_items, read_extent, read_array, read_level, read_mark, read_only, read_manifest, manifest_in, manifest_bytes}
use Rattle.strat_base.specs.EntryBytes.{entry_in}
use Rattle.def_bytes.specs.Block.{block_in, block_bytes, entries_in}
use Rattle.def_bytes.specs.Chain.{link_bytes}
use Rattle.def_bytes.specs.Arrays.{entries_on}
use Rattle.def_bytes.specs.Chained.{chain_from}
use Rattle.def_bytes.specs.Records.{records}
use Rattle.def_pins.proofs.disks.drops_are_read_from_disks.Goals as goal

pub returns : goal.returns
unfolding number be window over slot_of slot_in zeros change_in all_pass read_number read_items read_extent read_array read_level read_mark read_only read_manifest manifest_in manifest_bytes chain_from records block_in block_bytes entry_in entries_in link_bytes entries_on
returns c = record { mark = refl; journal = refl; refused = refl }
