use Rattle.def_pins.proofs.BadDiskLemmas.{split_opens, nine_is_bad, nine_unmerged, whole_has_none}
use Rattle.def_pins.proofs.bad_disks.blocks_out_of_place_are_bad.Goals as goal

pub returns : goal.returns
returns c = record { found = split_opens; ok = nine_is_bad; merged = nine_unmerged; none = whole_has_none }
