use Rattle.std.proofs.Common.{◌++◌}
use Rattle.strat_extent.specs.Blocks.{is_free}
use Rattle.strat_promote.specs.Promotions.{extents_taken}
use Rattle.def_publish.proofs.FreeLemmas.{free_trail, free_stands}
use Rattle.def_publish.proofs.OccupiedLemmas.{free_beside}
use Rattle.def_slice.proofs.opened.a_slice_is_a_trail_of_one_table.Goals as goal

pub returns : goal.returns
returns g c = record {
  trail = λ old new f x fill sealed levels others o stands p torn. free_trail (is_free o.space) x (free_beside o.space x (extents_taken o.promotion ++ others) p.space_is) _ _ torn stands;
  stands = λ old new f x fill sealed levels others o stands p torn. free_stands (is_free o.space) x (free_beside o.space x (extents_taken o.promotion ++ others) p.space_is) _ _ torn stands;
}
