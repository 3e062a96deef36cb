use Rattle.std.proofs.Common.{ap}
use Rattle.std.specs.BTreeMap.{is_at}
use Rattle.std.specs.BTreeSet.{contains}
use Rattle.std.specs.List.{list_any}
use Rattle.std.specs.Ordering.{nat_cmp}
use Rattle.def_publish.specs.Occupied.{arrays_in}
use Rattle.strat_memory.proofs.IdLemmas.{ids, own_is}
use Rattle.strat_memory.proofs.belonging.ids_are_distinct.Goals as goal

pub returns : goal.returns
returns c = record {
  ok = own_is (contains nat_cmp c.new-seen.result) (contains nat_cmp c.add_all_ids.new.seen) c.in_ok-own.own (ids (arrays_in c.args.levels.now))
      (λ q. ap (list_any (is_at (nat_cmp q))) c.new-seen.ensures.empty) c.in_ok-own.ensures.ok;
}
