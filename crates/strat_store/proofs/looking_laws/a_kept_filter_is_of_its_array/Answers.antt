use Rattle.strat_store.proofs.FilteringLemmas.{kept_of}
use Rattle.strat_store.proofs.looking_laws.a_kept_filter_is_of_its_array.Goals as goal

pub returns : goal.returns
returns g c = record {
  ok = λ d s x f id entries whole w exposed keeps read. kept_of (g.D.Viewed.view d) s x f id entries whole w exposed keeps read;
}
