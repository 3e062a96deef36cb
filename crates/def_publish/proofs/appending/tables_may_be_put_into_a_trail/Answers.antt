use Rattle.def_publish.proofs.BatchLemmas.{put_in, spread}
use Rattle.def_publish.proofs.appending.tables_may_be_put_into_a_trail.Goals as goal

pub returns : goal.returns
returns g c = record {
  ok = λ d start first last between t. put_in _ _ start first last between t;
  err = λ d start n xs between zs low t. spread _ _ start n xs between zs low t;
}
