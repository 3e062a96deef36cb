use Rattle.std.proofs.Common.{subst, arith}
use Rattle.strat_bulk.specs.Ending.{AreTold}
use Rattle.strat_bulk.specs.Runs.{AreLawful}
use Rattle.strat_model.specs.Pairs.{Pairs}
use Rattle.strat_model.specs.Step.{pairs_at}
use Rattle.strat_model.specs.declared.ended.Ended.{Ended}
use Rattle.castle.proofs.HeadlineLemmas.{ended_by}
use Rattle.castle.proofs.export_laws.what_an_export_wrote_makes_its_map_again.Goals as goal

pub returns : goal.returns
returns g c = record {
  end = λ path version status x y d e f t mem changes versions xs start after shows exposed ran is few most from bodies run.
      let how = ended_by status 0 ran.0 ran.1 is (λ nine. omega (arith, nine)) in
      let told = subst (λ (h : Ended). AreTold h ran.2.told (pairs_at t version)) how (ran.2.map f t exposed shows) in
      c.an_export_is_served_again.ensures.end mem changes versions (pairs_at t version) xs start after (ran.2.ordered how f t exposed shows) (subst (λ (ps : Pairs). AreLawful ps) told ran.2.lawful) few most from bodies run;
}
