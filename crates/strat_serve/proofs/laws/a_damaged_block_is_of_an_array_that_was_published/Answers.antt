use Rattle.std.proofs.Common.{subst}
use Rattle.std.specs.Prelude.{Option}
use Rattle.def_crash.specs.Image.{Image}
use Rattle.strat_publish.specs.Outcomes.{IsDamagedIn}
use Rattle.strat_serve.proofs.TableLemmas.{there}
use Rattle.strat_serve.proofs.laws.a_damaged_block_is_of_an_array_that_was_published.Goals as goal

pub returns : goal.returns
returns g c = λ x y d e budget block f h served before now.
    let found = served.damaged block served.ends in
    let content = there found.content (found.exposed f before) in (
      found.store,
      found.lawful,
      found.on_disk f before,
      found.named f before,
      (
        content.0,
        subst (λ (o : Option Image). IsDamagedIn o found.store.memory found.store.levels block) content.1 (found.bad f before),
        found.kept content.0 h content.1 now,
      ),
    )
