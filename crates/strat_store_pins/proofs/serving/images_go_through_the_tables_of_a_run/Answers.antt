use Rattle.std.proofs.Common.{inl, inr}
use Rattle.strat_store_pins.proofs.serving.images_go_through_the_tables_of_a_run.Goals as goal

pub returns-clause-trail : goal.returns-clause-trail
returns-clause-trail g c = λ d e f run end goes. (goes.from, goes.till, goes.content, goes.one, goes.until, goes.trail)

pub returns-clause-end : goal.returns-clause-end
returns-clause-end g c = λ e image run end ends left. ends image left

pub returns-clause-images : goal.returns-clause-images
returns-clause-images g c = λ d e f image keeps since. elim (keeps image since) [
  | inl old ↦ inl old
  | inr new ↦ inr (new.0.state, new.0.reads, new.0.sound, new.0.two, new.0.dense, new.1)
]
