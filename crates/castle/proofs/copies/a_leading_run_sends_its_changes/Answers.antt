use Rattle.std.proofs.Common.{inl, inr}
use Rattle.castle.proofs.copies.a_leading_run_sends_its_changes.Goals as goal

pub returns-clause-ok : goal.returns-clause-ok
returns-clause-ok g c = λ path status x y d e f t ran exposed shows. (ran.0, ran.1, ran.2.leads f t exposed shows)

pub returns-clause-found : goal.returns-clause-found
returns-clause-found g c = λ x y d e how f t led. (led.found, led.count, led.sends)

pub returns-clause-table : goal.returns-clause-table
returns-clause-table g c = λ x y d e how f t led. (led.table, led.begins.shows, led.are_made, led.takes, led.after)

pub returns-clause-trail : goal.returns-clause-trail
returns-clause-trail g c = λ x y d e how f t led. (led.is, led.took, led.splits, led.front, led.next)

pub returns-clause-left : goal.returns-clause-left
returns-clause-left g c = λ x y d e how f i t led image. elim led.follows [ inl gave ↦ inl gave | inr follows ↦ inr (follows.left i image) ]
