use Rattle.std.proofs.Common.{◌≡◌, ℕ, ◌⊎◌, refl, sym, subst, arith}
use Rattle.def_crash.specs.Image.{Image}
use Rattle.strat_model.specs.declared.ended.Ended.TheVariants as ended
use Rattle.strat_open.specs.Format.{IsNewStore, head_for}
use Rattle.castle.specs.Outcomes.{format_text}
use Rattle.castle.proofs.HeadlineLemmas.{other_by}
use Rattle.castle.proofs.OutcomeLemmas.{causes, format_ends_by, format_left, format_sent, none_or_shown}
use Rattle.castle.proofs.laws.a_formatting_run_makes_a_new_store.Goals as goal

pub returns-clause-text : goal.returns-clause-text
returns-clause-text g c = λ path mem changes versions status x y d e ran. format_sent status ran.0 ran.1 x.held y.held (format_text mem changes versions) ran.2.sends

pub returns-clause-left : goal.returns-clause-left
returns-clause-left g c = λ path mem changes versions status x y d e f i ran ends exposed image.
    let disk = ran.2.left (format_left status ran.0 ran.1 ends) f exposed in
    let new = subst (λ (b : Image). IsNewStore 2 mem changes versions b) (sym (disk.rest.alone i image)) disk.new in
    (new.shows, new.reads, (head_for 2 mem changes versions, new.found, refl))

pub returns-clause-moments : goal.returns-clause-moments
returns-clause-moments g c = λ path mem changes versions status x y d e f i ran exposed blank since. none_or_shown mem changes versions i (ran.2.moments f exposed blank i since)

pub returns-clause-kept : goal.returns-clause-kept
returns-clause-kept g c = λ path mem changes versions status x y d e i ran since. ran.2.kept.each i since

pub returns-clause-cause : goal.returns-clause-cause
returns-clause-cause g c = λ path mem changes versions status x y d e ran.
    let ends = format_ends_by status ran.0 ran.1 x.held y.held (format_text mem changes versions) ran.2.sends in
    let cause = causes status ran.0 ran.1 x y (g.D.Viewed.view d) (g.D.Viewed.view e) ran.2.cause (λ six. omega (arith, ends, six)) in
    (ends, cause.0, cause.1, cause.2, cause.3, λ other. ran.2.calm (other_by status 5 ran.0 ended.Device ran.1 refl other))

pub returns-clause-complete : goal.returns-clause-complete
returns-clause-complete g c = λ path mem changes versions status x y d e ran sink disk. subst (λ (n : ℕ). (n ≡ 0) ⊎ (n ≡ 8)) (sym ran.1) (ran.2.complete sink disk)
