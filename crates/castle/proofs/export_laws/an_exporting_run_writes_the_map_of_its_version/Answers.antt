use Rattle.std.proofs.Common.{◌≡◌, ◌⊎◌, ℕ, inl, inr, ◌∙◌, ap, sym, subst, arith}
use Rattle.strat_io.specs.Streams.{Appends}
use Rattle.def_bulk.specs.Exporting.{exported}
use Rattle.strat_bulk.specs.Ending.{AreTold, WritesPairs}
use Rattle.strat_model.specs.Pairs.{Pairs}
use Rattle.strat_model.specs.Step.{pairs_at}
use Rattle.strat_model.specs.Ended.{status_of}
use Rattle.strat_model.specs.declared.ended.Ended.{Ended}
use Rattle.castle.proofs.ExportLemmas.{exporting_ends}
use Rattle.castle.proofs.HeadlineLemmas.{damaged_by, ended_by}
use Rattle.castle.proofs.OutcomeLemmas.{causes}
use Rattle.castle.proofs.export_laws.an_exporting_run_writes_the_map_of_its_version.Goals as goal

pub returns-clause-done : goal.returns-clause-done
returns-clause-done g c = λ path version status x y d e f t shows exposed ran is.
    let how = ended_by status 0 ran.0 ran.1 is (λ nine. omega (arith, nine)) in
    let told = subst (λ (h : Ended). AreTold h ran.2.told (pairs_at t version)) how (ran.2.map f t exposed shows) in
    subst (λ (ps : Pairs). Appends x.held y.held (exported ps)) told (subst (λ (h : Ended). WritesPairs h x.held y.held ran.2.told) how ran.2.writes)

pub returns-clause-front : goal.returns-clause-front
returns-clause-front g c = λ path version status x y d e f t shows exposed ran is.
    elim is [
      | inl five ↦
          let how = ended_by status 5 ran.0 ran.1 five (λ nine. omega (arith, nine)) in
          let told = subst (λ (h : Ended). AreTold h ran.2.told (pairs_at t version)) how (ran.2.map f t exposed shows) in
          (ran.2.told, told.0, told.1, subst (λ (h : Ended). WritesPairs h x.held y.held ran.2.told) how ran.2.writes)
      | inr nine ↦
          let how = damaged_by status ran.0 ran.1 nine in
          let told = subst (λ (h : Ended). AreTold h ran.2.told (pairs_at t version)) how.1 (ran.2.map f t exposed shows) in
          (ran.2.told, told.0, told.1, subst (λ (h : Ended). WritesPairs h x.held y.held ran.2.told) how.1 ran.2.writes)
    ]

pub returns-clause-sink : goal.returns-clause-sink
returns-clause-sink g c = λ path version status x y d e f t shows exposed ran is.
    let how = ended_by status 7 ran.0 ran.1 is (λ nine. omega (arith, nine)) in
    let told = subst (λ (h : Ended). AreTold h ran.2.told (pairs_at t version)) how (ran.2.map f t exposed shows) in
    let wrote = subst (λ (h : Ended). WritesPairs h x.held y.held ran.2.told) how ran.2.writes in
    (ran.2.told, told.0, told.1, wrote.0, wrote.1, wrote.2)

pub returns-clause-unknown : goal.returns-clause-unknown
returns-clause-unknown g c = λ path version status x y d e f exposed ran. (
  λ twelve. ran.2.unknown (ended_by status 12 ran.0 ran.1 twelve (λ nine. omega (arith, nine))) f exposed,
  λ is. elim is [
    | inl zero ↦ ran.2.known (inl (ended_by status 0 ran.0 ran.1 zero (λ nine. omega (arith, nine)))) f exposed
    | inr seven ↦ ran.2.known (inr (ended_by status 7 ran.0 ran.1 seven (λ nine. omega (arith, nine)))) f exposed
  ],
)

pub returns-clause-none : goal.returns-clause-none
returns-clause-none g c = λ path version status x y d e f exposed ran is. ran.2.none (ended_by status 2 ran.0 ran.1 is (λ nine. omega (arith, nine))) f exposed

pub returns-clause-damaged : goal.returns-clause-damaged
returns-clause-damaged g c = λ path version status x y d e f exposed ran is.
    let damaged = damaged_by status ran.0 ran.1 is in (damaged.0, ran.2.damaged damaged.0 damaged.1 f exposed)

pub returns-clause-left : goal.returns-clause-left
returns-clause-left g c = λ path version status x y d e f c exposed ran each since.
    let one = ran.2.left f exposed each c since in (one.table, one.image, one.shows, one.left, one.same)

pub returns-clause-cause : goal.returns-clause-cause
returns-clause-cause g c = λ path version status x y d e ran.
    let ends = exporting_ends status ran.0 ran.1 ran.2.ends in
    let cause = causes status ran.0 ran.1 x y (g.D.Viewed.view d) (g.D.Viewed.view e) ran.2.cause (λ six. omega (arith, ends, six)) in
    (ends, cause.0, cause.1, cause.2, cause.3, λ other. ran.2.calm (λ x. other (ran.1 ∙ ap status_of x)))

pub returns-clause-complete : goal.returns-clause-complete
returns-clause-complete g c = λ path version status x y d e f t shows exposed ran source sink disk.
    subst (λ (n : ℕ). (n ≡ 0) ⊎ (n ≡ 12) ⊎ (n ≡ 8)) (sym ran.1) (ran.2.complete (record { source = source; sink = sink; disk = disk }) f t exposed shows)

pub returns-clause-same : goal.returns-clause-same
returns-clause-same g c = λ path version d status a b i j m n leaves. leaves
