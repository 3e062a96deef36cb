use Rattle.std.proofs.Common.{◌≡◌, ℕ, ◌⊎◌, inl, inr, sym, subst, arith}
use Rattle.castle.proofs.OutcomeLemmas.{breaks_for_fault, causes, exposed_ends_by, goes_new, made_none, new_space, none_or_shown, none_or_thrifty, out_of_memory, work_ends_by, work_left, work_sent}
use Rattle.castle.proofs.laws.a_run_of_a_workload_is_a_run_of_a_new_table.Goals as goal

pub returns-clause-done : goal.returns-clause-done
returns-clause-done g c = λ path seed count status x y d e f ran exposed ends.
    let all = work_left status ran.0 ran.1 ends in
    elim (ran.2.left f exposed).made [
      | inl none ↦ absurd (omega (arith, made_none status ran.0 ran.1 (g.D.Viewed.view d) (g.D.Viewed.view e) none, ends))
      | inr carried ↦ (carried.transcript, carried.run, carried.region, (carried.all all).0, (carried.all all).1, carried.shows all)
    ]

pub returns-clause-text : goal.returns-clause-text
returns-clause-text g c = λ path seed count status x y d e h ran exposed. work_sent status ran.0 ran.1 seed count (g.D.Viewed.view e) x.held y.held h exposed ran.2.sends

pub returns-clause-left : goal.returns-clause-left
returns-clause-left g c = λ path seed count status x y d e f ran exposed.
    elim (ran.2.left f exposed).made [
      | inl none ↦ inl (
        made_none status ran.0 ran.1 (g.D.Viewed.view d) (g.D.Viewed.view e) none,
        λ eight. (none.same (out_of_memory status ran.0 ran.1 eight)).0,
        λ i since. (λ eight. (none.same (out_of_memory status ran.0 ran.1 eight)).1.each i since, none.kept.each i since),
      )
      | inr carried ↦ inr (
        carried.transcript,
        carried.run,
        carried.region,
        carried.front,
        breaks_for_fault seed count ran.0 x y (g.D.Viewed.view d) (g.D.Viewed.view e) carried ran.2.cause,
        (carried.continued, carried.next, carried.follows.left),
      )
    ]

pub returns-clause-trail : goal.returns-clause-trail
returns-clause-trail g c = λ path seed count status x y d e f ran exposed.
    elim (ran.2.left f exposed).made [
      | inl none ↦ inl (
        made_none status ran.0 ran.1 (g.D.Viewed.view d) (g.D.Viewed.view e) none,
        λ blank i since. none_or_shown 64 16777216 16384 i (none.moments blank i since),
      )
      | inr carried ↦ inr (carried.transcript, carried.run, carried.region, (carried.continued, carried.next, goes_new (g.D.Viewed.view d) (g.D.Viewed.view e) carried.transcript carried.continued.end carried.follows))
    ]

pub returns-clause-space : goal.returns-clause-space
returns-clause-space g c = λ path seed count status x y d e f i ran exposed blank since.
    elim (ran.2.left f exposed).made [
      | inl none ↦ none_or_thrifty i (none.moments blank i since)
      | inr carried ↦ new_space (g.D.Viewed.view d) (g.D.Viewed.view e) carried.transcript carried.continued.end carried.follows blank i since
    ]

pub returns-clause-cause : goal.returns-clause-cause
returns-clause-cause g c = λ path seed count status x y d e ran.
    let ends = work_ends_by status ran.0 ran.1 ran.2.ends in
    let cause = causes status ran.0 ran.1 x y (g.D.Viewed.view d) (g.D.Viewed.view e) ran.2.cause (λ six. omega (arith, ends, six)) in
    (ends, cause.0, cause.1, cause.2, cause.3, cause.4)

pub returns-clause-found : goal.returns-clause-found
returns-clause-found g c = λ path seed count status x y d e f ran exposed. exposed_ends_by status ran.0 ran.1 (ran.2.left f exposed).ends

pub returns-clause-complete : goal.returns-clause-complete
returns-clause-complete g c = λ path seed count status x y d e f ran exposed source sink disk.
    subst (λ (n : ℕ). (n ≡ 0) ⊎ (n ≡ 8)) (sym ran.1) (ran.2.complete (record { source = source; sink = sink; disk = disk }) f exposed)
