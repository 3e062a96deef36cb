use Rattle.std.proofs.Common.{◌≡◌, ◌≢◌, ◌<◌, ◌∙◌, Option, true, false, length, Err, inl, inr, refl, ap, sym, subst, arith}
use Rattle.std.specs.Prelude.{Result, IsErrOf}
use Rattle.std.proofs.lemmas.List.{length-drop}
use Rattle.def_crash.proofs.MomentLemmas.{each_then}
use Rattle.strat_journal.specs.Log.{Log}
use Rattle.strat_model.specs.Answer.{accepts}
use Rattle.strat_model.specs.declared.replies.Refusal.TheVariants as why
use Rattle.strat_model.specs.declared.replies.Reply.TheVariants as reply
use Rattle.strat_promote.specs.Obstacles.{told_as}
use Rattle.strat_promote.specs.declared.obstacle.Obstacle.{Obstacle}
use Rattle.strat_promote.specs.declared.obstacle.Obstacle.TheVariants.{Device}
use Rattle.def_slice.specs.Opened.{OpenPromotion}
use Rattle.strat_memory.specs.RecoveredFields.{empty_cache, held_of}
use Rattle.strat_publish.proofs.AdvancingLemmas.{read_open}
use Rattle.strat_publish.proofs.ObstacleLemmas.{damaged_told}
use Rattle.strat_publish.specs.Advancing.{SlicesInBudget}
use Rattle.strat_publish.specs.Settling.{HasOldOrNext}
use Rattle.strat_store.specs.Applying.{held_after, is_fault}
use Rattle.strat_store.proofs.ChangingLemmas.{rows_stay}
use Rattle.strat_store.proofs.GoingLemmas.{advanced_open, advanced_published, emptied_refuses, log_stays, one_open, one_published, ready_opened, ready_refuses, sealed_open}
use Rattle.strat_store.proofs.LeavingLemmas.{KeepsArrays, both_keep, cursors_left, cursors_published, cursors_ready, gives_up, holds_the_same, keeps_spent, open_keeps, opened_after, promotes, renews, rows_renewed, still_published, super_kept, super_next, troubled}
use Rattle.strat_memory.proofs.PayingLemmas.{paid_now, paid_then}
use Rattle.strat_store.proofs.RenewingLemmas.{calm_short, carried_behind, damage_of, short_of, told_up, renewed, renewed_trail, trail_so_far}
use Rattle.strat_store.proofs.changing.carry_out_behind.Goals as goal

-- a trouble that came is the trouble of the call
handed : {T : Type 0} {t u : Obstacle} → t ≡ u → IsErrOf {T = T} (Err t) u
handed same = λ i. Err (same i)

pub advance-requires : goal.advance-requires
advance-requires g c = record { kept = c.requires.kept }

pub returns-in-Err-clause-ok : goal.returns-in-Err-clause-ok
returns-in-Err-clause-ok g c x cached stands =
    told_up c.args.held.now cached (c.requires.kept.0 cached) (g.D.Disk.view c.args.disk.now) x stands _ c.requires.none c.requires.kept.1 c.advance.new.held (g.D.Disk.view c.advance.new.disk)
    (told_as c.in-Err.obstacle) c.refusal_of.result c.refusal_of.ensures.ok (λ short. c.in-Err.ensures.kept.1 short x cached stands) (λ short. (c.in-Err.ensures.same.2 short).0)
    (λ b bad. (c.in-Err.ensures.damaged b (handed (damaged_told c.in-Err.obstacle b bad))).2 x cached stands)

pub returns-in-Err-clause-trail : goal.returns-in-Err-clause-trail
returns-in-Err-clause-trail g c x cached stands =
    trail_so_far (g.D.Disk.view c.args.disk.now) (g.D.Disk.view c.advance.new.disk) x _ (c.advance.ensures.trail x cached stands).0

pub returns-in-Err-clause-kept : goal.returns-in-Err-clause-kept
returns-in-Err-clause-kept g c calm = c.in-Err.ensures.kept.0 (calm_short (told_as c.in-Err.obstacle) c.refusal_of.result c.refusal_of.ensures.ok calm)

pub returns-in-Err-clause-budget : goal.returns-in-Err-clause-budget
returns-in-Err-clause-budget g c = λ done. absurd (let e : false ≡ true = done in cc)

pub carry_out-requires-clause-kept : goal.carry_out-requires-clause-kept
carry_out-requires-clause-kept g c = c.in_default.ensures.kept.0 tt

pub carry_out-requires-clause-none : goal.carry_out-requires-clause-none
carry_out-requires-clause-none g c =
    let s = held_of c.args.held.now (empty_cache 0) in
    let mid = held_of c.advance.new.held (empty_cache 0) in
    elim (c.in_default.ensures.found (empty_cache 0)) [
      | inl stays ↦ ready_refuses s.sb.mem s.memory mid.memory _ stays.ready ∙ c.requires.none
      | inr emptied ↦ emptied_refuses s mid _ emptied ∙ c.requires.none
    ]

pub carry_out-requires-clause-room : goal.carry_out-requires-clause-room
carry_out-requires-clause-room g c =
    let s = held_of c.args.held.now (empty_cache 0) in
    let mid = held_of c.advance.new.held (empty_cache 0) in
    let kept = c.requires.kept.0 (empty_cache 0) in
    elim (c.in_default.ensures.found (empty_cache 0)) [
      | inl stays ↦ (
        omega (arith, ap (λ (l : Log). length l.list) (log_stays s mid stays), c.advance.ensures.same.0, stays.room),
        λ unsealed. absurd (sealed_open mid stays.promotion stays.open_is (c.in_default.ensures.kept.0 tt (empty_cache 0)).going unsealed),
      )
      | inr emptied ↦
          let low : length c.advance.new.held.journal.list < c.advance.new.held.sb.mem =
          omega (arith, ap length emptied.journal, length-drop c.args.held.now.sb.mem c.args.held.now.journal.list, c.advance.ensures.same.0, kept.log.few, kept.lawful.mem_least) in
          (omega (arith, low, c.advance.ensures.same.0, kept.lawful.mem_least), λ unsealed. low)
    ]

pub returns-clause-ok : goal.returns-clause-ok
returns-clause-ok g c x cached stands =
    let v = g.D.Disk.view c.args.disk.now in
    let u = g.D.Disk.view c.advance.new.disk in
    let w = g.D.Disk.view c.carry_out.new.disk in
    let s = held_of c.args.held.now cached in
    let mid = held_of c.advance.new.held cached in
    let kept = c.requires.kept.0 cached in
    let went = c.in_default.ensures.ok x cached stands in
    elim (c.in_default.ensures.found cached) [
      | inl stays ↦
          carried_behind c.args.held.now cached kept v x stands _ c.requires.none c.requires.kept.1 c.advance.new.held u c.carry_out.new.held w c.carry_out.result (log_stays s mid stays)
          (c.carry_out.ensures.ok x cached (one_open u mid x (advanced_open u s mid x stays went)))
      | inr emptied ↦
          let p = (advanced_published u s mid x emptied went).0 in
          renewed c.args.held.now cached kept v x stands _ c.requires.none c.requires.kept.1 c.advance.new.held u (c.in_default.ensures.kept.0 tt cached) c.advance.ensures.same.0 emptied.journal p
          c.carry_out.new.held w c.carry_out.result (c.carry_out.ensures.ok p.after cached (one_published u mid p.after emptied.published.closed p.stands))
    ]

pub returns-clause-trail : goal.returns-clause-trail
returns-clause-trail g c x cached stands =
    let v = g.D.Disk.view c.args.disk.now in
    let u = g.D.Disk.view c.advance.new.disk in
    let w = g.D.Disk.view c.carry_out.new.disk in
    let s = held_of c.args.held.now cached in
    let mid = held_of c.advance.new.held cached in
    let kept = c.requires.kept.0 cached in
    let went = c.in_default.ensures.ok x cached stands in
    let first = (c.advance.ensures.trail x cached stands).0 in
    elim (c.in_default.ensures.found cached) [
      | inl stays ↦
          renewed_trail c.args.held.now cached kept v x stands _ c.requires.none c.requires.kept.1 c.advance.new.held u x w c.carry_out.result refl c.carry_out.ensures.images.0 first
          (c.carry_out.ensures.trail x cached (advanced_open u s mid x stays went).stands).0
      | inr emptied ↦
          let p = (advanced_published u s mid x emptied went).0 in
          renewed_trail c.args.held.now cached kept v x stands _ c.requires.none c.requires.kept.1 c.advance.new.held u p.after w c.carry_out.result p.table c.carry_out.ensures.images.0 first
          (c.carry_out.ensures.trail p.after cached p.stands).0
    ]

pub returns-clause-budget : goal.returns-clause-budget
returns-clause-budget g c = λ done f x cached exposed stands.
    subst (λ (o : Option OpenPromotion). SlicesInBudget f (held_of c.args.held.now cached) x o) (sym (c.carry_out.ensures.found.2 cached)) (c.in_default.ensures.budget f x cached exposed stands)

pub returns-in-Err-clause-disk : goal.returns-in-Err-clause-disk
returns-in-Err-clause-disk g c = λ cached.
    let keeps = c.in-Err.ensures.same.3.1 cached in (
      gives_up (g.D.Disk.view c.args.disk.now) (g.D.Disk.view c.advance.new.disk) c.args.held.now c.advance.new.held cached (told_as c.in-Err.obstacle) c.refusal_of.result c.refusal_of.ensures.ok
          (let full = c.requires.kept.1 in let mem = (c.requires.kept.0 cached).log.mem in omega (arith, full, mem)) keeps.0 (λ other. c.in-Err.ensures.disk (λ e. other (let x : ◌≡◌ {A = Result _ Obstacle} (Err c.in-Err.obstacle) (Err Device) = e in let same : c.in-Err.obstacle ≡ Device = cc in ap told_as same)) cached)
          (λ x stands.
          let trail = c.advance.ensures.trail x cached stands in
          (trail.1, trail.2)) c.advance.ensures.time.1,
      cursors_left (held_of c.args.held.now cached) (held_after c.advance.new.held cached (reply.Refused c.refusal_of.result)) _ _ keeps.1,
    )

pub returns-clause-disk : goal.returns-clause-disk
returns-clause-disk g c = λ cached.
    let kept = c.requires.kept.0 cached in
    let v = g.D.Disk.view c.args.disk.now in
    let u = g.D.Disk.view c.advance.new.disk in
    let w = g.D.Disk.view c.carry_out.new.disk in
    let s = held_of c.args.held.now cached in
    let mid = held_of c.advance.new.held cached in
    let t = held_of c.carry_out.new.held cached in
    let after = held_after c.carry_out.new.held cached c.carry_out.result in
    let keeps = c.carry_out.ensures.disk cached in
    let going = c.carry_out.ensures.found.2 cached in
    let still = c.in_default.ensures.disk (λ e. absurd (cc)) cached in
    let agree : c.carry_out.result ≢ reply.Refused why.DeviceFault → KeepsArrays v w s = λ other.
    both_keep v u w s c.advance.new.held.sb.mem kept c.advance.ensures.same.0 c.advance.ensures.time.0 c.advance.ensures.time.1 (c.carry_out.ensures.images.1 other) in
    elim (c.in_default.ensures.found cached) [
      | inl stays ↦ (
        promotes v u w s mid t c.carry_out.result stays keeps going still
            (λ x stands.
            let more = advanced_open u s mid x stays (c.in_default.ensures.ok x cached stands) in
            let advanced = c.advance.ensures.trail x cached stands in
            let carried = c.carry_out.ensures.trail x cached more.stands in (
              λ paid.
                  let first = advanced.1 paid in
                  paid_then u w v.moment c.carry_out.ensures.images.0 first (carried.1 (paid_now u v.moment x more.stands.stands c.advance.ensures.time.0.later first)),
              each_then u w v.moment (HasOldOrNext s.slot s.sb) c.carry_out.ensures.images.0 advanced.2 (super_kept w u.moment s mid (open_keeps s mid stays) carried.2),
            ))
            agree,
        cursors_left s after _ _ (cursors_ready s mid after stays.ready c.carry_out.ensures.found.0),
      )
      | inr emptied ↦ (
        renews v u w s mid t c.carry_out.result emptied.published keeps c.carry_out.ensures.found.0 going c.carry_out.ensures.same.2 still
            (λ x stands.
            let p = (advanced_published u s mid x emptied (c.in_default.ensures.ok x cached stands)).0 in
            let advanced = c.advance.ensures.trail x cached stands in
            let carried = c.carry_out.ensures.trail p.after cached p.stands in (
              λ paid.
                  let first = advanced.1 paid in
                  paid_then u w v.moment c.carry_out.ensures.images.0 first (carried.1 (paid_now u v.moment p.after p.stands.stands c.advance.ensures.time.0.later first)),
              each_then u w v.moment (HasOldOrNext s.slot s.sb) c.carry_out.ensures.images.0 advanced.2 (super_next w u.moment s mid emptied.published carried.2),
            ))
            (λ x stands. (advanced_published u s mid x emptied (c.in_default.ensures.ok x cached stands)).1)
            agree,
        cursors_published s after _ _ kept.placed (still_published s mid after emptied.published (keeps_spent mid t (is_fault c.carry_out.result) keeps.0) c.carry_out.ensures.found.0 going),
      )
    ]

pub returns-in-Err-clause-same : goal.returns-in-Err-clause-same
returns-in-Err-clause-same g c = (
  c.advance.ensures.same.0,
  λ e. absurd (cc),
  troubled (told_as c.in-Err.obstacle) c.refusal_of.result c.refusal_of.ensures.ok,
  rows_stay c.args.held.now.memory c.advance.new.held.memory c.advance.ensures.same.1,
  λ short cached.
      let both = c.in-Err.ensures.same.2 (short_of (told_as c.in-Err.obstacle) c.refusal_of.result c.refusal_of.ensures.ok short) in
      holds_the_same c.args.held.now c.advance.new.held cached (reply.Refused c.refusal_of.result) (c.in-Err.ensures.same.3.1 cached).0 both.0 both.1 c.in-Err.ensures.same.3.0,
)

pub returns-clause-same : goal.returns-clause-same
returns-clause-same g c =
    let s = held_of c.args.held.now (empty_cache 0) in
    let mid = held_of c.advance.new.held (empty_cache 0) in
    let opened : mid.memory.cursors.opened ≡ s.memory.cursors.opened = elim (c.in_default.ensures.found (empty_cache 0)) [
      | inl stays ↦ ready_opened s.sb.mem s.memory mid.memory stays.ready
      | inr emptied ↦ opened_after _ _ _ _ _ _ _ _ emptied.published.after
    ] in (
      c.carry_out.ensures.same.0 ∙ c.advance.ensures.same.0,
      c.carry_out.ensures.same.1,
      c.carry_out.ensures.same.3,
      rows_renewed c.args.held.now.memory c.advance.new.held.memory c.carry_out.new.held.memory c.advance.ensures.same.1 opened c.carry_out.ensures.found.1,
      λ short cached. absurd (let e : reply.Refused why.NoMemory ≡ reply.Refused why.DeviceFault = sym short ∙ c.carry_out.ensures.same.2 (ap accepts short) in cc),
    )

pub returns-in-Err-clause-damaged : goal.returns-in-Err-clause-damaged
returns-in-Err-clause-damaged g c b bad =
    let v = g.D.Disk.view c.args.disk.now in
    let named = c.in-Err.ensures.damaged b (handed (damaged_told c.in-Err.obstacle b (damage_of (told_as c.in-Err.obstacle) c.refusal_of.result b c.refusal_of.ensures.ok bad))) in
    (named.0, λ cached on. named.1 cached (read_open v (held_of c.args.held.now cached) on))

pub returns-clause-damaged : goal.returns-clause-damaged
returns-clause-damaged g c b bad = absurd (c.carry_out.ensures.same.4 b bad)
