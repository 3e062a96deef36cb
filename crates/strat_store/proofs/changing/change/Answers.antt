use Rattle.std.proofs.Common.{◌≡◌, ◌<◌, false, true, inl, length, Some, None, refl, sym, ap, ◌∙◌, arith}
use Rattle.strat_model.specs.Answer.{accepts}
use Rattle.strat_model.specs.declared.replies.Refusal.TheVariants as why
use Rattle.def_crash.proofs.MomentLemmas.{reads_refl}
use Rattle.strat_model.specs.declared.replies.Reply.TheVariants as reply
use Rattle.strat_store.specs.Applying.{held_after}
use Rattle.strat_memory.specs.RecoveredFields.{held_of, empty_cache}
use Rattle.strat_store.proofs.GoingLemmas.{one_short}
use Rattle.strat_store.proofs.LeavingLemmas.{cursors_left, cursors_same, front_keeps, left_alone, leaves_room}
use Rattle.strat_store.proofs.RenewingLemmas.{refused_not_short, refused_trail, refused_well}
use Rattle.strat_store.proofs.changing.change.Goals as goal

pub returns-in-Some-clause-ok : goal.returns-in-Some-clause-ok
returns-in-Some-clause-ok g c x cached stands =
    refused_well c.args.held.now cached (c.requires.kept cached) (g.D.Disk.view c.args.disk.now) x stands _ c.in-Some.refusal (sym c.in-Some.ensures.ok)

pub returns-in-Some-clause-trail : goal.returns-in-Some-clause-trail
returns-in-Some-clause-trail g c x cached stands =
    refused_trail c.args.held.now cached (c.requires.kept cached) (g.D.Disk.view c.args.disk.now) x stands _ c.in-Some.refusal (sym c.in-Some.ensures.ok)

pub carry_out_behind-requires-clause-kept : goal.carry_out_behind-requires-clause-kept
carry_out_behind-requires-clause-kept g c =
    let kept = c.requires.kept (empty_cache 0) in
    (c.requires.kept, omega (arith, c.if-count-held.true, c.count.ensures.ok, kept.log.mem, kept.log.few))

pub carry_out-requires-clause-room : goal.carry_out-requires-clause-room
carry_out-requires-clause-room g c =
    let kept = c.requires.kept (empty_cache 0) in
    let low : length c.args.held.now.journal.list < c.args.held.now.sb.mem = omega (arith, c.if-count-held.false, c.count.ensures.ok, kept.log.mem, kept.log.few) in
    (omega (arith, low, kept.lawful.mem_least), λ unsealed. low)

pub returns-in-Some-clause-disk : goal.returns-in-Some-clause-disk
returns-in-Some-clause-disk g c = λ cached.
    let s = held_of c.args.held.now cached in (
      left_alone (g.D.Disk.view c.args.disk.now) (g.D.Disk.view c.args.disk.now) s _ _ _ refl (reads_refl (g.D.Disk.view c.args.disk.now)),
      cursors_left s (held_after c.args.held.now cached (reply.Refused c.in-Some.refusal)) _ _ (cursors_same s (held_after c.args.held.now cached (reply.Refused c.in-Some.refusal)) refl),
    )

pub returns-clause-disk : goal.returns-clause-disk
returns-clause-disk g c = λ cached.
    let kept = c.requires.kept cached in
    let both = c.carry_out.ensures.disk cached in
    let s = held_of c.args.held.now cached in
    let t = held_after c.carry_out.new.held cached c.carry_out.result in (
      leaves_room (g.D.Disk.view c.args.disk.now) (g.D.Disk.view c.carry_out.new.disk) s (held_of c.carry_out.new.held cached) _ c.carry_out.result _
          (omega (arith, c.if-count-held.false, c.count.ensures.ok, kept.log.mem, kept.log.few)) both.0 (c.carry_out.ensures.found.2 cached) both.1
          (λ x stands.
          let trail = c.carry_out.ensures.trail x cached stands in
          (trail.1, λ d since. inl (trail.2 d since)))
          (λ other. front_keeps (g.D.Disk.view c.args.disk.now) (g.D.Disk.view c.carry_out.new.disk) s kept (c.carry_out.ensures.images.1 other)),
      cursors_left s t _ _ (cursors_same s t c.carry_out.ensures.found.0),
    )

pub returns-clause-damaged : goal.returns-clause-damaged
returns-clause-damaged g c b bad = absurd (c.carry_out.ensures.same.4 b bad)

pub returns-clause-ok : goal.returns-clause-ok
returns-clause-ok g c x cached stands =
    let kept = c.requires.kept cached in
    let low : length c.args.held.now.journal.list < c.args.held.now.sb.mem = omega (arith, c.if-count-held.false, c.count.ensures.ok, kept.log.mem, kept.log.few) in
    c.carry_out.ensures.ok x cached (one_short (g.D.Disk.view c.args.disk.now) (held_of c.args.held.now cached) x kept low stands)

pub returns-clause-budget : goal.returns-clause-budget
returns-clause-budget g c = λ done full.
    let kept = c.requires.kept (empty_cache 0) in
    absurd (omega (arith, full, c.if-count-held.false, c.count.ensures.ok, kept.log.mem, kept.log.few))

pub returns-then-count-held-clause-budget : goal.returns-then-count-held-clause-budget
returns-then-count-held-clause-budget g c = λ done full. c.carry_out_behind.ensures.budget done

pub returns-in-Some-clause-budget : goal.returns-in-Some-clause-budget
returns-in-Some-clause-budget g c = λ done. absurd (let e : false ≡ true = done in cc)

pub returns-clause-trail : goal.returns-clause-trail
returns-clause-trail g c x cached stands = (c.carry_out.ensures.trail x cached stands).0

pub returns-then-count-held-clause-damaged : goal.returns-then-count-held-clause-damaged
returns-then-count-held-clause-damaged g c b bad =
    (c.carry_out_behind.ensures.damaged b bad, omega (arith, c.if-count-held.true, c.count.ensures.ok, (c.requires.kept (empty_cache 0)).log.mem, (c.requires.kept (empty_cache 0)).log.few))

pub returns-then-count-held-clause-none : goal.returns-then-count-held-clause-none
returns-then-count-held-clause-none g c = (
  λ none. c.carry_out_behind.ensures.same.2,
  λ short. (
    omega (arith, c.if-count-held.true, c.count.ensures.ok, (c.requires.kept (empty_cache 0)).log.mem, (c.requires.kept (empty_cache 0)).log.few),
    c.carry_out_behind.ensures.same.4 short,
  ),
)

pub returns-clause-none : goal.returns-clause-none
returns-clause-none g c = (
  λ none. c.carry_out.ensures.same.3,
  λ short. absurd (let e : reply.Refused why.NoMemory ≡ reply.Refused why.DeviceFault = sym short ∙ c.carry_out.ensures.same.2 (ap accepts short) in cc),
)

pub returns-in-Some-clause-none : goal.returns-in-Some-clause-none
returns-in-Some-clause-none g c = (
  λ none. absurd (let e : Some c.in-Some.refusal ≡ None = c.in-Some.ensures.ok ∙ none in cc),
  λ short. absurd (refused_not_short c.args.held.now.memory _ c.in-Some.refusal (sym c.in-Some.ensures.ok) short),
)
