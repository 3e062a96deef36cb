use Rattle.std.proofs.Common.{◌≡◌, ◌<◌, ◌++◌, List, ◌+◌, ◌-◌, ℕ, [], ◌∷◌, length, true, false, refl, sym, ap, subst, ◌∙◌, length-append, arith}
use Rattle.std.specs.Prelude.{slice_get, Some}
use Rattle.strat_base.specs.Change.{Change}
use Rattle.strat_model.specs.Answer.{as_told, plain}
use Rattle.strat_model.specs.Pairs.{Pairs}
use Rattle.strat_model.specs.Request.{Request}
use Rattle.strat_model.specs.Command.{request_of}
use Rattle.strat_memory.specs.Held.{Held}
use Rattle.strat_memory.specs.Memory.{KeepsRows, Memory}
use Rattle.strat_store.specs.Applying.{change_wanted}
use Rattle.strat_store.specs.Staging.{may_stage, replies_staged, with_staged}
use Rattle.strat_loop.specs.Grouping.{TellsMade}
use Rattle.strat_loop.specs.Speech.{IsAskedFor, Said}
use Rattle.strat_loop.proofs.StagedLemmas.{made_no_pair, place_where, reply_made, staged_by}
use Rattle.strat_loop.proofs.grouping.stage_body.Given.{Over}
use Rattle.strat_loop.proofs.grouping.stage_body.Goals as goal
use Rattle.strat_loop.proofs.grouping.stage_body.Goals.{After-stage, After-last_reply-reply}

-- what was staged, where it was
record Staged (g : Over) (c : After-stage g) : Type 0 where
  may : may_stage c.args.store.now (request_of c.in-Some.command) ≡ true
  change : Change
  wanted : change_wanted (request_of c.in-Some.command) ≡ Some change
  after : c.stage.new.self ≡ with_staged c.args.store.now change
  more : length c.stage.new.self.log.batch ≡ length c.args.store.now.log.batch + 1
  place : length c.args.store.now.log.batch < 16
  spent : c.stage.new.self.spent ≡ false

staged : (g : Over) (c : After-stage g) → c.stage.result ≡ true → Staged g c
staged g c told =
    let may : may_stage c.args.store.now (request_of c.in-Some.command) ≡ true = sym c.stage.ensures.ok ∙ told in
    let by = staged_by c.args.store.now c.stage.new.self (request_of c.in-Some.command) may (c.stage.ensures.state told) in
    record {
      may = may;
      change = by.0;
      wanted = by.1;
      after = by.2;
      more = ap (λ (s : Held). length s.log.batch) by.2 ∙ length-append c.args.store.now.log.batch (by.0 ∷ []);
      place = (place_where c.args.store.now (request_of c.in-Some.command) may).0;
      spent = ap (λ (s : Held). s.spent) by.2 ∙ c.requires.fits;
    }

-- what is told of it
made : (g : Over) (c : After-last_reply-reply g) → TellsMade c.last_reply-reply.result
made g c = reply_made c.stage.new.self (length c.stage.new.self.log.batch - 1) c.last_reply-reply.result c.last_reply-reply.ensures.found

pub last_reply-reply-requires-clause-fits : goal.last_reply-reply-requires-clause-fits
last_reply-reply-requires-clause-fits g c = (staged g (goal.at.last_reply-reply-requires-clause-fits g c).After-stage c.if-stage.true).spent

pub last_reply-reply-requires-clause-found : goal.last_reply-reply-requires-clause-found
last_reply-reply-requires-clause-found g c = omega (arith, (staged g (goal.at.last_reply-reply-requires-clause-found g c).After-stage c.if-stage.true).more)

pub tell-requires-clause-found : goal.tell-requires-clause-found
tell-requires-clause-found g c = λ found. absurd (made_no_pair c.last_reply-reply.result (made g (goal.at.tell-requires-clause-found g c).After-last_reply-reply) found)

pub keep-requires : goal.keep-requires
keep-requires g c =
    let at = goal.at.keep-requires g c in
    omega (arith, (staged g at.After-stage c.if-stage.true).place, c.requires.room, c.tell.ensures.room (made g at.After-last_reply-reply) c.clear.ensures.ok, ap length c.bytes.ensures)

pub returns-then-stage-clause-ok : goal.returns-then-stage-clause-ok
returns-then-stage-clause-ok g c =
    let speech = g.P.Protocol.speech in
    let s = staged g (goal.at.returns-then-stage-clause-ok g c).After-stage c.if-stage.true in
    let index : length c.stage.new.self.log.batch - 1 ≡ length c.args.store.now.log.batch = omega (arith, s.more) in
    let request : Request = request_of c.in-Some.command in
    let said : Said = record { tag = c.in-Some.tag; answer = plain c.last_reply-reply.result; sent = c.tell.new.out } in
    let text : c.tell.new.out ≡ speech.tells c.changes-changes.result c.in-Some.tag request (plain c.last_reply-reply.result) =
    c.tell.ensures.ok ∙ ap (λ (p : Pairs). speech.tells c.changes-changes.result c.in-Some.tag request (as_told c.last_reply-reply.result p)) c.clear.ensures.ok in (
      said,
      refl,
      record {
        request = request;
        asked = subst (λ (n : ℕ). IsAskedFor speech n c.args.body.now request said) c.changes-changes.ensures.ok (record { asks = c.in-Some.ensures.ok; text = text });
        change = s.change;
        wanted = s.wanted;
        may = s.may;
        staged = c.stage.ensures.kept.0;
        rows = subst (λ (m : Memory). KeepsRows c.args.store.now.memory m) (ap (λ (h : Held). h.memory) s.after) c.stage.ensures.kept.2;
        after = s.after;
        told = c.last_reply-reply.result;
        kept = subst (λ (n : ℕ). slice_get (replies_staged c.stage.new.self) n ≡ Some c.last_reply-reply.result) index c.last_reply-reply.ensures.found;
        answer = refl;
      },
      c.keep.ensures.ok ∙ ap (λ (x : List ℕ). c.args.kept.now ++ x) c.bytes.ensures,
    )

pub returns-then-stage-clause-room : goal.returns-then-stage-clause-room
returns-then-stage-clause-room g c =
    let at = goal.at.returns-then-stage-clause-room g c in
    omega (
      arith,
      (staged g at.After-stage c.if-stage.true).more,
      c.keep.ensures.len,
      c.requires.room,
      c.tell.ensures.room (made g at.After-last_reply-reply) c.clear.ensures.ok,
      ap length c.bytes.ensures,
    )

pub returns-then-stage-clause-state : goal.returns-then-stage-clause-state
returns-then-stage-clause-state g c = (staged g (goal.at.returns-then-stage-clause-state g c).After-stage c.if-stage.true).spent
