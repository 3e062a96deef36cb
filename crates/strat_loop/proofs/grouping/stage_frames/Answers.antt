use Rattle.std.proofs.Common.{◌≡◌, ℕ, List, [], ◌∷◌, ◌++◌, true, not, refl, sym, ap, subst, ◌∙◌, append_assoc, append-nil}
use Rattle.std.specs.Prelude.{is_some}
use Rattle.std.proofs.lemmas.List.Concat.{flat_map-append}
use Rattle.strat_model.specs.Stream.{frame}
use Rattle.strat_loop.specs.Grouping.{StagesBody}
use Rattle.strat_loop.proofs.ProgressLemmas.{each_more}
use Rattle.strat_loop.proofs.SendLemmas.{frame_shrinks}
use Rattle.strat_loop.proofs.SessionLemmas.{whole_taken}
use Rattle.strat_loop.proofs.StagedLemmas.{stages_more}
use Rattle.strat_loop.proofs.TurnLemmas.{some_of}
use Rattle.strat_loop.proofs.grouping.stage_frames.Goals as goal
use Rattle.strat_loop.specs.Speech.{Said, said_bytes}

pub loop-store-init : goal.loop-store-init
loop-store-init g c = record {
  bodies = [];
  responses = [];
  stages = refl;
  each = tt;
  parts = refl;
  text = sym (append-nil c.args.buffers.now.staged);
  room = c.requires.room;
  same = refl;
  going = c.requires.fits;
}

pub loop-store-preserved : goal.loop-store-preserved
loop-store-preserved g c =
    let so_far = c.loop-store.invariant in
    let body : List ℕ = c.next.new.self.body in
    let some : is_some c.stage_body-staged.result ≡ true = c.is_none.ensures ∙ ap not c.if-is_none.false in
    let one = some_of c.stage_body-staged.result some c.stage_body-staged.ensures.ok in
    let response : Said = one.1.0 in
    let stages : StagesBody g.P.Protocol.speech c.loop-store.store body response c.stage_body-staged.new.store = subst (λ (b : List ℕ). StagesBody g.P.Protocol.speech c.loop-store.store b response c.stage_body-staged.new.store) c.body.ensures one.1.2 in
    record {
      bodies = so_far.bodies ++ body ∷ [];
      responses = so_far.responses ++ response ∷ [];
      stages = stages_more g.P.Protocol.speech c.args.store.now c.loop-store.store c.stage_body-staged.new.store so_far.bodies so_far.responses body response so_far.stages stages;
      each = each_more so_far.bodies body so_far.each c.in-Frame.ensures.ok.1;
      parts = whole_taken c.args.buffers.now.frames.held c.loop-store.buffers.frames.held c.next.new.self.held so_far.bodies (body ∷ []) so_far.parts
          (c.in-Frame.ensures.ok.0 ∙ ap (λ (x : List ℕ). x ++ c.next.new.self.held) (sym (append-nil (frame body))));
      text = one.1.3 ∙ ap (λ (x : List ℕ). x ++ response.sent) so_far.text ∙ append_assoc c.args.buffers.now.staged (said_bytes so_far.responses) (response.sent)
          ∙ ap (λ (x : List ℕ). c.args.buffers.now.staged ++ x)
          (sym (flat_map-append (λ (r : Said). r.sent) so_far.responses (response ∷ []) ∙ ap (λ (x : List ℕ). said_bytes so_far.responses ++ x) (append-nil (response.sent))));
      room = c.stage_body-staged.ensures.room;
      same = so_far.same;
      going = c.stage_body-staged.ensures.state;
    }

pub loop-store-smaller : goal.loop-store-smaller
loop-store-smaller g c = frame_shrinks c.loop-store.buffers.frames.held c.next.new.self.body c.next.new.self.held c.in-Frame.ensures.ok.0
