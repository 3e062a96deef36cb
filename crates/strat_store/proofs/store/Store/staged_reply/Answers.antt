use Rattle.std.proofs.Common.{List, Option, sym, ap, subst, ◌∙◌, ◌<◌, ℕ}
use Rattle.std.specs.Prelude.{slice_get, unwrap_or}
use Rattle.strat_model.specs.declared.replies.Reply.{Reply}
use Rattle.strat_model.specs.declared.replies.Reply.TheVariants as reply
use Rattle.strat_memory.specs.RecoveredFields.{held_of}
use Rattle.strat_store.specs.Staging.{replies_staged}
use Rattle.strat_store.proofs.StagingLemmas.{length_replies, told_there}
use Rattle.strat_store.proofs.store.Store.staged_reply.Goals as goal

pub returns : goal.returns
returns c =
    let s = held_of c.self.inside.held c.self.inside.cache in
    let low = rw (← c.self.view_is) at c.requires.found in
    record {
      ok = rw (← c.self.view_is) (λ going.
          let are = (c.self.invariant going).2 in
          told_there (replies_staged s) c.args.i reply.Done c.unwrap_or.result (subst (λ (n : ℕ). c.args.i < n) (sym (length_replies s)) low)
          (c.unwrap_or.ensures ∙ ap (λ (o : Option Reply). unwrap_or o reply.Done) c.get.ensures.ok ∙ ap (λ (rs : List Reply). unwrap_or (slice_get rs c.args.i) reply.Done) are));
    }
