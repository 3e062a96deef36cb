use Rattle.std.proofs.Common.{◌≡◌, ◌≤◌, ℕ, Bool, true, false, cond, eqb, ◌||◌, List, length, sym, ap, ◌∙◌, subst}
use Rattle.std.specs.List.{insert}
use Rattle.strat_split.specs.Waiting.{IsListed, IsWaitingPlace}
use Rattle.strat_split.proofs.WaitingLemmas.{listed_put}
use Rattle.strat_split.proofs.waiting.put.Goals as goal

put_in : (test : ℕ → Bool) (q at : ℕ) (old seen new : List ℕ) (done : Bool) → seen ≡ old → at ≤ length seen → (IsListed test seen → IsWaitingPlace q seen at) → new ≡ cond done (insert old at q) old → done ≡ true → test q ≡ false → IsListed test old → IsListed (λ r. test r || eqb r q) new
put_in test q at old seen new done same within place is succeeded off listed =
    let seen_listed : IsListed test seen = subst (IsListed test) (sym same) listed in
    let moved : insert seen at q ≡ new = ap (λ (xs : List ℕ). insert xs at q) same ∙ sym (is ∙ ap (λ (b : Bool). cond b (insert old at q) old) succeeded) in
    subst (IsListed (λ r. test r || eqb r q)) moved (listed_put test q off seen seen_listed at within (place seen_listed))

pub returns-clause-ok : goal.returns-clause-ok
returns-clause-ok c = λ test off listed. put_in test c.args.q c.place_for-at.result c.args.waiting.now.items c.deref.result.now c.insert.new.self.items _ c.deref.ensures.value c.place_for-at.ensures.len (λ seen. c.place_for-at.ensures.ok test off seen) c.insert.ensures.items (c.insert.ensures.succeeds c.requires.room) off listed
