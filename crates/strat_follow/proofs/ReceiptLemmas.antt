-- What a follower says to a body is a receipt, and the table goes on as that tells.
use Rattle.std.proofs.Common.{◌≡◌, ◌≤◌, ◌+◌, ℕ, Bool, true, if◌then◌else◌, List, [], ◌∷◌, ◌++◌, map, refl, sym, ap, ◌∙◌, subst, inl, inr}
use Rattle.std.specs.List.{flat_map}
use Rattle.std.proofs.lemmas.Bool.{cases_Bool}
use Rattle.strat_base.specs.Change.{Change}
use Rattle.strat_base.specs.Change as change
use Rattle.strat_model.specs.declared.replies.Refusal.{Refusal}
use Rattle.strat_model.specs.declared.replies.Refusal.TheVariants as why
use Rattle.strat_model.specs.Answer.{Answer, accepts, refusal}
use Rattle.strat_model.specs.Request.{Request}
use Rattle.strat_model.specs.Run.{Exchange, Position, IsAfter, IsFault, is_change}
use Rattle.strat_model.specs.Step.{step}
use Rattle.strat_model.specs.Table.{Table}
use Rattle.def_meaning.specs.StateTable.{request_for}
use Rattle.def_follow.specs.Following as kept
use Rattle.def_follow.specs.Following.{Delivery, Receipt, Receives, IsBrokenOff, IsFollowing, fate_for, receipt_frame}
use Rattle.def_follow.proofs.LogLemmas.{change_counts}
use Rattle.strat_loop.specs.Speech.{IsSpokenRun, Said, Says, SaysFault, said_bytes}
use Rattle.strat_follow.specs.Follows.{AsksNext, IsPassedBy, PassesBy, follows, receipt_after}

-- a body was answered by a receipt, and the table went on so
pub record IsReceived (mem : ℕ) (at : Position) (body : List ℕ) (said : Said) (after : Position) : Type 0 where
  pub receipt : Receipt
  pub receives : Receives mem at body receipt after
  pub sent : said.sent ≡ receipt_frame receipt

-- how many changes there are after a change
next_changes : (mem : ℕ) (at after : Position) (c : Change) → IsAfter mem at (request_for c) after
    → (if accepts (step at.table (request_for c)).answer.reply then at.table.changes + 1 else at.table.changes) ≡ after.table.changes
next_changes mem at after c place =
    let o = step at.table (request_for c) in
    let counts = change_counts at.table c in
    let table : after.table ≡ o.table = place.table in
    elim (cases_Bool (accepts o.answer.reply)) [
      | inl taken ↦ ap (λ (b : Bool). if b then at.table.changes + 1 else at.table.changes) taken ∙ sym (counts.0 taken) ∙ ap (λ (t : Table). t.changes) (sym table)
      | inr denied ↦ ap (λ (b : Bool). if b then at.table.changes + 1 else at.table.changes) denied ∙ ap (λ (t : Table). t.changes) (sym (counts.1 denied) ∙ sym table)
    ]

-- a change is a change
is_one : (c : Change) → is_change (request_for c) ≡ true
is_one (change.Put v k x) = refl
is_one (change.Delete v k) = refl
is_one (change.Clone v) = refl
is_one (change.DropVersion v) = refl

module _ (mem : ℕ) (at : Position) (body : List ℕ) (said : Said) where
  -- a body that asks for nothing
  passed : (after : Position) → IsPassedBy at.table.changes body said → after ≡ at → IsReceived mem at body said after
  passed after by same = go by.passes
    where
      go : PassesBy at.table.changes body by.receipt → IsReceived mem at body said after
      go (inl none) = record { receipt = by.receipt; receives = inl (record { none = none.none; receipt = none.receipt; same = same }); sent = by.sent }
      go (inr out) = record {
        receipt = by.receipt;
        receives = inr (inl (record { n = out.n; spelled = out.spelled; turn = out.turn; number = out.number; next = out.next; same = same }));
        sent = by.sent;
      }

  -- one that asks for the next change, which the table was given
  given : (after : Position) (request : Request) (asks : AsksNext at.table.changes body said.tag request) → said.sent ≡ receipt_frame (receipt_after at.table.changes said.tag said.answer.reply)
      → said.answer ≡ (step at.table request).answer → IsAfter mem at request after → IsReceived mem at body said after
  given after request asks sent answer place =
      let n = asks.n in
      let told : said.answer ≡ (step at.table (request_for n.change)).answer = answer ∙ ap (λ (q : Request). (step at.table q).answer) asks.request_is in
      let there : IsAfter mem at (request_for n.change) after = subst (λ (q : Request). IsAfter mem at q after) asks.request_is place in
      let count : (if accepts said.answer.reply then at.table.changes + 1 else at.table.changes) ≡ after.table.changes =
      ap (λ (a : Answer). if accepts a.reply then at.table.changes + 1 else at.table.changes) told ∙ next_changes mem at after n.change there in
      let r : Receipt = record { number = n.number; fate = fate_for (step at.table (request_for n.change)).answer.reply; next = after.table.changes } in
      record {
        receipt = r;
        receives = inr (inr (inl (record { n = n; spelled = asks.spelled; turn = asks.turn; place = there; receipt = refl })));
        sent = sent ∙ (λ i. receipt_frame (record { number = asks.tag_is i; fate = fate_for (told i).reply; next = count i }));
      }

  -- or for which memory ran out
  short_of : (after : Position) (request : Request) (asks : AsksNext at.table.changes body said.tag request) → said.sent ≡ receipt_frame (receipt_after at.table.changes said.tag said.answer.reply)
      → accepts (step at.table request).answer.reply ≡ true → (is_change request ≡ true → mem ≤ at.fill) → said.answer ≡ refusal why.NoMemory → after ≡ at → IsReceived mem at body said after
  short_of after request asks sent accepted full answer same =
      let n = asks.n in
      let r : Receipt = record { number = n.number; fate = kept.Refused why.NoMemory; next = at.table.changes } in
      record {
        receipt = r;
        receives = inr (inr (inr (record {
          n = n;
          spelled = asks.spelled;
          turn = asks.turn;
          accepted = subst (λ (q : Request). accepts (step at.table q).answer.reply ≡ true) asks.request_is accepted;
          full = full (ap is_change asks.request_is ∙ is_one n.change);
          receipt = refl;
          same = same;
        })));
        sent = sent ∙ (λ i. receipt_frame (receipt_after at.table.changes (asks.tag_is i) (answer i).reply));
      }

  -- what is said to one body
  pub received_so : (after : Position) → Says follows mem at body said after → IsReceived mem at body said after
  received_so after (inl none) = passed after none.declined.declines none.same
  received_so after (inr (inl by)) = given after by.request by.asked.asks by.asked.text by.answer by.place
  received_so after (inr (inr by)) = short_of after by.request by.asked.asks by.asked.text by.accepted by.full by.answer by.same

  -- and to one that met a fault
  pub broken_so : (done : Position) → SaysFault follows mem at body said done → (r : Receipt) × IsBrokenOff mem at body r done × (said.sent ≡ receipt_frame r) × (said.answer ≡ refusal why.DeviceFault → r.fate ≡ kept.Refused why.DeviceFault)
  broken_so done by =
      let asks = by.asked.asks in
      let n = asks.n in
      let cause = cause_of by.answer in
      let r : Receipt = record { number = n.number; fate = kept.Refused cause.0; next = at.table.changes } in (
        r,
        record {
          n = n;
          spelled = asks.spelled;
          turn = asks.turn;
          accepted = subst (λ (q : Request). accepts (step at.table q).answer.reply ≡ true) asks.request_is by.accepted;
          cause = cause.0;
          fault = cause.2;
          receipt = refl;
          place = subst (λ (q : Request). IsAfter mem at q done) asks.request_is by.place;
        },
        by.asked.text ∙ (λ i. receipt_frame (receipt_after at.table.changes (asks.tag_is i) (cause.1 i).reply)),
        λ device. ap (λ (a : Answer). fate_for a.reply) (sym cause.1 ∙ device),
      )
    where
      cause_of : IsFault said.answer → (w : Refusal) × (said.answer ≡ refusal w) × IsFault (refusal w)
      cause_of (inl device) = (why.DeviceFault, device, inl refl)
      cause_of (inr damaged) = (why.Damaged damaged.0, damaged.1, inr (damaged.0, refl))

-- a run of receipts
pub run_received : (mem : ℕ) (at : Position) (xs : List Exchange) (answers : List Said) (after : Position) → IsSpokenRun follows mem at xs answers after
    → (deliveries : List Delivery) × IsFollowing mem at deliveries after × (map (λ (d : Delivery). d.body) deliveries ≡ map (λ (x : Exchange). x.body) xs)
    × (said_bytes answers ≡ flat_map (λ (d : Delivery). receipt_frame d.receipt) deliveries)
run_received mem at [] [] after run = ([], run, refl, refl)
run_received mem at [] (said ∷ more) after run = absurd run
run_received mem at (x ∷ xs) [] after run = absurd run
run_received mem at (x ∷ xs) (said ∷ more) after run =
    let mid = run.2.0 in
    let one = received_so mem at x.body said mid run.2.1 in
    let rest = run_received mem mid xs more after run.2.2 in (
      record { body = x.body; receipt = one.receipt; at = at } ∷ rest.0,
      (refl, (mid, one.receives, rest.1)),
      ap (λ (l : List (List ℕ)). x.body ∷ l) rest.2,
      (λ i. one.sent i ++ rest.3 i),
    )
