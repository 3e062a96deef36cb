-- What is said by the protocol of commands and replies is what responses are, and a run of it is one of commands and replies.
use Rattle.std.proofs.Common.{◌≡◌, ℕ, zero, suc, eqb, Bool, List, [], ◌∷◌, ◌++◌, length, take, map, Option, Some, None, refl, sym, ap, subst, ◌∙◌, ◌⊎◌, inl, inr, arith}
use Rattle.std.specs.Prelude.{IfSome, IsSome, option_map}
use Rattle.std.specs.List.{AllByRecursion}
use Rattle.std.proofs.lemmas.List.{length-map, map-append}
use Rattle.strat_io.specs.Streams.{Appends}
use Rattle.strat_model.specs.Answer.{Answer, refusal}
use Rattle.strat_model.specs.Batch.{AsksForChange, Continuation, IsBatch, IsChangeMade}
use Rattle.strat_model.specs.Faults.{fault_told}
use Rattle.strat_model.specs.Run.{Answers, AnswersFault, Exchange, Interruption, IsRun, IsTranscript, Position, Response, response_bytes, sent_bytes}
use Rattle.strat_model.specs.Spelling.{Spells}
use Rattle.strat_model.specs.Stream.{is_too_long}
use Rattle.strat_model.specs.Table.{Table}
use Rattle.strat_model.specs.declared.ended.Ended.{Ended}
use Rattle.strat_model.specs.declared.ended.Ended.TheVariants as ended
use Rattle.strat_model.specs.declared.replies.Refusal.TheVariants as why
use Rattle.def_crash.specs.Image.{Image}
use Rattle.def_crash.specs.Moments.{DiskView}
use Rattle.strat_serve.specs.Replying.{replies}
use Rattle.strat_loop.specs.Session.{WaitsForNone}
use Rattle.strat_serve.specs.Serving.{AreAnsweredBy, AreCalm, FollowsRun, IsSession, RespondsTo, RunOutcome, Sends, SendsAllBut, Served, all_responses, last_output, listed_response, output}
use Rattle.strat_loop.specs.Speech.{IsDeclined, IsSpokenBatch, IsSpokenChange, IsSpokenRun, Said, Says, SaysFault, response_of, said_bytes}
use Rattle.strat_loop.specs.Spoken.{AreSaidCalmly, AreSaidTo, FollowsSpokenRun, IsSaidFor, IsSitting, SendsAllButLast, SendsSaid, ServedBy, Sitting, SpokenOutcome, all_said, last_said, listed_said, output_of, session_of}
use Rattle.strat_loop.specs.World.{World}

-- the bytes of what was said are those of the response
abbrev IsReply : Said → Type 0
IsReply said = said.sent ≡ response_bytes (response_of said)

text_is : (changes : ℕ) (body : List ℕ) (said : Said) → IsDeclined replies changes body said ⊎ IsSaidFor replies changes body said → IsReply said
text_is changes body said (inl declined) = declined.declines.text
text_is changes body said (inr asker) = asker.asked.text

responds : (changes : ℕ) (body : List ℕ) (said : Said) → IsDeclined replies changes body said ⊎ IsSaidFor replies changes body said → RespondsTo body (response_of said)
responds changes body said (inl declined) = inl declined.declines.refused
responds changes body said (inr asker) = inr (record { request = asker.request; spelled = asker.asked.asks; reached = asker.reached; short = asker.short; few = asker.few })

-- to each body one response
answered_by : (bodies : List (List ℕ)) (said : List Said) → AreSaidTo replies bodies said → AreAnsweredBy bodies (map response_of said)
answered_by [] [] all = tt
answered_by [] (s ∷ said) all = absurd all
answered_by (b ∷ bodies) [] all = absurd all
answered_by (b ∷ bodies) (s ∷ said) all = (responds all.0.0 b s all.0.1, answered_by bodies said all.1)

texts_are : (bodies : List (List ℕ)) (said : List Said) → AreSaidTo replies bodies said → AllByRecursion IsReply said
texts_are [] [] all = tt
texts_are [] (s ∷ said) all = absurd all
texts_are (b ∷ bodies) [] all = absurd all
texts_are (b ∷ bodies) (s ∷ said) all = (text_is all.0.0 b s all.0.1, texts_are bodies said all.1)

bytes_are : (said : List Said) → AllByRecursion IsReply said → said_bytes said ≡ sent_bytes (map response_of said)
bytes_are [] all = refl
bytes_are (s ∷ said) all = (λ i. all.0 i ++ bytes_are said all.1 i)

front_texts : (n : ℕ) (said : List Said) → AllByRecursion IsReply said → AllByRecursion IsReply (take n said)
front_texts zero said all = tt
front_texts (suc n) [] all = tt
front_texts (suc n) (s ∷ said) all = (all.0, front_texts n said all.1)

front_of : (n : ℕ) (said : List Said) → map response_of (take n said) ≡ take n (map response_of said)
front_of zero said = refl
front_of (suc n) [] = refl
front_of (suc n) (s ∷ said) = ap (λ (l : List Response). response_of s ∷ l) (front_of n said)

-- no response tells of a fault where nothing that was said does
calm_by : (said : List Said) → AllByRecursion (λ (r : Said). fault_told r.answer.reply ≡ None) said → AllByRecursion (λ (r : Response). fault_told r.answer.reply ≡ None) (map response_of said)
calm_by [] all = tt
calm_by (s ∷ said) all = (all.0, calm_by said all.1)

-- what is said of an answer is said of the response
if_response : (P : Answer → Type 0) (o : Option Said) → IfSome o (λ (r : Said). P r.answer) → IfSome (option_map response_of o) (λ (r : Response). P r.answer)
if_response P None p = tt
if_response P (Some said) p = p

-- and no change was told anything after which a store may have written where no response is such
calm_said : (bodies : List (List ℕ)) (said : List Said) → AreCalm bodies (map response_of said) → AreSaidCalmly replies bodies said
calm_said [] said calm = tt
calm_said (b ∷ bodies) [] calm = tt
calm_said (b ∷ bodies) (s ∷ said) calm = (λ changes request spelled change. calm.0 request spelled change, calm_said bodies said calm.1)

-- the responses of a sitting
listed_are : (o : Option Said) → listed_response (option_map response_of o) ≡ map response_of (listed_said o)
listed_are None = refl
listed_are (Some said) = refl

all_are : (s : Sitting) → all_responses (session_of s) ≡ map response_of (all_said s)
all_are s = ap (λ (l : List Response). map response_of s.answers ++ l) (listed_are s.broken) ∙ sym (map-append response_of s.answers (listed_said s.broken))

last_is : (o : Option Said) (all long : Bool) → last_said replies o all long ≡ last_output (option_map response_of o) all long
last_is None all long = refl
last_is (Some said) all long = refl

module _ (s : Sitting) (texts : AllByRecursion IsReply (all_said s)) where
  -- what it sends
  output_is : output_of replies s ≡ output (session_of s)
  output_is =
      ap (λ (x : List ℕ). x ++ last_said replies s.broken (eqb (length s.answers) (length s.bodies)) (is_too_long s.rest))
      (bytes_are (all_said s) texts ∙ ap sent_bytes (sym (all_are s)))
      ∙ ap (λ (x : List ℕ). sent_bytes (all_responses (session_of s)) ++ x)
      (last_is s.broken (eqb (length s.answers) (length s.bodies)) (is_too_long s.rest)
      ∙ ap (λ (n : ℕ). last_output (option_map response_of s.broken) (eqb n (length s.bodies)) (is_too_long s.rest)) (sym (length-map s.answers response_of)))

  sends_cut : (before now : Option (List ℕ)) → SendsAllButLast replies before now s → SendsAllBut 16 before now (session_of s)
  sends_cut before now sends = record {
    cut = record {
      sent = sends.cut.sent;
      later = sends.cut.later;
      parts = sym output_is ∙ sends.cut.parts;
      some = sends.cut.some;
      appends = sends.cut.appends;
    };
    whole = sends.whole;
    last = omega (arith, sends.last, ap length (all_are s), length-map (all_said s) response_of);
    part = sends.part;
    replied = sends.replied
        ∙ ap (λ (x : List ℕ). x ++ sends.part)
        (bytes_are (take sends.whole (all_said s)) (front_texts sends.whole (all_said s) texts)
        ∙ ap sent_bytes (front_of sends.whole (all_said s) ∙ ap (take sends.whole) (sym (all_are s))));
    ahead = sends.ahead;
  }

  sends_all : (before now : Option (List ℕ)) → Appends before now (output_of replies s) → Appends before now (output (session_of s))
  sends_all before now sends = subst (λ (x : List ℕ). Appends before now x) output_is sends

  sends_so : (how : Ended) (before now : Option (List ℕ)) → SendsSaid replies how before now s → Sends how before now (session_of s)
  sends_so ended.Sink before now sends = sends_cut before now sends
  sends_so ended.Done before now sends = sends_all before now sends
  sends_so ended.Truncated before now sends = sends_all before now sends
  sends_so ended.FrameTooLong before now sends = sends_all before now sends
  sends_so ended.Budget before now sends = sends_all before now sends
  sends_so ended.Source before now sends = sends_all before now sends
  sends_so ended.Device before now sends = sends_all before now sends
  sends_so (ended.Damaged block) before now sends = sends_all before now sends
  sends_so ended.NoMemory before now sends = sends_all before now sends
  sends_so ended.NotAStore before now sends = sends_all before now sends
  sends_so ended.Usage before now sends = sends_all before now sends
  sends_so ended.Unsound before now sends = sends_all before now sends
  sends_so ended.UnknownVersion before now sends = sends_all before now sends

-- a sitting is a session
is_session : (budget : ℕ) (s : Sitting) → IsSitting replies budget s → IsSession budget (session_of s)
is_session budget s is = record {
  splits = is.splits;
  answered = subst (λ (l : List Response). AreAnsweredBy (take (length l) s.bodies) l) (sym (all_are s))
      (subst (λ (n : ℕ). AreAnsweredBy (take n s.bodies) (map response_of (all_said s))) (sym (length-map (all_said s) response_of))
      (answered_by (take (length (all_said s)) s.bodies) (all_said s) is.answered));
  calm = calm_by s.answers is.calm;
  fault = if_response (λ (a : Answer). IsSome (fault_told a.reply)) s.broken is.fault;
  within = is.within;
  ahead = subst (λ (n : ℕ). WaitsForNone s.taken s.bodies n) (sym (length-map s.answers response_of)) is.ahead;
}

-- what may be said to a body is how it may be answered
answers_so : (mem : ℕ) (at : Position) (body : List ℕ) (said : Said) (after : Position) → Says replies mem at body said after → Answers mem at body (response_of said) after
answers_so mem at body said after (inl is) =
    let refused = is.declined.declines.refused in
    inl (record { cause = refused.cause; refused = refused.refused; answer = refused.answer; same = is.same })
answers_so mem at body said after (inr (inl is)) = inr (inl (record { request = is.request; spelled = is.asked.asks; answer = is.answer; place = is.place }))
answers_so mem at body said after (inr (inr is)) =
    inr (inr (record { request = is.request; spelled = is.asked.asks; takes = is.takes; accepted = is.accepted; full = is.full; answer = is.answer; same = is.same }))

run_so : (mem : ℕ) (at : Position) (xs : List Exchange) (said : List Said) (after : Position) → IsSpokenRun replies mem at xs said after → IsRun mem at xs after
run_so mem at [] [] after run = run
run_so mem at [] (s ∷ said) after run = absurd run
run_so mem at (x ∷ xs) [] after run = absurd run
run_so mem at (x ∷ xs) (s ∷ said) after run = (
  run.0,
  (
    run.2.0,
    subst (λ (r : Response). Answers mem at x.body r run.2.0) (sym run.1) (answers_so mem at x.body s run.2.0 run.2.1),
    run_so mem run.2.0 xs said after run.2.2,
  ),
)

fault_so : (mem : ℕ) (at : Position) (body : List ℕ) (said : Said) (done : Position) → SaysFault replies mem at body said done → AnswersFault mem at body (response_of said) done
fault_so mem at body said done is = record { request = is.request; spelled = is.asked.asks; reaches = is.reaches; accepted = is.accepted; answer = is.answer; place = is.place }

change_so : (mem : ℕ) (x : Exchange) → IsSpokenChange replies mem x → IsChangeMade mem x
change_so mem x is = record {
  after = is.after;
  by = record {
    request = is.by.request;
    spelled = subst (λ (r : Response). Spells x.body r.tag is.by.request) (sym is.response) is.by.asked.asks;
    answer = ap (λ (r : Response). r.answer) is.response ∙ is.by.answer;
    place = is.by.place;
  };
  made = is.made;
}

changes_so : (mem : ℕ) (xs : List Exchange) → AllByRecursion (IsSpokenChange replies mem) xs → AllByRecursion (IsChangeMade mem) xs
changes_so mem [] all = tt
changes_so mem (x ∷ xs) all = (change_so mem x all.0, changes_so mem xs all.1)

batch_so : (mem most : ℕ) (at : Position) (changes : List Exchange) (end : Position) → IsSpokenBatch replies mem most at changes end → IsBatch mem most at changes end
batch_so mem most at changes end is = record {
  few = is.few;
  run = run_so mem at changes is.answers end is.run;
  each = changes_so mem changes is.each;
}

-- what is said of an interruption, if there is one
if_more : (P Q : Interruption → Type 0) (o : Option Interruption) → ((h : Interruption) → P h → Q h) → IfSome o P → IfSome o Q
if_more P Q None more p = tt
if_more P Q (Some h) more p = more h p

module _ (v w : DiskView) (f : Image) (t : Table) (s : Sitting) (run : FollowsSpokenRun replies v w f t s) where
  is_transcript : IsTranscript run.mem run.start run.transcript
  is_transcript = record {
    run = run_so run.mem run.start run.transcript.exchanges s.answers run.transcript.after run.is.run;
    interrupted = if_more _ (λ (h : Interruption). AnswersFault run.mem run.transcript.after h.body h.response h.done) run.transcript.interruption
        (λ h p. subst (λ (r : Response). AnswersFault run.mem run.transcript.after h.body r h.done) (sym p.2) (fault_so run.mem run.transcript.after h.body p.0 h.done p.3)) run.is.interrupted;
  }

  continued : Continuation run.mem run.transcript
  continued = record {
    more = run.continued.more;
    end = run.continued.end;
    none = run.continued.none;
    batch = if_more _ (λ (h : Interruption). IsBatch run.mem 15 h.done run.continued.more run.continued.end) run.transcript.interruption
        (λ h p. batch_so run.mem 15 h.done run.continued.more run.continued.end p) run.continued.batch;
    change = if_more _ (λ (h : Interruption). (run.continued.more ≡ []) ⊎ AsksForChange run.transcript.after h.body h.response) run.transcript.interruption
        (λ h p. elim p [ inl none ↦ inl none | inr asks ↦ inr (record { request = asks.request; spelled = asks.asks; made = asks.made }) ]) run.continued.change;
  }

  follows_so : FollowsRun v w f t (session_of s)
  unfolding continued
  follows_so = record {
    mem = run.mem;
    start = run.start;
    begins = run.begins;
    table = run.table;
    transcript = run.transcript;
    is = is_transcript;
    region = run.region;
    front = run.front;
    answers_are = run.answers_are;
    broken_is = run.broken_is;
    device = if_response (λ (a : Answer). a ≡ refusal why.DeviceFault) s.broken run.device;
    continued = continued;
    next = run.next;
    follows = run.follows;
  }

-- a run of the protocol that was served is one of commands and replies
served_so : (budget : ℕ) (how : Ended) (before now : World) → ServedBy replies budget how before now → Served budget how before now
served_so budget how before now served =
    let s = served.sitting in
    record {
      head = served.head;
      found = served.found;
      session = session_of s;
      is = is_session budget s served.is;
      took = served.took;
      sends = sends_so s (texts_are (take (length (all_said s)) s.bodies) (all_said s) served.is.answered) how before.held now.held served.sends;
      ends = served.ends;
      faulted = served.faulted;
      calm = served.calm;
      damaged = served.damaged;
      left = served.left;
      still = λ calm. served.still (calm_said s.bodies (all_said s) (subst (λ (l : List Response). AreCalm s.bodies l) (all_are s) calm));
      follows = λ f t exposed shows. follows_so before.disk now.disk f t s (served.follows f t exposed shows);
    }

pub outcome_so : (budget : ℕ) (how : Ended) (before now : World) → SpokenOutcome replies budget how before now → RunOutcome budget how before now
outcome_so budget how before now (inl gave) = inl gave
outcome_so budget how before now (inr served) = inr (served_so budget how before now served)
