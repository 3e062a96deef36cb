-- A serving run while it goes on.
use Rattle.std.proofs.Common.{◌≡◌, ◌≢◌, ◌≤◌, ◌<◌, ℕ, suc, ◌+◌, true, false, List, [], ◌∷◌, ◌++◌, length, take, drop, map, Option, Some, None, refl, sym, ap, subst, ◌∙◌, ◌⊎◌, inl, inr, append_assoc, length-append, arith}
use Rattle.std.specs.Prelude.{Contains, IfSome, is_some}
use Rattle.std.specs.List.{flat_map, AllByRecursion}
use Rattle.std.proofs.lemmas.Bool.{and_right}
use Rattle.std.proofs.lemmas.List.{append-nil, length-map, map-append, take_all, take-append-drop, take-append-le}
use Rattle.std.proofs.lemmas.List.Concat.{flat_map-append}
use Rattle.std.proofs.lemmas.List.Elements.{Contains-append_right}
use Rattle.strat_base.specs.declared.descriptors.ArrayDesc.{ArrayDesc}
use Rattle.strat_base.specs.declared.failures.Fault.{Fault}
use Rattle.strat_base.specs.declared.failures.Fault.TheVariants as fault
use Rattle.def_crash.specs.Blocks.{AgreeOn}
use Rattle.def_crash.specs.Image.{Image, Outside}
use Rattle.def_crash.specs.Moments.{DiskView, Images, OnlyReads, Passes}
use Rattle.def_crash.specs.Trail.{At, Trail}
use Rattle.def_crash.proofs.MomentLemmas.{each_then, now_since_start, passes_trans}
use Rattle.def_crash.proofs.TrailLemmas.{trail_join}
use Rattle.strat_cursor.specs.Looking.{arrays_there}
use Rattle.def_bytes.specs.Layout.{region_at, other_region}
use Rattle.def_bytes.specs.SuperBlock.{Super}
use Rattle.strat_io.specs.Streams.{Appends, Gives}
use Rattle.strat_model.specs.Faults.{fault_told}
use Rattle.strat_model.specs.declared.replies.Refusal.TheVariants as why
use Rattle.strat_model.specs.declared.replies.Reply.{Reply}
use Rattle.strat_model.specs.declared.replies.Reply.TheVariants as reply
use Rattle.strat_model.specs.Answer.{Answer}
use Rattle.strat_model.specs.Stream.{frame, IsBody, is_partial}
use Rattle.strat_model.specs.Table.{Table, bare}
use Rattle.strat_model.specs.Batch.{tables_before}
use Rattle.strat_model.specs.Run.{Position, Exchange, Response, is_change}
use Rattle.strat_promote.specs.Job.{blocks_listed}
use Rattle.def_meaning.specs.StateTable.{table_of}
use Rattle.def_publish.specs.Contents.{Contents, contents_state}
use Rattle.def_publish.specs.Standing.{ShowsTable}
use Rattle.strat_publish.specs.Outcomes.{IsDamagedIn}
use Rattle.strat_open.specs.Following.{ChangesGateAlone, FollowsFrom, IsOpenedAs}
use Rattle.strat_memory.proofs.OpenLemmas.{agree_read}
use Rattle.strat_memory.specs.Held.{Held, IsConsistent, IsOnDisk, StandsWith, arrays_held, position_at}
use Rattle.strat_publish.specs.Settling.{KeepsPublished, carries_out}
use Rattle.def_state.specs.State.{IsPaid}
use Rattle.strat_memory.specs.Paying.{IsPaidIn, ArePaidSince}
use Rattle.strat_publish.proofs.LaidLemmas.{kept_on}
use Rattle.strat_store.proofs.LeavingLemmas.{held_there, same_on}
use Rattle.strat_memory.proofs.OnDiskLemmas.{read_on}
use Rattle.strat_memory.proofs.PayingLemmas.{paid_now, paid_reads, paid_then, stored_since}
use Rattle.strat_loop.specs.Session.{Took, IsAtEnd, FailsAsMet, WaitsForNone}
use Rattle.strat_loop.specs.Pending.{Pending, ArePending}
use Rattle.strat_loop.specs.Progress.{ServesSoFar, RunSoFar}
use Rattle.strat_loop.specs.World.{World}
use Rattle.strat_loop.proofs.AnswerLemmas.{told_damaged}
use Rattle.strat_loop.proofs.BeginLemmas.{opens_begins, stands_bare}
use Rattle.strat_loop.proofs.PendingLemmas.{ahead_more, ahead_within, are_more, sent_then}
use Rattle.strat_loop.proofs.PublishedLemmas.{held_at_first, held_then}
use Rattle.strat_loop.specs.Speech.{IsSpokenRun, Said, Says, Speech, response_of, said_bytes}
use Rattle.strat_loop.specs.Spoken.{AreSaidCalmly, AreSaidTo, ContinuesWith, IsAnswered, SaysCalmly, SaysTo, StopsWith}

-- what was read was taken from the source
pub took_piece : (before now : Option (List ℕ)) (into more : List ℕ) (n : ℕ) → Gives before now into n → n ≤ length into → Took before now (take n (into ++ more))
took_piece before now into more n gives fits =
    let front : take n (into ++ more) ≡ take n into = take-append-le n into more fits in
    record {
      exposed = λ left e. (drop n left, sym (take-append-drop n left) ∙ ap (λ (x : List ℕ). x ++ drop n left) (sym (front ∙ gives.bytes left e)), gives.rest left e);
      hidden = gives.hidden;
    }

-- nothing given to a buffer with room is the end
pub at_end : (before now : Option (List ℕ)) (into : List ℕ) (n : ℕ) → Gives before now into n → n ≡ 0 → 0 < length into → IsAtEnd now
at_end None now into n gives none room = λ left e. absurd (let f : ◌≡◌ {A = Option (List ℕ)} None (Some left) = sym (gives.hidden refl) ∙ e in cc)
at_end (Some l) now into n gives none room = λ left e.
    let nothing : l ≡ [] = gives.at_end l refl none room in
    let f : Some (drop n l) ≡ Some left = sym (gives.rest l refl) ∙ e in
    let same : drop n l ≡ left = cc in
    sym same ∙ ap (drop n) nothing ∙ ap (λ (k : ℕ). drop k []) none

-- bytes that were taken one after the other
pub took_then : (a b c : Option (List ℕ)) (x y : List ℕ) → Took a b x → Took b c y → Took a c (x ++ y)
took_then a b c x y first second = record {
  exposed = λ left e.
      let one = first.exposed left e in
      let two = second.exposed one.0 one.2 in
      (two.0, one.1 ∙ ap (λ (z : List ℕ). x ++ z) two.1 ∙ sym (append_assoc x y two.0), two.2);
  hidden = λ e. second.hidden (first.hidden e);
}

-- a store that holds the superblock, the manifest and the promotion of another is on the disk where that one is
pub still_on : (v : DiskView) (s t : Held) → KeepsPublished s t → t.promoting ≡ s.promoting → IsOnDisk v s → IsOnDisk v t
still_on v s t same going on = same_on v s t same going on

-- nothing was taken
pub took_none : (s : Option (List ℕ)) → Took s s []
took_none s = record { exposed = λ left e. (left, refl, e); hidden = λ e. e }

-- nothing was sent
sent_none : (s : Option (List ℕ)) → Appends s s []
sent_none s = record { exposed = λ h e. e ∙ ap (λ (x : List ℕ). Some x) (sym (append-nil h)); hidden = λ e. e }

-- one more body that fits
pub each_more : (xs : List (List ℕ)) (x : List ℕ) → AllByRecursion IsBody xs → IsBody x → AllByRecursion IsBody (xs ++ x ∷ [])
each_more [] x each fits = (fits, tt)
each_more (y ∷ ys) x each fits = (each.0, each_more ys x each.1 fits)

-- a piece was read when less than a frame was held behind those that were answered
ahead_read : (taken held piece : List ℕ) (bodies : List (List ℕ)) → taken ≡ flat_map frame bodies ++ held → is_partial held ≡ true → length piece ≤ 4096 → WaitsForNone (taken ++ piece) bodies (length bodies)
ahead_read taken held piece bodies parts part short = record {
  read = length bodies;
  few = omega arith;
  held = held;
  part = part;
  piece = piece;
  short = short;
  parts = ap (λ (x : List ℕ). x ++ piece) parts ∙ append_assoc (flat_map frame bodies) held piece
      ∙ ap (λ (xs : List (List ℕ)). flat_map frame xs ++ (held ++ piece)) (sym (take_all (length bodies) bodies (omega arith)));
}

-- each image at the end of a trail shows a table at its number or behind it
at_last : (now : DiskView) (tables : List Table) (n start : ℕ) → Trail ShowsTable now start tables n → (c : Image) → Images now c → (i : ℕ) × (n ≤ i) × At tables i (ShowsTable c)
at_last now tables n start trail c left = trail.each n now.moment c (omega arith) trail.last (omega arith) left

-- a disk that followed tables up to the last of them goes on from it
pub goes_from : (before mid now : DiskView) (f : Image) (xs ys : List Table) (x : Table) (n : ℕ) → Passes mid now → FollowsFrom before mid f (xs ++ x ∷ []) (length xs)
    → Trail ShowsTable now mid.moment (x ∷ ys) n → (IsPaidIn f → ArePaidSince now mid.moment) → FollowsFrom before now f (xs ++ x ∷ ys) (length xs + n)
goes_from before mid now f xs ys x n passes so_far more pays =
    let trail = trail_join ShowsTable mid now so_far.synced xs ys x n passes so_far.trail more in
    record {
      synced = so_far.synced;
      from = so_far.from;
      till = omega (arith, so_far.till, passes.later);
      content = passes.kept so_far.synced f so_far.till so_far.content;
      one = λ c left. so_far.one c (passes.past so_far.synced c so_far.till left);
      until = λ m c low high left. so_far.until m c low high (passes.past m c (omega (arith, high, so_far.till)) left);
      trail = trail;
      left = at_last now (xs ++ x ∷ ys) (length xs + n) so_far.synced trail;
      stored = stored_since now so_far.synced (xs ++ x ∷ ys) (length xs + n) trail;
      paid = λ first. paid_then mid now so_far.synced passes (so_far.paid first) (pays first);
    }

-- the disk followed the tables one answer more
pub follows_more : (before mid now : DiskView) (f : Image) (xs : List Exchange) (t u : Table) (n : ℕ) → Passes mid now → FollowsFrom before mid f (tables_before xs ++ t ∷ []) (length xs)
    → Trail ShowsTable now mid.moment (t ∷ u ∷ []) n → (IsPaidIn f → ArePaidSince now mid.moment) → FollowsFrom before now f (tables_before xs ++ t ∷ u ∷ []) (length xs + n)
follows_more before mid now f xs t u n passes so_far more pays =
    let len : length (tables_before xs) ≡ length xs = length-map xs (λ (x : Exchange). bare x.at.table) in
    subst (λ (k : ℕ). FollowsFrom before now f (tables_before xs ++ t ∷ u ∷ []) (k + n)) len
    (goes_from before mid now f (tables_before xs) (u ∷ []) t n passes
    (subst (λ (k : ℕ). FollowsFrom before mid f (tables_before xs ++ t ∷ []) k) (sym len) so_far) more (λ first. pays first))

-- and that answer is the last of all so far
follows_one : (before mid now : DiskView) (f : Image) (xs : List Exchange) (x : Exchange) (t u : Table) → bare x.at.table ≡ t → Passes mid now
    → FollowsFrom before mid f (tables_before xs ++ t ∷ []) (length xs) → Trail ShowsTable now mid.moment (t ∷ u ∷ []) 1 → (IsPaidIn f → ArePaidSince now mid.moment)
    → FollowsFrom before now f (tables_before (xs ++ x ∷ []) ++ u ∷ []) (length (xs ++ x ∷ []))
follows_one before mid now f xs x t u at passes so_far more pays =
    let joined = follows_more before mid now f xs t u 1 passes so_far more pays in
    let len : length xs + 1 ≡ length (xs ++ x ∷ []) = sym (length-append xs (x ∷ [])) in
    let earlier : tables_before (xs ++ x ∷ []) ≡ tables_before xs ++ t ∷ [] = map-append (λ (y : Exchange). bare y.at.table) xs (x ∷ []) ∙ ap (λ (v : Table). tables_before xs ++ v ∷ []) at in
    let list : tables_before xs ++ t ∷ u ∷ [] ≡ tables_before (xs ++ x ∷ []) ++ u ∷ [] =
    sym (append_assoc (tables_before xs) (t ∷ []) (u ∷ [])) ∙ ap (λ (l : List Table). l ++ u ∷ []) (sym earlier) in
    subst (λ (n : ℕ). FollowsFrom before now f (tables_before (xs ++ x ∷ []) ++ u ∷ []) n) len
    (subst (λ (l : List Table). FollowsFrom before now f l (length xs + 1)) list joined)

-- a store that is as it was keeps what it held
kept_alone : (old new : Held) → new ≡ old → (a : ArrayDesc) → Contains new.memory.cursors.retired a → Contains (arrays_held old.memory old.levels) a
kept_alone old new same a among =
    Contains-append_right (arrays_there old.levels) old.memory.cursors.retired a (subst (λ (s : Held). Contains s.memory.cursors.retired a) same among)

-- a disk that changed in a gate alone and then was only read
pub gate_still : (before mid now : DiskView) (f : Image) (slot : ℕ) (sb : Super) → ChangesGateAlone before mid f slot sb → Passes before mid → OnlyReads mid now → ChangesGateAlone before now f slot sb
gate_still before mid now f slot sb gate passes reads = record {
  newest = gate.newest;
  images = each_then mid now before.moment (λ c. Images before c ⊎ Outside (region_at sb.mem (other_region sb.region)) 1 f c) reads.time gate.images
      (λ c since. gate.images c (now_since_start before mid c passes (reads.images.each c since)));
}

module _ (speech : Speech) where
  -- the contents at which a run stands so far are paid for, where those at its start are
  pub paid_so_far : (start current : Held) (before now : DiskView) (f : Image) (t : Table) (bodies : List (List ℕ)) (answers : List Said) (so_far : RunSoFar speech start current before now f t bodies answers)
      → IsPaidIn f → IsPaid (contents_state so_far.contents)
  paid_so_far start current before now f t bodies answers so_far first =
      paid_now now so_far.follows.synced so_far.contents so_far.stands.stands.stands so_far.follows.till (so_far.follows.paid first)

  -- there are as many responses as bodies
  pub as_many : (bodies : List (List ℕ)) (answers : List Said) → AreSaidTo speech bodies answers → length answers ≡ length bodies
  as_many [] [] all = refl
  as_many [] (r ∷ rs) all = absurd all
  as_many (b ∷ bs) [] all = absurd all
  as_many (b ∷ bs) (r ∷ rs) all = ap suc (as_many bs rs all.1)

  -- a run and one more answer
  pub run_more : (mem : ℕ) (p q r : Position) (xs : List Exchange) (said : List Said) (body : List ℕ) (response : Said) → IsSpokenRun speech mem p xs said q → Says speech mem q body response r
      → IsSpokenRun speech mem p (xs ++ record { body = body; response = response_of response; at = q } ∷ []) (said ++ response ∷ []) r
  run_more mem p q r [] [] body response run answers = (run, refl, (r, subst (λ (x : Position). Says speech mem x body response r) run answers, refl))
  run_more mem p q r [] (s ∷ said) body response run answers = absurd run
  run_more mem p q r (x ∷ xs) [] body response run answers = absurd run
  run_more mem p q r (x ∷ xs) (s ∷ said) body response run answers = (run.0, run.1, (run.2.0, run.2.1, run_more mem run.2.0 q r xs said body response run.2.2 answers))

  -- one more response that tells of no fault
  quiet_more : (xs : List Said) (x : Said) → AllByRecursion (λ (r : Said). fault_told r.answer.reply ≡ None) xs → fault_told x.answer.reply ≡ None
      → AllByRecursion (λ (r : Said). fault_told r.answer.reply ≡ None) (xs ++ x ∷ [])
  quiet_more [] x each calm = (calm, tt)
  quiet_more (y ∷ ys) x each calm = (each.0, quiet_more ys x each.1 calm)

  -- one more body with its response
  pub answered_more : (bodies : List (List ℕ)) (answers : List Said) (body : List ℕ) (response : Said) → AreSaidTo speech bodies answers → SaysTo speech body response
      → AreSaidTo speech (bodies ++ body ∷ []) (answers ++ response ∷ [])
  answered_more [] [] body response all is = (is, tt)
  answered_more [] (r ∷ rs) body response all is = absurd all
  answered_more (b ∷ bs) [] body response all is = absurd all
  answered_more (b ∷ bs) (r ∷ rs) body response all is = (all.0, answered_more bs rs body response all.1 is)

  -- a run begins with the store that was opened
  pub begins : (s : Held) (held : List ℕ) (before : World) (disk : DiskView) (faults : ℕ) → held ≡ [] → faults ≡ before.disk_faults
      → IsOpenedAs before.disk disk s → Passes before.disk disk → IsConsistent s → IfSome disk.content (Images disk) → ServesSoFar speech s s 0 held before (record before { disk = disk; disk_faults = faults })
  begins s held before disk faults empty calm opened time lawful leaves = record {
    taken = [];
    counted = refl;
    took = took_none before.left;
    bodies = [];
    answers = [];
    answered = tt;
    quiet = tt;
    parts = sym empty;
    each = tt;
    ahead = record { read = 0; few = omega arith; held = []; part = refl; piece = []; short = omega arith; parts = refl };
    sent = sent_none before.held;
    found = opened.found;
    mem = refl;
    lawful = lawful;
    going = opened.going;
    calm = calm;
    passes = time;
    on_disk = opened.on_disk;
    named = λ f exposed a among. held_at_first before.disk disk s time.later leaves opened.closed lawful (opened.on_disk f exposed) a among;
    still = λ quiet f exposed. (s.slot, s.sb, opened.gate f exposed);
    runs = λ f t exposed shows.
        let there = opened.stands f t exposed shows in
        let at = opens_begins before.disk disk s f t there.0 opened lawful.log.mem exposed shows there.2 in
        record {
          from = position_at s there.0 [];
          begins = at.0;
          table = at.1;
          contents = there.0;
          rows = [];
          exchanges = [];
          run = refl;
          bodies_are = refl;
          answers_are = refl;
          stands = stands_bare disk s there.0 opened.closed there.1;
          follows = subst (λ (u : Table). FollowsFrom before.disk disk f (u ∷ []) 0) (sym there.2) (opened.follows f t exposed shows);
        };
  }

  -- more bytes were taken and are held
  pub reads : (start current : Held) (count n : ℕ) (held piece fed : List ℕ) (before now : World) (left : Option (List ℕ)) (faults : ℕ)
      → ServesSoFar speech start current count held before now → Took now.left left piece → length piece ≡ n → fed ≡ held ++ piece → is_partial held ≡ true → n ≤ 4096
      → ServesSoFar speech start current (count + n) fed before (record now { left = left; source_faults = faults })
  reads start current count n held piece fed before now left faults p took len feeds part short = record {
    taken = p.taken ++ piece;
    counted = length-append p.taken piece ∙ omega (arith, p.counted);
    took = took_then before.left now.left left p.taken piece p.took took;
    bodies = p.bodies;
    answers = p.answers;
    answered = p.answered;
    quiet = p.quiet;
    parts = ap (λ (x : List ℕ). x ++ piece) p.parts ∙ append_assoc (flat_map frame p.bodies) held piece ∙ ap (λ (x : List ℕ). flat_map frame p.bodies ++ x) (sym feeds);
    each = p.each;
    ahead = ahead_read p.taken held piece p.bodies p.parts part (omega (arith, len, short));
    sent = p.sent;
    found = p.found;
    mem = p.mem;
    lawful = p.lawful;
    going = p.going;
    calm = p.calm;
    passes = p.passes;
    on_disk = p.on_disk;
    named = p.named;
    still = p.still;
    runs = p.runs;
  }

  -- nothing more was taken
  pub reads_none : (start current : Held) (count : ℕ) (held : List ℕ) (before now : World) (left : Option (List ℕ)) (faults : ℕ)
      → ServesSoFar speech start current count held before now → Took now.left left [] → ServesSoFar speech start current count held before (record now { left = left; source_faults = faults })
  reads_none start current count held before now left faults p took = record {
    taken = p.taken;
    counted = p.counted;
    took = subst (λ (x : List ℕ). Took before.left left x) (append-nil p.taken) (took_then before.left now.left left p.taken [] p.took took);
    bodies = p.bodies;
    answers = p.answers;
    answered = p.answered;
    quiet = p.quiet;
    parts = p.parts;
    each = p.each;
    ahead = p.ahead;
    sent = p.sent;
    found = p.found;
    mem = p.mem;
    lawful = p.lawful;
    going = p.going;
    calm = p.calm;
    passes = p.passes;
    on_disk = p.on_disk;
    named = p.named;
    still = p.still;
    runs = p.runs;
  }

  -- what an answer says whatever the disk shows
  module _ (v w : DiskView) (old : Held) (body : List ℕ) (met : Option Fault) (new : Held) (out : List ℕ) (is : IsAnswered speech v w old body met new out) where
    pub step_responds : SaysTo speech body is.response
    step_responds = elim is.responds [
      | inl away ↦ (old.memory.changes, inl away.declined)
      | inr told ↦ (old.memory.changes, inr (record { request = told.request; asked = told.asked; reached = told.err.reached; short = λ e. (told.err.short e).0; few = told.few }))
    ]

    -- the superblock and the manifest are on the disk still, unless the device failed
    pub step_on : met ≢ Some fault.Device → IsOnDisk v old → IsOnDisk w new
    step_on other on = elim is.responds [
      | inl away ↦ subst (IsOnDisk w) (sym away.store) (read_on v w old on away.disk)
      | inr told ↦ told.leaves.on_disk (λ e. other (is.tells ∙ ap fault_told e)) on
    ]

    -- and where a block is damaged they are those of before
    pub step_damaged : (b : ℕ) → met ≡ Some (fault.Damaged b) → IsOnDisk v old → IsOnDisk w old
    step_damaged b e on = elim is.responds [
      | inl away ↦ read_on v w old on away.disk
      | inr told ↦
          let reply_is : is.response.answer.reply ≡ reply.Refused (why.Damaged b) = told_damaged is.response.answer.reply met b is.tells e in
          let none : carries_out told.request is.response.answer.reply ≡ false = ap (carries_out told.request) reply_is ∙ and_right (is_change told.request) false refl in
          let other : is.response.answer.reply ≢ reply.Refused why.DeviceFault = λ f. let g : ◌≡◌ {A = Reply} (reply.Refused (why.Damaged b)) (reply.Refused why.DeviceFault) = sym reply_is ∙ f in cc in
          let same = told.leaves.kept none other in
          kept_on w new old (record { slot = sym same.slot; sb = sym same.sb; chained = sym same.chained; levels = sym same.levels; filters = sym same.filters })
          (λ g now. agree_read on.content g old (λ a of. told.leaves.beside other on.content g on.exposed now a (held_there old a of)) on.read) (told.leaves.on_disk other on)
    ]

    -- what a crash leaves since is paid for, where the contents were
    pub step_paid : (x : Contents) → StandsWith v old x → IsPaid (contents_state x) → ArePaidSince w v.moment
    step_paid x stands paid = elim is.responds [
      | inl away ↦ paid_reads v w x stands.stands away.disk paid
      | inr told ↦ told.leaves.paid x stands paid
    ]

    -- a body that asks for no change, or was answered as one after which a store did not write, left the disk as it was
    pub step_reads : SaysCalmly speech body is.response → OnlyReads v w
    step_reads calm = elim is.responds [
      | inl away ↦ away.disk
      | inr told ↦ told.same.calm (λ change. calm old.memory.changes told.request told.asked.asks change)
    ]

    -- no array is held that was not held before, but for those of the levels
    pub step_retired : (a : ArrayDesc) → Contains new.memory.cursors.retired a → Contains (arrays_held old.memory old.levels) a
    step_retired a among = elim is.responds [
      | inl away ↦ kept_alone old new away.store a among
      | inr told ↦ told.cursors.retired a among
    ]

  -- bodies after whose responses a store did not write, and the last of them
  pub calm_parts : (bodies : List (List ℕ)) (answers : List Said) (body : List ℕ) (response : Said) → AreSaidTo speech bodies answers → AreSaidCalmly speech (bodies ++ body ∷ []) (answers ++ response ∷ [])
      → AreSaidCalmly speech bodies answers × SaysCalmly speech body response
  calm_parts [] [] body response all calm = (tt, calm.0)
  calm_parts [] (r ∷ rs) body response all calm = absurd all
  calm_parts (b ∷ bs) [] body response all calm = absurd all
  calm_parts (b ∷ bs) (r ∷ rs) body response all calm = let rest = calm_parts bs rs body response all.1 calm.1 in ((calm.0, rest.0), rest.1)

  -- and those among others
  pub calm_front : (bodies others : List (List ℕ)) (answers : List Said) → AreSaidTo speech bodies answers → AreSaidCalmly speech (bodies ++ others) answers → AreSaidCalmly speech bodies answers
  calm_front [] others [] all calm = tt
  calm_front [] others (r ∷ rs) all calm = absurd all
  calm_front (b ∷ bs) others [] all calm = absurd all
  calm_front (b ∷ bs) others (r ∷ rs) all calm = (calm.0, calm_front bs others rs all.1 calm.1)

  -- the world after one answer more
  pub record Answered (old new : Held) (mid now : World) (body : List ℕ) (met : Option Fault) (out : List ℕ) : Type 0 where
    pub left : now.left ≡ mid.left
    pub is : IsAnswered speech mid.disk now.disk old body met new out
    pub passes : Passes mid.disk now.disk
    pub cause : FailsAsMet mid.disk_faults now.disk_faults met
    pub spent : new.spent ≡ is_some met
    pub kept : met ≡ None → IsConsistent new
    pub same : new.sb.mem ≡ old.sb.mem
    pub leaves : IfSome now.disk.content (Images now.disk)
    pub damaged : (b : ℕ) → met ≡ Some (fault.Damaged b) → Contains (blocks_listed (arrays_held old.memory old.levels)) b
        × (IsOnDisk mid.disk old → IsDamagedIn mid.disk.content old.memory old.levels b)
        × ((f g : Image) → mid.disk.content ≡ Some f → now.disk.content ≡ Some g → AgreeOn (blocks_listed (arrays_held old.memory old.levels)) f g)

  -- a reply that the device failed tells of a fault
  tells_device : (r : Said) (met : Option Fault) → met ≡ fault_told r.answer.reply → (a : Answer) → r.answer ≡ a → fault_told a.reply ≡ Some fault.Device → met ≡ None → ⊥
  tells_device r met tells a is told none =
      let f : ◌≡◌ {A = Option Fault} None (Some fault.Device) = sym none ∙ tells ∙ ap (λ (x : Answer). fault_told x.reply) is ∙ told in cc

  module _ (start old new : Held) (count : ℕ) (held rest body : List ℕ) (met : Option Fault) (out : List ℕ) (before mid now : World)
      (p : ServesSoFar speech start old count held before mid) (done : Answered old new mid now body met out) (none : met ≡ None) where
    abbrev response : Said
    response = done.is.response

    -- the frames taken, with one more
    pub parts_more : held ≡ frame body ++ rest → p.taken ≡ flat_map frame (p.bodies ++ body ∷ []) ++ rest
    parts_more front =
        p.parts ∙ ap (λ (x : List ℕ). flat_map frame p.bodies ++ x) front
        ∙ sym (append_assoc (flat_map frame p.bodies) (frame body) rest)
        ∙ ap (λ (x : List ℕ). (flat_map frame p.bodies ++ x) ++ rest) (sym (append-nil (frame body)))
        ∙ ap (λ (x : List ℕ). x ++ rest) (sym (flat_map-append frame p.bodies (body ∷ [])))

    -- what a crash leaves since the last answer is paid for, where the content at the start was
    pub goes_paid : (f : Image) (t : Table) (so_far : RunSoFar speech start old before.disk mid.disk f t p.bodies p.answers) → IsPaidIn f → ArePaidSince now.disk mid.disk.moment
    goes_paid f t so_far first =
        step_paid mid.disk now.disk old body met new out done.is so_far.contents so_far.stands.stands
        (paid_now mid.disk so_far.follows.synced so_far.contents so_far.stands.stands.stands so_far.follows.till (so_far.follows.paid first))

    -- the run of the table goes on
    run_on : (f : Image) (t : Table) (so_far : RunSoFar speech start old before.disk mid.disk f t p.bodies p.answers)
        → ContinuesWith speech mid.disk now.disk old so_far.contents so_far.rows body response new ⊎ StopsWith speech mid.disk now.disk old so_far.contents so_far.rows body response
        → RunSoFar speech start new before.disk now.disk f t (p.bodies ++ body ∷ []) (p.answers ++ response ∷ [])
    run_on f t so_far (inr stops) = absurd (tells_device response met done.is.tells _ stops.answer refl none)
    run_on f t so_far (inl is) =
        let at = position_at old so_far.contents so_far.rows in
        let latest : Exchange = record { body = body; response = response_of response; at = at } in
        record {
          from = so_far.from;
          begins = so_far.begins;
          table = so_far.table;
          contents = is.after;
          rows = is.left;
          exchanges = so_far.exchanges ++ latest ∷ [];
          run = run_more start.log.mem so_far.from at (position_at new is.after is.left) so_far.exchanges p.answers body response so_far.run
              (subst (λ (m : ℕ). Says speech m at body response (position_at new is.after is.left)) p.mem is.answers);
          bodies_are = map-append (λ (x : Exchange). x.body) so_far.exchanges (latest ∷ []) ∙ ap (λ (l : List (List ℕ)). l ++ body ∷ []) so_far.bodies_are;
          answers_are = map-append response_of p.answers (response ∷ []) ∙ ap (λ (l : List Response). l ++ response_of response ∷ []) so_far.answers_are ∙ sym (map-append (λ (x : Exchange). x.response) so_far.exchanges (latest ∷ []));
          stands = is.stands;
          follows = follows_one before.disk mid.disk now.disk f so_far.exchanges latest (table_of (contents_state so_far.contents)) (table_of (contents_state is.after)) refl
              done.passes so_far.follows is.trail (goes_paid f t so_far);
        }

    -- the answers, with one more
    pub text_more : said_bytes (p.answers ++ response ∷ []) ≡ said_bytes p.answers ++ response.sent
    text_more =
        flat_map-append (λ (r : Said). r.sent) p.answers (response ∷ [])
        ∙ ap (λ (x : List ℕ). said_bytes p.answers ++ x) (append-nil (response.sent))

    -- one more body was answered and kept, and its reply is pending behind others
    pub answers : held ≡ frame body ++ rest → IsBody body → Appends mid.held now.held (response.sent)
        → (replies : Pending) (sent : Option (List ℕ)) → ArePending replies p.taken p.bodies p.answers before.held sent → replies.count + 1 ≤ 16
        → (q : ServesSoFar speech start new count rest before now) × ArePending (record { bytes = replies.bytes ++ response.sent; count = replies.count + 1 }) q.taken q.bodies q.answers before.held sent
    answers front fits gives replies sent pending room =
        let ahead = ahead_more p.taken p.bodies (body ∷ []) (length p.bodies) (omega arith) p.ahead in
        let lawful : IsConsistent new = done.kept none in
        let not_device : met ≢ Some fault.Device = λ e. let f : ◌≡◌ {A = Option Fault} None (Some fault.Device) = sym none ∙ e in cc in (
          record {
            taken = p.taken;
            counted = p.counted;
            took = subst (λ (x : Option (List ℕ)). Took before.left x p.taken) (sym done.left) p.took;
            bodies = p.bodies ++ body ∷ [];
            answers = p.answers ++ response ∷ [];
            answered = answered_more p.bodies p.answers body response p.answered (step_responds mid.disk now.disk old body met new out done.is);
            quiet = quiet_more p.answers response p.quiet (sym done.is.tells ∙ none);
            parts = parts_more front;
            each = each_more p.bodies body p.each fits;
            ahead = ahead_within p.taken (p.bodies ++ body ∷ []) (length p.bodies) (length (p.bodies ++ body ∷ [])) (omega (arith, length-append p.bodies (body ∷ []))) ahead;
            sent = subst (λ (x : List ℕ). Appends before.held now.held x) (sym text_more) (sent_then before.held mid.held now.held (said_bytes p.answers) (response.sent) p.sent gives);
            found = p.found;
            mem = lawful.log.mem ∙ done.same ∙ sym p.lawful.log.mem ∙ p.mem;
            lawful = lawful;
            going = done.spent ∙ ap is_some none;
            calm = done.cause.same not_device ∙ p.calm;
            passes = passes_trans p.passes done.passes;
            on_disk = λ f exposed. step_on mid.disk now.disk old body met new out done.is not_device (p.on_disk f exposed);
            named = λ f exposed a among.
                held_then before.disk mid.disk now.disk old new done.passes (passes_trans p.passes done.passes).later done.leaves lawful
                (step_on mid.disk now.disk old body met new out done.is not_device (p.on_disk f exposed))
                (step_retired mid.disk now.disk old body met new out done.is) (p.named f exposed) a among;
            still = λ quiet f exposed.
                let parts = calm_parts p.bodies p.answers body response p.answered quiet in
                let gate = p.still parts.0 f exposed in
                (gate.0, gate.1, gate_still before.disk mid.disk now.disk f gate.0 gate.1 gate.2 p.passes (step_reads mid.disk now.disk old body met new out done.is parts.1));
            runs = λ f t e shows. let so_far = p.runs f t e shows in run_on f t so_far (done.is.run so_far.contents so_far.rows so_far.stands);
          },
          are_more speech replies p.taken p.bodies p.answers before.held sent pending (as_many p.bodies p.answers p.answered) (body ∷ []) (response ∷ []) (response.sent)
              (sym (append-nil (response.sent))) room,
        )
