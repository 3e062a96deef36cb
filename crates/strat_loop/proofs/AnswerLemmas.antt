-- One body, answered.
use Rattle.std.proofs.Common.{◌≡◌, ◌≤◌, ◌+◌, ℕ, zero, suc, Bool, true, false, List, [], ◌∷◌, length, Option, Some, None, refl, sym, ap, subst, ◌∙◌, ◌⊎◌, inl, inr, arith}
use Rattle.std.specs.Prelude.{if◌then◌else◌, is_some}
use Rattle.strat_base.specs.declared.failures.Fault.{Fault}
use Rattle.strat_base.specs.declared.failures.Fault.TheVariants as fault
use Rattle.def_crash.specs.Image.{Image}
use Rattle.def_crash.specs.Moments.{DiskView, Images, Since}
use Rattle.def_crash.specs.Trail.{At, Trail}
use Rattle.def_crash.proofs.MomentLemmas.{since_now, reads_refl}
use Rattle.def_crash.proofs.TrailLemmas.{trail_of_two, marks_in_order}
use Rattle.strat_model.specs.Faults.{fault_told}
use Rattle.strat_model.specs.Answer.{Answer, as_told, accepts}
use Rattle.strat_model.specs.declared.replies.Refusal.TheVariants as why
use Rattle.strat_model.specs.declared.replies.Reply.{Reply}
use Rattle.strat_model.specs.declared.replies.Reply.TheVariants as reply
use Rattle.strat_model.specs.Pairs.{Pairs}
use Rattle.strat_model.specs.Request.{Request}
use Rattle.strat_model.specs.Step.{step}
use Rattle.strat_model.specs.Table.{Cursor, Table, bare}
use Rattle.def_state.specs.Sound.{journal_max}
use Rattle.strat_model.specs.Run.{Position}
use Rattle.strat_loop.proofs.FillLemmas.{next_is_after, place_next}
use Rattle.def_meaning.specs.StateTable.{table_of}
use Rattle.def_publish.specs.Contents.{Contents, contents_state}
use Rattle.def_publish.specs.Standing.{ShowsTable}
use Rattle.def_publish.proofs.FreeLemmas.{shows_contents}
use Rattle.strat_store.specs.Applying.{is_fault, ran_short, FollowsStep, FailsAsTold}
use Rattle.strat_store.specs.Cursoring.{IsAnsweredAt, IsShortAt, IsBrokenAt, IsAppliedAt}
use Rattle.strat_memory.specs.Held.{Held, IsConsistent, StandsAt, StandsWith, position_at, table_at}
use Rattle.strat_loop.proofs.BareLemmas.{step_bare}
use Rattle.strat_loop.specs.Session.{FailsAsMet}
use Rattle.strat_loop.specs.Speech.{Said, Speech, IsAskedFor, IsDeclined}
use Rattle.strat_loop.specs.Spoken.{IsAnswered, IsToldBy, ContinuesWith, StopsWith}

-- what a reply tells of faults
pub record Tells (r : Reply) : Type 0 where
  pub spent : is_fault r ≡ is_some (fault_told r)
  pub device : fault_told r ≡ Some fault.Device → r ≡ reply.Refused why.DeviceFault
  pub damaged : (block : ℕ) → fault_told r ≡ Some (fault.Damaged block) → r ≡ reply.Refused (why.Damaged block)

tells_none : (r : Reply) → fault_told r ≡ None → is_fault r ≡ false → Tells r
tells_none r none calm = record {
  spent = calm ∙ ap is_some (sym none);
  device = λ e. absurd (let f : ◌≡◌ {A = Option Fault} None (Some fault.Device) = sym none ∙ e in cc);
  damaged = λ block e. absurd (let f : ◌≡◌ {A = Option Fault} None (Some (fault.Damaged block)) = sym none ∙ e in cc);
}

pub tells : (r : Reply) → Tells r
tells reply.Done = tells_none reply.Done refl refl
tells reply.Found = tells_none reply.Found refl refl
tells reply.Absent = tells_none reply.Absent refl refl
tells (reply.Pairs more) = tells_none (reply.Pairs more) refl refl
tells (reply.Made version) = tells_none (reply.Made version) refl refl
tells (reply.Info parent depth frozen) = tells_none (reply.Info parent depth frozen) refl refl
tells (reply.Opened cursor) = tells_none (reply.Opened cursor) refl refl
tells (reply.Stat versions updates changes cursors) = tells_none (reply.Stat versions updates changes cursors) refl refl
tells (reply.Refused why.UnknownVersion) = tells_none (reply.Refused why.UnknownVersion) refl refl
tells (reply.Refused why.Frozen) = tells_none (reply.Refused why.Frozen) refl refl
tells (reply.Refused why.UnknownCursor) = tells_none (reply.Refused why.UnknownCursor) refl refl
tells (reply.Refused why.VersionLimit) = tells_none (reply.Refused why.VersionLimit) refl refl
tells (reply.Refused why.ChangeLimit) = tells_none (reply.Refused why.ChangeLimit) refl refl
tells (reply.Refused why.CursorLimit) = tells_none (reply.Refused why.CursorLimit) refl refl
tells (reply.Refused why.Malformed) = tells_none (reply.Refused why.Malformed) refl refl
tells (reply.Refused why.KeySize) = tells_none (reply.Refused why.KeySize) refl refl
tells (reply.Refused why.ValueSize) = tells_none (reply.Refused why.ValueSize) refl refl
tells (reply.Refused why.ScanSize) = tells_none (reply.Refused why.ScanSize) refl refl
tells (reply.Refused why.FrameTooLong) = tells_none (reply.Refused why.FrameTooLong) refl refl
tells (reply.Refused why.Root) = tells_none (reply.Refused why.Root) refl refl
tells (reply.Refused why.NoMemory) = tells_none (reply.Refused why.NoMemory) refl refl
tells (reply.Refused why.DeviceFault) = record {
  spent = refl;
  device = λ _. refl;
  damaged = λ block e. absurd (let f : ◌≡◌ {A = Option Fault} (Some fault.Device) (Some (fault.Damaged block)) = e in cc);
}
tells (reply.Refused (why.Damaged b)) = record {
  spent = refl;
  device = λ e. absurd (let f : ◌≡◌ {A = Option Fault} (Some (fault.Damaged b)) (Some fault.Device) = e in cc);
  damaged = λ block e. let f : ◌≡◌ {A = Option Fault} (Some (fault.Damaged b)) (Some (fault.Damaged block)) = e in let same : b ≡ block = cc in ap (λ (x : ℕ). reply.Refused (why.Damaged x)) same;
}

-- a count of faults rises for the device's fault alone
pub fails_as_met : (r : Reply) (met : Option Fault) (before now : ℕ) → met ≡ fault_told r → FailsAsTold before now r → FailsAsMet before now met
fails_as_met r met before now is told = record {
  rose = λ e. told.rose ((tells r).device (sym is ∙ e));
  same = λ other. told.same (λ e. other (is ∙ ap fault_told e));
}

-- a block is told damaged where a reply tells so
pub told_damaged : (r : Reply) (met : Option Fault) (b : ℕ) → met ≡ fault_told r → met ≡ Some (fault.Damaged b) → r ≡ reply.Refused (why.Damaged b)
told_damaged r met b is e = (tells r).damaged b (sym is ∙ e)

-- an element of two
either : (x y : Table) (i : ℕ) (P : Table → Type 0) → At (x ∷ y ∷ []) i P → P x ⊎ P y
either x y zero P h = inl h
either x y (suc zero) P h = inr h
either x y (suc (suc i)) P h = absurd h

-- an element of two that are the same
twice : (x : Table) (i : ℕ) (P : Table → Type 0) → At (x ∷ x ∷ []) i P → P x
twice x zero P h = h
twice x (suc zero) P h = h
twice x (suc (suc i)) P h = absurd h

-- a trail ends no earlier than it begins
trail_later : (v : DiskView) (start : ℕ) (tables : List Table) (n : ℕ) → Trail ShowsTable v start tables n → start ≤ v.moment
trail_later v start tables n t =
    let order : t.mark 0 ≤ t.mark n = marks_in_order t.mark n t.rise 0 n (omega arith) (omega arith) in
    omega (arith, t.first, t.last)

-- each image since a trail's start is in its list
trail_since : (v : DiskView) (start : ℕ) (tables : List Table) (n : ℕ) → Trail ShowsTable v start tables n → (c : Image) → Since v start c → (i : ℕ) × At tables i (ShowsTable c)
trail_since v start tables n t c since =
    let from : start ≤ since.at = since.from in
    let low : t.mark 0 ≤ since.at = omega (arith, t.first, from) in
    let p = t.each 0 since.at c (omega arith) low since.till since.left in (p.0, p.2)

-- each image of the disk that contents stand on shows their table
stands_table : (v : DiskView) (s : Held) (x : Contents) → StandsWith v s x → (c : Image) → Images v c → ShowsTable c (table_of (contents_state x))
stands_table v s x stands c left = shows_contents c x stands.stands.sound (stands.stands.reads c left)

-- a trail of two tables reaches the second where contents stand that mean it
reaches : (v : DiskView) (start : ℕ) (x y : Table) (n : ℕ) → Trail ShowsTable v start (x ∷ y ∷ []) n → ((c : Image) → Images v c → ShowsTable c y) → Trail ShowsTable v start (x ∷ y ∷ []) 1
reaches v start x y n t at_end =
    trail_of_two ShowsTable v start x y [] (trail_later v start (x ∷ y ∷ []) n t)
    (λ c since. let p = trail_since v start (x ∷ y ∷ []) n t c since in either x y p.0 (ShowsTable c) p.1) at_end

-- and where its second table may also be the first
either_reaches : (b : Bool) (v : DiskView) (start : ℕ) (x u y : Table) (n : ℕ) → u ≡ y → Trail ShowsTable v start (x ∷ (if b then x else u) ∷ []) n → ((c : Image) → Images v c → ShowsTable c y)
    → Trail ShowsTable v start (x ∷ y ∷ []) 1
either_reaches false v start x u y n same t at_end = reaches v start x y n (subst (λ (z : Table). Trail ShowsTable v start (x ∷ z ∷ []) n) same t) at_end
either_reaches true v start x u y n same t at_end =
    trail_of_two ShowsTable v start x y [] (trail_later v start (x ∷ x ∷ []) n t)
    (λ c since. let p = trail_since v start (x ∷ x ∷ []) n t c since in inl (twice x p.0 (ShowsTable c) p.1)) at_end

-- a store counts the changes of its table
pub counts_changes : (v : DiskView) (s : Held) (x : Contents) (rows : List Cursor) → IsConsistent s → StandsAt v s x rows → s.memory.changes ≡ (table_at s x rows).changes
counts_changes v s x rows lawful stands =
    lawful.memory.changes ∙ ap (λ (y : Contents). y.chained.manifest.changes + length y.journal) (sym stands.stands.held)

-- a command, answered
module _ (speech : Speech) (before now : DiskView) (old new : Held) (bytes : List ℕ) (tag : ℕ) (out : List ℕ) (request : Request) (r : Reply) (pairs : Pairs)
    (asked : IsAskedFor speech old.memory.changes bytes request (record { tag = tag; answer = as_told r pairs; sent = out })) (lawful : IsConsistent old) where
  abbrev told : Said
  told = record { tag = tag; answer = as_told r pairs; sent = out }

  here : (x : Contents) (rows : List Cursor) → StandsAt before old x rows → IsAskedFor speech (table_at old x rows).changes bytes request told
  here x rows at = subst (λ (n : ℕ). IsAskedFor speech n bytes request told) (counts_changes before old x rows lawful at) asked

  some : 2 ≤ old.log.mem
  some = omega (arith, lawful.lawful.mem_least, lawful.log.mem)

  few : length old.log.list ≤ journal_max old.log.mem
  few = omega (arith, lawful.log.few, lawful.log.mem)

  goes_on : (x : Contents) (rows : List Cursor) → StandsAt before old x rows → IsAnsweredAt now old x rows request (as_told r pairs) new → FollowsStep before now x request (as_told r pairs)
      → ContinuesWith speech before now old x rows bytes told new
  goes_on x rows at is trail =
      let next : bare (step (table_of (contents_state x)) request).table ≡ table_of (contents_state is.after) =
      sym (step_bare (table_of (contents_state x)) rows old.memory.cursors.next request) ∙ ap bare (sym is.place.table) in
      let n : ℕ = if accepts r then 1 else 0 in
      record {
        going = is.going;
        after = is.after;
        left = is.left;
        stands = is.stands;
        answers = inr (inl (record { request = request; asked = here x rows at; answer = is.told; place = is.place }));
        trail = either_reaches (ran_short r) now before.moment (table_of (contents_state x)) (bare (step (table_of (contents_state x)) request).table) (table_of (contents_state is.after)) n
            next trail (stands_table now new is.after is.stands.stands);
      }

  falls_short : (x : Contents) (rows : List Cursor) → StandsAt before old x rows → IsShortAt now old x rows request (as_told r pairs) new → FollowsStep before now x request (as_told r pairs)
      → ContinuesWith speech before now old x rows bytes told new
  falls_short x rows at is trail = record {
    going = is.going;
    after = x;
    left = rows;
    stands = is.stands;
    answers = inr (inr (record { request = request; asked = here x rows at; takes = is.takes; accepted = is.acceptable; full = is.full; answer = is.told; same = is.place }));
    trail = reaches now before.moment (table_of (contents_state x)) (table_of (contents_state x)) 0
        (subst (λ (a : Answer). FollowsStep before now x request a) is.told trail) (stands_table now new x is.stands.stands);
  }

  breaks : (x : Contents) (rows : List Cursor) → StandsAt before old x rows → IsBrokenAt old x rows request (as_told r pairs) new → FollowsStep before now x request (as_told r pairs)
      → StopsWith speech before now old x rows bytes told
  breaks x rows at is trail = record {
    done = place_next old.log.mem (position_at old x rows) request;
    fault = record {
      request = request;
      asked = here x rows at;
      reaches = is.reached;
      accepted = is.acceptable;
      answer = inl is.told;
      place = next_is_after old.log.mem (position_at old x rows) request some few;
    };
    answer = is.told;
    trail = subst (λ (t : Table). Trail ShowsTable now before.moment (table_of (contents_state x) ∷ t ∷ []) 0)
        (sym (step_bare (table_of (contents_state x)) rows old.memory.cursors.next request))
        (subst (λ (a : Answer). FollowsStep before now x request a) is.told trail);
  }

  applied : (x : Contents) (rows : List Cursor) → StandsAt before old x rows → IsAppliedAt now old x rows request (as_told r pairs) new → FollowsStep before now x request (as_told r pairs)
      → ContinuesWith speech before now old x rows bytes told new ⊎ StopsWith speech before now old x rows bytes told
  applied x rows at (inl is) trail = inl (goes_on x rows at is trail)
  applied x rows at (inr (inl is)) trail = inl (falls_short x rows at is trail)
  applied x rows at (inr (inr is)) trail = inr (breaks x rows at is trail)

  -- a command that the store answered
  pub answered : (met : Option Fault) → met ≡ fault_told r → IsToldBy speech before now old bytes told new
      → ((x : Contents) (rows : List Cursor) → StandsAt before old x rows → IsAppliedAt now old x rows request (as_told r pairs) new)
      → ((x : Contents) → StandsWith before old x → FollowsStep before now x request (as_told r pairs))
      → IsAnswered speech before now old bytes met new out
  answered met is by ok trail = record {
    response = told;
    spelled = refl;
    responds = inr by;
    tells = is;
    run = λ x rows stands. applied x rows stands (ok x rows stands) (trail x stands.stands);
  }

-- a body that asked for nothing
pub told_nothing : (speech : Speech) (v : DiskView) (s : Held) (bytes : List ℕ) (said : Said) (out : List ℕ) → s.spent ≡ false → IsConsistent s
    → IsDeclined speech s.memory.changes bytes said → said.sent ≡ out → IsAnswered speech v v s bytes None s out
told_nothing speech v s bytes said out going lawful declined text = record {
  response = said;
  spelled = sym text;
  responds = inl (record { declined = declined; store = refl; disk = reads_refl v });
  tells = sym declined.calm;
  run = λ x rows stands.
      let at_end = stands_table v s x stands.stands in
      inl (record {
        going = going;
        after = x;
        left = rows;
        stands = stands;
        answers = inl (record { declined = subst (λ (n : ℕ). IsDeclined speech n bytes said) (counts_changes v s x rows lawful stands) declined; same = refl });
        trail = trail_of_two ShowsTable v v.moment (table_of (contents_state x)) (table_of (contents_state x)) [] (omega arith) (λ c since. inl (at_end c (since_now v c since))) at_end;
      });
}
