-- A promotion that is open over a store: it may go on where the store takes a change, and stays open where nothing that it rests on changes.
use Rattle.std.proofs.Common.{◌≡◌, ◌≤◌, ◌<◌, ◌+◌, ℕ, Bool, eqb, List, [], ◌∷◌, ◌++◌, length, Option, Some, None, refl, sym, ap, ◌∙◌, subst, inl, inr, arith, length-append}
use Rattle.std.specs.Prelude.{IfSome, option_map}
use Rattle.std.specs.List.{count_by}
use Rattle.strat_array.specs.Kept.{Blocks}
use Rattle.strat_base.specs.Change.{Change}
use Rattle.strat_base.specs.Change as change
use Rattle.strat_base.specs.Entries.{Entry}
use Rattle.strat_base.specs.declared.descriptors.LevelDesc.{LevelDesc}
use Rattle.def_crash.specs.Blocks.{KeepsTaken}
use Rattle.def_crash.specs.Image.{Image}
use Rattle.def_crash.specs.Moments.{DiskView}
use Rattle.strat_cursor.specs.Held.{HeldCursors}
use Rattle.strat_extent.specs.Blocks.{times_in, uses}
use Rattle.strat_journal.specs.Log.{Log}
use Rattle.def_publish.specs.Appending.{with_batch}
use Rattle.def_publish.specs.Contents.{Contents}
use Rattle.def_publish.specs.Occupied.{extents_of}
use Rattle.def_publish.specs.Standing.{ReadsAs}
use Rattle.strat_promote.specs.Promotions.{extents_taken}
use Rattle.def_slice.specs.Opened.{IsOpenOver, MayBeSliced, OpenPromotion}
use Rattle.def_slice.proofs.OpenedLemmas.{appended_open, change_goes}
use Rattle.strat_memory.specs.Held.{Held, IsConsistent, IsOpenAt, MayGoOnWith, StandsWith, blocks_named, contents_held}
use Rattle.strat_memory.specs.Memory.{IsReadyFrom, Memory, SealedLevel, memory_after, prepared, refusal_of_change, sealed_off, unsealed}
use Rattle.strat_memory.specs.RecoveredFields.{held_of, open_of}
use Rattle.strat_memory.specs.declared.open_store.OpenStore.{OpenStore}
use Rattle.strat_publish.specs.Advancing.{HasAdvanced, HasEmptied, SlicesInBudget, StandsForMore, StaysOpen}
use Rattle.strat_publish.specs.Counting.{CountsWritten}
use Rattle.strat_publish.specs.Outcomes.{IsPublishedAs}
use Rattle.strat_publish.specs.Publishing.{is_in_front}
use Rattle.strat_store.specs.Applying.{StandsForOne}

-- what holds of something that is there, whatever follows from it
if_then : {A : Type 0} (P Q : A → Type 0) (o : Option A) → ((x : A) → P x → Q x) → IfSome o P → IfSome o Q
if_then P Q None each is = tt
if_then P Q (Some x) each is = each x is

-- a change leaves what is sealed
pub sealed_stay : (m : Memory) (c : Change) → (memory_after m c).sealed ≡ m.sealed
sealed_stay m (change.Put v key value) = refl
sealed_stay m (change.Delete v key) = refl
sealed_stay m (change.Clone v) = refl
sealed_stay m (change.DropVersion v) = refl

-- memory that was made ready refuses what it refused
prepared_refuses : (m : Memory) (o : Option ℕ) (n : ℕ) (c : Change) → refusal_of_change (prepared m o n) c ≡ refusal_of_change m c
prepared_refuses m o n (change.Put v key value) = refl
prepared_refuses m o n (change.Delete v key) = refl
prepared_refuses m o n (change.Clone v) = refl
prepared_refuses m o n (change.DropVersion v) = refl

off_refuses : (mem : ℕ) (m : Memory) (c : Change) → refusal_of_change (sealed_off mem m) c ≡ refusal_of_change m c
off_refuses mem m (change.Put v key value) = refl
off_refuses mem m (change.Delete v key) = refl
off_refuses mem m (change.Clone v) = refl
off_refuses mem m (change.DropVersion v) = refl

pub ready_refuses : (mem : ℕ) (m k : Memory) (c : Change) → IsReadyFrom mem m k → refusal_of_change k c ≡ refusal_of_change m c
ready_refuses mem m k c (inl is) = ap (λ (j : Memory). refusal_of_change j c) is ∙ prepared_refuses m k.ready k.cursors.room c
ready_refuses mem m k c (inr is) = ap (λ (j : Memory). refusal_of_change j c) is.1 ∙ prepared_refuses (sealed_off mem m) None k.cursors.room c ∙ off_refuses mem m c

pub ready_opened : (mem : ℕ) (m k : Memory) → IsReadyFrom mem m k → k.cursors.opened ≡ m.cursors.opened
ready_opened mem m k (inl is) = ap (λ (j : Memory). j.cursors.opened) is
ready_opened mem m k (inr is) = ap (λ (j : Memory). j.cursors.opened) is.1

-- and so does memory that let go of what was sealed
rest_refuses : (m : Memory) (entries : List Entry) (spare : ℕ) (ready : Option ℕ) (cursors : HeldCursors) (c : Change)
    → refusal_of_change (record (unsealed m) { entries = entries; spare = spare; ready = ready; cursors = cursors }) c ≡ refusal_of_change m c
rest_refuses m entries spare ready cursors (change.Put v key value) = refl
rest_refuses m entries spare ready cursors (change.Delete v key) = refl
rest_refuses m entries spare ready cursors (change.Clone v) = refl
rest_refuses m entries spare ready cursors (change.DropVersion v) = refl

pub emptied_refuses : (s mid : Held) (c : Change) → HasEmptied s mid → refusal_of_change mid.memory c ≡ refusal_of_change s.memory c
emptied_refuses s mid c emptied =
    ap (λ (j : Memory). refusal_of_change j c) emptied.memory ∙ rest_refuses s.memory mid.memory.entries mid.memory.spare mid.memory.ready mid.memory.cursors c

-- a store whose promotion stays open has the journal that it had
pub log_stays : (s mid : Held) → StaysOpen s mid → mid.log ≡ s.log
log_stays s mid stays = ap (λ (h : Held). h.log) stays.held

-- below a full region no promotion goes on
none_going : (s : Held) (p : Option OpenPromotion) → length s.log.list < s.sb.mem → IfSome p (MayGoOnWith s) → p ≡ None
none_going s None room going = refl
none_going s (Some o) room going = absurd (let full = (going.sliced []).begun.full in omega (arith, full, room))

pub none_open : (f : Image) (s : Held) (x : Contents) (fill : ℕ) (p : Option OpenPromotion) → length x.journal < x.sb.mem → IfSome p (IsOpenAt f s x fill) → p ≡ None
none_open f s x fill None room opened = refl
none_open f s x fill (Some o) room opened = absurd (let full = opened.over.going.begun.full in omega (arith, full, room))

pub closed_short : (s : Held) → length s.log.list < s.sb.mem → IfSome s.promoting (MayGoOnWith s) → s.promoting ≡ None
closed_short s room going = none_going s s.promoting room going

-- where one is open level 0 is sealed
pub sealed_open : (s : Held) (o : OpenPromotion) → s.promoting ≡ Some o → IfSome s.promoting (MayGoOnWith s) → s.memory.sealed ≡ None → ⊥
sealed_open s o is going none =
    let may : IfSome (Some o) (MayGoOnWith s) = subst (λ (p : Option OpenPromotion). IfSome p (MayGoOnWith s)) is going in
    let there : ◌≡◌ {A = Option SealedLevel} None (Some may.sealed) = sym none ∙ may.sealed_is in
    cc

-- a promotion may go on where a store is spent or not
pub goes_spent : (s : Held) (b : Bool) → IfSome s.promoting (MayGoOnWith s) → IfSome s.promoting (MayGoOnWith (record s { spent = b }))
goes_spent s b going = if_then (MayGoOnWith s) (MayGoOnWith (record s { spent = b })) s.promoting (λ o may. record {
  sealed = may.sealed;
  sealed_is = may.sealed_is;
  sliced = may.sliced;
  first = may.first;
  apart = may.apart;
}) going

-- behind one change more
goes_change : (s : Held) (j : Log) (m : Memory) (c : Change) (o : OpenPromotion) → j.list ≡ s.log.list ++ c ∷ [] → m.sealed ≡ s.memory.sealed → m.cursors ≡ s.memory.cursors → MayGoOnWith s o
    → MayGoOnWith (record s { log = j; memory = m }) o
goes_change s j m c o list sealed cursors may = record {
  sealed = may.sealed;
  sealed_is = sealed ∙ may.sealed_is;
  sliced = λ on.
      subst (λ (js : List Change). MayBeSliced (record (contents_held s on) { journal = js }) may.sealed.entries s.levels o) (sym list)
      (change_goes (contents_held s on) (c ∷ []) (may.sliced on).begun.full may.sealed.entries s.levels o (may.sliced on));
  first = may.first;
  apart = subst (λ (cs : HeldCursors). (b : ℕ) → count_by (λ other. eqb other b) (blocks_named s.chained) + (times_in (extents_taken o.promotion) b + times_in (extents_of cs.retired) b) ≤ uses o.space b) (sym cursors) may.apart;
}

pub going_more : (s : Held) (j : Log) (m : Memory) (c : Change) → j.list ≡ s.log.list ++ c ∷ [] → m.sealed ≡ s.memory.sealed → m.cursors ≡ s.memory.cursors → IfSome s.promoting (MayGoOnWith s)
    → IfSome s.promoting (MayGoOnWith (record s { log = j; memory = m }))
going_more s j m c list sealed cursors going =
    if_then (MayGoOnWith s) (MayGoOnWith (record s { log = j; memory = m })) s.promoting (λ o may. goes_change s j m c o list sealed cursors may) going

-- and with other cursors, for which no more is kept
pub going_with : (s : Held) (c : HeldCursors) → ((b : ℕ) → times_in (extents_of c.retired) b ≤ times_in (extents_of s.memory.cursors.retired) b) → IfSome s.promoting (MayGoOnWith s)
    → IfSome s.promoting (MayGoOnWith (record s { memory = record s.memory { cursors = c } }))
going_with s c fewer going = if_then (MayGoOnWith s) (MayGoOnWith (record s { memory = record s.memory { cursors = c } })) s.promoting (λ o may. record {
  sealed = may.sealed;
  sealed_is = may.sealed_is;
  sliced = may.sliced;
  first = may.first;
  apart = λ b. omega (arith, may.apart b, fewer b);
}) going

-- one that is open over a store is open over one with the same sealed level 0 and the same levels
pub open_as : (f : Image) (s t : Held) (x : Contents) (fill : ℕ) (p : Option OpenPromotion) → t.memory.sealed ≡ s.memory.sealed → t.levels ≡ s.levels → IfSome p (IsOpenAt f s x fill) → IfSome p (IsOpenAt f t x fill)
open_as f s t x fill p sealed levels opened = if_then (IsOpenAt f s x fill) (IsOpenAt f t x fill) p (λ o is. record {
  sealed = is.sealed;
  sealed_is = sealed ∙ is.sealed_is;
  others = is.others;
  over = subst (λ (ls : List (Option LevelDesc)). IsOpenOver f x fill is.sealed.entries ls is.others o) (sym levels) is.over;
  room = is.room;
}) opened

-- a store stands whether it is spent or not
pub stands_spent : (v : DiskView) (s : Held) (x : Contents) (b : Bool) → StandsWith v s x → StandsWith v (record s { spent = b }) x
stands_spent v s x b at = record {
  stands = at.stands;
  held = at.held;
  cached = at.cached;
  filtered = at.filtered;
  open_over = open_as at.stands.content s (record s { spent = b }) x (length s.log.list) s.promoting refl refl at.open_over;
}

pub stands_going : (v : DiskView) (r : OpenStore) (cached : Blocks) (b : Bool) (x : Contents) → StandsWith v (record (held_of r cached) { spent = b }) x → StandsWith v (held_of r cached) x
stands_going v r cached b x at = record {
  stands = at.stands;
  held = at.held;
  cached = at.cached;
  filtered = at.filtered;
  open_over = open_as at.stands.content (record (held_of r cached) { spent = b }) (held_of r cached) x (length r.journal.list) (option_map open_of r.promoting) refl refl at.open_over;
}

-- and over one that has one change more, where it was on time for that
pub open_more : (f g : Image) (s t : Held) (x : Contents) (c : Change) (p : Option OpenPromotion) → ReadsAs f x → length x.journal ≡ length s.log.list → length t.log.list ≡ length s.log.list + 1
    → KeepsTaken (is_in_front x.sb.mem) f g → t.memory.sealed ≡ s.memory.sealed → t.levels ≡ s.levels → IfSome p (IsOpenAt f s x (length s.log.list + 1))
    → IfSome p (IsOpenAt g t (with_batch x (c ∷ [])) (length t.log.list))
open_more f g s t x c p reads same more keeps sealed levels opened =
    if_then (IsOpenAt f s x (length s.log.list + 1)) (IsOpenAt g t (with_batch x (c ∷ [])) (length t.log.list)) p (λ o is.
    let next : length s.log.list + 1 ≡ length x.journal + 1 = omega (arith, same) in
    let long : length (x.journal ++ c ∷ []) ≡ length t.log.list = omega (arith, length-append x.journal (c ∷ []), same, more) in
    let over = appended_open f g x is.sealed.entries s.levels is.others o c reads (subst (λ (n : ℕ). IsOpenOver f x n is.sealed.entries s.levels is.others o) next is.over) keeps in
    record {
      sealed = is.sealed;
      sealed_is = sealed ∙ is.sealed_is;
      others = is.others;
      over = subst (λ (ls : List (Option LevelDesc)). IsOpenOver g (with_batch x (c ∷ [])) (length t.log.list) is.sealed.entries ls is.others o) (sym levels)
          (subst (λ (n : ℕ). IsOpenOver g (with_batch x (c ∷ [])) n is.sealed.entries s.levels is.others o) long over);
      room = is.room;
    }) opened

-- where none is open nothing is asked
pub open_none : (p : Option OpenPromotion) (P : OpenPromotion → Type 0) → p ≡ None → IfSome p P
open_none p P none = subst (λ (o : Option OpenPromotion). IfSome o P) (sym none) tt

pub open_some : (p : Option OpenPromotion) (P : OpenPromotion → Type 0) (o : OpenPromotion) → p ≡ Some o → P o → IfSome p P
open_some p P o is there = subst (λ (q : Option OpenPromotion). IfSome q P) (sym is) there

-- a store that stands below a full region has no promotion, and takes a change
pub one_short : (v : DiskView) (s : Held) (x : Contents) → IsConsistent s → length s.log.list < s.sb.mem → StandsWith v s x → StandsForOne v s x
one_short v s x whole room stands = record {
  stands = stands;
  next = open_none s.promoting (IsOpenAt stands.stands.content s x (length s.log.list + 1)) (closed_short s room whole.going);
}

-- so does one that advanced: with a promotion open, or over other contents without one
pub one_open : (v : DiskView) (s : Held) (x : Contents) → StandsForMore v s x → StandsForOne v s x
one_open v s x more = record {
  stands = more.stands;
  next = open_some s.promoting (IsOpenAt more.stands.stands.content s x (length s.log.list + 1)) more.promotion more.open_is more.next;
}

pub one_published : (v : DiskView) (s : Held) (x : Contents) → s.promoting ≡ None → StandsWith v s x → StandsForOne v s x
one_published v s x none stands = record {
  stands = stands;
  next = open_none s.promoting (IsOpenAt stands.stands.content s x (length s.log.list + 1)) none;
}

-- what an advance found and what it left are of one case: a promotion is open, or none is
none_some : (o : OpenPromotion) (p : Option OpenPromotion) → p ≡ Some o → p ≡ None → ⊥
none_some o p some none = let e : ◌≡◌ {A = Option OpenPromotion} (Some o) None = sym some ∙ none in cc

pub advanced_open : (v : DiskView) (s mid : Held) (x : Contents) → StaysOpen s mid → HasAdvanced v s x mid → StandsForMore v mid x
advanced_open v s mid x stays (inl more) = more
advanced_open v s mid x stays (inr done) = absurd (none_some stays.promotion mid.promoting stays.open_is done.0)

pub advanced_published : (v : DiskView) (s mid : Held) (x : Contents) → HasEmptied s mid → HasAdvanced v s x mid → IsPublishedAs v x mid × CountsWritten s.chained.manifest mid.chained.manifest
advanced_published v s mid x emptied (inl more) = absurd (none_some more.promotion mid.promoting more.open_is emptied.published.closed)
advanced_published v s mid x emptied (inr done) = (done.1, done.2)

-- a promotion keeps to its budget whether a store is spent or not
pub spent_slices : (f : Image) (s : Held) (x : Contents) (b : Bool) (now : Option OpenPromotion) → SlicesInBudget f s x now → SlicesInBudget f (record s { spent = b }) x now
spent_slices f s x b now slices = slices
