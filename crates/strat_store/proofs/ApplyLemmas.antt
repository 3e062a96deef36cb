-- How a store answers commands that ask for no change, and what of it an answer leaves.
use Rattle.std.proofs.Common.{◌≡◌, ◌≤◌, ◌&&◌, ℕ, leb, Bor, Bool, true, false, inl, inr, List, [], ◌∷◌, length, Option, Some, None, refl, sym, ap, ◌∙◌, subst, true≢false, eqb, not, ◌+◌, ◌++◌, Contains, arith}
use Rattle.std.proofs.lemmas.Bool.{and_parts, leb-true}
use Rattle.std.proofs.lemmas.List.Elements.{Contains-append_left}
use Rattle.std.specs.Prelude.{if◌then◌else◌, option_and_then, filter, find}
use Rattle.std.specs.List.{list_any}
use Rattle.std.specs.Option.{option_map_or}
use Rattle.strat_base.specs.Change.{Change}
use Rattle.strat_base.specs.Change as change
use Rattle.strat_array.specs.Kept.{Blocks}
use Rattle.def_crash.specs.Image.{Image}
use Rattle.def_crash.specs.Moments.{DiskView, Exposes, Since, OnlyReads}
use Rattle.def_crash.specs.Trail.{Trail}
use Rattle.def_crash.proofs.MomentLemmas.{now_since_start}
use Rattle.def_crash.proofs.TrailLemmas.{trail_of_one, trail_of_two}
use Rattle.strat_base.specs.declared.descriptors.ArrayDesc.{ArrayDesc}
use Rattle.strat_cursor.proofs.TableRows.{rows_length}
use Rattle.strat_cursor.specs.Cursors.{is_opened}
use Rattle.def_bytes.specs.Arrays.{block_on}
use Rattle.strat_cursor.specs.Looking.{AreOfOldArrays, LooksThrough, ReadsArrays, arrays_there}
use Rattle.def_bytes.specs.Damage.{Read}
use Rattle.strat_journal.specs.Log.{Log}
use Rattle.strat_model.specs.declared.replies.Reply.{Reply}
use Rattle.strat_model.specs.declared.replies.Reply.TheVariants as reply
use Rattle.strat_model.specs.declared.replies.Refusal.{Refusal}
use Rattle.strat_model.specs.declared.replies.Refusal.TheVariants as why
use Rattle.strat_model.specs.Command.{request_of}
use Rattle.strat_model.specs.declared.commands.Command.{Command}
use Rattle.strat_model.specs.declared.commands.Command.TheVariants as command
use Rattle.strat_array.specs.Told.{TheirPairs}
use Rattle.strat_model.specs.Answer.{Answer, plain, accepts, as_told, refusal}
use Rattle.strat_model.specs.Pairs.{range, value_of}
use Rattle.strat_model.specs.Request.{Request, Put, Delete, Get, Clone, Scan, Info, OpenCursor, NextPairs, CloseCursor, Stat, DropVersion}
use Rattle.strat_model.specs.Run.{is_change, reaches_disk, takes_memory}
use Rattle.strat_model.proofs.FillLemmas.{not_carried, stays}
use Rattle.strat_model.specs.Spelling.{is_bound, is_limit, has_lawful_sizes}
use Rattle.strat_model.specs.Step.{Outcome, advanced, step, replies_with, refuses, has_row, pairs_at, found, page}
use Rattle.strat_model.specs.Table.{Cursor, Table, bare}
use Rattle.def_recovery.specs.Head.{Head}
use Rattle.def_recovery.specs.Opening.{state_of, opened}
use Rattle.def_meaning.specs.StateTable.{table_of, request_for}
use Rattle.def_publish.proofs.FreeLemmas.{shows_contents}
use Rattle.def_publish.proofs.PartsLemmas.{reads_head, reads_state}
use Rattle.def_publish.specs.Contents.{Contents, contents_head, contents_state}
use Rattle.def_publish.specs.Standing.{LeavesContent, ShowsTable}
use Rattle.strat_memory.proofs.MemoryLawLemmas.{version_told, store_told_with, version_unknown}
use Rattle.strat_store.proofs.AppliedLemmas.{next_later}
use Rattle.strat_store.proofs.GoingLemmas.{goes_spent, open_as}
use Rattle.strat_store.proofs.CursoringLemmas.{looks_wider, stands_now, stands_still, still_going}
use Rattle.strat_store.specs.Applying.{IsLookedUp, IsUntouched, FailsAsTold, FollowsStep, TellsTroubleOf, change_wanted, refusal_of_look, is_fault, ran_short, table_left}
use Rattle.strat_store.specs.Cursoring.{IsAppliedAt, is_of_cursor}
use Rattle.strat_store.specs.Getting.{MayTellOfKey}
use Rattle.strat_store.specs.Ranging.{HasPairs, HasPairsFor, MayTellOfRange, ReadsForLook, TellsFrom, TellsOfVersion}
use Rattle.strat_memory.specs.Held.{Held, arrays_held, position_at, table_at, IsConsistent, StandsAt, StandsWith}
use Rattle.strat_memory.specs.Memory.{Memory, info_told, stat_told, IsMemoryOf, has_version}
use Rattle.strat_publish.specs.Settling.{LeavesPublished}

-- the request of a change that is wanted
pub wanted_for : (r : Request) (c : Change) → change_wanted r ≡ Some c → request_for c ≡ r
wanted_for (Put v key value) c wanted = let same : change.Put v key value ≡ c = cc in ap request_for (sym same)
wanted_for (Delete v key) c wanted = let same : change.Delete v key ≡ c = cc in ap request_for (sym same)
wanted_for (Clone v) c wanted = let same : change.Clone v ≡ c = cc in ap request_for (sym same)
wanted_for (DropVersion v) c wanted = let same : change.DropVersion v ≡ c = cc in ap request_for (sym same)
wanted_for _ c wanted = absurd (cc)

-- a change looks nothing up
pub tells_from_wanted : (f : Image) (s : Held) (r : Request) (c : Change) (answer : Answer) → change_wanted r ≡ Some c → TellsFrom f s r answer
tells_from_wanted f s (Put v key value) c answer wanted = tt
tells_from_wanted f s (Delete v key) c answer wanted = tt
tells_from_wanted f s (Clone v) c answer wanted = tt
tells_from_wanted f s (DropVersion v) c answer wanted = tt
tells_from_wanted f s _ c answer wanted = absurd (cc)

-- nothing was read
pub reads_still : (arrays : List ArrayDesc) (n : ℕ) → ReadsArrays arrays n n
reads_still arrays n = λ k few. record { later = omega arith; bound = omega arith }

-- arrays are read for a version that is there, and none for one that is not
pub reads_known : (there : Bool) (arrays : List ArrayDesc) (before now : ℕ) → ReadsArrays arrays before now → (there ≡ false → now ≡ before) → ReadsArrays (if there then arrays else []) before now
reads_known true arrays before now reads none = reads
reads_known false arrays before now reads none = λ k few. let still = none refl in record { later = omega (arith, still); bound = omega (arith, still) }

-- a change is no look-up
pub reads_no_look : (s : Held) (r : Request) (c : Change) (before now : ℕ) → change_wanted r ≡ Some c → ReadsForLook s r before now
reads_no_look s r c before now wanted none = absurd (let e : Some c ≡ None = sym wanted ∙ none in cc)

-- a command that asks for no change is none of the changes
pub changes_left : (asked : Command) → change_wanted (request_of asked) ≡ None → ((v : ℕ) (key : Bor (List ℕ)) → asked ≡ command.Get v key → ⊥) → ((v : ℕ) (lo hi : Bor (List ℕ)) (limit : ℕ) → asked ≡ command.Scan v lo hi limit → ⊥)
    → ((v : ℕ) → asked ≡ command.Info v → ⊥) → (asked ≡ command.Stat → ⊥) → ((v : ℕ) (lo hi : Bor (List ℕ)) → asked ≡ command.OpenCursor v lo hi → ⊥) → ((cursor limit : ℕ) → asked ≡ command.NextPairs cursor limit → ⊥)
    → ((cursor : ℕ) → asked ≡ command.CloseCursor cursor → ⊥) → ⊥
changes_left (command.Put v key value) none get scan info stat opens pages closes = let e : Some (change.Put v key.now value.now) ≡ None = none in cc
changes_left (command.Delete v key) none get scan info stat opens pages closes = let e : Some (change.Delete v key.now) ≡ None = none in cc
changes_left (command.Clone v) none get scan info stat opens pages closes = let e : Some (change.Clone v) ≡ None = none in cc
changes_left (command.DropVersion v) none get scan info stat opens pages closes = let e : Some (change.DropVersion v) ≡ None = none in cc
changes_left (command.Get v key) none get scan info stat opens pages closes = get v key refl
changes_left (command.Scan v lo hi limit) none get scan info stat opens pages closes = scan v lo hi limit refl
changes_left (command.Info v) none get scan info stat opens pages closes = info v refl
changes_left command.Stat none get scan info stat opens pages closes = stat refl
changes_left (command.OpenCursor v lo hi) none get scan info stat opens pages closes = opens v lo hi refl
changes_left (command.NextPairs cursor limit) none get scan info stat opens pages closes = pages cursor limit refl
changes_left (command.CloseCursor cursor) none get scan info stat opens pages closes = closes cursor refl

-- it reaches the disk, and so a fault may be told of it
reaches_wanted : (r : Request) (c : Change) → change_wanted r ≡ Some c → reaches_disk r ≡ true
reaches_wanted (Put v key value) c wanted = refl
reaches_wanted (Delete v key) c wanted = refl
reaches_wanted (Clone v) c wanted = refl
reaches_wanted (DropVersion v) c wanted = refl
reaches_wanted _ c wanted = absurd (cc)

-- where no fault is told of no count rises
pub fails_none : (faults : ℕ) (told : Reply) → is_fault told ≡ false → FailsAsTold faults faults told
fails_none faults told calm = record {
  later = omega arith;
  rose = λ failed. absurd (true≢false (sym (ap is_fault failed) ∙ calm));
  same = λ other. refl;
}

-- and nothing in memory but what it would be refused for keeps it from that
unrefused : (m : Memory) (r : Request) (c : Change) → change_wanted r ≡ Some c → refusal_of_look m r ≡ None
unrefused m (Put v key value) c wanted = refl
unrefused m (Delete v key) c wanted = refl
unrefused m (Clone v) c wanted = refl
unrefused m (DropVersion v) c wanted = refl
unrefused m _ c wanted = absurd (cc)

takes_wanted : (r : Request) (c : Change) → change_wanted r ≡ Some c → takes_memory r ≡ true
takes_wanted (Put v key value) c wanted = refl
takes_wanted (Delete v key) c wanted = refl
takes_wanted (Clone v) c wanted = refl
takes_wanted (DropVersion v) c wanted = refl
takes_wanted _ c wanted = absurd (cc)

pub tells_of_change : (before : DiskView) (old : Held) (r : Request) (c : Change) (told : Reply) → change_wanted r ≡ Some c → ((b : ℕ) → told ≡ reply.Refused (why.Damaged b) → old.log.mem ≤ length old.log.list)
    → (told ≡ reply.Refused why.NoMemory → old.log.mem ≤ length old.log.list) → TellsTroubleOf before old r told
tells_of_change before old r c told wanted damaged short = record {
  reached = λ fault. reaches_wanted r c wanted;
  unrefused = λ fault. unrefused old.memory r c wanted;
  none = λ none. absurd (let x : Some c ≡ None = sym wanted ∙ none in cc);
  full = λ change b bad. damaged b bad;
  short = λ none. (takes_wanted r c wanted, λ change. short none);
}

-- a reply that tells no fault, and want of memory only of a command that takes some and is no change
pub tells_calm : (before : DiskView) (old : Held) (r : Request) (told : Reply) → is_fault told ≡ false → (told ≡ reply.Refused why.NoMemory → (takes_memory r ≡ true) × (is_change r ≡ false)) → TellsTroubleOf before old r told
tells_calm before old r told calm short = record {
  reached = λ fault. absurd (true≢false (sym fault ∙ calm));
  unrefused = λ fault. absurd (true≢false (sym fault ∙ calm));
  none = λ none b torn. absurd (true≢false (sym (ap is_fault torn) ∙ calm));
  full = λ change b torn. absurd (true≢false (sym (ap is_fault torn) ∙ calm));
  short = λ none. let one = short none in (one.0, λ change. absurd (true≢false (sym change ∙ one.1)));
}

-- a look-up that reaches the disk tells of a fault where memory does not refuse it, and never of want of memory
pub tells_look : (before : DiskView) (old : Held) (r : Request) (told other : Reply) → reaches_disk r ≡ true → is_change r ≡ false → is_fault other ≡ false → (told ≡ reply.Refused why.NoMemory → ⊥)
    → ((q : Refusal) → refusal_of_look old.memory r ≡ Some q → told ≡ other) → ((b : ℕ) → told ≡ reply.Refused (why.Damaged b) → (f : Image) → Exposes before f → block_on f b ≡ None) → TellsTroubleOf before old r told
tells_look before old r told other reaches look calm short refused none = record {
  reached = λ fault. reaches;
  unrefused = λ fault. by (refusal_of_look old.memory r) refl fault;
  none = λ _. none;
  full = λ change b bad. absurd (true≢false (sym change ∙ look));
  short = λ e. absurd (short e);
}
  where
    by : (o : Option Refusal) → refusal_of_look old.memory r ≡ o → is_fault told ≡ true → refusal_of_look old.memory r ≡ None
    by None is fault = is
    by (Some q) is fault = absurd (true≢false (sym fault ∙ ap is_fault (refused q is) ∙ calm))

pub other_than : reply.Refused why.UnknownVersion ≡ reply.Found → ⊥
other_than e = cc

-- what is told of a key, and of a range, is never want of memory
of_key : (told : Reply) → MayTellOfKey told → told ≡ reply.Refused why.NoMemory → ⊥
of_key told (inl is) short = let e : reply.Found ≡ reply.Refused why.NoMemory = sym is ∙ short in cc
of_key told (inr (inl is)) short = let e : reply.Absent ≡ reply.Refused why.NoMemory = sym is ∙ short in cc
of_key told (inr (inr (inl is))) short = let e : reply.Refused why.DeviceFault ≡ reply.Refused why.NoMemory = sym is ∙ short in cc
of_key told (inr (inr (inr is))) short = let e : reply.Refused (why.Damaged is.0) ≡ reply.Refused why.NoMemory = sym is.1 ∙ short in cc

of_range : (told : Reply) → MayTellOfRange told → told ≡ reply.Refused why.NoMemory → ⊥
of_range told (inl is) short = let e : reply.Pairs is.0 ≡ reply.Refused why.NoMemory = sym is.1 ∙ short in cc
of_range told (inr (inl is)) short = let e : reply.Refused why.DeviceFault ≡ reply.Refused why.NoMemory = sym is ∙ short in cc
of_range told (inr (inr is)) short = let e : reply.Refused (why.Damaged is.0) ≡ reply.Refused why.NoMemory = sym is.1 ∙ short in cc

of_no_version : (told : Reply) → told ≡ reply.Refused why.UnknownVersion → told ≡ reply.Refused why.NoMemory → ⊥
of_no_version told is short = let e : reply.Refused why.UnknownVersion ≡ reply.Refused why.NoMemory = sym is ∙ short in cc

-- whether the version is there or not
pub key_short : (known : Bool) (told : Reply) → (known ≡ true → MayTellOfKey told) → (known ≡ false → told ≡ reply.Refused why.UnknownVersion) → told ≡ reply.Refused why.NoMemory → ⊥
key_short true told here none short = of_key told (here refl) short
key_short false told here none short = of_no_version told (none refl) short

pub range_short : (known : Bool) (told : Reply) → (known ≡ true → MayTellOfRange told) → (known ≡ false → told ≡ reply.Refused why.UnknownVersion) → told ≡ reply.Refused why.NoMemory → ⊥
range_short true told here none short = of_range told (here refl) short
range_short false told here none short = of_no_version told (none refl) short

-- nor is a key found by what is told of a range, of a version or of the store
pages : (told : Reply) → MayTellOfRange told → told ≡ reply.Found → ⊥
pages told (inl is) found = let e : reply.Pairs is.0 ≡ reply.Found = sym is.1 ∙ found in cc
pages told (inr (inl is)) found = let e : reply.Refused why.DeviceFault ≡ reply.Found = sym is ∙ found in cc
pages told (inr (inr is)) found = let e : reply.Refused (why.Damaged is.0) ≡ reply.Found = sym is.1 ∙ found in cc

pub info_finds : (m : Memory) (version : ℕ) (known : Bool) (told : Reply) → (known ≡ true → told ≡ info_told m version) → (known ≡ false → told ≡ reply.Refused why.UnknownVersion) → told ≡ reply.Found → ⊥
info_finds m version true told here none found = let e : info_told m version ≡ reply.Found = sym (here refl) ∙ found in cc
info_finds m version false told here none found = other_than (sym (none refl) ∙ found)

pub stat_finds : (m : Memory) → stat_told m ≡ reply.Found → ⊥
stat_finds m found = cc

-- beside the reply to a command that is no page: one pair where a key was found, and else none
pub pairs_beside : (told : Reply) (out : TheirPairs) → (told ≡ reply.Found → length out ≡ 1) → ((told ≡ reply.Found → ⊥) → out ≡ []) → HasPairs 0 told out
pairs_beside reply.Found out one none = one refl
pairs_beside (reply.Pairs more) out one none = let n = ap length (none (λ e. cc)) in (omega (arith, n), λ on. n)
pairs_beside reply.Done out one none = none (λ e. cc)
pairs_beside reply.Absent out one none = none (λ e. cc)
pairs_beside (reply.Made v) out one none = none (λ e. cc)
pairs_beside (reply.Info parent depth frozen) out one none = none (λ e. cc)
pairs_beside (reply.Opened n) out one none = none (λ e. cc)
pairs_beside (reply.Stat versions updates changes cursors) out one none = none (λ e. cc)
pairs_beside (reply.Refused r) out one none = none (λ e. cc)

pub no_pairs : (told : Reply) (out : TheirPairs) → (told ≡ reply.Found → ⊥) → out ≡ [] → HasPairs 0 told out
no_pairs told out other none = pairs_beside told out (λ found. absurd (other found)) (λ _. none)

-- a change is answered without pairs
pub pairs_wanted : (r : Request) (c : Change) (told : Reply) (out : TheirPairs) → change_wanted r ≡ Some c → (told ≡ reply.Found → ⊥) → out ≡ [] → HasPairsFor r (as_told told out)
pairs_wanted (Put v key value) c told out wanted other none = no_pairs told out other none
pairs_wanted (Delete v key) c told out wanted other none = no_pairs told out other none
pairs_wanted (Clone v) c told out wanted other none = no_pairs told out other none
pairs_wanted (DropVersion v) c told out wanted other none = no_pairs told out other none
pairs_wanted _ c told out wanted other none = absurd (cc)

-- a version that is refused is not there, and a cursor that is refused is not open
pub version_refused : (m : Memory) (v : ℕ) (q : Refusal) → (if has_version m v then None else Some why.UnknownVersion) ≡ Some q → has_version m v ≡ false
version_refused m v q e = by (has_version m v) refl e
  where
    by : (b : Bool) → has_version m v ≡ b → (if b then None else Some why.UnknownVersion) ≡ Some q → has_version m v ≡ false
    by true on e = absurd (cc)
    by false off e = off

pub cursor_refused : (m : Memory) (n : ℕ) (q : Refusal) → (if is_opened n m.cursors.opened then None else Some why.UnknownCursor) ≡ Some q → is_opened n m.cursors.opened ≡ false
cursor_refused m n q e = by (is_opened n m.cursors.opened) refl e
  where
    by : (b : Bool) → is_opened n m.cursors.opened ≡ b → (if b then None else Some why.UnknownCursor) ≡ Some q → is_opened n m.cursors.opened ≡ false
    by true on e = absurd (cc)
    by false off e = off

-- as what is told of a version
pub info_calm : (m : Memory) (version : ℕ) (told : Reply) → (has_version m version ≡ true → told ≡ info_told m version) → (has_version m version ≡ false → told ≡ reply.Refused why.UnknownVersion)
    → is_fault told ≡ false
info_calm m version told known unknown = by_test (has_version m version) refl
  where
    by_test : (b : Bool) → has_version m version ≡ b → is_fault told ≡ false
    by_test true is = ap is_fault (known is)
    by_test false is = ap is_fault (unknown is)

-- nor is want of memory told of a version, or of the store
pub info_short : (m : Memory) (version : ℕ) (told : Reply) → (has_version m version ≡ true → told ≡ info_told m version) → (has_version m version ≡ false → told ≡ reply.Refused why.UnknownVersion)
    → told ≡ reply.Refused why.NoMemory → ⊥
info_short m version told known unknown short = by_test (has_version m version) refl
  where
    by_test : (b : Bool) → has_version m version ≡ b → ⊥
    by_test true is = let e : info_told m version ≡ reply.Refused why.NoMemory = sym (known is) ∙ short in cc
    by_test false is = let e : reply.Refused why.UnknownVersion ≡ reply.Refused why.NoMemory = sym (unknown is) ∙ short in cc

pub stat_short : (m : Memory) → stat_told m ≡ reply.Refused why.NoMemory → ⊥
stat_short m short = cc

-- so it is told
pub info_says : (m : Memory) (version : ℕ) (told : Reply) → (has_version m version ≡ true → told ≡ info_told m version) → (has_version m version ≡ false → told ≡ reply.Refused why.UnknownVersion)
    → TellsOfVersion m version (plain told) (plain told ≡ plain (info_told m version))
info_says m version told known unknown = (λ off. ap plain (unknown off), λ is. ap plain (known is))

-- a version that is not there is told so, without pairs
pub unknown_answer : (told : Reply) (out : TheirPairs) → told ≡ reply.Refused why.UnknownVersion → out ≡ [] → as_told told out ≡ refusal why.UnknownVersion
unknown_answer told out is none = λ i. as_told (is i) (none i)

-- what reads a version leaves the table as it was
says_kept : (k : Bool) (t : Table) (a : Answer) (r : Refusal) → (if k then replies_with t a else refuses t r).table ≡ t
says_kept true t a r = refl
says_kept false t a r = refl

-- a command that wants no change and is about no cursor leaves the table as it was
pub look_kept : (t : Table) (r : Request) → is_of_cursor r ≡ false → change_wanted r ≡ None → (step t r).table ≡ t
look_kept t (Get v key) other none = says_kept (has_row t v) t _ why.UnknownVersion
look_kept t (Info v) other none = says_kept (has_row t v) t _ why.UnknownVersion
look_kept t (Scan v lo hi limit) other none = says_kept (has_row t v) t _ why.UnknownVersion
look_kept t Stat other none = refl
look_kept t (Put v key value) other none = absurd (cc)
look_kept t (Delete v key) other none = absurd (cc)
look_kept t (Clone v) other none = absurd (cc)
look_kept t (DropVersion v) other none = absurd (cc)
look_kept t _ other none = absurd (true≢false other)

-- it is not a change
pub look_no_change : (r : Request) → change_wanted r ≡ None → is_change r ≡ false
look_no_change (Put v key value) none = absurd (cc)
look_no_change (Delete v key) none = absurd (cc)
look_no_change (Clone v) none = absurd (cc)
look_no_change (DropVersion v) none = absurd (cc)
look_no_change _ none = refl

says_no_fault : (k : Bool) (t : Table) (a : Answer) → is_fault a.reply ≡ false → is_fault (if k then replies_with t a else refuses t why.UnknownVersion).answer.reply ≡ false
says_no_fault true t a calm = calm
says_no_fault false t a calm = refl

found_no_fault : (key : List ℕ) (o : Option (List ℕ)) → is_fault (found key o).reply ≡ false
found_no_fault key None = refl
found_no_fault key (Some value) = refl

-- and a table answers it with no fault
pub look_no_fault : (t : Table) (r : Request) → is_of_cursor r ≡ false → change_wanted r ≡ None → is_fault (step t r).answer.reply ≡ false
look_no_fault t (Get v key) other none = says_no_fault (has_row t v) t (found key (value_of (pairs_at t v) key)) (found_no_fault key (value_of (pairs_at t v) key))
look_no_fault t (Info v) other none = says_no_fault (has_row t v) t _ refl
look_no_fault t (Scan v lo hi limit) other none = says_no_fault (has_row t v) t _ refl
look_no_fault t Stat other none = refl
look_no_fault t (Put v key value) other none = absurd (cc)
look_no_fault t (Delete v key) other none = absurd (cc)
look_no_fault t (Clone v) other none = absurd (cc)
look_no_fault t (DropVersion v) other none = absurd (cc)
look_no_fault t _ other none = absurd (true≢false other)

-- what reads a version says the same beside any cursors
says_same : (k : Bool) (t u : Table) (a : Answer) → (if k then replies_with t a else refuses t why.UnknownVersion).answer ≡ (if k then replies_with u a else refuses u why.UnknownVersion).answer
says_same true t u a = refl
says_same false t u a = refl

-- a get, a scan and what is told of a version are the same at a table with cursors
abbrev SaysSame : Table → List Cursor → ℕ → Request → Type 0
SaysSame t rows next r = (step (record t { cursors = rows; next_cursor = next }) r).answer ≡ (step t r).answer

pub get_same : (t : Table) (rows : List Cursor) (next v : ℕ) (key : List ℕ) → SaysSame t rows next (Get v key)
get_same t rows next v key = says_same (has_row t v) (record t { cursors = rows; next_cursor = next }) t (found key (value_of (pairs_at t v) key))

pub scan_same : (t : Table) (rows : List Cursor) (next v : ℕ) (lo hi : List ℕ) (limit : ℕ) → SaysSame t rows next (Scan v lo hi limit)
scan_same t rows next v lo hi limit = says_same (has_row t v) (record t { cursors = rows; next_cursor = next }) t (page (range (pairs_at t v) lo hi) limit)

info_same : (t : Table) (rows : List Cursor) (next v : ℕ) → SaysSame t rows next (Info v)
info_same t rows next v = says_same (has_row t v) (record t { cursors = rows; next_cursor = next }) t _

-- what memory tells of versions and of the store is the table's
module _ (v : DiskView) (s : Held) (x : Contents) (rows : List Cursor) (whole : IsConsistent s) (at : StandsAt v s x rows) where
  abbrev w : StandsWith v s x
  w = at.stands

  abbrev here : Image
  here = w.stands.content

  state_here : state_of here (contents_head x) ≡ Some (contents_state x)
  state_here =
      let reads = w.stands.reads here w.stands.left in
      ap (λ (found : Read (Option Head)). option_and_then (state_of here) (opened found)) (sym (reads_head here x reads)) ∙ reads_state here x reads

  memory_here : IsMemoryOf (contents_head x) s.memory
  memory_here = subst (λ (z : Contents). IsMemoryOf (contents_head z) s.memory) (sym w.held) whole.memory

  pub info_here : (version : ℕ) (told : Reply) → (has_version s.memory version ≡ true → told ≡ info_told s.memory version) → (has_version s.memory version ≡ false → told ≡ reply.Refused why.UnknownVersion)
      → plain told ≡ (step (table_at s x rows) (Info version)).answer
  info_here version told known unknown =
      by_test (has_version s.memory version) refl ∙ sym (info_same (table_of (contents_state x)) rows s.memory.cursors.next version)
    where
      by_test : (b : Bool) → has_version s.memory version ≡ b → plain told ≡ (step (table_of (contents_state x)) (Info version)).answer
      by_test true is = ap plain (known is) ∙ sym (version_told here (contents_head x) (contents_state x) s.memory state_here memory_here version is)
      by_test false is = ap plain (unknown is) ∙ ap (λ o. o.answer) (sym (version_unknown here (contents_head x) (contents_state x) s.memory state_here memory_here version is))

  pub stat_here : plain (stat_told s.memory) ≡ (step (table_at s x rows) Stat).answer
  stat_here =
      sym (store_told_with here (contents_head x) (contents_state x) s.memory state_here memory_here rows s.memory.cursors.next (rows_length here s.memory.parents s.memory.cursors.opened rows at.rows_are))

-- a command that was looked up as the table says is answered as a store may answer it
told_at : (now : DiskView) (s new : Held) (x : Contents) (rows : List Cursor) (r : Request) (answer : Answer) → is_of_cursor r ≡ false → change_wanted r ≡ None → new.log ≡ s.log → new.memory ≡ s.memory
    → new.spent ≡ is_fault answer.reply → answer ≡ (step (table_at s x rows) r).answer → StandsAt now new x rows → IsAppliedAt now s x rows r answer new
told_at now s new x rows r answer other none log memory spent told stands =
    let t = table_at s x rows in
    let off = not_carried (position_at s x rows) r (look_no_change r none) in
    inl (record {
      told = told;
      going = spent ∙ ap (λ (a : Answer). is_fault a.reply) told ∙ look_no_fault t r other none;
      after = x;
      left = rows;
      stands = stands;
      place = stays s.log.mem (position_at s x rows) (position_at new x rows) r off
          ((λ i. record (table_of (contents_state x)) { cursors = rows; next_cursor = (memory i).cursors.next }) ∙ sym (look_kept t r other none))
          (ap (λ (l : Log). length l.list) log);
    })

-- without a look at the disk
pub memory_applied : (v : DiskView) (s : Held) (x : Contents) (rows : List Cursor) (whole : IsConsistent s) (at : StandsAt v s x rows) (r : Request) (answer : Answer) → is_of_cursor r ≡ false → change_wanted r ≡ None
    → answer ≡ (step (table_at s x rows) r).answer → IsAppliedAt v s x rows r answer (record s { spent = is_fault answer.reply })
memory_applied v s x rows whole at r answer other none told =
    told_at v s (record s { spent = is_fault answer.reply }) x rows r answer other none refl refl refl told
    (stands_still v s x rows whole at s.memory (is_fault answer.reply) rows refl at.rows_are at.going)

-- and with one
pub look_applied : (v now : DiskView) (s : Held) (x : Contents) (rows : List Cursor) (d : Blocks) (whole : IsConsistent s) (at : StandsAt v s x rows) (looks : LooksThrough v now (arrays_there s.levels) s.cached d) (leaves : LeavesContent now)
    (r : Request) (answer : Answer) → is_of_cursor r ≡ false → change_wanted r ≡ None → SaysSame (table_of (contents_state x)) rows s.memory.cursors.next r
    → IsLookedUp now (record s { cached = d }) x r answer → IsAppliedAt now s x rows r answer (record s { cached = d; spent = is_fault answer.reply })
look_applied v now s x rows d whole at looks leaves r answer other none same looked = elim looked [
  | inl answered ↦
      let wider = looks_wider v now (arrays_there s.levels) (arrays_held s.memory s.levels) s.cached d (λ a of. Contains-append_left (arrays_there s.levels) s.memory.cursors.retired a of) looks in
      told_at now s (record s { cached = d; spent = is_fault answer.reply }) x rows r answer other none refl refl refl (answered.0 ∙ sym same)
      (stands_now v s x rows whole at now d wider leaves s.memory (is_fault answer.reply) rows refl at.rows_are (still_going v s x rows whole at now d wider leaves))
  | inr failed ↦ inr (inr (record {
    reached = failed.1;
    acceptable = ap (λ (a : Answer). accepts a.reply) same ∙ failed.2;
    told = failed.0;
    spent = ap (λ (a : Answer). is_fault a.reply) failed.0;
  }))
]

-- a command that asks for no change changes nothing but cursors
query_bare : (t : Table) (r : Request) → change_wanted r ≡ None → bare (step t r).table ≡ bare t
query_bare t (Get v key) none = ap bare (says_kept (has_row t v) t _ why.UnknownVersion)
query_bare t (Info v) none = ap bare (says_kept (has_row t v) t _ why.UnknownVersion)
query_bare t (Scan v lo hi limit) none = ap bare (says_kept (has_row t v) t _ why.UnknownVersion)
query_bare t Stat none = refl
query_bare t (OpenCursor v lo hi) none = by (has_row t v) (eqb (length t.cursors) 64)
  where
    more : Outcome
    more = record {
      answer = plain (reply.Opened t.next_cursor);
      table = record t { cursors = t.cursors ++ record { number = t.next_cursor; left = range (pairs_at t v) lo hi } ∷ []; next_cursor = t.next_cursor + 1 };
    }

    by : (k full : Bool) → bare (if not k then refuses t why.UnknownVersion else if full then refuses t why.CursorLimit else more).table ≡ bare t
    by false full = refl
    by true true = refl
    by true false = refl
query_bare t (NextPairs n limit) none = by (find (λ (c : Cursor). eqb c.number n) t.cursors)
  where
    by : (o : Option Cursor) → bare (option_map_or (λ (c : Cursor). record { answer = page c.left limit; table = record t { cursors = advanced t.cursors n limit } }) o (refuses t why.UnknownCursor)).table ≡ bare t
    by None = refl
    by (Some c) = refl
query_bare t (CloseCursor n) none = by (list_any (λ (c : Cursor). eqb c.number n) t.cursors)
  where
    by : (b : Bool) → bare (if b then record { answer = plain reply.Done; table = record t { cursors = filter (λ (c : Cursor). not (eqb c.number n)) t.cursors } } else refuses t why.UnknownCursor).table ≡ bare t
    by true = refl
    by false = refl
query_bare t (Put v key value) none = absurd (cc)
query_bare t (Delete v key) none = absurd (cc)
query_bare t (Clone v) none = absurd (cc)
query_bare t (DropVersion v) none = absurd (cc)

-- over a disk that is only read the images show the table, before a command that changes nothing and after it
pub look_follows : (before now : DiskView) (s : Held) (x : Contents) (r : Request) (answer : Answer) → change_wanted r ≡ None → OnlyReads before now → StandsWith before s x
    → FollowsStep before now x r answer
look_follows before now s x r answer none looks w =
    let t = table_of (contents_state x) in
    let each : (c : Image) → Since now before.moment c → ShowsTable c t = λ c since. shows_contents c x w.stands.sound (w.stands.reads c (looks.images.each c since)) in
    let after : table_left t r answer.reply ≡ t = by_short t (bare (step t r).table) (query_bare t r none) (ran_short answer.reply) in
    by_accept t (table_left t r answer.reply) after each (accepts answer.reply)
  where
    by_short : (t u : Table) → u ≡ t → (b : Bool) → (if b then t else u) ≡ t
    by_short t u same true = refl
    by_short t u same false = same

    by_accept : (t u : Table) → u ≡ t → ((c : Image) → Since now before.moment c → ShowsTable c t) → (b : Bool) → Trail ShowsTable now before.moment (t ∷ u ∷ []) (if b then 1 else 0)
    by_accept t u after each true =
        trail_of_two ShowsTable now before.moment t u [] looks.time.later (λ c since. inl (each c since))
        (λ c left. subst (λ (z : Table). ShowsTable c z) (sym after) (each c (now_since_start before now c looks.time left)))
    by_accept t u after each false = trail_of_one ShowsTable now before.moment t (u ∷ []) looks.time.later each

-- a store holds what an opening may find whether it is spent or not
pub spent_consistent : (s : Held) (b : Bool) → IsConsistent s → IsConsistent (record s { spent = b })
spent_consistent s b whole = record {
  slot = whole.slot;
  lawful = whole.lawful;
  spelled = whole.spelled;
  belonging = whole.belonging;
  log = whole.log;
  accepted = whole.accepted;
  memory = whole.memory;
  placed = whole.placed;
  kept = whole.kept;
  going = goes_spent s b whole.going;
}

-- a scan of lawful sizes asks for 1 to 256 pairs
pub scan_fits : (v : ℕ) (lo hi : List ℕ) (limit : ℕ) → has_lawful_sizes (Scan v lo hi limit) ≡ true → (1 ≤ limit) × (limit ≤ 256)
scan_fits v lo hi limit lawful =
    let bounds = and_parts (is_bound lo) (is_bound hi && is_limit limit) lawful in
    let asked = and_parts (is_bound hi) (is_limit limit) bounds.1 in
    let ends = and_parts (leb 1 limit) (leb limit 256) asked.1 in
    (leb-true 1 limit ends.0, leb-true limit 256 ends.1)

-- so does a page of a cursor
pub next_fits : (cursor limit : ℕ) → has_lawful_sizes (NextPairs cursor limit) ≡ true → (1 ≤ limit) × (limit ≤ 256)
next_fits cursor limit lawful =
    let ends = and_parts (leb 1 limit) (leb limit 256) lawful in
    (leb-true 1 limit ends.0, leb-true limit 256 ends.1)

-- a store stands with its cursors whether it is spent or not
pub spent_at : (v : DiskView) (s : Held) (x : Contents) (rows : List Cursor) (b : Bool) → StandsAt v (record s { spent = b }) x rows → StandsAt v s x rows
spent_at v s x rows b at = record {
  stands = record {
    stands = at.stands.stands;
    held = at.stands.held;
    cached = at.stands.cached;
    filtered = at.stands.filtered;
    open_over = open_as at.stands.stands.content (record s { spent = b }) s x (length s.log.list) s.promoting refl refl at.stands.open_over;
  };
  rows_are = at.rows_are;
  going = at.going;
}

-- no command caches a block of an array that is yet to come
pub old_after : (before now : DiskView) (request : Request) (told : Reply) {s new : Held} {carried : Bool} → IsConsistent s → AreOfOldArrays s.chained.manifest.next_array s.cached
    → IsUntouched before now request s told new → LeavesPublished before now s carried told new → AreOfOldArrays new.chained.manifest.next_array new.cached
old_after before now request told {s = s} {new = new} whole old same leaves = by (change_wanted request) refl
  where
    later : s.chained.manifest.next_array ≤ new.chained.manifest.next_array
    later = next_later s new leaves.either

    by : (o : Option Change) → change_wanted request ≡ o → AreOfOldArrays new.chained.manifest.next_array new.cached
    by None none k x there =
        let looks = same.looks none in
        elim (looks.cached k x there) [
          | inl before_it ↦ omega (arith, old k x before_it, later)
          | inr got ↦ omega (arith, got.2.mine, whole.kept.below got.0 got.1, later)
        ]
    by (Some c) wanted k x there =
        let here = subst (λ (d : Blocks). Contains d.entries (k, x)) (same.cached c wanted) there in
        omega (arith, old k x here, later)

-- what is told is the same whether a store is spent or not
pub spent_tells : (f : Image) (s : Held) (b : Bool) (r : Request) (answer : Answer) → TellsFrom f s r answer → TellsFrom f (record s { spent = b }) r answer
spent_tells f s b (Get v key) answer tells = (tells.0, λ is. let told = tells.1 is in (told.0, λ reads. told.1 (record { ordered = reads.ordered; cached = reads.cached })))
spent_tells f s b (Scan v lo hi limit) answer tells = (tells.0, λ is. let told = tells.1 is in (told.0, λ reads. told.1 (record { ordered = reads.ordered; cached = reads.cached })))
spent_tells f s b (Info v) answer tells = tells
spent_tells f s b (OpenCursor v lo hi) answer tells = tells
spent_tells f s b (NextPairs n limit) answer tells = tells
spent_tells f s b (CloseCursor n) answer tells = tells
spent_tells f s b Stat answer tells = tells
spent_tells f s b (Put v key value) answer tells = tt
spent_tells f s b (Delete v key) answer tells = tt
spent_tells f s b (Clone v) answer tells = tt
spent_tells f s b (DropVersion v) answer tells = tt

pub spent_reads : (s : Held) (b : Bool) (r : Request) (before now : ℕ) → ReadsForLook s r before now → ReadsForLook (record s { spent = b }) r before now
spent_reads s b (Get v key) before now reads = reads
spent_reads s b (Scan v lo hi limit) before now reads = reads
spent_reads s b (Info v) before now reads = reads
spent_reads s b (OpenCursor v lo hi) before now reads = reads
spent_reads s b (NextPairs n limit) before now reads = reads
spent_reads s b (CloseCursor n) before now reads = reads
spent_reads s b Stat before now reads = reads
spent_reads s b (Put v key value) before now reads = reads
spent_reads s b (Delete v key) before now reads = reads
spent_reads s b (Clone v) before now reads = reads
spent_reads s b (DropVersion v) before now reads = reads
