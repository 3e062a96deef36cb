-- What a store says of a key: level 0 and its levels answer as its table.
use Rattle.std.proofs.Common.{◌≡◌, ◌+◌, ℕ, Bool, true, false, eqb, inl, inr, List, [], ◌∷◌, ◌++◌, length, if◌then◌else◌, Contains, flat_map, Option, Some, None, Result, Ok, Err, IfOk, IfSome, OnErr, IsErrOf, refl, sym, ap, ◌∙◌, subst, true≢false}
use Rattle.std.proofs.lemmas.Bool.{eqb-true}
use Rattle.std.proofs.lemmas.List.Elements.{Contains-append_left}
use Rattle.std.specs.Option.{option_and_then, option_map}
use Rattle.strat_array.specs.Kept.{Blocks}
use Rattle.strat_array.specs.Told.{TheirPairs, TellsFound, AddsPair}
use Rattle.strat_array.specs.declared.seen.Seen.{Seen}
use Rattle.strat_array.specs.declared.seen.Seen.TheVariants as seen
use Rattle.strat_base.proofs.ListFacts.{Among, any_among, among_in_flat}
use Rattle.strat_base.specs.Entries.{Entry}
use Rattle.strat_base.specs.Tree.{Parents}
use Rattle.strat_base.specs.declared.descriptors.ArrayDesc.{ArrayDesc}
use Rattle.strat_base.specs.declared.descriptors.LevelDesc.{LevelDesc}
use Rattle.strat_base.specs.declared.failures.Fault.{Fault}
use Rattle.strat_base.specs.declared.failures.Fault.TheVariants as fault
use Rattle.def_crash.specs.Image.{Image}
use Rattle.def_crash.specs.Moments.{DiskView}
use Rattle.def_bytes.specs.Arrays.{blocks_of, block_on, entries_on}
use Rattle.strat_model.specs.Answer.{Answer, as_told, accepts}
use Rattle.strat_model.specs.Pairs.{value_of}
use Rattle.strat_model.specs.Request.{Get}
use Rattle.strat_model.specs.Step.{Outcome, step, found, refuses, replies_with, has_row, pairs_at}
use Rattle.strat_model.specs.declared.replies.Refusal.TheVariants as why
use Rattle.strat_model.specs.declared.replies.Reply.{Reply}
use Rattle.strat_model.specs.declared.replies.Reply.TheVariants as reply
use Rattle.strat_promote.specs.Job.{blocks_listed}
use Rattle.def_recovery.proofs.HeadLemmas.{state_with}
use Rattle.def_recovery.proofs.OpeningLemmas.{map_some, next_some}
use Rattle.def_recovery.specs.Asked.{asked}
use Rattle.def_recovery.specs.Head.{descriptors}
use Rattle.def_recovery.specs.Opening.{state_of}
use Rattle.def_meaning.specs.StateTable.{table_of}
use Rattle.def_publish.proofs.FreeLemmas.{read_stands}
use Rattle.def_publish.proofs.ListLemmas.{among_contained, contained_among}
use Rattle.def_publish.specs.Contents.{Contents, contents_state}
use Rattle.def_publish.specs.Standing.{LeavesContent, ContentsStand}
use Rattle.def_state.specs.Level.{Level}
use Rattle.def_state.specs.LookUp.{looked_up}
use Rattle.def_state.specs.State.{State, is_living}
use Rattle.strat_publish.proofs.LookLawLemmas.{in_order}
use Rattle.strat_memory.proofs.MemoryLawLemmas.{key_asked, key_unknown, known_of, living_of}
use Rattle.strat_store.proofs.FilteringLemmas.{AreSilent, are_silent, filtered_agrees}
use Rattle.strat_store.specs.Applying.{is_fault, IsLookedUp}
use Rattle.strat_store.specs.Filtering.{AreNumberedByPlace, asked_filtered, on_disk_filtered}
use Rattle.strat_publish.specs.Outcomes.{IsDamagedIn}
use Rattle.strat_store.specs.Getting.{reply_of_get}
use Rattle.strat_memory.specs.Filters.{LevelFilters}
use Rattle.strat_memory.specs.Held.{Held, IsConsistent, IsOpenAt, StandsWith, arrays_held, contents_held, head_held}
use Rattle.strat_cursor.specs.Looking.{levels_there, arrays_asked, arrays_there, AreInOrder, AreCachedFrom, LooksThrough, NamesNoBlock, HaveOwnIds}
use Rattle.strat_memory.specs.Memory.{Memory, lists_in_memory, has_version}
use Rattle.strat_cursor.proofs.HoldingLemmas.{asked_cached, asked_ordered}
use Rattle.strat_cursor.proofs.ThroughLemmas.{still_cached}
use Rattle.strat_publish.proofs.WholeLemmas.{whole_read}
use Rattle.strat_store.proofs.GoingLemmas.{open_as}

-- what is told of what was found is the answer
answer_of : (e : Option Entry) (key : List ℕ) (out : TheirPairs) (told : Seen) → TellsFound e key [] out told → as_told (reply_of_get (Ok told)) out ≡ found key (option_and_then (λ x. x.value) e)
answer_of e key out seen.Put tells =
    ap (as_told reply.Found) tells.4
    ∙ ap (found key) (sym (ap (λ (o : Option Entry). option_and_then (λ x. x.value) o) tells.2 ∙ tells.3))
answer_of e key out seen.Gone tells =
    ap (as_told reply.Absent) tells.3
    ∙ ap (found key) (sym (ap (λ (o : Option Entry). option_and_then (λ x. x.value) o) tells.1 ∙ tells.2))
answer_of e key out seen.None tells =
    ap (as_told reply.Absent) tells.1
    ∙ ap (found key) (sym (ap (λ (o : Option Entry). option_and_then (λ x. x.value) o) tells.0))

-- what a look-up through level 0 and levels says of what it found
abbrev pub FindsIt : Option Image → List LevelFilters → Parents → List (List Entry) → List (Option LevelDesc) → ℕ → List ℕ → Blocks → TheirPairs → Seen → Type 0
FindsIt content filters parents zeros levels n key c out told =
    (f : Image) (next : ℕ) → content ≡ Some f → AreInOrder f (arrays_asked parents levels n) → HaveOwnIds (arrays_there levels) → AreNumberedByPlace levels → AreCachedFrom f next (arrays_asked parents levels n) c
    → TellsFound (looked_up (on_disk_filtered f filters) parents zeros (levels_there levels) n key) key [] out told

-- unless a fault ended the look-up it is so
pub answer_told : (content : Option Image) (filters : List LevelFilters) (parents : Parents) (zeros : List (List Entry)) (levels : List (Option LevelDesc)) (n : ℕ) (key : List ℕ) (c : Blocks) (out : TheirPairs) (r : Result Seen Fault)
    → IfOk r (FindsIt content filters parents zeros levels n key c out) → is_fault (reply_of_get r) ≡ false
    → (f : Image) (next : ℕ) → content ≡ Some f → AreInOrder f (arrays_asked parents levels n) → HaveOwnIds (arrays_there levels) → AreNumberedByPlace levels → AreCachedFrom f next (arrays_asked parents levels n) c
    → as_told (reply_of_get r) out ≡ found key (asked_filtered f filters parents zeros (levels_there levels) n key)
answer_told content filters parents zeros levels n key c out (Ok told) tells none f next exposed ordered own numbered cached =
    answer_of (looked_up (on_disk_filtered f filters) parents zeros (levels_there levels) n key) key out told (tells f next exposed ordered own numbered cached)
answer_told content filters parents zeros levels n key c out (Err fault.Device) tells none f next exposed ordered own numbered cached = absurd (true≢false none)
answer_told content filters parents zeros levels n key c out (Err (fault.Damaged block)) tells none f next exposed ordered own numbered cached = absurd (true≢false none)

-- beside what is told of a key stands its pair where it was found, and else none
pub key_pairs : (told : Reply) (r : Result Seen Fault) (mid out : TheirPairs) → told ≡ reply_of_get r → mid ≡ [] → IfOk r (λ seen. AddsPair mid out seen) → OnErr r (out ≡ mid)
    → (told ≡ reply.Found → length out ≡ 1) × ((told ≡ reply.Found → ⊥) → out ≡ [])
key_pairs told (Ok seen.Put) mid out is none adds same = (λ _. adds ∙ ap (λ (ps : TheirPairs). length ps + 1) none, λ other. absurd (other is))
key_pairs told (Ok seen.Gone) mid out is none adds same = (λ found. absurd (let e : reply.Absent ≡ reply.Found = sym is ∙ found in cc), λ _. adds ∙ none)
key_pairs told (Ok seen.None) mid out is none adds same = (λ found. absurd (let e : reply.Absent ≡ reply.Found = sym is ∙ found in cc), λ _. adds ∙ none)
key_pairs told (Err fault.Device) mid out is none adds same = (λ found. absurd (let e : reply.Refused why.DeviceFault ≡ reply.Found = sym is ∙ found in cc), λ _. same ∙ none)
key_pairs told (Err (fault.Damaged block)) mid out is none adds same = (λ found. absurd (let e : reply.Refused (why.Damaged block) ≡ reply.Found = sym is ∙ found in cc), λ _. same ∙ none)

-- a block of some of the arrays that are held, which is none, is damaged
pub blamed : (content : Option Image) (m : Memory) (levels : List (Option LevelDesc)) (arrays : List ArrayDesc) (b : ℕ) → ((a : ArrayDesc) → Contains arrays a → Contains (arrays_held m levels) a)
    → NamesNoBlock content arrays b → IsDamagedIn content m levels b
blamed content m levels arrays b there is =
    let at = any_among (λ other. eqb other b) (blocks_of is.array.extents) is.none.0 in
    let here : at.0 ≡ b = eqb-true at.0 b at.2 in
    let all = arrays_held m levels in
    record {
      listed = among_contained (blocks_listed all) b
          (among_in_flat (λ (a : ArrayDesc). blocks_of a.extents) all is.array b (contained_among all is.array (there is.array is.one)) (subst (λ (n : ℕ). Among n (blocks_of is.array.extents)) here at.1));
      bad = λ f exposed. inl (is.none.1 f exposed);
    }

-- a block that is told of is one of the arrays'
pub damaged_told : (content : Option Image) (m : Memory) (levels : List (Option LevelDesc)) (r : Result Seen Fault) (b : ℕ) → ((block : ℕ) → IsErrOf r (fault.Damaged block) → NamesNoBlock content (arrays_there levels) block)
    → reply_of_get r ≡ reply.Refused (why.Damaged b) → IsDamagedIn content m levels b
damaged_told content m levels (Ok seen.Put) b names told = absurd (cc)
damaged_told content m levels (Ok seen.Gone) b names told = absurd (cc)
damaged_told content m levels (Ok seen.None) b names told = absurd (cc)
damaged_told content m levels (Err fault.Device) b names told = absurd (cc)
damaged_told content m levels (Err (fault.Damaged block)) b names told =
    let same : block ≡ b = cc in
    blamed content m levels (arrays_there levels) b (λ a of. Contains-append_left (arrays_there levels) m.cursors.retired a of) (subst (λ (n : ℕ). NamesNoBlock content (arrays_there levels) n) same (names block refl))

-- which has no entries
pub none_told : (content : Option Image) (arrays : List ArrayDesc) (r : Result Seen Fault) (b : ℕ) → ((block : ℕ) → IsErrOf r (fault.Damaged block) → NamesNoBlock content arrays block)
    → reply_of_get r ≡ reply.Refused (why.Damaged b) → (f : Image) → content ≡ Some f → block_on f b ≡ None
none_told content arrays (Ok seen.Put) b names told = absurd (cc)
none_told content arrays (Ok seen.Gone) b names told = absurd (cc)
none_told content arrays (Ok seen.None) b names told = absurd (cc)
none_told content arrays (Err fault.Device) b names told = absurd (cc)
none_told content arrays (Err (fault.Damaged block)) b names told =
    let same : block ≡ b = cc in
    let is = subst (λ (n : ℕ). NamesNoBlock content arrays n) same (names block refl) in
    is.none.1

-- where blocks have entries each of them is a block
block_read : (f : Image) (blocks : List ℕ) (entries : List Entry) (b : ℕ) → entries_on f blocks ≡ Some entries → Among b blocks → (es : List Entry) × (block_on f b ≡ Some es)
unfolding entries_on
block_read f [] entries b read there = absurd there
block_read f (c ∷ blocks) entries b read (inl here) =
    let first = next_some (λ es. option_map (λ rest. es ++ rest) (entries_on f blocks)) (block_on f c) entries read in
    (first.0, ap (block_on f) here ∙ first.1)
block_read f (c ∷ blocks) entries b read (inr there) =
    let first = next_some (λ es. option_map (λ rest. es ++ rest) (entries_on f blocks)) (block_on f c) entries read in
    let rest = map_some (λ rest. first.0 ++ rest) (entries_on f blocks) entries first.2 in
    block_read f blocks rest.0 b rest.1 there

-- so no block of arrays in order is damaged
pub none_damaged : (content : Option Image) (f : Image) (arrays : List ArrayDesc) (b : ℕ) → content ≡ Some f → AreInOrder f arrays → NamesNoBlock content arrays b → ⊥
none_damaged content f arrays b exposed ordered is =
    let entries = ordered.each is.array is.one in
    let at = any_among (λ other. eqb other b) (blocks_of is.array.extents) is.none.0 in
    let here : at.0 ≡ b = eqb-true at.0 b at.2 in
    let read = block_read f (blocks_of is.array.extents) entries.0 b entries.1 (subst (λ (n : ℕ). Among n (blocks_of is.array.extents)) here at.1) in
    let none : None ≡ Some read.0 = sym (is.none.1 f exposed) ∙ read.1 in
    absurd (cc)

-- a whole store stands with the contents that it holds
module _ (v : DiskView) (s : Held) (levels : List Level) (whole : IsConsistent s) (w : StandsWith v s (contents_held s levels)) where
  abbrev pub y : Contents
  y = contents_held s levels

  abbrev pub it : State
  it = contents_state y

  -- their state is that of the disk's content
  read : state_of w.stands.content (head_held s) ≡ Some it
  read = ap (option_map (state_with (head_held s))) (w.stands.reads w.stands.content w.stands.left).lies.arrays

  listed : arrays_there s.levels ≡ descriptors s.chained.manifest
  listed = ap (flat_map (λ (l : LevelDesc). l.arrays)) whole.placed.listed_are

  pub ordered : AreInOrder w.stands.content (arrays_there s.levels)
  ordered = subst (AreInOrder w.stands.content) (sym listed) (in_order w.stands.content (head_held s) it read w.stands.sound)

  pub cached : AreCachedFrom w.stands.content s.chained.manifest.next_array (arrays_there s.levels) s.cached
  cached = subst (λ (rs : List ArrayDesc). AreCachedFrom w.stands.content s.chained.manifest.next_array rs s.cached) (sym listed) w.cached

  -- a version is known where the table has it
  pub known : (n : ℕ) → has_version s.memory n ≡ has_row (table_of it) n
  known = known_of w.stands.content (head_held s) it s.memory read whole.memory

  -- and lives
  pub living : (n : ℕ) → has_version s.memory n ≡ true → is_living it n ≡ true
  living = living_of w.stands.content (head_held s) it s.memory read whole.memory

  stepped : (n : ℕ) (key : List ℕ) → has_version s.memory n ≡ true → (step (table_of it) (Get n key)).answer ≡ found key (value_of (pairs_at (table_of it) n) key)
  stepped n key is =
      ap (λ (b : Bool). (if b then replies_with (table_of it) (found key (value_of (pairs_at (table_of it) n) key)) else refuses (table_of it) why.UnknownVersion).answer) (sym (known n) ∙ is)

  -- what is looked up is what the table has
  pub asked_is : (n : ℕ) (key : List ℕ) → has_version s.memory n ≡ true
      → asked w.stands.content s.memory.parents (lists_in_memory s.memory) (levels_there s.levels) n key ≡ value_of (pairs_at (table_of it) n) key
  asked_is n key is =
      ap (λ (ds : List LevelDesc). asked w.stands.content s.memory.parents (lists_in_memory s.memory) ds n key) whole.placed.listed_are
      ∙ key_asked w.stands.content (head_held s) it s.memory read whole.memory w.stands.sound n key is

  -- also where filters are asked, which are of the keys of its arrays
  pub filtered_is : (n : ℕ) (key : List ℕ) → has_version s.memory n ≡ true
      → asked_filtered w.stands.content s.filters s.memory.parents (lists_in_memory s.memory) (levels_there s.levels) n key ≡ value_of (pairs_at (table_of it) n) key
  filtered_is n key is =
      let lies = (w.stands.reads w.stands.content w.stands.left).lies.arrays in
      let silent = subst (λ (ds : List LevelDesc). AreSilent w.stands.content s.filters s.memory.parents n key ds) (sym whole.placed.listed_are)
      (are_silent w.stands.content s.filters s.memory.parents n key s.chained.manifest.levels levels lies w.filtered) in
      ap (λ (o : Option Entry). option_and_then (λ x. x.value) o) (filtered_agrees w.stands.content s.filters s.memory.parents n key (lists_in_memory s.memory) (levels_there s.levels) silent)
      ∙ asked_is n key is

  accepted : (n : ℕ) (key : List ℕ) → has_version s.memory n ≡ true → accepts (step (table_of it) (Get n key)).answer.reply ≡ true
  accepted n key is = ap (λ (a : Answer). accepts a.reply) (stepped n key is) ∙ each (value_of (pairs_at (table_of it) n) key)
    where
      each : (o : Option (List ℕ)) → accepts (found key o).reply ≡ true
      each None = refl
      each (Some value) = refl

  module _ (now : DiskView) (d : Blocks) (looks : LooksThrough v now (arrays_there s.levels) s.cached d) (leaves : LeavesContent now) where
    later : ContentsStand now y
    later = read_stands y v now looks.disk w.stands leaves

    -- the store stands as it did
    pub stays : StandsWith now (record s { cached = d }) y
    stays =
        let may = whole_read s whole in
        let some : Some w.stands.content ≡ Some later.content = sym w.stands.exposed ∙ sym looks.disk.same ∙ later.exposed in
        let same : w.stands.content ≡ later.content = cc in
        let kept = still_cached v now w.stands.content s.chained.manifest.next_array (arrays_there s.levels) s.cached d looks w.stands.exposed may.few may.own cached in
        record {
          stands = later;
          held = refl;
          cached = subst (λ (f : Image). AreCachedFrom f s.chained.manifest.next_array (descriptors s.chained.manifest) d) same
              (subst (λ (rs : List ArrayDesc). AreCachedFrom w.stands.content s.chained.manifest.next_array rs d) listed kept);
          filtered = w.filtered;
          open_over = subst (λ (f : Image). IfSome s.promoting (IsOpenAt f (record s { cached = d }) y (length s.log.list))) same
              (open_as w.stands.content s (record s { cached = d }) y (length s.log.list) s.promoting refl refl w.open_over);
        }

    not_there : (n : ℕ) (key : List ℕ) → has_version s.memory n ≡ false → IsLookedUp now (record s { cached = d }) y (Get n key) (as_told (reply.Refused why.UnknownVersion) [])
    not_there n key off = inl (sym (ap (λ (o : Outcome). o.answer) (key_unknown w.stands.content (head_held s) it s.memory read whole.memory n key off)), stays)

    there : (n : ℕ) (key : List ℕ) (out : TheirPairs) (r : Result Seen Fault) → has_version s.memory n ≡ true → IfOk r (FindsIt v.content s.filters s.memory.parents (lists_in_memory s.memory) s.levels n key s.cached out)
        → OnErr r (out ≡ []) → ((b : ℕ) → IsErrOf r (fault.Damaged b) → NamesNoBlock v.content (arrays_there s.levels) b)
        → IsLookedUp now (record s { cached = d }) y (Get n key) (as_told (reply_of_get r) out)
    there n key out (Ok told) is tells none names =
        let may = whole_read s whole in
        inl (
          answer_of (looked_up (on_disk_filtered w.stands.content s.filters) s.memory.parents (lists_in_memory s.memory) (levels_there s.levels) n key) key out told
              (tells w.stands.content s.chained.manifest.next_array w.stands.exposed (asked_ordered s.memory.parents s.levels n w.stands.content ordered) may.own whole.placed.numbered (asked_cached s.memory.parents s.levels n w.stands.content s.chained.manifest.next_array s.cached cached))
              ∙ ap (found key) (filtered_is n key is) ∙ sym (stepped n key is),
          stays,
        )
    there n key out (Err fault.Device) is tells none names = inr (ap (as_told (reply.Refused why.DeviceFault)) none, refl, accepted n key is)
    there n key out (Err (fault.Damaged block)) is tells none names = absurd (none_damaged v.content w.stands.content (arrays_there s.levels) block w.stands.exposed ordered (names block refl))

-- whatever contents it stands with
module _ (v now : DiskView) (s : Held) (x : Contents) (d : Blocks) (n : ℕ) (key : List ℕ) (out : TheirPairs) (whole : IsConsistent s) (w : StandsWith v s x)
    (looks : LooksThrough v now (arrays_there s.levels) s.cached d) (leaves : LeavesContent now) where
  pub unknown_looked_up : has_version s.memory n ≡ false → out ≡ [] → IsLookedUp now (record s { cached = d }) x (Get n key) (as_told (reply.Refused why.UnknownVersion) out)
  unknown_looked_up off none =
      subst (λ (z : Contents). IsLookedUp now (record s { cached = d }) z (Get n key) (as_told (reply.Refused why.UnknownVersion) out)) (sym w.held)
      (subst (λ (ps : TheirPairs). IsLookedUp now (record s { cached = d }) (contents_held s x.levels) (Get n key) (as_told (reply.Refused why.UnknownVersion) ps)) (sym none)
      (not_there v s x.levels whole (subst (StandsWith v s) w.held w) now d looks leaves n key off))

  pub known_looked_up : (r : Result Seen Fault) → has_version s.memory n ≡ true → IfOk r (FindsIt v.content s.filters s.memory.parents (lists_in_memory s.memory) s.levels n key s.cached out)
      → OnErr r (out ≡ []) → ((b : ℕ) → IsErrOf r (fault.Damaged b) → NamesNoBlock v.content (arrays_there s.levels) b)
      → IsLookedUp now (record s { cached = d }) x (Get n key) (as_told (reply_of_get r) out)
  known_looked_up r is tells none names =
      subst (λ (z : Contents). IsLookedUp now (record s { cached = d }) z (Get n key) (as_told (reply_of_get r) out)) (sym w.held)
      (there v s x.levels whole (subst (StandsWith v s) w.held w) now d looks leaves n key out r is tells none names)
