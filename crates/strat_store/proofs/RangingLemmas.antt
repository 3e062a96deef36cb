-- What a store says of a range: level 0 and its levels answer as its table.
use Rattle.strat_store.specs.Exporting.{IsReadWhole}
use Rattle.std.proofs.Common.{◌≡◌, ◌≤◌, ◌<◌, ℕ, suc, Bool, true, false, inl, inr, List, [], ◌∷◌, ◌++◌, length, map, if◌then◌else◌, Option, Some, None, Result, Ok, Err, IfOk, OnErr, IsErrOf, refl, sym, ap, ◌∙◌, subst, arith, true≢false}
use Rattle.std.proofs.lemmas.List.Elements.{Contains-append_left}
use Rattle.std.specs.BTreeMap.{insert_entry}
use Rattle.std.specs.List.{filter_map, cons_option, fold}
use Rattle.std.specs.List.Sorted.{IsStrictlySortedBy}
use Rattle.std.specs.Option.{option_and_then, option_map, option_map_or}
use Rattle.strat_array.specs.Kept.{Blocks}
use Rattle.strat_array.specs.Told.{TheirPairs}
use Rattle.strat_base.specs.Entries.{Entry}
use Rattle.strat_base.specs.Order.{key_cmp}
use Rattle.strat_base.specs.Tree.{Parents}
use Rattle.strat_base.specs.declared.descriptors.ArrayDesc.{ArrayDesc}
use Rattle.strat_base.specs.declared.descriptors.LevelDesc.{LevelDesc}
use Rattle.strat_base.specs.declared.failures.Fault.{Fault}
use Rattle.strat_base.specs.declared.failures.Fault.TheVariants as fault
use Rattle.def_crash.specs.Image.{Image}
use Rattle.def_crash.specs.Moments.{DiskView}
use Rattle.strat_cursor.proofs.MapFound.{map_found}
use Rattle.strat_cursor.proofs.HoldingLemmas.{asked_cached, asked_ordered, asked_own, asked_in_all}
use Rattle.strat_cursor.specs.Looking.{levels_there, arrays_asked, arrays_there, AreInOrder, AreCachedFrom, LooksThrough, NamesNoBlock, HaveOwnIds, MayBeFound}
use Rattle.strat_cursor.specs.Ranges.{content_on, seen_in, arrays_picked, FillsPage, IsMapSeen, IsPageOf}
use Rattle.strat_cursor.specs.Views.{arrays_read, zeros_in, IsReadable, TellsPage}
use Rattle.strat_cursor.specs.declared.view.View.{View}
use Rattle.def_bytes.specs.Arrays.{block_on}
use Rattle.strat_level.specs.Levels.{desc_for}
use Rattle.strat_model.proofs.MapLemmas.{set_keeps_map}
use Rattle.strat_model.specs.Answer.{Answer, as_told, accepts}
use Rattle.strat_model.specs.Kept.{IsMap}
use Rattle.strat_model.specs.Pairs.{Pairs, range}
use Rattle.strat_model.specs.Request.{Scan}
use Rattle.strat_model.specs.Step.{step, page, refuses, replies_with, pairs_at}
use Rattle.strat_model.specs.declared.replies.Refusal.TheVariants as why
use Rattle.strat_model.specs.declared.replies.Reply.TheVariants as reply
use Rattle.def_meaning.proofs.StateTableLemmas.{pairs_same}
use Rattle.def_recovery.specs.Asked.{on_disk}
use Rattle.def_meaning.specs.StateTable.{table_of}
use Rattle.def_publish.specs.Contents.{Contents, contents_state}
use Rattle.def_publish.specs.Standing.{LeavesContent}
use Rattle.def_state.specs.Level.{Level}
use Rattle.def_state.specs.LookUp.{looked_up, first_live}
use Rattle.def_state.specs.Maps.{map_over, with_value, value_over}
use Rattle.def_state.specs.State.{State, versions_of, sources}
use Rattle.def_state.proofs.MarkLemmas.{there_known}
use Rattle.strat_store.proofs.GettingLemmas.{blamed, none_damaged, it, ordered, cached, known, asked_is, stays, living}
use Rattle.strat_publish.proofs.WholeLemmas.{whole_read}
use Rattle.strat_store.specs.Applying.{is_fault, IsLookedUp}
use Rattle.strat_publish.specs.Outcomes.{IsDamagedIn}
use Rattle.strat_memory.specs.Held.{Held, IsConsistent, StandsWith, contents_held}
use Rattle.strat_memory.specs.Memory.{Memory, lists_in_memory, has_version}
use Rattle.strat_store.specs.Ranging.{reply_of_scan, HasPairs, IsMapAsked}

-- what is made of what is picked is picked of what is made
map_picked : {X A B : Type 0} (g : A → B) (h : X → Option A) (xs : List X) → map g (filter_map h xs) ≡ filter_map (λ x. option_map g (h x)) xs
map_picked g h [] = refl
map_picked {B = B} g h (x ∷ xs) =
    elim (h x) as (λ o. map g (cons_option o (filter_map h xs)) ≡ cons_option (option_map g o) (filter_map (λ y. option_map g (h y)) xs)) [
      | None ↦ map_picked g h xs
      | Some a ↦ ap (λ (r : List B). g a ∷ r) (map_picked g h xs)
    ]

-- no more are picked than there are
few_picked : {X A : Type 0} (h : X → Option A) (xs : List X) → length (filter_map h xs) ≤ length xs
few_picked h [] = omega arith
few_picked h (x ∷ xs) =
    let rest = few_picked h xs in
    elim (h x) as (λ o. length (cons_option o (filter_map h xs)) ≤ suc (length xs)) [
      | None ↦ omega (arith, rest)
      | Some a ↦ omega (arith, rest)
    ]

-- no more arrays are asked than there are levels
pub few_arrays : (parents : Parents) (levels : List (Option LevelDesc)) (v : ℕ) → length levels ≡ 22 → length (arrays_asked parents levels v) ≤ 22
few_arrays parents levels v count = omega (arith, count, few_picked (λ level. desc_for parents level v) (levels_there levels), few_picked (λ (level : Option LevelDesc). level) levels)

-- what is seen through the arrays that are picked is what is looked up through the levels
seen_is : (f : Image) (parents : Parents) (zeros : List (List Entry)) (levels : List (Option LevelDesc)) (v : ℕ) (key : List ℕ)
    → seen_in f parents zeros (arrays_asked parents levels v) v key ≡ looked_up (on_disk f) parents zeros (levels_there levels) v key
seen_is f parents zeros levels v key =
    ap (λ (lists : List (List Entry)). first_live parents (zeros ++ lists) v key) (map_picked (content_on f) (λ level. desc_for parents level v) (levels_there levels))

pub map_seen : (f : Image) (parents : Parents) (zeros : List (List Entry)) (levels : List (Option LevelDesc)) (v : ℕ) (m : Pairs) → IsMapAsked f parents zeros levels v m → IsMapSeen f parents zeros (arrays_asked parents levels v) v m
map_seen f parents zeros levels v m is = record {
  ordered = is.ordered;
  each = λ key. is.each key ∙ ap (λ (o : Option Entry). option_and_then (λ e. e.value) o) (sym (seen_is f parents zeros levels v key));
}

pub map_asked : (f : Image) (parents : Parents) (zeros : List (List Entry)) (levels : List (Option LevelDesc)) (v : ℕ) → (m : Pairs) × IsMapAsked f parents zeros levels v m
map_asked f parents zeros levels v =
    let seen = map_found f parents zeros (arrays_asked parents levels v) v in (
      seen.0,
      record {
        ordered = seen.1.ordered;
        each = λ key. seen.1.each key ∙ ap (λ (o : Option Entry). option_and_then (λ e. e.value) o) (seen_is f parents zeros levels v key);
      },
    )

-- what a scan through level 0 and levels says
abbrev pub FindsRange : Option Image → Parents → List (List Entry) → List (Option LevelDesc) → ℕ → List ℕ → List ℕ → ℕ → Blocks → TheirPairs → Bool → Type 0
FindsRange content parents zeros levels n lo hi limit c out more =
    (f : Image) (next : ℕ) → content ≡ Some f → AreInOrder f (arrays_asked parents levels n) → HaveOwnIds (arrays_there levels) → AreCachedFrom f next (arrays_asked parents levels n) c
    → (m : Pairs) → IsMapSeen f parents zeros (arrays_asked parents levels n) n m → IsPageOf (range m lo hi) limit out more

-- a scan through a view of level 0 and levels says so
pub finds_range : (content : Option Image) (view : View) (parents : Parents) (zeros : List (List Entry)) (levels : List (Option LevelDesc)) (n : ℕ) (lo hi : List ℕ) (limit : ℕ) (c : Blocks) (out : TheirPairs) (r : Result Bool Fault)
    → view.tree.now.parents ≡ parents → zeros_in view ≡ zeros
    → ((ps : Parents) → arrays_picked ps view.levels n ≡ arrays_asked ps levels n)
    → IfOk r (λ more. (f : Image) (next : ℕ) → content ≡ Some f → IsReadable f next view n c → TellsPage f view n lo hi limit out more)
    → IfOk r (FindsRange content parents zeros levels n lo hi limit c out)
finds_range content view parents zeros levels n lo hi limit c out (Err e) tree same picked tells = tt
finds_range content view parents zeros levels n lo hi limit c out (Ok more) tree same picked tells = λ f next exposed ordered own cached m seen.
    let read : arrays_read view n ≡ arrays_asked parents levels n = picked view.tree.now.parents ∙ ap (λ (ps : Parents). arrays_asked ps levels n) tree in
    tells f next exposed
    (record {
      ordered = subst (λ (rs : List ArrayDesc). AreInOrder f rs) (sym read) ordered;
      ids = subst (λ (rs : List ArrayDesc). HaveOwnIds rs) (sym read) (asked_own parents levels n own);
      cached = subst (λ (rs : List ArrayDesc). AreCachedFrom f next rs c) (sym read) cached;
    })
    m
    (subst (λ (rs : List ArrayDesc). IsMapSeen f view.tree.now.parents (zeros_in view) rs n m) (sym (picked view.tree.now.parents))
    (subst (λ (ls : List (List Entry)). IsMapSeen f view.tree.now.parents ls (arrays_asked view.tree.now.parents levels n) n m) (sym same)
    (subst (λ (ps : Parents). IsMapSeen f ps zeros (arrays_asked ps levels n) n m) (sym tree) seen)))

-- a page that is told is the answer
pub page_told : (pairs : Pairs) (limit : ℕ) (out : TheirPairs) (more : Bool) → IsPageOf pairs limit out more → as_told (reply_of_scan (Ok more)) out ≡ page pairs limit
page_told pairs limit out more is = λ j. record { reply = reply.Pairs (is.more_is j); pairs = is.pairs_are j }

-- unless a fault ended the scan it is so
pub range_told : (content : Option Image) (parents : Parents) (zeros : List (List Entry)) (levels : List (Option LevelDesc)) (n : ℕ) (lo hi : List ℕ) (limit : ℕ) (c : Blocks) (out : TheirPairs) (r : Result Bool Fault)
    → IfOk r (FindsRange content parents zeros levels n lo hi limit c out) → is_fault (reply_of_scan r) ≡ false
    → (f : Image) (next : ℕ) (m : Pairs) → content ≡ Some f → AreInOrder f (arrays_asked parents levels n) → HaveOwnIds (arrays_there levels) → AreCachedFrom f next (arrays_asked parents levels n) c
    → IsMapAsked f parents zeros levels n m → as_told (reply_of_scan r) out ≡ page (range m lo hi) limit
range_told content parents zeros levels n lo hi limit c out (Ok more) tells none f next m exposed ordered own cached is =
    page_told (range m lo hi) limit out more (tells f next exposed ordered own cached m (map_seen f parents zeros levels n m is))
range_told content parents zeros levels n lo hi limit c out (Err fault.Device) tells none f next m exposed inorder own kept is = absurd (true≢false none)
range_told content parents zeros levels n lo hi limit c out (Err (fault.Damaged block)) tells none f next m exposed inorder own kept is = absurd (true≢false none)

-- a block that is told of is one of the arrays'
pub damaged_range : (content : Option Image) (m : Memory) (levels : List (Option LevelDesc)) (r : Result Bool Fault) (b : ℕ) → ((block : ℕ) → IsErrOf r (fault.Damaged block) → NamesNoBlock content (arrays_there levels) block)
    → reply_of_scan r ≡ reply.Refused (why.Damaged b) → IsDamagedIn content m levels b
damaged_range content m levels (Ok more) b names told = absurd (cc)
damaged_range content m levels (Err fault.Device) b names told = absurd (cc)
damaged_range content m levels (Err (fault.Damaged block)) b names told =
    let same : block ≡ b = cc in
    blamed content m levels (arrays_there levels) b (λ a of. Contains-append_left (arrays_there levels) m.cursors.retired a of) (subst (λ (n : ℕ). NamesNoBlock content (arrays_there levels) n) same (names block refl))

-- which has no entries
pub none_in_range : (content : Option Image) (arrays : List ArrayDesc) (r : Result Bool Fault) (b : ℕ) → ((block : ℕ) → IsErrOf r (fault.Damaged block) → NamesNoBlock content arrays block)
    → reply_of_scan r ≡ reply.Refused (why.Damaged b) → (f : Image) → content ≡ Some f → block_on f b ≡ None
none_in_range content arrays (Ok more) b names told = absurd (cc)
none_in_range content arrays (Err fault.Device) b names told = absurd (cc)
none_in_range content arrays (Err (fault.Damaged block)) b names told =
    let same : block ≡ b = cc in
    let is = subst (λ (n : ℕ). NamesNoBlock content arrays n) same (names block refl) in
    is.none.1

-- the map of a version is one

module _ (parents : Parents) (entries : List Entry) (v : ℕ) where
  value_keeps : (o : Option (List ℕ)) (key : List ℕ) (pairs : Pairs) → IsMap pairs → IsMap (option_map_or (λ value. insert_entry key_cmp pairs key value) o pairs)
  value_keeps None key pairs is = is
  value_keeps (Some value) key pairs is = set_keeps_map key value pairs is

  fold_keeps : (start : Pairs) → IsMap start → (others : List Entry) → IsMap (fold (λ pairs e. with_value parents entries v pairs e.key) start others)
  fold_keeps start is [] = is
  fold_keeps start is (e ∷ others) = fold_keeps (with_value parents entries v start e.key) (value_keeps (value_over parents entries v e.key) e.key start is) others

  map_is : IsMap (map_over parents entries v)
  unfolding IsStrictlySortedBy
  map_is = fold_keeps [] tt entries

-- a whole store stands with the contents that it holds
module _ (v : DiskView) (s : Held) (levels : List Level) (whole : IsConsistent s) (w : StandsWith v s (contents_held s levels)) where
  abbrev state : State
  state = it v s levels whole w

  abbrev table_pairs : ℕ → Pairs
  table_pairs n = pairs_at (table_of state) n

  stepped : (n : ℕ) (lo hi : List ℕ) (limit : ℕ) → has_version s.memory n ≡ true → (step (table_of state) (Scan n lo hi limit)).answer ≡ page (range (table_pairs n) lo hi) limit
  stepped n lo hi limit is =
      ap (λ (b : Bool). (if b then replies_with (table_of state) (page (range (table_pairs n) lo hi) limit) else refuses (table_of state) why.UnknownVersion).answer)
      (sym (known v s levels whole w n) ∙ is)

  unknown : (n : ℕ) (lo hi : List ℕ) (limit : ℕ) → has_version s.memory n ≡ false → (step (table_of state) (Scan n lo hi limit)).answer ≡ as_told (reply.Refused why.UnknownVersion) []
  unknown n lo hi limit off =
      ap (λ (b : Bool). (if b then replies_with (table_of state) (page (range (table_pairs n) lo hi) limit) else refuses (table_of state) why.UnknownVersion).answer)
      (sym (known v s levels whole w n) ∙ off)

  -- its map is what is asked
  pub table_asked : (n : ℕ) → has_version s.memory n ≡ true → IsMapAsked w.stands.content s.memory.parents (lists_in_memory s.memory) s.levels n (table_pairs n)
  table_asked n is =
      let here : n < length (versions_of state) = subst (λ (ps : Parents). n < length ps) whole.memory.parents (there_known s.memory.parents s.memory.marks n is) in
      record {
        ordered = subst IsMap (sym (pairs_same state n here ∙ ap (λ (b : Bool). if b then map_over (versions_of state) (sources state) n else []) (living v s levels whole w n is))) (map_is (versions_of state) (sources state) n);
        each = λ key. sym (asked_is v s levels whole w n key is);
      }

  module _ (now : DiskView) (d : Blocks) (looks : LooksThrough v now (arrays_there s.levels) s.cached d) (leaves : LeavesContent now) where
    not_there : (n : ℕ) (lo hi : List ℕ) (limit : ℕ) → has_version s.memory n ≡ false
        → IsLookedUp now (record s { cached = d }) (contents_held s levels) (Scan n lo hi limit) (as_told (reply.Refused why.UnknownVersion) [])
    not_there n lo hi limit off = inl (sym (unknown n lo hi limit off), stays v s levels whole w now d looks leaves)

    there : (n : ℕ) (lo hi : List ℕ) (limit : ℕ) (out : TheirPairs) (r : Result Bool Fault) → has_version s.memory n ≡ true
        → IfOk r (FindsRange v.content s.memory.parents (lists_in_memory s.memory) s.levels n lo hi limit s.cached out) → OnErr r (out ≡ [])
        → ((b : ℕ) → IsErrOf r (fault.Damaged b) → NamesNoBlock v.content (arrays_there s.levels) b)
        → IsLookedUp now (record s { cached = d }) (contents_held s levels) (Scan n lo hi limit) (as_told (reply_of_scan r) out)
    there n lo hi limit out (Ok more) is tells none names =
        let may = whole_read s whole in
        let told : IsPageOf (range (table_pairs n) lo hi) limit out more =
        tells w.stands.content s.chained.manifest.next_array w.stands.exposed (asked_ordered s.memory.parents s.levels n w.stands.content (ordered v s levels whole w)) may.own
        (asked_cached s.memory.parents s.levels n w.stands.content s.chained.manifest.next_array s.cached (cached v s levels whole w)) (table_pairs n)
        (map_seen w.stands.content s.memory.parents (lists_in_memory s.memory) s.levels n (table_pairs n) (table_asked n is)) in
        inl (page_told (range (table_pairs n) lo hi) limit out more told ∙ sym (stepped n lo hi limit is), stays v s levels whole w now d looks leaves)
    there n lo hi limit out (Err fault.Device) is tells none names =
        inr (ap (as_told (reply.Refused why.DeviceFault)) none, refl, ap (λ (a : Answer). accepts a.reply) (stepped n lo hi limit is))
    there n lo hi limit out (Err (fault.Damaged block)) is tells none names =
        absurd (none_damaged v.content w.stands.content (arrays_there s.levels) block w.stands.exposed (ordered v s levels whole w) (names block refl))

-- whatever contents it stands with
module _ (v now : DiskView) (s : Held) (x : Contents) (d : Blocks) (n : ℕ) (lo hi : List ℕ) (limit : ℕ) (out : TheirPairs) (whole : IsConsistent s) (w : StandsWith v s x)
    (looks : LooksThrough v now (arrays_there s.levels) s.cached d) (leaves : LeavesContent now) where
  pub unknown_range : has_version s.memory n ≡ false → out ≡ [] → IsLookedUp now (record s { cached = d }) x (Scan n lo hi limit) (as_told (reply.Refused why.UnknownVersion) out)
  unknown_range off none =
      subst (λ (z : Contents). IsLookedUp now (record s { cached = d }) z (Scan n lo hi limit) (as_told (reply.Refused why.UnknownVersion) out)) (sym w.held)
      (subst (λ (ps : TheirPairs). IsLookedUp now (record s { cached = d }) (contents_held s x.levels) (Scan n lo hi limit) (as_told (reply.Refused why.UnknownVersion) ps)) (sym none)
      (not_there v s x.levels whole (subst (StandsWith v s) w.held w) now d looks leaves n lo hi limit off))

  pub known_range : (r : Result Bool Fault) → has_version s.memory n ≡ true → IfOk r (FindsRange v.content s.memory.parents (lists_in_memory s.memory) s.levels n lo hi limit s.cached out)
      → OnErr r (out ≡ []) → ((b : ℕ) → IsErrOf r (fault.Damaged b) → NamesNoBlock v.content (arrays_there s.levels) b)
      → IsLookedUp now (record s { cached = d }) x (Scan n lo hi limit) (as_told (reply_of_scan r) out)
  known_range r is tells none names =
      subst (λ (z : Contents). IsLookedUp now (record s { cached = d }) z (Scan n lo hi limit) (as_told (reply_of_scan r) out)) (sym w.held)
      (there v s x.levels whole (subst (StandsWith v s) w.held w) now d looks leaves n lo hi limit out r is tells none names)

-- a scan has the pairs that were told, and none where it failed
pub pairs_scanned : (r : Result Bool Fault) (out : TheirPairs) (limit : ℕ) → IfOk r (λ more. FillsPage limit (length out) more) → OnErr r (out ≡ []) → HasPairs limit (reply_of_scan r) out
pairs_scanned (Ok more) out limit fills none = fills
pairs_scanned (Err fault.Device) out limit fills none = none
pairs_scanned (Err (fault.Damaged b)) out limit fills none = none

-- a version that is read whole

one_image : (o : Option Image) (f g : Image) → o ≡ Some f → o ≡ Some g → f ≡ g
one_image o f g left right = let both : Some f ≡ Some g = sym left ∙ right in cc

held_read : (v : DiskView) (s : Held) (levels : List Level) (f : Image) (n : ℕ) → IsConsistent s → StandsWith v s (contents_held s levels) → v.content ≡ Some f → has_version s.memory n ≡ true
    → IsReadWhole f s n (pairs_at (table_of (contents_state (contents_held s levels))) n)
held_read v s levels f n whole w exposed is =
    let m = pairs_at (table_of (contents_state (contents_held s levels))) n in
    let g = w.stands.content in
    subst (λ (c : Image). IsReadWhole c s n m) (one_image v.content g f w.stands.exposed exposed)
    (record {
      ordered = asked_ordered s.memory.parents s.levels n g (ordered v s levels whole w);
      ids = asked_own s.memory.parents s.levels n (whole_read s whole).own;
      seen = map_seen g s.memory.parents (lists_in_memory s.memory) s.levels n m (table_asked v s levels whole w n is);
    })

pub read_whole : (v : DiskView) (s : Held) (x : Contents) (f : Image) (n : ℕ) → IsConsistent s → StandsWith v s x → v.content ≡ Some f → has_version s.memory n ≡ true
    → IsReadWhole f s n (pairs_at (table_of (contents_state x)) n)
read_whole v s x f n whole w exposed is =
    subst (λ (z : Contents). IsReadWhole f s n (pairs_at (table_of (contents_state z)) n)) (sym w.held) (held_read v s x.levels f n whole (subst (StandsWith v s) w.held w) exposed is)

held_sound : (v : DiskView) (s : Held) (levels : List Level) (f : Image) (n b : ℕ) → IsConsistent s → StandsWith v s (contents_held s levels) → v.content ≡ Some f → NamesNoBlock v.content (arrays_asked s.memory.parents s.levels n) b → ⊥
held_sound v s levels f n b whole w exposed names =
    none_damaged v.content w.stands.content (arrays_asked s.memory.parents s.levels n) b w.stands.exposed (asked_ordered s.memory.parents s.levels n w.stands.content (ordered v s levels whole w)) names

pub read_sound : (v : DiskView) (s : Held) (x : Contents) (f : Image) (n b : ℕ) → IsConsistent s → StandsWith v s x → v.content ≡ Some f → NamesNoBlock v.content (arrays_asked s.memory.parents s.levels n) b → ⊥
read_sound v s x f n b whole w exposed names = held_sound v s x.levels f n b whole (subst (StandsWith v s) w.held w) exposed names

pub named_damaged : (content : Option Image) (s : Held) (n b : ℕ) → NamesNoBlock content (arrays_asked s.memory.parents s.levels n) b → IsDamagedIn content s.memory s.levels b
named_damaged content s n b names =
    blamed content s.memory s.levels (arrays_asked s.memory.parents s.levels n) b
    (λ a of. Contains-append_left (arrays_there s.levels) s.memory.cursors.retired a (asked_in_all s.memory.parents s.levels n a of)) names

-- the arrays that are asked at a version may be read, and there are few
pub picked_kept : {E : Type 0} (s : Held) (parents : Parents) (v : ℕ) (r : Result (List ArrayDesc) E) → IsConsistent s → IfOk r (λ arrays. arrays ≡ arrays_asked parents s.levels v) → IfOk r (λ arrays. length arrays ≤ 22)
    → IfOk r (λ arrays. MayBeFound arrays × (length arrays ≤ 22))
picked_kept s parents v (Err e) whole are few = tt
picked_kept s parents v (Ok arrays) whole are few = (
  subst (λ (l : List ArrayDesc). MayBeFound l) (sym are) (record { each = λ a of. (whole_read s whole).within.each a (asked_in_all parents s.levels v a of) }),
  few,
)
