-- A publication of a store: what stands before it, between its calls and after it.
use Rattle.std.proofs.Common.{◌≡◌, ◌≤◌, ◌-◌, ◌*◌, ℕ, Bool, true, false, eqb, ◌&&◌, ◌||◌, inl, inr, ◌⊎◌, List, [], ◌∷◌, ◌++◌, length, Contains, ◌+◌, drop, take, flat_map, fold, map, Option, None, Some, refl, sym, ap, ◌∙◌, subst, arith, true≢false}
use Rattle.std.specs.List.{list_all}
use Rattle.std.specs.Option.{option_to_list}
use Rattle.std.specs.Prelude.{IfSome, filter_map, is_some}
use Rattle.std.proofs.lemmas.List.{length-append, length-drop, take-append-drop}
use Rattle.std.proofs.lemmas.List.Folds.{list_all-append}
use Rattle.std.proofs.lemmas.List.Sums.{fold-append}
use Rattle.std.proofs.lemmas.Bool.{and_parts, eqb-true, le-ltb}
use Rattle.std.proofs.lemmas.Option.{slice_get_within, get_or_from_slice_get}
use Rattle.strat_array.specs.Kept.{Blocks}
use Rattle.strat_base.proofs.ListFacts.{filter_map-append, Among, all_at, among_flat, among_in_flat, among_split, among_right, range_among}
use Rattle.strat_base.specs.Change.{Change, Put, Delete, Clone, DropVersion, is_lawful}
use Rattle.strat_base.specs.Entries.{Entry, is_ascending, lead_entries}
use Rattle.strat_base.specs.Tree.{Parents}
use Rattle.strat_base.specs.declared.descriptors.ArrayDesc.{ArrayDesc}
use Rattle.strat_base.specs.declared.descriptors.LevelDesc.{LevelDesc}
use Rattle.def_crash.proofs.BlockLemmas.{blocks_trans, blocks_wider, exposed_once, keeps_refl}
use Rattle.def_crash.proofs.ImageLemmas.{window_same}
use Rattle.def_crash.proofs.TrailLemmas.{trail_join}
use Rattle.def_crash.specs.Blocks.{KeepsBlock, TearsBlocks, AgreeOn}
use Rattle.def_crash.specs.Image.{Image}
use Rattle.def_crash.specs.Moments.{DiskView, Exposes, Passes}
use Rattle.def_crash.specs.Trail.{Trail}
use Rattle.def_bytes.specs.Arrays.{all_some, blocks_of, block_on, entries_on}
use Rattle.def_bytes.specs.Block.{block_in}
use Rattle.def_bytes.specs.Chained.{Chained}
use Rattle.def_bytes.specs.Layout.{first_free, other_region, newest_format}
use Rattle.def_bytes.specs.Manifest.{Manifest, is_lawful_manifest}
use Rattle.def_bytes.specs.SuperBlock.{Super}
use Rattle.def_split.proofs.ListLemmas.{among_map}
use Rattle.strat_promote.proofs.LeadLemmas.{read_whole}
use Rattle.strat_promote.specs.Job.{IsBadInput, blocks_listed}
use Rattle.strat_promote.specs.Leads.{misfit_in}
use Rattle.def_recovery.proofs.OpeningLemmas.{map_some}
use Rattle.def_recovery.specs.Head.{Head, head_changes, head_marks, head_versions, head_updates, parent_numbers, descriptors}
use Rattle.def_recovery.specs.Opened.{array_on, level_on, parents_in}
use Rattle.def_recovery.specs.Opening.{belongs}
use Rattle.def_meaning.specs.StateTable.{table_of}
use Rattle.def_publish.proofs.FreeLemmas.{free_stands, free_trail}
use Rattle.def_publish.proofs.ListLemmas.{contained_among, among_contained}
use Rattle.def_publish.proofs.TableLemmas.{same_table}
use Rattle.def_publish.specs.Contents.{Contents, contents_state}
use Rattle.def_publish.specs.Next.{arrays_made}
use Rattle.def_publish.specs.Standing.{AreFree, LeavesContent, ShowsTable, ContentsStand}
use Rattle.def_state.specs.Level.{TaggedArray, Level, own_leads, least_live}
use Rattle.def_state.specs.Sound.{IsSound, are_accepted, is_described, has_ascending_entries}
use Rattle.def_state.specs.State.{State, marks_after, versions_of, tree_after, update_of}
use Rattle.strat_publish.proofs.LookLawLemmas.{made_of}
use Rattle.strat_publish.proofs.PartsLemmas.{accepted_back}
use Rattle.strat_publish.proofs.KeptLemmas.{array_named, held_behind, kept_next, named_behind}
use Rattle.strat_publish.proofs.RetiringLemmas.{retired_room}
use Rattle.strat_publish.proofs.SealedLemmas.{oldest_counts, parents_then, marks_then, emptied_first, emptied_next, let_go, ready_cursors, ready_manifest, ready_of, ready_parents}
use Rattle.strat_publish.proofs.SettlingLemmas.{listed_arrays, named_there}
use Rattle.strat_publish.specs.Outcomes.{IsDamagedIn, IsPublishedAs}
use Rattle.strat_memory.specs.Filters.{LevelFilters, filters_after}
use Rattle.strat_extent.specs.Blocks.{times_in}
use Rattle.def_publish.specs.Occupied.{extents_of}
use Rattle.def_slice.specs.Opened.{OpenPromotion}
use Rattle.strat_memory.proofs.OpenLemmas.{still_going, still_open}
use Rattle.strat_memory.specs.Held.{Held, AreKept, ArePlaced, IsConsistent, IsOpenAt, MayGoOnWith, StandsWith, arrays_held, contents_held, head_held}
use Rattle.strat_cursor.specs.Cursors.{retired_all}
use Rattle.strat_cursor.specs.Held.{HeldCursors}
use Rattle.strat_cursor.specs.Looking.{AreCachedFrom, arrays_there}
use Rattle.strat_memory.specs.Memory.{Memory, SealedLevel, IsMemoryOf, IsReadyFrom, emptied, head_full, renewed, unsealed}
use Rattle.strat_publish.specs.Publishing.{is_in_front}
use Rattle.strat_publish.specs.Settling.{held_next, contents_next, MayFollow, StandApart, WritesBeside, IsReadied, ArePublishedAfter, ArePublishedTo, arrays_taken}

-- a store keeps what it holds beside a promotion as its memory is another of its head, with the cursors that it had
memory_kept : (s : Held) (m : Memory) (p : Option OpenPromotion) → p ≡ None → IsMemoryOf (head_held s) m → m.cursors ≡ record s.memory.cursors { room = m.cursors.room } → IsConsistent s
    → IsConsistent (record s { memory = m; promoting = p })
memory_kept s m p none of cursors whole =
    let k : Memory = record m { cursors = record s.memory.cursors { room = m.cursors.room } } in
    let here : AreKept s.sb s.chained s.levels k = record {
      named = whole.kept.named;
      needed = whole.kept.needed;
      ids = whole.kept.ids;
      below = whole.kept.below;
      within = whole.kept.within;
      once = whole.kept.once;
      few = whole.kept.few;
    } in
    let same : k ≡ m = λ i. record m { cursors = sym cursors i } in
    record {
      slot = whole.slot;
      lawful = whole.lawful;
      spelled = whole.spelled;
      belonging = whole.belonging;
      log = whole.log;
      accepted = whole.accepted;
      memory = of;
      placed = whole.placed;
      kept = subst (λ (j : Memory). AreKept s.sb s.chained s.levels j) same here;
      going = subst (λ (q : Option OpenPromotion). IfSome q (MayGoOnWith (record s { memory = m; promoting = p }))) (sym none) tt;
    }

pub consistent_ready : (s : Held) (m : Memory) (p : Option OpenPromotion) → p ≡ None → IsReadyFrom s.sb.mem s.memory m → s.sb.mem ≤ length s.log.list → IsConsistent s → IsConsistent (record s { memory = m; promoting = p })
consistent_ready s m p none is full whole = memory_kept s m p none (ready_of (head_held s) s.memory m is full whole.memory) (ready_cursors s.sb.mem s.memory m is) whole

pub stands_ready : (v : DiskView) (s : Held) (x : Contents) (m : Memory) (p : Option OpenPromotion) → p ≡ None → StandsWith v s x → StandsWith v (record s { memory = m; promoting = p }) x
stands_ready v s x m p none w = record {
  stands = w.stands;
  held = w.held;
  cached = w.cached;
  filtered = w.filtered;
  open_over = subst (λ (q : Option OpenPromotion). IfSome q (IsOpenAt w.stands.content (record s { memory = m; promoting = p }) x (length s.log.list))) (sym none) tt;
}

-- what is sealed stays so as memory is made ready
pub ready_sealed : (mem : ℕ) (m k : Memory) (z : SealedLevel) → m.sealed ≡ Some z → IsReadyFrom mem m k → k.sealed ≡ m.sealed
ready_sealed mem m k z is (inl same) = ap (λ (j : Memory). j.sealed) same
ready_sealed mem m k z is (inr same) = let none : None ≡ Some z = sym same.0 ∙ is in absurd (cc)

-- so the open promotion, which is taken out of the store, goes on beside it
pub going_ready : (s : Held) (m : Memory) (n : Option OpenPromotion) → IsReadyFrom s.sb.mem s.memory m → IfSome s.promoting (MayGoOnWith s) → IfSome s.promoting (MayGoOnWith (record s { memory = m; promoting = n }))
going_ready s m n is going = by s.promoting going
  where
    by : (p : Option OpenPromotion) → IfSome p (MayGoOnWith s) → IfSome p (MayGoOnWith (record s { memory = m; promoting = n }))
    by None was = tt
    by (Some o) was =
        let fewer : (b : ℕ) → times_in (extents_of m.cursors.retired) b ≤ times_in (extents_of s.memory.cursors.retired) b =
        λ b. omega (arith, ap (λ (c : HeldCursors). times_in (extents_of c.retired) b) (ready_cursors s.sb.mem s.memory m is)) in
        still_going s m n s.cached o (ready_sealed s.sb.mem s.memory m was.sealed was.sealed_is is) fewer was

pub open_ready : (f : Image) (s : Held) (x : Contents) (fill : ℕ) (m : Memory) (n : Option OpenPromotion) → IsReadyFrom s.sb.mem s.memory m → IfSome s.promoting (IsOpenAt f s x fill)
    → IfSome s.promoting (IsOpenAt f (record s { memory = m; promoting = n }) x fill)
open_ready f s x fill m n is over = by s.promoting over
  where
    by : (p : Option OpenPromotion) → IfSome p (IsOpenAt f s x fill) → IfSome p (IsOpenAt f (record s { memory = m; promoting = n }) x fill)
    by None was = tt
    by (Some o) was = still_open f s x fill m n s.cached o (ready_sealed s.sb.mem s.memory m was.sealed was.sealed_is is) was

ready_arrays : (mem : ℕ) (m k : Memory) (levels : List (Option LevelDesc)) → IsReadyFrom mem m k → arrays_held k levels ≡ arrays_held m levels
ready_arrays mem m k levels is = ap (λ (c : HeldCursors). arrays_there levels ++ c.retired) (ready_cursors mem m k is)

pub damaged_ready : (mem : ℕ) (content : Option Image) (m k : Memory) (levels : List (Option LevelDesc)) (b : ℕ) → IsReadyFrom mem m k → IsDamagedIn content k levels b → IsDamagedIn content m levels b
damaged_ready mem content m k levels b is bad = record {
  listed = subst (λ (rs : List ArrayDesc). Contains (blocks_listed rs) b) (ready_arrays mem m k levels is) bad.listed;
  bad = bad.bad;
}

-- memory that is ready has the versions and the cursors of before
pub still_ready : (mem : ℕ) (m k now : Memory) → now ≡ k → IsReadyFrom mem m k → (now.parents ≡ m.parents) × (now.cursors ≡ record m.cursors { room = now.cursors.room })
still_ready mem m k now same is = (
  ap (λ (j : Memory). j.parents) same ∙ ready_parents mem m k is,
  ap (λ (j : Memory). j.cursors) same ∙ ready_cursors mem m k is ∙ (λ i. record m.cursors { room = sym (ap (λ (j : Memory). j.cursors.room) same) i }),
)

-- so are the arrays that it holds, and what a disk exposes is one image
pub agree_ready : (mem : ℕ) (m k : Memory) (levels : List (Option LevelDesc)) (f g : Image) → IsReadyFrom mem m k → AgreeOn (blocks_listed (arrays_held k levels)) f g → AgreeOn (blocks_listed (arrays_held m levels)) f g
agree_ready mem m k levels f g is agree = subst (λ (rs : List ArrayDesc). AgreeOn (blocks_listed rs) f g) (ready_arrays mem m k levels is) agree

pub agree_once : (v : DiskView) (f g : Image) (blocks : List ℕ) → Exposes v f → Exposes v g → AgreeOn blocks f g
agree_once v f g blocks was now b of = subst (λ (h : Image). KeepsBlock b f h) (exposed_once v f g was now) (keeps_refl b f)

-- what a promotion leaves, with memory ready
published_after : (target mem : ℕ) (s sb here : Super) (m next there : Manifest) (memory ready now : Memory) (filters left : List LevelFilters) (made : LevelFilters) → 1 ≤ target → IsReadyFrom mem memory ready → here ≡ sb → there ≡ next
    → now ≡ renewed (arrays_taken target m) ready → left ≡ filters_after filters target made → ArePublishedTo target s m ready sb next → ArePublishedAfter s m memory filters here there now.cursors left
published_after target mem s sb here m next there memory ready now filters left made low same sb_is next_is now_is left_is is =
    let gone : List ArrayDesc = arrays_taken target m in
    let n : ℕ = ready.cursors.room in
    let cursors : now.cursors ≡ record (retired_all gone memory.cursors) { room = n } =
    ap (λ (k : Memory). k.cursors) now_is ∙ ap (λ (c : HeldCursors). retired_all gone c) (ready_cursors mem memory ready same) ∙ retired_room gone memory.cursors n in
    record {
      target = target;
      made = made;
      low = low;
      are = record {
        made = is.made;
        first = is.first;
        size = is.size;
        numbered = is.numbered;
        manifest_is = next_is ∙ is.manifest_is ∙ ready_manifest mem target m is.made memory ready same;
        sb_is = sb_is ∙ is.sb_is;
      };
      cursors_are = cursors ∙ (λ i. record (retired_all gone memory.cursors) { room = sym (ap (λ (c : HeldCursors). c.room) cursors) i });
      filters_are = left_is;
    }

-- while free blocks are written
module _ (v w : DiskView) (s : Held) (x : Contents) (stands : StandsWith v s x) (beside : WritesBeside v w s) where
  pub free_here : AreFree beside.free x
  free_here =
      let held : AreFree beside.free (contents_held s x.levels) = record { behind = beside.beside.behind; unnamed = beside.beside.unnamed } in
      subst (λ (y : Contents). AreFree beside.free y) (sym stands.held) held

  pub trail_beside : Trail ShowsTable w v.moment (table_of (contents_state x) ∷ []) 0
  trail_beside = free_trail beside.free x free_here v w beside.tears stands.stands

-- a block that was kept is read as before
block_kept : (f g : Image) (b : ℕ) → KeepsBlock b f g → block_on g b ≡ block_on f b
block_kept f g b keeps = ap block_in (window_same f g (4096 * b) 4096 keeps)

-- the blocks of arrays that are cached, where others may be new and the blocks of the rest were kept
cached_on : (f g : Image) (next later : ℕ) (arrays after : List ArrayDesc) (c : Blocks) → next ≤ later
    → ((a : ArrayDesc) → Contains after a → (next ≤ a.id) ⊎ (Contains arrays a × ((b : ℕ) → Contains (blocks_of a.extents) b → KeepsBlock b f g)))
    → AreCachedFrom f next arrays c → AreCachedFrom g later after c
cached_on f g next later arrays after c le each cached = record {
  old = λ k x of. let lt = cached.old k x of in omega (arith, lt, le);
  same = λ a index block x there of at. elim (each a there) [
    | inl new ↦ absurd (let lt = cached.old (a.id, index) x of in omega (arith, lt, new))
    | inr was ↦
        let here : Contains (blocks_of a.extents) block = (index, slice_get_within (blocks_of a.extents) index block at, get_or_from_slice_get (blocks_of a.extents) index block block at) in
        block_kept f g block (was.1 block here) ∙ cached.same a index block x was.0 of at
  ];
}

-- memory ran out after some blocks were written
pub stands_beside : (v w : DiskView) (s : Held) (x : Contents) → s.promoting ≡ None → StandsWith v s x → WritesBeside v w s → LeavesContent w → StandsWith w s x
stands_beside v w s x none stands beside leaves =
    let now : ContentsStand w x = free_stands beside.free x (free_here v w s x stands beside) v w beside.tears stands.stands leaves in
    record {
      stands = now;
      held = stands.held;
      cached = cached_on stands.stands.content now.content s.chained.manifest.next_array s.chained.manifest.next_array (descriptors s.chained.manifest) (descriptors s.chained.manifest) s.cached
          (omega arith) (λ a of. inr (
            of,
            λ b here.
                beside.tears.content stands.stands.content now.content stands.stands.exposed now.exposed b (beside.beside.unnamed b (array_named s a b of here)),
          )) stands.cached;
      filtered = stands.filtered;
      open_over = subst (λ (p : Option OpenPromotion). IfSome p (IsOpenAt now.content s x (length s.log.list))) (sym none) tt;
    }

-- no block of an array that a store holds is free
held_taken : (v w : DiskView) (s : Held) (beside : WritesBeside v w s) → ArePlaced s.chained.manifest.levels s.levels → (b : ℕ) → Contains (blocks_listed (arrays_held s.memory s.levels)) b → beside.free b ≡ false
held_taken v w s beside placed b of =
    let retired : List ArrayDesc = s.memory.cursors.retired in
    let blocks : ArrayDesc → List ℕ = λ a. blocks_of a.extents in
    let one = among_flat blocks (arrays_there s.levels ++ retired) b (contained_among (blocks_listed (arrays_there s.levels ++ retired)) b of) in
    elim (among_split (arrays_there s.levels) retired one.0 one.1) [
      | inl there ↦
          beside.beside.unnamed b (named_there s placed b (among_contained (blocks_listed (arrays_there s.levels)) b (among_in_flat blocks (arrays_there s.levels) one.0 b there one.2)))
      | inr kept ↦ beside.retired one.0 b (among_contained retired one.0 kept) (among_contained (blocks_of one.0.extents) b one.2)
    ]

-- so they are as they were
pub arrays_kept : (v w : DiskView) (s : Held) → WritesBeside v w s → ArePlaced s.chained.manifest.levels s.levels → (f g : Image) → Exposes v f → Exposes w g
    → AgreeOn (blocks_listed (arrays_held s.memory s.levels)) f g
arrays_kept v w s beside placed f g was now b of = beside.tears.content f g was now b (held_taken v w s beside placed b of)

-- a trail and another of the same table
pub one_trail : {T : Type 0} (shows : Image → T → Type 0) (mid new : DiskView) (start : ℕ) (x : T) → Passes mid new → Trail shows mid start (x ∷ []) 0 → Trail shows new mid.moment (x ∷ []) 0 → Trail shows new start (x ∷ []) 0
one_trail shows mid new start x time a b = trail_join shows mid new start [] [] x 0 time a b

or_false : (a b : Bool) → (a || b) ≡ false → (a ≡ false) × (b ≡ false)
or_false false b e = (refl, e)
or_false true b e = absurd (true≢false e)

-- what was written beside a store, and then in front of what it holds
both_torn : (v w u : DiskView) (s : Held) (mem : ℕ) (beside : WritesBeside v w s) → TearsBlocks (is_in_front mem) w u → TearsBlocks (λ b. beside.free b || is_in_front mem b) v u
both_torn v w u s mem beside front =
    let either : ℕ → Bool = λ b. beside.free b || is_in_front mem b in
    blocks_trans either v w u (blocks_wider beside.free either v w (λ b e. (or_false (beside.free b) (is_in_front mem b) e).0) beside.tears)
    (blocks_wider (is_in_front mem) either w u (λ b e. (or_false (beside.free b) (is_in_front mem b) e).1) front)

pub arrays_stay : (v w u : DiskView) (s : Held) (mem : ℕ) → IsConsistent s → mem ≡ s.sb.mem → WritesBeside v w s → TearsBlocks (is_in_front mem) w u → (f g : Image) → Exposes v f → Exposes u g
    → AgreeOn (blocks_listed (arrays_held s.memory s.levels)) f g
arrays_stay v w u s mem whole mem_is beside front f g was now b of =
    let taken = held_taken v w s beside whole.placed b of in
    let far = held_behind s whole b of in
    let behind : is_in_front mem b ≡ false = le-ltb b (first_free mem) (omega (arith, far, ap first_free mem_is)) in
    (both_torn v w u s mem beside front).content f g was now b (λ i. taken i || behind i)

-- an array of the level that was made
made_among : (made : Option LevelDesc) (level : LevelDesc) (a : ArrayDesc) → Among level (option_to_list made) → Among a level.arrays → Among a (arrays_made made)
made_among None level a among there = absurd among
made_among (Some l) level a (inl here) there = subst (λ (d : LevelDesc). Among a d.arrays) here there
made_among (Some l) level a (inr none) there = absurd none

-- the arrays of the next contents are new, or the old ones have them
module _ (w : DiskView) (s : Held) (x : Contents) (held : x ≡ contents_held s x.levels) (sb : Super) (chained : Chained) (filters : List LevelFilters) (ready : IsReadied w s x sb chained filters) where
  pub next_arrays : (a : ArrayDesc) → Among a (descriptors chained.manifest) → (s.chained.manifest.next_array ≤ a.id) ⊎ Among a (descriptors s.chained.manifest)
  next_arrays a among =
      let c = ready.computed in
      let next = c.next.follows.next in
      let arrays : LevelDesc → List ArrayDesc = λ l. l.arrays in
      let at = among_flat arrays (option_to_list c.made ++ c.kept) a (subst (λ (ls : List LevelDesc). Among a (flat_map arrays ls)) next.levels_are among) in
      elim (among_split (option_to_list c.made) c.kept at.0 at.1) [
        | inl made ↦
            let ids : List ℕ = map (λ (d : ArrayDesc). d.id) (arrays_made c.made) in
            let there : Among a.id ids = among_map (λ (d : ArrayDesc). d.id) (arrays_made c.made) a (made_among c.made at.0 a made at.2) in
            let low = (range_among x.chained.manifest.next_array (length (arrays_made c.made)) a.id (subst (Among a.id) c.next.follows.fresh.numbered there)).0 in
            let same : x.chained.manifest.next_array ≡ s.chained.manifest.next_array = ap (λ (y : Contents). y.chained.manifest.next_array) held in
            inl (omega (arith, low, same))
        | inr kept ↦
            let was : Among a (flat_map arrays (c.taken ++ c.kept)) = among_in_flat arrays (c.taken ++ c.kept) at.0 a (among_right c.taken c.kept at.0 kept) at.2 in
            let levels : c.taken ++ c.kept ≡ s.chained.manifest.levels = sym next.levels_were ∙ ap (λ (y : Contents). y.chained.manifest.levels) held in
            inr (subst (λ (ls : List LevelDesc). Among a (flat_map arrays ls)) levels was)
      ]

  next_later : s.chained.manifest.next_array ≤ chained.manifest.next_array
  next_later =
      let more = ready.computed.next.follows.next.next_array in
      let same : x.chained.manifest.next_array ≡ s.chained.manifest.next_array = ap (λ (y : Contents). y.chained.manifest.next_array) held in
      omega (arith, more, same)

-- once the next contents stand, the store stands with them
pub published_as : (v w u : DiskView) (s : Held) (x : Contents) (target : ℕ) (sb : Super) (chained : Chained) (levels : List (Option LevelDesc)) (made : LevelFilters) → IsConsistent s → StandsWith v s x → WritesBeside v w s
    → (ready : IsReadied w s x sb chained (filters_after s.filters target made)) → TearsBlocks (is_in_front s.sb.mem) w u → ContentsStand u (contents_next s sb chained ready.levels) → IsPublishedAs u x (held_next s target sb chained levels made)
published_as v w u s x target sb chained levels made whole stands beside ready front now =
    let torn = both_torn v w u s s.sb.mem beside front in
    let f : Image = stands.stands.content in
    record {
      after = contents_next s sb chained ready.levels;
      stands = record {
        stands = now;
        held = refl;
        cached = cached_on f now.content s.chained.manifest.next_array chained.manifest.next_array (descriptors s.chained.manifest) (descriptors chained.manifest) s.cached
            (next_later w s x stands.held sb chained (filters_after s.filters target made) ready)
            (λ a of. elim (next_arrays w s x stands.held sb chained (filters_after s.filters target made) ready a (contained_among (descriptors chained.manifest) a of)) [
              | inl new ↦ inl new
              | inr was ↦
                  let there : Contains (descriptors s.chained.manifest) a = among_contained (descriptors s.chained.manifest) a was in
                  inr (
                    there,
                    λ b here.
                        let named = array_named s a b there here in
                        let taken = beside.beside.unnamed b named in
                        let behind = le-ltb b (first_free s.sb.mem) (named_behind s whole b named) in
                        torn.content f now.content stands.stands.exposed now.exposed b (λ i. taken i || behind i),
                  )
            ])
            stands.cached;
        filtered = ready.filtered;
        open_over = tt;
      };
      table = same_table (contents_state x) (contents_state (contents_next s sb chained ready.levels)) ready.computed.says;
    }

-- the versions of a head have the parents that their numbers say
grown_from : (ps : List ℕ) (journal : List Change) → (qs : List ℕ) × (fold tree_after (None ∷ map (λ p. Some p) ps) journal ≡ None ∷ map (λ p. Some p) qs)
grown_from ps [] = (ps, refl)
grown_from ps (Put v key value ∷ journal) = grown_from ps journal
grown_from ps (Delete v key ∷ journal) = grown_from ps journal
grown_from ps (DropVersion v ∷ journal) = grown_from ps journal
grown_from ps (Clone v ∷ journal) =
    let more : None ∷ (map (λ p. Some p) ps ++ Some v ∷ []) ≡ None ∷ map (λ p. Some p) (ps ++ v ∷ []) = ap (λ (rest : Parents). None ∷ rest) (mapped ps v) in
    let rest = grown_from (ps ++ v ∷ []) journal in
    (rest.0, ap (λ (start : Parents). fold tree_after start journal) more ∙ rest.1)
  where
    mapped : (ns : List ℕ) (n : ℕ) → map (λ (p : ℕ). Some p) ns ++ Some n ∷ [] ≡ map (λ p. Some p) (ns ++ n ∷ [])
    mapped [] n = refl
    mapped (m ∷ ns) n = ap (λ (rest : Parents). Some m ∷ rest) (mapped ns n)

numbers_of : (ns : List ℕ) → parent_numbers (map (λ p. Some p) ns) ≡ ns
numbers_of [] = refl
numbers_of (n ∷ ns) = ap (λ (rest : List ℕ). n ∷ rest) (numbers_of ns)

versions_back : (h : Head) → None ∷ map (λ p. Some p) (parent_numbers (head_versions h)) ≡ head_versions h
versions_back h =
    let grown = grown_from h.manifest.parents h.journal in
    ap (λ (ps : Parents). None ∷ map (λ p. Some p) (parent_numbers ps)) grown.1 ∙ ap (λ (ns : List ℕ). None ∷ map (λ p. Some p) ns) (numbers_of grown.0) ∙ sym grown.1

-- what a store holds after a publication is consistent
pub consistent_next : (s : Held) (target : ℕ) (sb : Super) (chained : Chained) (levels : List (Option LevelDesc)) (made : LevelFilters) → IsConsistent s → is_some s.memory.sealed ≡ true → s.sb.mem ≤ length s.log.list → MayFollow s sb chained
    → ArePublishedTo target s.sb s.chained.manifest s.memory sb chained.manifest → is_lawful_manifest newest_format chained.manifest ≡ true → belongs sb chained ≡ true
    → ArePlaced chained.manifest.levels levels → StandApart target s chained → IsConsistent (held_next s target sb chained levels made)
consistent_next s target sb chained levels made whole some full follows are spelled belonging placed apart =
    let h : Head = head_held s in
    let later : List Change = drop s.log.mem s.log.list in
    let new : Head = record { sb = sb; manifest = chained.manifest; journal = later } in
    let behind : later ≡ drop s.sb.mem s.log.list = ap (λ (n : ℕ). drop n s.log.list) whole.log.mem in
    let left : length later ≡ length s.log.list - s.sb.mem = ap (λ (js : List Change). length js) behind ∙ length-drop s.sb.mem s.log.list in
    let front : List Change = take s.sb.mem s.log.list in
    let m : Manifest = s.chained.manifest in
    let joined : list_all is_lawful (front ++ drop s.sb.mem s.log.list) ≡ true = ap (list_all is_lawful) (take-append-drop s.sb.mem s.log.list) ∙ whole.log.lawful in
    let fits = and_parts (list_all is_lawful front) (list_all is_lawful (drop s.sb.mem s.log.list)) (sym (list_all-append is_lawful front (drop s.sb.mem s.log.list)) ∙ joined) in
    let counts = oldest_counts h s.memory whole.memory in
    let then : parents_in chained.manifest ≡ head_versions (head_full h) =
    ap (λ (ns : List ℕ). None ∷ map (λ p. Some p) ns) (follows.parents ∙ ap parent_numbers (parents_then h s.memory whole.memory)) ∙ versions_back (head_full h) in
    let versions : head_versions new ≡ head_versions h =
    (λ i. fold tree_after (then i) (behind i)) ∙ sym (fold-append tree_after (parents_in h.manifest) (take s.sb.mem s.log.list) (drop s.sb.mem s.log.list))
    ∙ ap (fold tree_after (parents_in h.manifest)) (take-append-drop s.sb.mem s.log.list) in
    let updates : head_updates new ≡ head_updates h =
    (let parts = ap (λ (js : List Change). length (filter_map update_of js)) (take-append-drop s.sb.mem s.log.list) in
    let two = ap (λ (es : List Entry). length es) (filter_map-append update_of (take s.sb.mem s.log.list) (drop s.sb.mem s.log.list)) in
    let sum = length-append (filter_map update_of (take s.sb.mem s.log.list)) (filter_map update_of (drop s.sb.mem s.log.list)) in
    let here = ap (λ (js : List Change). length (filter_map update_of js)) behind in
    omega (arith, follows.updates, counts.1, parts, two, sum, here)) in
    let changes : head_changes new ≡ head_changes h =
    (let parts = ap (λ (js : List Change). length js) (take-append-drop s.sb.mem s.log.list) in
    let sum = length-append (take s.sb.mem s.log.list) (drop s.sb.mem s.log.list) in
    let here = ap (λ (js : List Change). length js) behind in
    omega (arith, follows.changes, counts.2, parts, sum, here)) in
    let came : are_accepted s.sb.changes_max s.sb.versions_max (parents_in m) m.marks m.changes (front ++ drop s.sb.mem s.log.list) ≡ true =
    ap (λ (js : List Change). are_accepted s.sb.changes_max s.sb.versions_max (parents_in m) m.marks m.changes js) (take-append-drop s.sb.mem s.log.list) ∙ whole.accepted in
    let since = accepted_back s.sb.changes_max s.sb.versions_max front (drop s.sb.mem s.log.list) (parents_in m) m.marks m.changes came in
    let marked : chained.manifest.marks ≡ fold marks_after m.marks front = follows.marks ∙ marks_then h s.memory whole.memory in
    let marks : head_marks new ≡ head_marks h =
    (λ i. fold marks_after (marked i) (behind i)) ∙ sym (fold-append marks_after m.marks front (drop s.sb.mem s.log.list)) ∙ ap (fold marks_after m.marks) (take-append-drop s.sb.mem s.log.list) in
    let many : chained.manifest.changes ≡ m.changes + length front = follows.changes ∙ counts.2 in
    let accepted : are_accepted sb.changes_max sb.versions_max (parents_in chained.manifest) chained.manifest.marks chained.manifest.changes later ≡ true =
    (λ i. are_accepted (follows.changes_max i) (follows.versions_max i) (then i) (marked i) (many i) (behind i)) ∙ since in
    record {
      slot = omega arith;
      lawful = follows.lawful;
      spelled = spelled;
      belonging = belonging;
      log = record {
        mem = whole.log.mem ∙ sym follows.mem;
        active = ap other_region whole.log.active ∙ sym follows.region;
        batch = whole.log.batch;
        few = let most = whole.log.few in omega (arith, left, most, follows.mem);
        lawful = ap (list_all is_lawful) behind ∙ fits.1;
      };
      accepted = accepted;
      memory =
          let here = let_go h new s.memory whole.memory some behind (let most = whole.log.few in omega (arith, left, most, follows.mem)) follows.mem follows.changes_max follows.versions_max versions updates changes marks in
          record {
            changes_max = here.changes_max;
            versions_max = here.versions_max;
            parents = here.parents;
            marks = here.marks;
            updates = here.updates;
            changes = here.changes;
            lists = here.lists;
            counted = here.counted;
          };
      placed = placed;
      kept = kept_next s target sb chained levels whole are follows.mem spelled belonging placed apart;
      going = tt;
    }

-- the arrays of a sound state are read whole, in order, and have as many leads as their descriptors say
module _ (f : Image) (levels : List LevelDesc) (s : State) (read : all_some (level_on f) levels ≡ Some s.levels) (sound : IsSound s) (a : ArrayDesc) (among : Among a (flat_map (λ (l : LevelDesc). l.arrays) levels)) where
  whole_array : (entries : List Entry) × (entries_on f (blocks_of a.extents) ≡ Some entries) × (is_ascending entries ≡ true) × (length (lead_entries a.versions entries) ≡ a.leads)
  whole_array =
      let at = among_flat (λ (l : LevelDesc). l.arrays) levels a among in
      let level = made_of (level_on f) levels s.levels at.0 read at.1 in
      let arrays = map_some (λ xs. record { number = at.0.number; horizon = at.0.horizon; arrays = xs }) (all_some (array_on f) at.0.arrays) level.0 level.1 in
      let array = made_of (array_on f) at.0.arrays arrays.0 a arrays.1 at.2 in
      let entries = map_some (λ entries. record { id = a.id; tag = a.versions; content = entries; entries = a.entries; leads = a.leads; least = a.least }) (entries_on f (blocks_of a.extents)) array.0 array.1 in
      let there : Among array.0 level.0.arrays = subst (λ (l : Level). Among array.0 l.arrays) arrays.2 array.2 in
      let up = all_at has_ascending_entries array.0 level.0.arrays (all_at (λ (l : Level). list_all has_ascending_entries l.arrays) level.0 s.levels sound.ascending level.2) there in
      let told = all_at (is_described s) array.0 level.0.arrays (all_at (λ (l : Level). list_all (is_described s) l.arrays) level.0 s.levels sound.described level.2) there in
      let x : TaggedArray = array.0 in
      let both = (and_parts (eqb x.entries (length x.content) && eqb x.leads (length (own_leads x))) (eqb x.least (least_live (versions_of s) x)) told).0 in
      let count = eqb-true x.leads (length (own_leads x)) (and_parts (eqb x.entries (length x.content)) (eqb x.leads (length (own_leads x))) both).1 in (
        entries.0,
        entries.1,
        ap (λ (y : TaggedArray). is_ascending y.content) entries.2 ∙ up,
        ap (λ (y : TaggedArray). length (own_leads y)) entries.2 ∙ sym count ∙ ap (λ (y : TaggedArray). y.leads) (sym entries.2),
      )

  no_misfit_in : misfit_in f a ≡ None
  no_misfit_in = let one = whole_array in (read_whole f None (blocks_of a.extents) one.0 one.1 one.2).1

-- so none of their blocks is bad for a promotion
none_bad : (f : Image) (levels : List LevelDesc) (s : State) (b : ℕ) (arrays : List ArrayDesc) → all_some (level_on f) levels ≡ Some s.levels → IsSound s
    → ((a : ArrayDesc) → Among a arrays → Among a (flat_map (λ (l : LevelDesc). l.arrays) levels)) → IsBadInput f arrays b → ⊥
none_bad f levels s b arrays read sound at input =
    let e : None ≡ Some b = sym {a = misfit_in f input.array} (no_misfit_in f levels s read sound input.array (at input.array (contained_among arrays input.array input.one))) ∙ input.misfit in
    cc

-- no store that stands on its disk has such a block
pub none_damaged : (v : DiskView) (s : Held) (x : Contents) (b : ℕ) → IsConsistent s → StandsWith v s x → ((f : Image) → Exposes v f → IsBadInput f (arrays_there s.levels) b) → ⊥
none_damaged v s x b whole stands bad =
    let f : Image = stands.stands.content in
    let read = (stands.stands.reads f stands.stands.left).lies.arrays in
    let arrays : List ArrayDesc = arrays_there s.levels in
    let same : arrays ≡ descriptors x.chained.manifest = listed_arrays s whole.placed ∙ sym (ap (λ (y : Contents). descriptors y.chained.manifest) stands.held) in
    let at : (a : ArrayDesc) → Among a arrays → Among a (descriptors x.chained.manifest) = λ a of. subst (λ (rs : List ArrayDesc). Among a rs) same of in
    let levels : List LevelDesc = x.chained.manifest.levels in
    let st : State = contents_state x in
    none_bad f levels st b arrays read stands.stands.sound at (bad f stands.stands.exposed)

-- and what is found of a store after a publication
pub found_next : (s t : Held) (m : Memory) (p : Option OpenPromotion) (target : ℕ) (sb : Super) (chained : Chained) (levels : List (Option LevelDesc)) (made : LevelFilters) → IsReadyFrom s.sb.mem s.memory m
    → is_some m.sealed ≡ true → s.sb.mem ≤ length s.log.list → IsConsistent s → 1 ≤ target
    → t ≡ held_next (record s { memory = m; promoting = p }) target sb chained levels made → ArePublishedTo target s.sb s.chained.manifest m sb chained.manifest
    → (t.slot ≡ 1 - s.slot) × ArePublishedAfter s.sb s.chained.manifest s.memory s.filters t.sb t.chained.manifest t.memory.cursors t.filters × (t.log.list ≡ drop s.sb.mem s.log.list)
    × (t.memory ≡ record (unsealed s.memory) { entries = t.memory.entries; spare = t.memory.spare; ready = t.memory.ready; cursors = t.memory.cursors })
    × (s.memory.sealed ≡ None → t.memory ≡ record (emptied s.sb.mem s.memory) { cursors = t.memory.cursors })
found_next s t m p target sb chained levels made same some full whole low is are =
    let gone : List ArrayDesc = arrays_taken target s.chained.manifest in
    let memory : t.memory ≡ renewed gone m = ap (λ (h : Held). h.memory) is in (
      ap (λ (h : Held). h.slot) is,
      published_after target s.sb.mem s.sb sb t.sb s.chained.manifest chained.manifest t.chained.manifest s.memory m t.memory s.filters t.filters made low same (ap (λ (h : Held). h.sb) is) (ap (λ (h : Held). h.chained.manifest) is) memory (ap (λ (h : Held). h.filters) is) are,
      ap (λ (h : Held). h.log.list) is ∙ ap (λ (n : ℕ). drop n s.log.list) whole.log.mem,
      emptied_next s.sb.mem gone s.memory m t.memory memory same,
      λ none. emptied_first s.sb.mem gone s.memory m t.memory memory same some none,
    )
