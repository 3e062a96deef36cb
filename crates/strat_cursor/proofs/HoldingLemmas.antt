-- How many arenas and shares there are at most, and what a cursor may read from its start on.
use Rattle.std.proofs.Common.{◌≡◌, ◌<◌, ◌≤◌, ◌+◌, ◌*◌, ◌||◌, ◌⊎◌, ℕ, zero, suc, Bool, true, false, not, cond, eqb, ltb, inl, inr, List, [], ◌∷◌, ◌++◌, Option, Some, None, length, map, refl, sym, ap, ◌∙◌, subst, arith, true≢false, length-append}
use Rattle.std.specs.List.{Contains, flat_map, filter_map, cons_option, count_by, slice_get}
use Rattle.std.proofs.lemmas.Bool.{cases_Bool, and_parts, and_from, not-true, not_from_false}
use Rattle.std.proofs.lemmas.List.Sums.{sum_by-append, sum_by-cons, count_by-le-length}
use Rattle.std.proofs.Math.Dec.{eqb-zero-suc, eqb-suc-zero, eqb-suc-suc}
use Rattle.strat_arena.specs.PoolView.{shares_at, count_shared, is_shared}
use Rattle.strat_arena.specs.declared.pool.PoolEntry.{PoolEntry}
use Rattle.strat_array.specs.Kept.{Blocks, IsBlockRead}
use Rattle.strat_array.proofs.EntriesOnLemmas.{entries_on-kept}
use Rattle.strat_base.proofs.ListFacts.{Among, among_right, find_some, get_among, among_flat, among_in_flat, filter_among}
use Rattle.strat_base.specs.Entries.{Entry, is_tagged}
use Rattle.strat_base.specs.Tree.{Parents, below}
use Rattle.strat_base.specs.declared.descriptors.ArrayDesc.{ArrayDesc}
use Rattle.strat_base.specs.declared.descriptors.LevelDesc.{LevelDesc}
use Rattle.def_crash.specs.Blocks.{AgreeOn}
use Rattle.def_crash.specs.Image.{Image}
use Rattle.def_crash.proofs.ImageLemmas.{window_same}
use Rattle.def_bytes.specs.Arrays.{block_on, blocks_of}
use Rattle.def_bytes.specs.Block.{block_in}
use Rattle.strat_level.specs.Levels.{desc_for, is_for}
use Rattle.def_recovery.proofs.BadLemmas.{contained_at}
use Rattle.def_state.specs.Level.{is_distinct}
use Rattle.strat_model.specs.Pairs.{Pairs}
use Rattle.strat_cursor.specs.Cursors.{CursorOver, OpenCursor, MayGoOn, moved_at, moved_on, without_cursor, arrays_named}
use Rattle.strat_cursor.specs.Looking.{AreInOrder, HaveOwnIds, AreCachedFrom, arrays_there, levels_there, arrays_asked}
use Rattle.strat_cursor.specs.Pins.{arena_pinned, arenas_of, shares_of}
use Rattle.strat_cursor.proofs.PinLemmas.{among_contained, asked_of_levels, asked_there, each_moved}

arenas_few : (c : OpenCursor) → length (arenas_of c) ≤ 2
arenas_few c = by c.sealed
  where
    by : (s : Option _) → length (c.zero.arena ∷ arena_pinned s) ≤ 2
    by None = omega arith
    by (Some list) = omega arith

holders_few : (cursors : List OpenCursor) → length (flat_map arenas_of cursors) ≤ 2 * length cursors
holders_few [] = omega arith
holders_few (c ∷ cursors) = omega (arith, arenas_few c, holders_few cursors, length-append (arenas_of c) (flat_map arenas_of cursors))

-- cursors have two shares each at most
pub shares_few : (cursors : List OpenCursor) (n : ℕ) → shares_of cursors n ≤ 2 * length cursors
shares_few cursors n = omega (arith, holders_few cursors, count_by-le-length (λ (a : ℕ). eqb a n) (flat_map arenas_of cursors))

-- numbers one less, without those that were 0
less_one : List ℕ → List ℕ
less_one [] = []
less_one (zero ∷ ns) = less_one ns
less_one (suc n ∷ ns) = n ∷ less_one ns

times_first : (n a : ℕ) (ns : List ℕ) → count_by (λ x. eqb x n) (a ∷ ns) ≡ cond (eqb a n) 1 0 + count_by (λ x. eqb x n) ns
times_first n a ns = sum_by-cons (λ (x : ℕ). cond (eqb x n) 1 0) a ns

times_less : (n : ℕ) (ns : List ℕ) → count_by (λ a. eqb a n) (less_one ns) ≡ count_by (λ a. eqb a (suc n)) ns
unfolding less_one
times_less n [] = refl
times_less n (zero ∷ ns) = omega (arith, times_less n ns, times_first (suc n) zero ns, ap {B = ℕ} (λ (b : Bool). cond b 1 0) (eqb-zero-suc n))
times_less n (suc a ∷ ns) = omega (arith, times_less n ns, times_first (suc n) (suc a) ns, times_first n a (less_one ns), ap {B = ℕ} (λ (b : Bool). cond b 1 0) (eqb-suc-suc a n))

length_less : (ns : List ℕ) → length ns ≡ count_by (λ a. eqb a 0) ns + length (less_one ns)
unfolding less_one
length_less [] = refl
length_less (zero ∷ ns) = omega (arith, length_less ns, times_first 0 zero ns)
length_less (suc a ∷ ns) = omega (arith, length_less ns, times_first 0 (suc a) ns, ap {B = ℕ} (λ (b : Bool). cond b 1 0) (eqb-suc-zero a))

-- as many arenas are in a pool as hold shares, at most
held_by : (pool : List PoolEntry) (holders : List ℕ) → ((n : ℕ) → shares_at pool n ≤ count_by (λ a. eqb a n) holders) → count_shared pool ≤ length holders
held_by [] holders shares = omega arith
held_by (e ∷ pool) holders shares =
    let rest : count_shared pool ≤ length (less_one holders) = held_by pool (less_one holders) (λ n. omega (arith, shares (suc n), times_less n holders)) in
    let first : e.shares ≤ count_by (λ a. eqb a 0) holders = shares 0 in
    omega (arith, rest, length_less holders, sum_by-cons (λ (x : PoolEntry). cond (is_shared x) 1 0) e pool, one_if e.shares (count_by (λ a. eqb a 0) holders) first)
  where
    one_if : (s n : ℕ) → s ≤ n → cond (ltb 0 s) 1 0 ≤ n
    one_if zero n le = omega arith
    one_if (suc s) n le = elim (cases_Bool (ltb 0 (suc s))) [
      | inl yes' ↦ omega (arith, ap {B = ℕ} (λ (b : Bool). cond b 1 0) yes')
      | inr no' ↦ omega (arith, ap {B = ℕ} (λ (b : Bool). cond b 1 0) no')
    ]

pub pool_few : (pool : List PoolEntry) (own : List ℕ) (cursors : List OpenCursor) → ((n : ℕ) → shares_at pool n ≤ count_by (λ a. eqb a n) own + shares_of cursors n)
    → count_shared pool ≤ length own + 2 * length cursors
pool_few pool own cursors shares =
    omega (
      arith,
      held_by pool (own ++ flat_map arenas_of cursors) (λ n. omega (arith, shares n, sum_by-append (λ (a : ℕ). cond (eqb a n) 1 0) own (flat_map arenas_of cursors))),
      length-append own (flat_map arenas_of cursors),
      holders_few cursors,
    )

not_tagged : (arrays : List ArrayDesc) (a : ArrayDesc) (id : ℕ) → is_tagged (map (λ x. x.id) arrays) id ≡ false → Among a arrays → eqb a.id id ≡ false
not_tagged [] a id none among = absurd among
not_tagged (x ∷ arrays) a id none (inl here) = ap (λ (y : ArrayDesc). eqb y.id id) here ∙ (or_parts (eqb x.id id) (is_tagged (map (λ y. y.id) arrays) id) none).0
  where
    or_parts : (p q : Bool) → (p || q) ≡ false → (p ≡ false) × (q ≡ false)
    or_parts true q e = absurd (true≢false e)
    or_parts false q e = (refl, e)
not_tagged (x ∷ arrays) a id none (inr there) = not_tagged arrays a id (by (eqb x.id id) none) there
  where
    by : (p : Bool) → (p || is_tagged (map (λ y. y.id) arrays) id) ≡ false → is_tagged (map (λ y. y.id) arrays) id ≡ false
    by true e = absurd (true≢false e)
    by false e = e

tagged_none : (arrays : List ArrayDesc) (id : ℕ) → ((a : ArrayDesc) → Among a arrays → eqb a.id id ≡ false) → is_tagged (map (λ x. x.id) arrays) id ≡ false
tagged_none [] id each = refl
tagged_none (x ∷ arrays) id each = λ i. each x (inl refl) i || tagged_none arrays id (λ a among. each a (inr among)) i

-- arrays behind others are distinct, and none of them has the number of one of these
distinct_behind : (front rest : List ArrayDesc) → is_distinct (map (λ a. a.id) (front ++ rest)) ≡ true
    → (is_distinct (map (λ a. a.id) rest) ≡ true) × ((a : ArrayDesc) → Among a front → is_tagged (map (λ x. x.id) rest) a.id ≡ false)
distinct_behind [] rest distinct = (distinct, λ a among. absurd among)
distinct_behind (x ∷ front) rest distinct =
    let parts = and_parts (not (is_tagged (map (λ a. a.id) (front ++ rest)) x.id)) (is_distinct (map (λ a. a.id) (front ++ rest))) distinct in
    let none = not-true (is_tagged (map (λ a. a.id) (front ++ rest)) x.id) parts.0 in
    let behind = distinct_behind front rest parts.1 in (
      behind.0,
      λ a among. elim among [
        | inl here ↦ subst (λ (y : ArrayDesc). is_tagged (map (λ z. z.id) rest) y.id ≡ false) (sym here)
            (tagged_none rest x.id (λ b in_rest. not_tagged (front ++ rest) b x.id none (among_right front rest b in_rest)))
        | inr there ↦ behind.1 a there
      ],
    )

asked_distinct : (parents : Parents) (v : ℕ) (levels : List LevelDesc) → is_distinct (map (λ a. a.id) (flat_map (λ (level : LevelDesc). level.arrays) levels)) ≡ true
    → is_distinct (map (λ a. a.id) (filter_map (λ level. desc_for parents level v) levels)) ≡ true
asked_distinct parents v [] distinct = refl
asked_distinct parents v (level ∷ levels) distinct =
    let behind = distinct_behind level.arrays (flat_map (λ (x : LevelDesc). x.arrays) levels) distinct in
    by (desc_for parents level v) refl behind.1 (asked_distinct parents v levels behind.0)
  where
    by : (o : Option ArrayDesc) → desc_for parents level v ≡ o
        → ((a : ArrayDesc) → Among a level.arrays → is_tagged (map (λ x. x.id) (flat_map (λ (x : LevelDesc). x.arrays) levels)) a.id ≡ false)
        → is_distinct (map (λ a. a.id) (filter_map (λ x. desc_for parents x v) levels)) ≡ true
        → is_distinct (map (λ a. a.id) (cons_option o (filter_map (λ x. desc_for parents x v) levels))) ≡ true
    by None is apart rest = rest
    by (Some a) is apart rest =
        and_from (not (is_tagged (map (λ x. x.id) (filter_map (λ x. desc_for parents x v) levels)) a.id)) (is_distinct (map (λ x. x.id) (filter_map (λ x. desc_for parents x v) levels)))
        (not_from_false (is_tagged (map (λ x. x.id) (filter_map (λ x. desc_for parents x v) levels)) a.id)
        (tagged_none (filter_map (λ x. desc_for parents x v) levels) a.id
        (λ b among. not_tagged (flat_map (λ (x : LevelDesc). x.arrays) levels) b a.id (apart a (find_some (is_for (below parents v level.horizon)) level.arrays a is).0) (asked_of_levels parents v levels b among))))
        rest

-- what holds of all arrays of levels holds of those that are asked at a version
module _ (parents : Parents) (levels : List (Option LevelDesc)) (v : ℕ) where
  pub asked_in_all : (a : ArrayDesc) → Contains (arrays_asked parents levels v) a → Contains (arrays_there levels) a
  asked_in_all a at = among_contained (arrays_there levels) a (asked_there parents v levels a (contained_at a (arrays_asked parents levels v) at.0 at.1 at.2))

  pub asked_own : HaveOwnIds (arrays_there levels) → HaveOwnIds (arrays_asked parents levels v)
  asked_own own = asked_distinct parents v (levels_there levels) own

  pub asked_ordered : (f : Image) → AreInOrder f (arrays_there levels) → AreInOrder f (arrays_asked parents levels v)
  asked_ordered f ordered = record { each = λ a at. ordered.each a (asked_in_all a at) }

  pub asked_cached : (f : Image) (next : ℕ) (c : Blocks) → AreCachedFrom f next (arrays_there levels) c → AreCachedFrom f next (arrays_asked parents levels v) c
  asked_cached f next c cached = record { old = cached.old; same = λ a index block x at. cached.same a index block x (asked_in_all a at) }

-- a cursor may go on where a look-up in the levels of its start may
pub asked_may_go_on : {L : Type 0} (f : Image) (next : ℕ) (parents : Parents) (levels : List (Option LevelDesc)) (v : ℕ) (c : CursorOver L) (cached : Blocks)
    → c.arrays ≡ arrays_asked parents levels v → AreInOrder f (arrays_there levels) → HaveOwnIds (arrays_there levels) → AreCachedFrom f next (arrays_there levels) cached
    → MayGoOn f next c cached
asked_may_go_on f next parents levels v c cached is ordered ids cached_from = record {
  ordered = subst (λ (x : List ArrayDesc). AreInOrder f x) (sym is) (asked_ordered parents levels v f ordered);
  ids = subst (λ (x : List ArrayDesc). HaveOwnIds x) (sym is) (asked_own parents levels v ids);
  same = subst (λ (x : List ArrayDesc). AreCachedFrom f next x cached) (sym is) (asked_cached parents levels v f next cached cached_from);
}

-- what look-ups in other arrays add to the cache leaves a cursor's blocks in it as they are
pub goes_on_beside : {L : Type 0} (f : Image) (next : ℕ) (c : CursorOver L) (others : List ArrayDesc) (old new : Blocks) → MayGoOn f next c old
    → ((k : ℕ × ℕ) (x : List Entry) → Contains new.entries (k, x)
    → Contains old.entries (k, x) ⊎ ((b : ArrayDesc) × Contains others b × IsBlockRead (Some f) b.id (blocks_of b.extents) k x))
    → ((b : ArrayDesc) → Contains others b → b.id < next)
    → ((a b : ArrayDesc) → Contains c.arrays a → Contains others b → b.id ≡ a.id → b ≡ a) → MayGoOn f next c new
goes_on_beside f next c others old new goes added below one = record {
  ordered = goes.ordered;
  ids = goes.ids;
  same = record {
    old = λ k x at. elim (added k x at) [
      | inl before ↦ goes.same.old k x before
      | inr read ↦ let less = below read.0 read.1 in let mine = read.2.mine in omega arith
    ];
    same = λ a index block x there at place. elim (added (a.id, index) x at) [
      | inl before ↦ goes.same.same a index block x there before place
      | inr read ↦
          let here : read.0 ≡ a = one a read.0 there read.1 (sym read.2.mine) in
          let its : slice_get (blocks_of a.extents) index ≡ Some read.2.block = subst (λ (y : ArrayDesc). slice_get (blocks_of y.extents) index ≡ Some read.2.block) here read.2.place in
          let same_block : block ≡ read.2.block = some_same block read.2.block (sym place ∙ its) in
          ap (λ n. block_on f n) same_block ∙ read.2.read f refl
    ];
  };
}
  where
    some_same : (a b : ℕ) → ◌≡◌ {A = Option ℕ} (Some a) (Some b) → a ≡ b
    some_same a b e = cc

-- a cursor may go on in an image that has the same bytes in the blocks of its arrays
pub goes_on_in : {L : Type 0} (f g : Image) (next : ℕ) (c : CursorOver L) (cached : Blocks) → ((a : ArrayDesc) → Contains c.arrays a → AgreeOn (blocks_of a.extents) f g)
    → MayGoOn f next c cached → MayGoOn g next c cached
goes_on_in f g next c cached agree goes = record {
  ordered = record { each = λ a at. let there = goes.ordered.each a at in (there.0, entries_on-kept f g (blocks_of a.extents) (agree a at) ∙ there.1, there.2) };
  ids = goes.ids;
  same = record {
    old = goes.same.old;
    same = λ a index block x there at place.
        ap block_in (window_same f g (4096 * block) 4096 (agree a there block (among_contained (blocks_of a.extents) block (get_among (blocks_of a.extents) index block place))))
        ∙ goes.same.same a index block x there at place;
  };
}

-- and with a greater number for the next array
pub goes_on_later : {L : Type 0} (f : Image) (next later : ℕ) (c : CursorOver L) (cached : Blocks) → next ≤ later → MayGoOn f next c cached → MayGoOn f later c cached
goes_on_later f next later c cached more goes = record {
  ordered = goes.ordered;
  ids = goes.ids;
  same = record { old = λ k x at. let less = goes.same.old k x at in omega arith; same = goes.same.same };
}

-- cursors may go on after one of them told a page
pub goes_on_moved : {L : Type 0} (f : Image) (next : ℕ) (cached : Blocks) (n : ℕ) (more : Bool) (told : Pairs) (cursors : List (CursorOver L))
    → ((c : CursorOver L) → Contains cursors c → MayGoOn f next c cached) → (c : CursorOver L) → Contains (moved_at n more told cursors) c → MayGoOn f next c cached
goes_on_moved f next cached n more told cursors each c at =
    each_moved (λ x. MayGoOn f next x cached) n more told cursors
    (λ x goes. record { ordered = goes.ordered; ids = goes.ids; same = goes.same })
    (λ x among. each x (among_contained cursors x among)) c (contained_at c (moved_at n more told cursors) at.0 at.1 at.2)

pub goes_on_without : {L : Type 0} (f : Image) (next : ℕ) (cached : Blocks) (n : ℕ) (cursors : List (CursorOver L))
    → ((c : CursorOver L) → Contains cursors c → MayGoOn f next c cached) → (c : CursorOver L) → Contains (without_cursor n cursors) c → MayGoOn f next c cached
goes_on_without {L} f next cached n cursors each c at =
    each c (among_contained cursors c (filter_among (λ (x : CursorOver L). not (eqb x.number n)) cursors c (contained_at c (without_cursor n cursors) at.0 at.1 at.2)).0)

-- the arrays that cursors name after one of them told a page
pub names_moved : {L : Type 0} (n : ℕ) (more : Bool) (told : Pairs) (cursors : List (CursorOver L)) → arrays_named (moved_at n more told cursors) ≡ arrays_named cursors
names_moved n more told [] = refl
names_moved n more told (c ∷ cursors) = λ i. by (eqb c.number n) i ++ names_moved n more told cursors i
  where
    by : (b : Bool) → (cond b (moved_on more told c) c).arrays ≡ c.arrays
    by true = refl
    by false = refl

pub names_without : {L : Type 0} (n : ℕ) (cursors : List (CursorOver L)) (a : ArrayDesc) → Contains (arrays_named (without_cursor n cursors)) a → Contains (arrays_named cursors) a
names_without {L} n cursors a at =
    let named = among_flat (λ (c : CursorOver L). c.arrays) (without_cursor n cursors) a (contained_at a (arrays_named (without_cursor n cursors)) at.0 at.1 at.2) in
    among_contained (arrays_named cursors) a
    (among_in_flat (λ (c : CursorOver L). c.arrays) cursors named.0 a (filter_among (λ (x : CursorOver L). not (eqb x.number n)) cursors named.0 named.1).0 named.2)
