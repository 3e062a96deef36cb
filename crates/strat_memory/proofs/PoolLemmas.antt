-- Level 0, the memtables beside it and the cursors in a pool, as calls change it.
use Rattle.std.proofs.Common.{◌≡◌, ◌≢◌, ◌≤◌, ◌<◌, ◌+◌, ◌*◌, ℕ, Bool, true, false, cond, eqb, ltb, inl, inr, List, [], ◌∷◌, map, Option, Some, None, Result, Ok, Err, length, refl, sym, ap, ◌∙◌, subst, arith}
use Rattle.std.specs.List.{AllByRecursion, Contains, count_by, list_all}
use Rattle.std.specs.Option.{IfSome, option_map}
use Rattle.std.specs.Result.{OnErr, OnOk}
use Rattle.std.proofs.lemmas.Bool.{cases_eq, eq-eqb, lt-ltb, ltb-true, ne_eqb}
use Rattle.std.proofs.lemmas.List.{length-map}
use Rattle.std.proofs.lemmas.List.Sums.{sum_by-cons}
use Rattle.strat_arena.specs.Items.{entries_of}
use Rattle.strat_arena.specs.PoolView.{SameBeside, arena_at, count_shared, shares_at}
use Rattle.strat_arena.specs.declared.items.Item.{Item}
use Rattle.strat_arena.specs.declared.pool.PoolEntry.{PoolEntry}
use Rattle.strat_base.proofs.ListFacts.{Among, all_at, all_from}
use Rattle.strat_base.specs.Entries.{Entry}
use Rattle.strat_base.specs.Tree.{Parents, IsTree, with_child}
use Rattle.strat_level.specs.Memtable.{ItemList, Memtable, entries_held, ListStands, MemtableStands}
use Rattle.strat_level.proofs.PutLemmas.{stands_while, memtable_stands_while}
use Rattle.strat_cursor.specs.Cursors.{OpenCursor, CursorsView, moved_at}
use Rattle.strat_model.specs.Pairs.{Pairs}
use Rattle.strat_cursor.specs.Held.{opened_held}
use Rattle.strat_cursor.specs.Pins.{ArePinned, IsListKnown, IsSamePool, SharesFollow, shares_of}
use Rattle.strat_cursor.proofs.PinLemmas.{arenas_stay, shares_moved}
use Rattle.strat_cursor.proofs.HoldingLemmas.{pool_few, shares_few}
use Rattle.strat_cursor.proofs.RowLemmas.{pool_pinned, pool_held, tree_pinned}
use Rattle.def_meaning.specs.TableOver.{are_known}
use Rattle.strat_memory.specs.Memory.{SealedLevel}
use Rattle.strat_manifest.specs.ManifestView.{marks_listed}
use Rattle.strat_memory.specs.MemoryFields.{lists_beside, own_arenas, sealed_seen, IsSealedBelow, StandInPool, StandsBeside}
use Rattle.strat_memory.specs.declared.memory.Sealed.{Sealed}

-- whether a number is that of an arena, as a count
abbrev once : ℕ → ℕ → ℕ
once a n = cond (eqb a n) 1 0

once_same : (n : ℕ) → once n n ≡ 1
once_same n = ap {B = ℕ} (λ (b : Bool). cond b 1 0) (eq-eqb n n refl)

once_other : (a n : ℕ) → a ≢ n → once a n ≡ 0
once_other a n apart = ap {B = ℕ} (λ (b : Bool). cond b 1 0) (ne_eqb a n apart)

once_few : (a n : ℕ) → once a n ≤ 1
once_few a n = by (eqb a n)
  where
    by : (b : Bool) → cond b 1 0 ≤ 1
    by true = omega arith
    by false = omega arith

-- how many shares memtables have in an arena
abbrev owned : List Memtable → ℕ → ℕ
owned zeros n = count_by (λ a. eqb a n) (map (λ (z : Memtable). z.list.arena) zeros)

-- and how many level 0 and those beside it
abbrev owns : Memtable → List Memtable → ℕ → ℕ
owns zero others n = count_by (λ a. eqb a n) (own_arenas zero others)

owned_cons : (z : Memtable) (zeros : List Memtable) (n : ℕ) → owned (z ∷ zeros) n ≡ once z.list.arena n + owned zeros n
owned_cons z zeros n = omega (arith, sum_by-cons (λ (x : ℕ). cond (eqb x n) 1 0) z.list.arena (map (λ (y : Memtable). y.list.arena) zeros))

owns_is : (zero : Memtable) (others : List Memtable) (n : ℕ) → owns zero others n ≡ once zero.list.arena n + owned others n
owns_is zero others n = owned_cons zero others n

owned_none : (n : ℕ) → owned [] n ≡ 0
owned_none n = refl

owns_zero : (zero : Memtable) (others : List Memtable) → 1 ≤ owns zero others zero.list.arena
owns_zero zero others = omega (arith, owns_is zero others zero.list.arena, once_same zero.list.arena)

owned_some : (others : List Memtable) (z : Memtable) → Among z others → 1 ≤ owned others z.list.arena
owned_some [] z among = absurd among
owned_some (y ∷ others) z (inl here) =
    subst (λ (x : Memtable). 1 ≤ owned (y ∷ others) x.list.arena) (sym here) (omega (arith, owned_cons y others y.list.arena, once_same y.list.arena))
owned_some (y ∷ others) z (inr there) = let rest = owned_some others z there in omega (arith, rest, owned_cons y others z.list.arena)

owns_beside : (zero : Memtable) (others : List Memtable) (z : Memtable) → Among z others → 1 ≤ owns zero others z.list.arena
owns_beside zero others z among = omega (arith, owns_is zero others z.list.arena, owned_some others z among)

owned_few : (others : List Memtable) (n : ℕ) → owned others n ≤ length others
owned_few [] n = omega (arith, owned_none n)
owned_few (z ∷ others) n = omega (arith, owned_cons z others n, once_few z.list.arena n, owned_few others n)

owns_few : (zero : Memtable) (others : List Memtable) (n : ℕ) → owns zero others n ≤ 1 + length others
owns_few zero others n = omega (arith, owns_is zero others n, once_few zero.list.arena n, owned_few others n)

own_few : (zero : Memtable) (others : List Memtable) → length (own_arenas zero others) ≤ 1 + length others
own_few zero others = omega (arith, length-map others (λ (z : Memtable). z.list.arena))

-- there are two beside level 0 at most
pub beside_few : (sealed : Option Sealed) (next : Option Memtable) → length (lists_beside sealed next) ≤ 2
beside_few None None = omega arith
beside_few None (Some z) = omega arith
beside_few (Some s) None = omega arith
beside_few (Some s) (Some z) = omega arith

-- memtables stand beside level 0 in another pool, where their arenas stay
beside_stays : (old new : List PoolEntry) (zero : Memtable) (others : List Memtable)
    → ((z : Memtable) → Among z others → z.list.arena ≢ zero.list.arena → (arena_at new z.list.arena ≡ arena_at old z.list.arena) × (0 < shares_at new z.list.arena))
    → AllByRecursion (StandsBeside old zero) others → AllByRecursion (StandsBeside new zero) others
beside_stays old new zero [] stays beside = tt
beside_stays old new zero (z ∷ others) stays beside =
    let there = stays z (inl refl) beside.0.apart in (
      record { stands = memtable_stands_while old new z there.0 there.1 beside.0.stands; apart = beside.0.apart },
      beside_stays old new zero others (λ y among. stays y (inr among)) beside.1,
    )

-- and their entries stay
beside_reads : (old new : List PoolEntry) (zero : Memtable) (others : List Memtable)
    → ((z : Memtable) → Among z others → z.list.arena ≢ zero.list.arena → (arena_at new z.list.arena ≡ arena_at old z.list.arena) × (0 < shares_at new z.list.arena))
    → AllByRecursion (StandsBeside old zero) others → (z : Memtable) → Among z others → entries_held new z.list ≡ entries_held old z.list
beside_reads old new zero [] stays beside z among = absurd among
beside_reads old new zero (y ∷ others) stays beside z (inl here) =
    let there = stays y (inl refl) beside.0.apart in
    subst (λ (x : Memtable). entries_held new x.list ≡ entries_held old x.list) (sym here) (stands_while old new y.list there.0 there.1 beside.0.stands.list).1
beside_reads old new zero (y ∷ others) stays beside z (inr there) = beside_reads old new zero others (λ x among. stays x (inr among)) beside.1 z there

-- what is sealed is seen as before in another pool, where the memtables beside level 0 have the entries that they had
abbrev pub ReadsBeside : List PoolEntry → List PoolEntry → List Memtable → Type 0
ReadsBeside old new others = (z : Memtable) → Among z others → entries_held new z.list ≡ entries_held old z.list

pub sealed_same : (old new : List PoolEntry) (sealed : Option Sealed) (next : Option Memtable) → ReadsBeside old new (lists_beside sealed next)
    → option_map (sealed_seen new) sealed ≡ option_map (sealed_seen old) sealed
sealed_same old new None next reads = refl
sealed_same old new (Some s) next reads = λ i. Some (record { entries = reads s.zero (inl refl) i; versions = s.versions; marks = marks_listed s.marks; updates = s.updates; changes = s.changes })

pub sealed_below : (old new : List PoolEntry) (parents later : Parents) (sealed : Option Sealed) (next : Option Memtable) → length parents ≤ length later → ReadsBeside old new (lists_beside sealed next)
    → IfSome sealed (IsSealedBelow old parents) → IfSome sealed (IsSealedBelow new later)
sealed_below old new parents later None next le reads below = tt
sealed_below old new parents later (Some s) next le reads below = record {
  low = ap (λ (es : List Entry). list_all (λ e. ltb e.version s.versions) es) (reads s.zero (inl refl)) ∙ below.low;
  versions = omega (arith, below.versions, le);
}

-- where nothing is sealed
pub sealed_none : (pool : List PoolEntry) (parents : Parents) (sealed : Option Sealed) → option_map (sealed_seen pool) sealed ≡ None → IfSome sealed (IsSealedBelow pool parents)
sealed_none pool parents None none = tt
sealed_none pool parents (Some s) none = absurd (cc)

-- a cursor may hold on to what is sealed, and reads its entries
known_below : (n m : ℕ) (entries : List Entry) → n ≤ m → list_all (λ e. ltb e.version n) entries ≡ true → list_all (λ e. ltb e.version m) entries ≡ true
known_below n m entries le low =
    all_from (λ e. ltb e.version m) entries (λ d among.
    let lt : d.version < n = ltb-true d.version n (all_at (λ (x : Entry). ltb x.version n) d entries low among) in
    lt-ltb d.version m (omega (arith, lt, le)))

pub sealed_known : (pool : List PoolEntry) (parents : Parents) (s : Sealed) → IsSealedBelow pool parents s → are_known parents (entries_held pool s.zero.list) ≡ true
sealed_known pool parents s below = known_below s.versions (length parents) (entries_held pool s.zero.list) below.versions below.low

pub sealed_pinned : (pool : List PoolEntry) (parents : Parents) (zero : Memtable) (sealed : Option Sealed) (next : Option Memtable) → AllByRecursion (StandsBeside pool zero) (lists_beside sealed next)
    → IfSome sealed (IsSealedBelow pool parents) → IfSome (option_map (λ (s : Sealed). s.zero) sealed) (λ z. ListStands pool z.list × IsListKnown pool parents z.list)
sealed_pinned pool parents zero None next beside below = tt
sealed_pinned pool parents zero (Some s) next beside below = (beside.0.stands.list, sealed_known pool parents s below)

pub sealed_lists : (pool : List PoolEntry) (sealed : Option Sealed) → option_map (λ (z : Memtable). entries_held pool z.list) (option_map (λ (s : Sealed). s.zero) sealed) ≡ option_map (λ (z : SealedLevel). z.entries) (option_map (sealed_seen pool) sealed)
sealed_lists pool None = refl
sealed_lists pool (Some s) = refl

-- so may a reader
pub sealed_read : (pool : List PoolEntry) (parents : Parents) (zero : Memtable) (sealed : Option Sealed) (next : Option Memtable) → AllByRecursion (StandsBeside pool zero) (lists_beside sealed next)
    → IfSome sealed (IsSealedBelow pool parents)
    → IfSome (option_map (λ (s : Sealed). s.zero.list) sealed) (λ z. ListStands pool z × (are_known parents (entries_held pool z) ≡ true))
sealed_read pool parents zero None next beside below = tt
sealed_read pool parents zero (Some s) next beside below = (beside.0.stands.list, sealed_known pool parents s below)

pub same_reads : (pool : List PoolEntry) (others : List Memtable) → ReadsBeside pool pool others
same_reads pool others z among = refl

-- few arenas have shares, and none has many
module _ (pool : List PoolEntry) (parents : Parents) (zero : Memtable) (others : List Memtable) (cursors : List OpenCursor) (stand : StandInPool pool parents zero others cursors) where
  pub few_shared : (most : ℕ) → length others ≤ 2 → length cursors ≤ most → count_shared pool ≤ 3 + 2 * most
  few_shared most two few = omega (arith, pool_few pool (own_arenas zero others) cursors (λ n. omega (arith, stand.shares n)), own_few zero others, two, few)

  pub few_shares : (most : ℕ) → length others ≤ 2 → length cursors ≤ most → (n : ℕ) → shares_at pool n ≤ 3 + 2 * most
  few_shares most two few n = omega (arith, stand.shares n, owns_few zero others n, shares_few cursors n, two, few)

-- level 0 and those beside it stay as cursors take and give shares
module _ (old new : List PoolEntry) (parents : Parents) (zero : Memtable) (others : List Memtable) (before after : List OpenCursor)
    (stand : StandInPool old parents zero others before) (follow : SharesFollow old new before after) where
  shares_after : (n : ℕ) → shares_at new n ≡ owns zero others n + shares_of after n
  shares_after n = omega (arith, stand.shares n, follow.shares n)

  zero_shared : 0 < shares_at new zero.list.arena
  zero_shared = omega (arith, shares_after zero.list.arena, owns_zero zero others)

  arenas_after : (z : Memtable) → Among z others → z.list.arena ≢ zero.list.arena → (arena_at new z.list.arena ≡ arena_at old z.list.arena) × (0 < shares_at new z.list.arena)
  arenas_after z among apart =
      let some : 0 < shares_at new z.list.arena = omega (arith, shares_after z.list.arena, owns_beside zero others z among) in
      (follow.arenas z.list.arena some, some)

  pub follow_stands : ArePinned new parents after → StandInPool new parents zero others after
  follow_stands pinned = record {
    level = memtable_stands_while old new zero (follow.arenas zero.list.arena zero_shared) zero_shared stand.level;
    beside = beside_stays old new zero others arenas_after stand.beside;
    pinned = pinned;
    shares = shares_after;
  }

  pub follow_entries : entries_held new zero.list ≡ entries_held old zero.list
  follow_entries = (stands_while old new zero.list (follow.arenas zero.list.arena zero_shared) zero_shared stand.level.list).1

  pub follow_reads : ReadsBeside old new others
  follow_reads = beside_reads old new zero others arenas_after stand.beside

-- and as they do not
module _ (old new : List PoolEntry) (same : IsSamePool old new) (parents : Parents) (cursors : List OpenCursor) (pinned : ArePinned old parents cursors) where
  pub same_follow : SharesFollow old new cursors cursors
  same_follow = record {
    shares = λ n. ap (λ (e : PoolEntry). e.shares + shares_of cursors n) (same n);
    arenas = λ n some. ap (λ (e : PoolEntry). e.arena) (same n);
  }

  same_shares : (n : ℕ) → shares_of cursors n ≤ shares_at new n
  same_shares n = omega (arith, pinned.held.shares n, ap (λ (e : PoolEntry). e.shares) (same n))

  pub same_pinned : ArePinned new parents cursors
  same_pinned = pool_pinned parents old new cursors (arenas_stay old new cursors (λ n some. ap (λ (e : PoolEntry). e.arena) (same n)) same_shares) same_shares pinned

  pub same_held : opened_held new cursors ≡ opened_held old cursors
  same_held = pool_held parents old new cursors (arenas_stay old new cursors (λ n some. ap (λ (e : PoolEntry). e.arena) (same n)) same_shares) same_shares pinned

own_same : (zero other : Memtable) (others : List Memtable) → other.list.arena ≡ zero.list.arena → own_arenas other others ≡ own_arenas zero others
own_same zero other others same = λ i. same i ∷ map (λ (z : Memtable). z.list.arena) others

-- after a put
module _ (old new : List PoolEntry) (parents : Parents) (zero put : Memtable) (others : List Memtable) (cursors : List OpenCursor)
    (stand : StandInPool old parents zero others cursors) (level : MemtableStands new put)
    (found : (put.list.arena ≡ zero.list.arena) × (shares_at new put.list.arena ≡ shares_at old zero.list.arena))
    (same : SameBeside old new zero.list.arena × ((list : ItemList) → ListStands old list → ListStands new list × (entries_held new list ≡ entries_held old list))) where
  put_shares : (n : ℕ) → shares_at new n ≡ shares_at old n
  put_shares n = elim (cases_eq n zero.list.arena) [
    | inl is ↦ ap (λ m. shares_at new m) (is ∙ sym found.0) ∙ found.1 ∙ ap (λ m. shares_at old m) (sym is)
    | inr apart ↦ ap (λ (e : PoolEntry). e.shares) (same.0 n apart)
  ]

  put_held_shares : (n : ℕ) → shares_of cursors n ≤ shares_at new n
  put_held_shares n = omega (arith, put_shares n, stand.pinned.held.shares n)

  put_arenas : (z : Memtable) → Among z others → z.list.arena ≢ zero.list.arena → (arena_at new z.list.arena ≡ arena_at old z.list.arena) × (0 < shares_at new z.list.arena)
  put_arenas z among apart = (
    ap (λ (e : PoolEntry). e.arena) (same.0 z.list.arena apart),
    omega (arith, put_shares z.list.arena, stand.shares z.list.arena, owns_beside zero others z among),
  )

  put_beside : (zs : List Memtable) → AllByRecursion (StandsBeside new zero) zs → AllByRecursion (StandsBeside new put) zs
  put_beside [] beside = tt
  put_beside (z ∷ zs) beside = (record { stands = beside.0.stands; apart = λ e. beside.0.apart (e ∙ found.0) }, put_beside zs beside.1)

  pub put_stands : StandInPool new parents put others cursors
  put_stands = record {
    level = level;
    beside = put_beside others (beside_stays old new zero others put_arenas stand.beside);
    pinned = pool_pinned parents old new cursors (λ d among list arena. same.1 list) put_held_shares stand.pinned;
    shares = λ n. put_shares n ∙ stand.shares n ∙ ap (λ (own : List ℕ). count_by (λ a. eqb a n) own + shares_of cursors n) (sym (own_same zero put others found.0));
  }

  pub put_held : opened_held new cursors ≡ opened_held old cursors
  put_held = pool_held parents old new cursors (λ d among list arena. same.1 list) put_held_shares stand.pinned

  pub put_reads : ReadsBeside old new others
  put_reads = beside_reads old new zero others put_arenas stand.beside

-- after a share in an arena was given back, with these memtables left
module _ (old new : List PoolEntry) (a : ℕ) (ok : shares_at new a + 1 ≡ shares_at old a) (kept : 0 < shares_at new a → arena_at new a ≡ arena_at old a) (same : SameBeside old new a) where
  given_shares : (n : ℕ) → shares_at new n + once a n ≡ shares_at old n
  given_shares n = elim (cases_eq n a) [
    | inl is ↦ subst (λ m. shares_at new m + once a m ≡ shares_at old m) (sym is) (omega (arith, ok, once_same a))
    | inr apart ↦ omega (arith, ap (λ (e : PoolEntry). e.shares) (same n apart), once_other a n (λ e. apart (sym e)))
  ]

  given_arenas : (n : ℕ) → 0 < shares_at new n → arena_at new n ≡ arena_at old n
  given_arenas n some = elim (cases_eq n a) [
    | inl is ↦ subst (λ m. 0 < shares_at new m → arena_at new m ≡ arena_at old m) (sym is) kept some
    | inr apart ↦ ap (λ (e : PoolEntry). e.arena) (same n apart)
  ]

  module _ (parents : Parents) (zero : Memtable) (others : List Memtable) (cursors : List OpenCursor) (level : MemtableStands old zero) (beside : AllByRecursion (StandsBeside old zero) others)
      (pinned : ArePinned old parents cursors) (shares : (n : ℕ) → shares_at old n ≡ (owns zero others n + once a n) + shares_of cursors n) where
    left_shares : (n : ℕ) → shares_at new n ≡ owns zero others n + shares_of cursors n
    left_shares n = omega (arith, shares n, given_shares n)

    left_zero : 0 < shares_at new zero.list.arena
    left_zero = omega (arith, left_shares zero.list.arena, owns_zero zero others)

    left_held_shares : (n : ℕ) → shares_of cursors n ≤ shares_at new n
    left_held_shares n = omega (arith, left_shares n)

    left_arenas : (n : ℕ) → 0 < shares_of cursors n → arena_at new n ≡ arena_at old n
    left_arenas n some = given_arenas n (omega (arith, left_shares n))

    left_others : (z : Memtable) → Among z others → z.list.arena ≢ zero.list.arena → (arena_at new z.list.arena ≡ arena_at old z.list.arena) × (0 < shares_at new z.list.arena)
    left_others z among apart =
        let some : 0 < shares_at new z.list.arena = omega (arith, left_shares z.list.arena, owns_beside zero others z among) in
        (given_arenas z.list.arena some, some)

    pub left_stands : StandInPool new parents zero others cursors
    left_stands = record {
      level = memtable_stands_while old new zero (given_arenas zero.list.arena left_zero) left_zero level;
      beside = beside_stays old new zero others left_others beside;
      pinned = pool_pinned parents old new cursors (arenas_stay old new cursors left_arenas left_held_shares) left_held_shares pinned;
      shares = left_shares;
    }

    pub left_held : opened_held new cursors ≡ opened_held old cursors
    left_held = pool_held parents old new cursors (arenas_stay old new cursors left_arenas left_held_shares) left_held_shares pinned

    pub left_entries : entries_held new zero.list ≡ entries_held old zero.list
    left_entries = (stands_while old new zero.list (given_arenas zero.list.arena left_zero) left_zero level.list).1

    pub left_reads : ReadsBeside old new others
    left_reads = beside_reads old new zero others left_others beside

-- without the next one, which stands last
pub beside_without_next : (pool : List PoolEntry) (zero z : Memtable) (sealed : Option Sealed) → AllByRecursion (StandsBeside pool zero) (lists_beside sealed (Some z))
    → AllByRecursion (StandsBeside pool zero) (lists_beside sealed None)
beside_without_next pool zero z None beside = tt
beside_without_next pool zero z (Some s) beside = (beside.0, tt)

owns_without_next : (zero z : Memtable) (sealed : Option Sealed) (n : ℕ) → owns zero (lists_beside sealed (Some z)) n ≡ owns zero (lists_beside sealed None) n + once z.list.arena n
owns_without_next zero z None n = omega (arith, owns_is zero (z ∷ []) n, owns_is zero [] n, owned_cons z [] n)
owns_without_next zero z (Some s) n =
    omega (arith, owns_is zero (s.zero ∷ z ∷ []) n, owns_is zero (s.zero ∷ []) n, owned_cons s.zero (z ∷ []) n, owned_cons z [] n, owned_cons s.zero [] n)

pub without_next_shares : (pool : List PoolEntry) (parents : Parents) (zero z : Memtable) (sealed : Option Sealed) (cursors : List OpenCursor)
    → StandInPool pool parents zero (lists_beside sealed (Some z)) cursors → (n : ℕ) → shares_at pool n ≡ (owns zero (lists_beside sealed None) n + once z.list.arena n) + shares_of cursors n
without_next_shares pool parents zero z sealed cursors stand n = omega (arith, stand.shares n, owns_without_next zero z sealed n)

-- without the sealed one, which stands first
pub without_sealed_shares : (pool : List PoolEntry) (parents : Parents) (zero : Memtable) (s : Sealed) (next : Option Memtable) (cursors : List OpenCursor)
    → StandInPool pool parents zero (lists_beside (Some s) next) cursors → (n : ℕ) → shares_at pool n ≡ (owns zero (lists_beside None next) n + once s.zero.list.arena n) + shares_of cursors n
without_sealed_shares pool parents zero s next cursors stand n =
    omega (arith, stand.shares n, owns_is zero (lists_beside (Some s) next) n, owns_is zero (lists_beside None next) n, owned_cons s.zero (lists_beside None next) n)

-- after a next one was made
module _ (old new : List PoolEntry) (parents : Parents) (zero z : Memtable) (sealed : Option Sealed) (cursors : List OpenCursor) (stand : StandInPool old parents zero (lists_beside sealed None) cursors)
    (level : MemtableStands new z) (found : (shares_at old z.list.arena ≡ 0) × (shares_at new z.list.arena ≡ 1))
    (same : SameBeside old new z.list.arena) where
  made_shares : (n : ℕ) → shares_at new n ≡ shares_at old n + once z.list.arena n
  made_shares n = elim (cases_eq n z.list.arena) [
    | inl is ↦ subst (λ m. shares_at new m ≡ shares_at old m + once z.list.arena m) (sym is) (omega (arith, found.0, found.1, once_same z.list.arena))
    | inr apart ↦ omega (arith, ap (λ (e : PoolEntry). e.shares) (same n apart), once_other z.list.arena n (λ e. apart (sym e)))
  ]

  made_arenas : (n : ℕ) → 0 < shares_at old n → arena_at new n ≡ arena_at old n
  made_arenas n some = elim (cases_eq n z.list.arena) [
    | inl is ↦ absurd (let none : shares_at old n ≡ 0 = ap (λ m. shares_at old m) is ∙ found.0 in omega arith)
    | inr apart ↦ ap (λ (e : PoolEntry). e.arena) (same n apart)
  ]

  made_zero : 0 < shares_at old zero.list.arena
  made_zero = omega (arith, stand.shares zero.list.arena, owns_zero zero (lists_beside sealed None))

  made_held_shares : (n : ℕ) → shares_of cursors n ≤ shares_at new n
  made_held_shares n = omega (arith, made_shares n, stand.shares n)

  made_held_arenas : (n : ℕ) → 0 < shares_of cursors n → arena_at new n ≡ arena_at old n
  made_held_arenas n some = made_arenas n (omega (arith, stand.shares n))

  made_others : (y : Memtable) → Among y (lists_beside sealed None) → y.list.arena ≢ zero.list.arena → (arena_at new y.list.arena ≡ arena_at old y.list.arena) × (0 < shares_at new y.list.arena)
  made_others y among apart =
      let some : 0 < shares_at old y.list.arena = omega (arith, stand.shares y.list.arena, owns_beside zero (lists_beside sealed None) y among) in
      (made_arenas y.list.arena some, omega (arith, some, made_shares y.list.arena))

  with_next : (o : Option Sealed) → AllByRecursion (StandsBeside new zero) (lists_beside o None) → StandsBeside new zero z → AllByRecursion (StandsBeside new zero) (lists_beside o (Some z))
  with_next None beside last = (last, tt)
  with_next (Some s) beside last = (beside.0, (last, tt))

  pub made_stands : StandInPool new parents zero (lists_beside sealed (Some z)) cursors
  made_stands = record {
    level = memtable_stands_while old new zero (made_arenas zero.list.arena made_zero) (omega (arith, made_zero, made_shares zero.list.arena)) stand.level;
    beside = with_next sealed (beside_stays old new zero (lists_beside sealed None) made_others stand.beside)
        (record { stands = level; apart = λ e. absurd (let none : shares_at old zero.list.arena ≡ 0 = ap (λ m. shares_at old m) (sym e) ∙ found.0 in omega (arith, none, made_zero)) });
    pinned = pool_pinned parents old new cursors (arenas_stay old new cursors made_held_arenas made_held_shares) made_held_shares stand.pinned;
    shares = λ n. omega (arith, made_shares n, stand.shares n, owns_without_next zero z sealed n);
  }

  pub made_held : opened_held new cursors ≡ opened_held old cursors
  made_held = pool_held parents old new cursors (arenas_stay old new cursors made_held_arenas made_held_shares) made_held_shares stand.pinned

  pub made_entries : entries_held new zero.list ≡ entries_held old zero.list
  made_entries = (stands_while old new zero.list (made_arenas zero.list.arena made_zero) (omega (arith, made_zero, made_shares zero.list.arena)) stand.level.list).1

  pub made_reads : ReadsBeside old new (lists_beside sealed None)
  made_reads = beside_reads old new zero (lists_beside sealed None) made_others stand.beside

-- an empty list has no entries
pub no_entries : (pool : List PoolEntry) (list : ItemList) → list.items ≡ [] → entries_held pool list ≡ []
no_entries pool list none = ap (λ (items : List Item). entries_of (arena_at pool list.arena).pairs items) none

-- a next one that has no room is none
pub none_ready : (next : Option Memtable) → option_map (λ (z : Memtable). z.spare) next ≡ None → next ≡ None
none_ready None none = refl
none_ready (Some z) none = absurd (cc)

-- after the tree got a child
pub grown_stands : (pool : List PoolEntry) (parents : Parents) (p : ℕ) (zero : Memtable) (others : List Memtable) (cursors : List OpenCursor) → IsTree parents → p < length parents
    → StandInPool pool parents zero others cursors → StandInPool pool (with_child parents p) zero others cursors
grown_stands pool parents p zero others cursors tree within stand = record {
  level = stand.level;
  beside = stand.beside;
  pinned = tree_pinned parents p tree within pool cursors stand.pinned;
  shares = stand.shares;
}

-- after a page
pub paged_stands : (pool : List PoolEntry) (parents : Parents) (zero : Memtable) (others : List Memtable) (old new : CursorsView) (n : ℕ) (more : Bool) (told : Pairs)
    → StandInPool pool parents zero others old.opened → ArePinned pool parents new.opened → new ≡ record old { opened = moved_at n more told old.opened }
    → StandInPool pool parents zero others new.opened
paged_stands pool parents zero others old new n more told stand pinned end = record {
  level = stand.level;
  beside = stand.beside;
  pinned = pinned;
  shares = λ m.
      let same : shares_of new.opened m ≡ shares_of old.opened m = ap (λ (x : CursorsView). shares_of x.opened m) end ∙ shares_moved n more told old.opened m in
      omega (arith, stand.shares m, same);
}

-- what is known of shares and cursors after a start, whether it was refused or not
pub started_follow : {T E : Type 0} (r : Result T E) (old new : List PoolEntry) (parents : Parents) (before after : CursorsView) → ArePinned old parents before.opened
    → OnOk r (SharesFollow old new before.opened after.opened) → OnOk r (ArePinned new parents after.opened) → OnErr r ((after ≡ before) × IsSamePool old new)
    → SharesFollow old new before.opened after.opened × ArePinned new parents after.opened
started_follow (Ok x) old new parents before after pinned follow kept err = (follow, kept)
started_follow (Err e) old new parents before after pinned follow kept err =
    subst (λ (x : CursorsView). SharesFollow old new before.opened x.opened × ArePinned new parents x.opened) (sym err.0)
    (same_follow old new err.1 parents before.opened pinned, same_pinned old new err.1 parents before.opened pinned)

-- an empty list has no member
none_in : {X : Type 0} (x : X) → Contains [] x → ⊥
none_in x among = let within = among.1 in omega (arith, within)

-- the first level 0 of a pool stands there alone, and no cursor beside it
pub first_stands : (pool : List PoolEntry) (parents : Parents) (zero : Memtable) → MemtableStands pool zero → shares_at pool zero.list.arena ≡ 1 → SameBeside [] pool zero.list.arena
    → StandInPool pool parents zero [] []
first_stands pool parents zero level share same = record {
  level = level;
  beside = tt;
  pinned = record {
    held = record { stand = λ c among. absurd (none_in c among); shares = λ n. omega arith };
    each = λ c among. absurd (none_in c among);
  };
  shares = λ n. let held : shares_at pool n ≡ owns zero [] n = own n in let none : shares_of [] n ≡ 0 = refl in omega (arith, held, none);
}
  where
    own : (n : ℕ) → shares_at pool n ≡ owns zero [] n
    own n = elim (cases_eq n zero.list.arena) [
      | inl is ↦ subst (λ m. shares_at pool m ≡ owns zero [] m) (sym is) (omega (arith, share, once_same zero.list.arena, owns_is zero [] zero.list.arena, owned_none zero.list.arena))
      | inr apart ↦ omega (arith, ap (λ (e : PoolEntry). e.shares) (same n apart), once_other zero.list.arena n (λ e. apart (sym e)), owns_is zero [] n, owned_none n)
    ]

-- where no cursor is open, the lists stand whatever the tree is
pub unread_stands : (pool : List PoolEntry) (parents other : Parents) (zero : Memtable) (others : List Memtable) (cursors : List OpenCursor) → opened_held pool cursors ≡ []
    → StandInPool pool parents zero others cursors → StandInPool pool other zero others cursors
unread_stands pool parents other zero others [] none stand = record {
  level = stand.level;
  beside = stand.beside;
  pinned = record { held = stand.pinned.held; each = λ c among. absurd (none_in c among) };
  shares = stand.shares;
}
unread_stands pool parents other zero others (c ∷ cs) none stand = absurd (cc)
