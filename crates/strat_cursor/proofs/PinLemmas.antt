-- What cursors hold on to, as shares and arenas change.
use Rattle.std.proofs.Common.{◌≡◌, ◌<◌, ◌≤◌, ◌+◌, ℕ, zero, suc, Bool, false, true, cond, not, eqb, inl, inr, List, [], ◌∷◌, ◌++◌, Option, Some, None, length, get_or, take, drop, refl, sym, ap, ◌∙◌, subst, arith}
use Rattle.std.specs.List.{Contains, count_by, flat_map, filter_map, cons_option, list_all}
use Rattle.std.specs.Option.{IfSome, option_map}
use Rattle.std.proofs.lemmas.Bool.{eq-eqb}
use Rattle.std.proofs.lemmas.List.Sums.{sum_by-append, sum_by-cons}
use Rattle.strat_arena.specs.PoolView.{arena_at, shares_at}
use Rattle.strat_arena.specs.Items.{entries_of, have_pairs}
use Rattle.strat_arena.specs.declared.pool.PoolEntry.{PoolEntry}
use Rattle.strat_base.proofs.ListFacts.{Among, among_split, among_left, among_right, filter_among, find_some}
use Rattle.strat_base.specs.Tree.{Parents, below}
use Rattle.strat_base.specs.Entries.{Entry, is_ascending}
use Rattle.strat_base.specs.EntryBytes.{fits_fields}
use Rattle.strat_base.specs.declared.descriptors.ArrayDesc.{ArrayDesc}
use Rattle.strat_base.specs.declared.descriptors.LevelDesc.{LevelDesc}
use Rattle.strat_level.specs.Memtable.{ItemList, Memtable, entries_held, ListStands}
use Rattle.strat_level.specs.Levels.{desc_for, is_for}
use Rattle.strat_level.proofs.PutLemmas.{stands_while}
use Rattle.def_meaning.specs.TableOver.{are_known}
use Rattle.def_recovery.proofs.BadLemmas.{contained_at}
use Rattle.strat_cursor.specs.Looking.{MayBeFound, arrays_there, levels_there, arrays_asked}
use Rattle.strat_cursor.specs.Ranges.{sealed_held}
use Rattle.strat_cursor.specs.Cursors.{CursorOver, OpenCursor, zeros_pinned, without_cursor, moved_at, moved_on}
use Rattle.strat_cursor.specs.Held.{cursor_held}
use Rattle.strat_model.specs.Pairs.{Pairs}
use Rattle.strat_cursor.specs.Pins.{arena_pinned, arenas_of, shares_of, SharesFollow, ListsStand, HoldShares, IsListKnown, IsPinned, ArePinned, MayBePinned, TakesShares, GivesShares, IsCopyOf, IsCopyIfAny}

-- how many shares a cursor has in an arena
abbrev pub takes : OpenCursor → ℕ → ℕ
takes c n = count_by (λ a. eqb a n) (arenas_of c)

pub shares_first : (c : OpenCursor) (cursors : List OpenCursor) (n : ℕ) → shares_of (c ∷ cursors) n ≡ takes c n + shares_of cursors n
shares_first c cursors n = sum_by-append (λ (a : ℕ). cond (eqb a n) 1 0) (arenas_of c) (flat_map arenas_of cursors)

pub shares_more : (cursors : List OpenCursor) (c : OpenCursor) (n : ℕ) → shares_of (cursors ++ c ∷ []) n ≡ shares_of cursors n + takes c n
shares_more [] c n = shares_first c [] n ∙ (let none : shares_of [] n ≡ 0 = refl in omega arith)
shares_more (d ∷ cursors) c n =
    omega (arith, shares_first d (cursors ++ c ∷ []) n, shares_more cursors c n, shares_first d cursors n)

shares_less : (cursors : List OpenCursor) (i : ℕ) (d : OpenCursor) (n : ℕ) → i < length cursors
    → shares_of (take i cursors ++ drop (suc i) cursors) n + takes (get_or cursors i d) n ≡ shares_of cursors n
shares_less [] i d n within = absurd (omega arith)
shares_less (c ∷ cursors) zero d n within = omega (arith, shares_first c cursors n)
shares_less (c ∷ cursors) (suc i) d n within =
    omega (arith, shares_first c (take i cursors ++ drop (suc i) cursors) n, shares_less cursors i d n (omega arith), shares_first c cursors n)

-- an arena that is listed is counted
counted : (arenas : List ℕ) (n : ℕ) → Among n arenas → 0 < count_by (λ a. eqb a n) arenas
counted [] n among = absurd among
counted (a ∷ arenas) n (inl here) = omega (arith, sum_by-cons (λ (x : ℕ). cond (eqb x n) 1 0) a arenas, ap {B = ℕ} (λ (t : Bool). cond t 1 0) (eq-eqb a n (sym here)))
counted (a ∷ arenas) n (inr there) = omega (arith, sum_by-cons (λ (x : ℕ). cond (eqb x n) 1 0) a arenas, counted arenas n there)

-- each arena of a cursor is shared by it
share_there : (cursors : List OpenCursor) (c : OpenCursor) (n : ℕ) → Among c cursors → Among n (arenas_of c) → 0 < shares_of cursors n
share_there [] c n among arena = absurd among
share_there (d ∷ cursors) c n (inl here) arena =
    omega (arith, shares_first d cursors n, counted (arenas_of d) n (subst (λ (x : OpenCursor). Among n (arenas_of x)) here arena))
share_there (d ∷ cursors) c n (inr there) arena = omega (arith, shares_first d cursors n, share_there cursors c n there arena)

-- what is known of a list goes with its entries
known_kept : (old new : List PoolEntry) (parents : Parents) (list : ItemList) → entries_held new list ≡ entries_held old list → IsListKnown old parents list
    → IsListKnown new parents list
known_kept old new parents list same known = ap (λ (es : List Entry). are_known parents es) same ∙ known

-- a list that is there if any stands and reads as before
sealed_kept : (old new : List PoolEntry) (sealed : Option ItemList)
    → ((list : ItemList) → sealed ≡ Some list → ListStands old list → ListStands new list × (entries_held new list ≡ entries_held old list))
    → IfSome sealed (ListStands old) → IfSome sealed (ListStands new) × (sealed_held new sealed ≡ sealed_held old sealed)
sealed_kept old new None each stands = (tt, refl)
sealed_kept old new (Some list) each stands = let kept = each list refl stands in (kept.0, ap (λ (es : List Entry). es ∷ []) kept.1)

sealed_known : (old new : List PoolEntry) (parents : Parents) (sealed : Option ItemList) → sealed_held new sealed ≡ sealed_held old sealed
    → IfSome sealed (IsListKnown old parents) → IfSome sealed (IsListKnown new parents)
sealed_known old new parents None same known = tt
sealed_known old new parents (Some list) same known = known_kept old new parents list (let first : entries_held new list ≡ entries_held old list = ap first_list same in first) known
  where
    first_list : List (List Entry) → List Entry
    first_list [] = []
    first_list (x ∷ xs) = x

sealed_same : (old new : List PoolEntry) (sealed : Option ItemList)
    → ((list : ItemList) → sealed ≡ Some list → ListStands old list → ListStands new list × (entries_held new list ≡ entries_held old list))
    → IfSome sealed (ListStands old) → option_map (entries_held new) sealed ≡ option_map (entries_held old) sealed
sealed_same old new None each stands = refl
sealed_same old new (Some list) each stands = ap (λ (es : List Entry). Some es) (each list refl stands).1

-- lists of level 0 that stood in a pool stand in another, and read as before
abbrev pub ListsStay : List PoolEntry → List PoolEntry → OpenCursor → Type 0
ListsStay old new c = (list : ItemList) → Among list.arena (arenas_of c) → ListStands old list → ListStands new list × (entries_held new list ≡ entries_held old list)

module _ (old new : List PoolEntry) (c : OpenCursor) (stay : ListsStay old new c) where
  pub lists_kept : ListsStand old c → ListsStand new c × (zeros_pinned new c ≡ zeros_pinned old c)
  lists_kept stand =
      let first = stay c.zero (inl refl) stand.zero in
      let second = sealed_kept old new c.sealed (λ list is. stay list (inr (subst (λ (s : Option ItemList). Among list.arena (arena_pinned s)) (sym is) (inl refl)))) stand.sealed in
      (record { zero = first.0; sealed = second.0 }, λ i. first.1 i ∷ second.1 i)

  pub pinned_kept : (parents : Parents) → ListsStand old c → IsPinned old parents c → IsPinned new parents c
  pinned_kept parents stand pinned =
      let first = stay c.zero (inl refl) stand.zero in
      let second = sealed_kept old new c.sealed (λ list is. stay list (inr (subst (λ (s : Option ItemList). Among list.arena (arena_pinned s)) (sym is) (inl refl)))) stand.sealed in
      record {
        zero = known_kept old new parents c.zero first.1 pinned.zero;
        sealed = sealed_known old new parents c.sealed second.1 pinned.sealed;
        arrays = pinned.arrays;
        few = pinned.few;
        version = pinned.version;
      }

  -- and so the cursor is held as before
  pub cursor_stays : ListsStand old c → cursor_held new c ≡ cursor_held old c
  cursor_stays stand =
      let first = stay c.zero (inl refl) stand.zero in
      let second = sealed_same old new c.sealed (λ list is. stay list (inr (subst (λ (s : Option ItemList). Among list.arena (arena_pinned s)) (sym is) (inl refl)))) stand.sealed in
      λ i. record { number = c.number; version = c.version; zero = first.1 i; sealed = second i; arrays = c.arrays; from = c.from; hi = c.hi }

-- a cursor's lists stay where its arenas do
pub arenas_stay : (old new : List PoolEntry) (cursors : List OpenCursor) → ((n : ℕ) → 0 < shares_of cursors n → arena_at new n ≡ arena_at old n)
    → ((n : ℕ) → shares_of cursors n ≤ shares_at new n) → (c : OpenCursor) → Among c cursors → ListsStay old new c
arenas_stay old new cursors same shares c among list arena stands =
    let some : 0 < shares_of cursors list.arena = share_there cursors c list.arena among arena in
    let less = shares list.arena in
    stands_while old new list (same list.arena some) (omega arith) stands

-- cursors of others are held as these are, where their lists stay
pub held_kept : (old new : List PoolEntry) (cursors : List OpenCursor) → ((c : OpenCursor) → Among c cursors → ListsStay old new c)
    → ((n : ℕ) → shares_of cursors n ≤ shares_at new n) → ((c : OpenCursor) → Among c cursors → ListsStand old c) → HoldShares new cursors
held_kept old new cursors stay shares stand = record {
  stand = λ c at. let among = contained_at c cursors at.0 at.1 at.2 in (lists_kept old new c (stay c among) (stand c among)).0;
  shares = shares;
}

pub pins_kept : (old new : List PoolEntry) (parents : Parents) (cursors : List OpenCursor) → ((c : OpenCursor) → Among c cursors → ListsStay old new c)
    → ((n : ℕ) → shares_of cursors n ≤ shares_at new n) → ((c : OpenCursor) → Among c cursors → ListsStand old c × IsPinned old parents c) → ArePinned new parents cursors
pins_kept old new parents cursors stay shares each = record {
  held = held_kept old new cursors stay shares (λ c among. (each c among).0);
  each = λ c at. let among = contained_at c cursors at.0 at.1 at.2 in
      pinned_kept old new c (stay c among) parents (each c among).0 (each c among).1;
}

-- an element of a list stands in it
pub among_contained : {X : Type 0} (xs : List X) (x : X) → Among x xs → Contains xs x
among_contained [] x among = absurd among
among_contained (y ∷ ys) x (inl here) = (0, omega arith, sym here)
among_contained (y ∷ ys) x (inr there) = let at = among_contained ys x there in (suc at.0, omega (arith, at.1), at.2)

module _ (old new : List PoolEntry) (cursors : List OpenCursor) (number i : ℕ) (d : OpenCursor) (within : i < length cursors)
    (rest : without_cursor number cursors ≡ take i cursors ++ drop (suc i) cursors) where
  -- a cursor has its shares
  pub closed_room : HoldShares old cursors → (n : ℕ) → takes (get_or cursors i d) n ≤ shares_at old n
  closed_room held n = omega (arith, shares_less cursors i d n within, held.shares n)

  closed_shares : (n : ℕ) → shares_of (without_cursor number cursors) n + takes (get_or cursors i d) n ≡ shares_of cursors n
  closed_shares n = ap (λ (x : List OpenCursor). shares_of x n + takes (get_or cursors i d) n) rest ∙ shares_less cursors i d n within

  pub closed_follow : GivesShares old new (arenas_of (get_or cursors i d)) → SharesFollow old new cursors (without_cursor number cursors)
  closed_follow gives = record { shares = λ n. omega (arith, closed_shares n, gives.shares n); arenas = gives.arenas }

  pub closed_held : HoldShares old cursors → GivesShares old new (arenas_of (get_or cursors i d)) → HoldShares new (without_cursor number cursors)
  closed_held held gives =
      let left : (n : ℕ) → shares_of (without_cursor number cursors) n ≤ shares_at new n = λ n. omega (arith, closed_shares n, gives.shares n, held.shares n) in
      held_kept old new (without_cursor number cursors)
      (arenas_stay old new (without_cursor number cursors) (λ n some. gives.arenas n (let less = left n in omega arith)) left)
      left
      (λ c among. held.stand c (among_contained cursors c (filter_among (λ (x : OpenCursor). not (eqb x.number number)) cursors c among).0))

-- a copy of a list stands and reads as the list
copy_stands : (pool : List PoolEntry) (of list : ItemList) → IsCopyOf of list → ListStands pool of → ListStands pool list × (entries_held pool list ≡ entries_held pool of)
copy_stands pool of list copy stands =
    let reads : entries_held pool list ≡ entries_held pool of = λ i. entries_of (arena_at pool (copy.arena i)).pairs (copy.items i) in (
      record {
        shared = subst (λ n. 0 < shares_at pool n) (sym copy.arena) stands.shared;
        slots = (λ i. have_pairs (arena_at pool (copy.arena i)).pairs (copy.items i)) ∙ stands.slots;
        ascending = ap (λ (es : List Entry). is_ascending es) reads ∙ stands.ascending;
        lawful = ap (λ (es : List Entry). list_all fits_fields es) reads ∙ stands.lawful;
      },
      reads,
    )

copy_pinned : (pool : List PoolEntry) (parents : Parents) (of list : ItemList) → IsCopyOf of list → ListStands pool of × IsListKnown pool parents of
    → ListStands pool list × IsListKnown pool parents list
copy_pinned pool parents of list copy there =
    let copied = copy_stands pool of list copy there.0 in (copied.0, ap (λ (es : List Entry). are_known parents es) copied.1 ∙ there.1)

copies_pinned : (pool : List PoolEntry) (parents : Parents) (of : Option Memtable) (list : Option ItemList) → IsCopyIfAny of list
    → IfSome of (λ z. ListStands pool z.list × IsListKnown pool parents z.list) → IfSome list (ListStands pool) × IfSome list (IsListKnown pool parents)
copies_pinned pool parents None None copy there = (tt, tt)
copies_pinned pool parents None (Some list) copy there = absurd copy
copies_pinned pool parents (Some of) None copy there = absurd copy
copies_pinned pool parents (Some of) (Some list) copy there = copy_pinned pool parents of.list list copy there

-- what is asked at a version is there
pub asked_of_levels : (parents : Parents) (v : ℕ) (levels : List LevelDesc) (a : ArrayDesc) → Among a (filter_map (λ level. desc_for parents level v) levels)
    → Among a (flat_map (λ (level : LevelDesc). level.arrays) levels)
asked_of_levels parents v [] a among = among
asked_of_levels parents v (level ∷ levels) a among =
    by (desc_for parents level v) refl (asked_of_levels parents v levels a) among
  where
    by : (o : Option ArrayDesc) → desc_for parents level v ≡ o
        → (Among a (filter_map (λ x. desc_for parents x v) levels) → Among a (flat_map (λ (x : LevelDesc). x.arrays) levels))
        → Among a (cons_option o (filter_map (λ x. desc_for parents x v) levels))
        → Among a (level.arrays ++ flat_map (λ (x : LevelDesc). x.arrays) levels)
    by None is rest among = among_right level.arrays (flat_map (λ (x : LevelDesc). x.arrays) levels) a (rest among)
    by (Some x) is rest (inl here) =
        among_left level.arrays (flat_map (λ (y : LevelDesc). y.arrays) levels) a
        (subst (λ (y : ArrayDesc). Among y level.arrays) (sym here) (find_some (is_for (below parents v level.horizon)) level.arrays x is).0)
    by (Some x) is rest (inr later) = among_right level.arrays (flat_map (λ (x : LevelDesc). x.arrays) levels) a (rest later)

pub asked_there : (parents : Parents) (v : ℕ) (levels : List (Option LevelDesc)) (a : ArrayDesc) → Among a (arrays_asked parents levels v) → Among a (arrays_there levels)
asked_there parents v levels a among = asked_of_levels parents v (levels_there levels) a among

module _ (old new : List PoolEntry) (cursors : List OpenCursor) (c : OpenCursor) (taken : TakesShares old new (arenas_of c)) where
  pub started_follow : SharesFollow old new cursors (cursors ++ c ∷ [])
  started_follow = record { shares = λ n. omega (arith, taken.shares n, shares_more cursors c n); arenas = λ n some. taken.arenas n }

  stays : (d : OpenCursor) → ListsStay old new d
  stays d list arena stands =
      let some = stands.shared in
      let more = taken.shares list.arena in
      stands_while old new list (taken.arenas list.arena) (omega arith) stands

  pub started_pinned : (parents : Parents) (of : Memtable) (sealed : Option Memtable) (levels : List (Option LevelDesc)) (version : ℕ)
      → ArePinned old parents cursors → MayBePinned old parents of sealed levels version → IsCopyOf of.list c.zero × IsCopyIfAny sealed c.sealed
      → c.arrays ≡ arrays_asked parents levels version → c.version ≡ version → length c.arrays ≤ 22 → ArePinned new parents (cursors ++ c ∷ [])
  started_pinned parents of sealed levels version pinned may copies arrays at few =
      let first = copy_pinned old parents of.list c.zero copies.0 may.first in
      let second = copies_pinned old parents sealed c.sealed copies.1 may.second in
      let readable : MayBeFound c.arrays = record {
        each = λ a there.
            may.arrays.each a (among_contained (arrays_there levels) a
            (asked_there parents version levels a (subst (λ (x : List ArrayDesc). Among a x) arrays (contained_at a c.arrays there.0 there.1 there.2))));
      } in
      let known : c.version < length parents = subst (λ v. v < length parents) (sym at) may.known in
      let here : ListsStand old c × IsPinned old parents c =
      (record { zero = first.0; sealed = second.0 }, record { zero = first.1; sealed = second.1; arrays = readable; few = few; version = known }) in
      pins_kept old new parents (cursors ++ c ∷ []) (λ d among. stays d)
      (λ n. omega (arith, taken.shares n, shares_more cursors c n, pinned.held.shares n))
      (λ d among. elim (among_split cursors (c ∷ []) d among) [
        | inl older ↦ let at_place = among_contained cursors d older in (pinned.held.stand d at_place, pinned.each d at_place)
        | inr last ↦ elim last [
          | inl same ↦ subst (λ (x : OpenCursor). ListsStand old x × IsPinned old parents x) (sym same) here
          | inr none ↦ absurd none
        ]
      ])

shares_without : (number : ℕ) (cursors : List OpenCursor) (n : ℕ) → shares_of (without_cursor number cursors) n ≤ shares_of cursors n
shares_without number [] n = omega arith
shares_without number (c ∷ cursors) n = by (shares_without number cursors n) (not (eqb c.number number))
  where
    by : shares_of (without_cursor number cursors) n ≤ shares_of cursors n → (b : Bool)
        → shares_of (cond b (c ∷ without_cursor number cursors) (without_cursor number cursors)) n ≤ shares_of (c ∷ cursors) n
    by rest true = omega (arith, rest, shares_first c (without_cursor number cursors) n, shares_first c cursors n)
    by rest false = omega (arith, rest, shares_first c cursors n)

-- cursors but for one may go on as all may
pub pinned_without : (pool : List PoolEntry) (parents : Parents) (number : ℕ) (cursors : List OpenCursor) → ArePinned pool parents cursors
    → ArePinned pool parents (without_cursor number cursors)
pinned_without pool parents number cursors pinned =
    let older : (c : OpenCursor) → Contains (without_cursor number cursors) c → Contains cursors c = λ c at.
    among_contained cursors c (filter_among (λ (x : OpenCursor). not (eqb x.number number)) cursors c (contained_at c (without_cursor number cursors) at.0 at.1 at.2)).0 in
    record {
      held = record { stand = λ c at. pinned.held.stand c (older c at); shares = λ n. omega (arith, shares_without number cursors n, pinned.held.shares n) };
      each = λ c at. pinned.each c (older c at);
    }

pub closed_pinned : (old new : List PoolEntry) (parents : Parents) (number : ℕ) (cursors : List OpenCursor) → HoldShares new (without_cursor number cursors)
    → SharesFollow old new cursors (without_cursor number cursors) → ArePinned old parents cursors → ArePinned new parents (without_cursor number cursors)
closed_pinned old new parents number cursors held follow pinned =
    let less = pinned_without old parents number cursors pinned in
    pins_kept old new parents (without_cursor number cursors)
    (arenas_stay old new (without_cursor number cursors) (λ n some. follow.arenas n (let h = held.shares n in omega arith)) held.shares)
    held.shares
    (λ c among. let at = among_contained (without_cursor number cursors) c among in (less.held.stand c at, less.each c at))

pub shares_moved : (number : ℕ) (more : Bool) (told : Pairs) (cursors : List OpenCursor) (n : ℕ) → shares_of (moved_at number more told cursors) n ≡ shares_of cursors n
shares_moved number more told [] n = refl
shares_moved number more told (c ∷ cursors) n = by (eqb c.number number) (shares_moved number more told cursors n)
  where
    by : (b : Bool) → shares_of (moved_at number more told cursors) n ≡ shares_of cursors n
        → shares_of (cond b (moved_on more told c) c ∷ moved_at number more told cursors) n ≡ shares_of (c ∷ cursors) n
    by true rest = omega (arith, rest, shares_first (moved_on more told c) (moved_at number more told cursors) n, shares_first c cursors n)
    by false rest = omega (arith, rest, shares_first c (moved_at number more told cursors) n, shares_first c cursors n)

-- what holds of cursors wherever they go on holds of them after a page
pub each_moved : {L : Type 0} (P : CursorOver L → Type 0) (number : ℕ) (more : Bool) (told : Pairs) (cursors : List (CursorOver L))
    → ((c : CursorOver L) → P c → P (moved_on more told c)) → ((c : CursorOver L) → Among c cursors → P c) → (c : CursorOver L) → Among c (moved_at number more told cursors) → P c
each_moved P number more told [] goes each c among = absurd among
each_moved P number more told (d ∷ cursors) goes each c (inl here) = subst P (sym here) (by (eqb d.number number))
  where
    by : (b : Bool) → P (cond b (moved_on more told d) d)
    by true = goes d (each d (inl refl))
    by false = each d (inl refl)
each_moved P number more told (d ∷ cursors) goes each c (inr there) = each_moved P number more told cursors goes (λ x among. each x (inr among)) c there

-- cursors may go on after one of them told a page
pub pinned_moved : (pool : List PoolEntry) (parents : Parents) (number : ℕ) (more : Bool) (told : Pairs) (cursors : List OpenCursor) → ArePinned pool parents cursors
    → ArePinned pool parents (moved_at number more told cursors)
pinned_moved pool parents number more told cursors pinned =
    let each : (c : OpenCursor) → Contains (moved_at number more told cursors) c → ListsStand pool c × IsPinned pool parents c = λ c at.
    each_moved (λ x. ListsStand pool x × IsPinned pool parents x) number more told cursors
    (λ x both. (
      record { zero = both.0.zero; sealed = both.0.sealed },
      record { zero = both.1.zero; sealed = both.1.sealed; arrays = both.1.arrays; few = both.1.few; version = both.1.version },
    ))
    (λ x among. let there = among_contained cursors x among in (pinned.held.stand x there, pinned.each x there))
    c (contained_at c (moved_at number more told cursors) at.0 at.1 at.2) in
    record {
      held = record { stand = λ c at. (each c at).0; shares = λ n. omega (arith, shares_moved number more told cursors n, pinned.held.shares n) };
      each = λ c at. (each c at).1;
    }
