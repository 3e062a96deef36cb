-- The cursors of a table, as pools, trees and images change, and as cursors are opened, read and closed.
use Rattle.std.proofs.Common.{◌≡◌, ◌<◌, ◌≤◌, ◌&&◌, ℕ, true, not, eqb, ltb, inl, inr, List, [], ◌∷◌, ◌++◌, Option, Some, None, length, map, refl, sym, ap, ◌∙◌, subst, arith, length-append}
use Rattle.std.specs.List.{Contains, filter, find, list_any}
use Rattle.std.specs.Option.{option_and_then, option_map, option_or, option_to_list, unwrap_or, IfSome}
use Rattle.std.proofs.lemmas.Bool.{lt-ltb, ltb-true}
use Rattle.strat_arena.specs.PoolView.{shares_at}
use Rattle.strat_arena.specs.declared.pool.PoolEntry.{PoolEntry}
use Rattle.strat_base.proofs.ListFacts.{Among, among_in_flat, all_from, all_at, map_same}
use Rattle.strat_base.proofs.TreeLemmas.{path_kept}
use Rattle.strat_base.specs.Tree.{Parents, path, is_known, with_child, IsTree}
use Rattle.strat_base.specs.Entries.{Entry, is_of}
use Rattle.strat_base.specs.declared.descriptors.ArrayDesc.{ArrayDesc}
use Rattle.def_crash.specs.Blocks.{AgreeOn}
use Rattle.def_crash.specs.Image.{Image}
use Rattle.strat_array.proofs.EntriesOnLemmas.{entries_on-kept}
use Rattle.def_bytes.specs.Arrays.{blocks_of}
use Rattle.strat_level.specs.Memtable.{ItemList, entries_held}
use Rattle.strat_model.specs.Pairs.{Pairs}
use Rattle.strat_model.specs.Table.{Cursor}
use Rattle.def_meaning.specs.TableOver.{are_known}
use Rattle.def_state.specs.LookUp.{first_live}
use Rattle.strat_cursor.specs.Cursors.{OpenCursor, IsMapPinned, arrays_named}
use Rattle.strat_cursor.specs.Held.{HeldCursor, cursor_held, opened_held, IsMapHeld, AreRowsOf}
use Rattle.strat_cursor.specs.Pins.{ArePinned, IsListKnown, shares_of}
use Rattle.strat_cursor.specs.Ranges.{IsMapSeen, content_on, sealed_held}
use Rattle.strat_cursor.proofs.PinLemmas.{ListsStay, cursor_stays, pins_kept, among_contained}

-- a table's cursors stay where the maps of the open ones do
rows_stay : (f g : Image) (before after : Parents) (cursors : List HeldCursor) (rows : List Cursor)
    → ((c : HeldCursor) → Among c cursors → (m : Pairs) → IsMapHeld f before c m → IsMapHeld g after c m)
    → AreRowsOf f before cursors rows → AreRowsOf g after cursors rows
rows_stay f g before after [] [] each are = tt
rows_stay f g before after [] (row ∷ rows) each are = absurd are
rows_stay f g before after (c ∷ cursors) [] each are = absurd are
rows_stay f g before after (c ∷ cursors) (row ∷ rows) each are = (
  record { pairs = are.0.pairs; reads = each c (inl refl) are.0.pairs are.0.reads; row_is = are.0.row_is },
  rows_stay f g before after cursors rows (λ d among. each d (inr among)) are.1,
)

-- a cursor as it is held reads what it reads in its pool
zeros_same : (pool : List PoolEntry) (sealed : Option ItemList) → option_to_list (option_map (entries_held pool) sealed) ≡ sealed_held pool sealed
zeros_same pool None = refl
zeros_same pool (Some list) = refl

pub map_pinned : (f : Image) (parents : Parents) (pool : List PoolEntry) (c : OpenCursor) (m : Pairs) → IsMapHeld f parents (cursor_held pool c) m → IsMapPinned f parents pool c m
map_pinned f parents pool c m reads =
    subst (λ (z : List (List Entry)). IsMapSeen f parents (entries_held pool c.zero ∷ z) c.arrays c.version m) (zeros_same pool c.sealed) reads

module _ (parents : Parents) (old new : List PoolEntry) (cursors : List OpenCursor)
    (stay : (c : OpenCursor) → Among c cursors → ListsStay old new c) (shares : (n : ℕ) → shares_of cursors n ≤ shares_at new n)
    (pinned : ArePinned old parents cursors) where
  pub pool_pinned : ArePinned new parents cursors
  pool_pinned =
      pins_kept old new parents cursors stay shares
      (λ c among. let there = among_contained cursors c among in (pinned.held.stand c there, pinned.each c there))

  pub pool_held : opened_held new cursors ≡ opened_held old cursors
  pool_held =
      map_same (cursor_held new) (cursor_held old) cursors
      (λ c among. cursor_stays old new c (stay c among) (pinned.held.stand c (among_contained cursors c among)))

-- the first entry that is live depends on the path of the version alone
first_same : (before after : Parents) (lists : List (List Entry)) (v : ℕ) (key : List ℕ) → path after v ≡ path before v
    → first_live after lists v key ≡ first_live before lists v key
first_same before after [] v key same = refl
first_same before after (entries ∷ lists) v key same =
    λ i. option_or (find (is_of key) (live_by (same i))) (first_same before after lists v key same i)
  where
    live_by : List ℕ → List Entry
    live_by way = filter (λ e. list_any (λ w. eqb w e.version) way && not (list_any (λ other. is_of e.key other && ltb e.version other.version && list_any (λ w. eqb w other.version) way) entries)) entries

known_grown : (parents : Parents) (p v : ℕ) → is_known parents v ≡ true → is_known (with_child parents p) v ≡ true
known_grown parents p v known = lt-ltb v (length (with_child parents p)) (let lt : v < length parents = ltb-true v (length parents) known in omega (arith, length-append parents (Some p ∷ [])))

all_grown : (parents : Parents) (p : ℕ) (entries : List Entry) → are_known parents entries ≡ true → are_known (with_child parents p) entries ≡ true
all_grown parents p entries known = all_from (λ e. is_known (with_child parents p) e.version) entries (λ e among. known_grown parents p e.version (all_at (λ x. is_known parents x.version) e entries known among))

sealed_grown : (pool : List PoolEntry) (parents : Parents) (p : ℕ) (sealed : Option ItemList) → IfSome sealed (IsListKnown pool parents) → IfSome sealed (IsListKnown pool (with_child parents p))
sealed_grown pool parents p None known = tt
sealed_grown pool parents p (Some list) known = all_grown parents p (entries_held pool list) known

module _ (parents : Parents) (p : ℕ) (tree : IsTree parents) (within : p < length parents) where
  pub tree_pinned : (pool : List PoolEntry) (cursors : List OpenCursor) → ArePinned pool parents cursors → ArePinned pool (with_child parents p) cursors
  tree_pinned pool cursors pinned = record {
    held = pinned.held;
    each = λ c there.
        let at = pinned.each c there in
        let older = at.version in
        let longer : c.version < length (with_child parents p) = omega (arith, length-append parents (Some p ∷ [])) in
        record { zero = all_grown parents p (entries_held pool c.zero) at.zero; sealed = sealed_grown pool parents p c.sealed at.sealed; arrays = at.arrays; few = at.few; version = longer };
  }

  pub tree_rows : (f : Image) (cursors : List HeldCursor) (rows : List Cursor) → ((c : HeldCursor) → Contains cursors c → c.version < length parents)
      → AreRowsOf f parents cursors rows → AreRowsOf f (with_child parents p) cursors rows
  tree_rows f cursors rows known are =
      rows_stay f f parents (with_child parents p) cursors rows
      (λ c among m reads. record {
        ordered = reads.ordered;
        each = λ key.
            reads.each key
            ∙ ap (λ (e : Option Entry). option_and_then (λ x. x.value) e)
            (sym (first_same parents (with_child parents p) ((c.zero ∷ option_to_list c.sealed) ++ map (content_on f) c.arrays) c.version key
            (path_kept parents tree p within c.version (known c (among_contained cursors c among)))));
      })
      are

-- arrays whose blocks stay hold what they held
contents_stay : (f g : Image) (arrays : List ArrayDesc) → ((a : ArrayDesc) → Among a arrays → AgreeOn (blocks_of a.extents) f g) → map (content_on g) arrays ≡ map (content_on f) arrays
contents_stay f g [] each = refl
contents_stay f g (a ∷ arrays) each =
    λ i. unwrap_or (entries_on-kept f g (blocks_of a.extents) (each a (inl refl)) i) [] ∷ contents_stay f g arrays (λ b among. each b (inr among)) i

pub image_rows : (f g : Image) (parents : Parents) (cursors : List HeldCursor) (rows : List Cursor)
    → ((a : ArrayDesc) → Contains (arrays_named cursors) a → AgreeOn (blocks_of a.extents) f g)
    → AreRowsOf f parents cursors rows → AreRowsOf g parents cursors rows
image_rows f g parents cursors rows agree are =
    rows_stay f g parents parents cursors rows
    (λ c among m reads. record {
      ordered = reads.ordered;
      each = λ key.
          reads.each key
          ∙ ap (λ (lists : List (List Entry)). option_and_then (λ x. x.value) (first_live parents ((c.zero ∷ option_to_list c.sealed) ++ lists) c.version key))
          (sym (contents_stay f g c.arrays
          (λ a named. agree a (among_contained (arrays_named cursors) a (among_in_flat (λ (x : HeldCursor). x.arrays) cursors c a among named)))));
    })
    are
