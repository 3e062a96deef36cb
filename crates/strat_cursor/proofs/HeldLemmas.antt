-- Open cursors as they lie in a pool, and as they are held.
use Rattle.std.proofs.Common.{◌≡◌, ◌≤◌, ◌+◌, ℕ, Bool, true, false, not, cond, eqb, ◌||◌, inl, List, [], ◌∷◌, ◌++◌, Option, Some, None, refl, sym, ap, ◌∙◌, subst, arith}
use Rattle.std.proofs.lemmas.List.{map-append}
use Rattle.std.specs.List.{filter, list_any}
use Rattle.std.specs.Option.{option_map, IfSome}
use Rattle.strat_arena.specs.PoolView.{arena_at, shares_at}
use Rattle.strat_arena.specs.ArenaView.{ArenaView}
use Rattle.strat_arena.specs.Items.{entries_of}
use Rattle.strat_arena.specs.declared.pool.PoolEntry.{PoolEntry}
use Rattle.strat_base.proofs.ListFacts.{among_right}
use Rattle.strat_base.specs.Tree.{Parents}
use Rattle.strat_base.specs.Entries.{Entry}
use Rattle.strat_base.specs.declared.descriptors.ArrayDesc.{ArrayDesc}
use Rattle.strat_level.specs.Memtable.{ItemList, Memtable, entries_held, ListStands}
use Rattle.strat_model.specs.Pairs.{Pairs}
use Rattle.strat_cursor.specs.Cursors.{OpenCursor, CursorsView, is_opened, moved_at, moved_on, without_cursor, arrays_named, arrays_of_number, is_array_named, those_named, closed_at, retired_by}
use Rattle.strat_cursor.specs.Held.{HeldCursor, HeldCursors, cursor_held, opened_held, cursors_held}
use Rattle.strat_cursor.specs.Pins.{ArePinned, SharesFollow, IsStarted, IsCopyOf, IsCopyIfAny, shares_of}
use Rattle.strat_cursor.proofs.PinLemmas.{arenas_stay, among_contained, shares_more, pinned_without}
use Rattle.strat_cursor.proofs.RowLemmas.{pool_held}

module _ (pool : List PoolEntry) where
  pub held_moved : (n : ℕ) (more : Bool) (told : Pairs) (cursors : List OpenCursor) → opened_held pool (moved_at n more told cursors) ≡ moved_at n more told (opened_held pool cursors)
  held_moved n more told [] = refl
  held_moved n more told (c ∷ cursors) = λ i. by (eqb c.number n) i ∷ held_moved n more told cursors i
    where
      by : (b : Bool) → cursor_held pool (cond b (moved_on more told c) c) ≡ cond b (moved_on more told (cursor_held pool c)) (cursor_held pool c)
      by true = refl
      by false = refl

  pub held_without : (n : ℕ) (cursors : List OpenCursor) → opened_held pool (without_cursor n cursors) ≡ without_cursor n (opened_held pool cursors)
  held_without n [] = refl
  held_without n (c ∷ cursors) = by (not (eqb c.number n)) (held_without n cursors)
    where
      by : (b : Bool) → opened_held pool (without_cursor n cursors) ≡ without_cursor n (opened_held pool cursors)
          → opened_held pool (cond b (c ∷ without_cursor n cursors) (without_cursor n cursors))
          ≡ cond b (cursor_held pool c ∷ without_cursor n (opened_held pool cursors)) (without_cursor n (opened_held pool cursors))
      by true rest = ap (λ (x : List HeldCursor). cursor_held pool c ∷ x) rest
      by false rest = rest

  pub held_opened : (n : ℕ) (cursors : List OpenCursor) → is_opened n (opened_held pool cursors) ≡ is_opened n cursors
  held_opened n [] = refl
  held_opened n (c ∷ cursors) = ap (λ b. eqb c.number n || b) (held_opened n cursors)

  pub held_arrays : (cursors : List OpenCursor) → arrays_named (opened_held pool cursors) ≡ arrays_named cursors
  held_arrays [] = refl
  held_arrays (c ∷ cursors) = ap (λ (x : List ArrayDesc). c.arrays ++ x) (held_arrays cursors)

  pub held_of_number : (n : ℕ) (cursors : List OpenCursor) → arrays_of_number n (opened_held pool cursors) ≡ arrays_of_number n cursors
  held_of_number n [] = refl
  held_of_number n (c ∷ cursors) =
      elim (eqb c.number n) as (λ b. arrays_named (cond b (cursor_held pool c ∷ filter (λ (x : HeldCursor). eqb x.number n) (opened_held pool cursors)) (filter (λ (x : HeldCursor). eqb x.number n) (opened_held pool cursors)))
      ≡ arrays_named (cond b (c ∷ filter (λ (x : OpenCursor). eqb x.number n) cursors) (filter (λ (x : OpenCursor). eqb x.number n) cursors))) [
        | false ↦ held_of_number n cursors
        | true ↦ ap (λ (x : List ArrayDesc). c.arrays ++ x) (held_of_number n cursors)
      ]

  pub held_names : (cursors : List OpenCursor) (id : ℕ) → is_array_named (opened_held pool cursors) id ≡ is_array_named cursors id
  held_names [] id = refl
  held_names (c ∷ cursors) id = ap (λ b. list_any (λ (a : ArrayDesc). eqb a.id id) c.arrays || b) (held_names cursors id)

  -- a close of cursors as they are held
  pub held_closed : (n : ℕ) (c : CursorsView) → cursors_held pool (closed_at n c) ≡ closed_at n (cursors_held pool c)
  held_closed n c =
      let same : opened_held pool (without_cursor n c.opened) ≡ without_cursor n (opened_held pool c.opened) = held_without n c.opened in
      let kept : those_named (without_cursor n c.opened) c.retired ≡ those_named (without_cursor n (opened_held pool c.opened)) c.retired =
      (λ i. filter {X = ArrayDesc} (λ a. sym (held_names (without_cursor n c.opened) a.id) i) c.retired) ∙ (λ i. those_named (same i) c.retired) in
      λ i. record { opened = same i; next = c.next; retired = kept i; room = c.room }

  pub held_retired : (a : ArrayDesc) (c : CursorsView) → cursors_held pool (retired_by a c) ≡ retired_by a (cursors_held pool c)
  held_retired a c = by (is_array_named c.opened a.id) ∙ (λ i. cond (sym (held_names c.opened a.id) i) more (cursors_held pool c))
    where
      more : HeldCursors
      more = record (cursors_held pool c) { retired = c.retired ++ a ∷ [] }

      by : (b : Bool) → cursors_held pool (cond b (record c { retired = c.retired ++ a ∷ [] }) c) ≡ cond b more (cursors_held pool c)
      by true = refl
      by false = refl

copy_reads : (before after : List PoolEntry) (of list : ItemList) → IsCopyOf of list → arena_at after list.arena ≡ arena_at before list.arena
    → entries_held after list ≡ entries_held before of
copy_reads before after of list copy same =
    ap (λ (a : ArenaView). entries_of a.pairs list.items) same ∙ (λ i. entries_of (arena_at before (copy.arena i)).pairs (copy.items i))

copies_read : (before after : List PoolEntry) (of : Option Memtable) (list : Option ItemList) → IsCopyIfAny of list
    → ((l : ItemList) → list ≡ Some l → arena_at after l.arena ≡ arena_at before l.arena)
    → option_map (entries_held after) list ≡ option_map (λ z. entries_held before z.list) of
copies_read before after None None copy same = refl
copies_read before after None (Some list) copy same = absurd copy
copies_read before after (Some of) None copy same = absurd copy
copies_read before after (Some of) (Some list) copy same = ap (λ (es : List Entry). Some es) (copy_reads before after of.list list copy (same list refl))

-- a cursor that was started reads what its lists and arrays had
abbrev pub started_held : List PoolEntry → ℕ → ℕ → List ℕ → List ℕ → Memtable → Option Memtable → List ArrayDesc → HeldCursor
started_held pool number v lo hi of sealed arrays = record {
  number = number;
  version = v;
  zero = entries_held pool of.list;
  sealed = option_map (λ z. entries_held pool z.list) sealed;
  arrays = arrays;
  from = Some lo;
  hi = hi;
}

pub held_started : (parents : Parents) (before after : List PoolEntry) (old new : CursorsView) (v : ℕ) (lo hi : List ℕ) (of : Memtable) (sealed : Option Memtable) (arrays : List ArrayDesc)
    → ArePinned before parents old.opened → ArePinned after parents new.opened → SharesFollow before after old.opened new.opened
    → IsStarted old new v lo hi of sealed arrays
    → cursors_held after new ≡ record (cursors_held before old) {
      opened = opened_held before old.opened ++ started_held before old.next v lo hi of sealed arrays ∷ [];
      next = old.next + 1;
    }
held_started parents before after old new v lo hi of sealed arrays pinned pinned_after follow started =
    let c : OpenCursor = started.cursor in
    let more : new.opened ≡ old.opened ++ c ∷ [] = ap (λ (x : CursorsView). x.opened) started.after in
    let held : ArePinned after parents (old.opened ++ c ∷ []) = subst (λ (x : List OpenCursor). ArePinned after parents x) more pinned_after in
    let less : (n : ℕ) → shares_of old.opened n ≤ shares_at after n = λ n. omega (arith, held.held.shares n, shares_more old.opened c n) in
    let others : opened_held after old.opened ≡ opened_held before old.opened =
    pool_held parents before after old.opened (arenas_stay before after old.opened (λ n some. follow.arenas n (let l = less n in omega arith)) less) less pinned in
    let stand = held.held.stand c (among_contained (old.opened ++ c ∷ []) c (among_right old.opened (c ∷ []) c (inl refl))) in
    let first : entries_held after c.zero ≡ entries_held before of.list = copy_reads before after of.list c.zero started.zero_is (follow.arenas c.zero.arena stand.zero.shared) in
    let second : option_map (entries_held after) c.sealed ≡ option_map (λ z. entries_held before z.list) sealed =
    copies_read before after sealed c.sealed started.sealed_is (λ l is. follow.arenas l.arena (subst (λ (s : Option ItemList). IfSome s (ListStands after)) is stand.sealed).shared) in
    let one : cursor_held after c ≡ started_held before old.next v lo hi of sealed arrays =
    ap (λ (x : OpenCursor). record (cursor_held after x) { zero = entries_held after c.zero; sealed = option_map (entries_held after) c.sealed }) started.rest
    ∙ (λ i. record (started_held before old.next v lo hi of sealed arrays) { zero = first i; sealed = second i }) in
    ap (λ (x : CursorsView). cursors_held after x) started.after
    ∙ (λ i. record (cursors_held before old) { opened = map-append (cursor_held after) old.opened (c ∷ []) i; next = old.next + 1 })
    ∙ (λ i. record (cursors_held before old) { opened = others i ++ one i ∷ []; next = old.next + 1 })

pub held_gone : (parents : Parents) (before after : List PoolEntry) (c : CursorsView) (n : ℕ)
    → ArePinned before parents c.opened → ArePinned after parents (without_cursor n c.opened) → SharesFollow before after c.opened (without_cursor n c.opened)
    → cursors_held after (closed_at n c) ≡ closed_at n (cursors_held before c)
held_gone parents before after c n pinned pinned_after follow =
    (λ i. record (cursors_held after (closed_at n c)) {
      opened = pool_held parents before after (without_cursor n c.opened)
          (arenas_stay before after (without_cursor n c.opened) (λ a some. follow.arenas a (let h = pinned_after.held.shares a in omega arith)) pinned_after.held.shares)
          pinned_after.held.shares (pinned_without before parents n c.opened pinned) i;
    })
    ∙ held_closed before n c
