-- A journal's changes carried out one by one on what is in memory.
use Rattle.std.proofs.Common.{◌≡◌, ◌≤◌, ◌<◌, ◌+◌, ℕ, suc, true, not, List, [], ◌∷◌, ◌++◌, length, map, take, drop, get_or, Option, None, Ok, Err, refl, sym, ap, ◌∙◌, subst, arith, append_assoc, append-nil, length-append, Some}
use Rattle.std.specs.Prelude.{fold, is_some}
use Rattle.std.specs.List.{list_all}
use Rattle.std.proofs.lemmas.Bool.{and_from, and_parts, cond-true, cond-false}
use Rattle.std.proofs.lemmas.List.{map_more, drop_more, take_all, drop_all}
use Rattle.strat_base.proofs.ListFacts.{fold-push}
use Rattle.strat_base.specs.Change.{Change, Put, Delete, Clone, DropVersion, is_lawful}
use Rattle.strat_base.specs.Tree.{Parents}
use Rattle.def_bytes.specs.Damage.{Read, and_then, put_first}
use Rattle.def_bytes.specs.Manifest.{Manifest}
use Rattle.def_bytes.specs.Records.{Logged}
use Rattle.def_bytes.specs.SuperBlock.{Super}
use Rattle.strat_model.specs.declared.replies.Refusal.{Refusal}
use Rattle.def_recovery.specs.Opening.{accepted_in}
use Rattle.def_recovery.specs.Head.{Head}
use Rattle.def_state.specs.State.{tree_after, marks_after}
use Rattle.strat_memory.specs.Memory.{Memory, refusal_of_change, memory_after, HasRoomFor, IsMemoryOf, sealed_off}
use Rattle.strat_memory.proofs.MemoryLawLemmas.{accepted_same, memory_follows, memory_sealed}
use Rattle.def_state.specs.Sound.{is_accepted, are_accepted}

-- the changes of the first records
abbrev pub changes_before : ℕ → List Logged → List Change
changes_before k logged = map (λ (l : Logged). l.change) (take k logged)

-- changes in front of those that are read
abbrev pub after_these : List Change → Read (List Change) → Read (List Change)
after_these xs r = and_then r (λ ys. Ok (xs ++ ys))

-- the changes of records, as memory accepts them in turn
abbrev pub accepted_by : Memory → List Logged → Read (List Change)
accepted_by m logged = accepted_in m.changes_max m.versions_max m.parents m.marks m.changes logged

-- the first k of these records were carried out, and others are left for which there is room
pub record IsRedone (m : Memory) (logged : List Logged) (k : ℕ) (now : Memory) : Type 0 where
  pub now_is : now ≡ fold memory_after m (changes_before k logged)
  pub room : length logged ≤ now.spare + k
  pub rest : accepted_by m logged ≡ after_these (changes_before k logged) (accepted_by now (drop k logged))
  pub lawful : list_all is_lawful (changes_before k logged) ≡ true

after_one : (xs : List Change) (c : Change) (r : Read (List Change)) → after_these xs (put_first c r) ≡ after_these (xs ++ c ∷ []) r
after_one xs c (Ok ys) = ap (λ (zs : List Change). Ok zs) (sym (append_assoc xs (c ∷ []) ys))
after_one xs c (Err block) = refl

-- what a change leaves of the limits, the versions, their marks, the count and the room
pub after_limits : (m : Memory) (c : Change) → ((memory_after m c).changes_max ≡ m.changes_max) × ((memory_after m c).versions_max ≡ m.versions_max)
after_limits m (Put v key value) = (refl, refl)
after_limits m (Delete v key) = (refl, refl)
after_limits m (Clone v) = (refl, refl)
after_limits m (DropVersion v) = (refl, refl)

pub after_parents : (m : Memory) (c : Change) → (memory_after m c).parents ≡ tree_after m.parents c
after_parents m (Put v key value) = refl
after_parents m (Delete v key) = refl
after_parents m (Clone v) = refl
after_parents m (DropVersion v) = refl

pub after_marks : (m : Memory) (c : Change) → (memory_after m c).marks ≡ marks_after m.marks c
after_marks m (Put v key value) = refl
after_marks m (Delete v key) = refl
after_marks m (Clone v) = refl
after_marks m (DropVersion v) = refl

pub after_changes : (m : Memory) (c : Change) → (memory_after m c).changes ≡ m.changes + 1
after_changes m (Put v key value) = refl
after_changes m (Delete v key) = refl
after_changes m (Clone v) = refl
after_changes m (DropVersion v) = refl

after_spare : (m : Memory) (c : Change) → m.spare ≤ (memory_after m c).spare + 1
after_spare m (Put v key value) = omega arith
after_spare m (Delete v key) = omega arith
after_spare m (Clone v) = omega arith
after_spare m (DropVersion v) = omega arith

-- level 0 has room for a change, whichever it is
room_any : (m : Memory) (c : Change) → 1 ≤ m.spare → HasRoomFor m c
room_any m (Put v key value) free = free
room_any m (Delete v key) free = free
room_any m (Clone v) free = tt
room_any m (DropVersion v) free = tt

pub redone_all : (m : Memory) (logged : List Logged) (k : ℕ) (now : Memory) → length logged ≤ k → IsRedone m logged k now
    → (accepted_by m logged ≡ Ok (map (λ (l : Logged). l.change) logged)) × (now ≡ fold memory_after m (map (λ (l : Logged). l.change) logged))
    × (list_all is_lawful (map (λ (l : Logged). l.change) logged) ≡ true)
redone_all m logged k now past old =
    let all : changes_before k logged ≡ map (λ (l : Logged). l.change) logged = ap (map (λ (l : Logged). l.change)) (take_all k logged past) in (
      old.rest
          ∙ ap (λ (rest : List Logged). after_these (changes_before k logged) (accepted_by now rest)) (drop_all k logged past)
          ∙ ap (λ (xs : List Change). Ok xs) (append-nil (changes_before k logged) ∙ all),
      old.now_is ∙ ap (λ (xs : List Change). fold memory_after m xs) all,
      subst (λ (xs : List Change). list_all is_lawful xs ≡ true) all old.lawful,
    )

lawful_more : (xs : List Change) (c : Change) → list_all is_lawful xs ≡ true → is_lawful c ≡ true → list_all is_lawful (xs ++ c ∷ []) ≡ true
lawful_more [] c each own = and_from (is_lawful c) true own refl
lawful_more (x ∷ xs) c each own =
    let parts = and_parts (is_lawful x) (list_all is_lawful xs) each in
    and_from (is_lawful x) (list_all is_lawful (xs ++ c ∷ [])) parts.0 (lawful_more xs c parts.1 own)

none_some : (o : Option Refusal) → o ≡ None → not (is_some o) ≡ true
none_some o e = ap (λ (x : Option Refusal). not (is_some x)) e

module _ (m : Memory) (logged : List Logged) (k : ℕ) (now : Memory) (l : Logged) (old : IsRedone m logged k now) (within : k < length logged) (at : get_or logged k l ≡ l) where
  next : drop k logged ≡ l ∷ drop (k + 1) logged
  next = drop_more logged k l within ∙ ap (λ (x : Logged). x ∷ drop (k + 1) logged) at

  more : changes_before (k + 1) logged ≡ changes_before k logged ++ l.change ∷ []
  more = map_more (λ (x : Logged). x.change) logged k l within ∙ ap (λ (x : Logged). changes_before k logged ++ x.change ∷ []) at

  rest_is : accepted_by m logged ≡ after_these (changes_before k logged) (accepted_by now (l ∷ drop (k + 1) logged))
  rest_is = old.rest ∙ ap (λ (rest : List Logged). after_these (changes_before k logged) (accepted_by now rest)) next

  abbrev later : Memory → ℕ → Parents → Read (List Change)
  later x n parents = accepted_in x.changes_max x.versions_max parents (marks_after x.marks l.change) n (drop (k + 1) logged)

  pub redo_room : HasRoomFor now l.change
  redo_room = room_any now l.change (omega (arith, old.room, within))

  -- one more was carried out
  pub redone_more : (after : Memory) → refusal_of_change now l.change ≡ None → after ≡ memory_after now l.change → is_lawful l.change ≡ true → IsRedone m logged (k + 1) after
  redone_more after free is own =
      let next_count : suc now.changes ≡ (memory_after now l.change).changes = omega (arith, after_changes now l.change) in
      let limits = after_limits now l.change in
      record {
        now_is = is ∙ ap (λ (x : Memory). memory_after x l.change) old.now_is ∙ sym (fold-push memory_after m (changes_before k logged) l.change)
            ∙ ap (λ (xs : List Change). fold memory_after m xs) (sym more);
        room = omega (arith, old.room, after_spare now l.change, ap (λ (x : Memory). x.spare) is);
        rest = rest_is
            ∙ ap (after_these (changes_before k logged)) (cond-true _ (put_first l.change (later now (suc now.changes) (tree_after now.parents l.change))) (Err l.block) (accepted_same now l.change ∙ none_some (refusal_of_change now l.change) free))
            ∙ after_one (changes_before k logged) l.change (later now (suc now.changes) (tree_after now.parents l.change))
            ∙ (λ i. after_these (sym more i) (accepted_in (sym limits.0 i) (sym limits.1 i) (sym (after_parents now l.change) i) (sym (after_marks now l.change) i) (next_count i) (drop (k + 1) logged)))
            ∙ ap (λ (x : Memory). after_these (changes_before (k + 1) logged) (accepted_by x (drop (k + 1) logged))) (sym is);
        lawful = subst (λ (xs : List Change). list_all is_lawful xs ≡ true) (sym more) (lawful_more (changes_before k logged) l.change old.lawful own);
      }

  -- the next is refused
  pub redone_not : is_some (refusal_of_change now l.change) ≡ true → accepted_by m logged ≡ Err l.block
  redone_not refused =
      rest_is
      ∙ ap (after_these (changes_before k logged)) (cond-false _ (put_first l.change (later now (suc now.changes) (tree_after now.parents l.change))) (Err l.block) (accepted_same now l.change ∙ ap not refused))

-- a change that is accepted is not refused
pub free_from : (m : Memory) (c : Change) → is_accepted m.changes_max m.versions_max m.parents m.marks m.changes c ≡ true → refusal_of_change m c ≡ None
free_from m c accepted = unrefused (refusal_of_change m c) (sym (accepted_same m c) ∙ accepted)
  where
    unrefused : (o : Option Refusal) → not (is_some o) ≡ true → o ≡ None
    unrefused None e = refl
    unrefused (Some r) e = absurd (cc)

-- a change leaves what is sealed
pub after_sealed : (m : Memory) (c : Change) → (memory_after m c).sealed ≡ m.sealed
after_sealed m (Put v key value) = refl
after_sealed m (Delete v key) = refl
after_sealed m (Clone v) = refl
after_sealed m (DropVersion v) = refl

-- memory whose level 0 was sealed when it had what fills a region is that of the same head
pub sealed_of : (h : Head) (m : Memory) → IsMemoryOf h m → m.sealed ≡ None → length h.journal ≡ h.sb.mem → IsMemoryOf h (sealed_off h.sb.mem m)
sealed_of h m of none full = memory_sealed h m of none full

-- memory after changes that are accepted in turn, and which fit a region with those before where nothing is sealed, is that
-- of the head with them in its journal
pub memory_follows_all : (sb : Super) (manifest : Manifest) (before changes : List Change) (m : Memory) → IsMemoryOf (record { sb = sb; manifest = manifest; journal = before }) m
    → are_accepted m.changes_max m.versions_max m.parents m.marks m.changes changes ≡ true → (m.sealed ≡ None → length before + length changes ≤ sb.mem)
    → IsMemoryOf (record { sb = sb; manifest = manifest; journal = before ++ changes }) (fold memory_after m changes)
memory_follows_all sb manifest before [] m of accepted few = subst (λ (js : List Change). IsMemoryOf (record { sb = sb; manifest = manifest; journal = js }) m) (sym (append-nil before)) of
memory_follows_all sb manifest before (c ∷ changes) m of accepted few =
    let size = length-append before (c ∷ []) in
    let parts = and_parts (is_accepted m.changes_max m.versions_max m.parents m.marks m.changes c) (are_accepted m.changes_max m.versions_max (tree_after m.parents c) (marks_after m.marks c) (suc m.changes) changes) accepted in
    let free = free_from m c parts.0 in
    let limits = after_limits m c in
    let count : suc m.changes ≡ (memory_after m c).changes = omega (arith, after_changes m c) in
    let later : are_accepted (memory_after m c).changes_max (memory_after m c).versions_max (memory_after m c).parents (memory_after m c).marks (memory_after m c).changes changes ≡ true =
    (λ i. are_accepted (limits.0 i) (limits.1 i) (after_parents m c i) (after_marks m c i) (sym count i) changes) ∙ parts.1 in
    subst (λ (js : List Change). IsMemoryOf (record { sb = sb; manifest = manifest; journal = js }) (fold memory_after (memory_after m c) changes)) (append_assoc before (c ∷ []) changes)
    (memory_follows_all sb manifest (before ++ c ∷ []) changes (memory_after m c)
    (memory_follows (record { sb = sb; manifest = manifest; journal = before }) m of c free (λ unsealed. let fits = few unsealed in omega (arith, fits)))
    later (λ unsealed. let fits = few (sym (after_sealed m c) ∙ unsealed) in omega (arith, fits, size)))

-- changes leave the cursors
pub cursors_redone : (changes : List Change) (m : Memory) → (fold memory_after m changes).cursors ≡ m.cursors
cursors_redone [] m = refl
cursors_redone (Put version key value ∷ changes) m = cursors_redone changes (memory_after m (Put version key value))
cursors_redone (Delete version key ∷ changes) m = cursors_redone changes (memory_after m (Delete version key))
cursors_redone (Clone version ∷ changes) m = cursors_redone changes (memory_after m (Clone version))
cursors_redone (DropVersion version ∷ changes) m = cursors_redone changes (memory_after m (DropVersion version))

-- nor what is sealed
pub sealed_redone : (changes : List Change) (m : Memory) → (fold memory_after m changes).sealed ≡ m.sealed
sealed_redone [] m = refl
sealed_redone (c ∷ changes) m = sealed_redone changes (memory_after m c) ∙ after_sealed m c
