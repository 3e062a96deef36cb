-- Memory that is ready for a publication, level 0 sealed, and memory that lets go of what was.
use Rattle.std.proofs.Common.{◌≡◌, ◌≤◌, ℕ, true, inl, inr, List, length, drop, take, ◌++◌, Option, None, Some, sym, ap, ◌∙◌, subst, arith, true≢false}
use Rattle.std.specs.Option.{option_map}
use Rattle.std.specs.Prelude.{is_some}
use Rattle.strat_base.specs.Change.{Change}
use Rattle.strat_base.specs.Entries.{Entry}
use Rattle.strat_memory.proofs.MemoryLemmas.{left_few}
use Rattle.strat_base.specs.declared.descriptors.ArrayDesc.{ArrayDesc}
use Rattle.strat_base.specs.declared.descriptors.LevelDesc.{LevelDesc}
use Rattle.def_bytes.specs.Manifest.{Manifest}
use Rattle.def_recovery.specs.Head.{Head, head_changes, head_marks, head_updates, head_versions}
use Rattle.strat_base.specs.Tree.{Parents}
use Rattle.def_slice.specs.Lists.{entries_left, HoldLists}
use Rattle.def_state.specs.Setting.{set_all}
use Rattle.strat_cursor.specs.Cursors.{retired_all}
use Rattle.strat_memory.proofs.MemoryLawLemmas.{marks_front, memory_sealed, memory_unsealed, oldest_counted, oldest_front, parents_front, versions_front}
use Rattle.strat_memory.specs.Memory.{Memory, SealedLevel, IsMemoryOf, IsReadyFrom, emptied, head_full, oldest_changes, oldest_entries, oldest_marks, oldest_parents, oldest_updates, oldest_versions, prepared, renewed, sealed_off, unsealed}
use Rattle.strat_publish.specs.Publishing.{manifest_after}

-- a promotion takes what fills the active region
pub oldest_listed : (h : Head) (m : Memory) → IsMemoryOf h m → oldest_entries m ≡ entries_left (take h.sb.mem h.journal)
oldest_listed = oldest_front

-- with the counts and the versions of then
pub oldest_counts : (h : Head) (m : Memory) → IsMemoryOf h m → (oldest_versions m ≡ length (head_versions (head_full h))) × (oldest_updates m ≡ head_updates (head_full h)) × (oldest_changes m ≡ head_changes (head_full h))
oldest_counts = oldest_counted

pub parents_then : (h : Head) (m : Memory) → IsMemoryOf h m → oldest_parents m ≡ head_versions (head_full h)
parents_then = parents_front

pub versions_then : (h : Head) (m : Memory) → IsMemoryOf h m → (rest : Parents) × (m.parents ≡ head_versions (head_full h) ++ rest)
versions_then = versions_front

-- and which of them were dropped then
pub marks_then : (h : Head) (m : Memory) → IsMemoryOf h m → oldest_marks m ≡ head_marks (head_full h)
marks_then = marks_front

-- of each key and version one entry is left at most
pub few_left : (entries : List Entry) → length (set_all entries) ≤ length entries
few_left = left_few

-- memory that lets go of what was sealed is that of a head whose journal has what came since
pub let_go : (h new : Head) (m : Memory) → IsMemoryOf h m → is_some m.sealed ≡ true → new.journal ≡ drop h.sb.mem h.journal → length new.journal ≤ new.sb.mem → new.sb.mem ≡ h.sb.mem
    → new.sb.changes_max ≡ h.sb.changes_max → new.sb.versions_max ≡ h.sb.versions_max
    → head_versions new ≡ head_versions h → head_updates new ≡ head_updates h → head_changes new ≡ head_changes h → head_marks new ≡ head_marks h → IsMemoryOf new (unsealed m)
let_go = memory_unsealed

-- memory with another level 0 ready, or none, and other room for arrays that are kept
prepared_of : (h : Head) (m : Memory) (o : Option ℕ) (n : ℕ) → IsMemoryOf h m → IsMemoryOf h (prepared m o n)
prepared_of h m o n of = record {
  changes_max = of.changes_max;
  versions_max = of.versions_max;
  parents = of.parents;
  marks = of.marks;
  updates = of.updates;
  changes = of.changes;
  lists = of.lists;
  counted = of.counted;
}

-- memory that is ready for a publication has the cursors of before, and what it counts is as it was
pub ready_cursors : (mem : ℕ) (m k : Memory) → IsReadyFrom mem m k → k.cursors ≡ record m.cursors { room = k.cursors.room }
ready_cursors mem m k (inl is) = ap (λ (j : Memory). j.cursors) is
ready_cursors mem m k (inr is) = ap (λ (j : Memory). j.cursors) is.1

pub ready_parents : (mem : ℕ) (m k : Memory) → IsReadyFrom mem m k → k.parents ≡ m.parents
ready_parents mem m k (inl is) = ap (λ (j : Memory). j.parents) is
ready_parents mem m k (inr is) = ap (λ (j : Memory). j.parents) is.1

pub ready_manifest : (mem target : ℕ) (x : Manifest) (made : Option LevelDesc) (m k : Memory) → IsReadyFrom mem m k → manifest_after x k target made ≡ manifest_after x m target made
ready_manifest mem target x made m k (inl is) = ap (λ (j : Memory). manifest_after x j target made) is
ready_manifest mem target x made m k (inr is) =
    ap (λ (j : Memory). manifest_after x j target made) is.1 ∙ ap (λ (o : Option SealedLevel). manifest_after x (record m { sealed = o }) target made) (sym is.0)

-- it may differ in its lists alone
ready_rest : (mem : ℕ) (m k : Memory) → IsReadyFrom mem m k → k ≡ record m { entries = k.entries; sealed = k.sealed; spare = k.spare; ready = k.ready; cursors = k.cursors }
ready_rest mem m k (inl is) =
    is ∙ (λ i. record m {
      entries = sym (ap (λ (j : Memory). j.entries) is) i;
      sealed = sym (ap (λ (j : Memory). j.sealed) is) i;
      spare = sym (ap (λ (j : Memory). j.spare) is) i;
      ready = k.ready;
      cursors = sym (ap (λ (j : Memory). j.cursors) is) i;
    })
ready_rest mem m k (inr is) =
    is.1 ∙ (λ i. record m {
      entries = sym (ap (λ (j : Memory). j.entries) is.1) i;
      sealed = sym (ap (λ (j : Memory). j.sealed) is.1) i;
      spare = sym (ap (λ (j : Memory). j.spare) is.1) i;
      ready = sym (ap (λ (j : Memory). j.ready) is.1) i;
      cursors = sym (ap (λ (j : Memory). j.cursors) is.1) i;
    })

-- where nothing is sealed the journal has no more than fills its region
unsealed_few : (mem : ℕ) (journal : List Change) (entries : List Entry) (sealed : Option SealedLevel) (spare : ℕ) → HoldLists mem journal entries (option_map (λ z. z.entries) sealed) spare → sealed ≡ None → length journal ≤ mem
unsealed_few mem journal entries None spare lists none = lists.0
unsealed_few mem journal entries (Some z) spare lists none = absurd (cc)

-- and is still that of the head, whose journal fills its region
pub ready_of : (h : Head) (m k : Memory) → IsReadyFrom h.sb.mem m k → h.sb.mem ≤ length h.journal → IsMemoryOf h m → IsMemoryOf h k
ready_of h m k (inl is) full of = subst (λ (j : Memory). IsMemoryOf h j) (sym is) (prepared_of h m k.ready k.cursors.room of)
ready_of h m k (inr is) full of =
    subst (λ (j : Memory). IsMemoryOf h j) (sym is.1) (prepared_of h (sealed_off h.sb.mem m) None k.cursors.room
    (memory_sealed h m of is.0 (omega (arith, full, unsealed_few h.sb.mem h.journal m.entries m.sealed m.spare of.lists is.0))))

-- what let go of it
pub emptied_next : (mem : ℕ) (gone : List ArrayDesc) (m k now : Memory) → now ≡ renewed gone k → IsReadyFrom mem m k
    → now ≡ record (unsealed m) { entries = now.entries; spare = now.spare; ready = now.ready; cursors = now.cursors }
emptied_next mem gone m k now is ready =
    is ∙ ap (λ (j : Memory). renewed gone j) (ready_rest mem m k ready)
    ∙ (λ i. record m {
      entries = sym (ap (λ (j : Memory). j.entries) is) i;
      sealed = None;
      spare = sym (ap (λ (j : Memory). j.spare) is) i;
      ready = sym (ap (λ (j : Memory). j.ready) is) i;
      cursors = sym (ap (λ (j : Memory). j.cursors) is) i;
    })

-- which was sealed just before, where it was not yet
pub emptied_first : (mem : ℕ) (gone : List ArrayDesc) (m k now : Memory) → now ≡ renewed gone k → IsReadyFrom mem m k → is_some k.sealed ≡ true → m.sealed ≡ None → now ≡ record (emptied mem m) { cursors = now.cursors }
emptied_first mem gone m k now is (inl same) some none =
    absurd (true≢false (sym some ∙ ap (λ (j : Memory). is_some j.sealed) same ∙ ap (λ (o : Option SealedLevel). is_some o) none))
emptied_first mem gone m k now is (inr same) some none =
    is ∙ ap (λ (j : Memory). record (renewed gone j) { cursors = retired_all gone k.cursors }) same.1 ∙ (λ i. record (emptied mem m) { cursors = sym (ap (λ (j : Memory). j.cursors) is) i })
