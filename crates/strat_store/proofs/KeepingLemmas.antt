-- What open cursors hold on to stays there, as a store goes on.
use Rattle.std.proofs.Common.{◌≡◌, ◌≤◌, ◌^◌, ℕ, Bool, true, false, not, cond, eqb, inl, inr, List, [], ◌∷◌, ◌++◌, filter, Contains, Option, refl, sym, ap, subst, ◌∙◌, append-nil, arith}
use Rattle.std.specs.Prelude.{if◌then◌else◌}
use Rattle.std.proofs.lemmas.List.Concat.{flat_map-append}
use Rattle.std.proofs.lemmas.List.Elements.{Contains-append_left}
use Rattle.strat_base.proofs.ListFacts.{Among, among_left, among_right, among_split, filter_among}
use Rattle.strat_array.specs.Kept.{Blocks}
use Rattle.strat_base.specs.declared.descriptors.ArrayDesc.{ArrayDesc}
use Rattle.strat_base.specs.declared.descriptors.LevelDesc.{LevelDesc}
use Rattle.strat_cursor.proofs.HoldingLemmas.{names_moved, names_without}
use Rattle.strat_cursor.proofs.PinLemmas.{asked_there}
use Rattle.strat_cursor.proofs.RetiredLemmas.{closed_from, closed_ids, closed_keeps_named}
use Rattle.strat_cursor.specs.Cursors.{arrays_named, closed_at, is_array_named, moved_at, moved_on, without_cursor}
use Rattle.strat_cursor.specs.Held.{HeldCursor, HeldCursors}
use Rattle.strat_cursor.specs.Looking.{arrays_there, arrays_asked, levels_there}
use Rattle.strat_extent.proofs.CountLemmas.{times_append}
use Rattle.strat_extent.specs.Blocks.{times_in, total_len}
use Rattle.def_bytes.specs.Chained.{Chained}
use Rattle.def_bytes.specs.SuperBlock.{Super}
use Rattle.strat_gate.specs.SuperView.{super_of}
use Rattle.strat_model.specs.Answer.{Answer, accepts}
use Rattle.strat_model.specs.Pairs.{Pairs}
use Rattle.strat_model.specs.Request.{Request, OpenCursor, NextPairs, CloseCursor}
use Rattle.strat_model.specs.declared.replies.Reply.{Reply}
use Rattle.strat_model.specs.declared.replies.Reply.TheVariants as reply
use Rattle.def_split.proofs.ListLemmas.{map_among}
use Rattle.def_publish.proofs.ListLemmas.{among_contained, contained_among}
use Rattle.def_publish.specs.Occupied.{extents_of}
use Rattle.strat_publish.proofs.RoomLemmas.{asked_total, there_total}
use Rattle.strat_publish.proofs.NeededLemmas.{needed_still, needed_those}
use Rattle.strat_store.specs.Cursoring.{cursors_after, paged_at}
use Rattle.strat_memory.specs.Held.{AreKept, IsConsistent, arrays_held}
use Rattle.strat_memory.specs.Memory.{Memory, cursor_from, with_cursor}
use Rattle.strat_memory.specs.Admitting.{chained_of}
use Rattle.strat_memory.specs.RecoveredFields.{held_of}
use Rattle.strat_memory.specs.declared.open_store.OpenStore.{OpenStore}
use Rattle.strat_store.proofs.GoingLemmas.{going_with}

-- some of the arrays have no more blocks than all
times_filtered : (p : ArrayDesc → Bool) (arrays : List ArrayDesc) (b : ℕ) → times_in (extents_of (filter p arrays)) b ≤ times_in (extents_of arrays) b
times_filtered p [] b = omega arith
times_filtered p (a ∷ arrays) b = by (p a) (times_filtered p arrays b)
  where
    by : (t : Bool) → times_in (extents_of (filter p arrays)) b ≤ times_in (extents_of arrays) b
        → times_in (extents_of (cond t (a ∷ filter p arrays) (filter p arrays))) b ≤ times_in (extents_of (a ∷ arrays)) b
    by true rest = omega (arith, rest, times_append a.extents (extents_of (filter p arrays)) b, times_append a.extents (extents_of arrays) b)
    by false rest = omega (arith, rest, times_append a.extents (extents_of arrays) b)

-- what commands about cursors leave of that
module _ (sb : Super) (chained : Chained) (levels : List (Option LevelDesc)) (m : Memory) (kept : AreKept sb chained levels m) where
  pub kept_more : total_len (extents_of (arrays_there levels)) ≤ 2 ^ 25 → (v : ℕ) (lo hi : List ℕ) → AreKept sb chained levels (record m { cursors = with_cursor m.cursors (cursor_from m levels v lo hi) })
  kept_more small v lo hi = record {
    named = λ a of.
        let asked = arrays_asked m.parents levels v in
        let both : Among a (arrays_named m.cursors.opened ++ (asked ++ [])) =
        subst (Among a) (flat_map-append (λ (c : HeldCursor). c.arrays) m.cursors.opened (cursor_from m levels v lo hi ∷ []))
        (contained_among (arrays_named (m.cursors.opened ++ cursor_from m levels v lo hi ∷ [])) a of) in
        elim (among_split (arrays_named m.cursors.opened) (asked ++ []) a both) [
          | inl before ↦ kept.named a (among_contained (arrays_named m.cursors.opened) a before)
          | inr new ↦
              Contains-append_left (arrays_there levels) m.cursors.retired a
              (among_contained (arrays_there levels) a (asked_there m.parents v levels a (subst (Among a) (append-nil asked) new)))
        ];
    needed = needed_still m.cursors.opened (m.cursors.opened ++ cursor_from m levels v lo hi ∷ []) m.cursors.retired
        (λ a of.
        subst (λ (rs : List ArrayDesc). Contains rs a) (sym (flat_map-append (λ (c : HeldCursor). c.arrays) m.cursors.opened (cursor_from m levels v lo hi ∷ [])))
        (Contains-append_left (arrays_named m.cursors.opened) (arrays_asked m.parents levels v ++ []) a of)) kept.needed;
    ids = kept.ids;
    below = kept.below;
    within = kept.within;
    once = kept.once;
    few = λ c of. elim (among_split m.cursors.opened (cursor_from m levels v lo hi ∷ []) c (contained_among (m.cursors.opened ++ cursor_from m levels v lo hi ∷ []) c of)) [
      | inl before ↦ kept.few c (among_contained m.cursors.opened c before)
      | inr new ↦ elim new [
        | inl same ↦
            let asked = asked_total m.parents (levels_there levels) v in
            let alike = ap (λ (h : HeldCursor). total_len (extents_of h.arrays)) same in
            omega (arith, asked, alike, small)
        | inr none ↦ absurd none
      ]
    ];
  }

  pub kept_paged : (n : ℕ) (more : Bool) (told : Pairs) → AreKept sb chained levels (record m { cursors = record m.cursors { opened = moved_at n more told m.cursors.opened } })
  kept_paged n more told = record {
    named = λ a of. kept.named a (subst (λ (rs : List ArrayDesc). Contains rs a) (names_moved n more told m.cursors.opened) of);
    needed = needed_still m.cursors.opened (moved_at n more told m.cursors.opened) m.cursors.retired
        (λ a of. subst (λ (rs : List ArrayDesc). Contains rs a) (sym (names_moved n more told m.cursors.opened)) of) kept.needed;
    ids = kept.ids;
    below = kept.below;
    within = kept.within;
    once = kept.once;
    few = λ c of.
        let from = map_among (λ (h : HeldCursor). if eqb h.number n then moved_on more told h else h) m.cursors.opened c (contained_among (moved_at n more told m.cursors.opened) c of) in
        let alike = ap (λ (h : HeldCursor). total_len (extents_of h.arrays)) from.2 ∙ arrays_moved (eqb from.0.number n) more told from.0 in
        omega (arith, kept.few from.0 (among_contained m.cursors.opened from.0 from.1), alike);
  }
    where
      arrays_moved : (b : Bool) (more' : Bool) (told' : Pairs) (h : HeldCursor) → total_len (extents_of (if b then moved_on more' told' h else h).arrays) ≡ total_len (extents_of h.arrays)
      arrays_moved true more' told' h = refl
      arrays_moved false more' told' h = refl

  pub kept_closed : (n : ℕ) → AreKept sb chained levels (record m { cursors = closed_at n m.cursors })
  kept_closed n = record {
    named = λ a of.
        let left = (closed_at n m.cursors).retired in
        elim (among_split (arrays_there levels) m.cursors.retired a (contained_among (arrays_held m levels) a (kept.named a (names_without n m.cursors.opened a of)))) [
          | inl there ↦ among_contained (arrays_there levels ++ left) a (among_left (arrays_there levels) left a there)
          | inr retired ↦
              among_contained (arrays_there levels ++ left) a
              (among_right (arrays_there levels) left a (contained_among left a (closed_keeps_named m.cursors n a of (among_contained m.cursors.retired a retired))))
        ];
    needed = needed_those (without_cursor n m.cursors.opened) m.cursors.retired;
    ids = closed_ids m.cursors n (arrays_there levels) kept.ids;
    below = λ a of. kept.below a (still a of);
    within = λ b some. kept.within b (omega (arith, some, closed_times b));
    once = λ b. omega (arith, kept.once b, closed_times b);
    few = λ c of.
        let there = filter_among (λ (h : HeldCursor). not (eqb h.number n)) m.cursors.opened c (contained_among (without_cursor n m.cursors.opened) c of) in
        kept.few c (among_contained m.cursors.opened c there.0);
  }
    where
      closed_times : (b : ℕ) → times_in (extents_of (closed_at n m.cursors).retired) b ≤ times_in (extents_of m.cursors.retired) b
      closed_times b = times_filtered (λ (a : ArrayDesc). is_array_named (without_cursor n m.cursors.opened) a.id) m.cursors.retired b

      still : (a : ArrayDesc) → Contains (arrays_there levels ++ (closed_at n m.cursors).retired) a → Contains (arrays_held m levels) a
      still a of =
          let left = (closed_at n m.cursors).retired in
          elim (among_split (arrays_there levels) left a (contained_among (arrays_there levels ++ left) a of)) [
            | inl there ↦ among_contained (arrays_held m levels) a (among_left (arrays_there levels) m.cursors.retired a there)
            | inr one ↦
                among_contained (arrays_held m levels) a
                (among_right (arrays_there levels) m.cursors.retired a (contained_among m.cursors.retired a (closed_from m.cursors n a (among_contained left a one))))
          ]

-- cursors keep no array more than others
abbrev KeepsFewer : HeldCursors → HeldCursors → Type 0
KeepsFewer old new = (b : ℕ) → times_in (extents_of new.retired) b ≤ times_in (extents_of old.retired) b

-- so a store stays consistent
consistent_with : (r : OpenStore) (m : Memory) (cached : Blocks) (c : HeldCursors) → IsConsistent (held_of r cached) → m ≡ record r.memory { cursors = c } → KeepsFewer r.memory.cursors c
    → AreKept (super_of r.sb) (chained_of r.published) r.published.levels (record r.memory { cursors = c }) → IsConsistent (held_of (record r { memory = m }) cached)
consistent_with r m cached c whole is fewer kept =
    subst (λ (z : Memory). IsConsistent (held_of (record r { memory = z }) cached)) (sym is)
    (record {
      slot = whole.slot;
      lawful = whole.lawful;
      spelled = whole.spelled;
      belonging = whole.belonging;
      log = whole.log;
      accepted = whole.accepted;
      memory = record {
        changes_max = whole.memory.changes_max;
        versions_max = whole.memory.versions_max;
        parents = whole.memory.parents;
        marks = whole.memory.marks;
        updates = whole.memory.updates;
        changes = whole.memory.changes;
        lists = whole.memory.lists;
        counted = whole.memory.counted;
      };
      placed = whole.placed;
      kept = kept;
      going = going_with (held_of r cached) c fewer whole.going;
    })

-- after any command that asks for no change
pub consistent_after : (r : OpenStore) (m : Memory) (request : Request) (answer : Answer) → ((cached : Blocks) → IsConsistent (held_of r cached))
    → m ≡ record r.memory { cursors = cursors_after r.memory r.published.levels request answer } → (cached : Blocks) → IsConsistent (held_of (record r { memory = m }) cached)
consistent_after r m request answer whole is cached = consistent_with r m cached (cursors_after r.memory r.published.levels request answer) (whole cached) is (few request answer) (by request answer)
  where
    Kept : HeldCursors → Type 0
    Kept c = AreKept (super_of r.sb) (chained_of r.published) r.published.levels (record r.memory { cursors = c })

    kept : Kept r.memory.cursors
    kept = (whole cached).kept

    few_accept : (b : Bool) (c : HeldCursors) → KeepsFewer r.memory.cursors c → KeepsFewer r.memory.cursors (if b then c else r.memory.cursors)
    few_accept true c fewer = fewer
    few_accept false c fewer = λ b. omega arith

    few_page : (n : ℕ) (told : Reply) (pairs : Pairs) → KeepsFewer r.memory.cursors (paged_at n told pairs r.memory.cursors)
    few_page n (reply.Pairs more) pairs = λ b. omega arith
    few_page n _ pairs = λ b. omega arith

    few : (request : Request) (answer : Answer) → KeepsFewer r.memory.cursors (cursors_after r.memory r.published.levels request answer)
    few (OpenCursor v lo hi) answer = few_accept (accepts answer.reply) (with_cursor r.memory.cursors (cursor_from r.memory r.published.levels v lo hi)) (λ b. omega arith)
    few (NextPairs n limit) answer = few_page n answer.reply answer.pairs
    few (CloseCursor n) answer =
        few_accept (accepts answer.reply) (closed_at n r.memory.cursors)
        (λ b. times_filtered (λ (a : ArrayDesc). is_array_named (without_cursor n r.memory.cursors.opened) a.id) r.memory.cursors.retired b)
    few _ answer = λ b. omega arith

    by_accept : (b : Bool) (c : HeldCursors) → Kept c → Kept (if b then c else r.memory.cursors)
    by_accept true c more = more
    by_accept false c more = kept

    by_page : (n : ℕ) (told : Reply) (pairs : Pairs) → Kept (paged_at n told pairs r.memory.cursors)
    by_page n (reply.Pairs more) pairs = kept_paged (super_of r.sb) (chained_of r.published) r.published.levels r.memory kept n more pairs
    by_page n _ pairs = kept

    by : (request : Request) (answer : Answer) → Kept (cursors_after r.memory r.published.levels request answer)
    by (OpenCursor v lo hi) answer =
        by_accept (accepts answer.reply) (with_cursor r.memory.cursors (cursor_from r.memory r.published.levels v lo hi))
        (kept_more (super_of r.sb) (chained_of r.published) r.published.levels r.memory kept (there_total (held_of r cached) (whole cached)) v lo hi)
    by (NextPairs n limit) answer = by_page n answer.reply answer.pairs
    by (CloseCursor n) answer =
        by_accept (accepts answer.reply) (closed_at n r.memory.cursors) (kept_closed (super_of r.sb) (chained_of r.published) r.published.levels r.memory kept n)
    by _ answer = kept
