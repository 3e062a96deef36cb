-- The strays of an array are told group by group.
use Rattle.std.proofs.Common.{◌≡◌, ◌<◌, ℕ, Bool, true, false, ltb, ◌&&◌, ◌||◌, not, List, [], ◌∷◌, map, filter, refl, sym, ap, ◌∙◌, subst, arith}
use Rattle.std.specs.List.{list_any, list_all}
use Rattle.std.proofs.lemmas.Bool.{and_parts, and_from, lt-ltb}
use Rattle.strat_base.specs.Tree.{Parents, path, IsTree}
use Rattle.strat_base.specs.Entries.{Entry, holds_entry}
use Rattle.strat_base.proofs.ListFacts.{Among, all_at, all_from, all_same, among_flat, among_in_flat, among_filter, filter_among}
use Rattle.strat_base.proofs.EntryLemmas.{held_among, among_held}
use Rattle.strat_base.proofs.TreeLemmas.{path_le}
use Rattle.def_state.specs.Live.{is_live, live}
use Rattle.def_state.proofs.LiveLemmas.{live_on_path, live_nearest}
use Rattle.def_split.specs.Groups.{grouped_entries, AreGroups}
use Rattle.def_split.proofs.GroupedLemmas.{same_group}
use Rattle.def_split.proofs.ListLemmas.{bool_same, filter_both, filter_every, map_among, among_map}
use Rattle.def_split.proofs.LiveSetLemmas.{live_from, live_fewer}
use Rattle.def_check.specs.Marked.{unmarked, is_from_run, told_of_run}
use Rattle.strat_check.specs.Strays.{unmarked_where, has_stray, has_live_stray}

-- what is not so of all is otherwise for one
pub not_all : {X : Type 0} (p : X → Bool) (xs : List X) → not (list_all p xs) ≡ list_any (λ x. not (p x)) xs
not_all p [] = refl
not_all p (x ∷ xs) = go (p x) (not_all p xs)
  where
    go : (b : Bool) → not (list_all p xs) ≡ list_any (λ y. not (p y)) xs → not (b && list_all p xs) ≡ (not b || list_any (λ y. not (p y)) xs)
    go true rest = rest
    go false rest = refl

-- a test of pairs may be made in either order
all_swapped : {X Y : Type 0} (p : X → Y → Bool) (xs : List X) (ys : List Y) → list_all (λ x. list_all (p x) ys) xs ≡ list_all (λ y. list_all (λ x. p x y) xs) ys
all_swapped p xs ys =
    bool_same (list_all (λ x. list_all (p x) ys) xs) (list_all (λ y. list_all (λ x. p x y) xs) ys)
    (λ all. all_from (λ y. list_all (λ x. p x y) xs) ys (λ y there. all_from (λ x. p x y) xs (λ x here. all_at (p x) y ys (all_at (λ z. list_all (p z) ys) x xs all here) there)))
    (λ all. all_from (λ x. list_all (p x) ys) xs (λ x here. all_from (p x) ys (λ y there. all_at (λ z. p z y) x xs (all_at (λ w. list_all (λ z. p z w) xs) y ys all there) here)))

-- an entry without its mark comes from one that passes
pub unmarked_among : (p : Entry → Bool) (xs : List Entry) (e : Entry) → Among e (unmarked_where p xs) → (m : Entry) × Among m xs × (p m ≡ true) × (e ≡ unmarked m)
unmarked_among p xs e among =
    let at = map_among unmarked (filter p xs) e among in
    let kept = filter_among p xs at.0 at.1 in
    (at.0, kept.0, kept.1, at.2)

pub among_unmarked : (p : Entry → Bool) (xs : List Entry) (m : Entry) → Among m xs → p m ≡ true → Among (unmarked m) (unmarked_where p xs)
among_unmarked p xs m among passes = among_map unmarked (filter p xs) m (among_filter p xs m among passes)

module _ (groups : List (List Entry)) (grouped : AreGroups groups) where
  -- of the entries that pass, one with the key of a group's is of that group
  in_group : (p : Entry → Bool) (group : List Entry) → Among group groups → (m e : Entry) → Among m group → Among e (unmarked_where p (grouped_entries groups)) → e.key ≡ m.key
      → Among e (unmarked_where p group)
  in_group p group among m e here there same =
      let from = unmarked_among p (grouped_entries groups) e there in
      let key : from.0.key ≡ m.key = sym (ap (λ (x : Entry). x.key) from.3) ∙ same in
      subst (λ (x : Entry). Among x (unmarked_where p group)) (sym from.3)
      (among_unmarked p group from.0 (same_group groups grouped.apart group among m from.0 here from.1 key) from.2)

  of_group : (p : Entry → Bool) (group : List Entry) → Among group groups → (e : Entry) → Among e (unmarked_where p group) → Among e (unmarked_where p (grouped_entries groups))
  of_group p group among e there =
      let from = unmarked_among p group e there in
      subst (λ (x : Entry). Among x (unmarked_where p (grouped_entries groups))) (sym from.3)
      (among_unmarked p (grouped_entries groups) from.0 (among_in_flat (λ g. g) groups group from.0 among from.1) from.2)

  -- the leads of all groups, one group after another
  leads_of : (p : Entry → Bool) (e : Entry) → Among e (grouped_entries (map (unmarked_where p) groups)) → Among e (unmarked_where p (grouped_entries groups))
  leads_of p e among =
      let at = among_flat (λ g. g) (map (unmarked_where p) groups) e among in
      let group = map_among (unmarked_where p) groups at.0 at.1 in
      of_group p group.0 group.1 e (subst (λ (es : List Entry). Among e es) group.2 at.2)

  to_leads : (p : Entry → Bool) (group : List Entry) → Among group groups → (e : Entry) → Among e (unmarked_where p group) → Among e (grouped_entries (map (unmarked_where p) groups))
  to_leads p group among e there = among_in_flat (λ g. g) (map (unmarked_where p) groups) (unmarked_where p group) e (among_map (unmarked_where p) groups group among) there

  module _ (p q : Entry → Bool) (r : Entry → Bool) (s : List Entry → Entry → Bool)
      (each : (group : List Entry) → Among group groups → (e : Entry) → Among e (unmarked_where q group) → r e ≡ s group e) where
    -- that entries are among the leads is asked group by group
    held_told : list_all (holds_entry (grouped_entries (map (unmarked_where p) groups))) (filter r (unmarked_where q (grouped_entries groups)))
        ≡ list_all (λ group. list_all (holds_entry (unmarked_where p group)) (filter (s group) (unmarked_where q group))) groups
    held_told =
        bool_same (list_all (holds_entry (grouped_entries (map (unmarked_where p) groups))) (filter r (unmarked_where q (grouped_entries groups))))
        (list_all (λ group. list_all (holds_entry (unmarked_where p group)) (filter (s group) (unmarked_where q group))) groups)
        (λ all. all_from (λ group. list_all (holds_entry (unmarked_where p group)) (filter (s group) (unmarked_where q group))) groups (λ group among.
        all_from (holds_entry (unmarked_where p group)) (filter (s group) (unmarked_where q group)) (λ e there.
        let kept = filter_among (s group) (unmarked_where q group) e there in
        let mine = unmarked_among q group e kept.0 in
        let held = all_at (holds_entry (grouped_entries (map (unmarked_where p) groups))) e (filter r (unmarked_where q (grouped_entries groups))) all
        (among_filter r (unmarked_where q (grouped_entries groups)) e (of_group q group among e kept.0) (each group among e kept.0 ∙ kept.1)) in
        let lead = leads_of p e (held_among (grouped_entries (map (unmarked_where p) groups)) e held) in
        among_held (unmarked_where p group) e (in_group p group among mine.0 e mine.1 lead (ap (λ (x : Entry). x.key) mine.3)))))
        (λ all. all_from (holds_entry (grouped_entries (map (unmarked_where p) groups))) (filter r (unmarked_where q (grouped_entries groups))) (λ e there.
        let kept = filter_among r (unmarked_where q (grouped_entries groups)) e there in
        let mine = unmarked_among q (grouped_entries groups) e kept.0 in
        let group = among_flat (λ g. g) groups mine.0 mine.1 in
        let inside : Among e (unmarked_where q group.0) = subst (λ (x : Entry). Among x (unmarked_where q group.0)) (sym mine.3) (among_unmarked q group.0 mine.0 group.2 mine.2) in
        let held = all_at (holds_entry (unmarked_where p group.0)) e (filter (s group.0) (unmarked_where q group.0))
        (all_at (λ g. list_all (holds_entry (unmarked_where p g)) (filter (s g) (unmarked_where q g))) group.0 groups all group.1)
        (among_filter (s group.0) (unmarked_where q group.0) e inside (sym (each group.0 group.1 e inside) ∙ kept.1)) in
        among_held (grouped_entries (map (unmarked_where p) groups)) e (to_leads p group.0 group.1 e (held_among (unmarked_where p group.0) e held))))

  module _ (p : Entry → Bool) (i : ℕ) where
    all_kept : (es : List Entry) → filter (λ (e : Entry). true) es ≡ es
    all_kept es = filter_every (λ (e : Entry). true) es (λ e among. refl)

    -- that an array has a stray is told group by group
    pub any_told : not (list_all (holds_entry (grouped_entries (map (unmarked_where p) groups))) (told_of_run i groups)) ≡ list_any (has_stray p i) groups
    any_told =
        ap (λ (es : List Entry). not (list_all (holds_entry (grouped_entries (map (unmarked_where p) groups))) es)) (sym (all_kept (told_of_run i groups)))
        ∙ ap not (held_told p (is_from_run i) (λ e. true) (λ group e. true) (λ group among e there. refl))
        ∙ not_all (λ group. list_all (holds_entry (unmarked_where p group)) (filter (λ e. true) (unmarked_where (is_from_run i) group))) groups
        ∙ ap (λ (f : List Entry → Bool). list_any f groups) (λ j group. not (list_all (holds_entry (unmarked_where p group)) (all_kept (unmarked_where (is_from_run i) group) j)))

    module _ (parents : Parents) (tree : IsTree parents) where
      -- an entry is live among all of its array where it is live among those of its group
      live_told : (v : ℕ) (group : List Entry) → Among group groups → (e : Entry) → Among e (unmarked_where (is_from_run i) group)
          → is_live parents (told_of_run i groups) v e ≡ is_live parents (unmarked_where (is_from_run i) group) v e
      live_told v group among e there =
          let mine = unmarked_among (is_from_run i) group e there in
          bool_same (is_live parents (told_of_run i groups) v e) (is_live parents (unmarked_where (is_from_run i) group) v e)
          (live_fewer parents tree (told_of_run i groups) (unmarked_where (is_from_run i) group) v e (λ d inside. of_group (is_from_run i) group among d inside))
          (λ lives.
          live_from parents tree (told_of_run i groups) v e (live_on_path parents tree (unmarked_where (is_from_run i) group) v e lives) (λ d inside same on lt.
          live_nearest parents tree (unmarked_where (is_from_run i) group) v e d lives
          (in_group (is_from_run i) group among mine.0 d mine.1 inside (same ∙ ap (λ (x : Entry). x.key) mine.3)) same on lt))

      -- and so is whether it has one that is live at a version of a tag
      pub live_stray_told : (tag : List ℕ) → not (list_all (λ v. list_all (holds_entry (grouped_entries (map (unmarked_where p) groups))) (live parents (told_of_run i groups) v)) tag)
          ≡ list_any (has_live_stray parents p tag i) groups
      live_stray_told tag =
          ap not (all_same (λ v. list_all (holds_entry (grouped_entries (map (unmarked_where p) groups))) (live parents (told_of_run i groups) v))
          (λ v. list_all (λ group. list_all (holds_entry (unmarked_where p group)) (live parents (unmarked_where (is_from_run i) group) v)) groups) tag (λ v there.
          held_told p (is_from_run i) (is_live parents (told_of_run i groups) v) (λ group. is_live parents (unmarked_where (is_from_run i) group) v) (live_told v)))
          ∙ ap not (all_swapped (λ v group. list_all (holds_entry (unmarked_where p group)) (live parents (unmarked_where (is_from_run i) group) v)) tag groups)
          ∙ not_all (λ group. list_all (λ v. list_all (holds_entry (unmarked_where p group)) (live parents (unmarked_where (is_from_run i) group) v)) tag) groups

module _ (parents : Parents) (tree : IsTree parents) (n : ℕ) where
  abbrev keep : Entry → Bool
  keep e = ltb e.version n

  -- entries of versions that are not made yet are live nowhere, and hide none
  pub live_below : (entries : List Entry) (v : ℕ) → v < n → live parents (filter (λ e. ltb e.version n) entries) v ≡ live parents entries v
  live_below entries v low =
      filter_both keep (is_live parents (filter keep entries) v) (is_live parents entries v) entries (λ e among.
      bool_same (keep e && is_live parents (filter keep entries) v e) (is_live parents entries v e)
      (λ both.
      let lives = (and_parts (keep e) (is_live parents (filter keep entries) v e) both).1 in
      live_from parents tree entries v e (live_on_path parents tree (filter keep entries) v e lives) (λ d there same on lt.
      live_nearest parents tree (filter keep entries) v e d lives (among_filter keep entries d there (below d on)) same on lt))
      (λ lives.
      and_from (keep e) (is_live parents (filter keep entries) v e) (below e (live_on_path parents tree entries v e lives))
      (live_fewer parents tree entries (filter keep entries) v e (λ d there. (filter_among keep entries d there).0) lives)))
    where
      below : (d : Entry) → Among d.version (path parents v) → ltb d.version n ≡ true
      below d on = let le = path_le parents tree d.version v on in lt-ltb d.version n (omega (arith, le, low))
