-- The rules of a level are told from what was counted of its leads and from descriptors.
use Rattle.std.proofs.Common.{◌≡◌, ◌<◌, ◌≤◌, ◌-◌, ◌*◌, ◌^◌, ◌||◌, ◌&&◌, ◌⊎◌, ℕ, zero, suc, Bool, true, false, cond, eqb, leb, ltb, not, min, get_or, set, inl, inr, List, [], ◌∷◌, ◌++◌, length, filter, replicate, Option, None, Some, refl, sym, ap, ◌∙◌, arith, true≢false, append_assoc, append-nil}
use Rattle.std.specs.List.{list_all, flat_map, find, fold, range_with_len}
use Rattle.std.specs.Option.{option_map_or, unwrap_or}
use Rattle.std.proofs.lemmas.Bool.{and_parts, and_from, ltb-true, lt-ltb, leb-true, le-leb, eqb-true, eq-eqb, cases_Bool, cases_lt}
use Rattle.std.proofs.lemmas.Bool.Decides.{nat_tests}
use Rattle.std.proofs.lemmas.List.{get_or-set_same, get_or-set_other, get_or-replicate, get_or_default, length-replicate}
use Rattle.std.proofs.lemmas.List.Elements.{filter-append}
use Rattle.std.proofs.Math.ListN.{length-set, get_or-eq_default}
use Rattle.strat_base.specs.Entries.{Entry, is_tagged}
use Rattle.strat_base.specs.Tree.{Parents, IsTree, parent_of}
use Rattle.strat_base.specs.declared.descriptors.ArrayDesc.{ArrayDesc}
use Rattle.strat_base.specs.declared.descriptors.LevelDesc.{LevelDesc}
use Rattle.strat_base.proofs.EntryLemmas.{held_among, among_held}
use Rattle.strat_base.proofs.ListFacts.{Among, any_among, among_right, all_at, all_from, all_same, among_flat, among_filter, filter_among, among_range, range_among}
use Rattle.strat_base.proofs.TreeLemmas.{parent_older}
use Rattle.def_bytes.specs.Arrays.{all_some}
use Rattle.def_check.specs.Firsts.{first_child}
use Rattle.def_check.specs.Told.{seen_by}
use Rattle.def_check.proofs.FirstLemmas.{child_below}
use Rattle.def_check.proofs.ToldLemmas.{told_tags}
use Rattle.def_check.proofs.WeightLemmas.{versions_count}
use Rattle.def_crash.specs.Image.{Image}
use Rattle.def_promote.proofs.LevelsLemmas.{numbered_apart}
use Rattle.def_recovery.proofs.OpeningLemmas.{each_some}
use Rattle.def_recovery.specs.Opened.{array_on}
use Rattle.def_split.specs.Groups.{grouped_entries}
use Rattle.def_split.proofs.CountedLemmas.{own_groups}
use Rattle.def_split.proofs.ListLemmas.{bool_same, filter_every, filter_none, some_length}
use Rattle.def_state.specs.Level.{TaggedArray, Level, own_leads, level_leads, tagged_versions, has_live_tagged}
use Rattle.def_state.specs.Sound.{has_child_below, shallower, has_room, is_numbered_from}
use Rattle.def_state.specs.State.{State, versions_of, marks_of, is_living}
use Rattle.strat_check.specs.ArrayNumbers.{IsLevelSeen}
use Rattle.strat_check.specs.Children.{lowered_to_child, lowered_by_own}
use Rattle.strat_check.specs.LevelNumbers.{marked_with, marked_of, is_quiet}
use Rattle.strat_check.specs.Sightings.{Sightings}
use Rattle.strat_check.specs.Walked.{AreFirstChildren}
use Rattle.strat_tree.specs.Living.{is_living_child}
use Rattle.strat_check.proofs.ArrayLemmas.{tag_below}
use Rattle.strat_check.proofs.WalkLemmas.{IsLevelOf, array_of}

-- marks

marked_at : (marks : List Bool) (tag : List ℕ) (v : ℕ) → list_all (λ u. ltb u (length marks)) tag ≡ true → v < length marks → get_or (marked_with marks tag) v false ≡ (get_or marks v false || is_tagged tag v)
marked_at marks [] v low lt = go (get_or marks v false)
  where
    go : (b : Bool) → b ≡ (b || false)
    go true = refl
    go false = refl
marked_at marks (u ∷ tag) v low lt =
    marked_at (set marks u true) tag v (ap (λ (n : ℕ). list_all (λ w. ltb w n) tag) size ∙ parts.1) (omega (arith, lt, size)) ∙ go (eqb u v) refl
  where
    size : length (set marks u true) ≡ length marks
    size = length-set marks u true

    parts : (ltb u (length marks) ≡ true) × (list_all (λ w. ltb w (length marks)) tag ≡ true)
    parts = and_parts (ltb u (length marks)) (list_all (λ w. ltb w (length marks)) tag) low

    either : (a b : Bool) → (true || b) ≡ (a || (true || b))
    either true b = refl
    either false b = refl

    go : (b : Bool) → eqb u v ≡ b → (get_or (set marks u true) v false || is_tagged tag v) ≡ (get_or marks v false || (b || is_tagged tag v))
    go true same =
        ap (λ (b : Bool). b || is_tagged tag v) (ap (λ (w : ℕ). get_or (set marks w true) v false) (eqb-true u v same) ∙ get_or-set_same marks v true false lt)
        ∙ either (get_or marks v false) (is_tagged tag v)
    go false other = ap (λ (b : Bool). b || is_tagged tag v) (get_or-set_other marks u v true false (λ same. true≢false (sym (eq-eqb u v (sym same)) ∙ other)))

tags_kept : (f : Image) (ds : List ArrayDesc) (as' : List TaggedArray) → all_some (array_on f) ds ≡ Some as' → flat_map (λ (a : ArrayDesc). a.versions) ds ≡ flat_map (λ (a : TaggedArray). a.tag) as'
tags_kept f [] as' e = let none : [] ≡ as' = cc in ap (flat_map (λ (a : TaggedArray). a.tag)) none
tags_kept f (d ∷ ds) as' e =
    let parts = each_some (array_on f) d ds as' e in
    (λ i. sym (array_of f d parts.0 parts.2).tag i ++ tags_kept f ds parts.1 parts.3 i) ∙ ap (flat_map (λ (a : TaggedArray). a.tag)) parts.4

module _ (s : State) (f : Image) (desc : LevelDesc) (on : Level) (groups : List (List Entry)) (leads : Sightings) (its : IsLevelOf f desc on) (x : IsLevelSeen s on groups leads) where
  abbrev parents : Parents
  parents = versions_of s

  seen_leads : (v : ℕ) → v < length parents → get_or leads.seen v 0 ≡ seen_by parents groups v
  seen_leads v lt = x.sighted.seen v (let same = x.size in omega (arith, lt, same)) ∙ sym (versions_count parents x.tree groups x.led.grouped v)

  -- b
  pub tagged_told : list_all (is_quiet (marked_of desc.horizon desc.arrays) leads) (range_with_len 0 desc.horizon) ≡ has_live_tagged parents on
  tagged_told =
      ap (λ (h : ℕ). list_all (is_quiet (marked_of h desc.arrays) leads) (range_with_len 0 h)) (sym its.horizon)
      ∙ all_same (is_quiet (marked_of on.horizon desc.arrays) leads) (λ v. is_tagged (tagged_versions on) v || eqb (seen_by parents groups v) 0) (range_with_len 0 on.horizon)
      (λ v among i. marked v among i || eqb (seen_leads v (known v among) i) 0)
      ∙ sym (told_tags parents x.tree on x.may groups x.led)
    where
      below : (v : ℕ) → Among v (range_with_len 0 on.horizon) → v < on.horizon
      below v among = let at = range_among 0 on.horizon v among in omega (arith, at.1)

      known : (v : ℕ) → Among v (range_with_len 0 on.horizon) → v < length parents
      known v among = let lt = below v among in let old = x.old in omega (arith, lt, old)

      none : List Bool
      none = replicate on.horizon false

      low : list_all (λ u. ltb u on.horizon) (tagged_versions on) ≡ true
      low = (and_parts _ (list_all (λ u. ltb u on.horizon) (tagged_versions on)) x.may.disjoint).1

      marked : (v : ℕ) → Among v (range_with_len 0 on.horizon) → get_or (marked_of on.horizon desc.arrays) v false ≡ is_tagged (tagged_versions on) v
      marked v among =
          ap (λ (tag : List ℕ). get_or (marked_with (replicate on.horizon false) tag) v false) (tags_kept f desc.arrays on.arrays its.arrays)
          ∙ marked_at (replicate on.horizon false) (tagged_versions on) v (ap (λ (n : ℕ). list_all (λ u. ltb u n) (tagged_versions on)) (length-replicate on.horizon false) ∙ low) (let size = length-replicate on.horizon false in let lt = below v among in omega (arith, size, lt))
          ∙ ap (λ (b : Bool). b || is_tagged (tagged_versions on) v) (get_or-replicate on.horizon v false false (below v among))

  -- h
  pub roomy_told : (count mem : ℕ) → count ≡ length (level_leads on) → s.mem ≡ mem → leb count (mem * 2 ^ desc.number) ≡ has_room s on
  roomy_told count mem counted same = λ i. leb (counted i) (sym same i * 2 ^ sym its.number i)

-- levels that are shallower than one

pub shallower_done : (s : State) (done rest : List Level) (on : Level) → is_numbered_from 1 s.levels ≡ true → s.levels ≡ done ++ on ∷ rest → shallower s on ≡ done
shallower_done s done rest on numbered split =
    ap (filter (λ (other : Level). ltb other.number on.number)) split
    ∙ filter-append (λ (other : Level). ltb other.number on.number) done (on ∷ rest)
    ∙ (λ i. front i ++ behind i)
    ∙ append-nil done
  where
    whole : is_numbered_from 1 (done ++ on ∷ rest) ≡ true
    whole = ap (is_numbered_from 1) (sym split) ∙ numbered

    front : filter (λ (other : Level). ltb other.number on.number) done ≡ done
    front = filter_every (λ (other : Level). ltb other.number on.number) done (λ level among. lt-ltb level.number on.number (numbered_apart 1 done (on ∷ rest) whole level on among (inl refl)))

    no : (a b : ℕ) → b ≤ a → ltb a b ≡ false
    no a b le = go (cases_Bool (ltb a b))
      where
        go : (ltb a b ≡ true) ⊎ (ltb a b ≡ false) → ltb a b ≡ false
        go (inl lt) = let low = ltb-true a b lt in absurd (omega (arith, low, le))
        go (inr ge) = ge

    later : is_numbered_from 1 ((done ++ on ∷ []) ++ rest) ≡ true
    later = ap (is_numbered_from 1) (append_assoc done (on ∷ []) rest) ∙ whole

    behind : filter (λ (other : Level). ltb other.number on.number) (on ∷ rest) ≡ []
    behind = filter_none (λ (other : Level). ltb other.number on.number) (on ∷ rest) each
      where
        each : (level : Level) → Among level (on ∷ rest) → ltb level.number on.number ≡ false
        each level (inl here) = no level.number on.number (let same : level.number ≡ on.number = ap (λ (l : Level). l.number) here in omega (arith, same))
        each level (inr there) =
            no level.number on.number (let lt = numbered_apart 1 (done ++ on ∷ []) rest later on level (among_right done (on ∷ []) on (inl refl)) there in omega (arith, lt))

-- the least living children of versions

leb_refl : (h : ℕ) → leb h h ≡ true
leb_refl h = le-leb h h (omega arith)

leb_min : (h x m : ℕ) → leb h (min x m) ≡ (leb h m && leb h x)
leb_min h x m =
    bool_same (leb h (min x m)) (leb h m && leb h x)
    (λ le. let low = leb-true h (min x m) le in and_from (leb h m) (leb h x) (le-leb h m (omega (arith, low))) (le-leb h x (omega (arith, low))))
    (λ both.
    let parts = and_parts (leb h m) (leb h x) both in
    let one = leb-true h m parts.0 in
    let two = leb-true h x parts.1 in
    le-leb h (min x m) (omega (arith, one, two)))

lowered_le : (h : ℕ) (first : List ℕ) (v m : ℕ) → leb h (lowered_to_child first m v) ≡ (leb h m && leb h (get_or first v h))
lowered_le h [] v m = leb_min h m m ∙ bool_same (leb h m && leb h m) (leb h m && leb h h) (λ b. and_from (leb h m) (leb h h) (and_parts (leb h m) (leb h m) b).0 (leb_refl h)) (λ b. let p = (and_parts (leb h m) (leb h h) b).0 in and_from (leb h m) (leb h m) p p)
lowered_le h (x ∷ first) zero m = leb_min h x m
lowered_le h (x ∷ first) (suc v) m = lowered_le h first v m

and_assoc : (a b c : Bool) → (a && b && c) ≡ (a && (b && c))
and_assoc true b c = refl
and_assoc false b c = refl

and_true : (a : Bool) → a ≡ (a && true)
and_true true = refl
and_true false = refl

pub lowest_of : {A : Type 0} (version : A → ℕ) (h : ℕ) (first : List ℕ) (m : ℕ) (xs : List A)
    → leb h (fold (λ n x. lowered_to_child first n (version x)) m xs) ≡ (leb h m && list_all (λ x. leb h (get_or first (version x) h)) xs)
lowest_of version h first m [] = and_true (leb h m)
lowest_of version h first m (x ∷ xs) =
    lowest_of version h first (lowered_to_child first m (version x)) xs
    ∙ ap (λ (b : Bool). b && list_all (λ y. leb h (get_or first (version y) h)) xs) (lowered_le h first (version x) m)
    ∙ and_assoc (leb h m) (leb h (get_or first (version x) h)) (list_all (λ y. leb h (get_or first (version y) h)) xs)

pub lowest_own : (h : ℕ) (own first : List ℕ) (m : ℕ) (vs : List ℕ)
    → leb h (fold (lowered_by_own own first) m vs) ≡ (leb h m && list_all (λ v. eqb (get_or own v 0) 0 || leb h (get_or first v h)) vs)
lowest_own h own first m [] = and_true (leb h m)
lowest_own h own first m (v ∷ vs) =
    lowest_own h own first (lowered_by_own own first m v) vs
    ∙ ap (λ (b : Bool). b && list_all (λ u. eqb (get_or own u 0) 0 || leb h (get_or first u h)) vs) (go (eqb (get_or own v 0) 0))
    ∙ and_assoc (leb h m) (eqb (get_or own v 0) 0 || leb h (get_or first v h)) (list_all (λ u. eqb (get_or own u 0) 0 || leb h (get_or first u h)) vs)
  where
    go : (b : Bool) → leb h (cond b m (lowered_to_child first m v)) ≡ (leb h m && (b || leb h (get_or first v h)))
    go true = and_true (leb h m)
    go false = lowered_le h first v m

-- a version that has no living child below h has none that is less
module _ (s : State) (first : List ℕ) (are : AreFirstChildren s first) (tree : IsTree (versions_of s)) (h : ℕ) (le : h ≤ length (versions_of s)) where
  told : (o : Option ℕ) → leb h (unwrap_or o (length (versions_of s))) ≡ not (option_map_or (λ c. ltb c h) o false)
  told None = le-leb h (length (versions_of s)) le
  told (Some c) = turned
    where
      turned : leb h c ≡ not (ltb c h)
      turned = grind (arith, nat_tests)

  known_child : (v : ℕ) → v < length (versions_of s) → leb h (get_or first v h) ≡ not (has_child_below s h v)
  known_child v lt =
      ap (leb h) (get_or_default first v h (length (versions_of s)) (let size = are.len in omega (arith, lt, size)) ∙ are.each v lt ∙ ap (λ (k : ℕ). unwrap_or (find (is_living_child (versions_of s) (marks_of s) v) (range_with_len 0 k)) (length (versions_of s))) whole)
      ∙ told (first_child s v)
      ∙ ap not (sym (child_below s h v le))
    where
      whole : length (versions_of s) - 0 ≡ length (versions_of s)
      whole = omega arith

  -- no version was made of one that was not
  none_unknown : (v : ℕ) → length (versions_of s) ≤ v → has_child_below s h v ≡ false
  none_unknown v past = go (cases_Bool (has_child_below s h v))
    where
      parent : (o : Option ℕ) → option_map_or (λ p. eqb p v) o false ≡ true → o ≡ Some v
      parent None e = absurd (true≢false (sym e))
      parent (Some p) e = ap (λ (q : ℕ). Some q) (eqb-true p v e)

      go : (has_child_below s h v ≡ true) ⊎ (has_child_below s h v ≡ false) → has_child_below s h v ≡ false
      go (inr missing) = missing
      go (inl yes') =
          let found = any_among (λ c. option_map_or (λ p. eqb p v) (parent_of (versions_of s) c) false && is_living s c) (range_with_len 0 h) yes' in
          let low = range_among 0 h found.0 found.1 in
          let up = parent_older (versions_of s) tree found.0 v (parent (parent_of (versions_of s) found.0) (and_parts (option_map_or (λ p. eqb p v) (parent_of (versions_of s) found.0) false) (is_living s found.0) found.2).0) in
          absurd (omega (arith, low.1, up, le, past))

  pub child_told : (v : ℕ) → leb h (get_or first v h) ≡ not (has_child_below s h v)
  child_told v = go (cases_lt v (length (versions_of s)))
    where
      go : (v < length (versions_of s)) ⊎ (length (versions_of s) ≤ v) → leb h (get_or first v h) ≡ not (has_child_below s h v)
      go (inl lt) = known_child v lt
      go (inr past) = ap (leb h) (get_or-eq_default first h (let size = are.len in omega (arith, past, size))) ∙ leb_refl h ∙ sym (ap not (none_unknown v past))

  -- j, of the leads of a level
  pub leads_lowered : (on : Level) (groups : List (List Entry)) (leads : Sightings) → IsLevelSeen s on groups leads
      → list_all (λ v. eqb (get_or leads.own v 0) 0 || leb h (get_or first v h)) (range_with_len 0 (length (versions_of s))) ≡ list_all (λ e. not (has_child_below s h e.version)) (level_leads on)
  leads_lowered on groups leads x =
      bool_same (list_all quiet (range_with_len 0 (length (versions_of s)))) (list_all barren (level_leads on))
      (λ all. all_from barren (level_leads on) (λ e among.
      let its = among_flat own_leads on.arrays e among in
      let kept = filter_among (λ (d : Entry). is_tagged its.0.tag d.version) its.0.content e its.2 in
      let tagged = any_among (λ w. eqb w e.version) its.0.tag kept.1 in
      let lt = tag_below on x.may its.0 its.1 tagged.0 tagged.1 in
      let same = eqb-true tagged.0 e.version tagged.2 in
      let old = x.old in
      let below : e.version < length (versions_of s) = omega (arith, lt, same, old) in
      sym (child_told e.version) ∙ has_some (get_or leads.own e.version 0) (leb h (get_or first e.version h)) (all_at quiet e.version (range_with_len 0 (length (versions_of s))) all (among_range 0 (length (versions_of s)) e.version (omega arith) (omega (arith, below))))
      (let grouped = held_among (grouped_entries groups) e (x.led.same e ∙ among_held (level_leads on) e among) in
      let some = some_length (filter (λ (d : Entry). eqb d.version e.version) (grouped_entries groups)) e (among_filter (λ (d : Entry). eqb d.version e.version) (grouped_entries groups) e grouped (eq-eqb e.version e.version refl)) in
      let own = own_is e.version below in
      omega (arith, some, own))))
      (λ all. all_from quiet (range_with_len 0 (length (versions_of s))) (λ v among.
      let low = range_among 0 (length (versions_of s)) v among in
      let below : v < length (versions_of s) = omega (arith, low.1) in
      or_from (get_or leads.own v 0) (leb h (get_or first v h)) (λ some.
      let own = own_is v below in
      let e = first_one (filter (λ (d : Entry). eqb d.version v) (grouped_entries groups)) (omega (arith, own, some)) in
      let kept = filter_among (λ (d : Entry). eqb d.version v) (grouped_entries groups) e.0 e.1 in
      let lead = held_among (level_leads on) e.0 (sym (x.led.same e.0) ∙ among_held (grouped_entries groups) e.0 kept.0) in
      child_told v ∙ ap (λ (u : ℕ). not (has_child_below s h u)) (sym (eqb-true e.0.version v kept.1)) ∙ all_at barren e.0 (level_leads on) all lead)))
    where
      quiet : ℕ → Bool
      quiet v = eqb (get_or leads.own v 0) 0 || leb h (get_or first v h)

      barren : Entry → Bool
      barren e = not (has_child_below s h e.version)

      own_is : (v : ℕ) → v < length (versions_of s) → get_or leads.own v 0 ≡ length (filter (λ (d : Entry). eqb d.version v) (grouped_entries groups))
      own_is v lt = x.sighted.own v (let size = x.size in omega (arith, lt, size)) ∙ sym (own_groups groups v)

      has_some : (n : ℕ) (b : Bool) → (eqb n 0 || b) ≡ true → 0 < n → b ≡ true
      has_some n b e some = go (eqb n 0) refl e
        where
          go : (c : Bool) → eqb n 0 ≡ c → (c || b) ≡ true → b ≡ true
          go true is e = let none = eqb-true n 0 is in absurd (omega (arith, none, some))
          go false is e = e

      nonzero : (n : ℕ) → eqb n 0 ≡ false → 0 < n
      nonzero zero e = absurd (true≢false e)
      nonzero (suc n) e = omega arith

      or_from : (n : ℕ) (b : Bool) → (0 < n → b ≡ true) → (eqb n 0 || b) ≡ true
      or_from n b each = go (eqb n 0) refl
        where
          go : (c : Bool) → eqb n 0 ≡ c → (c || b) ≡ true
          go true is = refl
          go false is = each (nonzero n is)

      first_one : (es : List Entry) → 0 < length es → (e : Entry) × Among e es
      first_one [] some = absurd (omega (arith, some))
      first_one (e ∷ es) some = (e, inl refl)
