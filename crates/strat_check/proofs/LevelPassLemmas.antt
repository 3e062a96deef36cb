-- One more group of a level is counted, and what the groups tell in the end.
use Rattle.std.proofs.Common.{◌≡◌, ◌<◌, ◌≤◌, ◌*◌, ◌/◌, ◌%◌, ◌^◌, ℕ, zero, suc, Bool, true, false, cond, ltb, ◌||◌, not, List, [], ◌∷◌, ◌++◌, length, map, filter, get_or, Some, refl, sym, ap, ◌∙◌, subst, arith, length-append}
use Rattle.std.specs.List.{list_any, list_all, flat_map, slice_get, sum_by}
use Rattle.std.proofs.lemmas.Bool.{and_parts, ltb-true}
use Rattle.std.proofs.lemmas.List.{map-append}
use Rattle.std.proofs.lemmas.List.Folds.{list_any-append}
use Rattle.std.proofs.lemmas.List.Sums.{sum_by-cons, sum_by-append}
use Rattle.strat_arena.specs.ArenaView.{KeyValue}
use Rattle.strat_arena.specs.Items.{entry_of_item, entries_of}
use Rattle.strat_arena.specs.declared.items.Item.{Item}
use Rattle.strat_base.specs.Tree.{Parents, IsTree}
use Rattle.strat_base.specs.Entries.{Entry, is_ascending, holds_entry, is_tagged}
use Rattle.strat_base.proofs.ListFacts.{Among, all_at, all_same, get_among, among_in_flat}
use Rattle.strat_base.proofs.EntryLemmas.{held_among, among_held}
use Rattle.def_state.specs.Level.{TaggedArray, Level, own_leads, level_leads, tagged_versions, is_distinct}
use Rattle.def_state.specs.Sound.{has_ascending_entries}
use Rattle.def_state.proofs.LevelLemmas.{ascending_single}
use Rattle.def_split.specs.Groups.{grouped_entries, group_versions, AreGroups}
use Rattle.def_split.proofs.ListLemmas.{map_among, filter_same, filter_ascending}
use Rattle.def_promote.specs.Merging.{Merges}
use Rattle.def_promote.proofs.MergingLemmas.{merged}
use Rattle.def_promote.proofs.UnionLemmas.{single_fits}
use Rattle.def_state.specs.Live.{live}
use Rattle.def_check.specs.Marked.{unmarked, is_from_run, marked_runs, told_of_run, is_marked_lead, leads_of_marked, kept_below}
use Rattle.def_check.specs.Told.{MayBeCounted, AreLeadsOf}
use Rattle.def_check.proofs.MarkedLemmas.{run_told}
use Rattle.def_check.proofs.MarkedLeads.{kept_leads}
use Rattle.strat_live.specs.Counting.{are_below}
use Rattle.strat_check.specs.LevelPasses.{AreGroupsCounted}
use Rattle.strat_check.specs.MarkedGroups.{is_owned, owned_versions}
use Rattle.strat_check.specs.Owners.{AreOwners}
use Rattle.strat_check.specs.Sightings.{Sightings, versions_added, IsSighting, IsSighted}
use Rattle.strat_check.specs.Strays.{unmarked_where, has_stray, has_live_stray, strays_at, AreNoted, IsCountedLevel}
use Rattle.strat_check.specs.declared.strays.Strays.{Strays}
use Rattle.strat_check.proofs.StrayLemmas.{any_told, live_stray_told, live_below}

versions_unmarked : (es : List Entry) → map (λ (e : Entry). e.version) (map unmarked es) ≡ map (λ (e : Entry). e.version / 16384) es
versions_unmarked [] = refl
versions_unmarked (e ∷ es) = ap (λ (vs : List ℕ). (e.version / 16384) ∷ vs) (versions_unmarked es)

module _ (parents : Parents) (tags : List (List ℕ)) (owners : List ℕ) (own : AreOwners tags owners) (pairs : List KeyValue) (items : List Item) (low : are_below (16384 * length owners) items ≡ true) where
  -- what the table of owners says of the items at hand is said of them by the tags
  owned_is : (e : Entry) → Among e (entries_of pairs items) → is_owned owners e ≡ is_marked_lead tags e
  owned_is e among =
      let at = map_among (entry_of_item pairs) items e among in
      let less = ltb-true at.0.version (16384 * length owners) (all_at (λ (item : Item). ltb item.version (16384 * length owners)) at.0 items low at.1) in
      let same : e.version ≡ at.0.version = ap (λ (x : Entry). x.version) at.2 in
      own (e.version / 16384) (e.version % 16384) (omega (arith, less, same)) (omega arith)

  leads_are : unmarked_where (is_owned owners) (entries_of pairs items) ≡ unmarked_where (is_marked_lead tags) (entries_of pairs items)
  leads_are = ap (λ (es : List Entry). map unmarked es) (filter_same (is_owned owners) (is_marked_lead tags) (entries_of pairs items) owned_is)

  -- one more group was counted
  pub counted_more : (groups : List (List Entry)) (old new : List Strays) (before now : Sightings) (versions : List ℕ) → AreGroupsCounted parents tags groups old before
      → AreNoted parents (is_owned owners) tags (entries_of pairs items) old new → versions ≡ owned_versions owners (entries_of pairs items)
      → ((others : List (List ℕ)) → IsSighting parents others before → versions_added (others ++ versions ∷ []) ≤ 2 ^ 48 → IsSighting parents (others ++ versions ∷ []) now)
      → AreGroupsCounted parents tags (groups ++ entries_of pairs items ∷ []) new now
  counted_more groups old new before now versions counted noted are adds =
      let group = entries_of pairs items in
      let mine : versions ≡ map (λ (e : Entry). e.version) (unmarked_where (is_marked_lead tags) group) =
      are ∙ sym (versions_unmarked (filter (is_owned owners) group)) ∙ ap (λ (es : List Entry). map (λ (e : Entry). e.version) es) leads_are in
      let whole : group_versions (leads_of_marked tags (groups ++ group ∷ [])) ≡ group_versions (leads_of_marked tags groups) ++ versions ∷ [] =
      ap group_versions (map-append (unmarked_where (is_marked_lead tags)) groups (group ∷ []))
      ∙ map-append (λ (es : List Entry). map (λ (e : Entry). e.version) es) (leads_of_marked tags groups) (unmarked_where (is_marked_lead tags) group ∷ [])
      ∙ ap (λ (vs : List ℕ). group_versions (leads_of_marked tags groups) ++ vs ∷ []) (sym mine) in
      record {
        sighted = λ few.
            let small : versions_added (group_versions (leads_of_marked tags groups) ++ versions ∷ []) ≤ 2 ^ 48 = subst (λ (vs : List (List ℕ)). versions_added vs ≤ 2 ^ 48) whole few in
            let parts = sum_by-append (λ (vs : List ℕ). length vs) (group_versions (leads_of_marked tags groups)) (versions ∷ []) in
            let fewer : versions_added (group_versions (leads_of_marked tags groups)) ≤ 2 ^ 48 = omega (arith, small, parts) in
            subst (λ (vs : List (List ℕ)). IsSighting parents vs now) (sym whole) (adds (group_versions (leads_of_marked tags groups)) (counted.sighted fewer) small);
        any = λ i within.
            let known : i < length old = omega (arith, within, noted.len) in
            noted.any i known
            ∙ (λ j. counted.any i known j || not (list_all (holds_entry (leads_are j)) (unmarked_where (is_from_run i) group)))
            ∙ sym (any_last (has_stray (is_marked_lead tags) i) groups group);
        live = λ i within.
            let known : i < length old = omega (arith, within, noted.len) in
            noted.live i known
            ∙ (λ j. counted.live i known j || not (list_all (λ v. list_all (holds_entry (leads_are j)) (live parents (unmarked_where (is_from_run i) group) v)) (get_or tags i [])))
            ∙ sym (any_last (has_live_stray parents (is_marked_lead tags) (get_or tags i []) i) groups group);
      }
    where
      any_last : (p : List Entry → Bool) (xs : List (List Entry)) (x : List Entry) → list_any p (xs ++ x ∷ []) ≡ (list_any p xs || p x)
      any_last p xs x = list_any-append p xs (x ∷ []) ∙ ap (λ (b : Bool). list_any p xs || b) (or_false (p x))
        where
          or_false : (b : Bool) → (b || false) ≡ b
          or_false true = refl
          or_false false = refl

-- no group was counted yet
pub counted_none : (parents : Parents) (tags : List (List ℕ)) (found : List Strays) (s : Sightings) → IsSighting parents [] s
    → ((i : ℕ) → ((strays_at found i).has_any ≡ false) × ((strays_at found i).is_live ≡ false)) → AreGroupsCounted parents tags [] found s
counted_none parents tags found s sighting none = record { sighted = λ few. sighting; any = λ i within. (none i).0; live = λ i within. (none i).1 }

mapped_get : {X Y : Type 0} (f : X → Y) (xs : List X) (k : ℕ) (x : X) → slice_get xs k ≡ Some x → slice_get (map f xs) k ≡ Some (f x)
mapped_get f [] k x e = absurd (cc)
mapped_get f (z ∷ xs) zero x e = let same : z ≡ x = cc in ap (λ w. Some (f w)) same
mapped_get f (z ∷ xs) (suc k) x e = mapped_get f xs k x e

get_mapped : {X Y : Type 0} (f : X → Y) (xs : List X) (k : ℕ) (y : Y) → slice_get (map f xs) k ≡ Some y → (x : X) × (slice_get xs k ≡ Some x) × (y ≡ f x)
get_mapped f [] k y e = absurd (cc)
get_mapped f (x ∷ xs) zero y e = (x, refl, cc)
get_mapped f (x ∷ xs) (suc k) y e = get_mapped f xs k y e

at_place : {X : Type 0} (xs : List X) (k : ℕ) (x d : X) → slice_get xs k ≡ Some x → get_or xs k d ≡ x
at_place [] k x d e = absurd (cc)
at_place (z ∷ xs) zero x d e = cc
at_place (z ∷ xs) (suc k) x d e = at_place xs k x d e

less_than : {X : Type 0} (xs : List X) (k : ℕ) (x : X) → slice_get xs k ≡ Some x → k < length xs
less_than [] k x is = absurd (cc)
less_than (z ∷ xs) zero x is = omega arith
less_than (z ∷ xs) (suc k) x is = let rest = less_than xs k x is in omega (arith, rest)

length_mapped : {X Y : Type 0} (f : X → Y) (xs : List X) → length (map f xs) ≡ length xs
length_mapped f [] = refl
length_mapped f (x ∷ xs) = ap suc (length_mapped f xs)

-- so many entries have so many versions
versions_all : (groups : List (List Entry)) → versions_added (group_versions groups) ≡ length (grouped_entries groups)
versions_all [] = refl
versions_all (group ∷ groups) =
    let whole = sum_by-cons (λ (vs : List ℕ). length vs) (map (λ (e : Entry). e.version) group) (group_versions groups) in
    let rest = versions_all groups in
    let mine = length_mapped (λ (e : Entry). e.version) group in
    omega (arith, whole, rest, mine, length-append group (grouped_entries groups))

fewer_kept : {X : Type 0} (p : X → Bool) (xs : List X) → length (filter p xs) ≤ length xs
fewer_kept p [] = omega arith
fewer_kept {X} p (x ∷ xs) = go (p x) (fewer_kept p xs)
  where
    go : (b : Bool) → length (filter p xs) ≤ length xs → length (cond b (x ∷ filter p xs) (filter p xs)) ≤ suc (length xs)
    go true rest = omega (arith, rest)
    go false rest = omega (arith, rest)

leads_fit : (arrays : List TaggedArray) → length (flat_map own_leads arrays) ≤ sum_by (λ a. length a.content) arrays
leads_fit [] = omega arith
leads_fit (a ∷ arrays) =
    let rest = leads_fit arrays in
    let mine = fewer_kept (λ (e : Entry). is_tagged a.tag e.version) a.content in
    let whole = sum_by-cons (λ (x : TaggedArray). length x.content) a arrays in
    omega (arith, rest, mine, whole, length-append (own_leads a) (flat_map own_leads arrays))

-- all groups of a level were counted
module _ (parents : Parents) (tree : IsTree parents) (level : Level) (may : MayBeCounted level) (old : level.horizon ≤ length parents) (few : length level.arrays ≤ 16384) where
  tag_low : (a : TaggedArray) → Among a level.arrays → (v : ℕ) → Among v a.tag → v < length parents
  tag_low a here v among =
      let parts = and_parts (is_distinct (tagged_versions level)) (list_all (λ w. ltb w level.horizon) (tagged_versions level)) may.disjoint in
      let less = ltb-true v level.horizon (all_at (λ w. ltb w level.horizon) v (tagged_versions level) parts.1 (among_in_flat (λ (x : TaggedArray). x.tag) level.arrays a v here among)) in
      omega (arith, less, old)

  module _ (groups : List (List Entry)) (merges : Merges (marked_runs 0 (map (λ a. a.content) (map (kept_below (length parents)) level.arrays))) groups) where
    leads : AreLeadsOf level (leads_of_marked (map (λ a. a.tag) level.arrays) groups)
    leads = kept_leads (length parents) level may old groups few merges

    grouped : AreGroups groups
    grouped = (merged (marked_runs 0 (map (λ a. a.content) (map (kept_below (length parents)) level.arrays))) groups merges).1

    few_versions : sum_by (λ a. length a.content) level.arrays ≤ 2 ^ 48 → versions_added (group_versions (leads_of_marked (map (λ a. a.tag) level.arrays) groups)) ≤ 2 ^ 48
    few_versions total =
        let size = versions_all (leads_of_marked (map (λ a. a.tag) level.arrays) groups) in
        let fits = single_fits (grouped_entries (leads_of_marked (map (λ a. a.tag) level.arrays) groups)) (level_leads level)
        (ascending_single (grouped_entries (leads_of_marked (map (λ a. a.tag) level.arrays) groups)) leads.grouped.ascending)
        (λ e among. held_among (level_leads level) e (sym (leads.same e) ∙ among_held (grouped_entries (leads_of_marked (map (λ a. a.tag) level.arrays) groups)) e among)) in
        omega (arith, size, fits, leads_fit level.arrays, total)

    told : (i : ℕ) (a : TaggedArray) → slice_get level.arrays i ≡ Some a → told_of_run i groups ≡ filter (λ e. ltb e.version (length parents)) a.content
    told i a at =
        let size = length_mapped (λ (x : TaggedArray). x.content) (map (kept_below (length parents)) level.arrays) in
        let sizes = length_mapped (kept_below (length parents)) level.arrays in
        run_told (map (λ a. a.content) (map (kept_below (length parents)) level.arrays)) groups (omega (arith, size, sizes, few))
        (λ k run is.
        let one = get_mapped (λ (x : TaggedArray). x.content) (map (kept_below (length parents)) level.arrays) k run is in
        let two = get_mapped (kept_below (length parents)) level.arrays k one.0 one.1 in
        ap is_ascending (one.2 ∙ ap (λ (x : TaggedArray). x.content) two.2)
        ∙ filter_ascending (λ (e : Entry). ltb e.version (length parents)) two.0.content (all_at has_ascending_entries two.0 level.arrays may.ascending (get_among level.arrays k two.0 two.1)))
        merges i (filter (λ e. ltb e.version (length parents)) a.content)
        (mapped_get (λ (x : TaggedArray). x.content) (map (kept_below (length parents)) level.arrays) i (kept_below (length parents) a) (mapped_get (kept_below (length parents)) level.arrays i a at))

    pub level_counted : (found : List Strays) (before now : Sightings) → AreGroupsCounted parents (map (λ a. a.tag) level.arrays) groups found before
        → sum_by (λ a. length a.content) level.arrays ≤ 2 ^ 48
        → ((others : List (List ℕ)) → IsSighting parents others before → versions_added others ≤ 2 ^ 48 → IsSighted parents others now) → IsCountedLevel parents level found now
    level_counted found before now counted total finish = record {
      groups = leads_of_marked (map (λ a. a.tag) level.arrays) groups;
      leads = leads;
      sighted = finish (group_versions (leads_of_marked (map (λ a. a.tag) level.arrays) groups)) (counted.sighted (few_versions total)) (few_versions total);
      strays = λ i a s at here.
          let within = less_than found i s here in
          let is : strays_at found i ≡ s = at_place found i s (record { has_any = false; is_live = false; is_due = false }) here in
          let tag : get_or (map (λ (x : TaggedArray). x.tag) level.arrays) i [] ≡ a.tag = at_place (map (λ (x : TaggedArray). x.tag) level.arrays) i a.tag [] (mapped_get (λ (x : TaggedArray). x.tag) level.arrays i a at) in
          let p = is_marked_lead (map (λ (x : TaggedArray). x.tag) level.arrays) in
          let all = grouped_entries (leads_of_marked (map (λ (x : TaggedArray). x.tag) level.arrays) groups) in
          record {
            any = sym (ap (λ (x : Strays). x.has_any) is) ∙ counted.any i within ∙ sym (any_told groups grouped p i) ∙ ap (λ (es : List Entry). not (list_all (holds_entry all) es)) (told i a at);
            live = sym (ap (λ (x : Strays). x.is_live) is) ∙ counted.live i within
                ∙ ap (λ (vs : List ℕ). list_any (has_live_stray parents p vs i) groups) tag
                ∙ sym (live_stray_told groups grouped p i parents tree a.tag)
                ∙ ap not (all_same (λ v. list_all (holds_entry all) (live parents (told_of_run i groups) v)) (λ v. list_all (holds_entry all) (live parents a.content v)) a.tag (λ v there.
                ap (λ (es : List Entry). list_all (holds_entry all) (live parents es v)) (told i a at)
                ∙ ap (λ (es : List Entry). list_all (holds_entry all) es) (live_below parents tree (length parents) a.content v (tag_low a (get_among level.arrays i a at) v there))));
          };
    }
