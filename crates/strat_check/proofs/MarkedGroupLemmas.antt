-- The next group of marked runs that are merged.
use Rattle.std.proofs.Common.{◌≡◌, ◌<◌, ◌≤◌, ◌*◌, ◌/◌, ◌%◌, ℕ, suc, Bool, true, false, cond, ltb, inl, inr, List, [], ◌∷◌, ◌++◌, length, map, filter, get_or, None, refl, sym, ap, ◌∙◌, subst, arith}
use Rattle.std.specs.List.{list_all, slice_get}
use Rattle.std.proofs.lemmas.Bool.{and_parts, and_from, eqb-true, ltb-true, lt-ltb, cases_lt}
use Rattle.strat_base.specs.Entries.{Entry}
use Rattle.strat_base.specs.Order.{descends}
use Rattle.strat_base.proofs.ListFacts.{all_at, all_from, filter_among}
use Rattle.def_crash.specs.Image.{Image}
use Rattle.def_split.specs.Groups.{grouped_entries}
use Rattle.def_promote.specs.Merging.{MergesTo}
use Rattle.def_promote.proofs.MergingLemmas.{merged_more}
use Rattle.def_split.proofs.ListLemmas.{map_among}
use Rattle.strat_arena.specs.ArenaView.{KeyValue}
use Rattle.strat_arena.specs.Items.{entries_of, entry_of_item}
use Rattle.strat_arena.specs.declared.items.Item.{Item}
use Rattle.strat_live.specs.Counting.{are_below}
use Rattle.strat_live.specs.Group.{is_descending}
use Rattle.strat_merge.specs.Gathered.{TakesNext}
use Rattle.strat_merge.specs.Runs.{NoneLeft, lefts}
use Rattle.strat_check.specs.MarkedLaw.{marked_law}
use Rattle.strat_check.specs.MarkedRuns.{marked_seen}
use Rattle.strat_check.specs.declared.marked_run.MarkedRun.{MarkedRun}
use Rattle.strat_check.specs.MarkedGroups.{is_owner_of, is_owned, owned_versions, leads_among}

-- of the items that are of the runs that own them, no two have one version
pub leads_descend : (owners : List ℕ) (items : List Item) → is_descending items ≡ true → descends (leads_among owners items) ≡ true
leads_descend owners [] down = refl
leads_descend owners (item ∷ items) down =
    go (leads_descend owners items (and_parts (list_all (λ (later : Item). ltb later.version item.version) items) (is_descending items) down).1) (is_owner_of owners item.version) refl
  where
    behind : list_all (λ (later : Item). ltb later.version item.version) items ≡ true
    behind = (and_parts (list_all (λ (later : Item). ltb later.version item.version) items) (is_descending items) down).0

    less : is_owner_of owners item.version ≡ true → (x : Item) → x.version < item.version → is_owner_of owners x.version ≡ true → x.version / 16384 < item.version / 16384
    less mine x lower its =
        let one = eqb-true (get_or owners (item.version / 16384) 0) (item.version % 16384) mine in
        let two = eqb-true (get_or owners (x.version / 16384) 0) (x.version % 16384) its in
        let le : x.version / 16384 ≤ item.version / 16384 = omega (arith, lower) in
        elim (cases_lt (x.version / 16384) (item.version / 16384)) [
          | inl lt ↦ lt
          | inr ge ↦
              let same : x.version / 16384 ≡ item.version / 16384 = omega (arith, le, ge) in
              let place : x.version % 16384 ≡ item.version % 16384 = sym two ∙ ap (λ (u : ℕ). get_or owners u 0) same ∙ one in
              absurd (omega (arith, lower, same, place))
        ]

    go : descends (leads_among owners items) ≡ true → (b : Bool) → is_owner_of owners item.version ≡ b → descends (map (λ (d : Item). d.version / 16384) (cond b (item ∷ filter (λ (d : Item). is_owner_of owners d.version) items) (filter (λ (d : Item). is_owner_of owners d.version) items))) ≡ true
    go rest false is = rest
    go rest true is =
        and_from (list_all (λ u. ltb u (item.version / 16384)) (leads_among owners items)) (descends (leads_among owners items))
        (all_from (λ u. ltb u (item.version / 16384)) (leads_among owners items) (λ u among.
        let at = map_among (λ (d : Item). d.version / 16384) (filter (λ (d : Item). is_owner_of owners d.version) items) u among in
        let kept = filter_among (λ (d : Item). is_owner_of owners d.version) items at.0 at.1 in
        let lower = ltb-true at.0.version item.version (all_at (λ (later : Item). ltb later.version item.version) at.0 items behind kept.0) in
        lt-ltb u (item.version / 16384) (subst (λ (w : ℕ). w < item.version / 16384) (sym at.2) (less is at.0 lower kept.1))))
        rest

pub leads_low : (owners : List ℕ) (n : ℕ) (items : List Item) → are_below (16384 * n) items ≡ true → list_all (λ v. ltb v n) (leads_among owners items) ≡ true
leads_low owners n items below =
    all_from (λ v. ltb v n) (leads_among owners items) (λ u among.
    let at = map_among (λ (d : Item). d.version / 16384) (filter (λ (d : Item). is_owner_of owners d.version) items) u among in
    let kept = filter_among (λ (d : Item). is_owner_of owners d.version) items at.0 at.1 in
    let lower = ltb-true at.0.version (16384 * n) (all_at (λ (d : Item). ltb d.version (16384 * n)) at.0 items below kept.0) in
    let small : at.0.version / 16384 < n = omega (arith, lower) in
    lt-ltb u n (subst (λ (w : ℕ). w < n) (sym at.2) small))

-- items and their entries have the same versions
pub owned_items : (owners : List ℕ) (pairs : List KeyValue) (items : List Item) → owned_versions owners (entries_of pairs items) ≡ leads_among owners items
owned_items owners pairs [] = refl
owned_items owners pairs (item ∷ items) = go (is_owner_of owners item.version) (owned_items owners pairs items)
  where
    go : (b : Bool) → owned_versions owners (entries_of pairs items) ≡ leads_among owners items
        → map (λ (e : Entry). e.version / 16384) (cond b (entry_of_item pairs item ∷ filter (is_owned owners) (entries_of pairs items)) (filter (is_owned owners) (entries_of pairs items)))
        ≡ map (λ (d : Item). d.version / 16384) (cond b (item ∷ filter (λ (d : Item). is_owner_of owners d.version) items) (filter (λ (d : Item). is_owner_of owners d.version) items))
    go false same = same
    go true same = ap (λ (vs : List ℕ). item.version / 16384 ∷ vs) same

-- one more group was taken
pub merges_more : (runs groups old new : List (List Entry)) (group : List Entry) → MergesTo runs groups old → TakesNext old new group → MergesTo runs (groups ++ group ∷ []) new
merges_more runs groups old new group merged next = subst (MergesTo runs (groups ++ group ∷ [])) (sym next.1.1) (merged_more runs groups old merged next.0 group next.1.0)

-- where no marked run begins with an entry, none has one left in any image
pub none_marked : (f : Image) (runs : List MarkedRun) → NoneLeft (map marked_seen runs) → grouped_entries (lefts f (map marked_seen runs)) ≡ []
none_marked f [] none = refl
none_marked f (run ∷ runs) none =
    let left : (marked_seen run).left f ≡ [] = ended ((marked_seen run).left f) (sym ((marked_law run).begins f) ∙ none 0) in
    ap (λ (es : List Entry). es ++ grouped_entries (lefts f (map marked_seen runs))) left ∙ none_marked f runs (λ i. none (suc i))
  where
    ended : (es : List Entry) → slice_get es 0 ≡ None → es ≡ []
    ended [] e = refl
    ended (x ∷ es) e = absurd (cc)

-- items that are some have some entries
pub entries_some : (pairs : List KeyValue) (items : List Item) → 0 < length items → 0 < length (entries_of pairs items)
entries_some pairs [] some = some
entries_some pairs (item ∷ items) some = omega arith
