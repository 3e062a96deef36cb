-- Whether an entry is one of the leads of a group, told by the item of its version and of the place that owns it.
use Rattle.std.proofs.Common.{◌≡◌, ◌<◌, ◌≤◌, ◌+◌, ◌*◌, ◌/◌, ◌%◌, ℕ, zero, suc, true, false, eqb, ltb, inl, inr, List, [], ◌∷◌, length, get_or, refl, sym, ap, ◌∙◌, subst, arith}
use Rattle.std.specs.List.{list_all, Contains}
use Rattle.std.specs.List.Sorted.{IsPartitionedBy, IsPartitionPoint}
use Rattle.std.proofs.lemmas.Bool.{and_parts, and_from, ltb-true, ltb-false, lt-ltb, eq-eqb, eqb-true, cases_lt, cases_eq, false_from_ne_true}
use Rattle.std.proofs.lemmas.Nat.{div-mul-add, mod-mul-add}
use Rattle.strat_arena.specs.ArenaView.{KeyValue}
use Rattle.strat_arena.specs.Items.{entry_of_item, entries_of}
use Rattle.strat_arena.specs.declared.items.Item.{Item}
use Rattle.strat_base.specs.Entries.{Entry, is_of, is_at, is_same, is_same_value, holds_entry}
use Rattle.strat_base.proofs.ListFacts.{Among, all_at}
use Rattle.strat_base.proofs.EntryLemmas.{is_of_key, at_key_version, same_entry, entry_same, held_among, among_held}
use Rattle.def_split.proofs.ListLemmas.{bool_same, map_among, among_map}
use Rattle.def_check.specs.Marked.{unmarked}
use Rattle.strat_live.specs.Group.{is_descending}
use Rattle.strat_check.specs.MarkedGroups.{is_owned}
use Rattle.strat_check.specs.Strays.{unmarked_where}
use Rattle.strat_check.proofs.StrayLemmas.{unmarked_among, among_unmarked}

-- items whose versions descend

version_under : (items : List Item) (n i : ℕ) (d : Item) → list_all (λ later. ltb later.version n) items ≡ true → i < length items → (get_or items i d).version < n
version_under [] n i d low within = absurd (omega arith)
version_under (x ∷ items) n zero d low within = ltb-true x.version n (and_parts (ltb x.version n) (list_all (λ later. ltb later.version n) items) low).0
version_under (x ∷ items) n (suc i) d low within = version_under items n i d (and_parts (ltb x.version n) (list_all (λ later. ltb later.version n) items) low).1 (omega arith)

-- a later item has a lower version
versions_fall : (items : List Item) (i j : ℕ) (d : Item) → is_descending items ≡ true → i ≤ j → j < length items → (get_or items j d).version ≤ (get_or items i d).version
versions_fall [] i j d down le lt = absurd (omega arith)
versions_fall (x ∷ items) zero zero d down le lt = omega arith
versions_fall (x ∷ items) zero (suc j) d down le lt =
    let parts = and_parts (list_all (λ later. ltb later.version x.version) items) (is_descending items) down in
    let less : (get_or items j d).version < x.version = version_under items x.version j d parts.0 (omega arith) in
    omega arith
versions_fall (x ∷ items) (suc i) zero d down le lt = absurd (omega arith)
versions_fall (x ∷ items) (suc i) (suc j) d down le lt =
    versions_fall items i j d (and_parts (list_all (λ later. ltb later.version x.version) items) (is_descending items) down).1 (omega arith) (omega arith)

pub above_parted : (items : List Item) (v : ℕ) → is_descending items ≡ true → IsPartitionedBy (λ (item : Item). ltb v item.version) items
above_parted items v down i j d le lt e =
    let above : v < (get_or items j d).version = ltb-true v (get_or items j d).version e in
    let fall : (get_or items j d).version ≤ (get_or items i d).version = versions_fall items i j d down le lt in
    lt-ltb v (get_or items i d).version (omega arith)

versions_drop : (items : List Item) (i j : ℕ) (d : Item) → is_descending items ≡ true → i < j → j < length items → (get_or items j d).version < (get_or items i d).version
versions_drop [] i j d down less lt = absurd (omega arith)
versions_drop (x ∷ items) zero zero d down less lt = absurd (omega arith)
versions_drop (x ∷ items) zero (suc j) d down less lt =
    version_under items x.version j d (and_parts (list_all (λ later. ltb later.version x.version) items) (is_descending items) down).0 (omega arith)
versions_drop (x ∷ items) (suc i) zero d down less lt = absurd (omega arith)
versions_drop (x ∷ items) (suc i) (suc j) d down less lt =
    versions_drop items i j d (and_parts (list_all (λ later. ltb later.version x.version) items) (is_descending items) down).1 (omega arith) (omega arith)

-- where those above v end
pub above_first : (items : List Item) (v at : ℕ) → at ≤ length items → IsPartitionPoint (λ (item : Item). ltb v item.version ≡ true) (λ (item : Item). ltb v item.version ≡ false) items at
    → (k : ℕ) (d : Item) → k < at → v < (get_or items k d).version
above_first items v at within point k d lt = ltb-true v (get_or items k d).version (point.0 k d (omega arith) lt)

pub behind_below : (items : List Item) (v at : ℕ) → is_descending items ≡ true → IsPartitionPoint (λ (item : Item). ltb v item.version ≡ true) (λ (item : Item). ltb v item.version ≡ false) items at
    → (k : ℕ) (d : Item) → at ≤ k → k < length items → (get_or items k d).version ≤ v
behind_below items v at down point k d le lt = ltb-false v (get_or items k d).version (point.1 k d le lt)

-- no item is of v, where the first that is not above it is none
pub none_equal : (items : List Item) (v at : ℕ) → is_descending items ≡ true → ((k : ℕ) (d : Item) → k < at → v < (get_or items k d).version)
    → ((k : ℕ) (d : Item) → at ≤ k → k < length items → (get_or items k d).version ≤ v) → ((d : Item) → at < length items → (get_or items at d).version ≡ v → ⊥)
    → (k : ℕ) (d : Item) → k < length items → (get_or items k d).version ≡ v → ⊥
none_equal items v at down above under none k d lt same =
    elim (cases_lt k at) [
      | inl before ↦ let high = above k d before in omega (arith, high, same)
      | inr past ↦
          elim (cases_eq at k) [
            | inl here ↦ none d (omega (arith, here, lt)) (ap (λ (n : ℕ). (get_or items n d).version) here ∙ same)
            | inr apart ↦
                let far : at < k = elim (cases_lt at k) [ inl less ↦ less | inr le ↦ absurd (apart (omega (arith, le, past))) ] in
                let low = under at d (omega arith) (omega (arith, far, lt)) in
                let drop = versions_drop items at k d down far lt in
                omega (arith, low, drop, same)
          ]
    ]

among_place : {X : Type 0} (xs : List X) (x d : X) → Among x xs → (k : ℕ) × (k < length xs) × (get_or xs k d ≡ x)
among_place [] x d among = absurd among
among_place (y ∷ xs) x d (inl here) = (0, omega arith, sym here)
among_place (y ∷ xs) x d (inr there) = let found = among_place xs x d there in let low = found.1 in (suc found.0, omega (arith, low), found.2)

pub place_among : {X : Type 0} (xs : List X) (k : ℕ) (d : X) → k < length xs → Among (get_or xs k d) xs
place_among [] k d low = absurd (omega arith)
place_among (y ∷ xs) zero d low = inl refl
place_among (y ∷ xs) (suc k) d low = inr (place_among xs k d (omega arith))

-- of items whose versions descend one has a version
pub same_item : (items : List Item) (a b : Item) → is_descending items ≡ true → Among a items → Among b items → a.version ≡ b.version → a ≡ b
same_item [] a b down one other same = absurd one
same_item (x ∷ items) a b down (inl one) (inl other) same = one ∙ sym other
same_item (x ∷ items) a b down (inl one) (inr other) same =
    let less = ltb-true b.version x.version (all_at (λ later. ltb later.version x.version) b items (and_parts (list_all (λ later. ltb later.version x.version) items) (is_descending items) down).0 other) in
    absurd (omega (arith, less, same, ap (λ (y : Item). y.version) one))
same_item (x ∷ items) a b down (inr one) (inl other) same =
    let less = ltb-true a.version x.version (all_at (λ later. ltb later.version x.version) a items (and_parts (list_all (λ later. ltb later.version x.version) items) (is_descending items) down).0 one) in
    absurd (omega (arith, less, same, ap (λ (y : Item). y.version) other))
same_item (x ∷ items) a b down (inr one) (inr other) same = same_item items a b (and_parts (list_all (λ later. ltb later.version x.version) items) (is_descending items) down).1 one other same

module _ (pairs : List KeyValue) (items : List Item) (owners : List ℕ) (e : Entry) where
  abbrev leads : List Entry
  leads = unmarked_where (is_owned owners) (entries_of pairs items)

  record IsLeadItem (y : Item) : Type 0 where
    inside : Among y items
    version : y.version / 16384 ≡ e.version
    place : get_or owners e.version 0 ≡ y.version % 16384
    is : e ≡ unmarked (entry_of_item pairs y)

  -- an entry that is a lead is that of an item
  lead_item : holds_entry (unmarked_where (is_owned owners) (entries_of pairs items)) e ≡ true → (y : Item) × IsLeadItem y
  lead_item held =
      let from = unmarked_among (is_owned owners) (entries_of pairs items) e (held_among leads e held) in
      let at = map_among (entry_of_item pairs) items from.0 from.1 in
      let version : at.0.version / 16384 ≡ e.version = sym (ap (λ (x : Entry). x.version) (from.3 ∙ ap unmarked at.2)) in
      let owned : eqb (get_or owners (at.0.version / 16384) 0) (at.0.version % 16384) ≡ true = sym (ap (is_owned owners) at.2) ∙ from.2 in (
        at.0,
        record {
          inside = at.1;
          version = version;
          place = ap (λ (n : ℕ). get_or owners n 0) (sym version) ∙ eqb-true (get_or owners (at.0.version / 16384) 0) (at.0.version % 16384) owned;
          is = from.3 ∙ ap unmarked at.2;
        },
      )

  not_held : (holds_entry (unmarked_where (is_owned owners) (entries_of pairs items)) e ≡ true → ⊥) → false ≡ holds_entry (unmarked_where (is_owned owners) (entries_of pairs items)) e
  not_held none = sym (false_from_ne_true (holds_entry leads e) none)

  -- none, where no place owns the version
  pub unowned : 16384 ≤ get_or owners e.version 0 → false ≡ holds_entry (unmarked_where (is_owned owners) (entries_of pairs items)) e
  unowned past = not_held (λ held. let lead = lead_item held in let place = lead.1.place in absurd (omega (arith, place, past)))

  -- none, where no item is of the version and its place
  pub unfound : (d : Item) → ((k : ℕ) (d : Item) → k < length items → (get_or items k d).version ≡ e.version * 16384 + get_or owners e.version 0 → ⊥)
      → false ≡ holds_entry (unmarked_where (is_owned owners) (entries_of pairs items)) e
  unfound d none = not_held (λ held.
      let lead = lead_item held in
      let at = among_place items lead.0 d lead.1.inside in
      let place = lead.1.place in
      let version = lead.1.version in
      let same : (get_or items at.0 d).version ≡ lead.0.version = ap (λ (y : Item). y.version) at.2 in
      none at.0 d at.1 (omega (arith, place, version, same)))

  module _ (key : List ℕ) (keyed : list_all (is_of key) (entries_of pairs items) ≡ true) (of_key : is_of key e ≡ true) where
    -- and where one is, they have to say the same
    pub found_lead : (y : Item) → is_descending items ≡ true → Among y items → get_or owners e.version 0 < 16384 → y.version ≡ e.version * 16384 + get_or owners e.version 0
        → is_same_value e.value (entry_of_item pairs y).value ≡ holds_entry (unmarked_where (is_owned owners) (entries_of pairs items)) e
    found_lead y down inside low at =
        let place : ℕ = get_or owners e.version 0 in
        let version : y.version / 16384 ≡ e.version = ap (λ (n : ℕ). n / 16384) at ∙ div-mul-add e.version 16384 (get_or owners e.version 0) low in
        let rest : y.version % 16384 ≡ get_or owners e.version 0 = ap (λ (n : ℕ). n % 16384) at ∙ mod-mul-add e.version 16384 (get_or owners e.version 0) low in
        let among : Among (entry_of_item pairs y) (entries_of pairs items) = among_map (entry_of_item pairs) items y inside in
        let its_key : (entry_of_item pairs y).key ≡ key = is_of_key key (entry_of_item pairs y) (all_at (is_of key) (entry_of_item pairs y) (entries_of pairs items) keyed among) in
        let my_key : e.key ≡ key = is_of_key key e of_key in
        bool_same (is_same_value e.value (entry_of_item pairs y).value) (holds_entry leads e)
        (λ same.
        let whole : is_same (unmarked (entry_of_item pairs y)) e ≡ true =
        and_from (is_at (entry_of_item pairs y).key (y.version / 16384) e) (is_same_value e.value (entry_of_item pairs y).value) (at_key_version (entry_of_item pairs y).key (y.version / 16384) e (my_key ∙ sym its_key) (sym version)) same in
        let owned : is_owned owners (entry_of_item pairs y) ≡ true = eq-eqb (get_or owners (y.version / 16384) 0) (y.version % 16384) (ap (λ (n : ℕ). get_or owners n 0) version ∙ sym rest) in
        among_held leads e (subst (λ (x : Entry). Among x leads) (sym (same_entry (unmarked (entry_of_item pairs y)) e whole)) (among_unmarked (is_owned owners) (entries_of pairs items) (entry_of_item pairs y) among owned)))
        (λ held.
        let lead = lead_item held in
        let its_place = lead.1.place in
        let its_version = lead.1.version in
        let one : lead.0 ≡ y = same_item items lead.0 y down lead.1.inside inside (omega (arith, its_place, its_version, at)) in
        let is : e ≡ unmarked (entry_of_item pairs y) = lead.1.is ∙ ap (λ (z : Item). unmarked (entry_of_item pairs z)) one in
        (and_parts (is_at (entry_of_item pairs y).key (y.version / 16384) e) (is_same_value e.value (entry_of_item pairs y).value) (entry_same (unmarked (entry_of_item pairs y)) e is)).1)

pub contained : {X : Type 0} (xs : List X) (x : X) → Contains xs x → Among x xs
contained xs x here = subst (λ y. Among y xs) here.2 (place_among xs here.0 x here.1)
