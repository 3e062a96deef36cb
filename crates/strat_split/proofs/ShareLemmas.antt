-- What one part takes: some of the items, in their order.
use Rattle.std.proofs.Common.{◌≡◌, ◌<◌, ◌-◌, ℕ, suc, Bool, true, false, cond, eqb, ltb, ◌||◌, inl, inr, List, [], ◌∷◌, ◌++◌, length, filter, get_or, Option, Some, None, refl, sym, ap, ◌∙◌, subst, arith, true≢false}
use Rattle.std.specs.List.{list_all, slice_get}
use Rattle.std.specs.Option.{option_map_or, is_some}
use Rattle.std.proofs.lemmas.Bool.{and_parts, and_from, ltb-true, lt-ltb, eq-eqb, cases_eq}
use Rattle.std.proofs.lemmas.List.{get_or-map, length-map}
use Rattle.std.proofs.lemmas.Option.{slice_get-get_or}
use Rattle.strat_base.proofs.ListFacts.{Among, all_at, all_from, among_filter, filter_among, among_split}
use Rattle.strat_arena.specs.declared.items.Item.{Item}
use Rattle.strat_live.specs.Group.{is_descending}
use Rattle.strat_split.specs.Chains.{first_labelled}
use Rattle.strat_split.specs.Dealing.{labels_of, item_leads, is_below_last, with_gift}
use Rattle.strat_split.specs.declared.parts.Plan.{Plan}
use Rattle.strat_split.proofs.ChainLemmas.{labelled_found}
use Rattle.strat_split.proofs.TakenLemmas.{item_among, version_less}

pub no_item : Item
no_item = record { slot = record { 0 = 0 }; version = 0; gone = false }

pub among_at : (xs : List Item) (x d : Item) → Among x xs → (i : ℕ) × (i < length xs) × (get_or xs i d ≡ x)
among_at [] x d among = absurd among
among_at (y ∷ ys) x d (inl here) = (0, omega arith, sym here)
among_at (y ∷ ys) x d (inr there) = let found = among_at ys x d there in (suc found.0, omega (arith, found.1), found.2)

some_among : {X : Type 0} (xs : List X) (x : X) → Among x xs → 0 < length xs
some_among [] x among = absurd among
some_among (y ∷ ys) x among = omega arith

pub kept_descending : (keep : Item → Bool) (items : List Item) → is_descending items ≡ true → is_descending (filter keep items) ≡ true
kept_descending keep [] down = refl
kept_descending keep (x ∷ rest) down =
    let parts = and_parts (list_all (λ later. ltb later.version x.version) rest) (is_descending rest) down in
    let more : is_descending (filter keep rest) ≡ true = kept_descending keep rest parts.1 in
    elim (keep x) as (λ b. is_descending (cond b (x ∷ filter keep rest) (filter keep rest)) ≡ true) [
      | true ↦ and_from (list_all (λ later. ltb later.version x.version) (filter keep rest)) (is_descending (filter keep rest)) (all_from (λ (later : Item). ltb later.version x.version) (filter keep rest) (λ y among. all_at (λ (later : Item). ltb later.version x.version) y rest parts.0 (filter_among keep rest y among).0)) more
      | false ↦ more
    ]

added_descending : (items : List Item) (z : Item) → is_descending items ≡ true → ((x : Item) → Among x items → z.version < x.version) → is_descending (items ++ z ∷ []) ≡ true
added_descending [] z down below = refl
added_descending (x ∷ rest) z down below =
    let parts = and_parts (list_all (λ later. ltb later.version x.version) rest) (is_descending rest) down in
    and_from (list_all (λ later. ltb later.version x.version) (rest ++ z ∷ [])) (is_descending (rest ++ z ∷ []))
    (all_from (λ (later : Item). ltb later.version x.version) (rest ++ z ∷ []) (λ y among. elim (among_split rest (z ∷ []) y among) [
      | inl there ↦ all_at (λ (later : Item). ltb later.version x.version) y rest parts.0 there
      | inr (inl here) ↦ ap (λ (later : Item). ltb later.version x.version) here ∙ lt-ltb z.version x.version (below x (inl refl))
      | inr (inr nowhere) ↦ absurd nowhere
    ]))
    (added_descending rest z parts.1 (λ y among. below y (inr among)))

-- what is older than the last of descending items is older than each
below_each : (items : List Item) (z : Item) → is_descending items ≡ true → is_below_last items z ≡ true → (x : Item) → Among x items → z.version < x.version
below_each items z down below x among =
    let at = among_at items x no_item among in
    let here : slice_get items (length items - 1) ≡ Some (get_or items (length items - 1) no_item) = slice_get-get_or items (length items - 1) no_item (omega (arith, at.1)) in
    let last : z.version < (get_or items (length items - 1) no_item).version = ltb-true z.version (get_or items (length items - 1) no_item).version (sym (ap (λ (o : Option Item). option_map_or (λ last. ltb z.version last.version) o true) here) ∙ below) in
    elim (cases_eq at.0 (length items - 1)) [
      | inl same ↦ subst (λ (y : Item). z.version < y.version) (ap (λ (i : ℕ). get_or items i no_item) (sym same) ∙ at.2) last
      | inr apart ↦
          let less : (get_or items (length items - 1) no_item).version < (get_or items at.0 no_item).version = version_less items down at.0 (length items - 1) no_item (omega (arith, at.1, apart)) (omega (arith, at.1)) in
          subst (λ (y : Item). z.version < y.version) at.2 (omega (arith, last, less))
    ]

pub share_descending : (leads : List Item) (gift : Option Item) → is_descending leads ≡ true → is_descending (with_gift leads gift) ≡ true
share_descending leads None down = down
share_descending leads (Some z) down =
    elim (is_below_last leads z) as (λ b. is_below_last leads z ≡ b → is_descending (cond b (leads ++ z ∷ []) leads) ≡ true) [
      | true ↦ λ is. added_descending leads z down (below_each leads z down is)
      | false ↦ λ is. down
    ] refl

all_added : (test : Item → Bool) (leads : List Item) (z : Item) → list_all test leads ≡ true → test z ≡ true → list_all test (leads ++ z ∷ []) ≡ true
all_added test [] z all also = and_from (test z) true also refl
all_added test (x ∷ rest) z all also = let parts = and_parts (test x) (list_all test rest) all in and_from (test x) (list_all test (rest ++ z ∷ [])) parts.0 (all_added test rest z parts.1 also)

all_share : (test : Item → Bool) (leads : List Item) (gift : Option Item) → list_all test leads ≡ true → option_map_or test gift true ≡ true → list_all test (with_gift leads gift) ≡ true
all_share test leads None all also = all
all_share test leads (Some z) all also =
    elim (is_below_last leads z) as (λ b. list_all test (cond b (leads ++ z ∷ []) leads) ≡ true) [ true ↦ all_added test leads z all also | false ↦ all ]

-- what holds of all items holds of those that a part takes
pub share_all : (plan : Plan) (items : List Item) (q : ℕ) (gift : Option Item) (test : Item → Bool) → list_all test items ≡ true → option_map_or test gift true ≡ true → list_all test (with_gift (item_leads plan items q) gift) ≡ true
share_all plan items q gift test all also =
    all_share test (item_leads plan items q) gift (all_from test (item_leads plan items q) (λ x among. all_at test x items all (filter_among (λ item. eqb (get_or plan.part_of item.version 0) q) items x among).0)) also

some_gift : (leads : List Item) (z : Item) → 0 < length (with_gift leads (Some z))
some_gift [] z = omega arith
some_gift (x ∷ leads) z =
    elim (is_below_last (x ∷ leads) z) as (λ b. 0 < length (cond b ((x ∷ leads) ++ z ∷ []) (x ∷ leads))) [ true ↦ omega arith | false ↦ omega arith ]

more_gift : (leads : List Item) (gift : Option Item) → 0 < length leads → 0 < length (with_gift leads gift)
more_gift leads None some = some
more_gift leads (Some z) some = some_gift leads z

-- a part with work takes something
pub share_some : (plan : Plan) (items : List Item) (q : ℕ) (head : Option ℕ) (gift : Option Item) → head ≡ first_labelled (labels_of plan items) q 0 → (is_some head || is_some gift) ≡ true → 0 < length (with_gift (item_leads plan items q) gift)
share_some plan items q None None is work = absurd (true≢false (sym work))
share_some plan items q None (Some z) is work = some_gift (item_leads plan items q) z
share_some plan items q (Some i) gift is work =
    let found = labelled_found (labels_of plan items) q 0 i (sym is) in
    let many : length (labels_of plan items) ≡ length items = length-map items (λ (item : Item). get_or plan.part_of item.version 0) in
    let lt : i < length items = omega (arith, found.1) in
    let at : get_or (labels_of plan items) i 0 ≡ get_or plan.part_of (get_or items i no_item).version 0 = get_or-map (λ (item : Item). get_or plan.part_of item.version 0) items i no_item 0 lt in
    more_gift (item_leads plan items q) gift (some_among (item_leads plan items q) (get_or items i no_item) (among_filter (λ item. eqb (get_or plan.part_of item.version 0) q) items (get_or items i no_item) (item_among items i no_item lt) (eq-eqb (get_or plan.part_of (get_or items i no_item).version 0) q (sym at ∙ found.2))))
