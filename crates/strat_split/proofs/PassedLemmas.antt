-- What parts of a split take, and what is passed on to those that hang below.
use Rattle.std.proofs.Common.{◌≡◌, ◌<◌, ◌≤◌, ℕ, Bool, true, false, eqb, ltb, ◌||◌, not, inl, inr, List, [], ◌∷◌, length, map, filter, get_or, Option, Some, None, refl, sym, ap, ◌∙◌, subst, arith, unwrap_or}
use Rattle.std.specs.List.{list_any, find}
use Rattle.std.proofs.lemmas.Bool.{and_parts, ltb-true, eqb-true, cases_eq, cases_lt}
use Rattle.std.proofs.lemmas.List.{get_or-map, length-map}
use Rattle.std.proofs.lemmas.Option.{slice_get-get_or}
use Rattle.strat_base.specs.Tree.{Parents, is_ancestor}
use Rattle.strat_base.proofs.ListFacts.{Among, any_from, all_at, among_filter, find_some}
use Rattle.strat_base.proofs.ResultFacts.{option_cases}
use Rattle.strat_base.proofs.TreeLemmas.{parent_older, along_path}
use Rattle.strat_arena.specs.declared.items.Item.{Item}
use Rattle.strat_live.specs.Counting.{SameParents, item_versions, are_below}
use Rattle.strat_live.specs.Group.{is_descending, is_nearer, is_live_item}
use Rattle.def_split.specs.Plan.{part_of, part_at, in_no_part}
use Rattle.strat_split.specs.Dealing.{above_of, items_taken, item_leads, taken_over, with_gift, IsSplitFor}
use Rattle.strat_split.specs.Hanging.{carrier_of, carriers_of}
use Rattle.strat_split.specs.PlanSeen.{part_seen, plan_seen}
use Rattle.strat_split.specs.Taken.{is_inherited_item, is_taken_item}
use Rattle.strat_split.specs.declared.parts.Part.{Part}
use Rattle.strat_split.specs.declared.parts.Plan.{Plan}
use Rattle.strat_split.proofs.CarrierLemmas.{live_in_carrier}
use Rattle.strat_split.proofs.GrownLemmas.{live_item_same}
use Rattle.strat_split.proofs.LeadLemmas.{filter_same, find_kept, find_same, leads_and_live}
use Rattle.strat_split.proofs.TakenLemmas.{live_taken}

or_false : (b : Bool) → (b || false) ≡ b
or_false true = refl
or_false false = refl

map_among : {X Y : Type 0} (f : X → Y) (xs : List X) (x : X) → Among x xs → Among (f x) (map f xs)
map_among f [] x among = absurd among
map_among f (y ∷ ys) x (inl here) = inl (ap f here)
map_among f (y ∷ ys) x (inr there) = inr (map_among f ys x there)

-- a search in a list finds nothing where all that passes is elsewhere
pub find_nothing : {X : Type 0} (p : X → Bool) (xs : List X) → ((x : X) → Among x xs → p x ≡ true → ⊥) → find p xs ≡ None
find_nothing p xs never = elim (option_cases (find p xs)) [
  | inl none ↦ none
  | inr some ↦ let found = find_some p xs some.0 some.1 in absurd (never some.0 found.0 found.1)
]

-- the part of the version that a part hangs below
pub carrier_at : (plan : Plan) (q : ℕ) → q < length plan.parts → get_or (carriers_of plan.part_of plan.parts) q 0 ≡ carrier_of plan.part_of (above_of plan q)
carrier_at plan q lt =
    let d : Part = record { above = None; leads = 0; entries = 0; least = 0 } in
    let seen : part_at (plan_seen plan) q ≡ part_seen (get_or plan.parts q d) = get_or-map part_seen plan.parts q d (record { above = None; leads = 0; entries = 0; least = 0 }) lt in
    get_or-map (λ (part : Part). carrier_of plan.part_of part.above) plan.parts q d 0 lt ∙ sym (ap (λ part. carrier_of plan.part_of part.above) seen)

pub carrier_some : (labels : List ℕ) (p : ℕ) → p < length labels → carrier_of labels (Some p) ≡ get_or labels p 0
carrier_some labels p lt = ap (λ (o : Option ℕ). unwrap_or o in_no_part) (slice_get-get_or labels p 0 lt)

module _ (tree parents : Parents) (plan : Plan) (items : List Item) (ready : IsSplitFor tree parents plan items) (down : is_descending items ≡ true) (low : are_below (length plan.part_of) items ≡ true) where
  seen : (q : ℕ) → q < length plan.parts → q < length (plan_seen plan).parts
  seen q lt = omega (arith, length-map plan.parts part_seen)

  told_in : (q : ℕ) → q < length (plan_seen plan).parts → q < length plan.parts
  told_in q lt = omega (arith, length-map plan.parts part_seen)

  -- a part hangs below its versions
  part_low : (v p : ℕ) → v < length plan.part_of → part_of (plan_seen plan) v < length plan.parts → above_of plan (part_of (plan_seen plan) v) ≡ Some p → v ≤ p → ⊥
  part_low v p known inside above le =
      along_path parents ready.rooted (λ v. v < length plan.part_of → part_of (plan_seen plan) v < length plan.parts → above_of plan (part_of (plan_seen plan) v) ≡ Some p → v ≤ p → ⊥)
      (λ v none known inside above le. let both : None ≡ Some p = sym (ready.split.root v known (seen (part_of (plan_seen plan) v) inside) none) ∙ above in absurd (cc))
      (λ v u some ih known inside above le.
      let older : u < v = parent_older parents ready.rooted v u some in
      elim (ready.split.hangs v u known (seen (part_of (plan_seen plan) v) inside) some) [
        | inl same ↦ ih (omega arith) (omega (arith, same)) (ap (above_of plan) same ∙ above) (omega arith)
        | inr hung ↦ let both : Some u ≡ Some p = sym hung ∙ above in let equal : u ≡ p = cc in absurd (omega arith)
      ]) v known inside above le

  -- a part takes its leads, and what is live where it hangs
  pub takes_share : (q : ℕ) → q < length plan.parts → items_taken parents plan items q ≡ with_gift (item_leads plan items q) (taken_over parents items (above_of plan q))
  takes_share q lt = go (above_of plan q) refl
    where
      go : (o : Option ℕ) → above_of plan q ≡ o → filter (λ item. eqb (get_or plan.part_of item.version 0) q || is_inherited_item parents items o item) items ≡ with_gift (item_leads plan items q) (taken_over parents items o)
      go None is = filter_same (λ item. eqb (get_or plan.part_of item.version 0) q || false) (λ item. eqb (get_or plan.part_of item.version 0) q) items (λ x among. or_false (eqb (get_or plan.part_of x.version 0) q))
      go (Some p) is =
          leads_and_live parents ready.rooted items p (λ item. eqb (get_or plan.part_of item.version 0) q) down (λ x among lead.
          let known : x.version < length plan.part_of = ltb-true x.version (length plan.part_of) (all_at (λ (item : Item). ltb item.version (length plan.part_of)) x items low among) in
          let mine : get_or plan.part_of x.version 0 ≡ q = eqb-true (get_or plan.part_of x.version 0) q lead in
          elim (cases_lt p x.version) [
            | inl newer ↦ newer
            | inr le ↦ absurd (part_low x.version p known (omega arith) (ap (above_of plan) mine ∙ is) le)
          ])

  -- the part that another hangs from has a lower number
  pub carrier_less : (q p : ℕ) → q < length plan.parts → above_of plan q ≡ Some p → part_of (plan_seen plan) p < length plan.parts → part_of (plan_seen plan) p < q
  carrier_less q p lt above inside =
      let known : p < length plan.part_of = ready.split.placed q p (seen q lt) above in
      elim (cases_lt (part_of (plan_seen plan) p) q) [
        | inl less ↦ less
        | inr le ↦ elim (cases_eq (part_of (plan_seen plan) p) q) [
          | inl same ↦ absurd (part_low p p known inside (ap (above_of plan) same ∙ above) (omega arith))
          | inr apart ↦
              let first = ready.split.numbered q (part_of (plan_seen plan) p) p (omega arith) (seen (part_of (plan_seen plan) p) inside) known refl in
              let older : first.0 < p = first.1 in
              absurd (part_low first.0 p (omega arith) (omega (arith, first.2)) (ap (above_of plan) first.2 ∙ above) (omega arith))
        ]
      ]

  -- nothing is live at a version in no part
  live_inside : (p : ℕ) (x : Item) → p < length plan.part_of → Among x items → is_live_item parents items p x ≡ true → part_of (plan_seen plan) p < length plan.parts
  live_inside p x known among lives =
      let on = (and_parts (is_ancestor parents x.version p) (not (list_any (is_nearer parents p x.version) items)) lives).0 in
      told_in (part_of (plan_seen plan) p) (ready.split.served p known (ready.seen p known (any_from (λ u. is_ancestor parents u p) x.version (item_versions items) (map_among (λ (item : Item). item.version) items x among) on)))

  -- a part takes nothing over from one that takes nothing
  pub over_none : (q : ℕ) → q < length plan.parts → ((p : ℕ) → above_of plan q ≡ Some p → part_of (plan_seen plan) p < length plan.parts → items_taken parents plan items (part_of (plan_seen plan) p) ≡ []) → taken_over parents items (above_of plan q) ≡ None
  over_none q lt empty = go (above_of plan q) refl
    where
      go : (o : Option ℕ) → above_of plan q ≡ o → taken_over parents items o ≡ None
      go None is = refl
      go (Some p) is = find_nothing (is_live_item parents items p) items (λ x among lives.
          let known : p < length plan.part_of = ready.split.placed q p (seen q lt) is in
          let inside : part_of (plan_seen plan) p < length plan.parts = live_inside p x known among lives in
          let taken = live_taken parents ready.rooted ready.own ready.live (plan_seen plan) ready.split items x p known (seen (part_of (plan_seen plan) p) inside) lives in
          let P : List Item → Type 0 = Among x in
          subst P (empty p is inside) (among_filter (is_taken_item parents (plan_seen plan) items (part_of (plan_seen plan) p)) items x among taken))

  -- what is live where a part hangs is found among what its carrier takes, also by the tree that grew
  pub over_carried : (q p : ℕ) → q < length plan.parts → above_of plan q ≡ Some p → part_of (plan_seen plan) p < length plan.parts → taken_over tree (items_taken parents plan items (part_of (plan_seen plan) p)) (above_of plan q) ≡ taken_over parents items (above_of plan q)
  over_carried q p lt above inside =
      let known : p < length plan.part_of = ready.split.placed q p (seen q lt) above in
      let keep : Item → Bool = is_taken_item parents (plan_seen plan) items (part_of (plan_seen plan) p) in
      let same : SameParents (length plan.part_of) tree parents = λ v less. sym (ready.same v less) in
      let found : find (is_live_item tree (filter keep items) p) (filter keep items) ≡ find (is_live_item parents items p) items =
      find_same (is_live_item tree (filter keep items) p) (is_live_item parents items p) (filter keep items) (λ x among.
      live_item_same parents ready.rooted (length plan.part_of) tree same (filter keep items) p x known
      ∙ live_in_carrier parents ready.rooted ready.own ready.live (plan_seen plan) ready.split items down p known (seen (part_of (plan_seen plan) p) inside) x)
      ∙ find_kept (is_live_item parents items p) keep items (λ x among lives. live_taken parents ready.rooted ready.own ready.live (plan_seen plan) ready.split items x p known (seen (part_of (plan_seen plan) p) inside) lives) in
      ap (taken_over tree (filter keep items)) above ∙ found ∙ sym (ap (taken_over parents items) above)
