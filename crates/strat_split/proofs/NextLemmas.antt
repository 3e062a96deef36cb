-- What is known of the parts that are to come, at the start and after each part.
use Rattle.std.proofs.Common.{◌≡◌, ◌<◌, ◌≤◌, ◌+◌, ℕ, Bool, true, false, cond, eqb, ltb, ◌||◌, inl, inr, List, length, get_or, set, Option, Some, None, refl, sym, ap, ◌∙◌, subst, arith, true≢false}
use Rattle.std.specs.List.{list_all, find}
use Rattle.std.specs.Option.{option_map_or, option_or, is_some}
use Rattle.std.proofs.lemmas.Bool.{le-ltb, cases_eq, cases_lt}
use Rattle.std.proofs.lemmas.List.{get_or-set_same, get_or-set_other, length-set, length-map}
use Rattle.strat_base.specs.Tree.{Parents}
use Rattle.strat_base.proofs.ListFacts.{all_at, find_some}
use Rattle.strat_arena.specs.declared.items.Item.{Item}
use Rattle.strat_live.specs.Group.{is_descending, is_live_item}
use Rattle.strat_split.specs.Chains.{first_labelled}
use Rattle.strat_split.specs.Dealing.{Deal, labels_of, above_of, item_leads, taken_over, with_gift, passed_on, IsDealing}
use Rattle.strat_split.specs.Hanging.{carriers_of}
use Rattle.strat_split.specs.Shares.{IsLeadChain}
use Rattle.strat_split.specs.Waiting.{has_work}
use Rattle.strat_split.specs.declared.parts.Plan.{Plan}
use Rattle.strat_split.proofs.DealtLemmas.{work_none, given_next}
use Rattle.strat_split.proofs.ShareLemmas.{share_all, share_descending, share_some, kept_descending}

-- a part waits for the items that are dealt: it is not dealt yet
pub still_due : (tree : Parents) (plan : Plan) (items : List Item) (deal : Deal) → IsDealing tree plan items deal → (q : ℕ) → has_work deal.heads deal.gifts q ≡ true → deal.from ≤ q
still_due tree plan items deal dealing q work = elim (cases_lt q deal.from) [
  | inl past ↦ absurd (true≢false (sym work ∙ dealing.past q past))
  | inr due ↦ due
]

-- what is live among items passes what they all pass
over_all : (tree : Parents) (items : List Item) (above : Option ℕ) (test : Item → Bool) → list_all test items ≡ true → option_map_or test (taken_over tree items above) true ≡ true
over_all tree items None test all = refl
over_all tree items (Some p) test all = go (find (is_live_item tree items p) items) refl
  where
    go : (o : Option Item) → find (is_live_item tree items p) items ≡ o → option_map_or test o true ≡ true
    go None is = refl
    go (Some x) is = all_at test x items all (find_some (is_live_item tree items p) items x is).0

or_all : (a b : Option Item) (test : Item → Bool) → option_map_or test a true ≡ true → option_map_or test b true ≡ true → option_map_or test (option_or a b) true ≡ true
or_all None b test first second = second
or_all (Some x) b test first second = first

cond_all : (c : Bool) (a b : Option Item) (test : Item → Bool) → option_map_or test a true ≡ true → option_map_or test b true ≡ true → option_map_or test (cond c a b) true ≡ true
cond_all true a b test first second = first
cond_all false a b test first second = second

same_choice : (c : Bool) (a b : Option Item) → a ≡ b → cond c a b ≡ b
same_choice true a b e = e
same_choice false a b e = refl

no_work : (heads : List (Option ℕ)) (gifts : List (Option Item)) (q : ℕ) → get_or heads q None ≡ None → get_or gifts q None ≡ None → has_work heads gifts q ≡ false
no_work heads gifts q first second = λ i. is_some (first i) || is_some (second i)

module _ (tree : Parents) (plan : Plan) (items : List Item) (deal : Deal) (dealing : IsDealing tree plan items deal) (q : ℕ) (lt : q < length plan.parts) (taken : List Item) (taken_is : taken ≡ with_gift (item_leads plan items q) (get_or deal.gifts q None)) where
  -- what holds of all items holds of those that the part took
  pub taken_all : (test : Item → Bool) → list_all test items ≡ true → list_all test taken ≡ true
  taken_all test all = ap (list_all test) taken_is ∙ share_all plan items q (get_or deal.gifts q None) test all (dealing.gifts q test lt all)

  pub taken_descending : is_descending taken ≡ true
  taken_descending = ap is_descending taken_is ∙ share_descending (item_leads plan items q) (get_or deal.gifts q None) (kept_descending (λ item. eqb (get_or plan.part_of item.version 0) q) items dealing.descending)

  pub taken_some : deal.from ≤ q → has_work deal.heads deal.gifts q ≡ true → 0 < length taken
  taken_some late work = subst (λ (ys : List Item). 0 < length ys) (sym taken_is) (share_some plan items q (get_or deal.heads q None) (get_or deal.gifts q None) (dealing.due q late lt) work)

-- the least part with work has taken its share
pub record IsStep (tree : Parents) (plan : Plan) (items : List Item) (deal : Deal) (q : ℕ) (taken : List Item) : Type 0 where
  pub dealing : IsDealing tree plan items deal
  pub lt : q < length plan.parts
  pub late : deal.from ≤ q
  pub work : has_work deal.heads deal.gifts q ≡ true
  pub least : (r : ℕ) → r < q → has_work deal.heads deal.gifts r ≡ false
  pub taken_is : taken ≡ with_gift (item_leads plan items q) (get_or deal.gifts q None)

pub step_of : (tree : Parents) (plan : Plan) (items : List Item) (deal now : Deal) (q : ℕ) (gift : Option Item) (taken : List Item) → deal ≡ now → IsDealing tree plan items now → q < length deal.heads → has_work deal.heads deal.gifts q ≡ true → ((r : ℕ) → r < q → has_work deal.heads deal.gifts r ≡ false) → gift ≡ get_or deal.gifts q None → taken ≡ with_gift (item_leads plan items q) gift → IsStep tree plan items deal q taken
step_of tree plan items deal now q gift taken same dealing within work least gift_is taken_is =
    let here : IsDealing tree plan items deal = subst (IsDealing tree plan items) (sym same) dealing in
    record {
      dealing = here;
      lt = omega (arith, here.heads_len);
      late = still_due tree plan items deal here q work;
      work = work;
      least = least;
      taken_is = taken_is ∙ ap (with_gift (item_leads plan items q)) gift_is;
    }

-- the leads of a part are chained from the first on
pub lead_chain : (tree : Parents) (plan : Plan) (items : List Item) (deal : Deal) → IsDealing tree plan items deal → (q : ℕ) → q < length plan.parts → deal.from ≤ q → (head : Option ℕ) (nexts : List (Option ℕ)) → head ≡ get_or deal.heads q None → nexts ≡ deal.nexts → IsLeadChain (labels_of plan items) nexts q head
lead_chain tree plan items deal dealing q lt late head nexts head_is nexts_are =
    let many : length (labels_of plan items) ≡ length items = length-map items (λ (item : Item). get_or plan.part_of item.version 0) in
    let as_many : length nexts ≡ length deal.nexts = ap (λ (ns : List (Option ℕ)). length ns) nexts_are in
    record {
      first = head_is ∙ dealing.due q late lt;
      nexts_len = omega (arith, dealing.nexts_len);
      next = λ i lt_i mine. ap (λ (ns : List (Option ℕ)). get_or ns i None) nexts_are ∙ dealing.next i (omega arith) (omega (arith, mine)) ∙ ap (λ (l : ℕ). first_labelled (labels_of plan items) l (i + 1)) mine;
    }

module _ (tree : Parents) (plan : Plan) (items : List Item) (deal after : Deal) (dealing : IsDealing tree plan items deal) (q : ℕ) (lt : q < length plan.parts) (late : deal.from ≤ q) (least : (r : ℕ) → r < q → has_work deal.heads deal.gifts r ≡ false)
    (taken : List Item) (taken_is : taken ≡ with_gift (item_leads plan items q) (get_or deal.gifts q None)) (gifts_len : length deal.gifts ≡ length deal.heads)
    (heads_are : after.heads ≡ set deal.heads q None) (nexts_are : after.nexts ≡ deal.nexts) (from_is : after.from ≡ q + 1)
    (passed : (r : ℕ) → r < length plan.parts → get_or after.gifts r None ≡ cond (eqb (get_or (carriers_of plan.part_of plan.parts) r 0) q) (passed_on tree plan taken q (set deal.gifts q None) r) (get_or (set deal.gifts q None) r None)) where
  head_at : (r : ℕ) → get_or after.heads r None ≡ get_or (set deal.heads q None) r None
  head_at r = ap (λ (hs : List (Option ℕ)). get_or hs r None) heads_are

  past_next : (r : ℕ) → r < q + 1 → has_work after.heads after.gifts r ≡ false
  past_next r less =
      let kept : get_or (set deal.gifts q None) r None ≡ None = elim (cases_eq r q) [
        | inl here ↦ ap (λ (s : ℕ). get_or (set deal.gifts q None) s None) here ∙ get_or-set_same deal.gifts q None None (omega (arith, dealing.heads_len))
        | inr apart ↦ get_or-set_other deal.gifts q r None None apart ∙ (work_none (get_or deal.heads r None) (get_or deal.gifts r None) (least r (omega (arith, apart)))).1
      ] in
      let head : get_or (set deal.heads q None) r None ≡ None = elim (cases_eq r q) [
        | inl here ↦ ap (λ (s : ℕ). get_or (set deal.heads q None) s None) here ∙ get_or-set_same deal.heads q None None (omega (arith, dealing.heads_len))
        | inr apart ↦ get_or-set_other deal.heads q r None None apart ∙ (work_none (get_or deal.heads r None) (get_or deal.gifts r None) (least r (omega (arith, apart)))).0
      ] in
      let none : passed_on tree plan taken q (set deal.gifts q None) r ≡ get_or (set deal.gifts q None) r None = ap (λ (b : Bool). cond b (option_or (taken_over tree taken (above_of plan r)) (get_or (set deal.gifts q None) r None)) (get_or (set deal.gifts q None) r None)) (le-ltb q r (omega arith)) in
      no_work after.heads after.gifts r (head_at r ∙ head)
      (passed r (omega arith) ∙ same_choice (eqb (get_or (carriers_of plan.part_of plan.parts) r 0) q) (passed_on tree plan taken q (set deal.gifts q None) r) (get_or (set deal.gifts q None) r None) none ∙ kept)

  gifts_next : (r : ℕ) (test : Item → Bool) → r < length plan.parts → list_all test items ≡ true → option_map_or test (get_or after.gifts r None) true ≡ true
  gifts_next r test lt_r all =
      let kept : option_map_or test (get_or (set deal.gifts q None) r None) true ≡ true = elim (cases_eq r q) [
        | inl here ↦ ap (λ (s : ℕ). option_map_or test (get_or (set deal.gifts q None) s None) true) here ∙ ap (λ (o : Option Item). option_map_or test o true) (get_or-set_same deal.gifts q None None (omega (arith, dealing.heads_len)))
        | inr apart ↦ ap (λ (o : Option Item). option_map_or test o true) (get_or-set_other deal.gifts q r None None apart) ∙ dealing.gifts r test lt_r all
      ] in
      let given : option_map_or test (passed_on tree plan taken q (set deal.gifts q None) r) true ≡ true =
      cond_all (ltb q r) (option_or (taken_over tree taken (above_of plan r)) (get_or (set deal.gifts q None) r None)) (get_or (set deal.gifts q None) r None) test
      (or_all (taken_over tree taken (above_of plan r)) (get_or (set deal.gifts q None) r None) test (over_all tree taken (above_of plan r) test (taken_all tree plan items deal dealing q lt taken taken_is test all)) kept) kept in
      ap (λ (o : Option Item). option_map_or test o true) (passed r lt_r)
      ∙ cond_all (eqb (get_or (carriers_of plan.part_of plan.parts) r 0) q) (passed_on tree plan taken q (set deal.gifts q None) r) (get_or (set deal.gifts q None) r None) test given kept

  -- the parts behind are still to come
  pub dealing_next : IsDealing tree plan items after
  dealing_next = record {
    descending = dealing.descending;
    low = dealing.low;
    known = dealing.known;
    heads_len = ap (λ (hs : List (Option ℕ)). length hs) heads_are ∙ length-set deal.heads q None ∙ dealing.heads_len;
    nexts_len = subst (λ (ns : List (Option ℕ)). length items ≤ length ns) (sym nexts_are) dealing.nexts_len;
    due = λ r late_r lt_r. head_at r ∙ get_or-set_other deal.heads q r None None (λ e. omega (arith, from_is)) ∙ dealing.due r (omega (arith, from_is)) lt_r;
    past = λ r less. past_next r (omega (arith, from_is));
    next = λ i lt_i inside. ap (λ (ns : List (Option ℕ)). get_or ns i None) nexts_are ∙ dealing.next i lt_i inside;
    gifts = gifts_next;
    given = λ parents ready r late_r lt_r.
        given_next tree parents plan items deal dealing ready q late lt least taken taken_is after.gifts passed r (omega (arith, from_is)) lt_r
        ∙ ap (λ (n : ℕ). cond (ltb (get_or (carriers_of plan.part_of plan.parts) r 0) n) (taken_over parents items (above_of plan r)) None) (sym from_is);
  }
