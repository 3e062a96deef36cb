-- What is asked of a disk with one block of entries.
use Rattle.std.proofs.Common.{◌≡◌, ◌+◌, ℕ, zero, suc, Bool, true, false, cond, get_or, List, [], ◌∷◌, Option, Some, None, Contains, IsTrue, refl, sym, ap, ◌∙◌, subst, arith}
use Rattle.std.specs.Option.{option_and_then, option_or, unwrap_or}
use Rattle.std.specs.Str.{bytes_eq}
use Rattle.std.specs.List.Sorted.{IsStrictlySortedBy}
use Rattle.std.proofs.lemmas.Map.Text.{is_eq-slice_cmp}
use Rattle.strat_base.proofs.EntryLemmas.{bytes_same, same_bytes}
use Rattle.strat_base.specs.Entries.{Entry, is_ascending}
use Rattle.strat_base.specs.EntryBytes.{entry_in}
use Rattle.strat_base.specs.Numbers.{be, number}
use Rattle.strat_base.specs.Samples.{says}
use Rattle.strat_base.specs.Tree.{climb}
use Rattle.strat_base.specs.declared.descriptors.ArrayDesc.{ArrayDesc}
use Rattle.strat_base.specs.declared.descriptors.LevelDesc.{LevelDesc}
use Rattle.def_crash.specs.Faults.{ReadsAtMost}
use Rattle.def_crash.specs.Image.{over, window}
use Rattle.strat_cursor.proofs.PickLemmas.{level_next, only}
use Rattle.strat_cursor.specs.Looking.{ReadsArrays, arrays_asked, levels_there}
use Rattle.strat_filter.specs.Bits.{bits_after}
use Rattle.strat_level.specs.Levels.{level_numbered}
use Rattle.strat_memory.specs.Filters.{filter_at}
use Rattle.strat_model.specs.Answer.{Answer, as_told}
use Rattle.strat_model.specs.Request.{Get}
use Rattle.strat_model.specs.Step.{found}
use Rattle.strat_model.specs.declared.replies.Reply.TheVariants as reply
use Rattle.def_bytes.specs.Arrays.{block_on, blocks_of, entries_on}
use Rattle.def_bytes.specs.Block.{block_bytes, block_in, entries_in}
use Rattle.def_recovery.specs.Asked.{asked}
use Rattle.def_state.specs.LookUp.{first_live}
use Rattle.strat_store.specs.Filtering.{KeepsFilter, asked_filtered}
use Rattle.strat_store.specs.Ranging.{AreReadAs, IsMapAsked, ReadsForLook, TellsFrom, arrays_wanted}
use Rattle.strat_store_pins.specs.Examples.{array_in, children_apart, children_filtered, one_block, with_cached}

pub seven : entries_on one_block (7 ∷ []) ≡ Some (says 97 1 49 ∷ [])
unfolding number be window over entry_in entries_in block_bytes block_in entries_on
seven = refl

pub eight : entries_on one_block (8 ∷ []) ≡ None
unfolding number be window over entry_in entries_in block_bytes block_in entries_on
eight = refl

asked_one : arrays_asked children_apart.memory.parents children_apart.levels 1 ≡ array_in 5 1 7 ∷ []
unfolding climb
asked_one = refl

asked_two : arrays_asked children_apart.memory.parents children_apart.levels 2 ≡ array_in 6 2 8 ∷ []
unfolding climb
asked_two = refl

pub one_reads : AreReadAs one_block children_apart 1
one_reads = record {
  ordered = record { each = λ a at. subst (λ (x : ArrayDesc). (entries : List Entry) × (entries_on one_block (blocks_of x.extents) ≡ Some entries) × IsTrue (is_ascending entries)) (sym (here a at)) (says 97 1 49 ∷ [], seven, refl) };
  cached = λ a index block x at there. absurd (omega (arith, there.1));
}
  where
    here : (a : ArrayDesc) → Contains (arrays_asked children_apart.memory.parents children_apart.levels 1) a → a ≡ array_in 5 1 7
    here a at = only (array_in 5 1 7) a (subst (λ (xs : List ArrayDesc). Contains xs a) asked_one at)

pub two_reads_not : AreReadAs one_block children_apart 2 → ⊥
two_reads_not reads =
    let got = reads.ordered.each (array_in 6 2 8) (subst (λ (xs : List ArrayDesc). Contains xs (array_in 6 2 8)) (sym asked_two) (0, omega arith, refl)) in
    let none : None ≡ Some got.0 = sym eight ∙ got.1 in
    cc

-- what level 0 says nothing of is what the block says
pub asked_is : (key : List ℕ) → asked one_block children_apart.memory.parents ([] ∷ []) (levels_there children_apart.levels) 1 key ≡ option_and_then (λ e. e.value) (cond (bytes_eq (97 ∷ []) key) (Some (says 97 1 49)) None)
unfolding climb
asked_is key =
    ap (λ (o : Option (List Entry)). option_and_then (λ e. e.value) (first_live children_apart.memory.parents ([] ∷ unwrap_or o [] ∷ []) 1 key)) seven
    ∙ by (bytes_eq (97 ∷ []) key)
  where
    by : (b : Bool) → option_and_then (λ e. e.value) (option_or (cond b (Some (says 97 1 49)) None) None) ≡ option_and_then (λ (e : Entry). e.value) (cond b (Some (says 97 1 49)) None)
    by true = refl
    by false = refl

-- and for a get that has no filter to ask
pub filtered_is : (key : List ℕ) → asked_filtered one_block children_apart.filters children_apart.memory.parents ([] ∷ []) (levels_there children_apart.levels) 1 key ≡ option_and_then (λ e. e.value) (cond (bytes_eq (97 ∷ []) key) (Some (says 97 1 49)) None)
unfolding climb
filtered_is key = asked_is key

back : (x y : List ℕ) → bytes_eq x y ≡ bytes_eq y x
back x y = by (bytes_eq x y) (bytes_eq y x) refl refl
  where
    by : (a b : Bool) → bytes_eq x y ≡ a → bytes_eq y x ≡ b → a ≡ b
    by true true one other = refl
    by false false one other = refl
    by true false one other = sym (same_bytes y x (sym (bytes_same x y one))) ∙ other
    by false true one other = sym one ∙ same_bytes x y (sym (bytes_same y x other))

pub map_is : IsMapAsked one_block children_apart.memory.parents ([] ∷ []) children_apart.levels 1 ((97 ∷ [], 49 ∷ []) ∷ [])
unfolding IsStrictlySortedBy
map_is = record {
  ordered = (tt, tt);
  each = λ key. ap (λ (b : Bool). cond b (Some (49 ∷ [])) None) (is_eq-slice_cmp key (97 ∷ []) ∙ back key (97 ∷ [])) ∙ by (bytes_eq (97 ∷ []) key) ∙ sym (asked_is key);
}
  where
    by : (b : Bool) → cond b (Some (49 ∷ [])) None ≡ option_and_then (λ (e : Entry). e.value) (cond b (Some (says 97 1 49)) None)
    by true = refl
    by false = refl

pub no_map : IsMapAsked one_block children_apart.memory.parents ([] ∷ []) children_apart.levels 1 [] → ⊥
no_map is =
    let none : ◌≡◌ {A = Option (List ℕ)} None (Some (49 ∷ [])) = is.each (97 ∷ []) ∙ asked_is (97 ∷ []) in
    cc

block_seven : block_on one_block 7 ≡ Some (says 97 1 49 ∷ [])
unfolding number be window over entry_in entries_in block_bytes block_in
block_seven = refl

-- a cached block of array 6 stands in the way of no array that is asked at version 1
pub wrong_reads : AreReadAs one_block (with_cached 6 children_apart) 1
wrong_reads = record {
  ordered = one_reads.ordered;
  cached = λ a index block x at there stands.
      let other : a ≡ array_in 5 1 7 = only (array_in 5 1 7) a (subst (λ (xs : List ArrayDesc). Contains xs a) asked_one at) in
      let same : ((a.id, index), x) ≡ ((6, 0), []) = only ((6, 0), []) ((a.id, index), x) there in
      let five : a.id ≡ 5 = ap (λ (b : ArrayDesc). b.id) other in
      let six : a.id ≡ 6 = ap (λ (k : (ℕ × ℕ) × List Entry). k.0.0) same in
      absurd (omega (arith, five, six));
}

pub wrong_reads_not : AreReadAs one_block (with_cached 5 children_apart) 1 → ⊥
wrong_reads_not reads =
    let is : block_on one_block 7 ≡ Some [] = reads.cached (array_in 5 1 7) 0 7 [] (subst (λ (xs : List ArrayDesc). Contains xs (array_in 5 1 7)) (sym asked_one) (0, omega arith, refl)) (0, omega arith, refl) refl in
    let full : Some [] ≡ Some (says 97 1 49 ∷ []) = sym is ∙ block_seven in
    cc

-- with a filter of its first array, whose only key is `a`
filtered_reads : AreReadAs one_block children_filtered 1
filtered_reads = record { ordered = one_reads.ordered; cached = one_reads.cached }

filtered_found : asked_filtered one_block children_filtered.filters children_apart.memory.parents ([] ∷ []) (levels_there children_apart.levels) 1 (97 ∷ []) ≡ Some (49 ∷ [])
unfolding climb
filtered_found = ap (λ (o : Option (List Entry)). option_and_then (λ e. e.value) (first_live children_apart.memory.parents ([] ∷ unwrap_or o [] ∷ []) 1 (97 ∷ []))) seven

pub filtered_tells : (answer : Answer) → TellsFrom one_block children_filtered (Get 1 (97 ∷ [])) answer → answer ≡ as_told reply.Found ((97 ∷ [], 49 ∷ []) ∷ [])
filtered_tells answer tells = (tells.1 refl).1 filtered_reads ∙ ap (found (97 ∷ [])) filtered_found

-- its one level is the first
level_at : (number : ℕ) (level : LevelDesc) → level_numbered children_apart.levels number ≡ Some level → number ≡ 1
level_at zero level is = absurd (cc)
level_at (suc i) level is =
    let next : i + 1 ≡ suc i = omega arith in
    by i (sym (level_next children_apart.levels i) ∙ ap (λ (n : ℕ). level_numbered children_apart.levels n) next ∙ is)
  where
    by : (j : ℕ) → get_or children_apart.levels j None ≡ Some level → suc j ≡ 1
    by zero here = refl
    by (suc j) here = absurd (cc)

b_unread : arrays_wanted children_filtered (Get 1 (98 ∷ [])) ≡ []
unfolding climb
b_unread = refl

pub b_reads_none : (before now : ℕ) → ReadsForLook children_filtered (Get 1 (98 ∷ [])) before now → now ≡ before
b_reads_none before now reads =
    let most : ReadsAtMost 0 before now = subst (λ (arrays : List ArrayDesc). ReadsArrays arrays before now) b_unread (reads refl) 0 (λ a among. absurd (omega (arith, among.1))) in
    omega (arith, most.later, most.bound)

pub a_read : arrays_wanted children_filtered (Get 1 (97 ∷ [])) ≡ array_in 5 1 7 ∷ []
unfolding climb
a_read = refl

pub keeps_five : KeepsFilter children_filtered.filters children_filtered.levels 5
keeps_five = (
  1,
  record {
    level = record { number = 1; horizon = 3; arrays = array_in 5 1 7 ∷ array_in 6 2 8 ∷ [] };
    array = array_in 5 1 7;
    bits = bits_after 64 ((97 ∷ []) ∷ []);
    placed = refl;
    listed = (0, omega arith, refl);
    named = refl;
    kept = refl;
  },
)

pub keeps_not_six : KeepsFilter children_filtered.filters children_filtered.levels 6 → ⊥
keeps_not_six keeps =
    let one = level_at keeps.0 keeps.1.level keeps.1.placed in
    let none : None ≡ Some keeps.1.bits = ap (λ (n : ℕ). filter_at children_filtered.filters n 6) (sym one) ∙ keeps.1.kept in
    absurd (cc)
