-- One part after another has pushed what it takes.
use Rattle.std.proofs.Common.{◌≡◌, ◌≢◌, ◌<◌, ◌≤◌, ◌+◌, ℕ, zero, suc, ltb, Bool, true, inl, inr, List, [], ◌∷◌, ◌++◌, length, set, Some, Ok, Result, refl, sym, ap, ◌∙◌, subst, arith, true≢false}
use Rattle.std.specs.Cmp.{nat_cmp_is}
use Rattle.std.specs.List.{list_all, slice_get}
use Rattle.std.specs.Ordering.{is_lt, nat_cmp, ordering_then}
use Rattle.std.specs.declared.cmp.Ordering.{Ordering}
use Rattle.std.specs.declared.cmp.Ordering.TheVariants.{Less, Equal, Greater}
use Rattle.std.proofs.lemmas.Bool.{and_parts, and_from, cases_eq, cases_lt, ltb-true, lt-ltb}
use Rattle.std.proofs.lemmas.Cmp.{nat_list_cmp_total, tied_itself}
use Rattle.std.proofs.lemmas.List.{append-nil, length-set}
use Rattle.std.proofs.lemmas.List.Folds.{list_all-append}
use Rattle.strat_arena.specs.ArenaView.{KeyValue}
use Rattle.strat_arena.specs.Items.{entry_of_item, entries_of}
use Rattle.strat_arena.specs.declared.items.Item.{Item}
use Rattle.strat_base.specs.Entries.{Entry, is_of, is_ascending}
use Rattle.strat_base.specs.Order.{key_cmp, entry_cmp}
use Rattle.strat_base.specs.Tree.{Parents}
use Rattle.strat_base.proofs.EntryLemmas.{is_of_key}
use Rattle.strat_base.proofs.ListFacts.{all_at, all_from}
use Rattle.def_crash.specs.Blocks.{TearsBlocks}
use Rattle.def_crash.specs.Image.{Image}
use Rattle.def_crash.specs.Moments.{DiskView, Exposes}
use Rattle.def_crash.proofs.BlockLemmas.{blocks_refl}
use Rattle.strat_extent.specs.Blocks.{SpaceView, is_free}
use Rattle.strat_array.specs.Progress.{ArrayProgress}
use Rattle.strat_array.specs.Pushed.{IsEndOf, IsPushed}
use Rattle.strat_live.specs.Counting.{are_below}
use Rattle.strat_live.specs.Group.{is_descending}
use Rattle.strat_merge.proofs.PassLemmas.{get_set_same, get_set_other}
use Rattle.strat_split.specs.Dealing.{items_taken, IsSplitFor, IsNextPart, TakeNothing}
use Rattle.strat_split.specs.declared.parts.Plan.{Plan}
use Rattle.strat_promote.specs.Closing.{all_extents, AreAllUsed}
use Rattle.strat_promote.specs.Filled.{AreReadyFor, DealsOut}
use Rattle.strat_promote.specs.Spaces.{TakesMore, PushesPart}
use Rattle.strat_promote.proofs.SpacesLemmas.{takes_refl, takes_trans, torn_on, takes_all, used_all, set_or_before, others_stay}
use Rattle.strat_promote.proofs.PushingLemmas.{still_told}
use Rattle.strat_promote.proofs.TakenLemmas.{items_pass}

-- Entries of one key behind lesser keys ascend.

less_is : (o : Ordering) → is_lt o ≡ true → o ≡ Less
less_is Less h = refl
less_is Equal h = absurd (true≢false (sym h))
less_is Greater h = absurd (true≢false (sym h))

key_before : (a b c : List ℕ) → is_lt (key_cmp a b) ≡ true → is_lt (key_cmp b c) ≡ true → is_lt (key_cmp a c) ≡ true
key_before a b c one two = ap is_lt (nat_list_cmp_total.trans a b c (less_is (key_cmp a b) one) (less_is (key_cmp b c) two))

lesser_first : (e d : Entry) → is_lt (key_cmp e.key d.key) ≡ true → is_lt (entry_cmp e.key e.version d.key d.version) ≡ true
lesser_first e d lt = ap (λ (o : Ordering). is_lt (ordering_then o (nat_cmp d.version e.version))) (less_is (key_cmp e.key d.key) lt)

newer_first : (e d : Entry) → e.key ≡ d.key → d.version < e.version → is_lt (entry_cmp e.key e.version d.key d.version) ≡ true
newer_first e d same lt =
    let tie : key_cmp e.key d.key ≡ Equal = ap (λ (k : List ℕ). key_cmp k d.key) same ∙ tied_itself nat_list_cmp_total d.key in
    ap (λ (o : Ordering). is_lt (ordering_then o (nat_cmp d.version e.version))) tie
    ∙ ap is_lt (sym (nat_cmp_is d.version e.version Less lt))

-- items of one key whose versions descend have entries that ascend
pub entries_ascend : (pairs : List KeyValue) (items : List Item) (key : List ℕ) → list_all (is_of key) (entries_of pairs items) ≡ true → is_descending items ≡ true → is_ascending (entries_of pairs items) ≡ true
entries_ascend pairs [] key keyed down = refl
entries_ascend pairs (item ∷ items) key keyed down =
    let e : Entry = entry_of_item pairs item in
    let of = and_parts (is_of key e) (list_all (is_of key) (entries_of pairs items)) keyed in
    let less = and_parts (list_all (λ (later : Item). ltb later.version item.version) items) (is_descending items) down in
    let before : Entry → Bool = λ later. is_lt (entry_cmp e.key e.version later.key later.version) in
    and_from (list_all before (entries_of pairs items)) (is_ascending (entries_of pairs items))
    (items_pass before pairs items ∙ all_from (λ (x : Item). before (entry_of_item pairs x)) items (λ x among.
    newer_first e (entry_of_item pairs x)
    (is_of_key key e of.0 ∙ sym (is_of_key key (entry_of_item pairs x) (all_at (λ (y : Item). is_of key (entry_of_item pairs y)) x items (sym (items_pass (is_of key) pairs items) ∙ of.1) among)))
    (ltb-true x.version item.version (all_at (λ (later : Item). ltb later.version item.version) x items less.0 among))))
    (entries_ascend pairs items key of.1 less.1)

-- entries that come before a key, and entries of it behind them
pub joined_ascend : (key : List ℕ) (pending entries : List Entry) → is_ascending pending ≡ true → list_all (λ (e : Entry). is_lt (key_cmp e.key key)) pending ≡ true
    → is_ascending entries ≡ true → list_all (is_of key) entries ≡ true → is_ascending (pending ++ entries) ≡ true
joined_ascend key [] entries up before rise keyed = rise
joined_ascend key (e ∷ pending) entries up before rise keyed =
    let first : Entry → Bool = λ later. is_lt (entry_cmp e.key e.version later.key later.version) in
    let ups = and_parts (list_all first pending) (is_ascending pending) up in
    let befores = and_parts (is_lt (key_cmp e.key key)) (list_all (λ (d : Entry). is_lt (key_cmp d.key key)) pending) before in
    and_from (list_all first (pending ++ entries)) (is_ascending (pending ++ entries))
    (list_all-append first pending entries ∙ and_from (list_all first pending) (list_all first entries) ups.0
    (all_from first entries (λ d among. lesser_first e d (ap (λ (k : List ℕ). is_lt (key_cmp e.key k)) (is_of_key key d (all_at (is_of key) d entries keyed among)) ∙ befores.0))))
    (joined_ascend key pending entries ups.1 befores.1 rise keyed)

-- the last of entries that ascend do so
last_ascend : (front end : List Entry) → is_ascending (front ++ end) ≡ true → is_ascending end ≡ true
last_ascend [] end up = up
last_ascend (x ∷ front) end up =
    last_ascend front end (and_parts (list_all (λ later. is_lt (entry_cmp x.key x.version later.key later.version)) (front ++ end)) (is_ascending (front ++ end)) up).1

-- what is in no block after entries of a key were pushed comes before each later key
module _ (key later : List ℕ) (less : is_lt (key_cmp key later) ≡ true) where
  sooner : (pending : List Entry) → list_all (λ (e : Entry). is_lt (key_cmp e.key key)) pending ≡ true → list_all (λ (e : Entry). is_lt (key_cmp e.key later)) pending ≡ true
  sooner pending before =
      all_from (λ (e : Entry). is_lt (key_cmp e.key later)) pending
      (λ e among. key_before e.key key later (all_at (λ (d : Entry). is_lt (key_cmp d.key key)) e pending before among) less)

  pub ready_later : (writers : List ArrayProgress) → AreReadyFor key writers → AreReadyFor later writers
  ready_later writers ready = record { ascending = ready.ascending; before = λ q w at. sooner w.pending (ready.before q w at) }

  pub end_before : (pending entries end : List Entry) → list_all (λ (e : Entry). is_lt (key_cmp e.key key)) pending ≡ true → list_all (is_of key) entries ≡ true → IsEndOf end (pending ++ entries)
      → list_all (λ (e : Entry). is_lt (key_cmp e.key later)) end ≡ true
  end_before pending entries end before keyed ends =
      let test : Entry → Bool = λ e. is_lt (key_cmp e.key later) in
      let all : list_all test (pending ++ entries) ≡ true =
      list_all-append test pending entries ∙ and_from (list_all test pending) (list_all test entries) (sooner pending before)
      (all_from test entries (λ e among. ap (λ (k : List ℕ). is_lt (key_cmp k later)) (is_of_key key e (all_at (is_of key) e entries keyed among)) ∙ less)) in
      (and_parts (list_all test ends.front) (list_all test end) (sym (list_all-append test ends.front end) ∙ ap (list_all test) (sym ends.split) ∙ all)).1

  pub ready_next : (writers : List ArrayProgress) (part : ℕ) (was is : ArrayProgress) (entries : List Entry) → slice_get writers part ≡ Some was → AreReadyFor later writers
      → is_ascending (was.pending ++ entries) ≡ true → list_all (λ (e : Entry). is_lt (key_cmp e.key key)) was.pending ≡ true → list_all (is_of key) entries ≡ true
      → IsEndOf is.pending (was.pending ++ entries) → AreReadyFor later (set writers part is)
  ready_next writers part was is entries there ready up before keyed ends =
      record {
        ascending = λ q w at. elim (set_or_before writers part q is w at) [
          | inl same ↦
              subst (λ (x : ArrayProgress). is_ascending x.pending ≡ true) same
              (last_ascend ends.front is.pending (ap is_ascending (sym ends.split) ∙ up))
          | inr other ↦ ready.ascending q w other
        ];
        before = λ q w at. elim (set_or_before writers part q is w at) [
          | inl same ↦
              subst (λ (x : ArrayProgress). list_all (λ (e : Entry). is_lt (key_cmp e.key later)) x.pending ≡ true) same
              (end_before was.pending entries is.pending before keyed ends)
          | inr other ↦ ready.before q w other
        ];
      }

-- a part has pushed these entries
abbrev pub HasPushed : DiskView → DiskView → List ArrayProgress → ℕ → ArrayProgress → List Entry → Type 0
HasPushed disk now new q w entries =
    (x : ArrayProgress) × (slice_get new q ≡ Some x) × (x.id ≡ w.id)
    × ((f g : Image) (es : List Entry) → Exposes disk f → Exposes now g → IsPushed f w es → IsPushed g x (es ++ entries))

-- writers took free blocks, and nothing else was written
pub record AreTorn (disk now : DiskView) (s t : SpaceView) (old new : List ArrayProgress) : Type 0 where
  pub len : length new ≡ length old
  pub takes : TakesMore s t (all_extents old) (all_extents new)
  pub used : AreAllUsed t new
  pub torn : TearsBlocks (is_free s) disk now

-- the parts below one have pushed what they take, and the others are as they were
pub record HaveDealt (disk now : DiskView) (s t : SpaceView) (tree : Parents) (plan : Plan) (pairs : List KeyValue) (items : List Item) (old new : List ArrayProgress) (from : ℕ) : Type 0 where
  pub torn : AreTorn disk now s t old new
  pub rest : (q : ℕ) → from ≤ q → slice_get new q ≡ slice_get old q
  pub ready : (key later : List ℕ) → list_all (is_of key) (entries_of pairs items) ≡ true → AreReadyFor key old → is_lt (key_cmp key later) ≡ true → AreReadyFor later new
  pub dealt : (parents : Parents) → IsSplitFor tree parents plan items → (q : ℕ) (w : ArrayProgress) → q < from → slice_get old q ≡ Some w
      → HasPushed disk now new q w (entries_of pairs (items_taken parents plan items q))

pub none_torn : (v : DiskView) (s : SpaceView) (writers : List ArrayProgress) → AreAllUsed s writers → AreTorn v v s s writers writers
none_torn v s writers used = record { len = refl; takes = takes_refl s (all_extents writers); used = used; torn = blocks_refl (is_free s) v }

pub none_dealt : (v : DiskView) (s : SpaceView) (tree : Parents) (plan : Plan) (pairs : List KeyValue) (items : List Item) (writers : List ArrayProgress) (from : ℕ) → from ≡ 0 → AreAllUsed s writers
    → HaveDealt v v s s tree plan pairs items writers writers from
none_dealt v s tree plan pairs items writers from begun used = record {
  torn = none_torn v s writers used;
  rest = λ q le. refl;
  ready = λ key later keyed ready less. ready_later key later less writers ready;
  dealt = λ parents split q w lt there. absurd (omega (arith, lt, begun));
}

-- one more part pushed something, or gave up
pub torn_more : {T E : Type 0} (disk mid now : DiskView) (s t u : SpaceView) (old writers new : List ArrayProgress) (part : ℕ) (entries : List Entry) (r : Result T E)
    → AreTorn disk mid s t old writers → PushesPart mid now t u writers new part entries r → TearsBlocks (is_free t) mid now → AreTorn disk now s u old new
torn_more disk mid now s t u old writers new part entries r before pushes torn =
    subst (λ (ws : List ArrayProgress). AreTorn disk now s u old ws) (sym pushes.others)
    (record {
      len = length-set writers part pushes.is ∙ before.len;
      takes = takes_trans s t u (all_extents old) (all_extents writers) (all_extents (set writers part pushes.is)) before.takes
          (takes_all t u writers part pushes.was pushes.is pushes.takes pushes.there);
      used = used_all t u writers part pushes.was pushes.is before.used pushes.takes pushes.there;
      torn = torn_on s t (all_extents old) (all_extents writers) disk mid now before.takes before.torn torn;
    })

-- what a part takes may be pushed behind what it has
pub part_ascends : (pairs : List KeyValue) (key : List ℕ) (old writers : List ArrayProgress) (part : ℕ) (taken : List Item) → AreReadyFor key old → slice_get writers part ≡ slice_get old part
    → list_all (is_of key) (entries_of pairs taken) ≡ true → is_descending taken ≡ true → (w : ArrayProgress) → slice_get writers part ≡ Some w → is_ascending (w.pending ++ entries_of pairs taken) ≡ true
part_ascends pairs key old writers part taken ready same keyed down w there =
    joined_ascend key w.pending (entries_of pairs taken) (ready.ascending part w (sym same ∙ there)) (ready.before part w (sym same ∙ there))
    (entries_ascend pairs taken key keyed down) keyed

-- entries stay pushed, with none behind them
none_behind : (g : Image) (w : ArrayProgress) (es more : List Entry) → more ≡ [] → IsPushed g w es → IsPushed g w (es ++ more)
none_behind g w es more none pushed = subst (λ (l : List Entry). IsPushed g w (es ++ l)) (sym none) (subst (λ (l : List Entry). IsPushed g w l) (sym (append-nil es)) pushed)

-- what passes each test that items pass passes each that their entries pass
pub taken_pass : (pairs : List KeyValue) (items taken : List Item) → ((test : Item → Bool) → list_all test items ≡ true → list_all test taken ≡ true)
    → (p : Entry → Bool) → list_all p (entries_of pairs items) ≡ true → list_all p (entries_of pairs taken) ≡ true
taken_pass pairs items taken tests p all = items_pass p pairs taken ∙ tests (λ item. p (entry_of_item pairs item)) (sym (items_pass p pairs items) ∙ all)

-- items below a number are below a greater one
pub below_more : (n m : ℕ) (items : List Item) → n ≤ m → are_below n items ≡ true → are_below m items ≡ true
below_more n m items le low =
    all_from (λ (item : Item). ltb item.version m) items
    (λ item among. lt-ltb item.version m (let lt = ltb-true item.version n (all_at (λ (x : Item). ltb x.version n) item items low among) in omega (arith, lt, le)))

-- one more part has pushed what it takes
module _ (disk mid now : DiskView) (s t u : SpaceView) (tree : Parents) (plan : Plan) (pairs : List KeyValue) (items taken : List Item) (old writers new : List ArrayProgress) (from part : ℕ)
    (used : AreAllUsed s old) (before : HaveDealt disk mid s t tree plan pairs items old writers from) (late : from ≤ part)
    (next : (parents : Parents) → IsSplitFor tree parents plan items → IsNextPart parents plan items from part taken)
    (tests : (test : Item → Bool) → list_all test items ≡ true → list_all test taken ≡ true) (down : is_descending taken ≡ true) where
  module _ {T E : Type 0} (x : T) (pushes : PushesPart {E = E} mid now t u writers new part (entries_of pairs taken) (Ok x)) (torn : TearsBlocks (is_free t) mid now) where
    there_now : slice_get new part ≡ Some pushes.is
    there_now = ap (λ (ws : List ArrayProgress). slice_get ws part) pushes.others ∙ get_set_same writers part pushes.was pushes.is pushes.there

    others_now : (q : ℕ) → q ≢ part → slice_get new q ≡ slice_get writers q
    others_now q apart = ap (λ (ws : List ArrayProgress). slice_get ws q) pushes.others ∙ get_set_other writers part q pushes.is apart

    all_torn : AreTorn disk now s u old new
    all_torn = torn_more disk mid now s t u old writers new part (entries_of pairs taken) (Ok x) before.torn pushes torn

    ready_on : (key later : List ℕ) → list_all (is_of key) (entries_of pairs items) ≡ true → AreReadyFor key old → is_lt (key_cmp key later) ≡ true → AreReadyFor later new
    ready_on key later keyed ready less =
        let mine : list_all (is_of key) (entries_of pairs taken) ≡ true = taken_pass pairs items taken tests (is_of key) keyed in
        let was_there : slice_get old part ≡ Some pushes.was = sym (before.rest part late) ∙ pushes.there in
        subst (λ (ws : List ArrayProgress). AreReadyFor later ws) (sym pushes.others)
        (ready_next key later less writers part pushes.was pushes.is (entries_of pairs taken) pushes.there (before.ready key later keyed ready less)
        (part_ascends pairs key old writers part taken ready (before.rest part late) mine down pushes.was pushes.there)
        (ready.before part pushes.was was_there) mine pushes.end)

    -- a part that was dealt before
    earlier : (parents : Parents) → IsSplitFor tree parents plan items → (q : ℕ) (w : ArrayProgress) → q < from → slice_get old q ≡ Some w → HasPushed disk now new q w (entries_of pairs (items_taken parents plan items q))
    earlier parents split q w lt there =
        let had = before.dealt parents split q w lt there in
        let apart : q ≢ part = λ same. absurd (omega (arith, lt, late, same)) in (
          had.0,
          others_now q apart ∙ had.1,
          had.2,
          λ f g es told tells pushed.
              let between = still_told disk mid f before.torn.torn.time told in
              others_stay t mid now between.0 g had.0 (es ++ entries_of pairs (items_taken parents plan items q)) (before.torn.used q had.0 had.1) torn between.1 tells
              (had.3 f between.0 es told between.1 pushed),
        )

    -- one between, which takes nothing
    between_parts : (parents : Parents) → IsSplitFor tree parents plan items → (q : ℕ) (w : ArrayProgress) → from ≤ q → q < part → slice_get old q ≡ Some w → HasPushed disk now new q w (entries_of pairs (items_taken parents plan items q))
    between_parts parents split q w le lt there = (
      w,
      others_now q (λ same. absurd (omega (arith, lt, same))) ∙ before.rest q le ∙ there,
      refl,
      λ f g es told tells pushed.
          none_behind g w es (entries_of pairs (items_taken parents plan items q)) (ap (entries_of pairs) ((next parents split).none q le lt))
          (others_stay s disk now f g w es (used q w there) all_torn.torn told tells pushed),
    )

    -- the part itself
    itself : (parents : Parents) → IsSplitFor tree parents plan items → (w : ArrayProgress) → slice_get old part ≡ Some w → HasPushed disk now new part w (entries_of pairs (items_taken parents plan items part))
    itself parents split w there =
        let was_there : slice_get old part ≡ Some pushes.was = sym (before.rest part late) ∙ pushes.there in
        let same : pushes.was ≡ w = let e : Some pushes.was ≡ Some w = sym was_there ∙ there in cc in (
          pushes.is,
          there_now,
          pushes.id ∙ ap (λ (x : ArrayProgress). x.id) same,
          λ f g es told tells pushed.
              let between = still_told disk mid f before.torn.torn.time told in
              let mine : IsPushed f pushes.was es = subst (λ (x : ArrayProgress). IsPushed f x es) (sym same) pushed in
              subst (λ (l : List Item). IsPushed g pushes.is (es ++ entries_of pairs l)) (next parents split).all
              (pushes.pushed between.0 g es between.1 tells
              (others_stay s disk mid f between.0 pushes.was es (used part pushes.was was_there) before.torn.torn told between.1 mine)),
        )

    pub dealt_more : HaveDealt disk now s u tree plan pairs items old new (part + 1)
    dealt_more = record {
      torn = all_torn;
      rest = λ q le. others_now q (λ same. absurd (omega (arith, le, same))) ∙ before.rest q (omega (arith, le, late));
      ready = ready_on;
      dealt = λ parents split q w lt there.
          elim (cases_lt q from) [
            | inl early ↦ earlier parents split q w early there
            | inr le ↦
                elim (cases_eq q part) [
                  | inl same ↦
                      subst (λ (p : ℕ). HasPushed disk now new p w (entries_of pairs (items_taken parents plan items p))) (sym same)
                      (itself parents split w (ap (slice_get old) (sym same) ∙ there))
                  | inr apart ↦ between_parts parents split q w le (omega (arith, lt, apart)) there
                ]
          ];
    }

-- where no part is left that takes something all was dealt out
pub all_dealt : (disk now : DiskView) (s t : SpaceView) (tree parents : Parents) (plan : Plan) (pairs : List KeyValue) (items : List Item) (old new : List ArrayProgress) (from : ℕ) → AreAllUsed s old
    → HaveDealt disk now s t tree plan pairs items old new from → IsSplitFor tree parents plan items → length old ≡ length plan.parts → TakeNothing parents plan items from
    → DealsOut disk now parents plan pairs items old new
all_dealt disk now s t tree parents plan pairs items old new from used dealt split size none = record {
  each = λ q w there. elim (cases_lt q from) [
    | inl early ↦ dealt.dealt parents split q w early there
    | inr le ↦ (
      w,
      dealt.rest q le ∙ there,
      refl,
      λ f g es told tells pushed.
          none_behind g w es (entries_of pairs (items_taken parents plan items q)) (ap (entries_of pairs) (none q le (let lt = within old q w there in omega (arith, lt, size))))
          (others_stay s disk now f g w es (used q w there) dealt.torn.torn told tells pushed),
    )
  ];
}
  where
    within : {X : Type 0} (xs : List X) (i : ℕ) (x : X) → slice_get xs i ≡ Some x → i < length xs
    within [] i x there = absurd (cc)
    within (y ∷ xs) zero x there = omega arith
    within (y ∷ xs) (suc i) x there = let lt = within xs i x there in omega arith
