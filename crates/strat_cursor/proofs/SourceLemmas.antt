-- What a source has left after it began, and after it went on.
use Rattle.std.proofs.Common.{◌≡◌, ◌<◌, ◌≤◌, ◌+◌, ◌^◌, ℕ, Bool, true, false, cond, ltb, not, ◌&&◌, inl, inr, ◌⊎◌, zero, suc, get_or, List, [], ◌∷◌, length, drop, Option, Some, None, is_some, IfSome, IsTrue, refl, sym, ap, ◌∙◌, subst, arith, true≢false}
use Rattle.std.specs.List.{filter, list_all, find, slice_get}
use Rattle.std.specs.Option.{unwrap_or}
use Rattle.std.specs.Ordering.{is_lt, nat_cmp, ordering_then}
use Rattle.std.specs.declared.cmp.Ordering.{Ordering}
use Rattle.std.specs.declared.cmp.Ordering.TheVariants.{Less, Equal, Greater}
use Rattle.std.proofs.lemmas.Bool.{and_parts, cases_Bool, ltb-true}
use Rattle.std.proofs.lemmas.List.{drop_more}
use Rattle.std.proofs.lemmas.Cmp.{ranked}
use Rattle.strat_arena.specs.declared.pool.PoolEntry.{PoolEntry}
use Rattle.strat_array.specs.Blocks.{lists_on}
use Rattle.strat_array.specs.Kept.{Kept, Blocks, Looks, ArrayStands}
use Rattle.strat_array.specs.Left.{all_in, is_from}
use Rattle.strat_array.specs.Steps.{left_from, HoldsPlace}
use Rattle.strat_array.specs.Walk.{is_seen_at}
use Rattle.strat_array.specs.declared.place.Place.{Place}
use Rattle.strat_array.proofs.FindLemmas.{left_held}
use Rattle.strat_array.proofs.FoundLemmas.{ascending_filter, all_filtered}
use Rattle.strat_array.proofs.KeptLemmas.{stands_after}
use Rattle.strat_array.proofs.LawLemmas.{array_stands}
use Rattle.strat_base.specs.Entries.{Entry, is_of, is_ascending}
use Rattle.strat_base.specs.EntryBytes.{fits_fields, is_markable}
use Rattle.strat_base.specs.Sizes.{is_key}
use Rattle.strat_base.specs.Order.{key_cmp}
use Rattle.strat_base.specs.Tree.{Parents, is_ancestor}
use Rattle.strat_base.specs.declared.descriptors.ArrayDesc.{ArrayDesc}
use Rattle.strat_base.proofs.EntryLemmas.{is_of_key}
use Rattle.strat_base.proofs.ListFacts.{all_at, get_among}
use Rattle.def_crash.specs.Image.{Image}
use Rattle.def_crash.specs.Moments.{DiskView}
use Rattle.def_bytes.specs.Arrays.{blocks_of, entries_on}
use Rattle.strat_level.specs.Memtable.{entries_held, ListStands}
use Rattle.strat_level.specs.Places.{IsStart}
use Rattle.strat_cursor.specs.Ahead.{is_after, is_to_come}
use Rattle.strat_cursor.specs.Looking.{MayBeAsked, LooksThrough, NamesNoBlock}
use Rattle.strat_cursor.specs.Sources.{PassesUndue, is_due, left_behind, entry_held, lists_of, left_at_source, content_of, first_at_source, StandsIn, IsUpTo, IsSpent, HasHead, arrays_at, steps_left}
use Rattle.strat_cursor.specs.declared.scan_buffers.SourcePosition.{SourcePosition}
use Rattle.strat_cursor.specs.declared.sources.Source.{Source}
use Rattle.strat_cursor.specs.declared.sources.Source.TheVariants as source
use Rattle.strat_array.specs.Within.{IsNoBlock}
use Rattle.strat_cursor.proofs.ThroughLemmas.{through_one, names_one, only_one}
use Rattle.strat_cursor.proofs.StandLemmas.{passes_none, passes_one, passes_trans}

-- an entry below lo is of no key from lo on
below_off : (parents : Parents) (v : ℕ) (lo key : List ℕ) (e : Entry) → is_from lo e ≡ false → not (is_lt (key_cmp key lo)) ≡ true → is_seen_at parents key v e ≡ false
below_off parents v lo key e below from = elim (cases_Bool (is_seen_at parents key v e)) [
  | inr unseen ↦ unseen
  | inl seen ↦
      let of : e.key ≡ key = is_of_key key e (and_parts (is_of key e) (is_ancestor parents e.version v) seen).0 in
      absurd (true≢false (sym (ap (λ (k : List ℕ). not (is_lt (key_cmp k lo))) of ∙ from) ∙ below))
]

find_above : (parents : Parents) (v : ℕ) (lo key : List ℕ) → not (is_lt (key_cmp key lo)) ≡ true → (entries : List Entry) → find (is_seen_at parents key v) (filter (is_from lo) entries) ≡ find (is_seen_at parents key v) entries
find_above parents v lo key from [] = refl
find_above parents v lo key from (e ∷ entries) =
    elim (is_from lo e) as (λ b. is_from lo e ≡ b → find (is_seen_at parents key v) (cond b (e ∷ filter (is_from lo) entries) (filter (is_from lo) entries)) ≡ find (is_seen_at parents key v) (e ∷ entries)) [
      | true ↦ λ t. ap (λ (o : Option Entry). cond (is_seen_at parents key v e) (Some e) o) (find_above parents v lo key from entries)
      | false ↦ λ t. find_above parents v lo key from entries ∙ sym (ap (λ (b : Bool). cond b (Some e) (find (is_seen_at parents key v) entries)) (below_off parents v lo key e t from))
    ] refl

-- what is left of all entries from lo on, when no key was handled
pub record IsBegun (parents : Parents) (v : ℕ) (lo : List ℕ) (entries left : List Entry) : Type 0 where
  pub same : (key : List ℕ) → IsTrue (is_to_come lo [] key) → find (is_seen_at parents key v) left ≡ find (is_seen_at parents key v) entries
  pub ordered : IsTrue (is_ascending left)
  pub from : IsTrue (list_all (is_from lo) left)

begun : (parents : Parents) (v : ℕ) (lo : List ℕ) (entries left : List Entry) → is_ascending entries ≡ true → PassesUndue parents v [] (filter (is_from lo) entries) left → IsBegun parents v lo entries left
begun parents v lo entries left up passes = record {
  same = λ key come. passes.same key refl ∙ find_above parents v lo key (and_parts (not (is_lt (key_cmp key lo))) true come).0 entries;
  ordered = passes.ordered (ascending_filter (is_from lo) entries up);
  from = passes.among (is_from lo) (all_filtered (is_from lo) entries);
}

-- a version is below 2^32
fits_version : (e : Entry) → fits_fields e ≡ true → e.version < 4294967296
fits_version e fits =
    let parts = and_parts (is_key e.key && ltb e.version (2 ^ 32)) (is_markable e.value) fits in
    ltb-true e.version (2 ^ 32) (and_parts (is_key e.key) (ltb e.version (2 ^ 32)) parts.0).1

-- level 0 from lo on
drop_filter : (p : Entry → Bool) (i : ℕ) (entries : List Entry) → ((k : ℕ) (d : Entry) → k < i → p (get_or entries k d) ≡ false) → ((k : ℕ) (d : Entry) → i ≤ k → k < length entries → p (get_or entries k d) ≡ true) → i ≤ length entries → drop i entries ≡ filter p entries
drop_filter p zero [] before after within = refl
drop_filter p (suc i) [] before after within = absurd (omega arith)
drop_filter p zero (e ∷ entries) before after within =
    ap (λ (l : List Entry). e ∷ l) (drop_filter p zero entries (λ k d low. absurd (omega arith)) (λ k d low high. after (suc k) d (omega arith) (omega arith)) (omega arith))
    ∙ sym (ap (λ (b : Bool). cond b (e ∷ filter p entries) (filter p entries)) (after zero e (omega arith) (omega arith)))
drop_filter p (suc i) (e ∷ entries) before after within =
    drop_filter p i entries (λ k d low. before (suc k) d (omega arith)) (λ k d low high. after (suc k) d (omega arith) (omega arith)) (omega arith)
    ∙ sym (ap (λ (b : Bool). cond b (e ∷ filter p entries) (filter p entries)) (before zero e (omega arith)))

then_less : (o p : Ordering) → ordering_then o p ≡ Less → (o ≡ Less) ⊎ (p ≡ Less)
then_less Less p is = inl refl
then_less Equal p is = inr is
then_less Greater p is = absurd (cc)

then_not : (o p : Ordering) → is_lt (ordering_then o p) ≡ false → is_lt o ≡ false
then_not Less p is = is
then_not Equal p is = refl
then_not Greater p is = refl

low_version : (e : Entry) → fits_fields e ≡ true → 4294967295 < e.version → ⊥
low_version e fits high = let low : e.version < 4294967296 = fits_version e fits in omega (arith, low, high)

pub starts_from : (entries : List Entry) (lo : List ℕ) (i : ℕ) → list_all fits_fields entries ≡ true → IsStart entries lo 4294967295 i → drop i entries ≡ filter (is_from lo) entries
starts_from entries lo i lawful start =
    drop_filter (is_from lo) i entries
    (λ k d low. ap not (ap is_lt (less k d low)))
    (λ k d low high. ap not (then_not (key_cmp (get_or entries k d).key lo) (nat_cmp 4294967295 (get_or entries k d).version) (start.after k d low high)))
    start.within
  where
    got : (xs : List Entry) (k : ℕ) (d : Entry) → k < length xs → slice_get xs k ≡ Some (get_or xs k d)
    got [] k d low = absurd (omega arith)
    got (x ∷ xs) zero d low = refl
    got (x ∷ xs) (suc k) d low = got xs k d (omega arith)

    less : (k : ℕ) (d : Entry) → k < i → key_cmp (get_or entries k d).key lo ≡ Less
    less k d low = elim (then_less (key_cmp (get_or entries k d).key lo) (nat_cmp 4294967295 (get_or entries k d).version) (start.before k d low)) [
      | inl is ↦ is
      | inr is ↦
          let e = get_or entries k d in
          let within : i ≤ length entries = start.within in
          let fits = all_at fits_fields e entries lawful (get_among entries k e (got entries k d (omega arith))) in
          let high : 4294967295 < e.version = ranked 4294967295 e.version Less (sym is) in
          absurd (low_version e fits high)
    ]

module _ (f : Image) (pool : List PoolEntry) (parents : Parents) (v : ℕ) (lo : List ℕ) where
  up_to : (s : Source) (position : SourcePosition) → IsBegun parents v lo (content_of f pool s) (left_at_source f pool s position) → IsUpTo f pool parents v lo [] s position
  up_to s position is = record { same = is.same; ordered = is.ordered; from = is.from }

  -- level 0 begins
  pub zero_begins : (s : Source) (list : _) (position : SourcePosition) → s ≡ source.Zero list → ListStands pool list.now → PassesUndue parents v [] (filter (is_from lo) (entries_held pool list.now)) (drop position.item (entries_held pool list.now))
      → IsUpTo f pool parents v lo [] s position
  zero_begins s list position is stands passes =
      subst (λ (x : Source). IsUpTo f pool parents v lo [] x position) (sym is)
      (up_to (source.Zero list) position (begun parents v lo (entries_held pool list.now) (drop position.item (entries_held pool list.now)) stands.ascending passes))

  pub none_begins : (s : Source) (position : SourcePosition) → s ≡ source.None → IsUpTo f pool parents v lo [] s position
  none_begins s position is =
      subst (λ (x : Source). IsUpTo f pool parents v lo [] x position) (sym is) (record { same = λ key come. refl; ordered = refl; from = refl })

  -- the entries from a place on, as a position has it
  abbrev left_where : ArrayDesc → Bool → Place → List Entry
  left_where a there place = cond there (left_from (lists_of f a) place) []

  left_at : (a : ArrayDesc) (r : Option Place) (p : Place) → left_where a (is_some r) (unwrap_or r p) ≡ left_behind (lists_of f a) r
  left_at a None p = refl
  left_at a (Some at) p = refl

  left_stood : (a : ArrayDesc) (r : Option Place) (p : Place) (position : SourcePosition) → position.there ≡ is_some r → position.place ≡ unwrap_or r p → left_where a position.there position.place ≡ left_behind (lists_of f a) r
  left_stood a r p position there place = (λ j. left_where a (there j) (place j)) ∙ left_at a r p

  -- an array begins
  pub array_begins : (old new : DiskView) (s : Source) (a : _) (c d : Blocks) (position : SourcePosition) (r : Option Place) (p : Place) → s ≡ source.Array a → old.content ≡ Some f → MayBeAsked f c a.now
      → ((lists : List (List Entry)) → ArrayStands old.content a.now.id (blocks_of a.now.extents) c None lists → IsTrue (is_ascending (all_in lists)) → PassesUndue parents v [] (filter (is_from lo) (all_in lists)) (left_behind lists r))
      → Looks old new a.now.id (blocks_of a.now.extents) c d None position.scratch → position.there ≡ is_some r → position.place ≡ unwrap_or r p
      → IsUpTo f pool parents v lo [] s position × StandsIn f d s position.scratch
  array_begins old new s a c d position r p is exposed may passes looks there place =
      let made = array_stands old.content f a.now.id (blocks_of a.now.extents) c may.entries exposed may.read may.cached in
      let lists = made.0 in
      let image : Some made.1.image ≡ Some f = sym made.1.exposed ∙ exposed in
      let same : made.1.image ≡ f = cc in
      let listed : lists_on f (blocks_of a.now.extents) ≡ Some lists = ap (λ (g : Image). lists_on g (blocks_of a.now.extents)) (sym same) ∙ made.1.listed in
      let lists_are : lists_of f a.now ≡ lists = ap (λ (o : Option (List (List Entry))). unwrap_or o []) listed in
      let whole : all_in lists ≡ unwrap_or (entries_on f (blocks_of a.now.extents)) [] = made.2 ∙ sym (ap (λ (o : Option (List Entry)). unwrap_or o []) may.read) in
      let up : is_ascending (all_in lists) ≡ true = ap is_ascending made.2 ∙ may.ordered in
      let left : left_where a.now position.there position.place ≡ left_behind lists r = left_stood a.now r p position there place ∙ ap (λ (l : List (List Entry)). left_behind l r) lists_are in
      let is_begun = begun parents v lo (all_in lists) (left_behind lists r) up (passes lists made.1 up) in
      let here : IsBegun parents v lo (content_of f pool (source.Array a)) (left_where a.now position.there position.place) = subst (λ (l : List Entry). IsBegun parents v lo (unwrap_or (entries_on f (blocks_of a.now.extents)) []) l) (sym left) (subst (λ (l : List Entry). IsBegun parents v lo l (left_behind lists r)) whole is_begun) in
      let after : ArrayStands (Some f) a.now.id (blocks_of a.now.extents) d position.scratch (lists_of f a.now) =
      subst (λ (o : Option Image). ArrayStands o a.now.id (blocks_of a.now.extents) d position.scratch (lists_of f a.now)) (looks.disk.same ∙ exposed)
      (subst (λ (l : List (List Entry)). ArrayStands new.content a.now.id (blocks_of a.now.extents) d position.scratch l) (sym lists_are) (stands_after old new a.now.id (blocks_of a.now.extents) c d None position.scratch lists looks made.1)) in (
        subst (λ (x : Source). IsUpTo f pool parents v lo [] x position) (sym is) (up_to (source.Array a) position here),
        subst (λ (x : Source). StandsIn f d x position.scratch) (sym is) after,
      )

-- an entry that is spent is passed over
spent_off : (parents : Parents) (v : ℕ) (last : List ℕ) (e : Entry) → is_after last e.key ≡ false → is_due parents v last e ≡ false
spent_off parents v last e off = ap (λ (b : Bool). cond b (is_ancestor parents e.version v) false) off

spent_there : (last : List ℕ) (o : Option Entry) → IsSpent last o → (e : Entry) × (o ≡ Some e) × (is_after last e.key ≡ false)
spent_there last None spent = absurd spent
spent_there last (Some e) spent = (e, refl, spent)

got_is : (entries : List Entry) (i : ℕ) (e : Entry) → slice_get entries i ≡ Some e → (d : Entry) → e ≡ get_or entries i d
got_is [] i e at d = absurd (cc)
got_is (x ∷ xs) zero e at d = cc
got_is (x ∷ xs) (suc i) e at d = got_is xs i e at d

drop_at : (entries : List Entry) (i : ℕ) (e : Entry) → slice_get entries i ≡ Some e → i < length entries → drop i entries ≡ e ∷ drop (i + 1) entries
drop_at entries i e at low = drop_more entries i e low ∙ ap (λ (x : Entry). x ∷ drop (i + 1) entries) (sym (got_is entries i e at e))

get_low : (entries : List Entry) (i : ℕ) (e : Entry) → slice_get entries i ≡ Some e → i < length entries
get_low [] i e at = absurd (cc)
get_low (x ∷ xs) zero e at = omega arith
get_low (x ∷ xs) (suc i) e at = let low = get_low xs i e at in omega arith

-- level 0 goes on
module _ (parents : Parents) (v : ℕ) (last : List ℕ) (entries : List Entry) (item next : ℕ) (spent : IsSpent last (slice_get entries item)) where
  pub item_low : item < length entries
  item_low = let there = spent_there last (slice_get entries item) spent in get_low entries item there.0 there.1

  pub items_go : PassesUndue parents v last (drop (item + 1) entries) (drop next entries) → PassesUndue parents v last (drop item entries) (drop next entries)
  items_go passes =
      let there = spent_there last (slice_get entries item) spent in
      passes_trans parents v last (drop item entries) (drop (item + 1) entries) (drop next entries)
      (passes_one parents v last (drop item entries) (drop (item + 1) entries) there.0
      (subst (λ (l : List Entry). PassesUndue parents v last (drop item entries) l) (drop_at entries item there.0 there.1 item_low) (passes_none parents v last (drop item entries)))
      (spent_off parents v last there.0 there.2))
      passes

-- an array goes on
held_is_entry : (s : Option Kept) (i : ℕ) (e : Entry) → entry_held s i ≡ Some e → IfSome s (λ kept. (d : Entry) → e ≡ get_or kept.1 i d)
held_is_entry None i e at = absurd (cc)
held_is_entry (Some kept) i e at = got_is kept.1 i e at

there_true : (last : List ℕ) (b : Bool) (o : Option Entry) → IsSpent last (cond b o None) → (b ≡ true) × IsSpent last o
there_true last true o spent = (refl, spent)
there_true last false o spent = absurd spent

module _ (f : Image) (pool : List PoolEntry) (parents : Parents) (v : ℕ) (last : List ℕ) where
  pub array_there : (s : Source) (a : _) (position : SourcePosition) → s ≡ source.Array a → HasHead s position → IsSpent last (first_at_source pool s position) → (position.there ≡ true) × HoldsPlace position.scratch a.now.id position.place × (position.place.index < 454) × IsSpent last (entry_held position.scratch position.place.index)
  array_there s a position is has spent =
      let has' = subst (λ (x : Source). HasHead x position) is has in
      let parts = there_true last position.there (entry_held position.scratch position.place.index) (subst (λ (x : Source). IsSpent last (first_at_source pool x position)) is spent) in
      let both = has' parts.0 in
      (parts.0, both.0, both.1, parts.1)

  pub array_goes : (old new : DiskView) (s : Source) (a : _) (c d : Blocks) (position after : SourcePosition) (next : Place) (r : Option Place) → s ≡ source.Array a → old.content ≡ Some f → StandsIn f c s position.scratch → HasHead s position → IsSpent last (first_at_source pool s position)
      → next.block ≡ position.place.block → next.index ≡ position.place.index + 1
      → ((lists : List (List Entry)) → ArrayStands old.content a.now.id (blocks_of a.now.extents) c position.scratch lists → PassesUndue parents v last (left_from lists next) (left_behind lists r))
      → Looks old new a.now.id (blocks_of a.now.extents) c d position.scratch after.scratch → after.there ≡ is_some r → after.place ≡ unwrap_or r position.place
      → PassesUndue parents v last (left_at_source f pool s position) (left_at_source f pool s after) × StandsIn f d s after.scratch
  array_goes old new s a c d position after next r is exposed stands has spent block index passes looks there place =
      let head = array_there s a position is has spent in
      let e = spent_there last (entry_held position.scratch position.place.index) head.3 in
      let lists = lists_of f a.now in
      let now : ArrayStands old.content a.now.id (blocks_of a.now.extents) c position.scratch lists =
      subst (λ (o : Option Image). ArrayStands o a.now.id (blocks_of a.now.extents) c position.scratch lists) (sym exposed) (subst (λ (x : Source). StandsIn f c x position.scratch) is stands) in
      let split : left_from lists position.place ≡ e.0 ∷ left_from lists next =
      left_held old.content a.now.id (blocks_of a.now.extents) c position.scratch lists now position.place e.0 head.1 (held_is_entry position.scratch position.place.index e.0 e.1) next block index in
      let first : PassesUndue parents v last (left_from lists position.place) (left_from lists next) =
      passes_one parents v last (left_from lists position.place) (left_from lists next) e.0 (subst (λ (l : List Entry). PassesUndue parents v last (left_from lists position.place) l) split (passes_none parents v last (left_from lists position.place))) (spent_off parents v last e.0 e.2) in
      let both = passes_trans parents v last (left_from lists position.place) (left_from lists next) (left_behind lists r) first (passes lists now) in
      let before : left_at_source f pool (source.Array a) position ≡ left_from lists position.place = ap (λ (b : Bool). cond b (left_from lists position.place) []) head.0 in
      let behind : left_at_source f pool (source.Array a) after ≡ left_behind lists r = left_stood f pool parents v last a.now r position.place after there place in
      let here : PassesUndue parents v last (left_at_source f pool (source.Array a) position) (left_at_source f pool (source.Array a) after) =
      subst (λ (l : List Entry). PassesUndue parents v last (left_at_source f pool (source.Array a) position) l) (sym behind) (subst (λ (l : List Entry). PassesUndue parents v last l (left_behind lists r)) (sym before) both) in
      let stays : ArrayStands (Some f) a.now.id (blocks_of a.now.extents) d after.scratch lists =
      subst (λ (o : Option Image). ArrayStands o a.now.id (blocks_of a.now.extents) d after.scratch lists) (looks.disk.same ∙ exposed) (stands_after old new a.now.id (blocks_of a.now.extents) c d position.scratch after.scratch lists looks now) in (
        subst (λ (x : Source). PassesUndue parents v last (left_at_source f pool x position) (left_at_source f pool x after)) (sym is) here,
        subst (λ (x : Source). StandsIn f d x after.scratch) (sym is) stays,
      )

-- the looks of a source
pub through_source : (old new : DiskView) (s : Source) (a : _) (c d : Blocks) (t u : Option Kept) → s ≡ source.Array a → Looks old new a.now.id (blocks_of a.now.extents) c d t u → LooksThrough old new (arrays_at s) c d
through_source old new s a c d t u is looks =
    subst (λ (x : Source). LooksThrough old new (arrays_at x) c d) (sym is) (through_one old new (a.now ∷ []) a.now c d t u (only_one a.now) looks)

pub names_source : (content : Option Image) (s : Source) (a : _) (b : ℕ) → s ≡ source.Array a → IsNoBlock content (blocks_of a.now.extents) b → NamesNoBlock content (arrays_at s) b
names_source content s a b is none =
    subst (λ (x : Source). NamesNoBlock content (arrays_at x) b) (sym is) (names_one content (a.now ∷ []) a.now b (only_one a.now) none)

-- level 0 goes on
pub zero_goes : (f : Image) (pool : List PoolEntry) (parents : Parents) (v : ℕ) (last : List ℕ) (s : Source) (list : _) (position after : SourcePosition) → s ≡ source.Zero list → IsSpent last (first_at_source pool s position)
    → PassesUndue parents v last (drop (position.item + 1) (entries_held pool list.now)) (drop after.item (entries_held pool list.now)) → PassesUndue parents v last (left_at_source f pool s position) (left_at_source f pool s after)
zero_goes f pool parents v last s list position after is spent passes =
    subst (λ (x : Source). PassesUndue parents v last (left_at_source f pool x position) (left_at_source f pool x after)) (sym is)
    (items_go parents v last (entries_held pool list.now) position.item after.item (subst (λ (x : Source). IsSpent last (first_at_source pool x position)) is spent) passes)

pub zero_steps : (pool : List PoolEntry) (parents : Parents) (v : ℕ) (last : List ℕ) (s : Source) (list : _) (position after : SourcePosition) → s ≡ source.Zero list → IsSpent last (first_at_source pool s position) → position.item + 1 ≤ after.item → steps_left pool s after < steps_left pool s position
zero_steps pool parents v last s list position after is spent further =
    subst (λ (x : Source). steps_left pool x after < steps_left pool x position) (sym is)
    (let low : position.item < length (entries_held pool list.now) = item_low parents v last (entries_held pool list.now) position.item after.item (subst (λ (x : Source). IsSpent last (first_at_source pool x position)) is spent) in
    omega (arith, low, further))

-- the scratch of a position is the one that was looked with
pub looks_position : (old new : DiskView) (array : ℕ) (blocks : List ℕ) (c d : Blocks) (s t u : Option Kept) → u ≡ t → Looks old new array blocks c d s t → Looks old new array blocks c d s u
looks_position old new array blocks c d s t u same looks = subst (λ (x : Option Kept). Looks old new array blocks c d s x) (sym same) looks
