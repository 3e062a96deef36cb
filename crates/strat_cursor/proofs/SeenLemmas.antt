-- What look-ups find of the least key that sources stand at, and of the keys before it.
use Rattle.std.proofs.Common.{◌≡◌, ◌<◌, ℕ, zero, suc, Bool, true, false, cond, drop, get_or, map, inl, inr, List, [], ◌∷◌, length, Option, Some, None, IfSome, IsTrue, refl, sym, ap, ◌∙◌, subst, arith, true≢false}
use Rattle.std.specs.List.{find, slice_get}
use Rattle.std.specs.Option.{option_map, option_or}
use Rattle.std.specs.Ordering.{is_lt, is_gt, nat_cmp, ordering_then}
use Rattle.std.specs.declared.cmp.Ordering.{Ordering}
use Rattle.std.specs.declared.cmp.Ordering.TheVariants.{Less, Equal, Greater}
use Rattle.std.proofs.lemmas.Bool.{and_parts, and_from}
use Rattle.std.proofs.lemmas.Cmp.{nat_list_cmp_total}
use Rattle.strat_arena.specs.declared.pool.PoolEntry.{PoolEntry}
use Rattle.strat_array.specs.Kept.{Kept, Blocks, held_block}
use Rattle.strat_array.specs.Left.{is_from}
use Rattle.strat_array.specs.Steps.{left_from}
use Rattle.strat_array.specs.Walk.{is_seen_at}
use Rattle.strat_array.proofs.HoldLemmas.{held_has}
use Rattle.strat_array.proofs.KeptLemmas.{held_is}
use Rattle.strat_array.proofs.WalkLemmas.{first_is_live, left_here}
use Rattle.strat_base.specs.Entries.{Entry, is_of, is_ascending}
use Rattle.strat_base.specs.Order.{key_cmp}
use Rattle.strat_base.specs.Tree.{Parents, IsTree, is_ancestor}
use Rattle.strat_base.proofs.EntryLemmas.{is_of_key, same_bytes}
use Rattle.strat_base.proofs.ListFacts.{all_at, find_some, get_among}
use Rattle.strat_base.proofs.ResultFacts.{option_cases}
use Rattle.def_crash.specs.Image.{Image}
use Rattle.def_bytes.specs.Arrays.{blocks_of}
use Rattle.strat_level.specs.Memtable.{entries_held}
use Rattle.strat_merge.specs.Bracket.{is_ahead}
use Rattle.strat_merge.proofs.OrderLemmas.{behind_le, behind_lt, key_le, first_le_all, lt_then_le, not_before_itself}
use Rattle.def_state.specs.LookUp.{first_live}
use Rattle.def_state.specs.Reading.{live_of}
use Rattle.strat_cursor.specs.Ahead.{is_to_come}
use Rattle.strat_cursor.specs.Contenders.{keyed, head_in}
use Rattle.strat_cursor.proofs.TournamentLemmas.{LeadsAll}
use Rattle.strat_cursor.specs.Sources.{HasHead, StandsIn, content_of, left_at_source, first_at_source, lists_of, entry_held}
use Rattle.strat_cursor.specs.Emitting.{AreSettled, AreUpTo}
use Rattle.strat_cursor.specs.declared.scan_buffers.SourcePosition.{SourcePosition}
use Rattle.strat_cursor.specs.declared.sources.Source.{Source}
use Rattle.strat_cursor.specs.declared.sources.Source.TheVariants as source
use Rattle.strat_cursor.proofs.PickLemmas.{got_low, get_within}
use Rattle.strat_cursor.proofs.EmitLemmas.{head_here}

-- in several lists: none finds it, or the first that does
pub first_none : (parents : Parents) (v : ℕ) (key : List ℕ) (cs : List (List Entry)) → ((i : ℕ) (es : List Entry) → slice_get cs i ≡ Some es → live_of parents es v key ≡ None) → first_live parents cs v key ≡ None
first_none parents v key [] each = refl
first_none parents v key (es ∷ cs) each =
    ap (λ (o : Option Entry). option_or o (first_live parents cs v key)) (each zero es refl) ∙ first_none parents v key cs (λ i x at. each (suc i) x at)

pub first_at : (parents : Parents) (v : ℕ) (key : List ℕ) (cs : List (List Entry)) (w : ℕ) (es : List Entry) (e : Entry) → slice_get cs w ≡ Some es → live_of parents es v key ≡ Some e → ((i : ℕ) (xs : List Entry) → i < w → slice_get cs i ≡ Some xs → live_of parents xs v key ≡ None)
    → first_live parents cs v key ≡ Some e
first_at parents v key [] w es e at is each = absurd (cc)
first_at parents v key (xs ∷ cs) zero es e at is each =
    let same : xs ≡ es = cc in
    ap (λ (o : Option Entry). option_or o (first_live parents cs v key)) (ap (λ (l : List Entry). live_of parents l v key) same ∙ is)
first_at parents v key (xs ∷ cs) (suc w) es e at is each =
    ap (λ (o : Option Entry). option_or o (first_live parents cs v key)) (each zero xs (omega arith) refl)
    ∙ first_at parents v key cs w es e at is (λ i ys low there. each (suc i) ys (omega (arith, low)) there)

-- entries that begin above a key have none of it
none_above : (parents : Parents) (v : ℕ) (key : List ℕ) (left : List Entry) (e : Entry) → is_ascending left ≡ true → slice_get left 0 ≡ Some e → is_lt (key_cmp key e.key) ≡ true → find (is_seen_at parents key v) left ≡ None
none_above parents v key left e up first above = elim (option_cases (find (is_seen_at parents key v) left)) [
  | inl none ↦ none
  | inr found ↦
      let d = found.0 in
      let at = find_some (is_seen_at parents key v) left d found.1 in
      let of : d.key ≡ key = is_of_key key d (and_parts (is_of key d) (is_ancestor parents d.version v) at.1).0 in
      let le = key_le e d (first_le_all left e d up first at.0) in
      let lt : is_lt (key_cmp key d.key) ≡ true = lt_then_le nat_list_cmp_total key e.key d.key above le in
      absurd (true≢false (sym lt ∙ ap (λ (k : List ℕ). is_lt (key_cmp key k)) of ∙ not_before_itself nat_list_cmp_total key))
]

none_empty : (parents : Parents) (v : ℕ) (key : List ℕ) (left : List Entry) → slice_get left 0 ≡ None → find (is_seen_at parents key v) left ≡ None
none_empty parents v key [] none = refl
none_empty parents v key (e ∷ left) none = absurd (cc)

-- the first of these at a version or an ancestor of it is found
found_first : (parents : Parents) (v : ℕ) (left : List Entry) (e : Entry) → slice_get left 0 ≡ Some e → is_ancestor parents e.version v ≡ true → find (is_seen_at parents e.key v) left ≡ Some e
found_first parents v [] e first path = absurd (cc)
found_first parents v (x ∷ left) e first path =
    let same : x ≡ e = cc in
    let seen : is_seen_at parents e.key v x ≡ true = ap (is_seen_at parents e.key v) same ∙ and_from (is_of e.key e) (is_ancestor parents e.version v) (same_bytes e.key e.key refl) path in
    ap (λ (b : Bool). cond b (Some x) (find (is_seen_at parents e.key v) left)) seen ∙ ap (λ (y : Entry). Some y) same

drop_first : (entries : List Entry) (i : ℕ) → slice_get (drop i entries) 0 ≡ slice_get entries i
drop_first [] zero = refl
drop_first [] (suc i) = refl
drop_first (e ∷ entries) zero = refl
drop_first (e ∷ entries) (suc i) = drop_first entries i

got_or : (entries : List Entry) (i : ℕ) (e : Entry) → i < length entries → slice_get entries i ≡ Some (get_or entries i e)
got_or [] i e low = absurd (omega (arith, low))
got_or (x ∷ xs) zero e low = refl
got_or (x ∷ xs) (suc i) e low = got_or xs i e (omega (arith, low))

entry_is : (s : Option Kept) (array block index : ℕ) (entries : List Entry) → held_block s array block ≡ Some entries → entry_held s index ≡ slice_get entries index
entry_is None array block index entries held = absurd (cc)
entry_is (Some kept) array block index entries held = held_has (Some kept) array block entries (λ es. slice_get kept.1 index ≡ slice_get es index) held refl

-- what a source has at hand is the first that it has left
head_first : (f : Image) (c : Blocks) (pool : List PoolEntry) (s : Source) (d : SourcePosition) → HasHead s d → StandsIn f c s d.scratch → first_at_source pool s d ≡ slice_get (left_at_source f pool s d) 0
head_first f c pool source.None d has stands = refl
head_first f c pool (source.Zero list) d has stands = sym (drop_first (entries_held pool list.now) d.item)
head_first f c pool (source.Array a) d has stands =
    elim (d.there) as (λ b. d.there ≡ b → cond b (entry_held d.scratch d.place.index) None ≡ slice_get (cond b (left_from (lists_of f a.now) d.place) []) 0) [
      | false ↦ λ t. refl
      | true ↦ λ t.
          let holds = (has t).0 in
          let here = held_is (Some f) a.now.id (blocks_of a.now.extents) c (lists_of f a.now) d.place.block holds.entries d.scratch stands holds.held in
          let e : Entry = record { key = []; version = 0; value = None } in
          entry_is d.scratch a.now.id d.place.block d.place.index holds.entries holds.held ∙ got_or holds.entries d.place.index e holds.within
          ∙ sym (ap (λ (l : List Entry). slice_get l 0) (left_here (lists_of f a.now) d.place.block d.place.index holds.entries e here holds.within))
    ] refl

-- the leader's key is least, and before it in number all keys are greater
module _ (pool : List PoolEntry) (sources : List Source) (positions : List SourcePosition) (w : ℕ) (e : Entry) (leads : LeadsAll pool sources positions w) (here : head_in pool sources positions w ≡ Some e) where
  lead_at : (i : ℕ) (h : Entry) → head_in pool sources positions i ≡ Some h → is_ahead (Some (keyed h)) i (Some (keyed e)) w ≡ false
  lead_at i h at = (λ j. is_ahead (option_map keyed (sym at j)) i (option_map keyed (sym here j)) w) ∙ leads i

  pub lead_le : (i : ℕ) (h : Entry) → head_in pool sources positions i ≡ Some h → is_gt (key_cmp e.key h.key) ≡ false
  lead_le i h at = key_le (keyed e) (keyed h) (behind_le (keyed h) i (keyed e) w (lead_at i h at))

  pub lead_lt : (i : ℕ) (h : Entry) → i < w → head_in pool sources positions i ≡ Some h → is_lt (key_cmp e.key h.key) ≡ true
  lead_lt i h low at = go (key_cmp e.key h.key) (behind_lt (keyed h) i (keyed e) w low (lead_at i h at))
    where
      go : (o : Ordering) → is_lt (ordering_then o (nat_cmp 0 0)) ≡ true → is_lt o ≡ true
      go Less lt = refl
      go Equal lt = absurd (true≢false (sym lt))
      go Greater lt = absurd (true≢false (sym lt))

module _ (f : Image) (c : Blocks) (pool : List PoolEntry) (parents : Parents) (tree : IsTree parents) (v : ℕ) (lo last : List ℕ) (sources : List Source) (positions : List SourcePosition) (settled : AreSettled parents v pool sources positions) (up : AreUpTo f c pool parents v lo last sources positions) where
  -- a source and its position
  position_for : (i : ℕ) (s : Source) → slice_get sources i ≡ Some s → (d : SourcePosition) × (slice_get positions i ≡ Some d)
  position_for i s at = get_within positions i (omega (arith, settled.same, got_low sources i s at))

  -- what a source says of a key to come is what it has left
  says : (i : ℕ) (s : Source) (d : SourcePosition) (key : List ℕ) → slice_get sources i ≡ Some s → slice_get positions i ≡ Some d → is_to_come lo last key ≡ true → live_of parents (content_of f pool s) v key ≡ find (is_seen_at parents key v) (left_at_source f pool s d)
  says i s d key at there come = sym (first_is_live parents tree (content_of f pool s) (up.ordered i s at) key v) ∙ sym ((up.each i s d at there).0.same key come)

  first_of : (i : ℕ) (s : Source) (d : SourcePosition) → slice_get sources i ≡ Some s → slice_get positions i ≡ Some d → head_in pool sources positions i ≡ slice_get (left_at_source f pool s d) 0
  first_of i s d at there = head_here pool sources positions i s d at there ∙ head_first f c pool s d (settled.each i s d at there).1.held (up.each i s d at there).1

  -- a source whose first key is above a key says nothing of it
  silent : (i : ℕ) (s : Source) (key : List ℕ) → slice_get sources i ≡ Some s → is_to_come lo last key ≡ true → ((h : Entry) → head_in pool sources positions i ≡ Some h → is_lt (key_cmp key h.key) ≡ true) → live_of parents (content_of f pool s) v key ≡ None
  silent i s key at come above =
      let position = position_for i s at in
      let first = first_of i s position.0 at position.1 in
      says i s position.0 key at position.1 come
      ∙ elim (option_cases (head_in pool sources positions i)) [
        | inl none ↦ none_empty parents v key (left_at_source f pool s position.0) (sym first ∙ none)
        | inr some ↦ none_above parents v key (left_at_source f pool s position.0) some.0 (up.each i s position.0 at position.1).0.ordered (sym first ∙ some.1) (above some.0 some.1)
      ]

  got_mapped : (i : ℕ) (es : List Entry) → slice_get (map (content_of f pool) sources) i ≡ Some es → (s : Source) × (slice_get sources i ≡ Some s) × (es ≡ content_of f pool s)
  got_mapped i es at = go sources i at
    where
      go : (ss : List Source) (n : ℕ) → slice_get (map (content_of f pool) ss) n ≡ Some es → (s : Source) × (slice_get ss n ≡ Some s) × (es ≡ content_of f pool s)
      go [] n there = absurd (cc)
      go (s ∷ ss) zero there = let same : content_of f pool s ≡ es = cc in (s, refl, sym same)
      go (s ∷ ss) (suc n) there = go ss n there

  map_got : (i : ℕ) (s : Source) → slice_get sources i ≡ Some s → slice_get (map (content_of f pool) sources) i ≡ Some (content_of f pool s)
  map_got i s at = go sources i at
    where
      go : (ss : List Source) (n : ℕ) → slice_get ss n ≡ Some s → slice_get (map (content_of f pool) ss) n ≡ Some (content_of f pool s)
      go [] n there = absurd (cc)
      go (t ∷ ss) zero there = let same : t ≡ s = cc in ap (λ (x : Source). Some (content_of f pool x)) same
      go (t ∷ ss) (suc n) there = go ss n there

  -- nothing is found of a key that all first keys are above
  pub none_seen : (key : List ℕ) → is_to_come lo last key ≡ true → ((i : ℕ) (h : Entry) → head_in pool sources positions i ≡ Some h → is_lt (key_cmp key h.key) ≡ true) → first_live parents (map (content_of f pool) sources) v key ≡ None
  none_seen key come above = first_none parents v key (map (content_of f pool) sources) (λ i es at.
      let s = got_mapped i es at in
      ap (λ (l : List Entry). live_of parents l v key) s.2 ∙ silent i s.0 key s.1 come (above i))

  module _ (w : ℕ) (e : Entry) (leads : LeadsAll pool sources positions w) (here : head_in pool sources positions w ≡ Some e) where
    path_of : (o : Option Entry) → o ≡ Some e → IfSome o (λ d. IsTrue (is_ancestor parents d.version v)) → is_ancestor parents e.version v ≡ true
    path_of None is path = absurd (cc)
    path_of (Some d) is path = let same : d ≡ e = cc in subst (λ (x : Entry). is_ancestor parents x.version v ≡ true) same path

    -- nothing of a key below the leader's
    pub below_seen : (key : List ℕ) → is_to_come lo last key ≡ true → is_lt (key_cmp key e.key) ≡ true → first_live parents (map (content_of f pool) sources) v key ≡ None
    below_seen key come below = none_seen key come (λ i h at. lt_then_le nat_list_cmp_total key e.key h.key below (lead_le pool sources positions w e leads here i h at))

    -- and of its key the leader's entry
    pub lead_seen : (s : Source) → slice_get sources w ≡ Some s → is_to_come lo last e.key ≡ true → first_live parents (map (content_of f pool) sources) v e.key ≡ Some e
    lead_seen s at come =
        let position = position_for w s at in
        let first = sym (first_of w s position.0 at position.1) ∙ here in
        let path : is_ancestor parents e.version v ≡ true = path_of (first_at_source pool s position.0) (sym (head_here pool sources positions w s position.0 at position.1) ∙ here) (settled.each w s position.0 at position.1).1.on_path in
        first_at parents v e.key (map (content_of f pool) sources) w (content_of f pool s) e (map_got w s at)
        (says w s position.0 e.key at position.1 come ∙ found_first parents v (left_at_source f pool s position.0) e first path)
        (λ i es low there.
        let t = got_mapped i es there in
        ap (λ (l : List Entry). live_of parents l v e.key) t.2 ∙ silent i t.0 e.key t.1 come (λ h hat. lead_lt pool sources positions w e leads here i h low hat))

    -- its key is from lo on
    pub lead_from : (s : Source) → slice_get sources w ≡ Some s → is_from lo e ≡ true
    lead_from s at =
        let position = position_for w s at in
        let first = sym (first_of w s position.0 at position.1) ∙ here in
        all_at (is_from lo) e (left_at_source f pool s position.0) (up.each w s position.0 at position.1).0.from (get_among (left_at_source f pool s position.0) 0 e first)
