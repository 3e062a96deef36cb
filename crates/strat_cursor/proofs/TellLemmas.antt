-- A scan so far: what was told, and what is to come, are the range.
use Rattle.std.proofs.Common.{◌+◌, ◌≡◌, ◌<◌, ◌≤◌, ◌^◌, ◌&&◌, map, length-append, ℕ, Bool, true, false, not, inl, inr, List, [], ◌∷◌, ◌++◌, length, take, Option, Some, None, IsSome, is_some, refl, sym, ap, ◌∙◌, subst, arith, true≢false, ltb}
use Rattle.std.specs.List.{slice_get}
use Rattle.std.specs.Option.{option_and_then}
use Rattle.std.specs.Ordering.{is_lt}
use Rattle.std.proofs.lemmas.Bool.{and_parts, and_from, lt-ltb, le-ltb}
use Rattle.std.proofs.lemmas.Cmp.{nat_list_cmp_total, tied_itself}
use Rattle.std.proofs.lemmas.List.{append_assoc, append-nil, take_all}
use Rattle.std.proofs.Math.Seq.{take-append_seam}
use Rattle.strat_array.specs.Kept.{Blocks}
use Rattle.strat_base.specs.Entries.{Entry}
use Rattle.strat_base.specs.EntryBytes.{fits_fields, is_markable}
use Rattle.strat_base.specs.Sizes.{is_key}
use Rattle.strat_base.specs.Order.{key_cmp}
use Rattle.strat_base.specs.Tree.{IsTree}
use Rattle.def_crash.specs.Image.{Image}
use Rattle.def_crash.specs.Moments.{DiskView}
use Rattle.strat_model.specs.Pairs.{Pair, Pairs, value_of, is_between, range}
use Rattle.strat_cursor.specs.Ahead.{is_after, range_after}
use Rattle.strat_cursor.specs.Contenders.{head_in}
use Rattle.strat_cursor.proofs.TournamentLemmas.{LeadsAll, NoneAhead}
use Rattle.strat_cursor.specs.Looking.{LooksThrough, HaveOwnIds}
use Rattle.strat_cursor.specs.Picking.{AreSourcesOf}
use Rattle.strat_cursor.specs.Ranges.{FillsPage, IsMapSeen, IsPageOf}
use Rattle.def_state.specs.LookUp.{first_live}
use Rattle.strat_cursor.specs.Sources.{content_of, IsSpent}
use Rattle.strat_cursor.proofs.ThroughLemmas.{through_trans}
use Rattle.strat_cursor.specs.Emitting.{is_under, AddsValue, HandlesKey, AreSettled, AreUpTo, IsLater}
use Rattle.strat_cursor.specs.Views.{zeros_in, arrays_read}
use Rattle.strat_cursor.specs.declared.scan_buffers.SourcePosition.{SourcePosition}
use Rattle.strat_cursor.specs.declared.sources.Source.{Source}
use Rattle.strat_cursor.specs.declared.view.View.{View}
use Rattle.strat_cursor.proofs.PickLemmas.{get_within}
use Rattle.strat_cursor.proofs.RangeLemmas.{range_all, range_come, range_done, past_hi, later_after, range_passed, range_told}
use Rattle.strat_cursor.proofs.SeenLemmas.{none_seen, below_seen, lead_seen, lead_from}

value_some : (o : Option (List ℕ)) → is_some o ≡ true → (x : List ℕ) × (o ≡ Some x)
value_some None some = absurd (true≢false (sym some))
value_some (Some x) some = (x, refl)

key_some : (e : Entry) → fits_fields e ≡ true → 0 < length e.key
key_some e fits =
    let parts = and_parts (is_key e.key && ltb e.version (2 ^ 32)) (is_markable e.value) fits in
    go e.key (and_parts (is_key e.key) (ltb e.version (2 ^ 32)) parts.0).0
  where
    go : (k : List ℕ) → is_key k ≡ true → 0 < length k
    go [] is = absurd (true≢false (sym is))
    go (b ∷ k) is = omega arith

pub handled_later : (e : Entry) (hi : List ℕ) (limit : ℕ) (last next : List ℕ) (out new : Pairs) → fits_fields e ≡ true → HandlesKey e hi limit last next out new None → IsLater last next
handled_later e hi limit last next out new fits handles = elim handles [
  | inl before ↦ λ key is. ap (λ (k : List ℕ). is_after k key) (sym before.1) ∙ is
  | inr told ↦ λ key is. later_after hi hi last e.key (key_some e fits) told.0 key (ap (λ (k : List ℕ). is_after k key) (sym told.2) ∙ is)
]

-- no key is after itself
after_itself : (key : List ℕ) → 0 < length key → is_after key key ≡ false
after_itself [] some = absurd (omega (arith, some))
after_itself (b ∷ key) some = ap is_lt (tied_itself nat_list_cmp_total (b ∷ key))

-- an entry that was handled is of no key to come
pub handled_spent : (e : Entry) (hi : List ℕ) (limit : ℕ) (last next : List ℕ) (out new : Pairs) (o : Option Entry) → o ≡ Some e → fits_fields e ≡ true → HandlesKey e hi limit last next out new None → IsSpent next o
handled_spent e hi limit last next out new o here fits handles =
    subst (λ (x : Option Entry). IsSpent next x) (sym here)
    (elim handles [
      | inl before ↦ ap (λ (l : List ℕ). is_after l e.key) before.1 ∙ before.0
      | inr told ↦ ap (λ (l : List ℕ). is_after l e.key) told.2 ∙ after_itself e.key (key_some e fits)
    ])

-- a page whose end was met
pub handled_fills : (e : Entry) (hi : List ℕ) (limit : ℕ) (last next : List ℕ) (old new : Pairs) (more : Bool) → length old ≤ limit → HandlesKey e hi limit last next old new (Some more)
    → FillsPage limit (length new) more
handled_fills e hi limit last next old new true few handles = let same = ap length handles.4 in (omega (arith, same, few), λ on. omega (arith, same, few, handles.3))
handled_fills e hi limit last next old new false few handles = let same = ap length handles.2 in (omega (arith, same, few), λ on. absurd (true≢false (sym on)))

-- where others follow the key is not handled yet
pub told_same : (e : Entry) (hi : List ℕ) (limit : ℕ) (last next : List ℕ) (old new : Pairs) (more : Bool) → more ≡ true → HandlesKey e hi limit last next old new (Some more) → (next ≡ last) × (new ≡ old)
told_same e hi limit last next old new true is handles = (handles.5, handles.4)
told_same e hi limit last next old new false is handles = absurd (true≢false (sym is))

-- a key handled adds one pair at most
pub handled_grows : (e : Entry) (hi : List ℕ) (limit : ℕ) (last next : List ℕ) (out new : Pairs) → HandlesKey e hi limit last next out new None → length new ≤ length out + 1
handled_grows e hi limit last next out new handles = elim handles [
  | inl before ↦ omega (arith, ap (λ (ps : Pairs). length ps) before.2)
  | inr told ↦ adds e.value told.3
]
  where
    adds : (o : Option (List ℕ)) → AddsValue e.key o limit out new → length new ≤ length out + 1
    adds None is = omega (arith, ap (λ (ps : Pairs). length ps) is)
    adds (Some x) is = omega (arith, ap (λ (ps : Pairs). length ps) is.1, length-append {A = Pair} out ((e.key, x) ∷ []))

-- a scan that ends tells no pair more
pub handled_none : (e : Entry) (hi : List ℕ) (limit : ℕ) (last next : List ℕ) (old new : Pairs) (more : Bool) → HandlesKey e hi limit last next old new (Some more) → new ≡ old
handled_none e hi limit last next old new true handles = handles.4
handled_none e hi limit last next old new false handles = handles.2

-- no more than the limit is told
pub handled_len : (e : Entry) (hi : List ℕ) (limit : ℕ) (last next : List ℕ) (out new : Pairs) → length out ≤ limit → HandlesKey e hi limit last next out new None → length new ≤ limit
handled_len e hi limit last next out new few handles = elim handles [
  | inl before ↦ omega (arith, few, ap (λ (ps : Pairs). length ps) before.2)
  | inr told ↦ adds e.value told.3
]
  where
    adds : (o : Option (List ℕ)) → AddsValue e.key o limit out new → length new ≤ limit
    adds None is = omega (arith, few, ap (λ (ps : Pairs). length ps) is)
    adds (Some x) is = omega (arith, is.0, ap (λ (ps : Pairs). length ps) is.1, length-append {A = Pair} out ((e.key, x) ∷ []))

-- what a scan has told since it began, in each image that it may be read in
pub record Telling (old now : DiskView) (view : View) (v : ℕ) (hi : List ℕ) (sources : List Source) (c d : Blocks) (first last : List ℕ) (from positions : List SourcePosition) (before out : Pairs) : Type 0 where
  pub looks : LooksThrough old now (arrays_read view v) c d
  pub up : (f : Image) (lo : List ℕ) (m : Pairs) → old.content ≡ Some f → HaveOwnIds (arrays_read view v) → AreUpTo f c view.pool.now view.tree.now.parents v lo first sources from
      → IsMapSeen f view.tree.now.parents (zeros_in view) (arrays_read view v) v m
      → AreUpTo f d view.pool.now view.tree.now.parents v lo last sources positions × (before ++ range_after m lo hi first ≡ out ++ range_after m lo hi last)

page_done : (pairs out rest : Pairs) (limit : ℕ) → pairs ≡ out ++ rest → rest ≡ [] → length out ≤ limit → IsPageOf pairs limit out false
page_done pairs out rest limit is none few =
    let whole : pairs ≡ out = is ∙ ap (λ (r : Pairs). out ++ r) none ∙ append-nil out in
    subst (λ (ps : Pairs). IsPageOf ps limit out false) (sym whole) (record { pairs_are = sym (take_all limit out few); more_is = sym (le-ltb limit (length out) few) })

page_more : (pairs out rest : Pairs) (p : Pair) (limit : ℕ) → pairs ≡ out ++ p ∷ rest → length out ≤ limit → limit ≤ length out → IsPageOf pairs limit out true
page_more pairs out rest p limit is few full =
    let exact : length out ≡ limit = omega (arith, few, full) in
    subst (λ (ps : Pairs). IsPageOf ps limit out true) (sym is)
    (record {
      pairs_are = sym (take-append_seam out (p ∷ rest)) ∙ ap (λ (n : ℕ). take n (out ++ p ∷ rest)) exact;
      more_is = sym (lt-ltb limit (length (out ++ p ∷ rest)) (omega (arith, exact, length-append {A = Pair} out (p ∷ rest))));
    })

module _ (old now : DiskView) (view : View) (tree : IsTree view.tree.now.parents) (v : ℕ) (hi : List ℕ) (sources : List Source) (c d : Blocks) (first last : List ℕ) (from positions : List SourcePosition) (before out : Pairs) (are : AreSourcesOf view v sources)
    (telling : Telling old now view v hi sources c d first last from positions before out) (settled : AreSettled view.tree.now.parents v view.pool.now sources positions) where
  value_is : (f : Image) (m : Pairs) → IsMapSeen f view.tree.now.parents (zeros_in view) (arrays_read view v) v m → (key : List ℕ) (o : Option Entry) → first_live view.tree.now.parents (map (content_of f view.pool.now) sources) v key ≡ o
      → value_of m key ≡ option_and_then (λ e. e.value) o
  value_is f m seen key o is = seen.each key ∙ ap (λ (x : Option Entry). option_and_then (λ e. e.value) x) (sym (are.seen f key) ∙ is)

  -- no source has an entry left: all was told
  pub none_left : (limit : ℕ) → NoneAhead view.pool.now sources positions → length out ≤ limit → (f : Image) (lo : List ℕ) (m : Pairs) → old.content ≡ Some f → HaveOwnIds (arrays_read view v)
      → AreUpTo f c view.pool.now view.tree.now.parents v lo first sources from → IsMapSeen f view.tree.now.parents (zeros_in view) (arrays_read view v) v m → IsPageOf (before ++ range_after m lo hi first) limit out false
  none_left limit none few f lo m exposed own up seen =
      let both = telling.up f lo m exposed own up seen in
      page_done (before ++ range_after m lo hi first) out (range_after m lo hi last) limit both.1
      (range_done lo hi last m (λ key is. value_is f m seen key None (none_seen f d view.pool.now view.tree.now.parents tree v lo last sources positions settled both.0 key (range_come lo hi last key is) (λ i h at. let two : Some h ≡ None = sym at ∙ none i in absurd (cc)))))
      few

  module _ (w : ℕ) (low : w < length sources) (e : Entry) (fits : fits_fields e ≡ true) (leads : LeadsAll view.pool.now sources positions w) (here : head_in view.pool.now sources positions w ≡ Some e) where
    -- the least key is not below hi: all was told
    pub past_left : (limit : ℕ) → is_under hi e.key ≡ false → length out ≤ limit → (f : Image) (lo : List ℕ) (m : Pairs) → old.content ≡ Some f → HaveOwnIds (arrays_read view v)
        → AreUpTo f c view.pool.now view.tree.now.parents v lo first sources from → IsMapSeen f view.tree.now.parents (zeros_in view) (arrays_read view v) v m → IsPageOf (before ++ range_after m lo hi first) limit out false
    past_left limit past few f lo m exposed own up seen =
        let both = telling.up f lo m exposed own up seen in
        page_done (before ++ range_after m lo hi first) out (range_after m lo hi last) limit both.1
        (range_done lo hi last m (λ key is. value_is f m seen key None (below_seen f d view.pool.now view.tree.now.parents tree v lo last sources positions settled both.0 w e leads here key (range_come lo hi last key is) (past_hi lo hi last e.key key past is))))
        few

    module _ (f : Image) (lo : List ℕ) (m : Pairs) (up : AreUpTo f d view.pool.now view.tree.now.parents v lo last sources positions) (seen : IsMapSeen f view.tree.now.parents (zeros_in view) (arrays_read view v) v m) (after : is_after last e.key ≡ true) (under : is_under hi e.key ≡ true) where
      lead_source : (s : Source) × (slice_get sources w ≡ Some s)
      lead_source = get_within sources w low

      from_lo : not (is_lt (key_cmp e.key lo)) ≡ true
      from_lo = lead_from f d view.pool.now view.tree.now.parents tree v lo last sources positions settled up w e leads here lead_source.0 lead_source.1

      below_none : (key : List ℕ) → (is_between lo hi key && is_after last key) ≡ true → is_lt (key_cmp key e.key) ≡ true → value_of m key ≡ None
      below_none key is below = value_is f m seen key None (below_seen f d view.pool.now view.tree.now.parents tree v lo last sources positions settled up w e leads here key (range_come lo hi last key is) below)

      value_here : value_of m e.key ≡ e.value
      value_here =
          value_is f m seen e.key (Some e) (lead_seen f d view.pool.now view.tree.now.parents tree v lo last sources positions settled up w e leads here lead_source.0 lead_source.1
          (and_from (not (is_lt (key_cmp e.key lo))) (is_after last e.key) from_lo after))

      -- a value is the first that is to come
      pub told_first : (x : List ℕ) → e.value ≡ Some x → range_after m lo hi last ≡ (e.key, x) ∷ range_after m lo hi e.key
      told_first x is = range_told lo hi last e.key (key_some e fits) after m below_none x seen.ordered from_lo under (value_here ∙ is)

      -- one that is gone is not among them
      pub gone_first : e.value ≡ None → range_after m lo hi last ≡ range_after m lo hi e.key
      gone_first is = range_passed lo hi last e.key (key_some e fits) after m below_none (value_here ∙ is)

      adds_first : (o : Option (List ℕ)) (limit : ℕ) (new : Pairs) → e.value ≡ o → AddsValue e.key o limit out new → out ++ range_after m lo hi last ≡ new ++ range_after m lo hi e.key
      adds_first None limit new is adds = ap (λ (r : Pairs). out ++ r) (gone_first is) ∙ ap (λ (ps : Pairs). ps ++ range_after m lo hi e.key) (sym adds)
      adds_first (Some x) limit new is adds =
          ap (λ (r : Pairs). out ++ r) (told_first x is) ∙ sym (append_assoc out ((e.key, x) ∷ []) (range_after m lo hi e.key))
          ∙ ap (λ (ps : Pairs). ps ++ range_after m lo hi e.key) (sym adds.1)

    -- a key with a value, where no more may be told
    pub more_left : (limit : ℕ) → is_after last e.key ≡ true → is_under hi e.key ≡ true → is_some e.value ≡ true → length out ≤ limit → limit ≤ length out → (f : Image) (lo : List ℕ) (m : Pairs) → old.content ≡ Some f → HaveOwnIds (arrays_read view v)
        → AreUpTo f c view.pool.now view.tree.now.parents v lo first sources from → IsMapSeen f view.tree.now.parents (zeros_in view) (arrays_read view v) v m → IsPageOf (before ++ range_after m lo hi first) limit out true
    more_left limit after under some few full f lo m exposed own up seen =
        let both = telling.up f lo m exposed own up seen in
        let x = value_some e.value some in
        page_more (before ++ range_after m lo hi first) out (range_after m lo hi e.key) (e.key, x.0) limit (both.1 ∙ ap (λ (r : Pairs). out ++ r) (told_first f lo m both.0 seen after under x.0 x.1)) few full

    -- the least key was handled, and its source went on
    pub tells_on : (new : DiskView) (limit : ℕ) (g : Blocks) (next : List ℕ) (after : List SourcePosition) (told : Pairs) → HandlesKey e hi limit last next out told None → LooksThrough now new (arrays_read view v) d g
        → ((f : Image) (lo prev : List ℕ) → now.content ≡ Some f → HaveOwnIds (arrays_read view v) → IsLater prev next → AreUpTo f d view.pool.now view.tree.now.parents v lo prev sources positions → AreUpTo f g view.pool.now view.tree.now.parents v lo next sources after)
        → Telling old new view v hi sources c g first next from after before told
    tells_on new limit g next after told handles looks goes = record {
      looks = through_trans old now new (arrays_read view v) c d g telling.looks looks;
      up = λ f lo m exposed own up seen.
          let both = telling.up f lo m exposed own up seen in (
            goes f lo last (telling.looks.disk.same ∙ exposed) own (handled_later e hi limit last next out told fits handles) both.0,
            both.1 ∙ elim handles [
              | inl passed ↦ (λ j. sym passed.2 j ++ range_after m lo hi (sym passed.1 j))
              | inr done ↦ adds_first f lo m both.0 seen done.0 done.1 e.value limit told refl done.3 ∙ ap (λ (k : List ℕ). told ++ range_after m lo hi k) (sym done.2)
            ],
          );
    }

pub entry_some : (o : Option Entry) → IsSome o → (e : Entry) × (o ≡ Some e)
entry_some None some = absurd (true≢false (sym some))
entry_some (Some e) some = (e, refl)

-- a scan that ended
pub ended : (old now : DiskView) (view : View) (tree : IsTree view.tree.now.parents) (v : ℕ) (hi : List ℕ) (sources : List Source) (c d : Blocks) (first last : List ℕ) (from positions : List SourcePosition) (before out : Pairs) (are : AreSourcesOf view v sources)
    (telling : Telling old now view v hi sources c d first last from positions before out) (settled : AreSettled view.tree.now.parents v view.pool.now sources positions)
    (w : ℕ) (low : w < length sources) (e : Entry) (fits : fits_fields e ≡ true) (leads : LeadsAll view.pool.now sources positions w) (here : head_in view.pool.now sources positions w ≡ Some e) (limit : ℕ) (next : List ℕ) (told : Pairs) (more : Bool)
    → length out ≤ limit → HandlesKey e hi limit last next out told (Some more) → (f : Image) (lo : List ℕ) (m : Pairs) → old.content ≡ Some f → HaveOwnIds (arrays_read view v)
    → AreUpTo f c view.pool.now view.tree.now.parents v lo first sources from → IsMapSeen f view.tree.now.parents (zeros_in view) (arrays_read view v) v m → IsPageOf (before ++ range_after m lo hi first) limit told more
ended old now view tree v hi sources c d first last from positions before out are telling settled w low e fits leads here limit next told true few handles f lo m exposed own up seen =
    subst (λ (ps : Pairs). IsPageOf (before ++ range_after m lo hi first) limit ps true) (sym handles.4)
    (more_left old now view tree v hi sources c d first last from positions before out are telling settled w low e fits leads here limit handles.0 handles.1 handles.2 few handles.3 f lo m exposed own up seen)
ended old now view tree v hi sources c d first last from positions before out are telling settled w low e fits leads here limit next told false few handles f lo m exposed own up seen =
    subst (λ (ps : Pairs). IsPageOf (before ++ range_after m lo hi first) limit ps false) (sym handles.2)
    (past_left old now view tree v hi sources c d first last from positions before out are telling settled w low e fits leads here limit handles.1 few f lo m exposed own up seen)

-- a scan from the start
pub page_range : (m : Pairs) (lo hi last : List ℕ) (before : Pairs) (limit : ℕ) (told : Pairs) (more : Bool) → last ≡ [] → before ≡ [] → IsPageOf (before ++ range_after m lo hi last) limit told more → IsPageOf (range m lo hi) limit told more
page_range m lo hi last before limit told more none empty page =
    subst (λ (ps : Pairs). IsPageOf ps limit told more) ((λ j. empty j ++ range_after m lo hi (none j)) ∙ range_all m lo hi) page
