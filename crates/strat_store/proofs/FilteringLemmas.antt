-- Filters are of the keys of the arrays that a store stands on: a get that asks them finds what one does that asks none.
use Rattle.std.proofs.Common.{◌≡◌, ◌≤◌, ◌<◌, ◌+◌, ℕ, zero, suc, Bool, true, false, get_or, inl, inr, List, [], ◌∷◌, length, map, Contains, Option, Some, None, refl, sym, ap, ◌∙◌, subst, arith, true≢false, eq-eqb}
use Rattle.std.proofs.lemmas.Bool.{cases_lt, eqb-true, not-true}
use Rattle.std.specs.Prelude.{if◌then◌else◌, is_some}
use Rattle.std.specs.List.{list_any, find, filter_map, cons_option}
use Rattle.std.specs.Option.{option_and_then, option_map, option_or, unwrap_or}
use Rattle.strat_base.proofs.EntryLemmas.{bytes_same}
use Rattle.strat_base.proofs.ListFacts.{Among, any_among, any_from, find_some}
use Rattle.strat_base.specs.Entries.{Entry, is_of}
use Rattle.strat_base.specs.Tree.{Parents, below}
use Rattle.strat_base.specs.declared.descriptors.ArrayDesc.{ArrayDesc}
use Rattle.strat_base.specs.declared.descriptors.LevelDesc.{LevelDesc}
use Rattle.strat_filter.proofs.BitLemmas.{none_is_lost}
use Rattle.strat_filter.specs.Bits.{may_hold}
use Rattle.strat_filter.specs.Keys.{IsFilterOf}
use Rattle.def_crash.specs.Image.{Image}
use Rattle.def_crash.specs.Moments.{DiskView}
use Rattle.def_bytes.specs.Arrays.{all_some, blocks_of, entries_on}
use Rattle.def_recovery.proofs.OpeningLemmas.{each_some, map_some}
use Rattle.def_recovery.proofs.HeadLemmas.{state_with}
use Rattle.def_recovery.specs.Asked.{asked, on_disk}
use Rattle.def_recovery.specs.Head.{Head}
use Rattle.def_recovery.specs.Opened.{array_on, level_on}
use Rattle.def_recovery.specs.Opening.{state_of}
use Rattle.def_publish.proofs.ListLemmas.{among_contained, contained_among}
use Rattle.def_publish.specs.Contents.{Contents}
use Rattle.def_state.proofs.LookUpLemmas.{none_live, place_in}
use Rattle.def_state.specs.Level.{TaggedArray, Level}
use Rattle.def_state.specs.LookUp.{first_live, looked_up}
use Rattle.def_state.specs.Reading.{live_of}
use Rattle.def_state.specs.State.{State}
use Rattle.strat_cursor.specs.Looking.{levels_there}
use Rattle.strat_level.specs.Levels.{is_for, level_numbered}
use Rattle.strat_memory.specs.Filters.{AreFiltersOf, LevelFilters, filter_at, is_refused, filter_refuses}
use Rattle.strat_memory.specs.Held.{Held, IsConsistent, StandsWith, contents_held}
use Rattle.strat_store.proofs.LookLemmas.{find_numbered, next_level}
use Rattle.strat_store.specs.Filtering.{KeepsFilter, KeepsFilterAt, asked_filtered, has_id, on_disk_filtered, shown_unless_refused}

-- what an image makes of an item of a list is in the list that it makes
made_of : {A B : Type 0} (h : A → Option B) (xs : List A) (ys : List B) (x : A) → all_some h xs ≡ Some ys → Among x xs → (y : B) × (h x ≡ Some y) × Among y ys
made_of h [] ys x all there = absurd there
made_of h (z ∷ xs) ys x all (inl here) =
    let parts = each_some h z xs ys all in
    (parts.0, ap h here ∙ parts.2, subst (λ (l : List _). Among parts.0 l) parts.4 (inl refl))
made_of h (z ∷ xs) ys x all (inr there) =
    let parts = each_some h z xs ys all in
    let rest = made_of h xs parts.1 x parts.3 there in
    (rest.0, rest.1, subst (λ (l : List _). Among rest.0 l) parts.4 (inr rest.2))

-- the key of an entry is among the keys
key_among : (key : List ℕ) (e : Entry) (entries : List Entry) → Among e entries → is_of key e ≡ true → Among key (map (λ (x : Entry). x.key) entries)
key_among key e [] there is = absurd there
key_among key e (x ∷ entries) (inl here) is = inl (sym (bytes_same e.key key is) ∙ ap (λ (y : Entry). y.key) here)
key_among key e (x ∷ entries) (inr there) is = inr (key_among key e entries there is)

-- a filter of entries refuses no key of them
pub none_of : (bits : List Bool) (entries : List Entry) (key : List ℕ) → IsFilterOf bits entries → may_hold bits key ≡ false → list_any (is_of key) entries ≡ false
none_of bits entries key is refused = by (list_any (is_of key) entries) refl
  where
    by : (b : Bool) → list_any (is_of key) entries ≡ b → b ≡ false
    by false e = refl
    by true e =
        let at = any_among (is_of key) entries e in
        let held = none_is_lost is.size (map (λ (x : Entry). x.key) entries) key is.some (key_among key at.0 entries at.1 at.2) in
        absurd (true≢false (sym held ∙ sym (ap (λ (bs : List Bool). may_hold bs key) is.made) ∙ refused))

-- a filter that refuses is there
pub refused_bits : (o : Option (List Bool)) (key : List ℕ) → is_refused o key ≡ true → (bits : List Bool) × (o ≡ Some bits) × (may_hold bits key ≡ false)
refused_bits None key is = absurd (true≢false (sym is))
refused_bits (Some bits) key is = (bits, refl, not-true (may_hold bits key) is)

module _ (c : Image) (filters : List LevelFilters) (parents : Parents) (v : ℕ) (key : List ℕ) where
  -- what a descriptor's blocks show
  abbrev on : ArrayDesc → List Entry
  on a = unwrap_or (entries_on c (blocks_of a.extents)) []

  -- in an array that refuses a key nothing of it is live
  abbrev pub AreSilent : List LevelDesc → Type 0
  AreSilent ds = (d : LevelDesc) (a : ArrayDesc) → Among d ds → Among a d.arrays → filter_refuses filters d.number a.id key ≡ true → live_of parents (on a) v key ≡ None

  one : (n : ℕ) (a : ArrayDesc) → (filter_refuses filters n a.id key ≡ true → live_of parents (on a) v key ≡ None) → live_of parents (shown_unless_refused c filters n a key) v key ≡ live_of parents (on a) v key
  one n a silent = by (filter_refuses filters n a.id key) refl
    where
      by : (b : Bool) → filter_refuses filters n a.id key ≡ b → live_of parents (if b then [] else on a) v key ≡ live_of parents (on a) v key
      by true e = sym (silent e)
      by false e = refl

  levels_agree : (ds : List LevelDesc) → AreSilent ds → first_live parents (filter_map (place_in (on_disk_filtered c filters) parents v key) ds) v key ≡ first_live parents (filter_map (place_in (on_disk c) parents v key) ds) v key
  levels_agree [] silent = refl
  levels_agree (d ∷ ds) silent =
      ap (λ (o : Option (ℕ × ArrayDesc)). first_live parents (cons_option (option_map (λ (one : ℕ × ArrayDesc). shown_unless_refused c filters one.0 one.1 key) o) passed) v key) (find_numbered d.number (is_for (below parents v d.horizon)) d.arrays)
      ∙ by (find (is_for (below parents v d.horizon)) d.arrays)
      (λ a found. one d.number a (silent d a (inl refl) (find_some (is_for (below parents v d.horizon)) d.arrays a found).0))
      (levels_agree ds (λ e a of among. silent e a (inr of) among))
    where
      passed : List (List Entry)
      passed = filter_map (place_in (on_disk_filtered c filters) parents v key) ds

      later : List (List Entry)
      later = filter_map (place_in (on_disk c) parents v key) ds

      by : (o : Option ArrayDesc) → ((a : ArrayDesc) → o ≡ Some a → live_of parents (shown_unless_refused c filters d.number a key) v key ≡ live_of parents (on a) v key) → first_live parents passed v key ≡ first_live parents later v key
          → first_live parents (cons_option (option_map (λ (one : ℕ × ArrayDesc). shown_unless_refused c filters one.0 one.1 key) (option_map (λ a. (d.number, a)) o)) passed) v key
          ≡ first_live parents (cons_option (option_map on o) later) v key
      by None each rest = rest
      by (Some a) each rest = λ i. option_or (each a refl i) (rest i)

  pub filtered_agrees : (zeros : List (List Entry)) (ds : List LevelDesc) → AreSilent ds → looked_up (on_disk_filtered c filters) parents zeros ds v key ≡ looked_up (on_disk c) parents zeros ds v key
  filtered_agrees [] ds silent = levels_agree ds silent
  filtered_agrees (entries ∷ zeros) ds silent = ap (option_or (live_of parents entries v key)) (filtered_agrees zeros ds silent)

  -- filters of the keys of the arrays refuse so
  pub are_silent : (ds : List LevelDesc) (levels : List Level) → all_some (level_on c) ds ≡ Some levels → AreFiltersOf levels filters → AreSilent ds
  are_silent ds levels all right = λ d a of among refused.
      let level = made_of (level_on c) ds levels d all of in
      let arrays = map_some (λ xs. record { number = d.number; horizon = d.horizon; arrays = xs }) (all_some (array_on c) d.arrays) level.0 level.1 in
      let array = made_of (array_on c) d.arrays arrays.0 a arrays.1 among in
      let entries = map_some (λ entries. record { id = a.id; tag = a.versions; content = entries; entries = a.entries; leads = a.leads; least = a.least }) (entries_on c (blocks_of a.extents)) array.0 array.1 in
      let number : d.number ≡ level.0.number = ap (λ (l : Level). l.number) arrays.2 in
      let id : a.id ≡ array.0.id = ap (λ (t : TaggedArray). t.id) entries.2 in
      let bits = refused_bits (filter_at filters d.number a.id) key refused in
      let kept : filter_at filters level.0.number array.0.id ≡ Some bits.0 = sym (λ i. filter_at filters (number i) (id i)) ∙ bits.1 in
      let is = right.each level.0 array.0 bits.0 (among_contained levels level.0 level.2) (among_contained level.0.arrays array.0 (subst (λ (l : Level). Among array.0 l.arrays) arrays.2 array.2)) kept in
      ap (λ (o : Option (List Entry)). live_of parents (unwrap_or o []) v key) entries.1
      ∙ ap (λ (t : TaggedArray). live_of parents t.content v key) entries.2
      ∙ none_live parents v key array.0.content (none_of bits.0 array.0.content key is bits.2)

pub state_filtered : (c : Image) (h : Head) (s : State) (filters : List LevelFilters) (parents : Parents) (zeros : List (List Entry)) (v : ℕ) (key : List ℕ) → state_of c h ≡ Some s → AreFiltersOf s.levels filters
    → asked_filtered c filters parents zeros h.manifest.levels v key ≡ asked c parents zeros h.manifest.levels v key
state_filtered c h s filters parents zeros v key is right =
    let made = map_some (state_with h) (all_some (level_on c) h.manifest.levels) s is in
    let levels : s.levels ≡ made.0 = sym (ap (λ (x : State). x.levels) made.2) in
    ap (λ (o : Option Entry). option_and_then (λ x. x.value) o)
    (filtered_agrees c filters parents v key zeros h.manifest.levels
    (are_silent c filters parents v key h.manifest.levels made.0 made.1 (subst (λ (ls : List Level). AreFiltersOf ls filters) levels right)))

-- a level in its place is one of those that are there
at_there : (levels : List (Option LevelDesc)) (i : ℕ) (level : LevelDesc) → get_or levels i None ≡ Some level → Among level (levels_there levels)
at_there [] i level e = absurd (cc)
at_there (None ∷ levels) zero level e = absurd (cc)
at_there (Some l ∷ levels) zero level e = let same : l ≡ level = cc in inl (sym same)
at_there (None ∷ levels) (suc i) level e = at_there levels i level e
at_there (Some l ∷ levels) (suc i) level e = inr (at_there levels i level e)

numbered_there : (levels : List (Option LevelDesc)) (number : ℕ) (level : LevelDesc) → level_numbered levels number ≡ Some level → Among level (levels_there levels)
numbered_there levels zero level e = absurd (cc)
numbered_there levels (suc i) level e =
    let next : i + 1 ≡ suc i = omega arith in
    at_there levels i level (sym (next_level levels i) ∙ ap (λ (n : ℕ). level_numbered levels n) next ∙ e)

-- the filter that a store keeps of an array is of the entries of the array
kept_at : (v : DiskView) (s : Held) (levels : List Level) (f : Image) (id : ℕ) (entries : List Entry) → IsConsistent s → StandsWith v s (contents_held s levels) → v.content ≡ Some f → (keeps : KeepsFilter s.filters s.levels id)
    → entries_on f (blocks_of keeps.1.array.extents) ≡ Some entries → IsFilterOf keeps.1.bits entries
kept_at v s levels f id entries whole w exposed keeps read =
    let g : Image = w.stands.content in
    let some : Some g ≡ Some f = sym w.stands.exposed ∙ exposed in
    let here : g ≡ f = cc in
    let k = keeps.1 in
    let a : ArrayDesc = k.array in
    let of = subst (λ (ds : List LevelDesc). Among k.level ds) whole.placed.listed_are (numbered_there s.levels keeps.0 k.level k.placed) in
    let level = made_of (level_on g) s.chained.manifest.levels levels k.level (w.stands.reads g w.stands.left).lies.arrays of in
    let arrays = map_some (λ xs. record { number = k.level.number; horizon = k.level.horizon; arrays = xs }) (all_some (array_on g) k.level.arrays) level.0 level.1 in
    let array = made_of (array_on g) k.level.arrays arrays.0 a arrays.1 (contained_among k.level.arrays a k.listed) in
    let made = map_some (λ entries. record { id = a.id; tag = a.versions; content = entries; entries = a.entries; leads = a.leads; least = a.least }) (entries_on g (blocks_of a.extents)) array.0 array.1 in
    let number : keeps.0 ≡ level.0.number = sym (whole.placed.numbered keeps.0 k.level k.placed) ∙ ap (λ (l : Level). l.number) arrays.2 in
    let name : id ≡ array.0.id = sym k.named ∙ ap (λ (t : TaggedArray). t.id) made.2 in
    let kept : filter_at s.filters level.0.number array.0.id ≡ Some k.bits = sym (λ i. filter_at s.filters (number i) (name i)) ∙ k.kept in
    let is = w.filtered.each level.0 array.0 k.bits (among_contained levels level.0 level.2) (among_contained level.0.arrays array.0 (subst (λ (l : Level). Among array.0 l.arrays) arrays.2 array.2)) kept in
    let one : Some made.0 ≡ Some entries = sym made.1 ∙ ap (λ (c : Image). entries_on c (blocks_of a.extents)) here ∙ read in
    let same : made.0 ≡ entries = cc in
    subst (λ (es : List Entry). IsFilterOf k.bits es) (sym (ap (λ (t : TaggedArray). t.content) made.2) ∙ same) is

pub kept_of : (v : DiskView) (s : Held) (x : Contents) (f : Image) (id : ℕ) (entries : List Entry) → IsConsistent s → StandsWith v s x → v.content ≡ Some f → (keeps : KeepsFilter s.filters s.levels id)
    → entries_on f (blocks_of keeps.1.array.extents) ≡ Some entries → IsFilterOf keeps.1.bits entries
kept_of v s x f id entries whole w exposed keeps read = kept_at v s x.levels f id entries whole (subst (StandsWith v s) w.held w) exposed keeps read

-- a filter that is kept is told of
pub keeps_from : (filters : List LevelFilters) (levels : List (Option LevelDesc)) (number id : ℕ) (level : LevelDesc) → level_numbered levels number ≡ Some level → is_some (filter_at filters number id) ≡ true
    → list_any (has_id id) level.arrays ≡ true → KeepsFilterAt filters levels number id
keeps_from filters levels number id level placed some any = by (filter_at filters number id) refl
  where
    by : (o : Option (List Bool)) → filter_at filters number id ≡ o → KeepsFilterAt filters levels number id
    by None none = absurd (true≢false (sym some ∙ ap (λ (o : Option (List Bool)). is_some o) none))
    by (Some bits) kept =
        let at = any_among (has_id id) level.arrays any in
        record { level = level; array = at.0; bits = bits; placed = placed; listed = among_contained level.arrays at.0 at.1; named = eqb-true at.0.id id at.2; kept = kept }

pub keeps_to : (filters : List LevelFilters) (levels : List (Option LevelDesc)) (number id : ℕ) (level : LevelDesc) → level_numbered levels number ≡ Some level → KeepsFilterAt filters levels number id
    → (is_some (filter_at filters number id) ≡ true) × (list_any (has_id id) level.arrays ≡ true)
keeps_to filters levels number id level placed keeps =
    let one : Some keeps.level ≡ Some level = sym keeps.placed ∙ placed in
    let same : keeps.level ≡ level = cc in
    let among = contained_among level.arrays keeps.array (subst (λ (l : LevelDesc). Contains l.arrays keeps.array) same keeps.listed) in (
      ap (λ (o : Option (List Bool)). is_some o) keeps.kept,
      any_from (has_id id) keeps.array level.arrays among (eq-eqb keeps.array.id id keeps.named),
    )

past_last : (levels : List (Option LevelDesc)) (i : ℕ) → length levels ≤ i → get_or levels i None ≡ None
past_last [] i past = refl
past_last (level ∷ levels) zero past = absurd (omega (arith, past))
past_last (level ∷ levels) (suc i) past = past_last levels i (omega (arith, past))

-- no filter is kept of the arrays of level 0, or of a level past the last
keeps_past : (filters : List LevelFilters) (levels : List (Option LevelDesc)) (number id : ℕ) → length levels < number → KeepsFilterAt filters levels number id → ⊥
keeps_past filters levels zero id past keeps = absurd (omega (arith, past))
keeps_past filters levels (suc i) id past keeps =
    let next : i + 1 ≡ suc i = omega arith in
    let none : Some keeps.level ≡ None = sym keeps.placed ∙ ap (λ (n : ℕ). level_numbered levels n) (sym next) ∙ next_level levels i ∙ past_last levels i (omega (arith, past)) in
    absurd (cc)

pub keeps_none : (filters : List LevelFilters) (levels : List (Option LevelDesc)) (id n : ℕ) → n < 1 → KeepsFilterAt filters levels n id → ⊥
keeps_none filters levels id zero low keeps = let none : None ≡ Some keeps.level = keeps.placed in absurd (cc)
keeps_none filters levels id (suc n) low keeps = absurd (omega (arith, low))

-- none of the levels below a number keeps one, and then none up to it
pub keeps_no_more : (filters : List LevelFilters) (levels : List (Option LevelDesc)) (id k : ℕ) → ((n : ℕ) → n < k → KeepsFilterAt filters levels n id → ⊥) → (KeepsFilterAt filters levels k id → ⊥)
    → (n : ℕ) → n < k + 1 → KeepsFilterAt filters levels n id → ⊥
keeps_no_more filters levels id k below here n low keeps = elim (cases_lt n k) [
  | inl less ↦ below n less keeps
  | inr past ↦ let same : n ≡ k = omega (arith, low, past) in here (subst (λ (m : ℕ). KeepsFilterAt filters levels m id) same keeps)
]

-- nor any past the last
pub keeps_nowhere : (filters : List LevelFilters) (levels : List (Option LevelDesc)) (id k : ℕ) → length levels < k → ((n : ℕ) → n < k → KeepsFilterAt filters levels n id → ⊥) → KeepsFilter filters levels id → ⊥
keeps_nowhere filters levels id k few below keeps = elim (cases_lt keeps.0 k) [
  | inl less ↦ below keeps.0 less keeps.1
  | inr past ↦ keeps_past filters levels keeps.0 id (omega (arith, few, past)) keeps.1
]
