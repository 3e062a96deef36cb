-- A disk that reads as a sound state has no bad block.
use Rattle.std.proofs.Common.{◌≡◌, ◌≤◌, ◌<◌, ◌-◌, ◌*◌, ℕ, zero, suc, true, eqb, ltb, leb, ◌&&◌, inl, inr, get_or, List, [], ◌∷◌, ◌++◌, length, Option, Some, None, Ok, refl, sym, ap, ◌∙◌, subst, arith, append_assoc, length-append}
use Rattle.std.specs.Prelude.{option_map, flat_map, slice_get}
use Rattle.std.specs.List.{list_all}
use Rattle.std.specs.Ordering.{is_lt}
use Rattle.std.proofs.lemmas.Bool.{and_parts, and_from, eqb-true, leb-true, le-leb, lt-ltb}
use Rattle.std.proofs.lemmas.List.Elements.{filter-append}
use Rattle.strat_base.specs.declared.limits.TheConstants.{BLOCK}
use Rattle.def_crash.specs.Image.{Image, window}
use Rattle.strat_base.specs.Order.{entry_cmp}
use Rattle.def_bytes.specs.Block.{block_in}
use Rattle.strat_base.specs.Entries.{Entry, is_tagged, lead_entries, holds_entry, is_ascending}
use Rattle.def_state.specs.Level.{TaggedArray, Level, level_leads, own_leads, least_live, is_drawn, IsStratified}
use Rattle.strat_base.specs.declared.descriptors.ArrayDesc.{ArrayDesc}
use Rattle.strat_base.specs.declared.descriptors.LevelDesc.{LevelDesc}
use Rattle.def_bytes.specs.Arrays.{blocks_of, entries_on}
use Rattle.def_bytes.specs.Arrays.{all_some}
use Rattle.def_recovery.specs.Opened.{array_on, level_on}
use Rattle.def_state.specs.State.{State, versions_of}
use Rattle.def_state.specs.Sound.{shallower, has_old_horizon, is_described, has_ascending_entries, IsSound}
use Rattle.def_state.proofs.AppendedLemmas.{length-grown}
use Rattle.strat_base.proofs.EntryLemmas.{held_among}
use Rattle.def_state.proofs.LevelLemmas.{lead_below}
use Rattle.strat_base.proofs.ListFacts.{Among, any_among, all_at, all_from, among_left, among_right, among_flat, get_among, each_of}
use Rattle.def_state.proofs.SoundLemmas.{sound_tree}
use Rattle.def_recovery.specs.Head.{Head, descriptors}
use Rattle.def_recovery.specs.Opening.{recover, state_of}
use Rattle.def_bytes.specs.Arrays.{block_on}
use Rattle.def_recovery.specs.Bad.{IsUnread, begins_after, fits_behind, IsMisplaced, IsBad, refused, unread, misplaced}
use Rattle.def_recovery.proofs.OpeningLemmas.{map_some, next_some, each_some}
use Rattle.def_recovery.proofs.HeadLemmas.{state_with}

pub contained_at : {X : Type 0} (x : X) (xs : List X) (k : ℕ) → k < length xs → get_or xs k x ≡ x → Among x xs
contained_at x [] k lt e = absurd (omega arith)
contained_at x (y ∷ ys) zero lt e = inl (sym e)
contained_at x (y ∷ ys) (suc k) lt e = inr (contained_at x ys k (omega arith) e)

all_among : {A B : Type 0} (f : A → Option B) (xs : List A) (ys : List B) → all_some f xs ≡ Some ys → (x : A) → Among x xs → (y : B) × Among y ys × (f x ≡ Some y)
all_among f [] ys e x among = absurd among
all_among f (z ∷ zs) ys e x (inl here) =
    let parts = each_some f z zs ys e in
    (parts.0, subst (Among parts.0) parts.4 (inl refl), ap f here ∙ parts.2)
all_among f (z ∷ zs) ys e x (inr there) =
    let parts = each_some f z zs ys e in
    let found = all_among f zs parts.1 parts.3 x there in
    (found.0, subst (Among found.0) parts.4 (inr found.1), found.2)

-- the array of a state that a descriptor is for
array_found : (c : Image) (ds : List LevelDesc) (levels : List Level) (a : ArrayDesc) → all_some (level_on c) ds ≡ Some levels → Among a (flat_map (λ (d : LevelDesc). d.arrays) ds)
    → (level : Level) × (x : TaggedArray) × Among level levels × Among x level.arrays × (array_on c a ≡ Some x)
array_found c ds levels a e among =
    let mine = among_flat (λ (d : LevelDesc). d.arrays) ds a among in
    let level = all_among (level_on c) ds levels e mine.0 mine.1 in
    let made = map_some (λ arrays. record { number = mine.0.number; horizon = mine.0.horizon; arrays = arrays }) (all_some (array_on c) mine.0.arrays) level.0 level.2 in
    let array = all_among (array_on c) mine.0.arrays made.0 made.1 a mine.2 in
    (level.0, array.0, level.1, subst (λ (l : Level). Among array.0 l.arrays) made.2 array.1, array.2)

-- what the blocks of an array that is there hold
content_found : (c : Image) (a : ArrayDesc) (x : TaggedArray) → array_on c a ≡ Some x
    → (entries_on c (blocks_of a.extents) ≡ Some x.content) × (x.tag ≡ a.versions) × (x.leads ≡ a.leads)
content_found c a x e =
    let made = map_some (λ entries. record { id = a.id; tag = a.versions; content = entries; entries = a.entries; leads = a.leads; least = a.least }) (entries_on c (blocks_of a.extents)) x e in
    let P : TaggedArray → Type 0 = λ y. (entries_on c (blocks_of a.extents) ≡ Some y.content) × (y.tag ≡ a.versions) × (y.leads ≡ a.leads) in
    subst P made.2 (made.1, refl, refl)

block_there : (c : Image) (blocks : List ℕ) (content : List Entry) (b : ℕ) → entries_on c blocks ≡ Some content → Among b blocks → (found : List Entry) × (block_on c b ≡ Some found)
unfolding block_in entries_on
block_there c [] content b e among = absurd among
block_there c (d ∷ blocks) content b e (inl here) =
    let first = next_some (λ entries. option_map (λ rest. entries ++ rest) (entries_on c blocks)) (block_in (window c (BLOCK * d) BLOCK)) content e in
    (first.0, ap (block_on c) here ∙ first.1)
block_there c (d ∷ blocks) content b e (inr there) =
    let first = next_some (λ entries. option_map (λ rest. entries ++ rest) (entries_on c blocks)) (block_in (window c (BLOCK * d) BLOCK)) content e in
    let rest = map_some (λ rest. first.0 ++ rest) (entries_on c blocks) content first.2 in
    block_there c blocks rest.0 b rest.1 there

entries_split : (c : Image) (front back : List ℕ) (b : ℕ) (content before entries : List Entry) → entries_on c (front ++ b ∷ back) ≡ Some content → entries_on c front ≡ Some before → block_on c b ≡ Some entries
    → (rest : List Entry) × (content ≡ before ++ (entries ++ rest))
unfolding block_in entries_on
entries_split c [] back b content before entries e earlier here =
    let first = next_some (λ entries. option_map (λ rest. entries ++ rest) (entries_on c back)) (block_in (window c (BLOCK * b) BLOCK)) content e in
    let rest = map_some (λ rest. first.0 ++ rest) (entries_on c back) content first.2 in
    let none : [] ≡ before = cc in
    let same : first.0 ≡ entries = cc in
    (rest.0, sym rest.2 ∙ (λ i. none i ++ (same i ++ rest.0)))
entries_split c (f ∷ front) back b content before entries e earlier here =
    let first = next_some (λ entries. option_map (λ rest. entries ++ rest) (entries_on c (front ++ b ∷ back))) (block_in (window c (BLOCK * f) BLOCK)) content e in
    let rest = map_some (λ rest. first.0 ++ rest) (entries_on c (front ++ b ∷ back)) content first.2 in
    let first' = next_some (λ entries. option_map (λ rest. entries ++ rest) (entries_on c front)) (block_in (window c (BLOCK * f) BLOCK)) before earlier in
    let rest' = map_some (λ rest. first'.0 ++ rest) (entries_on c front) before first'.2 in
    let same : first.0 ≡ first'.0 = cc in
    let split = entries_split c front back b rest.0 rest'.0 entries rest.1 rest'.1 here in
    (split.0, sym rest.2 ∙ (λ i. same i ++ split.1 i) ∙ sym (append_assoc first'.0 rest'.0 (entries ++ split.0)) ∙ ap (λ (x : List Entry). x ++ (entries ++ split.0)) rest'.2)

-- of entries that ascend the earlier come before the later
ascending_across : (xs ys : List Entry) → is_ascending (xs ++ ys) ≡ true → (l e : Entry) → Among l xs → Among e ys → is_lt (entry_cmp l.key l.version e.key e.version) ≡ true
ascending_across [] ys up l e early late = absurd early
ascending_across (x ∷ xs) ys up l e (inl here) late =
    let parts = and_parts (list_all (λ later. is_lt (entry_cmp x.key x.version later.key later.version)) (xs ++ ys)) (is_ascending (xs ++ ys)) up in
    let at : is_lt (entry_cmp x.key x.version e.key e.version) ≡ true = all_at (λ later. is_lt (entry_cmp x.key x.version later.key later.version)) e (xs ++ ys) parts.0 (among_right xs ys e late) in
    subst (λ (z : Entry). is_lt (entry_cmp z.key z.version e.key e.version) ≡ true) (sym here) at
ascending_across (x ∷ xs) ys up l e (inr there) late =
    let parts = and_parts (list_all (λ later. is_lt (entry_cmp x.key x.version later.key later.version)) (xs ++ ys)) (is_ascending (xs ++ ys)) up in
    ascending_across xs ys parts.1 l e there late

begins_from : (o : Option Entry) (entries : List Entry) → ((l e : Entry) → o ≡ Some l → Among e entries → is_lt (entry_cmp l.key l.version e.key e.version) ≡ true) → begins_after o entries ≡ true
begins_from None entries each = refl
begins_from (Some last) [] each = refl
begins_from (Some last) (e ∷ entries) each = each last e refl (inl refl)

module _ (c : Image) (h : Head) (s : State) (reads : state_of c h ≡ Some s) (sound : IsSound s) (a : ArrayDesc) (mine : Among a (descriptors h.manifest)) where
  record There : Type 0 where
    level : Level
    array : TaggedArray
    among : Among level s.levels
    within : Among array level.arrays
    content : entries_on c (blocks_of a.extents) ≡ Some array.content
    tag : array.tag ≡ a.versions
    leads : array.leads ≡ a.leads

  there : There
  there =
      let made = map_some (state_with h) (all_some (level_on c) h.manifest.levels) s reads in
      let found = array_found c h.manifest.levels made.0 a made.1 mine in
      let content = content_found c a found.1 found.4 in
      record {
        level = found.0;
        array = found.1;
        among = subst (λ (x : State). Among found.0 x.levels) made.2 found.2;
        within = found.3;
        content = content.0;
        tag = content.1;
        leads = content.2;
      }

  no_unread : (b : ℕ) → IsUnread c a b → ⊥
  no_unread b bad =
      let named = any_among (λ other. eqb other b) (blocks_of a.extents) bad.mine in
      let same : named.0 ≡ b = eqb-true named.0 b named.2 in
      let found = block_there c (blocks_of a.extents) there.array.content named.0 there.content named.1 in
      let none : block_on c named.0 ≡ None = ap (block_on c) same ∙ bad.unread in
      cc

  version_known : (e : Entry) → Among e there.array.content → e.version < length (versions_of s)
  version_known e among =
      let t = there in
      let strat : IsStratified (versions_of s) t.level = each_of (IsStratified (versions_of s)) s.levels t.level sound.stratified t.among in
      let lead = held_among (level_leads t.level) e (all_at (holds_entry (level_leads t.level)) e t.array.content (all_at (is_drawn t.level) t.array t.level.arrays strat.drawn t.within) among) in
      let low : e.version < t.level.horizon = lead_below (versions_of s) (sound_tree s sound.formed) t.level strat e lead in
      let old = and_parts (leb t.level.horizon (length s.parents)) (list_all (λ other. leb t.level.horizon other.horizon) (shallower s t.level)) (all_at (has_old_horizon s) t.level s.levels sound.old t.among) in
      let le = leb-true t.level.horizon (length s.parents) old.0 in
      let more : length s.parents ≤ length (versions_of s) = length-grown s.parents s.journal in
      omega (arith, le, more, low)

  fits : (before entries rest : List Entry) → there.array.content ≡ before ++ (entries ++ rest) → fits_behind (length (versions_of s)) a before entries ≡ true
  fits before entries rest split =
      let t = there in
      let ordered : is_ascending (before ++ (entries ++ rest)) ≡ true = ap is_ascending (sym split) ∙ all_at has_ascending_entries t.array t.level.arrays (all_at (λ level. list_all has_ascending_entries level.arrays) t.level s.levels sound.ascending t.among) t.within in
      let described = all_at (is_described s) t.array t.level.arrays (all_at (λ level. list_all (is_described s) level.arrays) t.level s.levels sound.described t.among) t.within in
      let counts = and_parts ((eqb t.array.entries (length t.array.content)) && (eqb t.array.leads (length (own_leads t.array)))) (eqb t.array.least (least_live (versions_of s) t.array)) described in
      let leads : t.array.leads ≡ length (lead_entries t.array.tag t.array.content) = eqb-true t.array.leads (length (own_leads t.array)) (and_parts (eqb t.array.entries (length t.array.content)) (eqb t.array.leads (length (own_leads t.array))) counts.0).1 in
      let whole : lead_entries t.array.tag t.array.content ≡ lead_entries a.versions (before ++ entries) ++ lead_entries a.versions rest =
      (λ i. lead_entries (t.tag i) (split i)) ∙ ap (lead_entries a.versions) (sym (append_assoc before entries rest)) ∙ filter-append (λ e. is_tagged a.versions e.version) (before ++ entries) rest in
      let few : length (lead_entries a.versions (before ++ entries)) ≤ a.leads = omega (arith, leads, t.leads, ap (λ (x : List Entry). length x) whole, length-append (lead_entries a.versions (before ++ entries)) (lead_entries a.versions rest)) in
      and_from _ _
      (and_from _ _
      (begins_from (slice_get before (length before - 1)) entries (λ l e last among. ascending_across before (entries ++ rest) ordered l e (get_among before (length before - 1) l last) (among_left entries rest e among)))
      (all_from (λ e. ltb e.version (length (versions_of s))) entries (λ e among. lt-ltb e.version (length (versions_of s)) (version_known e (subst (Among e) (sym split) (among_right before (entries ++ rest) e (among_left entries rest e among)))))))
      (le-leb (length (lead_entries a.versions (before ++ entries))) a.leads few)

  no_misplaced : (b : ℕ) → IsMisplaced c (length (versions_of s)) a b → ⊥
  no_misplaced b bad =
      let content : entries_on c (bad.front ++ b ∷ bad.back) ≡ Some there.array.content = ap (entries_on c) (sym bad.place) ∙ there.content in
      let split = entries_split c bad.front bad.back b there.array.content bad.before bad.entries content bad.earlier bad.here in
      let good = fits bad.before bad.entries split.0 split.1 in
      let wrong = bad.misfit in
      cc

pub no_bad_block : (c : Image) (h : Head) (s : State) (b : ℕ) → recover c ≡ Ok (Some h) → state_of c h ≡ Some s → IsSound s → IsBad c (length (versions_of s)) (descriptors h.manifest) (descriptors h.manifest) b → ⊥
no_bad_block c h s b opens reads sound (refused e) = cc
no_bad_block c h s b opens reads sound (unread a named bad) = no_unread c h s reads sound a (contained_at a (descriptors h.manifest) named.0 named.1 named.2) b bad
no_bad_block c h s b opens reads sound (misplaced a named bad) = no_misplaced c h s reads sound a (contained_at a (descriptors h.manifest) named.0 named.1 named.2) b bad
