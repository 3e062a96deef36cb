-- A search over the blocks of an array, each of which says where the place lies.
use Rattle.std.proofs.Common.{◌≡◌, ◌≢◌, ◌<◌, ◌≤◌, ◌+◌, ◌-◌, ◌/◌, ◌^◌, ℕ, zero, suc, Bool, true, false, not, inl, get_or, subst, List, [], ◌∷◌, length, Option, refl, sym, ap, ◌∙◌, arith, true≢false}
use Rattle.std.specs.List.{filter, list_all}
use Rattle.std.proofs.lemmas.Bool.{and_parts, not-true}
use Rattle.strat_base.specs.Entries.{Entry, is_ascending}
use Rattle.strat_base.proofs.ListFacts.{Among, get_among}
use Rattle.strat_block.specs.Places.{stands_below, IsFirstFrom}
use Rattle.def_crash.specs.Moments.{DiskView}
use Rattle.strat_array.specs.Kept.{Kept, Blocks, Looks, ArrayStands}
use Rattle.strat_array.specs.Left.{all_in, has_entry, is_from, starts_below, Bound}
use Rattle.strat_array.specs.Lying.{LiesAt, Narrows}
use Rattle.strat_array.specs.Steps.{left_from, IsSettled}
use Rattle.strat_array.specs.declared.place.Place.{Place}
use Rattle.strat_array.specs.declared.search.Lies.{Lies}
use Rattle.strat_array.specs.declared.search.Lies.TheVariants.{Before, Within, Behind}
use Rattle.strat_array.proofs.KeptLemmas.{listed_length, looks_refl, looks_trans, stands_after}
use Rattle.strat_array.proofs.OrderLemmas.{ascending_right, ascending_across, from_after}
use Rattle.strat_array.proofs.PlaceLemmas.{listed_filled, get_of, sought_at_start, settled_at_start, sought_past, sought_inside}
use Rattle.strat_array.proofs.SearchLemmas.{half_more}

-- whether the first entry is below a key
pub starts_is : (key : List ℕ) (entries : List Entry) (b : Bool) → 0 < length entries → ((d : Entry) → b ≡ stands_below key (get_or entries 0 d)) → starts_below key entries ≡ b
starts_is key [] b some is = absurd (omega arith)
starts_is key (e ∷ entries) b some is = sym (is e)

-- entries are below a key where the first from the key on is not the first of all
pub starts_before_first : (key : List ℕ) (entries : List Entry) (i : ℕ) → IsFirstFrom key entries i → 0 < i → i ≤ length entries → starts_below key entries ≡ true
starts_before_first key [] i first some within = absurd (omega arith)
starts_before_first key (e ∷ entries) i first some within = first.before 0 e some

-- the first from a key on is not the first of all where that is below the key
pub behind_first : (key : List ℕ) (entries : List Entry) (i : ℕ) → IsFirstFrom key entries i → starts_below key entries ≡ true → 0 < i
behind_first key [] i first below = absurd (true≢false (sym below))
behind_first key (e ∷ entries) zero first below = absurd (true≢false (sym below ∙ first.after 0 e (omega arith) (omega arith)))
behind_first key (e ∷ entries) (suc i) first below = omega arith

-- where a block has an entry from a key on, the next one begins from it on
pub begins_above : (key : List ℕ) (lists : List (List Entry)) (m i : ℕ) → is_ascending (all_in lists) ≡ true → list_all has_entry lists ≡ true → i < length (get_or lists m []) → ((d : Entry) → stands_below key (get_or (get_or lists m []) i d) ≡ false)
    → m + 1 < length lists → starts_below key (get_or lists (m + 1) []) ≡ false
begins_above key [] m i up filled within from next = absurd (omega arith)
begins_above key (entries ∷ []) m i up filled within from next = absurd (omega arith)
begins_above key ([] ∷ more ∷ lists) zero i up filled within from next = absurd (omega arith)
begins_above key ((e ∷ entries) ∷ [] ∷ lists) zero i up filled within from next =
    refl
begins_above key ((e ∷ entries) ∷ (f ∷ more) ∷ lists) zero i up filled within from next =
    let mine : Entry = get_or (e ∷ entries) i e in
    let among : Among mine (e ∷ entries) = get_among (e ∷ entries) i mine (get_of (e ∷ entries) i e within) in
    not-true (stands_below key f) (from_after mine f key (ascending_across (e ∷ entries) (all_in ((f ∷ more) ∷ lists)) mine f up among (inl refl)) (ap not (from e)))
begins_above key (entries ∷ more ∷ lists) (suc m) i up filled within from next =
    let two : suc m + 1 ≡ suc (m + 1) = omega arith in
    ap (λ (n : ℕ). starts_below key (get_or (entries ∷ more ∷ lists) n [])) two
    ∙ begins_above key (more ∷ lists) m i (ascending_right entries (all_in (more ∷ lists)) up) (and_parts (has_entry entries) (list_all has_entry (more ∷ lists)) filled).1 within from (omega arith)

-- the borders of a search: the block before the lower one ends below the key, and that at the upper one doesn't begin below it
pub record Borders (key : List ℕ) (low high : ℕ) (lists : List (List Entry)) : Type 0 where
  pub below : 0 < low → starts_below key (get_or lists (low - 1) []) ≡ true
  pub behind : 0 < low → IsFirstFrom key (get_or lists (low - 1) []) (length (get_or lists (low - 1) []))
  pub above : high < length lists → starts_below key (get_or lists high []) ≡ false

-- a search so far: so many tries are left, and then halvings, and no more reads
pub record Searching (old now : DiskView) (array : ℕ) (blocks : List ℕ) (c d : Blocks) (s t : Option Kept) (key : List ℕ) (reads_old reads_now low high tries : ℕ) : Type 0 where
  pub looks : Looks old now array blocks c d s t
  pub order : low ≤ high
  pub within : high ≤ length blocks
  pub borders : (lists : List (List Entry)) → ArrayStands old.content array blocks c s lists → Borders key low high lists
  pub later : reads_old ≤ reads_now
  pub left : (n : ℕ) → length blocks < 2 ^ n → (m : ℕ) × (high - low < 2 ^ m) × (reads_now + m + tries ≤ reads_old + n + 4)

pub searching_begins : (v : DiskView) (array : ℕ) (blocks : List ℕ) (c : Blocks) (s : Option Kept) (key : List ℕ) (reads high : ℕ) → high ≡ length blocks → Searching v v array blocks c c s s key reads reads 0 high 4
searching_begins v array blocks c s key reads high is = record {
  looks = looks_refl v array blocks c s;
  order = omega arith;
  within = omega arith;
  borders = λ lists stands. let len = listed_length stands.image blocks lists stands.listed in record { below = λ some. absurd (omega arith); behind = λ some. absurd (omega arith); above = λ lt. absurd (omega arith) };
  later = omega arith;
  left = λ n few. (n, omega arith, omega arith);
}

module _ (old v w : DiskView) (array : ℕ) (blocks : List ℕ) (c d e : Blocks) (s t u : Option Kept) (key : List ℕ) (r0 r1 r2 low high mid tries : ℕ)
    (h : Searching old v array blocks c d s t key r0 r1 low high tries) (lower : low ≤ mid) (upper : mid < high) (middle : tries ≡ 0 → mid ≡ low + (high - low) / 2) (looks : Looks v w array blocks d e t u) (later : r1 ≤ r2) (most : r2 ≤ r1 + 1) where
  fewer : (first last : ℕ) → last - first ≤ high - low → (tries ≡ 0 → last - first ≤ (high - low) / 2) → (n : ℕ) → length blocks < 2 ^ n → (m : ℕ) × (last - first < 2 ^ m) × (r2 + m + (tries - 1) ≤ r0 + n + 4)
  fewer first last less half n few = go tries refl (h.left n few)
    where
      go : (k : ℕ) → tries ≡ k → ((m : ℕ) × (high - low < 2 ^ m) × (r1 + m + tries ≤ r0 + n + 4)) → (m : ℕ) × (last - first < 2 ^ m) × (r2 + m + (tries - 1) ≤ r0 + n + 4)
      go zero is at =
          let k = half_more (high - low) at.0 (omega arith) at.1 in
          (k.0, omega (arith, k.2, half is), omega (arith, at.2, k.1))
      go (suc k) is at = (at.0, omega (arith, at.1), omega (arith, at.2))

  stands_now : (lists : List (List Entry)) → ArrayStands old.content array blocks c s lists → ArrayStands v.content array blocks d t lists
  stands_now lists stands = stands_after old v array blocks c d s t lists h.looks stands

  pub searching_goes_on : (l : Lies) → ((i : ℕ) → l ≢ Within i) → ((lists : List (List Entry)) → ArrayStands v.content array blocks d t lists → LiesAt key (get_or lists mid []) l) → (first last : ℕ) → Narrows low mid high l first last
      → Searching old w array blocks c e s u key r0 r2 first last (tries - 1)
  searching_goes_on Before others is first last narrows = record {
    looks = looks_trans old v w array blocks c d e s t u h.looks looks;
    order = omega (arith, narrows.0, narrows.1);
    within = omega (arith, h.within, narrows.1);
    borders = λ lists stands. record {
      below = λ some. ap (λ (n : ℕ). starts_below key (get_or lists (n - 1) [])) narrows.0 ∙ (h.borders lists stands).below (omega (arith, narrows.0));
      behind = λ some. subst (λ (n : ℕ). IsFirstFrom key (get_or lists (n - 1) []) (length (get_or lists (n - 1) []))) (sym narrows.0) ((h.borders lists stands).behind (omega (arith, narrows.0)));
      above = λ lt. ap (λ (n : ℕ). starts_below key (get_or lists n [])) narrows.1 ∙ is lists (stands_now lists stands);
    };
    later = omega (arith, h.later);
    left = fewer first last (omega (arith, narrows.0, narrows.1)) (λ none. let m = middle none in omega (arith, narrows.0, narrows.1, m));
  }
  searching_goes_on (Within i) others is first last narrows = absurd (others i refl)
  searching_goes_on Behind others is first last narrows = record {
    looks = looks_trans old v w array blocks c d e s t u h.looks looks;
    order = omega (arith, narrows.0, narrows.1);
    within = omega (arith, h.within, narrows.1);
    borders = λ lists stands.
        let here = is lists (stands_now lists stands) in
        record {
          below = λ some. ap (λ (n : ℕ). starts_below key (get_or lists n [])) one ∙ starts_before_first key (get_or lists mid []) (length (get_or lists mid [])) here.0 here.1 (omega arith);
          behind = λ some. subst (λ (n : ℕ). IsFirstFrom key (get_or lists n []) (length (get_or lists n []))) (sym one) here.0;
          above = λ lt. ap (λ (n : ℕ). starts_below key (get_or lists n [])) narrows.1 ∙ (h.borders lists stands).above (omega (arith, narrows.1));
        };
    later = omega (arith, h.later);
    left = fewer first last (omega (arith, narrows.0, narrows.1)) (λ none. let m = middle none in omega (arith, narrows.0, narrows.1, m));
  }
    where
      one : first - 1 ≡ mid
      one = omega (arith, narrows.0)

-- the place where a search ends between two blocks
module _ (old now : DiskView) (array : ℕ) (blocks : List ℕ) (c d : Blocks) (s t : Option Kept) (key : List ℕ) (r0 r1 low high tries : ℕ) (h : Searching old now array blocks c d s t key r0 r1 low high tries) (closed : high ≤ low)
    (lists : List (List Entry)) (stands : ArrayStands old.content array blocks c s lists) (place : Place) (block : place.block ≡ low) (index : place.index ≡ 0) where
  same : low ≡ high
  same = omega (arith, h.order)

  fits : low ≤ length lists
  fits = let len = listed_length stands.image blocks lists stands.listed in omega (arith, h.within)

  filled : list_all has_entry lists ≡ true
  filled = listed_filled stands.image blocks lists stands.listed

  bound : Bound key low lists
  bound = record {
    within = fits;
    below = (h.borders lists stands).below;
    above = λ lt. ap (λ (n : ℕ). starts_below key (get_or lists n [])) same ∙ (h.borders lists stands).above (omega (arith, same));
  }

  pub sought_between : is_ascending (all_in lists) ≡ true → left_from lists place ≡ filter (is_from key) (all_in lists)
  sought_between up = go low refl
    where
      go : (n : ℕ) → low ≡ n → left_from lists place ≡ filter (is_from key) (all_in lists)
      go zero is =
          let one : place.block ≡ 0 = block ∙ is in
          (λ j. left_from lists (record { block = one j; index = index j }))
          ∙ sought_at_start key lists filled up low is bound
      go (suc n) is = sought_past key lists filled low (omega (arith, is)) bound up place ((h.borders lists stands).behind (omega (arith, is))) block index

  pub settled_between : IsSettled lists place
  settled_between = settled_at_start key lists filled low fits place block index

-- the place in a block
module _ (key : List ℕ) (lists : List (List Entry)) (filled : list_all has_entry lists ≡ true) (mid i : ℕ) (within : mid < length lists) (lies : LiesAt key (get_or lists mid []) (Within i)) (place : Place) (block : place.block ≡ mid) (index : place.index ≡ i) where
  pub sought_within : is_ascending (all_in lists) ≡ true → left_from lists place ≡ filter (is_from key) (all_in lists)
  sought_within up = sought_inside key lists filled (mid + 1) (omega arith) bound up i place first (ap (λ (n : ℕ). n + 1) block) index
    where
      one : mid + 1 - 1 ≡ mid
      one = omega arith

      first : IsFirstFrom key (get_or lists (mid + 1 - 1) []) i
      first = subst (λ (n : ℕ). IsFirstFrom key (get_or lists n []) i) (sym one) lies.0

      bound : Bound key (mid + 1) lists
      bound = record {
        within = omega arith;
        below = λ some. ap (λ (n : ℕ). starts_below key (get_or lists n [])) one ∙ starts_before_first key (get_or lists mid []) i lies.0 lies.1 (lies.0.within);
        above = λ lt. begins_above key lists mid i up filled lies.2 (λ d. lies.0.after i d (omega arith) lies.2) lt;
      }

  pub settled_within : IsSettled lists place
  settled_within = let same = ap (λ (k : ℕ). length (get_or lists k [])) block in inl (omega (arith, same, index, lies.2))

-- the same, where the search has come to the block
module _ (old v : DiskView) (array : ℕ) (blocks : List ℕ) (c d : Blocks) (s t : Option Kept) (key : List ℕ) (r0 r1 low high tries mid i : ℕ) (h : Searching old v array blocks c d s t key r0 r1 low high tries) (upper : mid < high) (l : Lies) (lies : l ≡ Within i)
    (is : (lists : List (List Entry)) → ArrayStands v.content array blocks d t lists → LiesAt key (get_or lists mid []) l) (lists : List (List Entry)) (stands : ArrayStands old.content array blocks c s lists) (place : Place) (block : place.block ≡ mid) (index : place.index ≡ i) where
  full : list_all has_entry lists ≡ true
  full = listed_filled stands.image blocks lists stands.listed

  inside : mid < length lists
  inside = let len = listed_length stands.image blocks lists stands.listed in omega (arith, h.within)

  here : LiesAt key (get_or lists mid []) (Within i)
  here = subst (λ (x : Lies). LiesAt key (get_or lists mid []) x) lies (is lists (stands_after old v array blocks c d s t lists h.looks stands))

  pub sought_here : is_ascending (all_in lists) ≡ true → left_from lists place ≡ filter (is_from key) (all_in lists)
  sought_here up = sought_within key lists full mid i inside here place block index up

  pub settled_here : IsSettled lists place
  settled_here = settled_within key lists full mid i inside here place block index
