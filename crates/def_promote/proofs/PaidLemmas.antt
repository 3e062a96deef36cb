-- What a promotion writes is paid for by the changes in the journal, and by each lead that goes deeper.
use Rattle.std.proofs.Common.{◌≡◌, ◌<◌, ◌≤◌, ◌+◌, ◌*◌, ◌-◌, ◌^◌, ℕ, zero, suc, Bool, true, false, cond, eqb, leb, ◌||◌, ◌&&◌, inl, inr, List, [], ◌∷◌, ◌++◌, length, filter, refl, sym, ap, ◌∙◌, subst, arith, length-append}
use Rattle.std.specs.List.{list_any, list_all, flat_map, filter_map, sum_by}
use Rattle.std.proofs.lemmas.Bool.{eqb-true, le-leb, leb-true, lt-leb, cases_lt, cases_eq, and_parts, or_cases, or_left, or_right}
use Rattle.std.proofs.lemmas.List.Concat.{length-flat_map}
use Rattle.std.proofs.lemmas.List.Elements.{filter-append}
use Rattle.std.proofs.lemmas.List.Sums.{sum_by-cons, sum_by-append}
use Rattle.std.proofs.Math.Nat.{pow-suc, mul-le-mul_left, mul-le-mul_right}
use Rattle.strat_base.specs.Change.{Change, Put, Delete, Clone, DropVersion}
use Rattle.strat_base.specs.Entries.{Entry, is_at, latest}
use Rattle.def_state.specs.Level.{TaggedArray, Level, own_leads, level_leads, least_live, is_led}
use Rattle.def_state.specs.Reading.{level_zero}
use Rattle.def_state.specs.State.{State, versions_of, journal_updates, update_of, updates_of, changes_of, deep, IsPaid}
use Rattle.def_state.specs.Sound.{is_described, journal_max, IsOrdered}
use Rattle.strat_base.proofs.ListFacts.{Among, all_at, all_from, among_split}
use Rattle.def_state.proofs.SpaceLemmas.{deep_least}
use Rattle.def_split.proofs.ListLemmas.{filter_none}
use Rattle.def_split.proofs.CountedLemmas.{sum_same, sum_le_both}
use Rattle.def_promote.specs.Promoted.{promoted, levels_to}
use Rattle.def_promote.specs.Replaced.{IsNewLevel, Replaces}
use Rattle.def_promote.specs.Paid.{entries_written, IsLeastTarget}
use Rattle.def_promote.proofs.ReplacedLemmas.{fresh_is, kept_was, kept_deep, fresh_single, fresh_among, replaced_ordered}
use Rattle.def_promote.proofs.PromotedLemmas.{union_small}

-- numbers

power_some : (n : ℕ) → 1 ≤ 2 ^ n
power_some zero = omega arith
power_some (suc n) = let ih = power_some n in rw (pow-suc 2 n) (omega arith)

power_two : (n : ℕ) → 1 ≤ n → 2 ≤ 2 ^ n
power_two zero some = absurd (omega (arith, some))
power_two (suc n) some = let one = power_some n in rw (pow-suc 2 n) (omega (arith, one))

power_up : (n k : ℕ) → 2 ^ n ≤ 2 ^ (k + n)
power_up n zero = let same : 2 ^ (0 + n) ≡ 2 ^ n = ap (λ (e : ℕ). 2 ^ e) (omega arith) in omega (arith, same)
power_up n (suc k) = let ih = power_up n k in let double = pow-suc 2 (k + n) in let same : 2 ^ (suc k + n) ≡ 2 ^ suc (k + n) = ap (λ (e : ℕ). 2 ^ e) (omega arith) in omega (arith, ih, double, same)

-- the depth stays: each lead taken goes one level deeper at least, and the journal's changes go all the way
same_depth : (w c m d j x taken kept leads above initial n written half : ℕ) → d ≡ x + j → 1 ≤ j → w + 4 * (taken + kept) ≤ 4 * d * c → leads * x + above ≤ taken
    → written ≤ 2 * n → n ≤ initial + leads → initial ≤ m → n ≤ 2 * half → half ≤ m + above → w + written + 4 * (n * x + kept) ≤ 4 * d * (c + m)
same_depth w c m d j x taken kept leads above initial n written half split some paid moved few merged' small room half_le =
    let all = mul-le-mul_right {m = n} {n = m + leads} x (omega arith) in
    let one = mul-le-mul_right {m = 1} {n = j} m some in
    let depth : 4 * d * m ≡ 4 * (x + j) * m = ap (λ (k : ℕ). 4 * k * m) split in
    omega arith

-- the depth grows by one: all that is there may go one level deeper
more_depth : (w c m d j x taken kept deeper' leads above initial n written half count : ℕ) → d ≡ x + j → 1 ≤ j → w + 4 * (taken + kept) ≤ 4 * d * c → leads * x + above ≤ taken
    → written ≤ 2 * n → n ≤ initial + leads → initial ≤ m → n ≤ 2 * half → half ≤ m + above → deeper' ≤ kept + count → n + count ≤ c + m
    → w + written + 4 * (n * (x + 1) + deeper') ≤ 4 * (d + 1) * (c + m)
more_depth w c m d j x taken kept deeper' leads above initial n written half count split some paid moved few merged' small room half_le more all =
    let same = same_depth w c m d j x taken kept leads above initial n written half split some paid moved few merged' small room half_le in
    omega arith

-- the new level is the deepest: its entries are paid for by the new depth
new_depth : (w c m d n written kept : ℕ) → w + 4 * kept ≤ 4 * d * c → written ≤ 2 * n → n ≤ c + m → w + written + 4 * (n * 0 + 0) ≤ 4 * (d + 1) * (c + m)
new_depth w c m d n written kept paid few all = omega arith

-- sums

sum_both_le : {X : Type 0} (f g h : X → ℕ) (xs : List X) → ((x : X) → Among x xs → f x + g x ≤ h x) → sum_by f xs + sum_by g xs ≤ sum_by h xs
sum_both_le f g h [] each = omega arith
sum_both_le f g h (x ∷ xs) each =
    let here = each x (inl refl) in
    let rest = sum_both_le f g h xs (λ y among. each y (inr among)) in
    let left = sum_by-cons f x xs in
    let middle = sum_by-cons g x xs in
    let right = sum_by-cons h x xs in
    omega arith

sum_times : {X : Type 0} (f : X → ℕ) (k : ℕ) (xs : List X) → sum_by f xs * k ≡ sum_by (λ x. f x * k) xs
sum_times f k [] = omega arith
sum_times f k (x ∷ xs) =
    let rest = sum_times f k xs in
    let left = ap (λ (n : ℕ). n * k) (sum_by-cons f x xs) in
    let right = sum_by-cons (λ y. f y * k) x xs in
    omega arith

sum_none : {X : Type 0} (f : X → ℕ) (xs : List X) → ((x : X) → Among x xs → f x ≡ 0) → sum_by f xs ≡ 0
sum_none f [] each = refl
sum_none f (x ∷ xs) each =
    let here = each x (inl refl) in
    let rest = sum_none f xs (λ y among. each y (inr among)) in
    let whole = sum_by-cons f x xs in
    omega arith

pub sum_filter : {X : Type 0} (p : X → Bool) (f : X → ℕ) (xs : List X) → sum_by f (filter p xs) ≡ sum_by (λ x. cond (p x) (f x) 0) xs
sum_filter p f [] = refl
sum_filter p f (x ∷ xs) =
    let rest = sum_filter p f xs in
    let whole = sum_by-cons (λ y. cond (p y) (f y) 0) x xs in
    elim (p x) as (λ b. p x ≡ b → sum_by f (cond b (x ∷ filter p xs) (filter p xs)) ≡ sum_by (λ y. cond (p y) (f y) 0) (x ∷ xs)) [
      | true ↦ λ is. let term = ap {B = ℕ} (λ (b : Bool). cond b (f x) 0) is in let front = sum_by-cons f x (filter p xs) in omega (arith, rest, whole, term, front)
      | false ↦ λ is. let term = ap {B = ℕ} (λ (b : Bool). cond b (f x) 0) is in omega (arith, rest, whole, term)
    ] refl

-- levels

abbrev pub count : Level → ℕ
count level = length (level_leads level)

abbrev weight : ℕ → List Level → ℕ
weight d levels = sum_by (λ level. length (level_leads level) * (d - level.number)) levels

abbrev above_of : ℕ → List Level → ℕ
above_of i levels = sum_by (λ level. cond (leb level.number i) (length (level_leads level)) 0) levels

-- a lead above level j has one more level to go
weight_moved : (c n i d : ℕ) → i < d → n ≤ i + 1 → c * (d - (i + 1)) + cond (leb n i) c 0 ≤ c * (d - n)
weight_moved c n i d lt le =
    elim (cases_lt i n) [
      | inl here ↦
          let term = ap {B = ℕ} (λ (b : Bool). cond b c 0) (lt-leb n i here) in
          let same : d - (i + 1) ≡ d - n = omega (arith, le, here) in
          let equal = ap (λ (k : ℕ). c * k) same in
          omega (arith, term, equal)
      | inr shallow ↦
          let term = ap {B = ℕ} (λ (b : Bool). cond b c 0) (le-leb n i shallow) in
          let more = mul-le-mul_left {m = (d - (i + 1)) + 1} {n = d - n} c (omega (arith, lt, shallow)) in
          omega (arith, term, more)
    ]

weights_moved : (i d : ℕ) (levels : List Level) → i < d → ((level : Level) → Among level levels → level.number ≤ i + 1) → sum_by count levels * (d - (i + 1)) + above_of i levels ≤ weight d levels
weights_moved i d levels lt low =
    let whole = sum_times count (d - (i + 1)) levels in
    let both = sum_both_le (λ (level : Level). count level * (d - (i + 1))) (λ level. cond (leb level.number i) (count level) 0) (λ level. count level * (d - level.number)) levels (λ level among.
    weight_moved (count level) level.number i d lt (low level among)) in
    omega (arith, whole, both)

weights_up : (d : ℕ) (levels : List Level) → weight (d + 1) levels ≤ weight d levels + sum_by count levels
weights_up d levels =
    sum_le_both (λ (level : Level). count level * ((d + 1) - level.number)) (λ level. count level * (d - level.number)) count levels (λ level among.
    let more = mul-le-mul_left {m = (d + 1) - level.number} {n = (d - level.number) + 1} (count level) (omega arith) in
    omega (arith, more))

-- the entries of stratified levels with true descriptors are at most twice their leads

arrays_written : (s : State) (arrays : List TaggedArray) → list_all is_led arrays ≡ true → list_all (is_described s) arrays ≡ true → sum_by (λ a. a.entries) arrays ≤ 2 * length (flat_map own_leads arrays)
arrays_written s [] led told = omega arith
arrays_written s (a ∷ arrays) led told =
    let first = and_parts (is_led a) (list_all is_led arrays) led in
    let second = and_parts (is_described s a) (list_all (is_described s) arrays) told in
    let front = and_parts (eqb a.entries (length a.content) && eqb a.leads (length (own_leads a))) (eqb a.least (least_live (versions_of s) a)) second.0 in
    let numbers = and_parts (eqb a.entries (length a.content)) (eqb a.leads (length (own_leads a))) front.0 in
    let size = eqb-true a.entries (length a.content) numbers.0 in
    let here = leb-true (length a.content) (2 * length (own_leads a)) first.0 in
    let rest = arrays_written s arrays first.1 second.1 in
    let sum = sum_by-cons (λ (x : TaggedArray). x.entries) a arrays in
    let joined = length-append (own_leads a) (flat_map own_leads arrays) in
    omega (arith, size, here, rest, sum, joined)

levels_written : (s : State) (j : ℕ) (levels : List Level) → ((level : Level) → Among level levels → IsNewLevel s j level) → entries_written levels ≤ 2 * sum_by count levels
levels_written s j [] each = omega arith
levels_written s j (level ∷ levels) each =
    let is = each level (inl refl) in
    let here = arrays_written s level.arrays is.stratified.led is.described in
    let rest = levels_written s j levels (λ l among. each l (inr among)) in
    let left = sum_by-cons (λ (l : Level). sum_by (λ a. a.entries) l.arrays) level levels in
    let right = sum_by-cons count level levels in
    omega (arith, here, rest, left, right)

-- the journal

pub latest_few : (entries : List Entry) → length (latest entries) ≤ length entries
latest_few [] = omega arith
latest_few (e ∷ entries) =
    let rest = latest_few entries in
    elim (list_any (is_at e.key e.version) entries) as (λ b. length (cond b (latest entries) (e ∷ latest entries)) ≤ suc (length entries)) [
      | true ↦ omega arith
      | false ↦ omega arith
    ]

pub updates_few : (journal : List Change) → length (filter_map update_of journal) ≤ length journal
updates_few [] = omega arith
updates_few (Put v key value ∷ journal) = let rest = updates_few journal in omega arith
updates_few (Delete v key ∷ journal) = let rest = updates_few journal in omega arith
updates_few (Clone v ∷ journal) = let rest = updates_few journal in omega arith
updates_few (DropVersion v ∷ journal) = let rest = updates_few journal in omega arith

module _ (s : State) (sound : IsOrdered s) (some : 0 < s.mem) (honest : s.updates ≤ s.changes) (paid : IsPaid s)
    (j : ℕ) (taken kept fresh : List Level) (entries over : List Entry) (r : Replaces s j taken kept fresh entries over)
    (low_taken : list_all (λ level. leb level.number j) taken ≡ true) (least : IsLeastTarget s j) where
  abbrev depth : ℕ
  depth = deep s.mem s.changes

  abbrev depth_after : ℕ
  depth_after = deep s.mem (changes_of s)

  zero_few : length (level_zero s) ≤ length s.journal
  zero_few = let first = latest_few (journal_updates s) in let second = updates_few s.journal in omega (arith, first, second)

  leads_few : sum_by count s.levels ≤ s.updates
  leads_few = leb-true (sum_by count s.levels) s.updates sound.few

  depth_grows : (depth ≤ depth_after) × (depth_after ≤ depth + 1)
  depth_grows =
      let before = deep_least s.mem s.changes some in
      let after = deep_least s.mem (changes_of s) some in
      let first = before.1 in
      let last = after.1 in
      let fits = leb-true (length s.journal) (journal_max s.mem) sound.formed.fits in
      let double : s.mem * 2 ^ suc depth ≡ s.mem * (2 ^ depth * 2) = ap (λ (p : ℕ). s.mem * p) (pow-suc 2 depth) in
      let ample = mul-le-mul_left {m = 2} {n = 2 ^ depth} s.mem (power_two depth before.0) in
      let next : s.mem * 2 ^ (depth + 1) ≡ s.mem * 2 ^ suc depth = ap (λ (e : ℕ). s.mem * 2 ^ e) (omega arith) in
      (before.2 depth_after after.0 (omega (arith, last)), after.2 (depth + 1) (omega arith) (omega (arith, first, fits, double, ample, next)))

  -- the target is no deeper than the changes ask for
  target_depth : j ≤ depth_after
  target_depth =
      let after = deep_least s.mem (changes_of s) some in
      let first = after.0 in
      let last = after.1 in
      let low = r.takes.least in
      elim (cases_lt depth_after j) [
        | inr le ↦ le
        | inl deeper ↦
            let crowd = least.crowded depth_after first deeper in
            let fewer = sum_to depth_after s.levels in
            let initial = zero_few in
            let all = leads_few in
            absurd (omega (arith, crowd, fewer, initial, all, last, honest))
      ]
    where
      sum_to : (i : ℕ) (levels : List Level) → sum_by count (levels_to i levels) ≤ sum_by count levels
      sum_to i levels =
          let is = sum_filter (λ (level : Level). leb level.number i) count levels in
          let le = sum_le_both (λ (level : Level). cond (leb level.number i) (count level) 0) count (λ level. 0) levels (λ level among. part (leb level.number i) (count level)) in
          let none = sum_none (λ (level : Level). 0) levels (λ level among. refl) in
          omega (arith, is, le, none)
        where
          part : (b : Bool) (n : ℕ) → cond b n 0 ≤ n + 0
          part true n = omega arith
          part false n = omega arith

  -- half of what the target holds is in the journal and above the target
  half_taken : s.mem * 2 ^ (j - 1) ≤ length s.journal + above_of (j - 1) taken
  half_taken =
      let low = r.takes.least in
      elim (cases_eq j 1) [
        | inl one ↦
            let full = least.full one in
            let nothing : j - 1 ≡ 0 = omega (arith, one) in
            let power = ap (λ (e : ℕ). s.mem * 2 ^ e) nothing in
            omega (arith, full, power)
        | inr apart ↦
            let crowd = least.crowded (j - 1) (omega (arith, low, apart)) (omega (arith, low)) in
            let initial = zero_few in
            let is = sum_filter (λ (level : Level). leb level.number (j - 1)) count taken in
            let cut = ap (λ (levels : List Level). sum_by count (levels_to (j - 1) levels)) r.takes.levels_are in
            let parts = ap (λ (levels : List Level). sum_by count levels) (filter-append (λ (level : Level). leb level.number (j - 1)) taken kept) in
            let both = sum_by-append count (levels_to (j - 1) taken) (levels_to (j - 1) kept) in
            let none = ap (λ (levels : List Level). sum_by count levels) (filter_none (λ (level : Level). leb level.number (j - 1)) kept (λ level among.
            let deep' = kept_deep s sound j taken kept fresh entries over r 0 0 level among in lt-leb level.number (j - 1) (omega (arith, deep', low)))) in
            omega (arith, crowd, initial, is, cut, parts, both, none)
      ]

  -- what is owed at a depth after the promotion
  abbrev Owed : ℕ → Type 0
  Owed e = s.written + entries_written fresh + 4 * weight e (fresh ++ kept) ≤ 4 * e * (s.changes + length s.journal)

  weight_before : (e : ℕ) → weight e s.levels ≡ weight e taken + weight e kept
  weight_before e = ap (λ (levels : List Level). weight e levels) r.takes.levels_are ∙ sum_by-append (λ (level : Level). count level * (e - level.number)) taken kept

  weight_fresh : (e : ℕ) → weight e fresh ≡ sum_by count fresh * (e - j)
  weight_fresh e =
      sum_same (λ (level : Level). count level * (e - level.number)) (λ level. count level * (e - j)) fresh (λ level here.
      ap (λ (k : ℕ). count level * (e - k)) (fresh_is s sound j taken kept fresh entries over r 0 0 level here).number)
      ∙ sym (sum_times count (e - j) fresh)

  weight_after : (e : ℕ) → weight e (fresh ++ kept) ≡ sum_by count fresh * (e - j) + weight e kept
  weight_after e = sum_by-append (λ (level : Level). count level * (e - level.number)) fresh kept ∙ ap (λ (n : ℕ). n + weight e kept) (weight_fresh e)

  was_paid : s.written + 4 * (weight depth taken + weight depth kept) ≤ 4 * depth * s.changes
  was_paid =
      let before = leb-true (s.written + 4 * weight depth s.levels) (4 * depth * s.changes) paid.bounded in
      let parts = weight_before depth in
      omega (arith, before, parts)

  written_few : entries_written fresh ≤ 2 * sum_by count fresh
  written_few = levels_written s j fresh (λ level here. fresh_is s sound j taken kept fresh entries over r 0 0 level here)

  fresh_small : sum_by count fresh ≤ length (level_zero s) + sum_by count taken
  fresh_small =
      let size = length-flat_map level_leads fresh in
      let small = union_small s sound j taken kept entries r.takes r.union (flat_map level_leads fresh) (fresh_single s sound j taken kept fresh entries over r 0 0) (fresh_among s sound j taken kept fresh entries over r 0 0) in
      omega (arith, size, small)

  fresh_room : sum_by count fresh ≤ 2 * (s.mem * 2 ^ (j - 1))
  fresh_room =
      let low = r.takes.least in
      let room = r.takes.room in
      let small = fresh_small in
      let next : suc (j - 1) ≡ j = omega (arith, low) in
      let same = ap (λ (e : ℕ). s.mem * 2 ^ e) next in
      let double : s.mem * 2 ^ suc (j - 1) ≡ s.mem * (2 ^ (j - 1) * 2) = ap (λ (p : ℕ). s.mem * p) (pow-suc 2 (j - 1)) in
      omega (arith, room, small, same, double)

  all_few : sum_by count fresh + sum_by count kept ≤ s.changes + length s.journal
  all_few =
      let few = leb-true (sum_by count (fresh ++ kept)) (updates_of s) (replaced_ordered s sound j taken kept fresh entries over r 0 0).few in
      let parts = sum_by-append count fresh kept in
      let updates = updates_few s.journal in
      omega (arith, few, parts, updates, honest)

  taken_moved : (e : ℕ) → j ≤ e → sum_by count taken * (e - j) + above_of (j - 1) taken ≤ weight e taken
  taken_moved e le =
      let low = r.takes.least in
      let moved = weights_moved (j - 1) e taken (omega (arith, le, low)) (λ level here.
      let shallow = leb-true level.number j (all_at (λ l. leb l.number j) level taken low_taken here) in omega (arith, shallow, low)) in
      let same : e - ((j - 1) + 1) ≡ e - j = omega (arith, low) in
      let equal = ap (λ (k : ℕ). sum_by count taken * k) same in
      omega (arith, moved, equal)

  stays : j ≤ depth → Owed depth
  stays le =
      let after = weight_after depth in
      let split : depth ≡ (depth - j) + j = omega (arith, le) in
      let owed = same_depth s.written s.changes (length s.journal) depth j (depth - j) (weight depth taken) (weight depth kept) (sum_by count taken) (above_of (j - 1) taken) (length (level_zero s)) (sum_by count fresh) (entries_written fresh) (s.mem * 2 ^ (j - 1))
      split r.takes.least was_paid (taken_moved depth le) written_few fresh_small zero_few fresh_room half_taken in
      omega (arith, after, owed)

  grows : j ≤ depth → Owed (depth + 1)
  grows le =
      let after = weight_after (depth + 1) in
      let split : depth ≡ (depth - j) + j = omega (arith, le) in
      let owed = more_depth s.written s.changes (length s.journal) depth j (depth - j) (weight depth taken) (weight depth kept) (weight (depth + 1) kept) (sum_by count taken) (above_of (j - 1) taken) (length (level_zero s)) (sum_by count fresh) (entries_written fresh) (s.mem * 2 ^ (j - 1)) (sum_by count kept)
      split r.takes.least was_paid (taken_moved depth le) written_few fresh_small zero_few fresh_room half_taken (weights_up depth kept) all_few in
      let next : (depth + 1) - j ≡ (depth - j) + 1 = omega (arith, le) in
      let same = ap (λ (k : ℕ). sum_by count fresh * k) next in
      omega (arith, after, owed, same)

  deepest : j ≡ depth + 1 → Owed (depth + 1)
  deepest is =
      let after = weight_after (depth + 1) in
      let nothing : (depth + 1) - j ≡ 0 = omega (arith, is) in
      let same = ap (λ (k : ℕ). sum_by count fresh * k) nothing in
      let none = sum_none (λ (level : Level). count level * ((depth + 1) - level.number)) kept (λ level there.
      let deep' = kept_deep s sound j taken kept fresh entries over r 0 0 level there in
      let gone : (depth + 1) - level.number ≡ 0 = omega (arith, deep', is) in
      let term = ap (λ (k : ℕ). count level * k) gone in
      omega (arith, term)) in
      let before = was_paid in
      let few = written_few in
      let all = all_few in
      let owed = new_depth s.written s.changes (length s.journal) depth (sum_by count fresh) (entries_written fresh) (weight depth taken + weight depth kept) before few (omega (arith, all)) in
      omega (arith, after, same, none, owed)

  owed_after : Owed depth_after
  owed_after =
      let bounds = depth_grows in
      let low = bounds.0 in
      let high = bounds.1 in
      let target = target_depth in
      elim (cases_eq depth_after depth) [
        | inl same ↦ subst Owed (sym same) (stays (omega (arith, target, same)))
        | inr apart ↦
            let next : depth_after ≡ depth + 1 = omega (arith, low, high, apart) in
            elim (cases_lt depth j) [
              | inl deeper ↦ subst Owed (sym next) (deepest (omega (arith, deeper, target, next)))
              | inr le ↦ subst Owed (sym next) (grows le)
            ]
      ]

  -- the state after the promotion, with what it wrote
  pub paid_after : (next_array : ℕ) → IsPaid (promoted s (fresh ++ kept) (s.written + entries_written fresh) next_array)
  paid_after next_array = record {
    shallow =
        all_from (λ level. eqb (count level) 0 || leb level.number depth_after) (fresh ++ kept) (λ level among.
        elim (among_split fresh kept level among) [
          | inl here ↦
              let number = (fresh_is s sound j taken kept fresh entries over r 0 0 level here).number in
              let low = target_depth in
              or_right (eqb (count level) 0) (leb level.number depth_after) (le-leb level.number depth_after (omega (arith, number, low)))
          | inr there ↦
              let was = kept_was s sound j taken kept fresh entries over r 0 0 level there in
              elim (or_cases (eqb (count level) 0) (leb level.number depth) (all_at (λ l. eqb (count l) 0 || leb l.number depth) level s.levels paid.shallow was)) [
                | inl none ↦ or_left (eqb (count level) 0) (leb level.number depth_after) none
                | inr low ↦
                    let le = leb-true level.number depth low in
                    let grows = depth_grows.0 in
                    or_right (eqb (count level) 0) (leb level.number depth_after) (le-leb level.number depth_after (omega (arith, le, grows)))
              ]
        ]);
    bounded = le-leb (s.written + entries_written fresh + 4 * weight depth_after (fresh ++ kept)) (4 * depth_after * (s.changes + length s.journal)) owed_after;
  }
