-- Levels that hold those of a state have as many leads, and are cut at a number as they are.
use Rattle.std.proofs.Common.{◌≡◌, ◌<◌, ◌≤◌, ◌+◌, ℕ, zero, suc, Bool, true, false, not, is_some, cond, eqb, leb, ltb, ◌&&◌, inl, inr, List, [], ◌∷◌, length, length-append, map, filter, flat_map, take, drop, get_or, Option, Some, None, refl, sym, ap, ◌∙◌, subst, arith}
use Rattle.std.specs.List.{list_all, range_with_len, filter_map, sum, sum_by}
use Rattle.std.specs.Option.{option_map, option_and_then, option_to_list}
use Rattle.std.proofs.lemmas.Bool.{and_parts, eqb-true, eq-eqb, ne_eqb, le-leb, lt-leb, lt-ltb, le-ltb}
use Rattle.std.proofs.lemmas.List.{get_or_past}
use Rattle.std.proofs.lemmas.List.FromFn.{take-map-range_with_len}
use Rattle.std.proofs.lemmas.List.Sums.{sum_by-cons, sum-map}
use Rattle.strat_base.specs.Entries.{Entry, latest}
use Rattle.strat_base.specs.declared.descriptors.ArrayDesc.{ArrayDesc}
use Rattle.strat_base.specs.declared.descriptors.LevelDesc.{LevelDesc}
use Rattle.strat_base.proofs.ListFacts.{Among}
use Rattle.def_crash.specs.Image.{Image}
use Rattle.def_bytes.specs.Arrays.{all_some, blocks_of, entries_on}
use Rattle.strat_level.specs.Levels.{leads_if_any}
use Rattle.def_split.proofs.ListLemmas.{filter_none, filter_every}
use Rattle.def_promote.specs.Paid.{entries_written}
use Rattle.def_promote.proofs.PaidLemmas.{count, sum_filter}
use Rattle.def_promote.proofs.UnionLemmas.{found_among, single_fits}
use Rattle.def_recovery.specs.Opened.{array_on, level_on}
use Rattle.def_recovery.proofs.OpeningLemmas.{map_some, each_some}
use Rattle.def_state.specs.Level.{TaggedArray, Level, own_leads, least_live}
use Rattle.def_state.specs.Setting.{set_all}
use Rattle.def_state.specs.Sound.{is_described}
use Rattle.def_state.specs.State.{State, versions_of}
use Rattle.def_state.proofs.LevelLemmas.{ascending_single}
use Rattle.def_state.proofs.SoundLemmas.{latest_single}
use Rattle.def_state.proofs.UpdateLemmas.{all_ascending, all_latest}
use Rattle.strat_promote.specs.Promotions.{entries_if_any}

-- the latest of updates are as many as are left where they are set one after another
pub latest_len : (updates : List Entry) → length (latest updates) ≡ length (set_all updates)
latest_len updates =
    let up = ascending_single (set_all updates) (all_ascending updates) in
    let less = single_fits (latest updates) (set_all updates) (latest_single updates)
    (λ e among. found_among (latest updates) (set_all updates) (λ key u. sym (all_latest key u updates)) (latest_single updates) e among) in
    let more = single_fits (set_all updates) (latest updates) up (λ e among. found_among (set_all updates) (latest updates) (λ key u. all_latest key u updates) up e among) in
    omega (arith, less, more)

-- sums over a range that agree at each of its numbers
range_sums : (F G : ℕ → ℕ) (a n : ℕ) → ((i : ℕ) → a ≤ i → F i ≡ G i) → sum_by F (range_with_len a n) ≡ sum_by G (range_with_len a n)
range_sums F G a zero same = refl
range_sums F G a (suc n) same =
    let rest = range_sums F G (a + 1) n (λ i le. same i (omega (arith, le))) in
    let here = same a (omega arith) in
    let left = sum_by-cons F a (range_with_len (a + 1) n) in
    let right = sum_by-cons G a (range_with_len (a + 1) n) in
    omega (arith, rest, here, left, right)

pub sums_to : (x : ℕ) (F G : ℕ → ℕ) (m j : ℕ) → j ≤ m → G 0 ≡ x → ((i : ℕ) → 1 ≤ i → F i ≡ G i)
    → sum (take (j + 1) (x ∷ map F (range_with_len 1 m))) ≡ sum_by G (range_with_len 0 (suc j))
sums_to x F G m j le first same =
    let next : j + 1 ≡ suc j = omega arith in
    let front : take (j + 1) (x ∷ map F (range_with_len 1 m)) ≡ x ∷ map F (range_with_len 1 j) =
    ap (λ (k : ℕ). take k (x ∷ map F (range_with_len 1 m))) next ∙ ap (λ (xs : List ℕ). x ∷ xs) (take-map-range_with_len F 1 m j le) in
    let left = ap sum front in
    let cons = sum_by-cons (λ (n : ℕ). n) x (map F (range_with_len 1 j)) in
    let mapped = sum-map F (range_with_len 1 j) in
    let rest = range_sums F G 1 j same in
    let right = sum_by-cons G 0 (range_with_len 1 j) in
    omega (arith, left, cons, mapped, rest, right, first)

-- the levels that are there, and that each has the number of its place, counted from behind k on
abbrev pub there : List (Option LevelDesc) → List LevelDesc
there levels = filter_map (λ level. level) levels

abbrev pub AreCounted : ℕ → List (Option LevelDesc) → Type 0
AreCounted k levels = (i : ℕ) (desc : LevelDesc) → get_or levels i None ≡ Some desc → desc.number ≡ k + i + 1

counted_rest : (k : ℕ) (level : Option LevelDesc) (levels : List (Option LevelDesc)) → AreCounted k (level ∷ levels) → AreCounted (k + 1) levels
counted_rest k level levels counted i desc at = let e = counted (suc i) desc at in omega (arith, e)

module _ (f : Image) where
  level_number : (desc : LevelDesc) (level : Level) → level_on f desc ≡ Some level → level.number ≡ desc.number
  level_number desc level on =
      let made = map_some (λ arrays. record { number = desc.number; horizon = desc.horizon; arrays = arrays }) (all_some (array_on f) desc.arrays) level on in
      sym (ap (λ (l : Level). l.number) made.2)

  head_number : (k : ℕ) (desc : LevelDesc) (levels : List (Option LevelDesc)) (level : Level) → AreCounted k (Some desc ∷ levels) → level_on f desc ≡ Some level → level.number ≡ k + 1
  head_number k desc levels level counted on = let e = counted 0 desc refl in let n = level_number desc level on in omega (arith, e, n)

  all_deep : (k : ℕ) (levels : List (Option LevelDesc)) (out : List Level) → AreCounted k levels → all_some (level_on f) (there levels) ≡ Some out
      → (level : Level) → Among level out → k < level.number
  all_deep k [] out counted on level among = let none : [] ≡ out = cc in absurd (subst (λ (ls : List Level). Among level ls) (sym none) among)
  all_deep k (None ∷ levels) out counted on level among = let lt = all_deep (k + 1) levels out (counted_rest k None levels counted) on level among in omega (arith, lt)
  all_deep k (Some desc ∷ levels) out counted on level among =
      let parts = each_some (level_on f) desc (there levels) out on in
      elim (subst (λ (ls : List Level). Among level ls) (sym parts.4) among) [
        | inl same ↦ let n = head_number k desc levels parts.0 counted parts.2 in let e = ap (λ (l : Level). l.number) same in omega (arith, n, e)
        | inr rest ↦ let lt = all_deep (k + 1) levels parts.1 (counted_rest k (Some desc) levels counted) parts.3 level rest in omega (arith, lt)
      ]

  -- the levels down to a number
  pub taken_on : (k : ℕ) (levels : List (Option LevelDesc)) (out : List Level) (j : ℕ) → AreCounted k levels → all_some (level_on f) (there levels) ≡ Some out
      → all_some (level_on f) (there (take j levels)) ≡ Some (filter (λ level. leb level.number (k + j)) out)
  taken_on k levels out zero counted on =
      ap (λ (ls : List Level). Some ls)
      (sym (filter_none (λ (l : Level). leb l.number (k + 0)) out (λ l among. let lt = all_deep k levels out counted on l among in lt-leb l.number (k + 0) (omega (arith, lt)))))
  taken_on k [] out (suc j) counted on =
      let none : [] ≡ out = cc in ap (λ (ls : List Level). Some (filter (λ level. leb level.number (k + suc j)) ls)) none
  taken_on k (None ∷ levels) out (suc j) counted on =
      let place : k + 1 + j ≡ k + suc j = omega arith in
      taken_on (k + 1) levels out j (counted_rest k None levels counted) on ∙ ap (λ (n : ℕ). Some (filter (λ level. leb level.number n) out)) place
  taken_on k (Some desc ∷ levels) out (suc j) counted on =
      let parts = each_some (level_on f) desc (there levels) out on in
      let place : k + 1 + j ≡ k + suc j = omega arith in
      let rest : all_some (level_on f) (there (take j levels)) ≡ Some (filter (λ level. leb level.number (k + suc j)) parts.1) =
      taken_on (k + 1) levels parts.1 j (counted_rest k (Some desc) levels counted) parts.3 ∙ ap (λ (n : ℕ). Some (filter (λ level. leb level.number n) parts.1)) place in
      let number = head_number k desc levels parts.0 counted parts.2 in
      let is_to : leb parts.0.number (k + suc j) ≡ true = le-leb parts.0.number (k + suc j) (omega (arith, number)) in
      let behind : List Level = filter (λ level. leb level.number (k + suc j)) parts.1 in
      ap (λ o. option_and_then (λ y. option_map (λ ys. y ∷ ys) (all_some (level_on f) (there (take j levels)))) o) parts.2
      ∙ ap (λ o. option_map (λ ys. parts.0 ∷ ys) o) rest
      ∙ sym (λ i. Some (cond (is_to i) (parts.0 ∷ behind) behind))
      ∙ ap (λ (ls : List Level). Some (filter (λ level. leb level.number (k + suc j)) ls)) parts.4

  none_there : (levels : List (Option LevelDesc)) (out : List Level) → all_some (level_on f) (there levels) ≡ Some out → list_all (λ level. not (is_some level)) levels ≡ eqb (length out) 0
  none_there [] out on = let none : [] ≡ out = cc in ap (λ (ls : List Level). eqb (length ls) 0) none
  none_there (None ∷ levels) out on = none_there levels out on
  none_there (Some desc ∷ levels) out on =
      let parts = each_some (level_on f) desc (there levels) out on in
      let len : length (parts.0 ∷ parts.1) ≡ length out = ap (λ (ls : List Level). length ls) parts.4 in
      sym (ne_eqb (length out) 0 (λ e. omega (arith, e, len)))

  -- no level lies behind a number where none of the state does
  pub behind_none : (k : ℕ) (levels : List (Option LevelDesc)) (out : List Level) (j : ℕ) → AreCounted k levels → all_some (level_on f) (there levels) ≡ Some out
      → list_all (λ level. not (is_some level)) (drop j levels) ≡ eqb (length (filter (λ (level : Level). ltb (k + j) level.number) out)) 0
  behind_none k levels out zero counted on =
      none_there levels out on
      ∙ ap (λ (ls : List Level). eqb (length ls) 0)
      (sym (filter_every (λ (l : Level). ltb (k + 0) l.number) out (λ l among. let lt = all_deep k levels out counted on l among in lt-ltb (k + 0) l.number (omega (arith, lt)))))
  behind_none k [] out (suc j) counted on =
      let none : [] ≡ out = cc in ap (λ (ls : List Level). eqb (length (filter (λ (level : Level). ltb (k + suc j) level.number) ls)) 0) none
  behind_none k (None ∷ levels) out (suc j) counted on =
      let place : k + 1 + j ≡ k + suc j = omega arith in
      behind_none (k + 1) levels out j (counted_rest k None levels counted) on ∙ ap (λ (n : ℕ). eqb (length (filter (λ (level : Level). ltb n level.number) out)) 0) place
  behind_none k (Some desc ∷ levels) out (suc j) counted on =
      let parts = each_some (level_on f) desc (there levels) out on in
      let place : k + 1 + j ≡ k + suc j = omega arith in
      let number = head_number k desc levels parts.0 counted parts.2 in
      let shallow : ltb (k + suc j) parts.0.number ≡ false = le-ltb (k + suc j) parts.0.number (omega (arith, number)) in
      let behind : List Level = filter (λ (level : Level). ltb (k + suc j) level.number) parts.1 in
      behind_none (k + 1) levels parts.1 j (counted_rest k (Some desc) levels counted) parts.3
      ∙ ap (λ (n : ℕ). eqb (length (filter (λ (level : Level). ltb n level.number) parts.1)) 0) place
      ∙ sym (λ i. eqb (length (cond (shallow i) (parts.0 ∷ behind) behind)) 0)
      ∙ ap (λ (ls : List Level). eqb (length (filter (λ (level : Level). ltb (k + suc j) level.number) ls)) 0) parts.4

  -- The leads and the entries of a level that stands in an image.

  array_entries : (desc : ArrayDesc) (a : TaggedArray) → array_on f desc ≡ Some a → a.entries ≡ desc.entries
  array_entries desc a on =
      let made = map_some (λ entries. record { id = desc.id; tag = desc.versions; content = entries; entries = desc.entries; leads = desc.leads; least = desc.least }) (entries_on f (blocks_of desc.extents)) a on in
      sym (ap (λ (x : TaggedArray). x.entries) made.2)

  arrays_entries : (descs : List ArrayDesc) (arrays : List TaggedArray) → all_some (array_on f) descs ≡ Some arrays
      → sum_by (λ (a : TaggedArray). a.entries) arrays ≡ sum_by (λ (a : ArrayDesc). a.entries) descs
  arrays_entries [] arrays on = let none : [] ≡ arrays = cc in ap (λ (ts : List TaggedArray). sum_by (λ (a : TaggedArray). a.entries) ts) (sym none)
  arrays_entries (desc ∷ descs) arrays on =
      let parts = each_some (array_on f) desc descs arrays on in
      let one = array_entries desc parts.0 parts.2 in
      let rest = arrays_entries descs parts.1 parts.3 in
      let whole = sum_by-cons (λ (a : ArrayDesc). a.entries) desc descs in
      let front = sum_by-cons (λ (a : TaggedArray). a.entries) parts.0 parts.1 in
      let same = ap (λ (ts : List TaggedArray). sum_by (λ (a : TaggedArray). a.entries) ts) parts.4 in
      omega (arith, one, rest, whole, front, same)

  level_entries : (desc : LevelDesc) (level : Level) → level_on f desc ≡ Some level → sum_by (λ (a : TaggedArray). a.entries) level.arrays ≡ sum_by (λ (a : ArrayDesc). a.entries) desc.arrays
  level_entries desc level on =
      let made = map_some (λ arrays. record { number = desc.number; horizon = desc.horizon; arrays = arrays }) (all_some (array_on f) desc.arrays) level on in
      let same : made.0 ≡ level.arrays = ap (λ (l : Level). l.arrays) made.2 in
      ap (λ (ts : List TaggedArray). sum_by (λ (a : TaggedArray). a.entries) ts) (sym same) ∙ arrays_entries desc.arrays made.0 made.1

  -- what is written is what the descriptors say
  pub entries_told : (made : Option LevelDesc) (fresh : List Level) → all_some (level_on f) (option_to_list made) ≡ Some fresh → entries_written fresh ≡ entries_if_any made
  entries_told None fresh on = let none : [] ≡ fresh = cc in ap entries_written (sym none)
  entries_told (Some desc) fresh on =
      let parts = each_some (level_on f) desc [] fresh on in
      let none : [] ≡ parts.1 = let e = parts.3 in cc in
      let one = level_entries desc parts.0 parts.2 in
      let front = sum_by-cons (λ (level : Level). sum_by (λ (a : TaggedArray). a.entries) level.arrays) parts.0 parts.1 in
      let empty = ap entries_written none in
      let same = ap entries_written parts.4 in
      omega (arith, one, front, empty, same)

  module _ (s : State) where
    array_count : (desc : ArrayDesc) (a : TaggedArray) → array_on f desc ≡ Some a → is_described s a ≡ true → length (own_leads a) ≡ desc.leads
    array_count desc a on is =
        let made = map_some (λ entries. record { id = desc.id; tag = desc.versions; content = entries; entries = desc.entries; leads = desc.leads; least = desc.least }) (entries_on f (blocks_of desc.extents)) a on in
        let leads : desc.leads ≡ a.leads = ap (λ (x : TaggedArray). x.leads) made.2 in
        sym (leads
        ∙ eqb-true a.leads (length (own_leads a))
        (and_parts (eqb a.entries (length a.content)) (eqb a.leads (length (own_leads a)))
        (and_parts (eqb a.entries (length a.content) && eqb a.leads (length (own_leads a))) (eqb a.least (least_live (versions_of s) a)) is).0).1)

    arrays_count : (descs : List ArrayDesc) (arrays : List TaggedArray) → all_some (array_on f) descs ≡ Some arrays → list_all (is_described s) arrays ≡ true
        → length (flat_map own_leads arrays) ≡ sum_by (λ (a : ArrayDesc). a.leads) descs
    arrays_count [] arrays on is = let none : [] ≡ arrays = cc in ap (λ (ts : List TaggedArray). length (flat_map own_leads ts)) (sym none)
    arrays_count (desc ∷ descs) arrays on is =
        let parts = each_some (array_on f) desc descs arrays on in
        let both = and_parts (is_described s parts.0) (list_all (is_described s) parts.1) (ap (λ (ts : List TaggedArray). list_all (is_described s) ts) parts.4 ∙ is) in
        let one = array_count desc parts.0 parts.2 both.0 in
        let rest = arrays_count descs parts.1 parts.3 both.1 in
        let whole = sum_by-cons (λ (a : ArrayDesc). a.leads) desc descs in
        let len = length-append (own_leads parts.0) (flat_map own_leads parts.1) in
        let same = ap (λ (ts : List TaggedArray). length (flat_map own_leads ts)) parts.4 in
        omega (arith, one, rest, whole, len, same)

    level_count : (desc : LevelDesc) (level : Level) → level_on f desc ≡ Some level → list_all (is_described s) level.arrays ≡ true → count level ≡ leads_if_any (Some desc)
    level_count desc level on is =
        let made = map_some (λ arrays. record { number = desc.number; horizon = desc.horizon; arrays = arrays }) (all_some (array_on f) desc.arrays) level on in
        let same : made.0 ≡ level.arrays = ap (λ (l : Level). l.arrays) made.2 in
        ap (λ (ts : List TaggedArray). length (flat_map own_leads ts)) (sym same) ∙ arrays_count desc.arrays made.0 made.1 (ap (λ (ts : List TaggedArray). list_all (is_described s) ts) same ∙ is)

    -- the leads of the levels of a number
    abbrev leads_of : ℕ → List Level → ℕ
    leads_of n out = sum_by count (filter (λ level. eqb level.number n) out)

    leads_cons : (n : ℕ) (level : Level) (rest : List Level) → leads_of n (level ∷ rest) ≡ cond (eqb level.number n) (count level) 0 + leads_of n rest
    leads_cons n level rest =
        let all = sum_filter (λ (l : Level). eqb l.number n) count (level ∷ rest) in
        let others = sum_filter (λ (l : Level). eqb l.number n) count rest in
        let front = sum_by-cons (λ (l : Level). cond (eqb l.number n) (count l) 0) level rest in
        omega (arith, all, others, front)

    pub leads_none : (k n : ℕ) (levels : List (Option LevelDesc)) (out : List Level) → n ≤ k → AreCounted k levels → all_some (level_on f) (there levels) ≡ Some out → leads_of n out ≡ 0
    leads_none k n levels out le counted on =
        ap (λ (ls : List Level). sum_by count ls)
        (filter_none (λ (l : Level). eqb l.number n) out (λ l among. ne_eqb l.number n (λ same. let lt = all_deep k levels out counted on l among in omega (arith, same, le, lt))))

    pub leads_found : (k : ℕ) (levels : List (Option LevelDesc)) (out : List Level) (i : ℕ) → AreCounted k levels → all_some (level_on f) (there levels) ≡ Some out
        → list_all (λ (level : Level). list_all (is_described s) level.arrays) out ≡ true → leads_of (k + i + 1) out ≡ leads_if_any (get_or levels i None)
    leads_found k [] out i counted on is =
        let none : [] ≡ out = cc in
        ap (λ (ls : List Level). leads_of (k + i + 1) ls) (sym none) ∙ sym (ap leads_if_any (get_or_past [] i None (omega arith)))
    leads_found k (None ∷ levels) out zero counted on is = leads_none (k + 1) (k + 0 + 1) levels out (omega arith) (counted_rest k None levels counted) on
    leads_found k (None ∷ levels) out (suc i) counted on is =
        let place : k + suc i + 1 ≡ k + 1 + i + 1 = omega arith in
        ap (λ (n : ℕ). leads_of n out) place ∙ leads_found (k + 1) levels out i (counted_rest k None levels counted) on is
    leads_found k (Some desc ∷ levels) out i counted on is =
        let parts = each_some (level_on f) desc (there levels) out on in
        let both = and_parts (list_all (is_described s) parts.0.arrays) (list_all (λ (level : Level). list_all (is_described s) level.arrays) parts.1)
        (ap (λ (ls : List Level). list_all (λ (level : Level). list_all (is_described s) level.arrays) ls) parts.4 ∙ is) in
        let number = head_number k desc levels parts.0 counted parts.2 in
        let later = counted_rest k (Some desc) levels counted in
        let same = ap (λ (ls : List Level). leads_of (k + i + 1) ls) parts.4 in
        let front = leads_cons (k + i + 1) parts.0 parts.1 in
        go i parts.0 parts.1 number (level_count desc parts.0 parts.2 both.0) (λ n le. leads_none (k + 1) n levels parts.1 le later parts.3) (λ m. leads_found (k + 1) levels parts.1 m later parts.3 both.1) (sym same ∙ front)
      where
        go : (i : ℕ) (level : Level) (rest : List Level) → level.number ≡ k + 1 → count level ≡ leads_if_any (Some desc) → ((n : ℕ) → n ≤ k + 1 → leads_of n rest ≡ 0)
            → ((m : ℕ) → leads_of (k + 1 + m + 1) rest ≡ leads_if_any (get_or levels m None))
            → leads_of (k + i + 1) out ≡ cond (eqb level.number (k + i + 1)) (count level) 0 + leads_of (k + i + 1) rest
            → leads_of (k + i + 1) out ≡ leads_if_any (get_or (Some desc ∷ levels) i None)
        go zero level rest number counts none more is =
            let term = ap {B = ℕ} (λ (b : Bool). cond b (count level) 0) (eq-eqb level.number (k + 0 + 1) (omega (arith, number))) in
            let others = none (k + 0 + 1) (omega arith) in
            omega (arith, is, term, others, counts)
        go (suc i) level rest number counts none more is =
            let term = ap {B = ℕ} (λ (b : Bool). cond b (count level) 0) (ne_eqb level.number (k + suc i + 1) (λ e. omega (arith, e, number))) in
            let place : k + suc i + 1 ≡ k + 1 + i + 1 = omega arith in
            let others = ap (λ (n : ℕ). leads_of n rest) place ∙ more i in
            omega (arith, is, term, others)
