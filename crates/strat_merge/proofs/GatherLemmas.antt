-- Entries of a key, gathered one after the other.
use Rattle.std.proofs.Common.{◌≡◌, ◌≢◌, ◌<◌, ℕ, zero, suc, ◌+◌, ◌-◌, ◌^◌, min, Bool, true, false, cond, ◌&&◌, ◌||◌, not, nat_lt, nat_le, ◌==◌, eqb-true, ◌⊎◌, inl, inr, List, [], ◌∷◌, ◌++◌, length, map, drop, set, Option, Some, None, refl, sym, ap, ◌∙◌, subst, true≢false, arith}
use Rattle.std.specs.List.{list_all, find, slice_get}
use Rattle.std.specs.Option.{option_or, option_map, option_map_or, option_and_then}
use Rattle.std.specs.Ordering.{is_lt, is_gt}
use Rattle.std.specs.declared.cmp.Ordering.{Ordering}
use Rattle.std.specs.declared.cmp.Ordering.TheVariants.{Less, Equal, Greater}
use Rattle.std.proofs.lemmas.Bool.{cases_Bool, and_from, and_parts, or_left, or_right}
use Rattle.std.proofs.lemmas.Bool.Decides.{nat_tests}
use Rattle.std.proofs.lemmas.Cmp.{nat_list_cmp_total, upto}
use Rattle.std.proofs.lemmas.List.{map-set}
use Rattle.std.proofs.lemmas.List.Folds.{list_all-append}
use Rattle.std.proofs.lemmas.Option.{slice_get-map}
use Rattle.def_crash.specs.Image.{Image}
use Rattle.def_crash.specs.Faults.{one_more}
use Rattle.def_crash.specs.Moments.{DiskView, Exposes}
use Rattle.strat_base.specs.Order.{key_cmp}
use Rattle.strat_base.specs.Entries.{Entry, is_of, is_at, is_ascending}
use Rattle.strat_base.specs.EntryBytes.{fits_fields}
use Rattle.strat_base.proofs.ListFacts.{Among, all_at, all_from, find_some, find_none, get_among, among_flat}
use Rattle.strat_base.proofs.EntryLemmas.{same_bytes, is_of_key, is_at_key, is_at_version, at_key_version}
use Rattle.strat_base.proofs.ResultFacts.{option_cases}
use Rattle.def_state.proofs.MapLemmas.{same_key}
use Rattle.def_state.proofs.SettingLemmas.{order_tied}
use Rattle.def_state.proofs.ReadingLemmas.{find-append, or_none}
use Rattle.def_split.specs.Groups.{grouped_entries}
use Rattle.def_split.proofs.ListLemmas.{filter_every, map_among, some_length}
use Rattle.def_promote.specs.Merging.{rest_of}
use Rattle.strat_merge.specs.Runs.{RunView, IsEntryRun, head_at, lefts}
use Rattle.strat_merge.specs.Bracket.{is_ahead}
use Rattle.strat_merge.specs.Gathered.{are_under, TakesNext, CountsTaken, last_entry, with_next, Leads, LeadsAside, PassesOne, AreGathered, Gathers}
use Rattle.strat_merge.proofs.OrderLemmas.{by_entry, entry_total, key_le, behind_le, behind_lt, first_le_all, all_before, ascending_more, none_behind, lt_le, lt_then_le, not_before_itself}
use Rattle.strat_merge.proofs.BracketLemmas.{equal_or_not}
use Rattle.strat_merge.proofs.PassLemmas.{get_set_same, get_set_other, length_flat_set}

-- lists of which one loses its first element

pub head_cons : {X : Type 0} (xs : List X) (x : X) → slice_get xs 0 ≡ Some x → xs ≡ x ∷ drop 1 xs
head_cons [] x is = cc
head_cons (y ∷ xs) x is = let e : y ≡ x = cc in ap (λ z. z ∷ xs) e

no_head : {X : Type 0} (xs : List X) → slice_get xs 0 ≡ None → xs ≡ []
no_head [] is = refl
no_head (x ∷ xs) is = cc

among_get : {X : Type 0} (xs : List X) (x : X) → Among x xs → (i : ℕ) × (slice_get xs i ≡ Some x)
among_get [] x among = absurd among
among_get (y ∷ xs) x (inl here) = (0, ap (λ z. Some z) (sym here))
among_get (y ∷ xs) x (inr there) = let at = among_get xs x there in (suc at.0, at.1)

find_first : (p : Entry → Bool) (lists : List (List Entry)) (r : ℕ) (e : Entry) (rest : List Entry) → slice_get lists r ≡ Some (e ∷ rest)
    → ((i : ℕ) (xs : List Entry) → i < r → slice_get lists i ≡ Some xs → find p xs ≡ None) → p e ≡ true → find p (grouped_entries lists) ≡ Some e
find_first p [] r e rest there before passes = cc
find_first p (xs ∷ lists) zero e rest there before passes =
    let same : xs ≡ e ∷ rest = cc in
    let here : find p (e ∷ rest) ≡ Some e = ap (λ b. cond b (Some e) (find p rest)) passes in
    find-append p xs (grouped_entries lists) ∙ ap (λ ys. option_or (find p ys) (find p (grouped_entries lists))) same ∙ ap (λ o. option_or o (find p (grouped_entries lists))) here
find_first p (xs ∷ lists) (suc r) e rest there before passes =
    find-append p xs (grouped_entries lists) ∙ ap (λ o. option_or o (find p (grouped_entries lists))) (before 0 xs (omega arith) refl)
    ∙ find_first p lists r e rest there (λ i ys below at. before (suc i) ys (omega arith) at) passes

find_without : (p : Entry → Bool) (lists : List (List Entry)) (r : ℕ) (e : Entry) (rest : List Entry) → slice_get lists r ≡ Some (e ∷ rest) → p e ≡ false
    → find p (grouped_entries (set lists r rest)) ≡ find p (grouped_entries lists)
find_without p [] r e rest there fails = cc
find_without p (xs ∷ lists) zero e rest there fails =
    let same : xs ≡ e ∷ rest = cc in
    let here : find p (e ∷ rest) ≡ find p rest = ap (λ b. cond b (Some e) (find p rest)) fails in
    find-append p rest (grouped_entries lists)
    ∙ ap (λ o. option_or o (find p (grouped_entries lists))) (sym (ap (find p) same ∙ here))
    ∙ sym (find-append p xs (grouped_entries lists))
find_without p (xs ∷ lists) (suc r) e rest there fails =
    find-append p xs (grouped_entries (set lists r rest))
    ∙ ap (λ o. option_or (find p xs) o) (find_without p lists r e rest there fails)
    ∙ sym (find-append p xs (grouped_entries lists))

rest_without : (key : List ℕ) (lists : List (List Entry)) (r : ℕ) (e : Entry) (rest : List Entry) → slice_get lists r ≡ Some (e ∷ rest) → is_of key e ≡ true
    → map (rest_of key) (set lists r rest) ≡ map (rest_of key) lists
rest_without key [] r e rest there of = cc
rest_without key (xs ∷ lists) zero e rest there of =
    let same : xs ≡ e ∷ rest = cc in
    let here : rest_of key (e ∷ rest) ≡ rest_of key rest = ap (λ b. cond (not b) (e ∷ rest_of key rest) (rest_of key rest)) of in
    ap (λ ys. ys ∷ map (rest_of key) lists) (sym (ap (rest_of key) same ∙ here))
rest_without key (xs ∷ lists) (suc r) e rest there of = ap (λ ls. rest_of key xs ∷ ls) (rest_without key lists r e rest there of)

-- entries with one more, or not
pub with_cases : (P : List Entry → Type 0) (es : List Entry) (e : Entry) → (option_map_or (λ last. last.version == e.version) (last_entry es) false ≡ true → P es)
    → (option_map_or (λ last. last.version == e.version) (last_entry es) false ≡ false → P (es ++ e ∷ [])) → P (with_next es e)
with_cases P es e same more = go (option_map_or (λ last. last.version == e.version) (last_entry es) false) same more
  where
    go : (t : Bool) → (t ≡ true → P es) → (t ≡ false → P (es ++ e ∷ [])) → P (cond t es (es ++ e ∷ []))
    go true one two = one refl
    go false one two = two refl

-- the last has the version
pub last_is : (es : List Entry) (v : ℕ) → option_map_or (λ last. last.version == v) (last_entry es) false ≡ true → (l : Entry) × (last_entry es ≡ Some l) × (l.version ≡ v)
last_is es v is =
    elim (option_cases (last_entry es)) [
      | inl none ↦ absurd (true≢false (sym is ∙ ap (λ o. option_map_or (λ last. last.version == v) o false) none))
      | inr some ↦ (some.0, some.1, eqb-true some.0.version v (sym (ap (λ o. option_map_or (λ last. last.version == v) o false) some.1) ∙ is))
    ]

last_is_not : (es : List Entry) (v : ℕ) (l : Entry) → option_map_or (λ last. last.version == v) (last_entry es) false ≡ false → last_entry es ≡ Some l → (l.version == v) ≡ false
last_is_not es v l is at = sym (ap (λ o. option_map_or (λ last. last.version == v) o false) at) ∙ is

-- one step
module _ (disk : DiskView) (now next : List RunView) (r : ℕ) (e : Entry) (passes : PassesOne disk now next r) (leads : Leads now r e) (lawful : (v : RunView) → Among v now → IsEntryRun v) where
  first_is : passes.before.first ≡ Some e
  first_is = sym (ap (λ (o : Option RunView). option_and_then (λ run. run.first) o) passes.there) ∙ leads.head

  before_run : IsEntryRun passes.before
  before_run = lawful passes.before (get_among now r passes.before passes.there)

  -- any other run begins as before
  pub head_other : (i : ℕ) → i ≢ r → head_at next i ≡ head_at now i
  head_other i apart = ap (λ (vs : List RunView). head_at vs i) passes.others ∙ ap (λ (o : Option RunView). option_and_then (λ run. run.first) o) (get_set_other now r i passes.after apart)

  pub head_next : head_at next r ≡ passes.after.first
  head_next = ap (λ (vs : List RunView). head_at vs r) passes.others ∙ ap (λ (o : Option RunView). option_and_then (λ run. run.first) o) (get_set_same now r passes.before passes.after passes.there)

  -- whatever is first afterwards stands no earlier than the entry
  pub later_heads : (i : ℕ) (f : Entry) → head_at next i ≡ Some f → is_gt (by_entry e f) ≡ false
  later_heads i f is =
      elim (equal_or_not i r) [
        | inl same ↦
            let at : passes.after.first ≡ Some f = sym head_next ∙ subst (λ (j : ℕ). head_at next j ≡ Some f) same is in
            lt_le entry_total e f (passes.step.later e f first_is at)
        | inr apart ↦
            let at : head_at now i ≡ Some f = sym (head_other i apart) ∙ is in
            behind_le f i e r (subst (λ (o : Option Entry). is_ahead o i (Some e) r ≡ false) at (subst (λ (o : Option Entry). is_ahead (head_at now i) i o r ≡ false) leads.head (leads.first i)))
      ]

  -- on the content of the disk
  module _ (c : Image) (exposes : Exposes disk c) where
    abbrev others : List Entry
    others = drop 1 (passes.before.left c)

    left_is : passes.before.left c ≡ e ∷ others
    left_is = head_cons (passes.before.left c) e (sym (before_run.begins c) ∙ first_is)

    pub left_at : slice_get (lefts c now) r ≡ Some (e ∷ others)
    left_at = slice_get-map (λ (run : RunView). run.left c) now r ∙ ap (λ (o : Option RunView). option_map (λ (run : RunView). run.left c) o) passes.there ∙ ap (λ (es : List Entry). Some es) left_is

    pub left_next : lefts c next ≡ set (lefts c now) r others
    left_next =
        ap (λ (vs : List RunView). lefts c vs) passes.others ∙ map-set (λ (run : RunView). run.left c) now r passes.after
        ∙ ap (λ (es : List Entry). set (lefts c now) r es) (passes.step.rest c exposes)

    pub one_fewer : length (grouped_entries (lefts c next)) + 1 ≡ length (grouped_entries (lefts c now))
    one_fewer =
        let size = length_flat_set (λ (es : List Entry). es) (lefts c now) r (e ∷ others) others left_at in
        let next_size : length (grouped_entries (lefts c next)) ≡ length (grouped_entries (set (lefts c now) r others)) = ap (λ (ls : List (List Entry)). length (grouped_entries ls)) left_next in
        omega arith

    pub find_now : find (is_at e.key e.version) (grouped_entries (lefts c now)) ≡ Some e
    find_now = find_first (is_at e.key e.version) (lefts c now) r e others left_at
        (λ i xs below at.
        let run_at : option_map (λ (run : RunView). run.left c) (slice_get now i) ≡ Some xs = sym (slice_get-map (λ (run : RunView). run.left c) now i) ∙ at in
        elim (option_cases (slice_get now i)) [
          | inl none ↦ absurd (none_some xs (sym (ap (λ (o : Option RunView). option_map (λ (run : RunView). run.left c) o) none) ∙ run_at))
          | inr some ↦
              let v = some.0 in
              let run = lawful v (get_among now i v some.1) in
              let list : v.left c ≡ xs = some_same (v.left c) xs (sym (ap (λ (o : Option RunView). option_map (λ (w : RunView). w.left c) o) some.1) ∙ run_at) in
              let head : head_at now i ≡ v.first = ap (λ (o : Option RunView). option_and_then (λ w. w.first) o) some.1 in
              subst (λ (es : List Entry). find (is_at e.key e.version) es ≡ None) list
              (elim (option_cases v.first) [
                | inl nothing ↦ ap (λ (es : List Entry). find (is_at e.key e.version) es) (no_head (v.left c) (sym (run.begins c) ∙ nothing))
                | inr first ↦
                    let at_f : head_at now i ≡ Some first.0 = head ∙ first.1 in
                    let behind : is_ahead (Some first.0) i (Some e) r ≡ false =
                    subst (λ (o : Option Entry). is_ahead o i (Some e) r ≡ false) at_f (subst (λ (o : Option Entry). is_ahead (head_at now i) i o r ≡ false) leads.head (leads.first i)) in
                    none_behind (v.left c) e first.0 (run.ascending c) (sym (run.begins c) ∙ first.1) (behind_lt first.0 i e r below behind)
              ])
        ])
        (at_key_version e.key e.version e refl refl)
      where
        none_some : (xs : List Entry) → None ≡ Some xs → ⊥
        none_some xs is = cc

        some_same : (xs ys : List Entry) → Some xs ≡ Some ys → xs ≡ ys
        some_same xs ys is = cc

under_set : (n : ℕ) (runs : List RunView) (r : ℕ) (before after : RunView) → slice_get runs r ≡ Some before → after.versions ≡ before.versions → are_under n runs ≡ true → are_under n (set runs r after) ≡ true
under_set n [] r before after there same under = refl
under_set n (v ∷ runs) zero before after there same under =
    let is : v ≡ before = cc in
    let parts = and_parts (nat_le v.versions n) (are_under n runs) under in
    and_from (nat_le after.versions n) (are_under n runs) (ap (λ m. nat_le m n) (same ∙ ap (λ (w : RunView). w.versions) (sym is)) ∙ parts.0) parts.1
under_set n (v ∷ runs) (suc r) before after there same under =
    let parts = and_parts (nat_le v.versions n) (are_under n runs) under in
    and_from (nat_le v.versions n) (are_under n (set runs r after)) parts.0 (under_set n runs r before after there same parts.1)

-- what an entry that is taken brings with it
pub record IsTakeable (now : List RunView) (r : ℕ) (key : List ℕ) (e : Entry) : Type 0 where
  pub keyed : e.key ≡ key
  pub lawful : fits_fields e ≡ true
  pub low : (v : RunView) → slice_get now r ≡ Some v → e.version < v.versions

all_one_more : (p : Entry → Bool) (es : List Entry) (e : Entry) → list_all p es ≡ true → p e ≡ true → list_all p (with_next es e) ≡ true
all_one_more p es e all one =
    with_cases (λ xs. list_all p xs ≡ true) es e (λ _. all)
    (λ _. list_all-append p es (e ∷ []) ∙ and_from (list_all p es) (p e && true) all (and_from (p e) true one refl))

not_false : (b : Bool) → b ≡ false → not b ≡ true
not_false b is = ap not is

false_of_not : (b : Bool) → not b ≡ true → b ≡ false
false_of_not true is = absurd (true≢false (sym is))
false_of_not false is = refl

eqb_self : (n : ℕ) → (n == n) ≡ true
eqb_self n = grind (arith, nat_tests)

pub get_within : {X : Type 0} (xs : List X) (i : ℕ) → i < length xs → slice_get xs i ≡ None → ⊥
get_within [] i within none = omega arith
get_within (x ∷ xs) zero within none = cc
get_within (x ∷ xs) (suc i) within none = get_within xs i (omega arith) none

-- of one key the greater version stands first
version_first : (d e : Entry) → d.key ≡ e.key → is_gt (by_entry d e) ≡ false → (d.version == e.version) ≡ false → is_lt (by_entry d e) ≡ true
version_first d e same le apart =
    elim (cases_Bool (is_lt (by_entry d e))) [
      | inl done ↦ done
      | inr other ↦ absurd (true≢false (sym (ap (λ v. v == e.version) (tied_versions d e same (neither (by_entry d e) other le)) ∙ eqb_self e.version) ∙ apart))
    ]
  where
    neither : (o : Ordering) → is_lt o ≡ false → is_gt o ≡ false → o ≡ Equal
    neither Less lt gt = absurd (true≢false lt)
    neither Equal lt gt = refl
    neither Greater lt gt = absurd (true≢false gt)

    tied_versions : (a b : Entry) → a.key ≡ b.key → by_entry a b ≡ Equal → a.version ≡ b.version
    tied_versions a b keys tie = (order_tied a b tie).1

module _ (disk : DiskView) (old now next : List RunView) (r : ℕ) (key : List ℕ) (es : List Entry) (e : Entry) (passes : PassesOne disk now next r) (leads : Leads now r e)
    (lawful : (v : RunView) → Among v now → IsEntryRun v) (takes : IsTakeable now r key e) (gathered : AreGathered old now key es) where
  taken_low : (n : ℕ) → are_under n old ≡ true → nat_lt e.version n ≡ true
  taken_low n under =
      let bound : nat_le passes.before.versions n ≡ true = all_at (λ (run : RunView). nat_le run.versions n) passes.before now (gathered.bound n under) (get_among now r passes.before passes.there) in
      let low : e.version < passes.before.versions = takes.low passes.before passes.there in
      grind (arith, nat_tests)

  -- all that was gathered stands no later than the entry
  all_le : (d : Entry) → Among d es → is_gt (by_entry d e) ≡ false
  all_le d among = false_of_not (is_gt (by_entry d e)) (all_at (λ x. not (is_gt (by_entry x e))) d es (gathered.behind r e leads.head) among)

  same_key_as : (d : Entry) → Among d es → d.key ≡ e.key
  same_key_as d among = is_of_key key d (all_at (is_of key) d es gathered.keyed among) ∙ sym takes.keyed

  next_ascending : is_ascending (with_next es e) ≡ true
  next_ascending =
      with_cases (λ xs. is_ascending xs ≡ true) es e (λ _. gathered.ascending)
      (λ apart. ascending_more es e gathered.ascending (λ d among.
      elim (option_cases (last_entry es)) [
        | inl none ↦ absurd (no_last es d among none)
        | inr last ↦
            let l = last.0 in
            let here = get_among es (length es - 1) l last.1 in
            all_before es l e d gathered.ascending last.1 (version_first l e (same_key_as l here) (all_le l here) (last_is_not es e.version l apart last.1)) among
      ]))
    where
      no_last : (xs : List Entry) (d : Entry) → Among d xs → last_entry xs ≡ None → ⊥
      no_last xs d among none = let some = some_length xs d among in get_within xs (length xs - 1) (omega arith) none

  next_behind : (i : ℕ) (f : Entry) → head_at next i ≡ Some f → list_all (λ d. not (is_gt (by_entry d f))) (with_next es e) ≡ true
  next_behind i f is =
      let le = later_heads disk now next r e passes leads lawful i f is in
      all_one_more (λ d. not (is_gt (by_entry d f))) es e
      (all_from (λ d. not (is_gt (by_entry d f))) es (λ d among. not_false (is_gt (by_entry d f)) (upto entry_total d e f (all_le d among) le)))
      (not_false (is_gt (by_entry e f)) le)

  pub gathered_next : AreGathered old next key (with_next es e)
  gathered_next = record {
    keyed = all_one_more (is_of key) es e gathered.keyed (same_bytes e.key key takes.keyed);
    ascending = next_ascending;
    lawful = all_one_more fits_fields es e gathered.lawful takes.lawful;
    low = λ n under. all_one_more (λ d. nat_lt d.version n) es e (gathered.low n under) (taken_low n under);
    bound = λ n under. subst (λ (vs : List RunView). are_under n vs ≡ true) (sym passes.others) (under_set n now r passes.before passes.after passes.there passes.step.bound (gathered.bound n under));
    least = gathered.least;
    further = λ i f is. subst (λ (k : List ℕ). is_gt (key_cmp k f.key) ≡ false) takes.keyed (key_le e f (later_heads disk now next r e passes leads lawful i f is));
    behind = next_behind;
  }

  -- on the content of the disk
  module _ (c : Image) (exposes : Exposes disk c) (before : List (List Entry)) (gathers : Gathers before (lefts c now) key es) where
    rest_next : map (rest_of key) (lefts c next) ≡ map (rest_of key) (lefts c now)
    rest_next =
        ap (λ (ls : List (List Entry)). map (rest_of key) ls) (left_next disk now next r e passes leads lawful c exposes)
        ∙ rest_without key (lefts c now) r e (drop 1 (passes.before.left c)) (left_at disk now next r e passes leads lawful c exposes) (same_bytes e.key key takes.keyed)

    find_next : (u : ℕ) → is_at key u e ≡ false → find (is_at key u) (grouped_entries (lefts c next)) ≡ find (is_at key u) (grouped_entries (lefts c now))
    find_next u off =
        ap (λ (ls : List (List Entry)). find (is_at key u) (grouped_entries ls)) (left_next disk now next r e passes leads lawful c exposes)
        ∙ find_without (is_at key u) (lefts c now) r e (drop 1 (passes.before.left c)) (left_at disk now next r e passes leads lawful c exposes) off

    abbrev Newest : List Entry → ℕ → Type 0
    Newest xs u = option_or (find (is_at key u) xs) (find (is_at key u) (grouped_entries (lefts c next))) ≡ find (is_at key u) (grouped_entries before)

    -- another version
    newest_other : (u : ℕ) → u ≢ e.version → Newest (with_next es e) u
    newest_other u apart =
        let off : is_at key u e ≡ false = false_at (cases_Bool (is_at key u e)) in
        let step : option_or (find (is_at key u) es) (find (is_at key u) (grouped_entries (lefts c next))) ≡ find (is_at key u) (grouped_entries before) =
        ap (λ o. option_or (find (is_at key u) es) o) (find_next u off) ∙ gathers.newest u in
        with_cases (λ xs. Newest xs u) es e (λ _. step)
        (λ _. ap (λ o. option_or o (find (is_at key u) (grouped_entries (lefts c next))))
        (find-append (is_at key u) es (e ∷ []) ∙ ap (λ b. option_or (find (is_at key u) es) (cond b (Some e) None)) off ∙ or_none (find (is_at key u) es)) ∙ step)
      where
        false_at : (is_at key u e ≡ true) ⊎ (is_at key u e ≡ false) → is_at key u e ≡ false
        false_at (inl at) = absurd (apart (sym (is_at_version key u e at)))
        false_at (inr off') = off'

    -- the entry's own
    newest_own : Newest (with_next es e) e.version
    newest_own =
        let u = e.version in
        let here : is_at key e.version e ≡ true = at_key_version key e.version e takes.keyed refl in
        elim (option_cases (find (is_at key e.version) es)) [
          | inr found ↦
              let done : Some found.0 ≡ find (is_at key e.version) (grouped_entries before) = ap (λ o. option_or o (find (is_at key e.version) (grouped_entries (lefts c now)))) (sym found.1) ∙ gathers.newest e.version in
              with_cases (λ xs. Newest xs e.version) es e
              (λ _. ap (λ o. option_or o (find (is_at key e.version) (grouped_entries (lefts c next)))) found.1 ∙ done)
              (λ _. ap (λ o. option_or o (find (is_at key e.version) (grouped_entries (lefts c next)))) (find-append (is_at key e.version) es (e ∷ []) ∙ ap (λ o. option_or o (find (is_at key e.version) (e ∷ []))) found.1) ∙ done)
          | inl none ↦
              let at_now : find (is_at key e.version) (grouped_entries (lefts c now)) ≡ Some e = subst (λ (k : List ℕ). find (is_at k e.version) (grouped_entries (lefts c now)) ≡ Some e) takes.keyed (find_now disk now next r e passes leads lawful c exposes) in
              let done : Some e ≡ find (is_at key e.version) (grouped_entries before) = sym at_now ∙ sym (ap (λ o. option_or o (find (is_at key e.version) (grouped_entries (lefts c now)))) none) ∙ gathers.newest e.version in
              with_cases (λ xs. Newest xs e.version) es e
              (λ tied.
              let last = last_is es e.version tied in
              let among = get_among es (length es - 1) last.0 last.1 in
              let at : is_at key e.version last.0 ≡ true = at_key_version key e.version last.0 (is_of_key key last.0 (all_at (is_of key) last.0 es gathered.keyed among)) last.2 in
              absurd (true≢false (sym at ∙ find_none (is_at key e.version) es last.0 none among)))
              (λ _. ap (λ o. option_or o (find (is_at key e.version) (grouped_entries (lefts c next))))
              (find-append (is_at key e.version) es (e ∷ []) ∙ ap (λ o. option_or o (find (is_at key e.version) (e ∷ []))) none ∙ ap (λ b. cond b (Some e) None) here) ∙ done)
        ]

    pub gathers_next : Gathers before (lefts c next) key (with_next es e)
    gathers_next = record {
      rest = rest_next ∙ gathers.rest;
      newest = λ u. elim (equal_or_not u e.version) [
        | inl same ↦ subst (λ (v : ℕ). Newest (with_next es e) v) (sym same) newest_own
        | inr apart ↦ newest_other u apart
      ];
    }

-- the start: nothing is gathered, and the least key is that of the leader
begun_least : (now : List RunView) (r : ℕ) (e : Entry) → Leads now r e → (i : ℕ) (f : Entry) → head_at now i ≡ Some f → is_gt (by_entry e f) ≡ false
begun_least now r e leads i f at =
    behind_le f i e r (subst (λ (o : Option Entry). is_ahead o i (Some e) r ≡ false) at (subst (λ (o : Option Entry). is_ahead (head_at now i) i o r ≡ false) leads.head (leads.first i)))

pub gathered_begun : (now : List RunView) (r : ℕ) (e : Entry) → Leads now r e → AreGathered now now e.key []
gathered_begun now r e leads = record {
  keyed = refl;
  ascending = refl;
  lawful = refl;
  low = λ n under. refl;
  bound = λ n under. under;
  least = λ i f is. key_le e f (begun_least now r e leads i f is);
  further = λ i f is. key_le e f (begun_least now r e leads i f is);
  behind = λ i f is. refl;
}

pub gathers_begun : (lists : List (List Entry)) (key : List ℕ) → Gathers lists lists key []
gathers_begun lists key = record { rest = refl; newest = λ u. refl }

-- the end: no run has an entry of the key
module _ (old now : List RunView) (key : List ℕ) (es : List Entry) (gathered : AreGathered old now key es) (aside : LeadsAside now key) where
  pub ended_behind : (i : ℕ) (e : Entry) → head_at now i ≡ Some e → is_lt (key_cmp key e.key) ≡ true
  ended_behind i e is =
      let w = (aside i e is).0 in
      let f = (aside i e is).1.0 in
      let other = (aside i e is).1.1 in
      let leads = (aside i e is).1.2 in
      lt_then_le nat_list_cmp_total key f.key e.key (before f other (gathered.further w f leads.head)) (key_le f e (begun_least now w f leads i e is))
    where
      before : (f : Entry) → is_of key f ≡ false → is_gt (key_cmp key f.key) ≡ false → is_lt (key_cmp key f.key) ≡ true
      before f other le =
          elim (cases_Bool (is_lt (key_cmp key f.key))) [
            | inl done ↦ done
            | inr not_lt ↦ absurd (true≢false (sym (same_bytes f.key key (sym (same_key key f.key (neither (key_cmp key f.key) not_lt le)))) ∙ other))
          ]
        where
          neither : (o : Ordering) → is_lt o ≡ false → is_gt o ≡ false → o ≡ Equal
          neither Less lt gt = absurd (true≢false lt)
          neither Equal lt gt = refl
          neither Greater lt gt = absurd (true≢false gt)

  module _ (lawful_old : (v : RunView) → Among v old → IsEntryRun v) (lawful_now : (v : RunView) → Among v now → IsEntryRun v) (c : Image) (gathers : Gathers (lefts c old) (lefts c now) key es) where
    -- what is left of a run has other keys
    left_off : (v : RunView) → Among v now → (d : Entry) → Among d (v.left c) → is_of key d ≡ false
    left_off v among d there =
        let place = among_get now v among in
        let run = lawful_now v among in
        elim (option_cases v.first) [
          | inl none ↦ absurd (subst (λ (xs : List Entry). Among d xs) (no_head (v.left c) (sym (run.begins c) ∙ none)) there)
          | inr first ↦
              let f = first.0 in
              let head : head_at now place.0 ≡ Some f = ap (λ (o : Option RunView). option_and_then (λ w. w.first) o) place.1 ∙ first.1 in
              let behind : is_lt (key_cmp key d.key) ≡ true = lt_then_le nat_list_cmp_total key f.key d.key (ended_behind place.0 f head)
              (key_le f d (first_le_all (v.left c) f d (run.ascending c) (sym (run.begins c) ∙ first.1) there)) in
              elim (cases_Bool (is_of key d)) [
                | inr off ↦ off
                | inl of ↦ absurd (true≢false (sym behind ∙ subst (λ (k : List ℕ). is_lt (key_cmp key k) ≡ false) (sym (is_of_key key d of)) (not_before_itself nat_list_cmp_total key)))
              ]
        ]

    rest_same : map (rest_of key) (lefts c now) ≡ lefts c now
    rest_same = go now (λ v among. among)
      where
        go : (vs : List RunView) → ((v : RunView) → Among v vs → Among v now) → map (rest_of key) (lefts c vs) ≡ lefts c vs
        go [] within = refl
        go (v ∷ vs) within =
            let here : rest_of key (v.left c) ≡ v.left c = filter_every (λ d. not (is_of key d)) (v.left c) (λ d there. ap not (left_off v (within v (inl refl)) d there)) in
            let more : map (rest_of key) (lefts c vs) ≡ lefts c vs = go vs (λ w among. within w (inr among)) in
            λ i. here i ∷ more i

    pub left_rest : lefts c now ≡ map (rest_of key) (lefts c old)
    left_rest = sym rest_same ∙ gathers.rest

    find_none_now : (u : ℕ) → find (is_at key u) (grouped_entries (lefts c now)) ≡ None
    find_none_now u =
        elim (option_cases (find (is_at key u) (grouped_entries (lefts c now)))) [
          | inl none ↦ none
          | inr found ↦
              let d = found.0 in
              let there = find_some (is_at key u) (grouped_entries (lefts c now)) d found.1 in
              let list = among_flat (λ (xs : List Entry). xs) (lefts c now) d there.0 in
              let run = map_among (λ (v : RunView). v.left c) now list.0 list.1 in
              let off : is_of key d ≡ false = left_off run.0 run.1 d (subst (λ (xs : List Entry). Among d xs) run.2 list.2) in
              absurd (true≢false (sym (same_bytes d.key key (is_at_key key u d there.1)) ∙ off))
        ]

    least_old : list_all (λ e. is_of key e || is_lt (key_cmp key e.key)) (grouped_entries (lefts c old)) ≡ true
    least_old =
        all_from (λ e. is_of key e || is_lt (key_cmp key e.key)) (grouped_entries (lefts c old)) (λ d there.
        let list = among_flat (λ (xs : List Entry). xs) (lefts c old) d there in
        let at = map_among (λ (v : RunView). v.left c) old list.0 list.1 in
        let v = at.0 in
        let here : Among d (v.left c) = subst (λ (xs : List Entry). Among d xs) at.2 list.2 in
        let place = among_get old v at.1 in
        let run = lawful_old v at.1 in
        elim (option_cases v.first) [
          | inl none ↦ absurd (subst (λ (xs : List Entry). Among d xs) (no_head (v.left c) (sym (run.begins c) ∙ none)) here)
          | inr first ↦
              let f = first.0 in
              let head : head_at old place.0 ≡ Some f = ap (λ (o : Option RunView). option_and_then (λ w. w.first) o) place.1 ∙ first.1 in
              le_cases d (upto nat_list_cmp_total key f.key d.key (gathered.least place.0 f head) (key_le f d (first_le_all (v.left c) f d (run.ascending c) (sym (run.begins c) ∙ first.1) here)))
        ])
      where
        le_cases : (d : Entry) → is_gt (key_cmp key d.key) ≡ false → (is_of key d || is_lt (key_cmp key d.key)) ≡ true
        le_cases d le = go (key_cmp key d.key) refl le
          where
            go : (o : Ordering) → key_cmp key d.key ≡ o → is_gt o ≡ false → (is_of key d || is_lt (key_cmp key d.key)) ≡ true
            go Less is' le' = or_right (is_of key d) (is_lt (key_cmp key d.key)) (ap is_lt is')
            go Equal is' le' = or_left (is_of key d) (is_lt (key_cmp key d.key)) (same_bytes d.key key (sym (same_key key d.key is')))
            go Greater is' le' = absurd (true≢false le')

    pub takes_next : 0 < length es → TakesNext (lefts c old) (lefts c now) es
    takes_next some = (
      key,
      (
        record {
          some = some;
          keyed = gathered.keyed;
          ascending = gathered.ascending;
          newest = λ u. sym (or_none (find (is_at key u) es)) ∙ sym (ap (λ o. option_or (find (is_at key u) es) o) (find_none_now u)) ∙ gathers.newest u;
          least = least_old;
        },
        left_rest,
      ),
    )

-- counts

min_more : (n before a b most : ℕ) → n ≡ min (before + a) most → b ≡ a + 1 → min (n + 1) most ≡ min (before + b) most
min_more n before a b most is more = omega arith

pub count_begun : (lists : List (List Entry)) (n : ℕ) → n < 2 ^ 64 → CountsTaken lists lists n n
count_begun lists n fits = record { fewer = omega arith; counted = omega arith }

pub count_more : (old now next : List (List Entry)) (before n : ℕ) → length (grouped_entries next) + 1 ≡ length (grouped_entries now) → CountsTaken old now before n → CountsTaken old next before (one_more n)
count_more old now next before n fewer counted =
    let le = counted.fewer in
    record {
      fewer = omega arith;
      counted = min_more n before (length (grouped_entries old) - length (grouped_entries now)) (length (grouped_entries old) - length (grouped_entries next)) (2 ^ 64 - 1) counted.counted (omega arith);
    }
