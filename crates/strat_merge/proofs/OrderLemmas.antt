-- Which of two runs is ahead is an order.
use Rattle.std.proofs.Common.{◌≡◌, ◌<◌, ◌≤◌, ℕ, suc, ◌-◌, true, false, ◌&&◌, inl, inr, List, [], ◌∷◌, ◌++◌, length, Option, Some, None, refl, sym, ap, ◌∙◌, subst, true≢false, arith}
use Rattle.std.specs.Cmp.{IsTotalOrder, nat_cmp_is}
use Rattle.std.specs.List.{list_all, find, slice_get}
use Rattle.std.specs.Ordering.{is_lt, is_gt, ordering_reverse, nat_cmp, ordering_then}
use Rattle.std.specs.declared.cmp.Ordering.{Ordering}
use Rattle.std.specs.declared.cmp.Ordering.TheVariants.{Less, Equal, Greater}
use Rattle.std.proofs.lemmas.Bool.{cases_Bool, cases_lt, and_parts, and_from}
use Rattle.std.proofs.lemmas.Cmp.{nat_cmp_total, nat_list_cmp_total, then_total, on_total, back_total, upto, tied_itself, ranked}
use Rattle.std.proofs.lemmas.List.Folds.{list_all-append}
use Rattle.strat_base.specs.Order.{key_cmp, entry_cmp}
use Rattle.strat_base.specs.Entries.{Entry, is_at, is_ascending}
use Rattle.strat_base.proofs.ListFacts.{Among, all_at, find_some, get_among}
use Rattle.strat_base.proofs.EntryLemmas.{is_at_key, is_at_version}
use Rattle.strat_base.proofs.ResultFacts.{option_cases}
use Rattle.strat_merge.specs.Bracket.{is_ahead}

-- entries by key, and then the greater version first
abbrev pub by_entry : Entry → Entry → Ordering
by_entry e f = entry_cmp e.key e.version f.key f.version

pub entry_total : IsTotalOrder by_entry
entry_total = then_total (on_total (λ (e : Entry). e.key) nat_list_cmp_total) (on_total (λ (e : Entry). e.version) (back_total nat_cmp_total))

-- entries, and then the less number first
abbrev by_turn : Entry × ℕ → Entry × ℕ → Ordering
by_turn p q = ordering_then (by_entry p.0 q.0) (nat_cmp p.1 q.1)

turn_total : IsTotalOrder by_turn
turn_total = then_total (on_total (λ (p : Entry × ℕ). p.0) entry_total) (on_total (λ (p : Entry × ℕ). p.1) nat_cmp_total)

pub lt_not_gt : (o : Ordering) → is_lt o ≡ true → is_gt o ≡ false
lt_not_gt Less lt = refl
lt_not_gt Equal lt = absurd (true≢false (sym lt))
lt_not_gt Greater lt = absurd (true≢false (sym lt))

module _ {K : Type 0} {R : K → K → Ordering} (o : IsTotalOrder R) where
  reversed_lt : (a b : Ordering) → a ≡ ordering_reverse b → is_lt a ≡ is_gt b
  reversed_lt a Less e = ap is_lt e
  reversed_lt a Equal e = ap is_lt e
  reversed_lt a Greater e = ap is_lt e

  pub lt_is_gt : (x y : K) → is_lt (R x y) ≡ is_gt (R y x)
  lt_is_gt x y = reversed_lt (R x y) (R y x) (o.antisymm x y)

  pub lt_trans_not : (x y z : K) → is_lt (R x y) ≡ false → is_lt (R y z) ≡ false → is_lt (R x z) ≡ false
  lt_trans_not x y z one two = lt_is_gt x z ∙ upto o z y x (sym (lt_is_gt y z) ∙ two) (sym (lt_is_gt x y) ∙ one)

  pub lt_asym : (x y : K) → is_lt (R x y) ≡ true → is_lt (R y x) ≡ false
  lt_asym x y lt = lt_is_gt y x ∙ lt_not_gt (R x y) lt

-- no run is ahead of what is ahead of it
pub ahead_asym : (x : Option Entry) (a : ℕ) (y : Option Entry) (b : ℕ) → is_ahead x a y b ≡ true → is_ahead y b x a ≡ false
ahead_asym None a y b ahead = absurd (true≢false (sym ahead))
ahead_asym (Some e) a None b ahead = refl
ahead_asym (Some e) a (Some f) b ahead = lt_asym turn_total (e, a) (f, b) ahead

pub ahead_itself : (x : Option Entry) (a : ℕ) → is_ahead x a x a ≡ false
ahead_itself None a = refl
ahead_itself (Some e) a = ap is_lt (tied_itself turn_total (e, a))

-- what is not ahead of a second that is not ahead of a third, is not ahead of that
pub ahead_trans : (x : Option Entry) (a : ℕ) (y : Option Entry) (b : ℕ) (z : Option Entry) (c : ℕ)
    → is_ahead x a y b ≡ false → is_ahead y b z c ≡ false → is_ahead x a z c ≡ false
ahead_trans None a y b z c one two = refl
ahead_trans (Some e) a None b z c one two = absurd (true≢false one)
ahead_trans (Some e) a (Some f) b None c one two = absurd (true≢false two)
ahead_trans (Some e) a (Some f) b (Some g) c one two = lt_trans_not turn_total (e, a) (f, b) (g, c) one two

-- what stands no later, and what stands before
module _ {K : Type 0} {R : K → K → Ordering} (o : IsTotalOrder R) where
  pub lt_then_le : (x y z : K) → is_lt (R x y) ≡ true → is_gt (R y z) ≡ false → is_lt (R x z) ≡ true
  lt_then_le x y z lt le =
      elim (cases_Bool (is_lt (R x z))) [
        | inl done ↦ done
        | inr other ↦ absurd (true≢false (sym lt ∙ lt_is_gt o x y ∙ upto o y z x le (sym (lt_is_gt o x z) ∙ other)))
      ]

  pub le_then_lt : (x y z : K) → is_gt (R x y) ≡ false → is_lt (R y z) ≡ true → is_lt (R x z) ≡ true
  le_then_lt x y z le lt =
      elim (cases_Bool (is_lt (R x z))) [
        | inl done ↦ done
        | inr other ↦ absurd (true≢false (sym lt ∙ lt_is_gt o y z ∙ upto o z x y (sym (lt_is_gt o x z) ∙ other) le))
      ]

  pub lt_le : (x y : K) → is_lt (R x y) ≡ true → is_gt (R x y) ≡ false
  lt_le x y lt = lt_not_gt (R x y) lt

  pub not_before_itself : (x : K) → is_lt (R x x) ≡ false
  not_before_itself x = ap is_lt (tied_itself o x)

  pub le_itself : (x : K) → is_gt (R x x) ≡ false
  le_itself x = ap is_gt (tied_itself o x)

first_le : (o p : Ordering) → is_gt (ordering_then o p) ≡ false → is_gt o ≡ false
first_le Less p le = refl
first_le Equal p le = refl
first_le Greater p le = le

pub key_le : (e f : Entry) → is_gt (by_entry e f) ≡ false → is_gt (key_cmp e.key f.key) ≡ false
key_le e f le = first_le (key_cmp e.key f.key) (nat_cmp f.version e.version) le

then_behind : (o p : Ordering) → is_lt (ordering_then o p) ≡ false → is_lt o ≡ false
then_behind Less p behind = behind
then_behind Equal p behind = refl
then_behind Greater p behind = refl

-- a run that is not ahead of another begins no earlier
pub behind_le : (f : Entry) (i : ℕ) (e : Entry) (r : ℕ) → is_ahead (Some f) i (Some e) r ≡ false → is_gt (by_entry e f) ≡ false
behind_le f i e r behind = sym (lt_is_gt entry_total f e) ∙ then_behind (by_entry f e) (nat_cmp i r) behind

then_gt : (o p : Ordering) → is_lt p ≡ true → is_lt (ordering_then o p) ≡ false → is_gt o ≡ true
then_gt Less p first behind = absurd (true≢false behind)
then_gt Equal p first behind = absurd (true≢false (sym first ∙ behind))
then_gt Greater p first behind = refl

nat_first : (i r : ℕ) → i < r → is_lt (nat_cmp i r) ≡ true
nat_first i r below = ap is_lt (sym (nat_cmp_is i r Less below))

-- and later, where its number is less
pub behind_lt : (f : Entry) (i : ℕ) (e : Entry) (r : ℕ) → i < r → is_ahead (Some f) i (Some e) r ≡ false → is_lt (by_entry e f) ≡ true
behind_lt f i e r below behind = lt_is_gt entry_total e f ∙ then_gt (by_entry f e) (nat_cmp i r) (nat_first i r below) behind

-- of entries in order the first stands before all others
pub first_le_all : (entries : List Entry) (f d : Entry) → is_ascending entries ≡ true → slice_get entries 0 ≡ Some f → Among d entries → is_gt (by_entry f d) ≡ false
first_le_all [] f d up first among = absurd among
first_le_all (e ∷ entries) f d up first (inl here) =
    let same : f ≡ d = cc in
    subst (λ (x : Entry). is_gt (by_entry f x) ≡ false) same (le_itself entry_total f)
first_le_all (e ∷ entries) f d up first (inr there) =
    let same : e ≡ f = cc in
    subst (λ (x : Entry). is_gt (by_entry x d) ≡ false) same
    (lt_le entry_total e d (all_at (λ later. is_lt (by_entry e later)) d entries (and_parts (list_all (λ later. is_lt (by_entry e later)) entries) (is_ascending entries) up).0 there))

-- of entries in order all stand before what is behind the last
pub all_before : (entries : List Entry) (last e d : Entry) → is_ascending entries ≡ true → slice_get entries (length entries - 1) ≡ Some last → is_lt (by_entry last e) ≡ true → Among d entries → is_lt (by_entry d e) ≡ true
all_before [] last e d up is lt among = absurd among
all_before (x ∷ []) last e d up is lt (inl here) =
    let same : last ≡ d = cc in
    subst (λ (y : Entry). is_lt (by_entry y e) ≡ true) same lt
all_before (x ∷ []) last e d up is lt (inr there) = absurd there
all_before (x ∷ y ∷ entries) last e d up is lt among =
    let place : length (x ∷ y ∷ entries) - 1 ≡ suc (length (y ∷ entries) - 1) = omega arith in
    let later : slice_get (y ∷ entries) (length (y ∷ entries) - 1) ≡ Some last = subst (λ (n : ℕ). slice_get (x ∷ y ∷ entries) n ≡ Some last) place is in
    let parts = and_parts (list_all (λ next. is_lt (by_entry x next)) (y ∷ entries)) (is_ascending (y ∷ entries)) up in
    elim among [
      | inr there ↦ all_before (y ∷ entries) last e d parts.1 later lt there
      | inl here ↦
          let step : is_lt (by_entry x last) ≡ true = all_at (λ next. is_lt (by_entry x next)) last (y ∷ entries) parts.0 (get_among (y ∷ entries) (length (y ∷ entries) - 1) last later) in
          subst (λ (z : Entry). is_lt (by_entry z e) ≡ true) (sym here) (lt_then_le entry_total x last e step (lt_le entry_total last e lt))
    ]

-- entries with one more behind them
pub ascending_more : (entries : List Entry) (e : Entry) → is_ascending entries ≡ true → ((d : Entry) → Among d entries → is_lt (by_entry d e) ≡ true) → is_ascending (entries ++ e ∷ []) ≡ true
ascending_more [] e up each = refl
ascending_more (x ∷ entries) e up each =
    let parts = and_parts (list_all (λ next. is_lt (by_entry x next)) entries) (is_ascending entries) up in
    and_from (list_all (λ next. is_lt (by_entry x next)) (entries ++ e ∷ [])) (is_ascending (entries ++ e ∷ []))
    (list_all-append (λ next. is_lt (by_entry x next)) entries (e ∷ []) ∙ and_from (list_all (λ next. is_lt (by_entry x next)) entries) (is_lt (by_entry x e) && true) parts.0 (and_from (is_lt (by_entry x e)) true (each x (inl refl)) refl))
    (ascending_more entries e parts.1 (λ d among. each d (inr among)))

-- what begins behind an entry has none of its key and version
pub none_behind : (entries : List Entry) (e f : Entry) → is_ascending entries ≡ true → slice_get entries 0 ≡ Some f → is_lt (by_entry e f) ≡ true → find (is_at e.key e.version) entries ≡ None
none_behind entries e f up first lt =
    elim (option_cases (find (is_at e.key e.version) entries)) [
      | inl none ↦ none
      | inr found ↦
          let d = found.0 in
          let there = find_some (is_at e.key e.version) entries d found.1 in
          let before : is_lt (by_entry e d) ≡ true = lt_then_le entry_total e f d lt (first_le_all entries f d up first there.0) in
          let itself : by_entry e d ≡ by_entry e e = (λ i. entry_cmp e.key e.version (is_at_key e.key e.version d there.1 i) (is_at_version e.key e.version d there.1 i)) in
          absurd (true≢false (sym before ∙ ap is_lt itself ∙ not_before_itself entry_total e))
    ]

-- of one key no greater version comes later
pub version_le : (e f : Entry) → e.key ≡ f.key → is_gt (by_entry e f) ≡ false → f.version ≤ e.version
version_le e f same le =
    let tie : key_cmp e.key f.key ≡ Equal = ap (λ k. key_cmp k f.key) same ∙ tied_itself nat_list_cmp_total f.key in
    no_more (nat_cmp f.version e.version) refl (sym (ap (λ o. is_gt (ordering_then o (nat_cmp f.version e.version))) tie) ∙ le)
  where
    no_more : (o : Ordering) → o ≡ nat_cmp f.version e.version → is_gt o ≡ false → f.version ≤ e.version
    no_more Less is le' = let lt : f.version < e.version = ranked f.version e.version Less is in omega arith
    no_more Equal is le' = let same' : f.version ≡ e.version = ranked f.version e.version Equal is in omega arith
    no_more Greater is le' = absurd (true≢false le')

-- of one key and version no smaller number comes later
pub turn_after : (f : Entry) (i : ℕ) (e : Entry) (r : ℕ) → f.key ≡ e.key → f.version ≡ e.version → is_ahead (Some f) i (Some e) r ≡ false → r ≤ i
turn_after f i e r keys versions behind =
    let tie : by_entry f e ≡ Equal = (λ j. entry_cmp (keys j) (versions j) e.key e.version) ∙ tied_itself entry_total e in
    elim (cases_lt i r) [
      | inr le ↦ le
      | inl lt ↦ absurd (true≢false (sym (nat_first i r lt) ∙ sym (ap (λ o. is_lt (ordering_then o (nat_cmp i r))) tie) ∙ behind))
    ]
