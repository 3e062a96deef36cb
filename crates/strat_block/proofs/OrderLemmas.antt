-- Entries each of which stands behind the one before it stand in order.
use Rattle.std.proofs.Common.{◌≡◌, ℕ, Bool, true, ◌&&◌, List, [], ◌∷◌, Option, Some, None, refl, sym, ap, ◌∙◌, true≢false}
use Rattle.std.specs.List.{list_all}
use Rattle.std.specs.Ordering.{is_lt, nat_cmp, ordering_then}
use Rattle.std.specs.declared.cmp.Ordering.{Ordering}
use Rattle.std.specs.declared.cmp.Ordering.TheVariants.{Less, Equal, Greater}
use Rattle.std.proofs.lemmas.Bool.{and_parts, and_from}
use Rattle.std.specs.FinMap.{slice_cmp-IsAntisymmetric, nat_cmp-IsAntisymmetric}
use Rattle.std.proofs.lemmas.Cmp.{nat_list_cmp_total, nat_cmp_total}
use Rattle.strat_base.specs.Order.{key_cmp, entry_cmp}
use Rattle.strat_base.specs.Entries.{Entry, is_ascending}
use Rattle.strat_base.proofs.ListFacts.{Among, all_at, all_from}
use Rattle.strat_block.specs.Links.{may_stand_behind}

-- how two entries compare
abbrev pub compares : Entry → Entry → Ordering
compares e d = entry_cmp e.key e.version d.key d.version

pub key_tied : (x y : List ℕ) → key_cmp x y ≡ Equal → x ≡ y
key_tied x y e = slice_cmp-IsAntisymmetric nat_cmp-IsAntisymmetric x y e

compares_on : (e d f : Entry) → compares e d ≡ Less → compares d f ≡ Less → compares e f ≡ Less
compares_on e d f first second = go (key_cmp e.key d.key) (key_cmp d.key f.key) refl refl first second
  where
    go : (o p : Ordering) → key_cmp e.key d.key ≡ o → key_cmp d.key f.key ≡ p → ordering_then o (nat_cmp d.version e.version) ≡ Less → ordering_then p (nat_cmp f.version d.version) ≡ Less → compares e f ≡ Less
    go Less Less is next a b = ap (λ (o : Ordering). ordering_then o (nat_cmp f.version e.version)) (nat_list_cmp_total.trans e.key d.key f.key is next)
    go Less Equal is next a b =
        let k : d.key ≡ f.key = key_tied d.key f.key next in
        ap (λ (o : Ordering). ordering_then o (nat_cmp f.version e.version)) (ap (key_cmp e.key) (sym k) ∙ is)
    go Less Greater is next a b = absurd (cc)
    go Equal Less is next a b =
        let k : e.key ≡ d.key = key_tied e.key d.key is in
        ap (λ (o : Ordering). ordering_then o (nat_cmp f.version e.version)) (ap (λ (x : List ℕ). key_cmp x f.key) k ∙ next)
    go Equal Equal is next a b =
        let k : key_cmp e.key f.key ≡ Equal = ap (λ (x : List ℕ). key_cmp x f.key) (key_tied e.key d.key is) ∙ next in
        ap (λ (o : Ordering). ordering_then o (nat_cmp f.version e.version)) k ∙ nat_cmp_total.trans f.version d.version e.version b a
    go Equal Greater is next a b = absurd (cc)
    go Greater p is next a b = absurd (cc)

is_less : (o : Ordering) → is_lt o ≡ true → o ≡ Less
is_less Less h = refl
is_less Equal h = absurd (true≢false (sym h))
is_less Greater h = absurd (true≢false (sym h))

-- an entry stands before all of these
abbrev pub is_before_all : Entry → List Entry → Bool
is_before_all e entries = list_all (λ later. is_lt (entry_cmp e.key e.version later.key later.version)) entries

pub before_each : (e d : Entry) (entries : List Entry) → is_before_all e entries ≡ true → Among d entries → compares e d ≡ Less
before_each e d entries first among = is_less (compares e d) (all_at (λ later. is_lt (compares e later)) d entries first among)

before_too : (e d : Entry) (entries : List Entry) → compares e d ≡ Less → is_before_all d entries ≡ true → is_before_all e entries ≡ true
before_too e d entries less first =
    all_from (λ later. is_lt (compares e later)) entries (λ f among. ap is_lt (compares_on e d f less (before_each d f entries first among)))

-- each entry may follow the one before
abbrev pub are_linked : Option Entry → List Entry → Bool
are_linked before [] = true
are_linked before (e ∷ entries) = may_stand_behind before e && are_linked (Some e) entries

linked_after : (d : Entry) (entries : List Entry) → are_linked (Some d) entries ≡ true → is_ascending (d ∷ entries) ≡ true
linked_after d [] linked = refl
linked_after d (e ∷ entries) linked =
    let both = and_parts (is_lt (compares d e)) (are_linked (Some e) entries) linked in
    let rest : is_ascending (e ∷ entries) ≡ true = linked_after e entries both.1 in
    let first = and_parts (is_before_all e entries) (is_ascending entries) rest in
    and_from (is_before_all d (e ∷ entries)) (is_ascending (e ∷ entries))
    (and_from (is_lt (compares d e)) (is_before_all d entries) both.0 (before_too d e entries (is_less (compares d e) both.0) first.0))
    rest

pub linked_ascending : (entries : List Entry) → are_linked None entries ≡ true → is_ascending entries ≡ true
linked_ascending [] linked = refl
linked_ascending (e ∷ entries) linked = linked_after e entries linked

after_linked : (d : Entry) (entries : List Entry) → is_ascending (d ∷ entries) ≡ true → are_linked (Some d) entries ≡ true
after_linked d [] up = refl
after_linked d (e ∷ entries) up =
    let both = and_parts (is_before_all d (e ∷ entries)) (is_ascending (e ∷ entries)) up in
    and_from (is_lt (compares d e)) (are_linked (Some e) entries)
    (and_parts (is_lt (compares d e)) (is_before_all d entries) both.0).0
    (after_linked e entries both.1)

pub ascending_linked : (entries : List Entry) → is_ascending entries ≡ true → are_linked None entries ≡ true
ascending_linked [] up = refl
ascending_linked (e ∷ entries) up = after_linked e entries up
