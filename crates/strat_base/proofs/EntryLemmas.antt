-- Entries of a set, by key and version.
use Rattle.std.proofs.Common.{◌≡◌, ℕ, true, eqb, not, inl, inr, List, [], ◌∷◌, Option, Some, None, refl, sym, ap, ◌∙◌, subst, true≢false, bytes_eq}
use Rattle.std.specs.List.{list_any}
use Rattle.std.proofs.lemmas.Bool.{eqb-true, eq-eqb, and_parts, and_from, not-true}
use Rattle.std.proofs.lemmas.Slice.Eq.{bytes_eq-Decides}
use Rattle.strat_base.specs.Entries.{Entry, is_of, is_at, is_same, is_same_value, is_single, holds_entry}
use Rattle.strat_base.proofs.ListFacts.{Among, any_from, any_among}

pub bytes_same : (xs ys : List ℕ) → bytes_eq xs ys ≡ true → xs ≡ ys
bytes_same xs ys e = (bytes_eq-Decides xs ys).0 e

pub same_bytes : (xs ys : List ℕ) → xs ≡ ys → bytes_eq xs ys ≡ true
same_bytes xs ys e = (bytes_eq-Decides xs ys).1 e

pub is_of_key : (key : List ℕ) (e : Entry) → is_of key e ≡ true → e.key ≡ key
is_of_key key e h = bytes_same e.key key h

pub is_at_key : (key : List ℕ) (u : ℕ) (e : Entry) → is_at key u e ≡ true → e.key ≡ key
is_at_key key u e h = bytes_same e.key key (and_parts (bytes_eq e.key key) (eqb e.version u) h).0

pub is_at_version : (key : List ℕ) (u : ℕ) (e : Entry) → is_at key u e ≡ true → e.version ≡ u
is_at_version key u e h = eqb-true e.version u (and_parts (bytes_eq e.key key) (eqb e.version u) h).1

pub at_key_version : (key : List ℕ) (u : ℕ) (e : Entry) → e.key ≡ key → e.version ≡ u → is_at key u e ≡ true
at_key_version key u e k v = and_from (bytes_eq e.key key) (eqb e.version u) (same_bytes e.key key k) (eq-eqb e.version u v)

same_value : (a b : Option (List ℕ)) → is_same_value a b ≡ true → a ≡ b
same_value None None e = refl
same_value None (Some y) e = absurd (true≢false (sym e))
same_value (Some x) None e = absurd (true≢false (sym e))
same_value (Some x) (Some y) e = ap (λ (z : List ℕ). Some z) (bytes_same x y e)

value_same : (a : Option (List ℕ)) → is_same_value a a ≡ true
value_same None = refl
value_same (Some x) = same_bytes x x refl

-- the test of entries tells equal ones
pub same_entry : (a b : Entry) → is_same a b ≡ true → b ≡ a
same_entry a b e =
    let parts = and_parts (is_at a.key a.version b) (is_same_value b.value a.value) e in
    let k : b.key ≡ a.key = is_at_key a.key a.version b parts.0 in
    let v : b.version ≡ a.version = is_at_version a.key a.version b parts.0 in
    let w : b.value ≡ a.value = same_value b.value a.value parts.1 in
    λ i. record { key = k i; version = v i; value = w i }

pub entry_same : (a b : Entry) → b ≡ a → is_same a b ≡ true
entry_same a b e =
    subst (λ (x : Entry). is_same a x ≡ true) (sym e)
    (and_from (is_at a.key a.version a) (is_same_value a.value a.value) (at_key_version a.key a.version a refl refl) (value_same a.value))

pub held_among : (entries : List Entry) (e : Entry) → holds_entry entries e ≡ true → Among e entries
held_among entries e h =
    let found = any_among (is_same e) entries h in
    subst (λ (x : Entry). Among x entries) (same_entry e found.0 found.2) found.1

pub among_held : (entries : List Entry) (e : Entry) → Among e entries → holds_entry entries e ≡ true
among_held entries e among = any_from (is_same e) e entries among (entry_same e e refl)

-- a set with one entry per key and version has no other for an entry's own
pub single_same : (entries : List Entry) (a b : Entry) → is_single entries ≡ true → Among a entries → Among b entries → is_at a.key a.version b ≡ true → a ≡ b
single_same [] a b one among other at = absurd among
single_same (e ∷ entries) a b one (inl here) (inl there) at = here ∙ sym there
single_same (e ∷ entries) a b one (inl here) (inr there) at =
    let parts = and_parts (not (list_any (is_at e.key e.version) entries)) (is_single entries) one in
    let at' : is_at e.key e.version b ≡ true = subst (λ (x : Entry). is_at x.key x.version b ≡ true) here at in
    absurd (true≢false (sym (any_from (is_at e.key e.version) b entries there at') ∙ not-true (list_any (is_at e.key e.version) entries) parts.0))
single_same (e ∷ entries) a b one (inr here) (inl there) at =
    let parts = and_parts (not (list_any (is_at e.key e.version) entries)) (is_single entries) one in
    let k : b.key ≡ a.key = is_at_key a.key a.version b at in
    let v : b.version ≡ a.version = is_at_version a.key a.version b at in
    let at' : is_at e.key e.version a ≡ true = subst (λ (x : Entry). is_at x.key x.version a ≡ true) there (at_key_version b.key b.version a (sym k) (sym v)) in
    absurd (true≢false (sym (any_from (is_at e.key e.version) a entries here at') ∙ not-true (list_any (is_at e.key e.version) entries) parts.0))
single_same (e ∷ entries) a b one (inr here) (inr there) at =
    single_same entries a b (and_parts (not (list_any (is_at e.key e.version) entries)) (is_single entries) one).1 here there at
