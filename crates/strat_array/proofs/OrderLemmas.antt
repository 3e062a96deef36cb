-- Entries in order, and which of them are below a key.
use Rattle.std.proofs.Common.{◌≡◌, ℕ, Bool, true, false, cond, not, inl, inr, List, [], ◌∷◌, ◌++◌, refl, sym, ap, ◌∙◌, true≢false}
use Rattle.std.specs.List.{filter}
use Rattle.std.specs.Ordering.{is_lt, nat_cmp, ordering_then}
use Rattle.std.specs.declared.cmp.Ordering.{Ordering}
use Rattle.std.specs.declared.cmp.Ordering.TheVariants.{Less, Equal, Greater}
use Rattle.std.proofs.lemmas.Bool.{and_parts, cases_Bool, not-true}
use Rattle.std.proofs.lemmas.Cmp.{nat_list_cmp_total}
use Rattle.strat_base.specs.Order.{key_cmp}
use Rattle.strat_base.specs.Entries.{Entry, is_ascending}
use Rattle.strat_base.proofs.ListFacts.{Among, among_right}
use Rattle.def_state.proofs.MapLemmas.{same_key}
use Rattle.def_state.proofs.SettingLemmas.{order, stands_first, first_of}
use Rattle.strat_array.specs.Left.{is_from}

pub ascending_right : (xs ys : List Entry) → is_ascending (xs ++ ys) ≡ true → is_ascending ys ≡ true
ascending_right [] ys up = up
ascending_right (e ∷ xs) ys up = ascending_right xs ys (and_parts (stands_first e (xs ++ ys)) (is_ascending (xs ++ ys)) up).1

-- each entry of the first part stands before each of the second
pub ascending_across : (xs ys : List Entry) (e d : Entry) → is_ascending (xs ++ ys) ≡ true → Among e xs → Among d ys → order e d ≡ Less
ascending_across [] ys e d up among there = absurd among
ascending_across (x ∷ xs) ys e d up (inl here) there =
    ap (λ (y : Entry). order y d) here
    ∙ first_of x d (xs ++ ys) (and_parts (stands_first x (xs ++ ys)) (is_ascending (xs ++ ys)) up).0 (among_right xs ys d there)
ascending_across (x ∷ xs) ys e d up (inr among) there =
    ascending_across xs ys e d (and_parts (stands_first x (xs ++ ys)) (is_ascending (xs ++ ys)) up).1 among there

is_less : (o : Ordering) → is_lt o ≡ true → o ≡ Less
is_less Less h = refl
is_less Equal h = absurd (true≢false (sym h))
is_less Greater h = absurd (true≢false (sym h))

-- what stands before an entry that is below a key is below it too
pub below_before : (e d : Entry) (key : List ℕ) → order e d ≡ Less → is_lt (key_cmp d.key key) ≡ true → is_lt (key_cmp e.key key) ≡ true
below_before e d key less below = go (key_cmp e.key d.key) refl less
  where
    go : (o : Ordering) → key_cmp e.key d.key ≡ o → ordering_then o (nat_cmp d.version e.version) ≡ Less → is_lt (key_cmp e.key key) ≡ true
    go Less is h = ap is_lt (nat_list_cmp_total.trans e.key d.key key is (is_less (key_cmp d.key key) below))
    go Equal is h = ap (λ (k : List ℕ). is_lt (key_cmp k key)) (same_key e.key d.key is) ∙ below
    go Greater is h = absurd (cc)

-- what stands after an entry that is not below a key isn't either
pub from_after : (e d : Entry) (key : List ℕ) → order e d ≡ Less → is_from key e ≡ true → is_from key d ≡ true
from_after e d key less from = elim (cases_Bool (is_lt (key_cmp d.key key))) [
  | inl below ↦ absurd (true≢false (sym (below_before e d key less below) ∙ not-true (is_lt (key_cmp e.key key)) from))
  | inr above ↦ ap not above
]

pub filter_none : {X : Type 0} (p : X → Bool) (xs : List X) → ((x : X) → Among x xs → p x ≡ false) → filter p xs ≡ []
filter_none p [] each = refl
filter_none p (x ∷ xs) each =
    ap (λ (b : Bool). cond b (x ∷ filter p xs) (filter p xs)) (each x (inl refl)) ∙ filter_none p xs (λ y among. each y (inr among))

pub filter_each : {X : Type 0} (p : X → Bool) (xs : List X) → ((x : X) → Among x xs → p x ≡ true) → filter p xs ≡ xs
filter_each p [] each = refl
filter_each p (x ∷ xs) each =
    ap (λ (b : Bool). cond b (x ∷ filter p xs) (filter p xs)) (each x (inl refl)) ∙ ap (λ (r : List _). x ∷ r) (filter_each p xs (λ y among. each y (inr among)))

-- entries in order of which the first is not below a key are all not below it
pub all_after_first : (e : Entry) (entries : List Entry) (key : List ℕ) → is_ascending (e ∷ entries) ≡ true → is_from key e ≡ true → (d : Entry) → Among d (e ∷ entries) → is_from key d ≡ true
all_after_first e entries key up from d (inl here) = ap (is_from key) here ∙ from
all_after_first e entries key up from d (inr there) =
    from_after e d key (first_of e d entries (and_parts (stands_first e entries) (is_ascending entries) up).0 there) from
