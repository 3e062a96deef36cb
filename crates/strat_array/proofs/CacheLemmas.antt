-- What a cache keeps after a block was used, or put into it.
use Rattle.std.proofs.Common.{◌≡◌, ℕ, Bool, true, cond, eqb, inl, inr, List, ◌∷◌, Option, Some, None, IsSome, Result, Ok, Err, OnOk, OnErr, is_some, refl, sym, subst}
use Rattle.std.specs.Map.{lookup, lookup_entry, remove_entry}
use Rattle.std.specs.Option.{option_map_or}
use Rattle.std.proofs.lemmas.Bool.{and_parts, eqb-true}
use Rattle.lru.specs.LruCache.{LruCache, lru_cache, promoted, put_entries}
use Rattle.lru.proofs.CallerLemmas.{Contains-promoted, Contains-lookup_entry, Contains-put_entries}
use Rattle.strat_base.specs.Entries.{Entry}
use Rattle.strat_array.specs.Kept.{Kept, is_keyed, AddsNone, AddsOnly}
use Rattle.strat_array.specs.Shown.{blocks_in}

-- a key that passes the test of an array and an index is these two
pub keyed_same : (array index : ℕ) (k : ℕ × ℕ) → is_keyed array index k ≡ true → k ≡ (array, index)
keyed_same array index k h =
    let parts = and_parts (eqb array k.0) (eqb index k.1) h in
    let a : array ≡ k.0 = eqb-true array k.0 parts.0 in
    let b : index ≡ k.1 = eqb-true index k.1 parts.1 in
    λ j. (sym a j, sym b j)

-- what was used most recently is still there
pub promoted_found : (test : ℕ × ℕ → Bool) (es : List Kept) → is_some (lookup test es) ≡ true → IsSome (lookup test (promoted test es))
promoted_found test es there = go (lookup_entry test es) refl
  where
    go : (o : Option Kept) → lookup_entry test es ≡ o → IsSome (lookup test (option_map_or (λ e. e ∷ remove_entry test es) o es))
    go None is = there
    go (Some e) is =
        subst (λ (b : Bool). IsSome (cond b (Some e.1) (lookup test (remove_entry test es)))) (sym (Contains-lookup_entry test es e is).1) refl

pub promoted_adds_none : (old new : LruCache (ℕ × ℕ) (List Entry)) (test : ℕ × ℕ → Bool) → new ≡ lru_cache (promoted test old.entries) old.cap → AddsNone (blocks_in old) (blocks_in new)
promoted_adds_none old new test is =
    subst (λ (c : LruCache (ℕ × ℕ) (List Entry)). AddsNone (blocks_in old) (blocks_in c)) (sym is)
    (record { cap = refl; each = λ k x there. Contains-promoted test old.entries (k, x) there })

pub put_adds_only : {T E : Type 0} (old new : LruCache (ℕ × ℕ) (List Entry)) (array index : ℕ) (x : List Entry) (r : Result T E)
    → OnOk r (new ≡ lru_cache (put_entries (λ a. is_keyed a.0 a.1) old (array, index) x) old.cap) → OnErr r (new ≡ old) → AddsOnly (blocks_in old) (blocks_in new) (array, index) x
put_adds_only old new array index x (Ok t) ok err =
    subst (λ (c : LruCache (ℕ × ℕ) (List Entry)). AddsOnly (blocks_in old) (blocks_in c) (array, index) x) (sym ok) (record {
      cap = refl;
      each = λ k y there.
          elim (Contains-put_entries (λ a. is_keyed a.0 a.1) old (array, index) x (k, y) there) [
            | inl before ↦ inl before
            | inr put ↦ inr (elim put.1 [ inl same ↦ same | inr other ↦ keyed_same array index k other.2 ], put.0)
          ];
    })
put_adds_only old new array index x (Err e) ok err =
    subst (λ (c : LruCache (ℕ × ℕ) (List Entry)). AddsOnly (blocks_in old) (blocks_in c) (array, index) x) (sym err) (record { cap = refl; each = λ k y there. inl there })
