-- Each array that is kept for cursors is named by one of them, whatever these do.
use Rattle.std.proofs.Common.{◌≡◌, ℕ, Bool, true, false, eqb, List, [], ◌∷◌, ◌++◌, Contains, refl, subst}
use Rattle.std.specs.Prelude.{if◌then◌else◌}
use Rattle.std.specs.List.{list_all, list_any}
use Rattle.std.proofs.lemmas.Bool.{and_from, and_parts, eqb-true}
use Rattle.strat_base.proofs.ListFacts.{Among, all_at, all_from, among_in_flat, any_among, filter_among}
use Rattle.strat_base.specs.declared.descriptors.ArrayDesc.{ArrayDesc}
use Rattle.strat_cursor.proofs.RetiredLemmas.{named_id, retired_rest}
use Rattle.strat_cursor.specs.Cursors.{CursorOver, CursorsOver, are_named, arrays_named, is_array_named, retired_all, those_named}
use Rattle.def_publish.proofs.ListLemmas.{among_contained}

-- one more
all_more : (p : ArrayDesc → Bool) (xs : List ArrayDesc) (x : ArrayDesc) → list_all p xs ≡ true → p x ≡ true → list_all p (xs ++ x ∷ []) ≡ true
all_more p [] x each one = and_from (p x) true one refl
all_more p (y ∷ xs) x each one =
    let parts = and_parts (p y) (list_all p xs) each in
    and_from (p y) (list_all p (xs ++ x ∷ [])) parts.0 (all_more p xs x parts.1 one)

module _ {L : Type 0} where
  -- a number that is named is that of an array that a cursor names
  named_of : (cursors : List (CursorOver L)) (id : ℕ) → is_array_named cursors id ≡ true → (a : ArrayDesc) × Among a (arrays_named cursors) × (a.id ≡ id)
  named_of cursors id on =
      let c = any_among (λ (c : CursorOver L). list_any (λ a. eqb a.id id) c.arrays) cursors on in
      let a = any_among (λ (b : ArrayDesc). eqb b.id id) c.0.arrays c.2 in
      (a.0, among_in_flat (λ (k : CursorOver L). k.arrays) cursors c.0 a.0 c.1 a.1, eqb-true a.0.id id a.2)

  -- what is named stays so where all that cursors name is still named
  pub needed_still : (cursors more : List (CursorOver L)) (arrays : List ArrayDesc) → ((a : ArrayDesc) → Contains (arrays_named cursors) a → Contains (arrays_named more) a)
      → are_named cursors arrays ≡ true → are_named more arrays ≡ true
  needed_still cursors more arrays still needed =
      all_from (λ a. is_array_named more a.id) arrays (λ a among.
      let n = named_of cursors a.id (all_at (λ b. is_array_named cursors b.id) a arrays needed among) in
      subst (λ (id : ℕ). is_array_named more id ≡ true) n.2 (named_id more n.0 (still n.0 (among_contained (arrays_named cursors) n.0 n.1))))

  -- those that are named are
  pub needed_those : (cursors : List (CursorOver L)) (arrays : List ArrayDesc) → are_named cursors (those_named cursors arrays) ≡ true
  needed_those cursors arrays =
      all_from (λ a. is_array_named cursors a.id) (those_named cursors arrays) (λ a among. (filter_among (λ (b : ArrayDesc). is_array_named cursors b.id) arrays a among).1)

  -- and those that a publication keeps are
  pub needed_retired : (arrays : List ArrayDesc) (c : CursorsOver L) → are_named c.opened c.retired ≡ true → are_named c.opened (retired_all arrays c).retired ≡ true
  unfolding retired_all
  needed_retired [] c needed = needed
  needed_retired (a ∷ arrays) c needed =
      let d = retired_all arrays c in
      by d (needed_retired arrays c needed) (is_array_named d.opened a.id) (subst (λ (cs : List (CursorOver L)). is_array_named cs a.id ≡ is_array_named d.opened a.id) (retired_rest c arrays).0 refl)
    where
      by : (d : CursorsOver L) → are_named c.opened d.retired ≡ true → (b : Bool) → is_array_named c.opened a.id ≡ b → are_named c.opened (if b then record d { retired = d.retired ++ a ∷ [] } else d).retired ≡ true
      by d kept true on = all_more (λ x. is_array_named c.opened x.id) d.retired a kept on
      by d kept false off = kept
