-- The block that a scratch holds, and what is left at a place in it.
use Rattle.std.proofs.Common.{◌≡◌, ◌<◌, ◌≤◌, ◌+◌, ℕ, zero, suc, Bool, true, false, cond, ltb, inl, inr, List, [], ◌∷◌, length, Contains, Option, Some, None, IfSome, is_some, refl, sym, ap, ◌∙◌, subst, arith, true≢false}
use Rattle.std.specs.List.{slice_get}
use Rattle.std.specs.Map.{lookup}
use Rattle.std.proofs.lemmas.Bool.{lt-ltb, le-ltb, ltb-false}
use Rattle.lru.proofs.CallerLemmas.{Contains-lookup}
use Rattle.strat_base.specs.Entries.{Entry}
use Rattle.def_crash.specs.Moments.{DiskView}
use Rattle.strat_array.specs.declared.place.Place.{Place}
use Rattle.strat_array.specs.Kept.{Kept, Blocks, is_keyed, held_block, TakesOver, Looks, ArrayStands}
use Rattle.strat_array.specs.Left.{left_at}
use Rattle.strat_array.specs.Steps.{HoldsPlace}
use Rattle.strat_array.proofs.CacheLemmas.{keyed_same}
use Rattle.strat_array.proofs.KeptLemmas.{listed_at, listed_length, held_is}
use Rattle.strat_array.proofs.WalkLemmas.{left_past, left_end}

-- a block that was copied out of a cache
pub copy_taken : (c : Blocks) (array index : ℕ) (s t : Option Kept) (x : List Entry) → lookup (is_keyed array index) c.entries ≡ Some x → t ≡ Some ((array, index), x) → TakesOver c array index s t
copy_taken c array index s t x found is = record {
  each = λ k y there.
      let both : Some ((array, index), x) ≡ Some (k, y) = sym is ∙ there in
      let one : ((array, index), x) ≡ (k, y) = cc in
      let key : k ≡ (array, index) = sym (ap (λ (p : Kept). p.0) one) in
      let value : x ≡ y = ap (λ (p : Kept). p.1) one in
      let at = Contains-lookup (is_keyed array index) c.entries x found in
      let at_key : at.0 ≡ k = keyed_same array index at.0 at.2 ∙ sym key in
      inr (key, subst (λ (z : List Entry). Contains c.entries (k, z)) value (subst (λ (j : ℕ × ℕ). Contains c.entries (j, x)) at_key at.1));
}

-- a call that looked at a block and then took a copy of it
pub looks_taken : (old new : DiskView) (array : ℕ) (blocks : List ℕ) (c d : Blocks) (s t u : Option Kept) (index block : ℕ) → Looks old new array blocks c d s t → TakesOver d array index t u → slice_get blocks index ≡ Some block → Looks old new array blocks c d s u
looks_taken old new array blocks c d s t u index block looks taken place = record {
  disk = looks.disk;
  cap = looks.cap;
  cached = looks.cached;
  held = λ k x there.
      elim (taken.each k x there) [
        | inl same ↦ looks.held k x same
        | inr copy ↦
            elim (looks.cached k x copy.1) [
              | inl before ↦ inr (inl (record {
                mine = ap (λ (p : ℕ × ℕ). p.0) copy.0;
                block = block;
                place = ap (λ (p : ℕ × ℕ). slice_get blocks p.1) copy.0 ∙ place;
                cached = before;
              }))
              | inr read ↦ inr (inr read)
            ]
      ];
}

pub get_within : {X : Type 0} (xs : List X) (i : ℕ) (x : X) → slice_get xs i ≡ Some x → i < length xs
get_within [] i x e = absurd (cc)
get_within (y ∷ ys) zero x e = omega arith
get_within (y ∷ ys) (suc i) x e = let rest = get_within ys i x e in omega arith

past_get : {X : Type 0} (xs : List X) (i : ℕ) → slice_get xs i ≡ None → length xs ≤ i
past_get [] i e = omega arith
past_get (y ∷ ys) zero e = absurd (cc)
past_get (y ∷ ys) (suc i) e = let rest = past_get ys i e in omega arith

get_past : {X : Type 0} (xs : List X) (i : ℕ) → length xs ≤ i → slice_get xs i ≡ None
get_past [] i le = refl
get_past (y ∷ ys) zero le = absurd (omega arith)
get_past (y ∷ ys) (suc i) le = get_past ys i (omega arith)

-- the entries that a scratch holds
pub held_entries : (s : Option Kept) (array index : ℕ) → is_some (held_block s array index) ≡ true → (x : List Entry) × (held_block s array index ≡ Some x)
held_entries s array index some = go (held_block s array index) some
  where
    go : (o : Option (List Entry)) → is_some o ≡ true → (x : List Entry) × (o ≡ Some x)
    go None none = absurd (true≢false (sym none))
    go (Some x) there = (x, refl)

-- they are those of which the scratch speaks
pub held_has : (s : Option Kept) (array index : ℕ) (x : List Entry) (P : List Entry → Type 0) → held_block s array index ≡ Some x → IfSome s (λ kept. P kept.1) → P x
held_has None array index x P held is = absurd (cc)
held_has (Some kept) array index x P held is =
    elim (is_keyed array index kept.0) as (λ b. is_keyed array index kept.0 ≡ b → P x) [
      | true ↦ λ t.
          let e : Some kept.1 ≡ Some x = sym (ap (λ (b : Bool). cond b (Some kept.1) None) t) ∙ held in
          let same : kept.1 ≡ x = cc in
          subst P same is
      | false ↦ λ t. let e : None ≡ Some x = sym (ap (λ (b : Bool). cond b (Some kept.1) None) t) ∙ held in absurd (cc)
    ] refl

module _ (content : Option (ℕ → ℕ)) (array : ℕ) (blocks : List ℕ) (c : Blocks) (s : Option Kept) (lists : List (List Entry)) (stands : ArrayStands content array blocks c s lists) (index : ℕ) where
  pub held_within : is_some (held_block s array index) ≡ true → true ≡ ltb index (length lists)
  held_within some =
      let x = held_entries s array index some in
      sym (lt-ltb index (length lists) (get_within lists index x.0 (held_is content array blocks c lists index x.0 s stands x.1)))

  pub place_within : (block : ℕ) → slice_get blocks index ≡ Some block → true ≡ ltb index (length lists)
  place_within block place =
      let at = listed_at stands.image blocks lists index block stands.listed place in
      sym (lt-ltb index (length lists) (get_within lists index at.0 at.1))

  pub place_past : slice_get blocks index ≡ None → false ≡ ltb index (length lists)
  place_past none =
      let len = listed_length stands.image blocks lists stands.listed in
      let le = past_get blocks index none in
      sym (le-ltb index (length lists) (omega (arith, len, le)))

-- past the end of the block that a scratch holds
pub left_past_held : (content : Option (ℕ → ℕ)) (array : ℕ) (blocks : List ℕ) (c : Blocks) (s : Option Kept) (lists : List (List Entry)) → ArrayStands content array blocks c s lists → (block index next : ℕ) (b : Bool) → is_some (held_block s array block) ≡ true → IfSome s (λ kept. b ≡ ltb index (length kept.1)) → b ≡ false → next ≡ block + 1 → left_at lists block index ≡ left_at lists next 0
left_past_held content array blocks c s lists stands block index next b some has is step =
    let x = held_entries s array block some in
    let b_is : b ≡ ltb index (length x.0) = held_has s array block x.0 (λ entries. b ≡ ltb index (length entries)) x.1 has in
    left_past lists block index x.0 (held_is content array blocks c lists block x.0 s stands x.1) (ltb-false index (length x.0) (sym b_is ∙ is))
    ∙ ap (λ (n : ℕ). left_at lists n 0) (sym step)

pub left_none : (lists : List (List Entry)) (block index : ℕ) (b : Bool) → b ≡ ltb block (length lists) → b ≡ false → left_at lists block index ≡ []
left_none lists block index b is no' = left_end lists block index (get_past lists block (ltb-false block (length lists) (sym is ∙ no')))

pub holds_place : (s : Option Kept) (array : ℕ) (place : Place) → is_some (held_block s array place.block) ≡ true → IfSome s (λ kept. place.index < length kept.1) → HoldsPlace s array place
holds_place s array place some has =
    let x = held_entries s array place.block some in
    record { entries = x.0; held = x.1; within = held_has s array place.block x.0 (λ entries. place.index < length entries) x.1 has }
