-- The blocks of contents in a space.
use Rattle.std.proofs.Common.{◌≡◌, ◌≤◌, ◌+◌, ℕ, Bool, true, false, cond, eqb, leb, ltb, not, ◌&&◌, inl, inr, List, [], ◌∷◌, ◌++◌, append-nil, Option, None, Some, refl, sym, ap, ◌∙◌, subst, arith, append_assoc, true≢false}
use Rattle.std.specs.List.{count_by, flat_map, list_all}
use Rattle.std.specs.Option.{option_to_list}
use Rattle.std.proofs.lemmas.Bool.{and_parts, and_from, leb-true, le-leb, eq-eqb, cases_Bool, not_from_false, not-true, false_from_ne_true}
use Rattle.std.proofs.lemmas.Grind.{flat_map-append}
use Rattle.std.proofs.lemmas.List.Sums.{sum_by-cons, sum_by-append}
use Rattle.strat_base.specs.declared.descriptors.ArrayDesc.{ArrayDesc}
use Rattle.strat_base.specs.declared.descriptors.Extent.{Extent}
use Rattle.strat_base.specs.declared.descriptors.LevelDesc.{LevelDesc}
use Rattle.strat_base.specs.Entries.{is_tagged}
use Rattle.strat_base.proofs.ListFacts.{Among, all_from}
use Rattle.strat_extent.specs.Blocks.{SpaceView, times_in, is_used, is_free, uses}
use Rattle.strat_extent.specs.Change.{IsMarked, CanGive}
use Rattle.strat_extent.proofs.BlockLemmas.{times_listed}
use Rattle.strat_extent.proofs.CountLemmas.{times_append}
use Rattle.def_bytes.specs.Arrays.{blocks_of}
use Rattle.def_bytes.specs.Layout.{first_free}
use Rattle.def_recovery.specs.Head.{descriptors}
use Rattle.def_recovery.specs.Opening.{has_own_blocks}
use Rattle.def_state.specs.Level.{is_distinct}
use Rattle.def_state.proofs.LevelLemmas.{tagged_among}
use Rattle.def_publish.specs.Contents.{Contents, named_blocks}
use Rattle.def_publish.specs.Next.{arrays_made, IsNextOf}
use Rattle.def_publish.specs.Occupied.{times_named, IsSpaceOf, UsesMore, extents_of, arrays_in}
use Rattle.def_publish.specs.Standing.{AreFree}
use Rattle.def_publish.proofs.ListLemmas.{contained_among}
use Rattle.def_publish.proofs.NextLemmas.{made_by}

abbrev times : List ℕ → ℕ → ℕ
times xs b = count_by (λ other. eqb other b) xs

times_joined : (xs ys : List ℕ) (b : ℕ) → times (xs ++ ys) b ≡ times xs b + times ys b
times_joined xs ys b = sum_by-append (λ (a : ℕ). cond (eqb a b) 1 0) xs ys

-- a block stands in the extents of arrays as often as in the list of their blocks
times_arrays : (rs : List ArrayDesc) (b : ℕ) → times (flat_map (λ a. blocks_of a.extents) rs) b ≡ times_in (extents_of rs) b
times_arrays [] b = refl
times_arrays (a ∷ rs) b =
    omega (
      arith,
      times_joined (blocks_of a.extents) (flat_map (λ (x : ArrayDesc). blocks_of x.extents) rs) b,
      times_listed a.extents b,
      times_arrays rs b,
      times_append a.extents (extents_of rs) b,
    )

-- how often contents name a block, in the chain and in the arrays
pub named_times : (x : Contents) (b : ℕ) → times_named x b ≡ times x.chained.blocks b + times_in (extents_of (descriptors x.chained.manifest)) b
named_times x b = omega (
  arith,
  times_joined x.chained.blocks (flat_map (λ (a : ArrayDesc). blocks_of a.extents) (descriptors x.chained.manifest)) b,
  times_arrays (descriptors x.chained.manifest) b,
)

times_parts : (rs bs : List ArrayDesc) (b : ℕ) → times_in (extents_of (rs ++ bs)) b ≡ times_in (extents_of rs) b + times_in (extents_of bs) b
times_parts rs bs b = ap (λ (xs : List Extent). times_in xs b) (flat_map-append (λ (a : ArrayDesc). a.extents) rs bs) ∙ times_append (extents_of rs) (extents_of bs) b

pub marked_more : (s t : SpaceView) (xs : List Extent) → IsMarked s xs t → UsesMore s xs t
marked_more s t xs m = record { first = m.first; used = m.used }

-- blocks that become used stand beside those of contents
pub taken_beside : (s t : SpaceView) (x : Contents) (others xs : List Extent) → IsSpaceOf s x others → UsesMore s xs t → IsSpaceOf t x (xs ++ others)
taken_beside s t x others xs is more = record {
  first = more.first ∙ is.first;
  used = λ b. omega (arith, more.used b, is.used b, times_append xs others b);
}

-- and may be given back
pub given_back : (s t : SpaceView) (x : Contents) (others xs : List Extent) → IsSpaceOf s x (xs ++ others) → UsesMore t xs s → IsSpaceOf t x others
given_back s t x others xs is more = record {
  first = sym more.first ∙ is.first;
  used = λ b. omega (arith, more.used b, is.used b, times_append xs others b);
}

pub can_give : (s : SpaceView) (x : Contents) (others xs : List Extent) → IsSpaceOf s x (xs ++ others) → CanGive s xs
can_give s x others xs is = λ b. omega (arith, is.used b, times_append xs others b)

-- the next contents name what the old ones do, but for what is gone and what is new
pub next_space : (s : SpaceView) (old new : Contents) (made : Option LevelDesc) (taken kept : List LevelDesc) (chain gone others : List Extent)
    → IsNextOf old new made taken kept → blocks_of chain ≡ new.chained.blocks → blocks_of gone ≡ old.chained.blocks
    → IsSpaceOf s old (chain ++ (extents_of (arrays_made made) ++ others)) → IsSpaceOf s new (gone ++ (extents_of (arrays_in taken) ++ others))
next_space s old new made taken kept chain gone others next chain_is gone_is is =
    let now : descriptors new.chained.manifest ≡ arrays_made made ++ arrays_in kept = ap arrays_in next.levels_are ∙ made_by made kept in
    let was : descriptors old.chained.manifest ≡ arrays_in taken ++ arrays_in kept = ap arrays_in next.levels_were ∙ flat_map-append (λ (l : LevelDesc). l.arrays) taken kept in
    record {
      first = is.first ∙ ap first_free (sym next.promoted.mem);
      used = λ b. omega (
        arith,
        is.used b,
        named_times old b,
        named_times new b,
        ap (λ (rs : List ArrayDesc). times_in (extents_of rs) b) now,
        ap (λ (rs : List ArrayDesc). times_in (extents_of rs) b) was,
        times_parts (arrays_made made) (arrays_in kept) b,
        times_parts (arrays_in taken) (arrays_in kept) b,
        ap (λ (l : List ℕ). times l b) chain_is,
        ap (λ (l : List ℕ). times l b) gone_is,
        times_listed chain b,
        times_listed gone b,
        times_append chain (extents_of (arrays_made made) ++ others) b,
        times_append (extents_of (arrays_made made)) others b,
        times_append gone (extents_of (arrays_in taken) ++ others) b,
        times_append (extents_of (arrays_in taken)) others b,
      );
    }

abbrev once_if : Bool → ℕ
once_if t = cond t 1 0

-- blocks that stand at most once
pub counted_some : (xs : List ℕ) (x : ℕ) → Among x xs → 1 ≤ times xs x
counted_some [] x among = absurd among
counted_some (y ∷ xs) x (inl here) = omega (arith, ap once_if (eq-eqb y x (sym here)), sum_by-cons (λ (a : ℕ). cond (eqb a x) 1 0) y xs)
counted_some (y ∷ xs) x (inr there) = omega (arith, counted_some xs x there, sum_by-cons (λ (a : ℕ). cond (eqb a x) 1 0) y xs)

distinct_counted : (xs : List ℕ) → ((b : ℕ) → times xs b ≤ 1) → is_distinct xs ≡ true
distinct_counted [] once = refl
distinct_counted (x ∷ xs) once =
    let rest : (b : ℕ) → times xs b ≤ 1 = λ b. omega (arith, once b, sum_by-cons (λ (a : ℕ). cond (eqb a b) 1 0) x xs) in
    let alone : is_tagged xs x ≡ false = elim (cases_Bool (is_tagged xs x)) [
      | inl tagged ↦ absurd (omega (arith, once x, counted_some xs x (tagged_among xs x tagged), ap once_if (eq-eqb x x refl), sum_by-cons (λ (a : ℕ). cond (eqb a x) 1 0) x xs))
      | inr none ↦ none
    ] in
    and_from (not (is_tagged xs x)) (is_distinct xs) (not_from_false (is_tagged xs x) alone) (distinct_counted xs rest)

uses_once : (s : SpaceView) (b : ℕ) → uses s b ≤ 1
uses_once s b = elim (is_used s b) as (λ (t : Bool). cond t 1 0 ≤ 1) [ true ↦ omega arith | false ↦ omega arith ]

used_high : (s : SpaceView) (b : ℕ) → 1 ≤ uses s b → s.first ≤ b
used_high s b some = by (is_used s b) refl some
  where
    by : (t : Bool) → is_used s b ≡ t → 1 ≤ cond t 1 0 → s.first ≤ b
    by true is le =
        let within = and_parts (leb s.first b && ltb b s.end) (eqb (times_in s.holes b) 0) is in
        leb-true s.first b (and_parts (leb s.first b) (ltb b s.end) within.0).0
    by false is le = absurd (omega (arith, le))

-- contents whose blocks just are used have their own blocks
pub own_blocks : (s : SpaceView) (x : Contents) (others : List Extent) → IsSpaceOf s x others → has_own_blocks x.sb x.chained.blocks x.chained.manifest ≡ true
own_blocks s x others is =
    and_from (is_distinct (named_blocks x)) (list_all (λ b. leb (first_free x.sb.mem) b) (named_blocks x))
    (distinct_counted (named_blocks x) (λ b. omega (arith, is.used b, uses_once s b)))
    (all_from (λ b. leb (first_free x.sb.mem) b) (named_blocks x) (λ b among.
    le-leb (first_free x.sb.mem) b (omega (arith, used_high s b (omega (arith, is.used b, counted_some (named_blocks x) b among)), is.first))))

-- a publication from end to end
pub blocks_published : (s t u : SpaceView) (old new : Contents) (made : Option LevelDesc) (taken kept : List LevelDesc) (chain gone : List Extent)
    → IsNextOf old new made taken kept → blocks_of chain ≡ new.chained.blocks → blocks_of gone ≡ old.chained.blocks → IsSpaceOf s old []
    → UsesMore s (chain ++ extents_of (arrays_made made)) t → UsesMore u (gone ++ extents_of (arrays_in taken)) t → IsSpaceOf u new []
blocks_published s t u old new made taken kept chain gone next chain_is gone_is is more back =
    let before : IsSpaceOf t old (chain ++ (extents_of (arrays_made made) ++ [])) =
    subst (IsSpaceOf t old) (append_assoc chain (extents_of (arrays_made made)) []) (taken_beside s t old [] (chain ++ extents_of (arrays_made made)) is more) in
    let after = next_space t old new made taken kept chain gone [] next chain_is gone_is before in
    given_back t u new [] (gone ++ extents_of (arrays_in taken)) (subst (IsSpaceOf t new) (sym (append_assoc gone (extents_of (arrays_in taken)) [])) after) back

-- blocks that join others
pub joined_beside : (s t : SpaceView) (x : Contents) (others xs ys : List Extent) → IsSpaceOf s x (xs ++ others) → t.first ≡ s.first
    → ((b : ℕ) → uses t b + times_in xs b ≡ uses s b + times_in ys b) → IsSpaceOf t x (ys ++ others)
joined_beside s t x others xs ys is first more = record {
  first = first ∙ is.first;
  used = λ b. omega (arith, more b, is.used b, times_append xs others b, times_append ys others b);
}

pub uses_both : (s t u : SpaceView) (xs ys : List Extent) → UsesMore s xs t → UsesMore t ys u → UsesMore s (xs ++ ys) u
uses_both s t u xs ys one two = record { first = two.first ∙ one.first; used = λ b. omega (arith, one.used b, two.used b, times_append xs ys b) }

-- a space with just the blocks of contents
pub marked_space : (s t : SpaceView) (x : Contents) (chain : List Extent) → s.first ≡ first_free x.sb.mem → ((b : ℕ) → is_used s b ≡ false) → blocks_of chain ≡ x.chained.blocks
    → UsesMore s (chain ++ extents_of (descriptors x.chained.manifest)) t → IsSpaceOf t x []
marked_space s t x chain first none chain_is more = record {
  first = more.first ∙ first;
  used = λ b. omega (
    arith,
    more.used b,
    ap once_if (none b),
    named_times x b,
    ap (λ (l : List ℕ). times l b) chain_is,
    times_listed chain b,
    times_append chain (extents_of (descriptors x.chained.manifest)) b,
  );
}

used_there : (s : SpaceView) (b : ℕ) → 1 ≤ uses s b → is_used s b ≡ true
used_there s b some = by (is_used s b) some
  where
    by : (t : Bool) → 1 ≤ cond t 1 0 → t ≡ true
    by true le = refl
    by false le = absurd (omega (arith, le))

-- what is free in the space is free beside the contents
pub free_beside : (s : SpaceView) (x : Contents) (others : List Extent) → IsSpaceOf s x others → AreFree (is_free s) x
free_beside s x others is = record {
  behind = λ b low. false_from_ne_true (is_free s b) (λ free.
      let parts = and_parts (leb s.first b && ltb b 4294967295) (not (is_used s b)) free in
      omega (arith, leb-true s.first b (and_parts (leb s.first b) (ltb b 4294967295) parts.0).0, low, is.first));
  unnamed = λ b named. false_from_ne_true (is_free s b) (λ free.
      let parts = and_parts (leb s.first b && ltb b 4294967295) (not (is_used s b)) free in
      let used = used_there s b (omega (arith, is.used b, counted_some (named_blocks x) b (contained_among (named_blocks x) b named))) in
      true≢false (sym used ∙ not-true (is_used s b) parts.1));
}

-- the blocks of arrays that were made are not free
pub array_blocks_used : (s t : SpaceView) (made : Option LevelDesc) (b : ℕ) → UsesMore s (extents_of (arrays_made made)) t
    → Among b (flat_map (λ (a : ArrayDesc). blocks_of a.extents) (arrays_in (option_to_list made))) → is_free t b ≡ false
array_blocks_used s t made b more among =
    let listed : flat_map (λ (l : LevelDesc). l.arrays) (option_to_list made) ≡ arrays_made made = by_made made in
    let here = subst (λ (rs : List ArrayDesc). Among b (flat_map (λ (a : ArrayDesc). blocks_of a.extents) rs)) listed among in
    let some = counted_some (flat_map (λ (a : ArrayDesc). blocks_of a.extents) (arrays_made made)) b here in
    let times_is = times_arrays (arrays_made made) b in
    let used = used_there t b (omega (arith, more.used b, some, times_is)) in
    false_from_ne_true (is_free t b) (λ free.
    let parts = and_parts (leb t.first b && ltb b 4294967295) (not (is_used t b)) free in
    true≢false (sym used ∙ not-true (is_used t b) parts.1))
  where
    by_made : (o : Option LevelDesc) → flat_map (λ (l : LevelDesc). l.arrays) (option_to_list o) ≡ arrays_made o
    by_made None = refl
    by_made (Some level) = append-nil level.arrays

-- a block that contents name is used in their space
pub named_used : (s : SpaceView) (x : Contents) (others : List Extent) → IsSpaceOf s x others → (b : ℕ) → Among b (named_blocks x) → is_used s b ≡ true
named_used s x others is b among = used_there s b (omega (arith, is.used b, counted_some (named_blocks x) b among))
