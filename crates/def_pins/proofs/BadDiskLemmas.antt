-- Which block of a worked disk is bad.
use Rattle.std.proofs.Common.{◌≡◌, ℕ, true, eqb, inl, inr, List, [], ◌∷◌, ◌++◌, length, Some, None, Ok, Err, refl, sym, ap, ◌∙◌, subst, arith, true≢false, length-append}
use Rattle.std.specs.Prelude.{◌↔◌}
use Rattle.std.proofs.lemmas.Bool.{eqb-true}
use Rattle.strat_base.specs.Change.{change_in}
use Rattle.strat_base.specs.Entries.{Entry}
use Rattle.strat_base.specs.EntryBytes.{entry_in}
use Rattle.strat_base.specs.Numbers.{number, be}
use Rattle.strat_base.specs.Samples.{says}
use Rattle.strat_base.specs.Tree.{climb}
use Rattle.strat_base.proofs.ListFacts.{Among, any_among}
use Rattle.def_crash.specs.Image.{Image, window, over}
use Rattle.def_bytes.specs.Block.{block_in, block_bytes, entries_in}
use Rattle.def_bytes.specs.Chain.{link_bytes}
use Rattle.def_bytes.specs.Chained.{chain_from}
use Rattle.def_bytes.specs.Manifest.{all_pass, read_number, read_items, read_extent, read_array, read_level, read_mark, read_only, read_manifest, manifest_in, manifest_bytes}
use Rattle.strat_base.specs.declared.descriptors.ArrayDesc.{ArrayDesc}
use Rattle.def_bytes.specs.Records.{records}
use Rattle.def_bytes.specs.SuperBlock.{slot_of, slot_in, zeros}
use Rattle.def_state.specs.Sound.{IsSound}
use Rattle.def_state.specs.Worked.{chain}
use Rattle.def_state.proofs.BreachLemmas.{sound_from_none}
use Rattle.def_bytes.specs.Arrays.{block_on}
use Rattle.def_recovery.specs.Bad.{IsUnread, fits_behind, IsMisplaced, IsBad, refused, unread, misplaced}
use Rattle.def_recovery.specs.Disks.{published}
use Rattle.def_bytes.specs.Arrays.{blocks_of, entries_on}
use Rattle.def_recovery.specs.Opening.{recover, state_of}
use Rattle.def_recovery.proofs.BadLemmas.{contained_at, no_bad_block}
use Rattle.def_pins.specs.BadDisks.{chain_head, chain_array, uncounted, refused_slot, split_array, split_head, split_with, split_state}

unread_listed : (c : Image) (a : ArrayDesc) (b : ℕ) → IsUnread c a b → Among b (blocks_of a.extents)
unread_listed c a b bad =
    let named = any_among (λ other. eqb other b) (blocks_of a.extents) bad.mine in
    subst (λ (x : ℕ). Among x (blocks_of a.extents)) (eqb-true named.0 b named.2) named.1

only : (p b : ℕ) (front back : List ℕ) → p ∷ [] ≡ front ++ b ∷ back → b ≡ p
only p b [] back e = cc
only p b (f ∷ front) back e = absurd (omega (arith, ap (λ (x : List ℕ). length x) e, length-append front (b ∷ back)))

-- of two blocks of which the first fits, only the second may be out of place
module _ (c : Image) (versions : ℕ) (a : ArrayDesc) (p q : ℕ) (two : blocks_of a.extents ≡ p ∷ q ∷ []) (first : List Entry) (one : block_on c p ≡ Some first) (fits : fits_behind versions a [] first ≡ true) (b : ℕ) where
  misplaced_second : IsMisplaced c versions a b → b ≡ q
  unfolding entries_on
  misplaced_second bad = by_front bad.front bad.back (sym two ∙ bad.place) bad.earlier
    where
      by_front : (front back : List ℕ) → p ∷ q ∷ [] ≡ front ++ b ∷ back → entries_on c front ≡ Some bad.before → b ≡ q
      by_front [] back e earlier =
          let at : p ≡ b = cc in
          let none : [] ≡ bad.before = cc in
          let both : Some first ≡ Some bad.entries = sym one ∙ ap (block_on c) at ∙ bad.here in
          let same : first ≡ bad.entries = cc in
          absurd (true≢false (sym fits ∙ (λ i. fits_behind versions a (none i) (same i)) ∙ bad.misfit))
      by_front (f ∷ []) back e earlier = cc
      by_front (f ∷ g ∷ front) back e earlier = absurd (omega (arith, ap (λ (x : List ℕ). length x) e, length-append front (b ∷ back)))

-- an array that is the only one of a list
alone : (x a : ArrayDesc) → Among a (x ∷ []) → a ≡ x
alone x a (inl here) = here
alone x a (inr none) = absurd none

pub refused_recovers : recover refused_slot ≡ Err 1
unfolding number be window over slot_of slot_in zeros
refused_recovers = refl

pub one_is_bad : (b : ℕ) → IsBad refused_slot 1 [] [] b ↔ (b ≡ 1)
one_is_bad b = (to, from)
  where
    to : IsBad refused_slot 1 [] [] b → b ≡ 1
    to (refused e) = let found = refused_recovers in cc
    to (unread a named bad) = absurd (contained_at a [] named.0 named.1 named.2)
    to (misplaced a named bad) = absurd (contained_at a [] named.0 named.1 named.2)

    from : b ≡ 1 → IsBad refused_slot 1 [] [] b
    from at = refused (refused_recovers ∙ ap Err (sym at))

pub uncounted_opens : recover uncounted ≡ Ok (Some chain_head)
unfolding number be window over slot_of slot_in zeros change_in all_pass read_number read_items read_extent read_array read_level read_mark read_only read_manifest manifest_in manifest_bytes chain_from records link_bytes
uncounted_opens = refl

uncounted_seven : block_on uncounted 7 ≡ None
unfolding number be window over entry_in entries_in block_bytes block_in
uncounted_seven = refl

pub seven_is_bad : (b : ℕ) → IsBad uncounted 4 (chain_array ∷ []) (chain_array ∷ []) b ↔ (b ≡ 7)
seven_is_bad b = (to, from)
  where
    to : IsBad uncounted 4 (chain_array ∷ []) (chain_array ∷ []) b → b ≡ 7
    to (refused e) = let opens = uncounted_opens in absurd (cc)
    to (unread a named bad) =
        let same : a ≡ chain_array = alone chain_array a (contained_at a (chain_array ∷ []) named.0 named.1 named.2) in
        let at = unread_listed uncounted chain_array b (subst (λ (x : ArrayDesc). IsUnread uncounted x b) same bad) in
        elim at [ inl here ↦ here | inr none ↦ absurd none ]
    to (misplaced a named bad) =
        let same : a ≡ chain_array = alone chain_array a (contained_at a (chain_array ∷ []) named.0 named.1 named.2) in
        let here = subst (λ (x : ArrayDesc). IsMisplaced uncounted 4 x b) same bad in
        only 7 b here.front here.back here.place

    from : b ≡ 7 → IsBad uncounted 4 (chain_array ∷ []) (chain_array ∷ []) b
    from at = subst (λ (x : ℕ). IsBad uncounted 4 (chain_array ∷ []) (chain_array ∷ []) x) (sym at) (unread chain_array (0, omega arith, refl) (record { mine = refl; unread = uncounted_seven }))

pub seven_unnamed : (b : ℕ) → IsBad uncounted 4 [] (chain_array ∷ []) b → ⊥
seven_unnamed b (refused e) = let opens = uncounted_opens in cc
seven_unnamed b (unread a named bad) = contained_at a [] named.0 named.1 named.2
seven_unnamed b (misplaced a named bad) =
    let same : a ≡ chain_array = alone chain_array a (contained_at a (chain_array ∷ []) named.0 named.1 named.2) in
    let here = subst (λ (x : ArrayDesc). IsMisplaced uncounted 4 x b) same bad in
    let at : b ≡ 7 = only 7 b here.front here.back here.place in
    let none : Some here.entries ≡ None = sym here.here ∙ ap (block_on uncounted) at ∙ uncounted_seven in
    cc

chain_opens : recover published ≡ Ok (Some chain_head)
unfolding number be window over slot_of slot_in zeros change_in all_pass read_number read_items read_extent read_array read_level read_mark read_only read_manifest manifest_in manifest_bytes chain_from records link_bytes
chain_opens = refl

chain_read : state_of published chain_head ≡ Some chain
unfolding number be window over entry_in entries_in block_bytes block_in entries_on
chain_read = refl

chain_sound : IsSound chain
unfolding climb
chain_sound = sound_from_none chain (record { tree = refl; pruned = refl; numbered = refl; accepted = refl; fits = refl }) refl

pub chain_has_none : (b : ℕ) → IsBad published 4 (chain_array ∷ []) (chain_array ∷ []) b → ⊥
chain_has_none b = no_bad_block published chain_head chain b chain_opens chain_read chain_sound

pub split_opens : recover (split_with (says 97 1 50)) ≡ Ok (Some split_head)
unfolding number be window over slot_of slot_in zeros change_in all_pass read_number read_items read_extent read_array read_level read_mark read_only read_manifest manifest_in manifest_bytes chain_from records link_bytes
split_opens = refl

split_seven : block_on (split_with (says 97 1 50)) 7 ≡ Some (says 97 1 49 ∷ [])
unfolding number be window over entry_in entries_in block_bytes block_in
split_seven = refl

split_nine : block_on (split_with (says 97 1 50)) 9 ≡ Some (says 97 1 50 ∷ [])
unfolding number be window over entry_in entries_in block_bytes block_in manifest_bytes
split_nine = refl

split_earlier : entries_on (split_with (says 97 1 50)) (7 ∷ []) ≡ Some (says 97 1 49 ∷ [])
unfolding number be window over entry_in entries_in block_bytes block_in entries_on
split_earlier = refl

-- neither block of this array is unread
split_unread : (b : ℕ) → IsUnread (split_with (says 97 1 50)) split_array b → ⊥
split_unread b bad = by_block (unread_listed (split_with (says 97 1 50)) split_array b bad)
  where
    by_block : Among b (7 ∷ 9 ∷ []) → ⊥
    by_block (inl here) = let both : Some (says 97 1 49 ∷ []) ≡ None = sym split_seven ∙ ap (block_on (split_with (says 97 1 50))) (sym here) ∙ bad.unread in cc
    by_block (inr (inl here)) = let both : Some (says 97 1 50 ∷ []) ≡ None = sym split_nine ∙ ap (block_on (split_with (says 97 1 50))) (sym here) ∙ bad.unread in cc
    by_block (inr (inr none)) = none

pub nine_is_bad : (b : ℕ) → IsBad (split_with (says 97 1 50)) 4 (split_array ∷ []) (split_array ∷ []) b ↔ (b ≡ 9)
nine_is_bad b = (to, from)
  where
    to : IsBad (split_with (says 97 1 50)) 4 (split_array ∷ []) (split_array ∷ []) b → b ≡ 9
    to (refused e) = let opens = split_opens in absurd (cc)
    to (unread a named bad) =
        let same : a ≡ split_array = alone split_array a (contained_at a (split_array ∷ []) named.0 named.1 named.2) in
        absurd (split_unread b (subst (λ (x : ArrayDesc). IsUnread (split_with (says 97 1 50)) x b) same bad))
    to (misplaced a named bad) =
        let same : a ≡ split_array = alone split_array a (contained_at a (split_array ∷ []) named.0 named.1 named.2) in
        misplaced_second (split_with (says 97 1 50)) 4 split_array 7 9 refl (says 97 1 49 ∷ []) split_seven refl b
        (subst (λ (x : ArrayDesc). IsMisplaced (split_with (says 97 1 50)) 4 x b) same bad)

    from : b ≡ 9 → IsBad (split_with (says 97 1 50)) 4 (split_array ∷ []) (split_array ∷ []) b
    from at = subst (λ (x : ℕ). IsBad (split_with (says 97 1 50)) 4 (split_array ∷ []) (split_array ∷ []) x) (sym at)
        (misplaced split_array (0, omega arith, refl) (record {
          front = 7 ∷ [];
          back = [];
          place = refl;
          before = says 97 1 49 ∷ [];
          entries = says 97 1 50 ∷ [];
          earlier = split_earlier;
          here = split_nine;
          misfit = refl;
        }))

pub nine_unmerged : (b : ℕ) → IsBad (split_with (says 97 1 50)) 4 (split_array ∷ []) [] b → ⊥
nine_unmerged b (refused e) = let opens = split_opens in cc
nine_unmerged b (unread a named bad) =
    let same : a ≡ split_array = alone split_array a (contained_at a (split_array ∷ []) named.0 named.1 named.2) in
    split_unread b (subst (λ (x : ArrayDesc). IsUnread (split_with (says 97 1 50)) x b) same bad)
nine_unmerged b (misplaced a named bad) = contained_at a [] named.0 named.1 named.2

whole_opens : recover (split_with (says 98 1 49)) ≡ Ok (Some split_head)
unfolding number be window over slot_of slot_in zeros change_in all_pass read_number read_items read_extent read_array read_level read_mark read_only read_manifest manifest_in manifest_bytes chain_from records link_bytes
whole_opens = refl

whole_read : state_of (split_with (says 98 1 49)) split_head ≡ Some split_state
unfolding number be window over entry_in entries_in block_bytes block_in entries_on manifest_bytes
whole_read = refl

whole_sound : IsSound split_state
unfolding climb
whole_sound = sound_from_none split_state (record { tree = refl; pruned = refl; numbered = refl; accepted = refl; fits = refl }) refl

pub whole_has_none : (b : ℕ) → IsBad (split_with (says 98 1 49)) 4 (split_array ∷ []) (split_array ∷ []) b → ⊥
whole_has_none b = no_bad_block (split_with (says 98 1 49)) split_head split_state b whole_opens whole_read whole_sound
