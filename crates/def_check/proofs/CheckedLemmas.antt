-- What a check finds, in terms of the state that a disk reads as.
use Rattle.std.proofs.Common.{◌≡◌, ℕ, suc, eqb, true, arith, ◌⊎◌, inl, inr, List, [], ◌∷◌, ◌++◌, Option, Some, None, Ok, Err, refl, sym, ap, ◌∙◌, subst, true≢false}
use Rattle.std.specs.Prelude.{option_map, option_and_then, is_none, unwrap_or}
use Rattle.std.specs.List.{find, Contains}
use Rattle.std.proofs.lemmas.Bool.{eq-eqb}
use Rattle.strat_base.specs.Entries.{Entry}
use Rattle.strat_base.specs.declared.descriptors.ArrayDesc.{ArrayDesc}
use Rattle.strat_base.specs.declared.descriptors.LevelDesc.{LevelDesc}
use Rattle.strat_base.proofs.ListFacts.{Among, any_from, find_some, find_none, among_flat, among_in_flat}
use Rattle.strat_base.proofs.ResultFacts.{option_cases}
use Rattle.def_crash.specs.Image.{Image}
use Rattle.def_bytes.specs.Arrays.{all_some, block_on, blocks_of, entries_on}
use Rattle.def_bytes.specs.Damage.{Read, and_then, found_or}
use Rattle.def_recovery.specs.Bad.{IsUnread}
use Rattle.def_recovery.specs.Head.{Head, descriptors}
use Rattle.def_recovery.specs.Opened.{array_on, level_on}
use Rattle.def_recovery.specs.Opening.{recover, opened, state_of, reads_as}
use Rattle.def_recovery.proofs.OpeningLemmas.{read_openable}
use Rattle.def_state.specs.Breach.{Breach, breaches}
use Rattle.def_state.specs.Sound.{IsSound}
use Rattle.def_state.specs.State.{State}
use Rattle.def_state.proofs.BreachLemmas.{sound_from_none, sound_none}
use Rattle.def_check.specs.Checked.{is_unread, listed_blocks, read_state, check_head, checked}

-- what makes nothing of a list makes nothing of an item
none_each : {A B : Type 0} (f : A → Option B) (xs : List A) → all_some f xs ≡ None → (x : A) × Among x xs × (f x ≡ None)
none_each f [] e = absurd (cc)
none_each {B = B} f (x ∷ xs) e =
    elim (option_cases (f x)) [
      | inl none ↦ (x, inl refl, none)
      | inr some ↦
          elim (option_cases (all_some f xs)) [
            | inl nothing ↦ let found = none_each f xs nothing in (found.0, inr found.1, found.2)
            | inr rest ↦
                let whole : Some (some.0 ∷ rest.0) ≡ None = sym (ap (λ (o : Option B). option_and_then (λ y. option_map (λ ys. y ∷ ys) (all_some f xs)) o) some.1 ∙ ap (λ (o : Option (List B)). option_map (λ ys. some.0 ∷ ys) o) rest.1) ∙ e in
                absurd (cc)
          ]
    ]

map_none : {A B : Type 0} (f : A → B) (o : Option A) → option_map f o ≡ None → o ≡ None
map_none f None e = refl
map_none f (Some x) e = absurd (cc)

unread_among : (c : Image) (blocks : List ℕ) → entries_on c blocks ≡ None → (b : ℕ) × Among b blocks × (block_on c b ≡ None)
unfolding entries_on
unread_among c [] e = absurd (cc)
unread_among c (b ∷ blocks) e =
    elim (option_cases (block_on c b)) [
      | inl none ↦ (b, inl refl, none)
      | inr some ↦
          elim (option_cases (entries_on c blocks)) [
            | inl nothing ↦ let found = unread_among c blocks nothing in (found.0, inr found.1, found.2)
            | inr rest ↦
                let whole : Some (some.0 ++ rest.0) ≡ None = sym (ap (λ (o : Option (List Entry)). option_and_then (λ entries. option_map (λ rest. entries ++ rest) (entries_on c blocks)) o) some.1 ∙ ap (λ (o : Option (List Entry)). option_map (λ more. some.0 ++ more) o) rest.1) ∙ e in
                absurd (cc)
          ]
    ]

-- where a head has no state, one of its blocks is no block of entries
unread_listed : (c : Image) (h : Head) → state_of c h ≡ None → (a : ArrayDesc) × (b : ℕ) × Among a (descriptors h.manifest) × Among b (blocks_of a.extents) × (block_on c b ≡ None)
unread_listed c h e =
    let levels = map_none _ (all_some (level_on c) h.manifest.levels) e in
    let level = none_each (level_on c) h.manifest.levels levels in
    let arrays = map_none _ (all_some (array_on c) level.0.arrays) level.2 in
    let array = none_each (array_on c) level.0.arrays arrays in
    let entries = map_none _ (entries_on c (blocks_of array.0.extents)) array.2 in
    let block = unread_among c (blocks_of array.0.extents) entries in
    (array.0, block.0, among_in_flat (λ (level : LevelDesc). level.arrays) h.manifest.levels level.0 array.0 level.1 array.1, block.1, block.2)

none_is : {A : Type 0} (o : Option A) → o ≡ None → is_none o ≡ true
none_is o e = ap (λ x. is_none x) e

is_no : {A : Type 0} (o : Option A) → is_none o ≡ true → o ≡ None
is_no None e = refl
is_no (Some x) e = absurd (true≢false (sym e))

-- a block that is blamed where a head has no state
pub blamed : (c : Image) (h : Head) (b : ℕ) → read_state c h ≡ Err b
    → (a : ArrayDesc) × Among a (descriptors h.manifest) × Among b (blocks_of a.extents) × (block_on c b ≡ None)
blamed c h b e =
    elim (option_cases (state_of c h)) [
      | inr some ↦
          let ok : Ok some.0 ≡ Err b = sym (ap (λ (o : Option State). found_or (unwrap_or (find (is_unread c) (listed_blocks h.manifest)) 0) o) some.1) ∙ e in
          absurd (cc)
      | inl none ↦
          let err : Err (unwrap_or (find (is_unread c) (listed_blocks h.manifest)) 0) ≡ Err b = sym (ap (λ (o : Option State). found_or (unwrap_or (find (is_unread c) (listed_blocks h.manifest)) 0) o) none) ∙ e in
          let same : unwrap_or (find (is_unread c) (listed_blocks h.manifest)) 0 ≡ b = cc in
          let bad = unread_listed c h none in
          elim (option_cases (find (is_unread c) (listed_blocks h.manifest))) [
            | inl nothing ↦
                absurd (true≢false (sym (none_is (block_on c bad.1) bad.4)
                ∙ find_none (is_unread c) (listed_blocks h.manifest) bad.1 nothing (among_in_flat (λ (a : ArrayDesc). blocks_of a.extents) (descriptors h.manifest) bad.0 bad.1 bad.2 bad.3)))
            | inr found ↦
                let at = find_some (is_unread c) (listed_blocks h.manifest) found.0 found.1 in
                let it : found.0 ≡ b = sym (ap (λ (o : Option ℕ). unwrap_or o 0) found.1) ∙ same in
                let mine = among_flat (λ (a : ArrayDesc). blocks_of a.extents) (descriptors h.manifest) found.0 at.0 in
                (mine.0, mine.1, subst (λ (x : ℕ). Among x (blocks_of mine.0.extents)) it mine.2, ap (block_on c) (sym it) ∙ is_no (block_on c found.0) at.1)
          ]
    ]

-- what is read is a state, or a block
state_read : (c : Image) (h : Head) (s : State) → state_of c h ≡ Some s → read_state c h ≡ Ok s
state_read c h s e = ap (λ (o : Option State). found_or (unwrap_or (find (is_unread c) (listed_blocks h.manifest)) 0) o) e

head_checked : (c : Image) (h : Head) (found : List Breach) → check_head c (Some h) ≡ Ok (Some found) → (s : State) × (state_of c h ≡ Some s) × (breaches s ≡ found)
head_checked c h found e =
    elim (option_cases (state_of c h)) [
      | inl none ↦
          let P : Read State → Type 0 = λ r. and_then r (λ s. Ok (Some (breaches s))) ≡ Ok (Some found) in
          let err = subst P (ap (λ (o : Option State). found_or (unwrap_or (find (is_unread c) (listed_blocks h.manifest)) 0) o) none) e in
          absurd (cc)
      | inr some ↦
          let P : Read State → Type 0 = λ r. and_then r (λ s. Ok (Some (breaches s))) ≡ Ok (Some found) in
          let ok : Ok (Some (breaches some.0)) ≡ Ok (Some found) = subst P (state_read c h some.0 some.1) e in
          (some.0, some.1, cc)
    ]

-- a check finds the breaches of the state that a disk reads as
pub checked_state : (c : Image) (found : List Breach) → checked c ≡ Ok (Some found) → (s : State) × (reads_as c ≡ Some s) × (breaches s ≡ found)
checked_state c found e = go (recover c) refl e
  where
    go : (r : Read (Option Head)) → recover c ≡ r → and_then r (check_head c) ≡ Ok (Some found) → (s : State) × (reads_as c ≡ Some s) × (breaches s ≡ found)
    go (Err b) is e = absurd (cc)
    go (Ok None) is e = absurd (cc)
    go (Ok (Some h)) is e =
        let at = head_checked c h found e in
        (at.0, ap (λ (r : Read (Option Head)). option_and_then (state_of c) (opened r)) is ∙ at.1, at.2)

pub state_checked : (c : Image) (s : State) → reads_as c ≡ Some s → checked c ≡ Ok (Some (breaches s))
state_checked c s e = go (recover c) refl e
  where
    go : (r : Read (Option Head)) → recover c ≡ r → option_and_then (state_of c) (opened r) ≡ Some s → checked c ≡ Ok (Some (breaches s))
    go (Err b) is e = absurd (cc)
    go (Ok None) is e = absurd (cc)
    go (Ok (Some h)) is e =
        ap (λ (r : Read (Option Head)). and_then r (check_head c)) is ∙ ap (λ (r : Read State). and_then r (λ s. Ok (Some (breaches s)))) (state_read c h s e)

-- nothing is found wrong just where the state is sound
pub found_sound : (c : Image) → checked c ≡ Ok (Some []) → (s : State) × (reads_as c ≡ Some s) × IsSound s
found_sound c e = let at = checked_state c [] e in (at.0, at.1, sound_from_none at.0 (read_openable c at.0 at.1) at.2)

pub sound_found : (c : Image) (s : State) → reads_as c ≡ Some s → IsSound s → checked c ≡ Ok (Some [])
sound_found c s is sound = state_checked c s is ∙ ap (λ (found : List Breach). Ok (Some found)) (sound_none s sound)

-- a block that is damaged: an opening refuses it, or it is no block of an array
pub found_damaged : (c : Image) (b : ℕ) → checked c ≡ Err b
    → (recover c ≡ Err b) ⊎ ((h : Head) × (recover c ≡ Ok (Some h)) × ((a : ArrayDesc) × Among a (descriptors h.manifest) × Among b (blocks_of a.extents) × (block_on c b ≡ None)))
found_damaged c b e = go (recover c) refl e
  where
    go : (r : Read (Option Head)) → recover c ≡ r → and_then r (check_head c) ≡ Err b
        → (recover c ≡ Err b) ⊎ ((h : Head) × (recover c ≡ Ok (Some h)) × ((a : ArrayDesc) × Among a (descriptors h.manifest) × Among b (blocks_of a.extents) × (block_on c b ≡ None)))
    go (Err d) is e = let same : d ≡ b = cc in inl (is ∙ ap (λ (x : ℕ). Err x) same)
    go (Ok None) is e = absurd (cc)
    go (Ok (Some h)) is e = inr (h, is, blamed c h b (err_read (read_state c h) e))
      where
        err_read : (r : Read State) → and_then r (λ s. Ok (Some (breaches s))) ≡ Err b → r ≡ Err b
        err_read (Err d) e = cc
        err_read (Ok s) e = absurd (cc)

pub among_contained : {X : Type 0} (xs : List X) (x : X) → Among x xs → Contains xs x
among_contained [] x among = absurd among
among_contained (y ∷ ys) x (inl here) = (0, omega arith, sym here)
among_contained (y ∷ ys) x (inr there) = let found = among_contained ys x there in (suc found.0, omega (arith, found.1), found.2)

-- as the laws say it
pub blames : (c : Image) (b : ℕ) → checked c ≡ Err b
    → (recover c ≡ Err b) ⊎ ((h : Head) × (recover c ≡ Ok (Some h)) × ((a : ArrayDesc) × Contains (descriptors h.manifest) a × IsUnread c a b))
blames c b e =
    elim (found_damaged c b e) [
      | inl refused ↦ inl refused
      | inr other ↦
          let at = other.2 in
          inr (other.0, other.1, (at.0, among_contained (descriptors other.0.manifest) at.0 at.1, record { mine = any_from (λ d. eqb d b) b (blocks_of at.0.extents) at.2 (eq-eqb b b refl); unread = at.3 }))
    ]
