-- A sound state answers from its levels, whose arrays are in order.
use Rattle.std.proofs.Common.{◌≡◌, inl, inr, List, [], ◌∷◌, Option, Some, refl, ap, ◌∙◌, subst}
use Rattle.std.specs.List.{list_all}
use Rattle.strat_base.proofs.ListFacts.{Among, all_at, among_flat}
use Rattle.def_publish.proofs.ListLemmas.{contained_among}
use Rattle.strat_base.specs.Entries.{is_ascending}
use Rattle.strat_base.specs.declared.descriptors.LevelDesc.{LevelDesc}
use Rattle.def_crash.specs.Image.{Image}
use Rattle.def_bytes.specs.Arrays.{all_some, blocks_of, entries_on}
use Rattle.def_recovery.proofs.HeadLemmas.{state_with}
use Rattle.def_recovery.proofs.OpeningLemmas.{map_some, each_some}
use Rattle.def_recovery.specs.Head.{Head, descriptors}
use Rattle.def_recovery.specs.Opened.{array_on, level_on}
use Rattle.def_recovery.specs.Opening.{state_of}
use Rattle.def_state.specs.Level.{TaggedArray, Level}
use Rattle.def_state.specs.Sound.{IsSound, has_ascending_entries}
use Rattle.def_state.specs.State.{State}
use Rattle.strat_cursor.specs.Looking.{AreInOrder}

-- what an image makes of an item of a list is in the list that it makes
pub made_of : {A B : Type 0} (h : A → Option B) (xs : List A) (ys : List B) (x : A) → all_some h xs ≡ Some ys → Among x xs → (y : B) × (h x ≡ Some y) × Among y ys
made_of h [] ys x all there = absurd there
made_of h (z ∷ xs) ys x all (inl here) =
    let parts = each_some h z xs ys all in
    (parts.0, ap h here ∙ parts.2, subst (λ (l : List _). Among parts.0 l) parts.4 (inl refl))
made_of h (z ∷ xs) ys x all (inr there) =
    let parts = each_some h z xs ys all in
    let rest = made_of h xs parts.1 x parts.3 there in
    (rest.0, rest.1, subst (λ (l : List _). Among rest.0 l) parts.4 (inr rest.2))

module _ (c : Image) (h : Head) (s : State) where
  pub in_order : state_of c h ≡ Some s → IsSound s → AreInOrder c (descriptors h.manifest)
  in_order is sound =
      let made = map_some (state_with h) (all_some (level_on c) h.manifest.levels) s is in
      let levels : made.0 ≡ s.levels = ap (λ (x : State). x.levels) made.2 in
      record {
        each = λ a of.
            let at = among_flat (λ (l : LevelDesc). l.arrays) h.manifest.levels a (contained_among (descriptors h.manifest) a of) in
            let level = made_of (level_on c) h.manifest.levels made.0 at.0 made.1 at.1 in
            let arrays = map_some (λ xs. record { number = at.0.number; horizon = at.0.horizon; arrays = xs }) (all_some (array_on c) at.0.arrays) level.0 level.1 in
            let array = made_of (array_on c) at.0.arrays arrays.0 a arrays.1 at.2 in
            let entries = map_some (λ entries. record { id = a.id; tag = a.versions; content = entries; entries = a.entries; leads = a.leads; least = a.least }) (entries_on c (blocks_of a.extents)) array.0 array.1 in
            let up = all_at (λ (l : Level). list_all has_ascending_entries l.arrays) level.0 s.levels sound.ascending (subst (λ (l : List Level). Among level.0 l) levels level.2) in
            let own = all_at has_ascending_entries array.0 level.0.arrays up (subst (λ (l : Level). Among array.0 l.arrays) arrays.2 array.2) in
            (entries.0, entries.1, ap (λ (x : TaggedArray). is_ascending x.content) entries.2 ∙ own);
      }
